use Rattle.canon_lines.proofs.show.refused.why_after.Goals as goal

pub returns-in-Ext : goal.returns-in-Ext
returns-in-Ext c = c.why_content-in-Ext.ensures c.args.head (c.in-Ext.field-1, c.in-Ext.is)
