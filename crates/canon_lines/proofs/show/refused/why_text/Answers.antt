use Rattle.std.proofs.Common.{rules}
use Rattle.canon_lines.proofs.Refusing.{invalid_text}
use Rattle.canon_lines.proofs.show.refused.why_text.Goals as goal

pub returns-in-Err : goal.returns-in-Err
returns-in-Err c = invalid_text c.args.len c.args.bytes.now (search rules) (c.in-Err.ensures.cases.0)
