use Rattle.canon_lines.proofs.Refusing.{part_of}
use Rattle.canon_lines.proofs.show.refused.refused_part.Goals as goal

pub returns-clause-part : goal.returns-clause-part
returns-clause-part c = part_of c.args.error.now c.args.bytes.now c.in_ok-path.path c.why_at-why.result c.in_ok-at.at c.place.result c.in_ok-path.ensures
    c.in_ok-at.ensures.within c.in_ok-at.ensures.end c.place.ensures c.why_at-why.ensures
