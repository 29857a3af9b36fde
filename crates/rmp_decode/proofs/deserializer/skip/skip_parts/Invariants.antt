use Rattle.rmp_decode.proofs.SkipLoop.{Wants, to_do}
use Rattle.rmp_decode.proofs.deserializer.skip.skip_parts.Given as goal

-- what was taken so far leads to what is wanted
abbrev pub invariant-parts : goal.invariant-parts
invariant-parts g l = Wants g.R.Source g.P.ReadContent.lends l.count l.fn.de l.de l.room l.wanted l.outer.items

abbrev pub decreases-parts : goal.decreases-parts
decreases-parts g l = to_do l.room l.wanted l.outer.items
