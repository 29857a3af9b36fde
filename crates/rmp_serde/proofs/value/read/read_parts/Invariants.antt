use Rattle.rmp_decode.proofs.SkipLoop.{to_do}
use Rattle.rmp_serde.specs.Flat.{heads_of, IsWithin}
use Rattle.rmp_serde.proofs.ReadLoop.{Wants}
use Rattle.rmp_serde.proofs.value.read.read_parts.Given as goal

-- what was consumed so far leads to what remains, and content is in the buffer
abbrev pub invariant-parts : goal.invariant-parts
invariant-parts g l = Wants g.R.Source l.count l.fn.de l.de l.room l.wanted l.outer.items (heads_of l.fn.made) (heads_of l.made) × IsWithin l.made

abbrev pub decreases-parts : goal.decreases-parts
decreases-parts g l = to_do l.room l.wanted l.outer.items
