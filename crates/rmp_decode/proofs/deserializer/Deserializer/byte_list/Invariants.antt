-- The bytes so far are the numbers so far.
use Rattle.rmp_decode.specs.Read.{IsUnsigned}
use Rattle.rmp_decode.proofs.Seqs.{Values}
use Rattle.rmp_decode.proofs.deserializer.Deserializer.byte_list.Given as goal

abbrev pub invariant-loop-items : goal.invariant-loop-items
invariant-loop-items g l = Values g.R.Source (IsUnsigned 255) l.initial.seq l.seq l.items.items

abbrev pub decreases-loop-items : goal.decreases-loop-items
decreases-loop-items g l = l.seq.left
