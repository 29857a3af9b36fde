-- What was written and what is to come of the open lists and maps is the whole text.
use Rattle.std.proofs.Common.{[], ◌∷◌, ◌++◌}
use Rattle.std.specs.Fmt.{IsPlainFormatter}
use Rattle.rmp_serde.specs.OpenParts.{turns_left}
use Rattle.rmp_serde.specs.OpenReadable.{WritesUpTo}
use Rattle.rmp_serde.specs.Parts.{tree}
use Rattle.rmp_serde.specs.Readable.{readable}
use Rattle.rmp_serde.proofs.value.text.readable.write_readable.Given as goal

abbrev pub invariant-parts : goal.invariant-parts
invariant-parts g l = IsPlainFormatter l.fn.f
    → WritesUpTo g.W.Write.write_str_gives l.layout l.fn.f (readable l.layout 0 (tree l.value)) (l.around.items ++ l.last ∷ []) l.f

abbrev pub decreases-parts : goal.decreases-parts
decreases-parts g l = turns_left (l.around.items ++ l.last ∷ [])
