-- What was written and what is to come of the open lists and maps is the whole text.
use Rattle.std.proofs.Common.{[], ◌∷◌, ◌++◌}
use Rattle.std.specs.Fmt.{IsPlainFormatter}
use Rattle.rmp_serde.specs.OpenParts.{turns_left, WritesToward}
use Rattle.rmp_serde.specs.Parts.{tree}
use Rattle.rmp_serde.specs.TreeText.{tree_text}
use Rattle.rmp_serde.proofs.value.text.write_tree.Given as goal

abbrev pub invariant-parts : goal.invariant-parts
invariant-parts g l = IsPlainFormatter l.fn.f
    → WritesToward g.W.Write.write_str_gives l.fn.f [] (tree_text (tree l.value)) (l.around.items ++ l.last ∷ []) l.f

abbrev pub decreases-parts : goal.decreases-parts
decreases-parts g l = turns_left (l.around.items ++ l.last ∷ [])
