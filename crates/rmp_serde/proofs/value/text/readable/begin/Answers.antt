use Rattle.std.proofs.Common.{rules, ◌≡◌, ◌++◌, ℕ, refl, sym}
use Rattle.std.proofs.Output.{has_written_of_eq}
use Rattle.rmp_serde.specs.OpenReadable.{readable_head, left_of}
use Rattle.rmp_serde.specs.Parts.{tree, parts_in_turn}
use Rattle.rmp_serde.specs.Readable.{readable}
use Rattle.rmp_serde.specs.declared.value.text.Sign.TheVariants.{Nothing}
use Rattle.rmp_serde.specs.declared.value.text.readable.Layout.{Layout}
use Rattle.rmp_serde.proofs.OpenReadables.{list_readable, map_readable, leaf_readable}
use Rattle.rmp_serde.proofs.value.text.readable.begin.Goals as goal
use Rattle.rmp_serde.proofs.value.text.readable.begin.Goals.{in-List, in-Map}

pub returns-in_default-clause-text : goal.returns-in_default-clause-text
returns-in_default-clause-text g c = λ plain.
    rw c.if-key.false
    (λ l d. has_written_of_eq _ _ _ _ _ (sym (leaf_readable (tree c.args.value) (search rules) (search rules) l d))
    (c.in_ok-write_readable_head.ensures.writes plain refl))

pub returns-clause-text : goal.returns-clause-text
returns-clause-text g c = λ plain.
    let m = tree c.args.value in
    let is_map = c.match-kind.is_map in
    let whole : (l : Layout) (d : ℕ) → readable l d m ≡ readable_head m ++ left_of l d is_map Nothing (parts_in_turn m) = elim c.match-kind.branch [
      | in-List w ↦ rw w.is_map-is (list_readable m (search rules))
      | in-Map w ↦ rw w.is_map-is (map_readable m (search rules))
    ] in
    rw c.if-key.false (record {
      text = readable_head m;
      written = c.in_ok-write_readable_head.ensures.writes plain refl;
      whole = rw c.parts.ensures.parts whole;
    })
