use Rattle.std.proofs.Common.{rules, ◌≡◌, ◌++◌, refl, sym}
use Rattle.std.proofs.Output.{has_written_of_eq}
use Rattle.rmp_wire.specs.Spelling.{head_of}
use Rattle.rmp_serde.specs.OpenParts.{head_text, text_left}
use Rattle.rmp_serde.specs.Parts.{tree, content_of, parts_in_turn}
use Rattle.rmp_serde.specs.TreeText.{tree_text}
use Rattle.rmp_serde.specs.declared.value.text.Sign.TheVariants.{Nothing}
use Rattle.rmp_serde.proofs.OpenTexts.{list_text, map_text, leaf_text}
use Rattle.rmp_serde.proofs.value.text.begin.Goals as goal
use Rattle.rmp_serde.proofs.value.text.begin.Goals.{in-List, in-Map}

pub returns-in_default-clause-text : goal.returns-in_default-clause-text
returns-in_default-clause-text g c = λ plain.
    has_written_of_eq _ _ _ _ _ (sym (leaf_text (tree c.args.value) (search rules) (search rules))) (c.in_ok-write_head.ensures.writes plain refl)

pub returns-clause-text : goal.returns-clause-text
returns-clause-text g c = λ plain.
    let m = tree c.args.value in
    let is_map = c.match-kind.is_map in
    let whole : tree_text m ≡ head_text (head_of m) (content_of m) ++ text_left is_map Nothing (parts_in_turn m) = elim c.match-kind.branch [
      | in-List w ↦ rw w.is_map-is (list_text m (search rules))
      | in-Map w ↦ rw w.is_map-is (map_text m (search rules))
    ] in
    record {
      text = head_text (head_of m) (content_of m);
      written = c.in_ok-write_head.ensures.writes plain refl;
      whole = rw c.parts.ensures.parts whole;
    }
