use Rattle.std.proofs.Common.{rules, arith, ◌≡◌, ◌<◌, List, [], ◌∷◌, ◌++◌, ◌∙◌, ap, refl, sym, subst, append-nil}
use Rattle.std.proofs.Output.{has_written_of_eq}
use Rattle.rmp_serde.specs.OpenParts.{bracket_of, texts_left, turns_left, WritesToward}
use Rattle.rmp_serde.specs.Parts.{tree}
use Rattle.rmp_serde.specs.TreeText.{tree_text}
use Rattle.rmp_serde.specs.declared.value.text.Open.{Open}
use Rattle.rmp_serde.proofs.OpenTexts.{none_begun, leaf_turn, leaf_smaller, part_turn, part_smaller, bracket_put, bracket_smaller, none_open}
use Rattle.rmp_serde.proofs.value.text.write_tree.Goals as goal
use Rattle.rmp_serde.proofs.value.text.write_tree.Goals.{then-last, else-last}

pub parts-smaller-in_ok-put_last-in-Some-next : goal.parts-smaller-in_ok-put_last-in-Some-next
parts-smaller-in_ok-put_last-in-Some-next g c =
    let o : Open = record { parts = c.next.new.self; is_map = c.parts.last.is_map; sign = c.next-last.result } in
    let parts = rw c.in-Some-2.is at c.in_ok-inner-in-Some-next.ensures.parts in
    rw (c.in_ok-put_last-in-Some-next.ensures.last, c.replace.ensures.value, c.replace.ensures.after)
    (part_smaller c.parts.around.items c.parts.last o c.in-Some-2.inner (tree c.in-Some-next.part) c.in-Some-next.ensures.steps parts)

pub parts-preserved-in_ok-put_last-in-Some-next : goal.parts-preserved-in_ok-put_last-in-Some-next
parts-preserved-in_ok-put_last-in-Some-next g c = λ plain.
    let o : Open = record { parts = c.next.new.self; is_map = c.parts.last.is_map; sign = c.next-last.result } in
    let before = c.parts.invariant plain in
    let signed = c.in_ok-write-in-Some-next.ensures.writes before.written.plain refl in
    let begins = rw c.in-Some-2.is at (c.in_ok-inner-in-Some-next.ensures.text signed.plain) in
    rw (c.in_ok-put_last-in-Some-next.ensures.last, c.replace.ensures.value, c.replace.ensures.after)
    (part_turn _ _ _ _ _ _ c.parts.around.items c.parts.last o c.in-Some-2.inner (tree c.in-Some-next.part) before c.in-Some-next.ensures.steps refl
    c.next-last.ensures signed begins)

pub parts-smaller-in_default-2 : goal.parts-smaller-in_default-2
parts-smaller-in_default-2 g c = leaf_smaller c.parts.around.items c.parts.last _ (tree c.in-Some-next.part) c.in-Some-next.ensures.steps

pub parts-preserved-in_default-2 : goal.parts-preserved-in_default-2
parts-preserved-in_default-2 g c = λ plain.
    let before = c.parts.invariant plain in
    let signed = c.in_ok-write-in-Some-next.ensures.writes before.written.plain refl in
    let put = none_begun _ _ _ (tree c.in-Some-next.part) c.in_ok-inner-in-Some-next.field-0 c.in_default-2.not-Some
    (c.in_ok-inner-in-Some-next.ensures.text signed.plain) in
    leaf_turn _ _ _ _ _ _ c.parts.around.items c.parts.last _ (tree c.in-Some-next.part) before c.in-Some-next.ensures.steps refl c.next-last.ensures
    signed put

pub parts-smaller : goal.parts-smaller
parts-smaller g c = subst (λ (os : List Open). turns_left os < turns_left (c.parts.around.items ++ c.parts.last ∷ [])) c.in-Some-pop.ensures.items
    (bracket_smaller c.parts.around.items c.parts.last refl)

pub parts-preserved : goal.parts-preserved
parts-preserved g c = λ plain.
    let before = c.parts.invariant plain in
    let bracket : c.if-last.write_str.now ≡ bracket_of c.parts.last.is_map = elim c.if-last.branch [
      | then-last w ↦ search rules
      | else-last w ↦ search rules
    ] in
    let put = has_written_of_eq _ _ _ _ _ bracket (c.in_ok-write_str-in-None.ensures.writes before.written.plain refl) in
    subst (λ (os : List Open). WritesToward g.W.Write.write_str_gives c.args.f.now [] (tree_text (tree c.args.value)) os c.write_str.new.self)
    c.in-Some-pop.ensures.items (bracket_put _ _ _ _ _ c.parts.around.items c.parts.last before refl c.in-None.ensures.steps.0 put)

pub returns-in-None-pop : goal.returns-in-None-pop
returns-in-None-pop g c = record {
  writes = λ plain ok.
      let before = c.parts.invariant plain in
      let bracket : c.if-last.write_str.now ≡ bracket_of c.parts.last.is_map = elim c.if-last.branch [
        | then-last w ↦ search rules
        | else-last w ↦ search rules
      ] in
      let put = has_written_of_eq _ _ _ _ _ bracket (c.in_ok-write_str-in-None.ensures.writes before.written.plain refl) in
      let after = bracket_put _ _ _ _ _ c.parts.around.items c.parts.last before refl c.in-None.ensures.steps.0 put in
      let none = none_open c.parts.around.items (omega (arith, c.in-None-pop.ensures.cases.0)) in
      has_written_of_eq _ _ _ _ _
      (sym (append-nil after.text) ∙ ap (λ os. after.text ++ texts_left os) (sym none) ∙ after.whole ∙ append-nil (tree_text (tree c.args.value)))
      after.written;
}
