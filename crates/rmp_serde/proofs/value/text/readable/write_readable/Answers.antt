use Rattle.std.proofs.Common.{rules, arith, ◌≡◌, ◌<◌, suc, List, [], ◌∷◌, ◌++◌, ◌∙◌, ap, refl, sym, subst, append-nil, length, add-one}
use Rattle.std.specs.Prelude.{false}
use Rattle.std.proofs.Output.{has_written_of_eq}
use Rattle.rmp_serde.specs.OpenParts.{turns_left}
use Rattle.rmp_serde.specs.OpenReadable.{all_left, WritesUpTo}
use Rattle.rmp_serde.specs.Parts.{tree}
use Rattle.rmp_serde.specs.Readable.{readable}
use Rattle.rmp_serde.specs.declared.value.text.Open.{Open}
use Rattle.rmp_serde.proofs.OpenTexts.{leaf_smaller, part_smaller, bracket_smaller, none_open}
use Rattle.rmp_serde.proofs.OpenReadables.{first_shown, none_inside, leaf_shown, part_shown, end_shown}
use Rattle.rmp_serde.proofs.value.text.readable.write_readable.Goals as goal

pub returns-in_default : goal.returns-in_default
returns-in_default g c = record {
  writes = λ plain ok. none_inside _ _ _ false (tree c.args.value) c.in_ok-first.field-0 c.in_default.not-Some (c.in_ok-first.ensures.text plain) c.args.layout 0;
}

pub parts-init : goal.parts-init
parts-init g c = λ plain. first_shown _ _ _ _ (tree c.args.value) c.in-Some.first (rw c.in-Some.is at (c.in_ok-first.ensures.text plain)) (search rules)

pub parts-smaller-in-Continue-branch-6 : goal.parts-smaller-in-Continue-branch-6
parts-smaller-in-Continue-branch-6 g c =
    let o : Open = record { parts = c.next.new.self; is_map = c.parts.last.is_map; sign = c.next-last.result } in
    let parts = rw c.in-Some-2.is at c.in_ok-inner-in-Some-next.ensures.parts in
    rw (c.in_ok-put_last-in-Some-next.ensures.last, c.replace.ensures.value, c.replace.ensures.after)
    (part_smaller c.parts.around.items c.parts.last o c.in-Some-2.inner (tree c.in-Some-next.part) c.in-Some-next.ensures.steps parts)

pub parts-preserved-in-Continue-branch-6 : goal.parts-preserved-in-Continue-branch-6
parts-preserved-in-Continue-branch-6 g c = λ plain.
    let o : Open = record { parts = c.next.new.self; is_map = c.parts.last.is_map; sign = c.next-last.result } in
    let before = c.parts.invariant plain in
    let deep : c.len.result ≡ length c.parts.around.items = omega (arith, c.len.ensures, c.parts.around.ok.0) in
    let signed = c.in_ok-write_sign-in-Some-next.ensures.writes before.written.plain refl in
    let begins = rw c.in-Some-2.is at (c.in_ok-inner-in-Some-next.ensures.text signed.plain) in
    rw (c.in_ok-put_last-in-Some-next.ensures.last, c.replace.ensures.value, c.replace.ensures.after)
    (part_shown _ _ _ _ _ _ _ c.parts.around.items c.parts.last o c.in-Some-2.inner (tree c.in-Some-next.part) before c.in-Some-next.ensures.steps refl
    c.next-last.ensures (rw deep at (rw add-one at signed)) (rw c.is_key-key.ensures at begins))

pub parts-smaller-in_default-2 : goal.parts-smaller-in_default-2
parts-smaller-in_default-2 g c = leaf_smaller c.parts.around.items c.parts.last _ (tree c.in-Some-next.part) c.in-Some-next.ensures.steps

pub parts-preserved-in_default-2 : goal.parts-preserved-in_default-2
parts-preserved-in_default-2 g c = λ plain.
    let before = c.parts.invariant plain in
    let deep : c.len.result ≡ length c.parts.around.items = omega (arith, c.len.ensures, c.parts.around.ok.0) in
    let signed = c.in_ok-write_sign-in-Some-next.ensures.writes before.written.plain refl in
    let put = none_inside _ _ _ _ (tree c.in-Some-next.part) c.in_ok-inner-in-Some-next.field-0 c.in_default-2.not-Some
    (c.in_ok-inner-in-Some-next.ensures.text signed.plain) c.args.layout (suc (length c.parts.around.items)) in
    leaf_shown _ _ _ _ _ _ _ c.parts.around.items c.parts.last _ (tree c.in-Some-next.part) before c.in-Some-next.ensures.steps refl c.next-last.ensures
    (rw deep at (rw add-one at signed)) (rw c.is_key-key.ensures at put)

pub parts-smaller : goal.parts-smaller
parts-smaller g c = subst (λ (os : List Open). turns_left os < turns_left (c.parts.around.items ++ c.parts.last ∷ [])) c.in-Some-pop.ensures.items
    (bracket_smaller c.parts.around.items c.parts.last refl)

pub parts-preserved : goal.parts-preserved
parts-preserved g c = λ plain.
    let before = c.parts.invariant plain in
    let deep : c.len-in-None.result ≡ length c.parts.around.items = omega (arith, c.len-in-None.ensures, c.parts.around.ok.0) in
    let put = c.in_ok-write_end-in-None.ensures.writes before.written.plain refl in
    subst (λ (os : List Open). WritesUpTo g.W.Write.write_str_gives c.args.layout c.args.f.now (readable c.args.layout 0 (tree c.args.value)) os
    c.write_end.new.f)
    c.in-Some-pop.ensures.items (end_shown _ _ _ _ _ _ c.parts.around.items c.parts.last before c.in-None.ensures.steps.0 (rw deep at put))

pub returns-in-None-pop : goal.returns-in-None-pop
returns-in-None-pop g c = record {
  writes = λ plain ok.
      let before = c.parts.invariant plain in
      let deep : c.len-in-None.result ≡ length c.parts.around.items = omega (arith, c.len-in-None.ensures, c.parts.around.ok.0) in
      let put = c.in_ok-write_end-in-None.ensures.writes before.written.plain refl in
      let after = end_shown _ _ _ _ _ _ c.parts.around.items c.parts.last before c.in-None.ensures.steps.0 (rw deep at put) in
      let none = none_open c.parts.around.items (omega (arith, c.in-None-pop.ensures.cases.0)) in
      has_written_of_eq _ _ _ _ _
      (sym (append-nil after.text) ∙ ap (λ os. after.text ++ all_left c.args.layout 0 os) (sym none) ∙ after.whole) after.written;
}
