use Rattle.std.proofs.Common.{◌∙◌, ap, subst, sym, refl, rules, length}
use Rattle.std.proofs.lemmas.Int.{to_z-of_z}
use Rattle.std.specs.Int.{w128}
use Rattle.rmp_decode.specs.Content.{IsRawHead}
use Rattle.rmp_decode.specs.Names.{bytes_of, place_below, IsNameHead}
use Rattle.rmp_decode.proofs.ContentErrors.{no_raw_head}
use Rattle.rmp_decode.proofs.Names.{below_length, name_only, no_name_head, no_negative_head}
use Rattle.rmp_decode.proofs.Payloads.{message_none, message_other, message_alone, syntax_memory, taken_as, whole_alone}
use Rattle.rmp_decode.proofs.deserializer.Deserializer.slow_identifier.Goals as goal

pub returns-in-Some : goal.returns-in-Some
returns-in-Some g c = c.identifier_payload.ensures c.in-Some.field-0-0 c.args.self.now c.in-Ok.field-0-0
    (taken_as g.R.Source _ _ _ _ _ c.in-Some.ensures c.in-Ok.ensures)

pub returns-in-Some-place_below : goal.returns-in-Some-place_below
returns-in-Some-place_below g c =
    let k = c.in-Some-as_whole in
    message_alone g.R.Source _ c.args.self.now c.head.new.self (c.in-Ok.field-0-0, c.in-Ok.head) _ c.in-Ok.ensures
    (whole_alone _ c.in-Ok.head k.z _ k.ensures (below_length c.args.names.now k.z _ (c.in-Some-place_below.ensures
    ∙ ap (place_below (length c.args.names.now)) (to_z-of_z w128 k.z (search rules)))))

pub returns-in-None-place_below : goal.returns-in-None-place_below
returns-in-None-place_below g c =
    let k = c.in-Some-as_whole in
    message_other g.R.Source _ c.args.self.now _ (c.in-Ok.field-0-0, c.in-Ok.head) _ c.in-Ok.ensures
    (λ w. no_negative_head (length c.args.names.now) k.z
    (c.in-None-place_below.ensures ∙ ap (place_below (length c.args.names.now)) (to_z-of_z w128 k.z (search rules))) (subst IsNameHead k.ensures w))
    (subst (λ h. IsRawHead h → ⊥) (sym k.ensures) (λ w. w)) (name_only (bytes_of c.args.names.now)) refl (syntax_memory _)

pub returns-in-None-as_whole : goal.returns-in-None-as_whole
returns-in-None-as_whole g c = message_other g.R.Source _ c.args.self.now _ (c.in-Ok.field-0-0, c.in-Ok.head) _ c.in-Ok.ensures
    (no_name_head c.in-Ok.head c.in-None.ensures c.in-None-as_whole.ensures) (no_raw_head c.in-Ok.head c.in-None.ensures)
    (name_only (bytes_of c.args.names.now)) refl (syntax_memory _)

pub returns-in-Err : goal.returns-in-Err
returns-in-Err g c = message_none g.R.Source _ _ _ _ c.in-Err.ensures
