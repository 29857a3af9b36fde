use Rattle.std.proofs.Common.{arith, ◌≡◌, ◌∙◌, sym, rules, false, length, ◌≤◌}
use Rattle.std.specs.Prelude.{◌^◌}
use Rattle.rmp_decode.proofs.FieldReads.{list_refused, list_done, list_over, struct_unopened, struct_list, struct_start, struct_step, struct_pass}
use Rattle.rmp_decode.proofs.FieldReads.{struct_done}
use Rattle.rmp_decode.proofs.FieldReads.{named, unnamed, struct_missing, struct_key, struct_value, struct_passed}
use Rattle.rmp_decode.proofs.Seqs.{via}
use Rattle.rmp_decode.proofs.deserializer.Deserializer.opened_fields.Goals as goal

pub returns-in-Err : goal.returns-in-Err
returns-in-Err g c = struct_unopened g.F.Fields _ _ c.args.names.now c.requires.count (rw c.in-Err.is at c.open_fields.follows.holds-at-none)

pub returns-in-Err-listed : goal.returns-in-Err-listed
returns-in-Err-listed g c =
    let same = sym (rw c.in-Ok-Seq.field-0-is at c.in-Ok-Seq.ensures.same_reference) ∙ sym c.listed.ensures.same_reference in
    let o = rw c.in-Ok-Seq.field-0-is at c.in-Ok-Seq.ensures.opened in
    let e = c.in-Err-listed.ensures in
    struct_list g.F.Fields _ _ c.args.names.now c.requires.count o _ (list_refused o e.err e.refused e.memory (search rules))

pub returns-in-Ok-end : goal.returns-in-Ok-end
returns-in-Ok-end g c =
    let same = sym (rw c.in-Ok-Seq.field-0-is at c.in-Ok-Seq.ensures.same_reference) ∙ sym c.listed.ensures.same_reference in
    let o = rw c.in-Ok-Seq.field-0-is at c.in-Ok-Seq.ensures.opened in
    let t = c.in-Ok.ensures.ok in
    let e = c.in-Ok-end.ensures.ok t.run.still in
    struct_list g.F.Fields _ _ c.args.names.now c.requires.count o _ (list_done o t e.0 (via c.end.new.self.0 (search rules) e.1))

pub returns-in-Err-end : goal.returns-in-Err-end
returns-in-Err-end g c =
    let same = sym (rw c.in-Ok-Seq.field-0-is at c.in-Ok-Seq.ensures.same_reference) ∙ sym c.listed.ensures.same_reference in
    let o = rw c.in-Ok-Seq.field-0-is at c.in-Ok-Seq.ensures.opened in
    let t = c.in-Ok.ensures.ok in
    let e = c.in-Err-end.ensures.err t.run.still in
    struct_list g.F.Fields _ _ c.args.names.now c.requires.count o _ (list_over o t e.0 e.2 (via c.end.new.self.0 (search rules) e.1))

pub loop-map-init : goal.loop-map-init
loop-map-init g c = struct_start g.F.Fields g.C.SerializerConfig.human g.R.ReadSlice.lends c.args.names.now c.requires.count
    (rw c.in-Ok-Map.field-0-is at c.in-Ok-Map.ensures.opened)
    c.empty-slots.ensures

pub returns-in-None : goal.returns-in-None
returns-in-None g c =
    let r = c.loop-map.invariant in
    let same = sym (rw c.in-Ok-Map.field-0-is at c.in-Ok-Map.ensures.same_reference) ∙ sym r.run.same_reference ∙ sym c.next_place.ensures.same_reference in
    struct_key g.F.Fields _ _ c.args.names.now c.requires.count (rw c.in-Ok-Map.field-0-is at c.in-Ok-Map.ensures.opened) r c.next_place.new.self
    (omega (arith, c.loop-map-test.true)) (rw c.refusal_in.ensures at c.in-None.ensures.none) (search rules)

pub loop-map-preserved : goal.loop-map-preserved
loop-map-preserved g c = struct_step g.F.Fields g.C.SerializerConfig.human g.R.ReadSlice.lends c.args.names.now c.requires.count
    (rw c.in-Ok-Map.field-0-is at c.in-Ok-Map.ensures.opened) c.loop-map.invariant
    (named c.args.names.now (omega (arith, c.if-place-names.false)) c.in-Some.ensures.ok) c.next_place.ensures.same_reference
    (c.fill.ensures.ok (search rules)) c.fill.ensures.same_reference

pub returns-then-not-fill : goal.returns-then-not-fill
returns-then-not-fill g c =
    let no : c.fill.result ≡ false = search rules in
    let r = c.loop-map.invariant in
    let same = sym (rw c.in-Ok-Map.field-0-is at c.in-Ok-Map.ensures.same_reference) ∙ sym r.run.same_reference
    ∙ sym c.next_place.ensures.same_reference ∙ sym c.fill.ensures.same_reference in
    let why = c.refusal_in-then-not-fill.ensures in
    struct_value g.F.Fields _ _ c.args.names.now c.requires.count (rw c.in-Ok-Map.field-0-is at c.in-Ok-Map.ensures.opened) r
    (named c.args.names.now (omega (arith, c.if-place-names.false)) c.in-Some.ensures.ok) c.next_place.ensures.same_reference c.fill.new.map
    (rw why at c.fill.ensures.err no)
    (rw why at c.fill.ensures.refused no) (λ t. rw why at c.fill.ensures.memory t no) (search rules)

pub returns-in-Err-next_value : goal.returns-in-Err-next_value
returns-in-Err-next_value g c =
    let r = c.loop-map.invariant in
    let same = sym (rw c.in-Ok-Map.field-0-is at c.in-Ok-Map.ensures.same_reference) ∙ sym r.run.same_reference
    ∙ sym c.next_place.ensures.same_reference ∙ sym c.next_value.ensures.same_reference in
    let sound = c.in-Some.ensures.ok.still.sound in
    struct_passed g.F.Fields _ _ c.args.names.now c.requires.count (rw c.in-Ok-Map.field-0-is at c.in-Ok-Map.ensures.opened) r
    (unnamed c.args.names.now c.if-place-names.true c.in-Some.ensures.ok) c.next_place.ensures.same_reference c.next_value.new.self (λ m. (_, tt))
    (c.in-Err-next_value.ensures.err sound)
    (c.in-Err-next_value.ensures.refused sound) (search rules)

pub loop-map-preserved-in-Ok-next_value : goal.loop-map-preserved-in-Ok-next_value
loop-map-preserved-in-Ok-next_value g c = struct_pass g.F.Fields g.C.SerializerConfig.human g.R.ReadSlice.lends c.args.names.now
    c.requires.count (rw c.in-Ok-Map.field-0-is at c.in-Ok-Map.ensures.opened) c.loop-map.invariant
    (unnamed c.args.names.now c.if-place-names.true c.in-Some.ensures.ok) c.next_place.ensures.same_reference c.in-Ok-next_value.ensures.ok
    c.next_value.ensures.same_reference

pub returns-in-None-finish : goal.returns-in-None-finish
returns-in-None-finish g c =
    let r = c.loop-map.invariant in
    let same = sym (rw c.in-Ok-Map.field-0-is at c.in-Ok-Map.ensures.same_reference) ∙ sym r.run.same_reference in
    let short : length c.args.names.now ≤ 2 ^ 64 = omega arith in
    let few : g.F.Fields.count ≤ 2 ^ 64 = omega (arith, short, c.requires.count) in
    let e = c.in-None-finish.ensures in
    struct_missing g.F.Fields _ _ c.args.names.now c.requires.count (rw c.in-Ok-Map.field-0-is at c.in-Ok-Map.ensures.opened) r c.finish.new.missing _
    (omega (arith, c.loop-map-test.false)) (e.all _ _ r.met_trees r.held) (e.first few _ _ r.met_trees r.held) (e.within few) c.missing_field.ensures
    (search rules)

pub returns-in-Ok-end-2 : goal.returns-in-Ok-end-2
returns-in-Ok-end-2 g c =
    let r = c.loop-map.invariant in
    let same = sym (rw c.in-Ok-Map.field-0-is at c.in-Ok-Map.ensures.same_reference) ∙ sym r.run.same_reference in
    let e = c.in-Ok-end-2.ensures.ok r.run.still in
    struct_done g.F.Fields _ _ c.args.names.now c.requires.count (rw c.in-Ok-Map.field-0-is at c.in-Ok-Map.ensures.opened) r
    (c.in-Some-finish.ensures.all g.C.SerializerConfig.human g.R.ReadSlice.lends r.met_trees r.held) (omega (arith, c.loop-map-test.false))
    (via c.end-in-Ok-Map.new.self.0 (search rules) e.1)

pub returns-in-Err-end-2 : goal.returns-in-Err-end-2
returns-in-Err-end-2 g c =
    let z : c.loop-map.map.left ≡ 0 = omega (arith, c.loop-map-test.false) in
    let h = c.in-Err-end-2.ensures.err c.loop-map.invariant.run.still in
    absurd (omega (arith, h.0, z))
