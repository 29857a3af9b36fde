use Rattle.std.proofs.Common.{◌≡◌, ◌∙◌, ap, sym, subst, inl, inr, ◌⊎◌, false, refl, rules, arith, ◌<◌, length, [], ◌∷◌, ℕ, List, Option, None, Some, codes}
use Rattle.std.specs.String.{string_bytes}
use Rattle.rmp_wire.specs.Msg.{Msg}
use Rattle.rmp_decode.specs.FieldAccess.{IsStructOpen, TakesPlace}
use Rattle.rmp_decode.specs.Fields.{Field, Absent, NoField, at, given_all}
use Rattle.rmp_decode.specs.Names.{bytes_of}
use Rattle.rmp_decode.specs.Read.{IsRaw, IsUnsigned}
use Rattle.rmp_decode.proofs.Seqs.{via}
use Rattle.rmp_decode.proofs.StructRuns.{struct_start, struct_step, struct_place, struct_value, struct_met, struct_missing, struct_over}
use Rattle.rmp_decode.proofs.StructRuns.{struct_done, slot_first, slot_later, slot_field, slot_gap, slot_gap_later, slot_lacks}
use Rattle.rmp_decode.proofs.Structs.{fields_unopened}
use Rattle.test_types.specs.declared.by_hand.Pup.{Pup}
use Rattle.test_types.specs.declared.structs.Weight.{Weight}
use Rattle.test_types.proofs.by_hand.PupDeserialize.deserialize.Invariants.{WeightRead, PupRead}
use Rattle.test_types.proofs.by_hand.PupDeserialize.deserialize.Goals as goal
use Rattle.test_types.proofs.by_hand.PupDeserialize.deserialize.Goals.{
  in-Some,
  in-None+in-Ok-missing_field,
  in-Some-weight,
  in-None-weight+in-Ok-missing_field-2,
}

abbrev names : List (List ℕ)
names = codes "name" ∷ (codes "weight" ∷ [])

abbrev IsWeight : Msg → Weight → Type 0
IsWeight m v = IsUnsigned 4294967295 m v.grams

abbrev IsPup : List (Option Msg) → Pup → Type 0
IsPup fs v = Field (λ k. IsRaw k (string_bytes v.name)) (Absent None v.name)
    (Field (λ k. IsWeight k v.weight) (Absent (Some (record { grams = 7 })) v.weight) NoField) fs

-- the tree of each field is one that its type reads
named : (fs : List (Option Msg)) (v : Pup) (m : Msg) → IsPup fs v → at 0 fs ≡ Some m → IsRaw m (string_bytes v.name)
named [] v m h e = absurd h
named (None ∷ fs) v m h e = absurd (cc)
named (Some k ∷ fs) v m h e = let same : k ≡ m = cc in subst (λ z. IsRaw z (string_bytes v.name)) same h.0

weighed : (fs : List (Option Msg)) (v : Pup) (m : Msg) → IsPup fs v → at 1 fs ≡ Some m → IsWeight m v.weight
weighed [] v m h e = absurd h
weighed (None ∷ []) v m h e = absurd h.1
weighed (Some j ∷ []) v m h e = absurd h.1
weighed (None ∷ (None ∷ fs)) v m h e = absurd (cc)
weighed (None ∷ (Some k ∷ fs)) v m h e = let same : k ≡ m = cc in subst (λ z. IsWeight z v.weight) same h.1.0
weighed (Some j ∷ (None ∷ fs)) v m h e = absurd (cc)
weighed (Some j ∷ (Some k ∷ fs)) v m h e = let same : k ≡ m = cc in subst (λ z. IsWeight z v.weight) same h.1.0

pub returns-in-Err-clause-law : goal.returns-in-Err-clause-law
returns-in-Err-clause-law g c = fields_unopened g.R.Source names IsPup _ _ _ (rw c.in-Err.is at c.deserialize_struct.follows.holds-at-none)

pub loop-fields-init : goal.loop-fields-init
loop-fields-init g c = struct_start g.R.Source names PupRead _ c.in-Ok.fields (None, None) c.in-Ok.ensures.opened (refl, (refl, tt))

pub loop-fields-preserved-in-Ok-next_value : goal.loop-fields-preserved-in-Ok-next_value
loop-fields-preserved-in-Ok-next_value g c =
    let r = c.loop-fields.invariant in
    let k = c.in-Ok-Some-eq0.ensures in
    let p = subst (TakesPlace g.R.Source c.loop-fields.fields c.next_field.new.self) c.in-Ok-Some-eq0.field-0-0-test
    (rw c.in-Ok-Some-eq0.field-0-is at (k.some r.still)) in
    let q = c.in-Ok-next_value.ensures in
    struct_step g.R.Source names PupRead c.in-Ok.fields c.loop-fields.fields c.next_field.new.self c.next_value.new.self _ _ 0
    (λ m v. IsRaw m (string_bytes v)) c.in-Ok-next_value.value r p k.same k.same_reference (q.ok p.still) q.same q.same_reference
    (slot_first (λ m v. IsRaw m (string_bytes v)) WeightRead c.loop-fields.name c.loop-fields.weight c.in-Ok-next_value.value)

pub returns-in-Err-next_value-clause-law : goal.returns-in-Err-next_value-clause-law
returns-in-Err-next_value-clause-law g c =
    let r = c.loop-fields.invariant in
    let k = c.in-Ok-Some-eq0.ensures in
    let p = subst (TakesPlace g.R.Source c.loop-fields.fields c.next_field.new.self) c.in-Ok-Some-eq0.field-0-0-test
    (rw c.in-Ok-Some-eq0.field-0-is at (k.some r.still)) in
    struct_value g.R.Source names PupRead IsPup _ c.in-Ok.fields c.in-Ok.ensures.opened _ _ c.loop-fields.fields r c.next_field.new.self
    c.next_value.new.self 0 (λ m v. IsRaw m (string_bytes v)) _ p k.same k.same_reference (c.in-Err-next_value.ensures.err p.still) (search rules)
    (λ fs v m h e. (v.name, named fs v m h e))

pub loop-fields-preserved : goal.loop-fields-preserved
loop-fields-preserved g c =
    let r = c.loop-fields.invariant in
    let k = c.in-Ok-Some.ensures in
    let t = rw c.in-Ok-Some.field-0-is at (k.some r.still) in
    let below : c.in-Ok-Some.field-0-0 < 2 = subst (λ z. c.in-Ok-Some.field-0-0 < length z) (ap (λ z. bytes_of z.now) r.same.names ∙ r.names_same) t.below in
    let p = subst (TakesPlace g.R.Source c.loop-fields.fields c.next_field.new.self) (omega (arith, c.in-Ok-Some.field-0-0-test.1, below)) t in
    let q = c.in-Ok-next_value-2.ensures in
    struct_step g.R.Source names PupRead c.in-Ok.fields c.loop-fields.fields c.next_field.new.self c.next_value-in-Ok-Some.new.self _ _ 1 IsWeight
    c.in-Ok-next_value-2.value r p k.same k.same_reference (q.ok p.still) q.same q.same_reference
    (λ fs m h e x. slot_later (λ m v. IsRaw m (string_bytes v)) WeightRead 0 c.loop-fields.name c.loop-fields.weight _ fs m h e
    (λ gs i j. slot_first IsWeight (λ hs (u : Unit {0}). NoField hs) c.loop-fields.weight tt c.in-Ok-next_value-2.value gs m i j x))

pub returns-in-Err-next_value-2-clause-law : goal.returns-in-Err-next_value-2-clause-law
returns-in-Err-next_value-2-clause-law g c =
    let r = c.loop-fields.invariant in
    let k = c.in-Ok-Some.ensures in
    let t = rw c.in-Ok-Some.field-0-is at (k.some r.still) in
    let below : c.in-Ok-Some.field-0-0 < 2 = subst (λ z. c.in-Ok-Some.field-0-0 < length z) (ap (λ z. bytes_of z.now) r.same.names ∙ r.names_same) t.below in
    let p = subst (TakesPlace g.R.Source c.loop-fields.fields c.next_field.new.self) (omega (arith, c.in-Ok-Some.field-0-0-test.1, below)) t in
    struct_value g.R.Source names PupRead IsPup _ c.in-Ok.fields c.in-Ok.ensures.opened _ _ c.loop-fields.fields r c.next_field.new.self
    c.next_value-in-Ok-Some.new.self 1 IsWeight _ p k.same k.same_reference (c.in-Err-next_value-2.ensures.err p.still) (search rules)
    (λ fs v m h e. (v.weight, weighed fs v m h e))

pub returns-in-Err-next_field-clause-law : goal.returns-in-Err-next_field-clause-law
returns-in-Err-next_field-clause-law g c =
    let r = c.loop-fields.invariant in
    struct_place g.R.Source names PupRead IsPup _ c.in-Ok.fields c.in-Ok.ensures.opened _ _ c.loop-fields.fields r _ _ c.next_field.new.self _
    (c.in-Err-next_field.ensures.err r.still) (search rules)

pub returns-in-Err-missing_field-clause-law : goal.returns-in-Err-missing_field-clause-law
returns-in-Err-missing_field-clause-law g c =
    let r = c.loop-fields.invariant in
    let k = c.in-Ok-None.ensures in
    let d = struct_met g.R.Source names PupRead c.in-Ok.fields c.loop-fields.fields c.next_field.new.self (c.loop-fields.name, c.loop-fields.weight) r
    (rw c.in-Ok-None.field-0-is at (k.none r.still)) k.same k.same_reference in
    let e = c.in-Err-missing_field.ensures.err d.run.still.sound in
    struct_missing g.R.Source names PupRead IsPup _ c.in-Ok.fields c.in-Ok.ensures.opened _ _ c.next_field.new.self d _
    (via c.missing_field.new.self.de.now (search rules) (ap (λ a. a.de.now) e.2))
    (λ ms h. slot_gap (λ m v. IsRaw m (string_bytes v)) WeightRead c.loop-fields.weight ms
    (subst (λ z. PupRead (given_all ms) (z, c.loop-fields.weight)) c.in-None.is h))
    (λ _ fs v h q. slot_lacks (λ m v. IsRaw m (string_bytes v)) WeightRead None
    (λ gs. Field (λ k. IsWeight k v.weight) (Absent (Some (record { grams = 7 })) v.weight) NoField gs) c.loop-fields.weight v.name fs refl
    (subst (λ z. PupRead fs (z, c.loop-fields.weight)) c.in-None.is h) q)

pub returns-in-Err-missing_field-2-clause-law : goal.returns-in-Err-missing_field-2-clause-law
returns-in-Err-missing_field-2-clause-law g c =
    let r = c.loop-fields.invariant in
    let k = c.in-Ok-None.ensures in
    let d = struct_met g.R.Source names PupRead c.in-Ok.fields c.loop-fields.fields c.next_field.new.self (c.loop-fields.name, c.loop-fields.weight) r
    (rw c.in-Ok-None.field-0-is at (k.none r.still)) k.same k.same_reference in
    let same : c.match-name-5.fields ≡ c.next_field.new.self = elim c.match-name-5.branch [
      | in-Some w ↦ w.fields-is
      | in-None+in-Ok-missing_field w ↦ w.fields-is ∙ w.in-Ok-missing_field.ensures.ok.2
    ] in
    let e = c.in-Err-missing_field-2.ensures.err (ap (λ a. a.sound) same ∙ d.run.still.sound) in
    struct_missing g.R.Source names PupRead IsPup _ c.in-Ok.fields c.in-Ok.ensures.opened _ _ c.next_field.new.self d _
    (via c.missing_field-in-None-weight.new.self.de.now (search rules) (ap (λ a. a.de.now) e.2 ∙ ap (λ a. a.de.now) same))
    (slot_gap_later (λ m v. IsRaw m (string_bytes v)) WeightRead c.loop-fields.name c.loop-fields.weight
    (λ ms h. slot_gap IsWeight (λ hs (u : Unit {0}). NoField hs) tt ms (subst (WeightRead (given_all ms)) c.in-None-weight.is h)))
    (λ m fs v h q. absurd (let z = e.1 (ap (λ a. a.is_map) same ∙ d.run.same.is_map ∙ m) in cc))

pub returns-in-Ok-end-clause-law : goal.returns-in-Ok-end-clause-law
returns-in-Ok-end-clause-law g c =
    let r = c.loop-fields.invariant in
    let k = c.in-Ok-None.ensures in
    let d = struct_met g.R.Source names PupRead c.in-Ok.fields c.loop-fields.fields c.next_field.new.self (c.loop-fields.name, c.loop-fields.weight) r
    (rw c.in-Ok-None.field-0-is at (k.none r.still)) k.same k.same_reference in
    let same : c.match-name-5.fields ≡ c.next_field.new.self = elim c.match-name-5.branch [
      | in-Some w ↦ w.fields-is
      | in-None+in-Ok-missing_field w ↦ w.fields-is ∙ w.in-Ok-missing_field.ensures.ok.2
    ] in
    let last : c.match-weight.fields ≡ c.next_field.new.self = elim c.match-weight.branch [
      | in-Some-weight w ↦ w.fields-is ∙ same
      | in-None-weight+in-Ok-missing_field-2 w ↦ w.fields-is ∙ w.in-Ok-missing_field-2.ensures.ok.2 ∙ same
    ] in
    let name : (c.loop-fields.name ≡ Some c.match-name-5.name)
    ⊎ ((c.loop-fields.name ≡ None) × (None ≡ Some c.match-name-5.name)) = elim c.match-name-5.branch [
      | in-Some w ↦ inl (w.in-Some.is ∙ ap (λ z. Some z) (sym w.name-is))
      | in-None+in-Ok-missing_field w ↦ inr (w.in-None.is, w.in-Ok-missing_field.ensures.ok.1 ∙ ap (λ z. Some z) (sym w.name-is))
    ] in
    let weight : (c.loop-fields.weight ≡ Some c.match-weight.weight)
    ⊎ ((c.loop-fields.weight ≡ None) × (Some (record { grams = 7 }) ≡ Some c.match-weight.weight)) =
    elim c.match-weight.branch [
      | in-Some-weight w ↦ inl (w.in-Some-weight.is ∙ ap (λ z. Some z) (sym w.weight-is))
      | in-None-weight+in-Ok-missing_field-2 w ↦ inr (w.in-None-weight.is, w.in-Ok-missing_field-2.ensures.ok.1 ∙ ap (λ z. Some z) (sym w.weight-is))
    ] in
    let e = c.in-Ok-end.ensures.ok (subst IsStructOpen (sym last) d.run.still) in
    struct_done g.R.Source names PupRead IsPup _ c.in-Ok.fields c.in-Ok.ensures.opened _ _ c.next_field.new.self d
    (record { name = c.match-name-5.name; weight = c.match-weight.weight })
    (λ fs h. slot_field (λ m v. IsRaw m (string_bytes v)) WeightRead None
    (λ gs. Field (λ k. IsWeight k c.match-weight.weight) (Absent (Some (record { grams = 7 })) c.match-weight.weight) NoField gs)
    c.loop-fields.name c.loop-fields.weight c.match-name-5.name fs h name
    (λ gs i. slot_field IsWeight (λ hs (u : Unit {0}). NoField hs) (Some (record { grams = 7 })) NoField c.loop-fields.weight tt c.match-weight.weight gs i
    weight (λ hs j. j)))
    (ap (λ a. a.left) (sym last) ∙ e.0) (via c.end.new.self.0 (search rules) (e.1 ∙ ap (λ a. record a.de.now { failed = false }) last))

pub returns-in-Err-end-clause-law : goal.returns-in-Err-end-clause-law
returns-in-Err-end-clause-law g c =
    let r = c.loop-fields.invariant in
    let k = c.in-Ok-None.ensures in
    let d = struct_met g.R.Source names PupRead c.in-Ok.fields c.loop-fields.fields c.next_field.new.self (c.loop-fields.name, c.loop-fields.weight) r
    (rw c.in-Ok-None.field-0-is at (k.none r.still)) k.same k.same_reference in
    let same : c.match-name-5.fields ≡ c.next_field.new.self = elim c.match-name-5.branch [
      | in-Some w ↦ w.fields-is
      | in-None+in-Ok-missing_field w ↦ w.fields-is ∙ w.in-Ok-missing_field.ensures.ok.2
    ] in
    let last : c.match-weight.fields ≡ c.next_field.new.self = elim c.match-weight.branch [
      | in-Some-weight w ↦ w.fields-is ∙ same
      | in-None-weight+in-Ok-missing_field-2 w ↦ w.fields-is ∙ w.in-Ok-missing_field-2.ensures.ok.2 ∙ same
    ] in
    let e = c.in-Err-end.ensures.err (subst IsStructOpen (sym last) d.run.still) in
    struct_over g.R.Source names PupRead IsPup _ c.in-Ok.fields c.in-Ok.ensures.opened _ _ c.next_field.new.self d _ (subst (λ a. 0 < a.left) last e.0)
    (via c.end.new.self.0 (search rules) (e.1 ∙ ap (λ a. a.de.now) last))
