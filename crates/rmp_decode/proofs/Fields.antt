-- What the read of fields says, from what the reads of its parts say.
use Rattle.std.proofs.Common.{◌≡◌, ◌≢◌, ◌∙◌, sym, ap, subst, refl, inl, inr, ◌⊎◌, ℕ, suc, length}
use Rattle.std.proofs.Common.{Bool, arith, List, [], ◌∷◌, ◌++◌, true, false, Option, None, Some, is_some, max, Ok, Err}
use Rattle.std.proofs.KnownBytes.{Consumes-trans}
use Rattle.std.specs.Option.{option_and_then}
use Rattle.std.specs.Prelude.{IfSome}
use Rattle.rmp_wire.specs.declared.source.Source.{Ghosts}
use Rattle.rmp_wire.specs.Kinds.{parts_head}
use Rattle.rmp_wire.specs.Msg.{Msg, bin, list, map, no_items, item, count, count_pairs}
use Rattle.rmp_wire.specs.Canonical.{SpellsAs}
use Rattle.rmp_wire.specs.Spelling.{head_of}
use Rattle.rmp_wire.specs.declared.head.Head.{Head}
use Rattle.rmp_wire.specs.declared.head.Head.TheVariants as head
use Rattle.rmp_wire.specs.declared.marker.Marker.{Marker}
use Rattle.rmp_decode.proofs.NothingAccepted.{refuses_narrower}
use Rattle.rmp_decode.specs.declared.deserializer.Deserializer.{Deserializer}
use Rattle.rmp_decode.specs.FieldRefusing.{FillRefused}
use Rattle.rmp_decode.specs.Fields.{HasFields, not_fields, fields_head, TakesFieldsHead, Field, Absent, NoField, Slot, given_all, put, Fills, IsFull}
use Rattle.rmp_decode.specs.Fields.{FieldTakes}
use Rattle.rmp_decode.specs.Law.{Readable, ReadsHead}
use Rattle.rmp_decode.specs.MapRefusing.{EntryRefused}
use Rattle.rmp_decode.specs.Maps.{TakesValue, map_inner}
use Rattle.rmp_decode.specs.Opening.{IsLevel}
use Rattle.rmp_decode.specs.Parts.{FailsPart}
use Rattle.rmp_decode.specs.Refusing.{Part, element_setting, RefusesParts, PartsRefused, no_refusal}
use Rattle.rmp_decode.specs.Seq.{SpellsIn, SpellsRow, RefusesRow, inner_of, IsOpen, TakesElement, TakesParts, FailsParts}
use Rattle.rmp_decode.specs.State.{left, faults_of, room_of}
use Rattle.rmp_decode.specs.declared.access.map.MapAccess.{MapAccess}
use Rattle.rmp_decode.specs.declared.access.seq.SeqAccess.{SeqAccess}
use Rattle.rmp_decode.specs.declared.deserializer.heads.Levels.TheVariants.{Parts}
use Rattle.rmp_decode.specs.declared.error.Error.{Error}
use Rattle.rmp_decode.specs.declared.error.Error.TheVariants.{DepthLimitExceeded, Syntax}
use Rattle.rmp_decode.specs.declared.text.Text.TheVariants.{InvalidType}
use Rattle.rmp_decode.proofs.Opening.{opening_other}
use Rattle.rmp_decode.proofs.Laws.{stays_then}
use Rattle.rmp_decode.proofs.Seqs.{run_start, run_step, parts_refused}
use Rattle.rmp_decode.proofs.Settings.{setting_same}
use Rattle.rmp_decode.proofs.Tuples.{row_narrower}

pub if_some : {A : Type 0} {P Q : A → Type 0} (o : Option A) → ((x : A) → P x → Q x) → IfSome o P → IfSome o Q
if_some None f p = tt
if_some (Some x) f p = f x p

pub or_left : {A B C : Type 0} → (A → B) → A ⊎ C → B ⊎ C
or_left f (inl a) = inl (f a)
or_left f (inr c) = inr c

pub or_right : {A B C : Type 0} → (B → C) → A ⊎ B → A ⊎ C
or_right f (inl a) = inl a
or_right f (inr b) = inr (f b)

-- ---- fields of a list

pub no_field_listed : {R C : Type 0} (g : Ghosts R) (s : SeqAccess R C) → IsOpen s → TakesParts g (λ (v : Unit {0}) ms. NoField (given_all ms)) s s tt
no_field_listed g s o = record { trees = no_items; run = run_start g s o; value = tt }

-- the first one was read
module _ {R C V : Type 0} {g : Ghosts R} {reads : Msg → V → Type 0} {old mid : SeqAccess R C} {v : V} (took : TakesElement g reads old mid v) where
  module _ {W : Type 0} {new : SeqAccess R C} (absent : Option V) (rest : List (Option Msg) → W → Type 0) (o : IsOpen old)
      (n : mid.de.ghost_name ≡ old.de.ghost_name) where
    -- and the others
    pub others_read : {w : W} → TakesParts g (λ w ms. rest (given_all ms) w) mid new w
        → TakesParts g (λ (p : V × W) ms. Field (λ k. reads k p.0) (Absent absent p.0) (λ gs. rest gs p.1) (given_all ms)) old new (v, w)
    others_read t =
        let room : mid.inner ≡ old.inner = took.inner in
        record {
          trees = item took.tree t.trees;
          run = record {
            bytes = took.bytes ++ t.run.bytes;
            takes = Consumes-trans _ _ _ took.bytes t.run.bytes took.takes t.run.takes;
            spelled = record {
              first = took.bytes;
              second = t.run.bytes;
              is_first = took.spelled;
              is_second = subst (λ z. SpellsRow (SpellsIn old.de.now.strict z) t.run.bytes t.trees) took.bytes_same
                  (subst (λ z. SpellsRow (SpellsIn z mid.bytes) t.run.bytes t.trees) took.stays.strict t.run.spelled);
              is_whole = refl;
            };
            fits = omega (arith, took.fits, t.run.fits, room);
            many = omega (arith, t.run.many, took.fewer);
            same_reference = t.run.same_reference ∙ n;
            count_same = t.run.count_same ∙ took.count;
            inner = t.run.inner ∙ took.inner;
            bytes_same = t.run.bytes_same ∙ took.bytes_same;
            stays = stays_then g old.de.now mid.de.now new.de.now took.stays t.run.stays;
            faults_same = t.run.faults_same ∙ took.faults_same;
            still = t.run.still;
          };
          value = (took.value, t.value);
        }

    -- another was refused
    pub others_refused : {e : Error} → FailsParts g (λ w ms. rest (given_all ms) w) mid new e
        → FailsParts g (λ (p : V × W) ms. Field (λ k. reads k p.0) (Absent absent p.0) (λ gs. rest gs p.1) (given_all ms)) old new e
    others_refused {e} f =
        let run = run_step g reads old old mid no_items v (run_start g old o) took n in
        parts_refused g (λ (p : V × W) ms. Field (λ k. reads k p.0) (Absent absent p.0) (λ gs. rest gs p.1) (given_all ms)) old mid
        (item took.tree no_items) run
        new e f.stays f.failed (λ x k.
        let r1 = subst (λ z. RefusesRow (SpellsIn z mid.bytes) (λ ms. (w : W) × rest (given_all ms) w) (inner_of mid) mid.left (left g mid.de.now))
        took.stays.strict (f.err x k) in
        let r2 = subst (λ z. RefusesRow (SpellsIn old.de.now.strict z) (λ ms. (w : W) × rest (given_all ms) w) (inner_of mid) mid.left (left g mid.de.now))
        took.bytes_same r1 in
        let r3 = subst (λ z. RefusesRow (SpellsIn old.de.now.strict old.bytes) (λ ms. (w : W) × rest (given_all ms) w) (max 1 z) mid.left
        (left g mid.de.now))
        took.inner r2 in
        row_narrower (SpellsIn old.de.now.strict old.bytes) _ _ (inner_of old) mid.left (left g mid.de.now) (λ ms h. (h.0.1, h.1.1)) r3)

  -- which error that is
  pub others_wrong : (human lends : Bool) (p : Part) (ps : List Part) (new : SeqAccess R C) (e : Error)
      → p.holds (element_setting human lends old) took.tree
      → PartsRefused g human lends ps mid new e → PartsRefused g human lends (p ∷ ps) old new e
  others_wrong human lends p ps new e h w =
      let z = faults_of g new.de.now in
      let s = setting_same human lends mid.de.now old.de.now (inner_of mid) (inner_of old) took.stays.strict (ap (max 1) took.inner) in
      let w1 = subst (λ y. RefusesParts y (element_setting human lends mid) (faults_of g mid.de.now) z ps no_refusal mid.left (left g mid.de.now) e)
      took.bytes_same w in
      let w2 = subst (λ y. RefusesParts old.bytes y (faults_of g mid.de.now) z ps no_refusal mid.left (left g mid.de.now) e) s w1 in
      inr (record {
        bytes = took.bytes;
        rest = left g mid.de.now;
        tree = took.tree;
        still = mid.left;
        takes = took.takes;
        spelled = took.spelled;
        many = took.fewer;
        fits = took.fits;
        holds = h;
        refused = subst (λ y. RefusesParts old.bytes (element_setting human lends old) y z ps no_refusal mid.left (left g mid.de.now) e) took.faults_same
            w2;
      })

-- ---- a field of a map

slot_filled : {V S : Type 0} (reads : Msg → V → Type 0) (holds : List (Option Msg) → S → Type 0) (o : Option V) (s : S) (v : V) (m : Msg)
    → is_some o ≡ false
    → reads m v → (fs : List (Option Msg)) → Slot reads holds fs o s → (gs : List (Option Msg)) × (put 0 m fs ≡ Some gs) × Slot reads holds gs (Some v) s
slot_filled reads holds o s v m n r [] h = absurd h
slot_filled reads holds o s v m n r (None ∷ fs) h = (Some m ∷ fs, refl, ((v, refl, r), h.1))
slot_filled reads holds o s v m n r (Some k ∷ fs) h = absurd (let p = ap is_some h.0.1 in cc)

later_filled : {V S : Type 0} (reads : Msg → V → Type 0) (holds : List (Option Msg) → S → Type 0) (n : ℕ) (o : Option V) (s t : S) (m : Msg)
    → ((fs : List (Option Msg)) → holds fs s → (gs : List (Option Msg)) × (put n m fs ≡ Some gs) × holds gs t) → (fs : List (Option Msg))
    → Slot reads holds fs o s → (gs : List (Option Msg)) × (put (suc n) m fs ≡ Some gs) × Slot reads holds gs o t
later_filled reads holds n o s t m f [] h = absurd h
later_filled reads holds n o s t m f (None ∷ fs) h = let x = f fs h.1 in (None ∷ x.0, ap (option_and_then (λ gs. Some (None ∷ gs))) x.1, (h.0, x.2))
later_filled reads holds n o s t m f (Some k ∷ fs) h = let x = f fs h.1 in (Some k ∷ x.0, ap (option_and_then (λ gs. Some (Some k ∷ gs))) x.1, (h.0, x.2))

later_full : {V S : Type 0} (reads : Msg → V → Type 0) (holds : List (Option Msg) → S → Type 0) (n : ℕ) (o : Option V) (s : S)
    → ((fs : List (Option Msg)) → holds fs s → (m : Msg) → put n m fs ≡ None) → (fs : List (Option Msg)) → Slot reads holds fs o s → (m : Msg)
    → put (suc n) m fs ≡ None
later_full reads holds n o s f [] h m = absurd h
later_full reads holds n o s f (None ∷ fs) h m = ap (option_and_then (λ gs. Some (None ∷ gs))) (f fs h.1 m)
later_full reads holds n o s f (Some k ∷ fs) h m = ap (option_and_then (λ gs. Some (Some k ∷ gs))) (f fs h.1 m)

-- of the first field's place
module _ {R C V : Type 0} (g : Ghosts R) (old new : MapAccess R C) {place : ℕ} (z : place ≡ 0) where
  -- it was read
  pub fills_first : {S : Type 0} {reads : Msg → V → Type 0} {v : V} (holds : List (Option Msg) → S → Type 0) (o : Option V) (s : S) → is_some o ≡ false
      → TakesValue g reads old new v → Fills g (λ fs (t : Option V × S). Slot reads holds fs t.0 t.1) place old new (o, s) (Some v, s)
  fills_first {reads} {v} holds o s n t = record {
    took = record {
      part = let p = t.part in record {
        bytes = p.bytes;
        tree = p.tree;
        takes = p.takes;
        goes_on = p.goes_on;
        spelled = p.spelled;
        fits = p.fits;
        value = tt;
        stays = p.stays;
        faults_same = p.faults_same;
        clean = p.clean;
        marked = p.marked;
      };
      same_left = t.same_left;
      owes = t.owes;
      count = t.count;
      inner = t.inner;
      still = t.still;
    };
    filled = λ fs h. rw z (slot_filled reads holds o s v t.part.tree n t.part.value fs h);
  }

  -- it was refused
  pub first_refused : {reads : Msg → V → Type 0} {e : Error} (takes : ℕ → Msg → Type 0) → FailsPart g reads (map_inner old) old.de.now new.de.now e
      → FailsPart g (λ m (u : Unit {0}). FieldTakes reads takes place m) (map_inner old) old.de.now new.de.now e
  first_refused {reads} takes f = rw z (record {
    stays = f.stays;
    failed = f.failed;
    err = λ n k. refuses_narrower (SpellsAs old.de.now.strict) (Readable reads) _ _ _ (λ m h. h.1) (f.err n k);
  })

  pub first_wrong : {S : Type 0} (human lends : Bool) (reads : Msg → V → Type 0) (holds : List (Option Msg) → S → Type 0) (p : Part) (ps : List Part)
      (t : Option V × S) (e : Error) → EntryRefused g human lends p.refuses old new e
      → FillRefused g human lends (λ fs (u : Option V × S). Slot reads holds fs u.0 u.1) (p ∷ ps) place old new t e
  first_wrong human lends reads holds p ps t e h = inr (rw z h)

-- of a later one's
module _ {R C V S : Type 0} (g : Ghosts R) (reads : Msg → V → Type 0) (holds : List (Option Msg) → S → Type 0) (old new : MapAccess R C) {place n : ℕ}
    (z : place ≡ suc n) (o : Option V) (s : S) where
  -- it was read
  pub fills_later : {t : S} → Fills g holds n old new s t → Fills g (λ fs (u : Option V × S). Slot reads holds fs u.0 u.1) place old new (o, s) (o, t)
  fills_later {t} f = record { took = f.took; filled = λ fs h. rw z (later_filled reads holds n o s t f.took.part.tree f.filled fs h) }

  -- it was refused, or read before
  pub later_refused : (takes : ℕ → Msg → Type 0) (e : Error)
      → FailsPart g (λ m (u : Unit {0}). takes n m) (map_inner old) old.de.now new.de.now e ⊎ IsFull holds n old new s
      → FailsPart g (λ m (u : Unit {0}). FieldTakes reads takes place m) (map_inner old) old.de.now new.de.now e
      ⊎ IsFull (λ fs (u : Option V × S). Slot reads holds fs u.0 u.1) place old new (o, s)
  later_refused takes e h = elim h [
    | inl f ↦ inl (rw z f)
    | inr f ↦ inr (record { full = λ fs x m. rw z (later_full reads holds n o s f.full fs x m); same = f.same })
  ]

  pub later_wrong : (human lends : Bool) (p : Part) (ps : List Part) (e : Error) → FillRefused g human lends holds ps n old new s e
      → FillRefused g human lends (λ fs (u : Option V × S). Slot reads holds fs u.0 u.1) (p ∷ ps) place old new (o, s) e
  later_wrong human lends p ps e h = elim h [
    | inl f ↦ inl (f.0, record { full = λ fs x m. rw z (later_full reads holds n o s f.1.full fs x m); same = f.1.same })
    | inr f ↦ inr (rw z f)
  ]

-- ---- openings

fields_head_of : (m : Msg) → HasFields m → (p : Option Bool × ℕ) × (head_of m ≡ fields_head p.0 p.1)
fields_head_of (bin s) i = ((Some true, length s), refl)
fields_head_of (list ms) i = ((Some false, count ms), refl)
fields_head_of (map ps) i = ((None, count_pairs ps), refl)
fields_head_of m i = absurd i

other_than_fields : (room : ℕ) (m : Marker) (h : Head) (e : Error) → ((a : Option Bool × ℕ) → h ≡ fields_head a.0 a.1 → ⊥) → e ≡ Syntax InvalidType
    → not_fields room m h e
other_than_fields room m (head.Bin n) e f i = absurd (f (Some true, n) refl)
other_than_fields room m (head.Array n) e f i = absurd (f (Some false, n) refl)
other_than_fields room m (head.Map n) e f i = absurd (f (None, n) refl)
other_than_fields room m h e f i = i

pub deep_fields : (m : Marker) (is_map : Bool) (n : ℕ) → not_fields 1 m (parts_head is_map n) DepthLimitExceeded
deep_fields m true n = (refl, refl)
deep_fields m false n = (refl, refl)

-- what nests is a list or a map
pub fields_level : (k : Option Bool) (n : ℕ) → k ≢ Some true → IsLevel Parts (fields_head k n)
fields_level None n f = ((true, n), refl)
fields_level (Some true) n f = absurd (f refl)
fields_level (Some false) n f = ((false, n), refl)

module _ {R C : Type 0} (g : Ghosts R) (old new : Deserializer R C) (e : Error) (p : Marker × Head) (h : ReadsHead g old new (Ok p)) where
  -- another kind was there
  pub no_fields : ((a : Option Bool × ℕ) → p.1 ≡ fields_head a.0 a.1 → ⊥) → e ≡ Syntax InvalidType → TakesFieldsHead g old new (Err e)
  no_fields f t = opening_other g _ _ HasFields not_fields old new e p h (λ z. absurd (let u = sym t ∙ z in cc))
      (other_than_fields (room_of old) p.0 p.1 e f t) (λ m j q. let a = fields_head_of m j in f a.0 (sym q ∙ a.1))
