-- What the readings of recursive structs share: a field's tree, and that fields nest below their struct.
use Rattle.std.proofs.Common.{◌≡◌, ◌∙◌, ap, subst, arith, ℕ, suc, ◌<◌, max, true, false, Bool, List, [], ◌∷◌, Option, None, Some}
use Rattle.rmp_wire.specs.declared.source.Source.{Ghosts}
use Rattle.rmp_wire.specs.Msg.{Msg}
use Rattle.rmp_decode.specs.FieldAccess.{OpensStruct, OpensAs, SameStruct, as_seq}
use Rattle.rmp_decode.specs.Fields.{Field, Slot, at}
use Rattle.rmp_decode.specs.With.{Lends}
use Rattle.rmp_decode.specs.declared.access.field_access.FieldAccess.{FieldAccess}
use Rattle.rmp_decode.specs.declared.deserializer.Deserializer.{Deserializer}
use Rattle.rmp_decode.proofs.StructRuns.{StructRun, MetSo}
use Rattle.rmp_recursive.proofs.Parts.{steps_at, at_most, lent_steps}

-- the tree of a field is one that it is read from

pub first_tree : (P : Msg → Type 0) (A : Type 0) (X : List (Option Msg) → Type 0) (fs : List (Option Msg)) (m : Msg) → Field P A X fs → at 0 fs ≡ Some m → P m
first_tree P A X [] m h e = absurd h
first_tree P A X (None ∷ fs) m h e = absurd (cc)
first_tree P A X (Some k ∷ fs) m h e = let same : k ≡ m = cc in subst P same h.0

pub later_tree : (P : Msg → Type 0) (A : Type 0) (X : List (Option Msg) → Type 0) (W : Type 0) (n : ℕ) (fs : List (Option Msg)) (m : Msg) → Field P A X fs
    → at (suc n) fs ≡ Some m → ((gs : List (Option Msg)) → X gs → at n gs ≡ Some m → W) → W
later_tree P A X W n [] m h e f = absurd h
later_tree P A X W n (None ∷ fs) m h e f = f fs h.1 e
later_tree P A X W n (Some k ∷ fs) m h e f = f fs h.1 e

-- a later field lacks its value
pub later_lacks : {V W : Type 0} (reads : Msg → V → Type 0) (rest : List (Option Msg) → W → Type 0) (P : Msg → Type 0) (A : Type 0)
    (X : List (Option Msg) → Type 0) (o : Option V) (w : W) (fs : List (Option Msg)) → Slot reads rest fs o w → Field P A X fs
    → ((gs : List (Option Msg)) → rest gs w → X gs → ⊥) → ⊥
later_lacks reads rest P A X o w [] h q f = h
later_lacks reads rest P A X o w (None ∷ fs) h q f = f fs h.1 q.1
later_lacks reads rest P A X o w (Some m ∷ fs) h q f = f fs h.1 q.1

-- a field that has a default isn't missing
pub not_missing : {V : Type 0} {v : V} → ◌≡◌ {A = Option V} (Some v) None → ⊥
not_missing e = absurd (cc)

-- ---- the fields that were read so far are over one reference
pub run_reference : {R C S : Type 0} (g : Ghosts R) (names : List (List ℕ)) (holds : List (Option Msg) → S → Type 0) (start now : FieldAccess R C) (s : S)
    → StructRun g names holds start now s → now.de.ghost_name ≡ start.de.ghost_name
run_reference g names holds start now s r = go start.is_map r.so
  where
    go : (b : Bool) → MetSo b g names holds start now s → now.de.ghost_name ≡ start.de.ghost_name
    go true met = met.fields.run.same_reference
    go false met = met.run.same_reference

-- ---- the room falls

pub same_then : {R C : Type 0} (a b c : FieldAccess R C) → SameStruct a b → SameStruct b c → SameStruct a c
same_then a b c p q = record {
  is_map = q.is_map ∙ p.is_map;
  bytes = q.bytes ∙ p.bytes;
  names = q.names ∙ p.names;
  count = q.count ∙ p.count;
  inner = q.inner ∙ p.inner;
}

pub field_steps : {R C : Type 0} (g : Ghosts R) (names : List (List ℕ)) (old : Deserializer R C) (start key : FieldAccess R C)
    → OpensStruct g names old start → SameStruct start key → (d : Deserializer R C) → Lends g (as_seq key) d → steps_at d < steps_at old
field_steps {R} {C} g names old start key o same d l = go start.is_map o.opens
  where
    inner : max 1 d.room ≡ max 1 start.inner
    inner = rw l.lent (ap (max 1) same.inner)

    go : (b : Bool) → OpensAs b g old start → steps_at d < steps_at old
    go true p = omega (arith, inner, p.room, at_most d.kept)
    go false p = lent_steps g old (as_seq start) (as_seq key) p (record { count = same.count; inner = same.inner; bytes = same.bytes }) d l
