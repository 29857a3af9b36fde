-- What a struct's fields are read from, a list or a map of its names.
use Rattle.std.specs.Prelude.{◌≡◌, ◌≢◌, ℕ, zero, suc, Bool, true, List, [], ◌∷◌, map, length, Option, Some, None, IfSome, MatchOption, cond, nat_eq, Result}
use Rattle.std.proofs.Common.{refl, ap, subst}
use Rattle.std.specs.Borrow.{GName}
use Rattle.std.specs.Option.{option_and_then}
use Rattle.rmp_wire.specs.declared.head.Head.{Head}
use Rattle.rmp_wire.specs.declared.head.Head.TheVariants.{Map, Array, Bin}
use Rattle.rmp_wire.specs.declared.marker.Marker.{Marker}
use Rattle.rmp_wire.specs.declared.source.Source.{Ghosts}
pub use Rattle.rmp_wire.specs.Kinds.{fields_head}
use Rattle.rmp_wire.specs.Msg.{Msg, bin, list}
use Rattle.rmp_wire.specs.Msg.{Msgs, no_items, item, count, items_of, Pairs, no_pairs, pair}
use Rattle.rmp_wire.specs.Msg.{map as mapping}
use Rattle.rmp_decode.specs.Content.{RefusesContent, not_raw, never_refused}
use Rattle.rmp_decode.specs.Exact.{TellsFault}
use Rattle.rmp_decode.specs.Opening.{FailsToOpenAs, TakesOpening}
use Rattle.rmp_decode.specs.Law.{Readable}
use Rattle.rmp_decode.specs.Maps.{TakesValue, OpensMap}
use Rattle.rmp_decode.specs.Names.{name_of, IsNameHead}
use Rattle.rmp_decode.specs.Refuse.{UnpassedFor, OpensSome, RefusedFor}
use Rattle.rmp_decode.specs.Refusing.{Setting, Refusals}
use Rattle.rmp_decode.specs.Seq.{numbers, Opens}
use Rattle.rmp_decode.specs.declared.access.fields.FieldParts.{FieldParts}
use Rattle.rmp_decode.specs.declared.access.fields.FieldParts.TheVariants as parts
use Rattle.rmp_decode.specs.declared.access.fields.FieldParts.TheVariants.{Seq}
use Rattle.rmp_decode.specs.Skip.{any_tree, any_row}
use Rattle.rmp_decode.specs.declared.deserializer.Deserializer.{Deserializer}
use Rattle.rmp_decode.specs.declared.access.map.MapAccess.{MapAccess}
use Rattle.rmp_decode.specs.declared.error.Error.{Error}
use Rattle.rmp_decode.specs.declared.error.Error.TheVariants.{DepthLimitExceeded, OutOfMemory, Syntax}
use Rattle.rmp_decode.specs.declared.text.Text.TheVariants.{InvalidType}

-- ---- the trees of fields, each in the place of its name, or none where it isn't there

-- a place for each name, with no tree yet
abbrev pub blank : List (List ℕ) → List (Option Msg)
blank [] = []
blank (s ∷ names) = None ∷ blank names

-- The tree put into this place: `None` where the place has a tree, or where there is no such place.
abbrev pub put : ℕ → Msg → List (Option Msg) → Option (List (Option Msg))
put n m [] = None
put zero m (None ∷ fs) = Some (Some m ∷ fs)
put zero m (Some k ∷ fs) = None
put (suc n) m (f ∷ fs) = option_and_then (λ gs. Some (f ∷ gs)) (put n m fs)

-- The tree put into the place that its key names, or passed over where its key is no name.
abbrev pub put_named : Option ℕ → Msg → List (Option Msg) → Option (List (Option Msg))
put_named None m fs = Some fs
put_named (Some n) m fs = put n m fs

-- The places after these pairs: each value in the place that its key names, or passed over where its key is no name.
-- `None` where a key can't be a name, or names a place again.
abbrev pub met : List (List ℕ) → List (Option Msg) → Pairs → Option (List (Option Msg))
met names fs no_pairs = Some fs
met names fs (pair k v ps) = option_and_then (λ gs. met names gs ps) (option_and_then (λ o. put_named o v fs) (name_of names k))

-- each item in a place of its own, in their order
abbrev pub given_all : Msgs → List (Option Msg)
given_all ms = map (λ m. Some m) (items_of ms)

-- The items of a list as fields, if there is one for each name.
abbrev pub given : List (List ℕ) → Msgs → Option (List (Option Msg))
given names ms = cond (nat_eq (count ms) (length names)) (Some (given_all ms)) None

-- The tree of each name, of which some may be missing. `None` for a tree that is refused whatever the fields' types are.
abbrev pub fields : List (List ℕ) → Msg → Option (List (Option Msg))
fields names (bin s) = given names (numbers s)
fields names (list ms) = given names ms
fields names (mapping ps) = met names (blank names) ps
fields names m = None

-- a tree whose fields are such
abbrev pub OfFields : List (List ℕ) → (List (Option Msg) → Type 0) → Msg → Type 0
OfFields names Q m = MatchOption (fields names m) ⊥ Q

-- ---- what types read of fields

-- a field, of which P holds, or which isn't there, where A does; and then fields of which Q does
abbrev pub Field : (Msg → Type 0) → Type 0 → (List (Option Msg) → Type 0) → List (Option Msg) → Type 0
Field P A Q [] = ⊥
Field P A Q (None ∷ fs) = A × Q fs
Field P A Q (Some m ∷ fs) = P m × Q fs

-- its default is the value
abbrev pub Absent : {V : Type 0} → Option V → V → Type 0
Absent o v = o ≡ Some v

-- no more fields
abbrev pub NoField : List (Option Msg) → Type 0
NoField [] = Unit {0}
NoField (f ∷ fs) = ⊥

-- what was read so far of a field, and then of others
abbrev pub Slot : {V W : Type 0} → (Msg → V → Type 0) → (List (Option Msg) → W → Type 0) → List (Option Msg) → Option V → W → Type 0
Slot reads rest [] o w = ⊥
Slot reads rest (None ∷ fs) o w = (o ≡ None) × rest fs w
Slot {V} reads rest (Some m ∷ fs) o w = ((v : V) × (o ≡ Some v) × reads m v) × rest fs w

-- none of so many fields is there
abbrev pub AreBlank : ℕ → List (Option Msg) → Type 0
AreBlank zero [] = Unit {0}
AreBlank zero (f ∷ fs) = ⊥
AreBlank (suc n) [] = ⊥
AreBlank (suc n) (f ∷ fs) = (f ≡ None) × AreBlank n fs

-- the tree at a place, where there is one
abbrev pub at : ℕ → List (Option Msg) → Option Msg
at n [] = None
at zero (f ∷ fs) = f
at (suc n) (f ∷ fs) = at n fs

-- ---- one field's value

-- the value of the key that was read last was read into its place
pub record Fills {R C S : Type 0} (g : Ghosts R) (holds : List (Option Msg) → S → Type 0) (place : ℕ) (old new : MapAccess R C) (s t : S) : Type 0 where
  pub took : TakesValue g any_tree old new tt
  pub filled : (fs : List (Option Msg)) → holds fs s → (gs : List (Option Msg)) × (put place took.part.tree fs ≡ Some gs) × holds gs t

-- nothing may be put there
pub record IsFull {R C S : Type 0} (holds : List (Option Msg) → S → Type 0) (place : ℕ) (old new : MapAccess R C) (s : S) : Type 0 where
  pub full : (fs : List (Option Msg)) → holds fs s → (m : Msg) → put place m fs ≡ None
  pub same : new ≡ old

-- ---- what a pair's fields are

-- which trees the first field is read from, and the others
abbrev pub FieldTakes : {V : Type 0} → (Msg → V → Type 0) → (ℕ → Msg → Type 0) → ℕ → Msg → Type 0
FieldTakes reads takes zero m = Readable reads m
FieldTakes reads takes (suc n) m = takes n m

pub no_field_taken : (fs : List (Option Msg)) (n : ℕ) (m : Msg) → NoField fs → at n fs ≡ Some m → ⊥
no_field_taken [] n m h e = cc
no_field_taken (f ∷ fs) n m h e = h

pub no_field_counted : (fs : List (Option Msg)) → NoField fs → length fs ≡ 0
no_field_counted [] h = refl
no_field_counted (f ∷ fs) h = absurd h

pub field_taken : {V W : Type 0} (reads : Msg → V → Type 0) (absent : Option V) (rest : List (Option Msg) → W → Type 0) (takes : ℕ → Msg → Type 0)
    → ((fs : List (Option Msg)) (w : W) (n : ℕ) (m : Msg) → rest fs w → at n fs ≡ Some m → takes n m)
    → (fs : List (Option Msg)) (v : V) (w : W) (n : ℕ) (m : Msg) → Field (λ k. reads k v) (Absent absent v) (λ gs. rest gs w) fs → at n fs ≡ Some m
    → FieldTakes reads takes n m
field_taken reads absent rest takes law [] v w n m h e = absurd h
field_taken reads absent rest takes law (None ∷ fs) v w zero m h e = absurd (cc)
field_taken reads absent rest takes law (Some k ∷ fs) v w zero m h e = let same : k ≡ m = cc in (v, subst (λ z. reads z v) same h.0)
field_taken reads absent rest takes law (None ∷ fs) v w (suc n) m h e = law fs w n m h.1 e
field_taken reads absent rest takes law (Some k ∷ fs) v w (suc n) m h e = law fs w n m h.1 e

pub field_counted : (P : Msg → Type 0) (A : Type 0) (Q : List (Option Msg) → Type 0) {n : ℕ} → ((fs : List (Option Msg)) → Q fs → length fs ≡ n)
    → (fs : List (Option Msg)) → Field P A Q fs → length fs ≡ suc n
field_counted P A Q law [] h = absurd h
field_counted P A Q law (None ∷ fs) h = ap suc (law fs h.1)
field_counted P A Q law (Some m ∷ fs) h = ap suc (law fs h.1)

-- each of them is there, so what was read so far is all
pub slot_full : {V W S : Type 0} (reads : Msg → V → Type 0) (absent : Option V) (rest : List (Option Msg) → W → Type 0) (holds : List (Option Msg) → S
    → Type 0) → ((ms : Msgs) (s : S) → holds (given_all ms) s → (w : W) × rest (given_all ms) w)
    → (ms : Msgs) (o : Option V) (s : S) → Slot reads holds (given_all ms) o s
    → (u : V × W) × Field (λ m. reads m u.0) (Absent absent u.0) (λ gs. rest gs u.1) (given_all ms)
slot_full reads absent rest holds law no_items o s h = absurd h
slot_full reads absent rest holds law (item m ms) o s h =
    let others = law ms s h.1 in
    ((h.0.0, others.0), (h.0.2, others.1))

-- ---- heads

-- a list, bytes or a map
abbrev pub HasFields : Msg → Type 0
HasFields (bin s) = Unit {0}
HasFields (list ms) = Unit {0}
HasFields (mapping ps) = Unit {0}
HasFields m = ⊥

-- How a message is refused where fields are wanted, by the room: a list or a map only where no level is left, bytes never, and another kind.
abbrev pub not_fields : ℕ → Marker → Head → Error → Type 0
not_fields room m (Array n) e = (room ≡ 1) × (e ≡ DepthLimitExceeded)
not_fields room m (Map n) e = (room ≡ 1) × (e ≡ DepthLimitExceeded)
not_fields room m (Bin n) e = ⊥
not_fields room m h e = e ≡ Syntax InvalidType

-- none of them could be opened
abbrev pub FailsToOpenFields : {R C : Type 0} → Ghosts R → Deserializer R C → Deserializer R C → Error → Type 0
FailsToOpenFields g = FailsToOpenAs g HasFields not_fields

-- the head of a list, of bytes (Some true), or of a map (None) was consumed; bytes don't nest
abbrev pub TakesFieldsHead : {R C : Type 0} → Ghosts R → Deserializer R C → Deserializer R C → Result (Option Bool × ℕ) Error → Type 0
TakesFieldsHead g = TakesOpening g (λ p. fields_head p.0 p.1) (λ p. p.0 ≢ Some true) HasFields not_fields

-- How a key is refused that says nothing. Where the source lends, a name takes no memory.
abbrev pub name_refusal : Setting → Refusals
name_refusal s before after known e = RefusesContent s.strict IsNameHead not_raw never_refused before after known e
    × (s.lends ≡ true → e ≢ OutOfMemory)

-- a list or a map that isn't empty begins the bytes, where they are told
abbrev pub BeginsSome : Bool → Option (List ℕ) → Type 0
BeginsSome strict known = IfSome known (OpensSome strict)

-- How a message is refused that is passed over. A fault of the source is told; where it lends, only a list or a map that isn't empty takes memory.
abbrev pub pass_refusal : Setting → Refusals
pass_refusal s before after known e = (after ≡ before → RefusedFor s.strict (UnpassedFor s.lends s.room s.strict) any_row s.room e known)
    × (s.lends ≡ true → e ≡ OutOfMemory → BeginsSome s.strict known)
    × TellsFault before after e

-- the reference to the reader
abbrev pub parts_name : {R C : Type 0} → FieldParts R C → GName
parts_name (Seq a) = a.de.ghost_name
parts_name (parts.Map a) = a.de.ghost_name

-- the head was taken, and the access is open
abbrev pub OpensFields : {R C : Type 0} → Ghosts R → Deserializer R C → FieldParts R C → Type 0
OpensFields g old (Seq a) = Opens g old a
OpensFields g old (parts.Map a) = OpensMap g old a
