-- What recursive structs share: the readings of their fields by those of their parts, and by steps.
use Rattle.std.proofs.Common.{ℕ, suc, List, [], ◌∷◌, Option, None, Some, MatchOption}
use Rattle.rmp_wire.specs.Msg.{Msg}
use Rattle.rmp_decode.specs.Fields.{OfFields, Field, fields}
use Rattle.rmp_recursive.specs.Parts.{both_in}

pub fields_as : (names : List (List ℕ)) (P Q : List (Option Msg) → Type 0) → ((fs : List (Option Msg)) → P fs → Q fs) → (m : Msg) → OfFields names P m
    → OfFields names Q m
fields_as names P Q f m h = go (fields names m) h
  where
    go : (x : Option (List (Option Msg))) → MatchOption x ⊥ P → MatchOption x ⊥ Q
    go None h = h
    go (Some fs) h = f fs h

pub fields_in : (names : List (List ℕ)) (P : List (Option Msg) → Type 0) (Q : ℕ → List (Option Msg) → Type 0)
    → ((fs : List (Option Msg)) → P fs → (n : ℕ) × Q n fs) → (m : Msg) → OfFields names P m → (n : ℕ) × OfFields names (Q n) m
fields_in names P Q f m h = go (fields names m) h
  where
    go : (x : Option (List (Option Msg))) → MatchOption x ⊥ P → (n : ℕ) × MatchOption x ⊥ (Q n)
    go None h = absurd h
    go (Some fs) h = f fs h

pub field_as : (P Q : Msg → Type 0) (A : Type 0) (X Y : List (Option Msg) → Type 0) → ((m : Msg) → P m → Q m)
    → ((fs : List (Option Msg)) → X fs → Y fs) → (fs : List (Option Msg)) → Field P A X fs → Field Q A Y fs
field_as P Q A X Y f rest [] h = absurd h
field_as P Q A X Y f rest (None ∷ fs) h = (h.0, rest fs h.1)
field_as P Q A X Y f rest (Some m ∷ fs) h = (f m h.0, rest fs h.1)

pub field_in : (A : Type 0) (P : Msg → Type 0) (Q : ℕ → Msg → Type 0) (X : List (Option Msg) → Type 0) (Y : ℕ → List (Option Msg) → Type 0)
    → ((n : ℕ) (m : Msg) → Q n m → Q (suc n) m) → ((n : ℕ) (fs : List (Option Msg)) → Y n fs → Y (suc n) fs) → ((m : Msg) → P m → (n : ℕ) × Q n m)
    → ((fs : List (Option Msg)) → X fs → (n : ℕ) × Y n fs) → (fs : List (Option Msg)) → Field P A X fs → (n : ℕ) × Field (Q n) A (Y n) fs
field_in A P Q X Y up over f rest [] h = absurd h
field_in A P Q X Y up over f rest (None ∷ fs) h = let i = rest fs h.1 in (i.0, (h.0, i.1))
field_in A P Q X Y up over f rest (Some m ∷ fs) h =
    let i = f m h.0 in
    let j = rest fs h.1 in
    both_in (λ n. Q n m) (λ n. Y n fs) (λ n. up n m) (λ n. over n fs) i.0 i.1 j.0 j.1
