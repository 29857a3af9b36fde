-- What structs and enums lower to is read as nothing else, where that holds of their fields.
use Rattle.std.proofs.Common.{◌≡◌, ℕ, List, [], ◌∷◌, Option, None, Some, subst}
use Rattle.std.specs.Prelude.{MatchOption}
use Rattle.rmp_wire.specs.Msg.{Msg, Msgs}
use Rattle.rmp_decode.specs.Fields.{Field, NoField, OfFields, fields}
use Rattle.rmp_decode.specs.Seq.{OfRow}
use Rattle.rmp_decode.specs.Variants.{OfVariant, Content, variant_of}
use Rattle.rmp_round_trip.specs.OnlyRows.{row_both}
use Rattle.rmp_round_trip.specs.RoundTrip.{Only}

option_both : {A : Type 0} (Q S : A → Type 0) (X : Type 0) (o : Option A) → MatchOption o ⊥ Q → MatchOption o ⊥ S → ((x : A) → Q x → S x → X) → X
option_both Q S X None q r f = absurd q
option_both Q S X (Some x) q r f = f x q r

-- ---- two facts of the same fields

pub fields_both : (names : List (List ℕ)) (Q S : List (Option Msg) → Type 0) (X : Type 0) (m : Msg) → OfFields names Q m → OfFields names S m
    → ((fs : List (Option Msg)) → Q fs → S fs → X) → X
fields_both names Q S X m q r f = option_both Q S X (fields names m) q r f

module _ {V : Type 0} (reads : Msg → V → Type 0) (same : V → V → Type 0) (v w : V) where
  -- a field that is there, and then the others
  pub field_only : (A : Type 0) (Q S : List (Option Msg) → Type 0) (X : Type 0) → ((fs : List (Option Msg)) → Q fs → S fs → X) → (fs : List (Option Msg))
      → Field (λ m. Only reads same m v) ⊥ Q fs → Field (λ m. reads m w) A S fs → same v w × X
  field_only A Q S X f [] q r = absurd q
  field_only A Q S X f (None ∷ fs) q r = absurd q.0
  field_only A Q S X f (Some m ∷ fs) q r = (q.0 w r.0, f fs q.1 r.1)

  -- the last field
  pub last_field : (A : Type 0) (fs : List (Option Msg)) → Field (λ m. Only reads same m v) ⊥ NoField fs → Field (λ m. reads m w) A NoField fs → same v w
  last_field A [] q r = absurd q
  last_field A (None ∷ fs) q r = absurd q.0
  last_field A (Some m ∷ fs) q r = q.0 w r.0

  -- a variant's only content
  pub content_only : (c : Option Msg) → Content (λ m. Only reads same m v) c → Content (λ m. reads m w) c → same v w
  content_only None q r = absurd q
  content_only (Some m) q r = q w r

-- ---- two facts of the same variant

-- the variant at that place, of whose content P holds
abbrev pub AtPlace : ℕ → (Option Msg → Type 0) → ℕ × Option Msg → Type 0
AtPlace n P p = (p.0 ≡ n) × P p.1

-- any content, or none
abbrev pub AnyContent : Option Msg → Type 0
AnyContent c = Unit {0}

pub variant_both : (names : List (List ℕ)) (n : ℕ) (P : Option Msg → Type 0) (S : ℕ × Option Msg → Type 0) (X : Type 0) (m : Msg)
    → OfVariant names (AtPlace n P) m → OfVariant names S m → ((c : Option Msg) → P c → S (n, c) → X) → X
unfolding OfVariant
variant_both names n P S X m q r f =
    option_both (AtPlace n P) S X (variant_of names m) q r (λ p a b. f p.1 a.1 (subst (λ k. S (k, p.1)) a.0 b))

-- content that is a list
pub content_row : (Q S : Msgs → Type 0) (X : Type 0) (c : Option Msg) → Content (OfRow Q) c → Content (OfRow S) c → ((ms : Msgs) → Q ms → S ms → X) → X
content_row Q S X None q r f = absurd q
content_row Q S X (Some m) q r f = row_both Q S X m q r f

-- content that has fields
pub content_fields : (names : List (List ℕ)) (Q S : List (Option Msg) → Type 0) (X : Type 0) (c : Option Msg) → Content (OfFields names Q) c
    → Content (OfFields names S) c → ((fs : List (Option Msg)) → Q fs → S fs → X) → X
content_fields names Q S X None q r f = absurd q
content_fields names Q S X (Some m) q r f = fields_both names Q S X m q r f
