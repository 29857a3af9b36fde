-- What values lower to is read as those values.
use Rattle.std.proofs.Common.{◌≡◌, ℕ, List, [], ◌∷◌, Bool, true, false, Option, None, Some, refl, sym, ap, subst, map, All}
use Rattle.std.specs.Prelude.{◌≢◌, ◌||◌, pos, IfSome, IsSome}
use Rattle.std.specs.Option.{option_map}
use Rattle.std.proofs.lemmas.List.Elements.{All-head, All-tail}
use Rattle.rmp_wire.specs.Msg as msg
use Rattle.rmp_wire.specs.Msg.{Msg, Msgs, no_items, item}
use Rattle.rmp_encode.specs.Data.{
  Data,
  unit,
  truth,
  byte,
  whole,
  unsigned128,
  signed128,
  float32,
  float64,
  char,
  text,
  bytes,
  wrapped,
  unit_struct,
  sequence,
  slice,
  tuple,
  mapping,
  structure,
  unit_variant,
  newtype_variant,
  tuple_variant,
  struct_variant,
  extension,
  Parts,
  no_parts,
  part,
  byte_in,
  push_byte,
  all_bytes,
  bin_or_list,
  packed,
  packs_slice,
  packs_tuple,
  lower,
  lower_parts,
}
use Rattle.rmp_encode.specs.Trees.{tree_of, parts_of, sequence_of, slice_of, tuple_of, option_of, wrapped_of}
use Rattle.rmp_encode.specs.declared.settings.Settings.{Settings}
use Rattle.rmp_decode.specs.Options.{IsOption}
use Rattle.rmp_decode.specs.Rows.{ReadsEach, NoMore, AndThen}
use Rattle.rmp_decode.specs.Seq.{OfRow, numbers}
use Rattle.rmp_round_trip.specs.RoundTrip.{LowersTo}

-- ---- what isn't refused

none_is : false ≡ true → ⊥
none_is h = cc

pub mapped_some : {A B : Type 0} (f : A → B) (o : Option A) → IsSome o → IsSome (option_map f o)
mapped_some f None h = absurd (none_is h)
mapped_some f (Some x) h = refl

pub parts_none : IsSome (parts_of [])
parts_none = refl

pub parts_cons : (d : Option Data) (ds : List (Option Data)) → IsSome d → IsSome (parts_of ds) → IsSome (parts_of (d ∷ ds))
parts_cons None ds h hs = absurd (none_is h)
parts_cons (Some d) ds h hs = mapped_some (part d) (parts_of ds) hs

pub each_some : {X : Type 0} (d : X → Option Data) → ((x : X) → IsSome (d x)) → (xs : List X) → IsSome (parts_of (map d xs))
each_some d h [] = refl
each_some d h (x ∷ xs) = parts_cons (d x) (map d xs) (h x) (each_some d h xs)

pub slice_some : (ds : List (Option Data)) → IsSome (parts_of ds) → IsSome (slice_of ds)
unfolding slice_of
slice_some ds h = mapped_some slice (parts_of ds) h

pub tuple_some : (ds : List (Option Data)) → IsSome (parts_of ds) → IsSome (tuple_of ds)
unfolding tuple_of
tuple_some ds h = mapped_some tuple (parts_of ds) h

pub sequence_some : (ds : List (Option Data)) → IsSome (parts_of ds) → IsSome (sequence_of ds)
unfolding sequence_of
sequence_some ds h = mapped_some sequence (parts_of ds) h

pub option_some : {X : Type 0} (d : X → Option Data) → ((x : X) → IsSome (d x)) → (o : Option X) → IsSome (option_of d o)
option_some d h None = refl
option_some d h (Some x) = mapped_some wrapped (d x) (h x)

-- ---- where the source has to lend

-- a value of two parts borrows where one of them does
pub first_lent : (a b l : Bool) → ((a || b) ≡ true → l ≡ true) → a ≡ true → l ≡ true
first_lent true b l h e = h refl
first_lent false b l h e = cc

pub second_lent : (a b l : Bool) → ((a || b) ≡ true → l ≡ true) → b ≡ true → l ≡ true
second_lent true b l h e = h refl
second_lent false b l h e = h e

module _ (s : Settings) where
  -- the values aren't refused, and Q holds of the items that they lower to
  pub record Rows (ds : List (Option Data)) (Q : Msgs → Type 0) : Type 0 where
    pub parts : Parts
    pub is : parts_of ds ≡ Some parts
    pub holds : Q (lower_parts s parts)

  pub rows_none : Rows [] NoMore
  unfolding lower_parts
  rows_none = record { parts = no_parts; is = refl; holds = tt }

  pub rows_cons : (d : Option Data) (ds : List (Option Data)) (P : Msg → Type 0) (Q : Msgs → Type 0) → LowersTo s d P → Rows ds Q → Rows (d ∷ ds) (AndThen P Q)
  unfolding lower_parts
  rows_cons None ds P Q h r = absurd h
  rows_cons (Some d) ds P Q h r = record { parts = part d r.parts; is = ap (option_map (part d)) r.is; holds = (h, r.holds) }

  pub rows_map : (ds : List (Option Data)) (Q S : Msgs → Type 0) → ((ms : Msgs) → Q ms → S ms) → Rows ds Q → Rows ds S
  rows_map ds Q S f r = record { parts = r.parts; is = r.is; holds = f (lower_parts s r.parts) r.holds }

  each_cons : {X : Type 0} (reads : Msg → X → Type 0) (x : X) (xs : List X) (d : Option Data) (ds : List (Option Data)) → LowersTo s d (λ m. reads m x)
      → Rows ds (λ ms. ReadsEach reads ms xs) → Rows (d ∷ ds) (λ ms. ReadsEach reads ms (x ∷ xs))
  unfolding lower_parts
  each_cons reads x xs None ds h r = absurd h
  each_cons reads x xs (Some d) ds h r = record { parts = part d r.parts; is = ap (option_map (part d)) r.is; holds = (h, r.holds) }

  pub each_row : {X : Type 0} (d : X → Option Data) (is_value : X → Type 0) (reads : Msg → X → Type 0)
      → ((x : X) → is_value x → LowersTo s (d x) (λ m. reads m x)) → (xs : List X) → All is_value xs → Rows (map d xs) (λ ms. ReadsEach reads ms xs)
  unfolding lower_parts
  each_row d is_value reads h [] a = record { parts = no_parts; is = refl; holds = tt }
  each_row d is_value reads h (x ∷ xs) a =
      each_cons reads x xs (d x) (map d xs) (h x (All-head is_value x xs a)) (each_row d is_value reads h xs (All-tail is_value x xs a))

  -- ---- bytes that are packed are the numbers of the list

  push_numbers : (d : Data) (o : Option (List ℕ)) (ms : Msgs) → IfSome o (λ t. numbers t ≡ ms)
      → IfSome (push_byte (byte_in d) o) (λ t. numbers t ≡ item (lower s d) ms)
  unfolding lower
  push_numbers (byte n) None ms h = tt
  push_numbers (byte n) (Some t) ms h = ap (item (msg.whole (pos n))) h
  push_numbers unit o ms h = tt
  push_numbers (truth t) o ms h = tt
  push_numbers (whole z) o ms h = tt
  push_numbers (unsigned128 n) o ms h = tt
  push_numbers (signed128 z) o ms h = tt
  push_numbers (float32 n) o ms h = tt
  push_numbers (float64 n) o ms h = tt
  push_numbers (char n) o ms h = tt
  push_numbers (text t) o ms h = tt
  push_numbers (bytes t) o ms h = tt
  push_numbers (wrapped d) o ms h = tt
  push_numbers unit_struct o ms h = tt
  push_numbers (sequence ds) o ms h = tt
  push_numbers (slice ds) o ms h = tt
  push_numbers (tuple ds) o ms h = tt
  push_numbers (mapping es) o ms h = tt
  push_numbers (structure fs) o ms h = tt
  push_numbers (unit_variant name) o ms h = tt
  push_numbers (newtype_variant name d) o ms h = tt
  push_numbers (tuple_variant name ds) o ms h = tt
  push_numbers (struct_variant name fs) o ms h = tt
  push_numbers (extension tag t) o ms h = tt

  all_numbers : (ds : Parts) → IfSome (all_bytes ds) (λ t. numbers t ≡ lower_parts s ds)
  unfolding lower_parts
  all_numbers no_parts = refl
  all_numbers (part d ds) = push_numbers d (all_bytes ds) (lower_parts s ds) (all_numbers ds)

  bin_row : (Q : Msgs → Type 0) (b : Bool) (t : List ℕ) (ms : Msgs) → numbers t ≡ ms → Q ms → OfRow Q (bin_or_list b t ms)
  bin_row Q true t ms e q = subst Q (sym e) q
  bin_row Q false t ms e q = q

  packed_row : (Q : Msgs → Type 0) (packs : List ℕ → Bool) (o : Option (List ℕ)) (ms : Msgs) → IfSome o (λ t. numbers t ≡ ms) → Q ms
      → OfRow Q (packed packs o ms)
  packed_row Q packs None ms e q = q
  packed_row Q packs (Some t) ms e q = bin_row Q (packs t) t ms e q

  pub slice_row : (ds : List (Option Data)) (Q : Msgs → Type 0) → Rows ds Q → LowersTo s (slice_of ds) (OfRow Q)
  unfolding lower slice_of
  slice_row ds Q r =
      subst (λ o. LowersTo s (option_map slice o) (OfRow Q)) (sym r.is)
      (packed_row Q (packs_slice s.bytes) (all_bytes r.parts) (lower_parts s r.parts) (all_numbers r.parts) r.holds)

  pub tuple_row : (ds : List (Option Data)) (Q : Msgs → Type 0) → Rows ds Q → LowersTo s (tuple_of ds) (OfRow Q)
  unfolding lower tuple_of
  tuple_row ds Q r =
      subst (λ o. LowersTo s (option_map tuple o) (OfRow Q)) (sym r.is)
      (packed_row Q (packs_tuple s.bytes) (all_bytes r.parts) (lower_parts s r.parts) (all_numbers r.parts) r.holds)

  pub sequence_row : (ds : List (Option Data)) (Q : Msgs → Type 0) → Rows ds Q → LowersTo s (sequence_of ds) (OfRow Q)
  unfolding lower sequence_of
  sequence_row ds Q r = subst (λ o. LowersTo s (option_map sequence o) (OfRow Q)) (sym r.is) r.holds

  -- ---- options

  wrapped_row : (d : Option Data) (P : Msg → Type 0) → tree_of s d ≢ Some msg.nil → LowersTo s d P → LowersTo s (wrapped_of d) (λ m. (m ≢ msg.nil) × P m)
  unfolding lower
  wrapped_row None P n h = absurd h
  wrapped_row (Some d) P n h = ((λ e. n (ap Some e)), h)

  pub option_row : {X : Type 0} (d : X → Option Data) (is_value : X → Type 0) (reads : Msg → X → Type 0) → ((x : X) → tree_of s (d x) ≢ Some msg.nil)
      → ((x : X) → is_value x → LowersTo s (d x) (λ m. reads m x)) → (o : Option X) → IfSome o is_value → LowersTo s (option_of d o) (λ m. IsOption reads m o)
  unfolding lower
  option_row d is_value reads n h None v = refl
  option_row d is_value reads n h (Some x) v = wrapped_row (d x) (λ m. reads m x) (n x) (h x v)

  -- ---- what is never nil

  none_other : {A : Type 0} (x : A) → ◌≡◌ {A = Option A} None (Some x) → ⊥
  none_other x e = cc

  bin_other : (b : Bool) (t : List ℕ) (ms : Msgs) → ◌≡◌ {A = Option Msg} (Some (bin_or_list b t ms)) (Some msg.nil) → ⊥
  bin_other true t ms e = cc
  bin_other false t ms e = cc

  packed_other : (packs : List ℕ → Bool) (o : Option (List ℕ)) (ms : Msgs) → ◌≡◌ {A = Option Msg} (Some (packed packs o ms)) (Some msg.nil) → ⊥
  packed_other packs None ms e = cc
  packed_other packs (Some t) ms e = bin_other (packs t) t ms e

  slice_under : (o : Option Parts) → tree_of s (option_map slice o) ≢ Some msg.nil
  unfolding lower
  slice_under None e = cc
  slice_under (Some ds) e = packed_other (packs_slice s.bytes) (all_bytes ds) (lower_parts s ds) e

  pub slice_other : (ds : List (Option Data)) → tree_of s (slice_of ds) ≢ Some msg.nil
  unfolding slice_of
  slice_other ds = slice_under (parts_of ds)

  tuple_under : (o : Option Parts) → tree_of s (option_map tuple o) ≢ Some msg.nil
  unfolding lower
  tuple_under None e = cc
  tuple_under (Some ds) e = packed_other (packs_tuple s.bytes) (all_bytes ds) (lower_parts s ds) e

  pub tuple_other : (ds : List (Option Data)) → tree_of s (tuple_of ds) ≢ Some msg.nil
  unfolding tuple_of
  tuple_other ds = tuple_under (parts_of ds)

  sequence_under : (o : Option Parts) → tree_of s (option_map sequence o) ≢ Some msg.nil
  unfolding lower
  sequence_under None e = cc
  sequence_under (Some ds) e = cc

  pub sequence_other : (ds : List (Option Data)) → tree_of s (sequence_of ds) ≢ Some msg.nil
  unfolding sequence_of
  sequence_other ds = sequence_under (parts_of ds)
