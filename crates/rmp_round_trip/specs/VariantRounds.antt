-- What variants lower to is read as their values.
use Rattle.std.proofs.Common.{◌≡◌, ℕ, List, true, Option, None, Some, refl, sym, subst, inr}
use Rattle.std.specs.Prelude.{◌≢◌, IsSome, MatchOption}
use Rattle.std.specs.Option.{option_map}
use Rattle.rmp_wire.specs.Msg as msg
use Rattle.rmp_wire.specs.Msg.{Msg, Msgs}
use Rattle.rmp_encode.specs.Data.{
  Data,
  unit_struct,
  unit_variant,
  newtype_variant,
  tuple_variant,
  struct_variant,
  Fields,
  Parts,
  variant,
  map_or_list,
  lower,
  lower_named,
  lower_parts,
  lower_values,
}
use Rattle.rmp_encode.specs.Trees.{tree_of, fields_of, parts_of, newtype_variant_of, struct_variant_of, tuple_variant_of, wrapped_of}
use Rattle.rmp_encode.specs.declared.settings.Settings.{Settings}
use Rattle.rmp_decode.specs.Fields.{OfFields}
use Rattle.rmp_decode.specs.Names.{distinct, place_of}
use Rattle.rmp_decode.specs.Seq.{OfRow}
use Rattle.rmp_decode.specs.Units.{IsNothing}
use Rattle.rmp_decode.specs.Variants.{OfVariant, placed}
use Rattle.rmp_round_trip.specs.RoundTrip.{LowersTo}
use Rattle.rmp_round_trip.specs.Rounds.{Rows, mapped_some}
use Rattle.rmp_round_trip.specs.StructRounds.{FieldRows, fields_row}

-- ---- what isn't refused

pub newtype_some : (d : Option Data) → IsSome d → IsSome (wrapped_of d)
newtype_some d h = mapped_some _ d h

pub newtype_variant_some : (name : List ℕ) (d : Option Data) → IsSome d → IsSome (newtype_variant_of name d)
unfolding newtype_variant_of
newtype_variant_some name d h = mapped_some (newtype_variant name) d h

module _ (s : Settings) where
  -- ---- structs without names

  pub nothing_row : LowersTo s (Some unit_struct) IsNothing
  unfolding lower
  nothing_row = inr refl

  pub newtype_row : (d : Option Data) (P : Msg → Type 0) → LowersTo s d P → LowersTo s (wrapped_of d) P
  unfolding lower
  newtype_row None P h = absurd h
  newtype_row (Some d) P h = h

  -- ---- a variant at its place among the names

  module _ (names : List (List ℕ)) (name : List ℕ) (n : ℕ) (at : place_of names name ≡ Some n) (Q : ℕ × Option Msg → Type 0) where
    pub bare_row : Q (n, None) → LowersTo s (Some (unit_variant name)) (OfVariant names Q)
    unfolding lower OfVariant
    bare_row q = subst (λ o. MatchOption (placed None (Some o)) ⊥ Q) (sym at) q

    content_row : (m : Msg) → Q (n, Some m) → OfVariant names Q (variant name m)
    unfolding OfVariant
    content_row m q = subst (λ o. MatchOption (placed (Some m) (Some o)) ⊥ Q) (sym at) q

    pub newtype_variant_row : (d : Option Data) (P : Msg → Type 0) → ((m : Msg) → P m → Q (n, Some m)) → LowersTo s d P
        → LowersTo s (newtype_variant_of name d) (OfVariant names Q)
    unfolding lower newtype_variant_of
    newtype_variant_row None P q h = absurd h
    newtype_variant_row (Some d) P q h = content_row (lower s d) (q (lower s d) h)

    pub tuple_variant_row : (ds : List (Option Data)) (P : Msgs → Type 0) → ((m : Msg) → OfRow P m → Q (n, Some m)) → Rows s ds P
        → LowersTo s (tuple_variant_of name ds) (OfVariant names Q)
    unfolding lower tuple_variant_of
    tuple_variant_row ds P q r = subst (λ o. LowersTo s (option_map (tuple_variant name) o) (OfVariant names Q)) (sym r.is)
        (content_row (msg.list (lower_parts s r.parts)) (q (msg.list (lower_parts s r.parts)) r.holds))

    pub struct_variant_row : (fields : List (List ℕ)) (fs : List (List ℕ × Option Data)) (P : List (Option Msg) → Type 0) → distinct fields ≡ true
        → ((m : Msg) → OfFields fields P m → Q (n, Some m)) → FieldRows s fields fs P → LowersTo s (struct_variant_of name fs) (OfVariant names Q)
    unfolding lower struct_variant_of
    struct_variant_row fields fs P h q r = subst (λ o. LowersTo s (option_map (struct_variant name) o) (OfVariant names Q)) (sym r.is)
        (content_row (map_or_list s.named (lower_named s r.fields) (lower_values s r.fields))
        (q (map_or_list s.named (lower_named s r.fields) (lower_values s r.fields)) (fields_row s s.named fields fs P h r)))

  -- ---- what is never nil

  pub nothing_other : tree_of s (Some unit_struct) ≢ Some msg.nil
  unfolding lower
  nothing_other e = cc

  pub newtype_other : (d : Option Data) → tree_of s d ≢ Some msg.nil → tree_of s (wrapped_of d) ≢ Some msg.nil
  unfolding lower
  newtype_other None h e = cc
  newtype_other (Some d) h e = h e

  pub bare_other : (name : List ℕ) → tree_of s (Some (unit_variant name)) ≢ Some msg.nil
  unfolding lower
  bare_other name e = cc

  pub newtype_variant_other : (name : List ℕ) (d : Option Data) → tree_of s (newtype_variant_of name d) ≢ Some msg.nil
  unfolding lower newtype_variant_of
  newtype_variant_other name None e = cc
  newtype_variant_other name (Some d) e = cc

  tuple_under : (name : List ℕ) (o : Option Parts) → tree_of s (option_map (tuple_variant name) o) ≢ Some msg.nil
  unfolding lower
  tuple_under name None e = cc
  tuple_under name (Some ds) e = cc

  pub tuple_variant_other : (name : List ℕ) (ds : List (Option Data)) → tree_of s (tuple_variant_of name ds) ≢ Some msg.nil
  unfolding tuple_variant_of
  tuple_variant_other name ds = tuple_under name (parts_of ds)

  struct_under : (name : List ℕ) (o : Option Fields) → tree_of s (option_map (struct_variant name) o) ≢ Some msg.nil
  unfolding lower
  struct_under name None e = cc
  struct_under name (Some x) e = cc

  pub struct_variant_other : (name : List ℕ) (fs : List (List ℕ × Option Data)) → tree_of s (struct_variant_of name fs) ≢ Some msg.nil
  unfolding struct_variant_of
  struct_variant_other name fs = struct_under name (fields_of fs)
