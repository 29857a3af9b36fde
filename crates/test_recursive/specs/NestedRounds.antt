-- Lists in one another are read as they were written, and as nothing else, and none of them is nil.
use Rattle.std.proofs.Common.{◌≡◌, ◌∙◌, refl, sym, ap, subst, map}
use Rattle.std.specs.Prelude.{◌≢◌, IsSome, Some}
use Rattle.rmp_wire.specs.Msg.{nil}
use Rattle.rmp_encode.specs.Trees.{tree_of, slice_of}
use Rattle.rmp_encode.specs.declared.settings.Settings.{Settings}
use Rattle.rmp_decode.specs.Rows.{ReadsEach}
use Rattle.rmp_round_trip.specs.OnlyRows.{list_only, lowers_then}
use Rattle.rmp_round_trip.specs.RoundTrip.{LowersTo, Only}
use Rattle.rmp_round_trip.specs.Rounds.{slice_some, each_row, slice_row, slice_other}
use Rattle.rmp_recursive.specs.Parts.{Row}
use Rattle.rmp_recursive.specs.Rounds.{each_data, lowers_as, map_alike}
use Rattle.test_recursive.specs.declared.recursive.Nested.{Nested, out-Nested}
use Rattle.test_recursive.specs.NestedLevels.{IsNested, nested_data, nested_is, nested_made, nested_out, nested_induction}

-- ---- no value is refused

pub nested_some : (v : Nested) → IsSome (nested_data v)
nested_some = nested_induction (λ v. IsSome (nested_data v))
    (λ v h. subst IsSome (sym (nested_is v)) (slice_some (map nested_data (out-Nested v).sub.items) (each_data nested_data (out-Nested v).sub.items h)))

-- ---- values of the same content: they are written alike

abbrev pub SameNested : Nested → Nested → Type 0
SameNested v w = nested_data v ≡ nested_data w

module _ (s : Settings) where
  -- ---- what a value lowers to is read as that value

  pub nested_round : (v : Nested) → LowersTo s (nested_data v) (λ m. IsNested m v)
  nested_round = nested_induction (λ v. LowersTo s (nested_data v) (λ m. IsNested m v))
      (λ v h.
      let vs = (out-Nested v).sub.items in
      subst (λ d. LowersTo s d (λ m. IsNested m v)) (sym (nested_is v))
      (lowers_as s (slice_of (map nested_data vs)) (λ m. Row IsNested m vs) (λ m. IsNested m v) (nested_made v vs refl)
      (slice_row s (map nested_data vs) (λ ms. ReadsEach IsNested ms vs)
      (each_row s nested_data (λ w. LowersTo s (nested_data w) (λ m. IsNested m w)) IsNested (λ w p. p) vs h))))

  -- ---- and as nothing else

  abbrev NestedOnly : Nested → Type 0
  NestedOnly v = LowersTo s (nested_data v) (λ m. Only IsNested SameNested m v)

  pub nested_only : (v : Nested) → NestedOnly v
  nested_only = nested_induction NestedOnly
      (λ v h.
      let vs = (out-Nested v).sub.items in
      let row = list_only s (slice_of (map nested_data vs)) (λ w. (out-Nested w).sub.items) IsNested SameNested vs
      (slice_row s (map nested_data vs) (λ ms. ReadsEach (Only IsNested SameNested) ms vs)
      (each_row s nested_data NestedOnly (Only IsNested SameNested) (λ w p. p) vs h)) in
      subst (λ d. LowersTo s d (λ m. Only IsNested SameNested m v)) (sym (nested_is v))
      (lowers_then s (slice_of (map nested_data vs)) _ (λ m. Only IsNested SameNested m v) row
      (λ m q w r. nested_is v ∙ ap slice_of (map_alike nested_data vs (out-Nested w).sub.items (q w (nested_out m w r))) ∙ sym (nested_is w))))

  -- ---- it is never nil

  pub nested_other : (v : Nested) → tree_of s (nested_data v) ≢ Some nil
  nested_other v e = slice_other s (map nested_data (out-Nested v).sub.items) (ap (tree_of s) (sym (nested_is v)) ∙ e)
