-- What Order is read from and written as, where a recursive type holds it. Written by tools/derive.py.
use Rattle.std.proofs.Common.{◌≡◌, refl, sym, ℕ, List, [], ◌∷◌, Option, Some}
use Rattle.std.specs.Prelude.{◌≢◌, ⊤, codes, IsSome}
use Rattle.rmp_wire.specs.Msg.{Msg, nil}
use Rattle.rmp_decode.specs.Variants.{OfVariant, Case, NoCase, Bare}
use Rattle.rmp_encode.specs.Data.{Data, unit_variant}
use Rattle.rmp_encode.specs.Trees.{tree_of}
use Rattle.rmp_encode.specs.declared.settings.Settings.{Settings}
use Rattle.rmp_round_trip.specs.OnlyFields.{AtPlace, AnyContent, variant_both}
use Rattle.rmp_round_trip.specs.OnlyRows.{lowers_then}
use Rattle.rmp_round_trip.specs.RoundTrip.{LowersTo}
use Rattle.rmp_round_trip.specs.VariantRounds.{bare_row, bare_other}
use Rattle.test_recursive.specs.declared.tasks.Order.{Order}
use Rattle.test_recursive.specs.declared.tasks.Order.TheVariants as the_order

abbrev pub order_names : List (List ℕ)
order_names = codes "Together" ∷ (codes "one-by-one" ∷ [])

abbrev pub order_data : Order → Option Data
order_data v = elim v [ the_order.Together ↦ Some (unit_variant (codes "Together")) | the_order.InTurn ↦ Some (unit_variant (codes "one-by-one")) ]

abbrev pub order_fits : Order → Type 0
order_fits v = elim v [ the_order.Together ↦ ⊤ | the_order.InTurn ↦ ⊤ ]

abbrev pub IsOrder : Msg → Order → Type 0
IsOrder m v = OfVariant order_names (Case (λ c. (v ≡ the_order.Together) × Bare c) (Case (λ c. (v ≡ the_order.InTurn) × Bare c) NoCase)) m

pub order_some : (v : Order) → IsSome (order_data v)
order_some the_order.Together = refl
order_some the_order.InTurn = refl

module _ (s : Settings) where
  pub order_other : (v : Order) → tree_of s (order_data v) ≢ Some nil
  order_other the_order.Together = bare_other s (codes "Together")
  order_other the_order.InTurn = bare_other s (codes "one-by-one")

  pub order_row : (v : Order) → order_fits v → LowersTo s (order_data v) (λ m. IsOrder m v)
  order_row the_order.Together fits = bare_row s order_names (codes "Together") 0 refl _ (refl, tt)
  order_row the_order.InTurn fits = bare_row s order_names (codes "one-by-one") 1 refl _ (refl, tt)

  pub order_only : (v : Order) → LowersTo s (order_data v) (λ m. (w : Order) → IsOrder m w → v ≡ w)
  order_only the_order.Together =
      lowers_then s (Some (unit_variant (codes "Together"))) (OfVariant order_names (AtPlace 0 AnyContent)) (λ m. (w : Order) → IsOrder m w
      → the_order.Together ≡ w)
      (bare_row s order_names (codes "Together") 0 refl (AtPlace 0 AnyContent) (refl, tt))
      (λ m q w r. variant_both order_names 0 AnyContent _ _ m q r (λ c a b. sym b.0))
  order_only the_order.InTurn =
      lowers_then s (Some (unit_variant (codes "one-by-one"))) (OfVariant order_names (AtPlace 1 AnyContent)) (λ m. (w : Order) → IsOrder m w
      → the_order.InTurn ≡ w)
      (bare_row s order_names (codes "one-by-one") 1 refl (AtPlace 1 AnyContent) (refl, tt))
      (λ m q w r. variant_both order_names 1 AnyContent _ _ m q r (λ c a b. sym b.0))
