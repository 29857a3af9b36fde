-- What recursive types share that hold lists or options of other types.
use Rattle.std.proofs.Common.{◌≡◌, refl, ap, List, [], ◌∷◌, map, Option, None, Some}
use Rattle.rmp_encode.specs.Data.{Data}
use Rattle.rmp_encode.specs.Trees.{option_of, wrapped_of}
use Rattle.rmp_round_trip.specs.RoundTrip.{Alike, AlikeOption}

-- values of the same content are written alike, where those in them are
module _ {X : Type 0} (d : X → Option Data) (same : X → X → Type 0) (f : (x y : X) → same x y → d x ≡ d y) where
  pub maps_alike_by : (xs ys : List X) → Alike same xs ys → map d xs ≡ map d ys
  maps_alike_by [] [] h = refl
  maps_alike_by [] (y ∷ ys) h = absurd h
  maps_alike_by (x ∷ xs) [] h = absurd h
  maps_alike_by (x ∷ xs) (y ∷ ys) h = λ i. (f x y h.0 i) ∷ (maps_alike_by xs ys h.1 i)

  pub option_alike_by : (o p : Option X) → AlikeOption same o p → option_of d o ≡ option_of d p
  option_alike_by None None h = refl
  option_alike_by None (Some y) h = absurd h
  option_alike_by (Some x) None h = absurd h
  option_alike_by (Some x) (Some y) h = ap wrapped_of (f x y h)
