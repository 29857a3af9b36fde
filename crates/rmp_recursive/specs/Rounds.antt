-- What recursive types share that are read as they were written.
use Rattle.std.proofs.Common.{◌≡◌, refl, ap, List, [], ◌∷◌, map, All, Option, None, Some}
use Rattle.std.specs.Prelude.{IfSome, IsSome, IsSomeAnd}
use Rattle.std.proofs.lemmas.List.Elements.{All-head, All-tail}
use Rattle.rmp_wire.specs.Msg.{Msg}
use Rattle.rmp_encode.specs.Data.{Data, wrapped}
use Rattle.rmp_encode.specs.Trees.{tree_of, parts_of, option_of, wrapped_of}
use Rattle.rmp_encode.specs.declared.settings.Settings.{Settings}
use Rattle.rmp_round_trip.specs.RoundTrip.{Alike, AlikeOption, LowersTo}
use Rattle.rmp_round_trip.specs.Rounds.{mapped_some, parts_cons}

pub each_data : {X : Type 0} (d : X → Option Data) (xs : List X) → All (λ x. IsSome (d x)) xs → IsSome (parts_of (map d xs))
each_data d [] h = refl
each_data d (x ∷ xs) h =
    parts_cons (d x) (map d xs) (All-head (λ y. IsSome (d y)) x xs h) (each_data d xs (All-tail (λ y. IsSome (d y)) x xs h))

pub option_data : {X : Type 0} (d : X → Option Data) (o : Option X) → IfSome o (λ x. IsSome (d x)) → IsSome (option_of d o)
option_data d None h = refl
option_data d (Some x) h = mapped_some wrapped (d x) h

pub lowers_as : (s : Settings) (d : Option Data) (P Q : Msg → Type 0) → ((m : Msg) → P m → Q m) → LowersTo s d P → LowersTo s d Q
lowers_as s d P Q f h = go (tree_of s d) h
  where
    go : (o : Option Msg) → IsSomeAnd o P → IsSomeAnd o Q
    go None h = absurd h
    go (Some m) h = f m h

-- values of the same content are written alike
pub map_alike : {X : Type 0} (d : X → Option Data) (xs ys : List X) → Alike (λ x y. d x ≡ d y) xs ys → map d xs ≡ map d ys
map_alike d [] [] h = refl
map_alike d [] (y ∷ ys) h = absurd h
map_alike d (x ∷ xs) [] h = absurd h
map_alike d (x ∷ xs) (y ∷ ys) h = λ i. (h.0 i) ∷ (map_alike d xs ys h.1 i)

pub option_alike : {X : Type 0} (d : X → Option Data) (o p : Option X) → AlikeOption (λ x y. d x ≡ d y) o p → option_of d o ≡ option_of d p
option_alike d None None h = refl
option_alike d None (Some y) h = absurd h
option_alike d (Some x) None h = absurd h
option_alike d (Some x) (Some y) h = ap wrapped_of h
