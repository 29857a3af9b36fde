-- The pairs of a map, from its keys and values in turn.
use Rattle.std.proofs.Common.{◌≡◌, ℕ, refl, ap, ◌∷◌}
use Rattle.rmp_wire.specs.declared.head.Head.TheVariants.{Map}
use Rattle.rmp_wire.specs.Msg.{Msg, nil, truth, whole, float32, float64, text, bin, list, map, extension, Pairs, no_pairs, pair, items_of, pairs_of}
use Rattle.rmp_wire.specs.Spelling.{head_of}
use Rattle.rmp_serde.specs.PairsLeft.{by_twos, pairs_in_turn}
use Rattle.rmp_serde.specs.Parts.{parts_in_turn}
use Rattle.rmp_serde.specs.Tokens.{flat_pairs}

twos_of_pairs : (ps : Pairs) → by_twos (items_of (flat_pairs ps)) ≡ pairs_of ps
twos_of_pairs no_pairs = refl
twos_of_pairs (pair k v ps) = ap (λ l. (k, v) ∷ l) (twos_of_pairs ps)

-- the keys and values of a map in turn, two by two, are its pairs
pub turn_of_map : (m : Msg) (n : ℕ) → Map n ≡ head_of m → by_twos (parts_in_turn m) ≡ pairs_in_turn m
turn_of_map nil n e = refl
turn_of_map (truth t) n e = refl
turn_of_map (whole z) n e = refl
turn_of_map (float32 b) n e = refl
turn_of_map (float64 b) n e = refl
turn_of_map (text s) n e = refl
turn_of_map (bin s) n e = refl
turn_of_map (list ms) n e = absurd cc
turn_of_map (map ps) n e = twos_of_pairs ps
turn_of_map (extension tag s) n e = refl
