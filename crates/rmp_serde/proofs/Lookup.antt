-- Keys of maps: which messages are one, and how deep its value nests.
use Rattle.std.proofs.Common.{◌≡◌, ◌∙◌, sym, ap, ℕ, ◌≤◌, ◌<◌, Bool, true, false, List, arith, subst, IsTrue, ◌↔◌, Option, Some, None, IfSome}
use Rattle.std.specs.Prelude.{option_map, if◌then◌else◌, suc}
use Rattle.std.specs.List.{find}
use Rattle.rmp_wire.specs.Msg.{Msg, nil, truth, whole, float32, float64, text, bin, list, map, extension}
use Rattle.rmp_wire.specs.Msg.{Pairs, no_pairs, pair, pairs_of, depth, depth_pairs}
use Rattle.rmp_serde.specs.Equal.{msg_eq}
use Rattle.rmp_serde.specs.Found.{value_in, value_of}
use Rattle.rmp_serde.specs.Parts.{tree, text_of}
use Rattle.rmp_serde.proofs.PathSteps.{is_text}
use Rattle.rmp_serde.proofs.Same.{msg_eq_from}
use Rattle.rmp_serde.specs.declared.value.reference.ValueRef.{ValueRef}

-- a bound on the depth may be raised
more_room : (o : Option Msg) (a b : ℕ) → a ≤ b → IfSome o (λ v. depth v ≤ a) → IfSome o (λ v. depth v ≤ b)
more_room None a b l h = tt
more_room (Some v) a b l h = omega (arith, l, h)

-- the value of this pair, or what is found after it
one_of : (b : Bool) (k v : Msg) (o : Option (Msg × Msg)) (a : ℕ) → depth v ≤ a → IfSome (option_map (λ p. p.1) o) (λ v. depth v ≤ a)
    → IfSome (option_map (λ p. p.1) (if b then Some (k, v) else o)) (λ v. depth v ≤ a)
one_of true k v o a l h = l
one_of false k v o a l h = h

shallow_in : (ps : Pairs) (key : List ℕ) → IfSome (value_in (pairs_of ps) key) (λ v. depth v ≤ depth_pairs ps)
shallow_in no_pairs key = tt
shallow_in (pair k v ps) key =
    let rest = more_room (value_in (pairs_of ps) key) (depth_pairs ps) (depth_pairs (pair k v ps)) (omega arith) (shallow_in ps key) in
    one_of (msg_eq k (text key)) k v (find (λ p. msg_eq p.0 (text key)) (pairs_of ps)) (depth_pairs (pair k v ps)) (omega arith) rest

-- the value of a key nests less deep than the map
pub value_shallow : (m : Msg) (key : List ℕ) → IfSome (value_of m key) (λ v. depth v < depth m)
value_shallow nil key = tt
value_shallow (truth t) key = tt
value_shallow (whole z) key = tt
value_shallow (float32 n) key = tt
value_shallow (float64 n) key = tt
value_shallow (text s) key = tt
value_shallow (bin s) key = tt
value_shallow (list ms) key = tt
value_shallow (map ps) key = below (value_in (pairs_of ps) key) (depth_pairs ps) (shallow_in ps key)
  where
    below : (o : Option Msg) (a : ℕ) → IfSome o (λ v. depth v ≤ a) → IfSome o (λ v. depth v < suc a)
    below None a h = tt
    below (Some v) a h = omega (arith, h)
value_shallow (extension tag s) key = tt

pub shallow_found : (o : Option ValueRef) (m : Msg) (key : List ℕ) → option_map tree o ≡ value_of m key → IfSome o (λ v. depth (tree v) < depth m)
shallow_found None m key e = tt
shallow_found (Some v) m key e = subst (λ q. IfSome q (λ w. depth w < depth m)) (sym e) (value_shallow m key)

-- ---- whether a message is a key

pub is_this_key : (m : Msg) (s key : List ℕ) (r : Bool) → Some s ≡ text_of m → IsTrue r ↔ (key ≡ s) → r ≡ msg_eq m (text key)
is_this_key m s key r e h =
    let is = is_text m s e in
    msg_eq_from r m (text key) (λ t. is ∙ ap text (sym (h.0 t)), λ same. let both : text s ≡ text key = sym is ∙ same in h.1 (cc))

pub is_no_key : (m : Msg) (key : List ℕ) → None ≡ text_of m → false ≡ msg_eq m (text key)
is_no_key m key e = msg_eq_from false m (text key) (λ f. absurd cc, λ same. absurd (let none : None ≡ text_of (text key) = e ∙ ap text_of same in cc))
