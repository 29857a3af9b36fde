-- The names of fields, one after another.
use Rattle.std.proofs.Common.{◌≡◌, ◌∙◌, sym, ap, refl, inl, inr, ◌⊎◌, arith, ◌+◌, ◌<◌, ◌≤◌, ℕ, suc, List, [], ◌∷◌, drop, length, get_or, cond, true}
use Rattle.std.proofs.Common.{false, Option, None, Some, Bor, Bool, ℤ, pos, negsuc, nat_lt, nat_abs}
use Rattle.std.specs.Int.Signed.{lt_z}
use Rattle.std.specs.Option.{option_map}
use Rattle.std.specs.Str.{bytes_eq}
use Rattle.std.proofs.lemmas.List.{drop_more, drop_all}
use Rattle.rmp_decode.specs.Names.{bytes_of, place_of, place_below, name_of, IsNameHead}
use Rattle.rmp_wire.specs.Msg.{Msg, nil, truth, whole, float32, float64, text, bin, list, map, extension}
use Rattle.rmp_wire.specs.Spelling.{head_of}
use Rattle.rmp_decode.specs.Kinds.{raw_msg, raw_head}
use Rattle.rmp_wire.specs.declared.head.Head.{Head}
use Rattle.rmp_wire.specs.declared.head.Head.TheVariants as head
use Rattle.rmp_wire.specs.declared.head.Head.TheVariants.{Whole}

pub first_of_all : (z : ℕ) → z ≡ 0 → (o : Option ℕ) → o ≡ option_map (λ n. z + n) o
first_of_all z e None = refl
first_of_all z e (Some n) = ap (λ k. Some k) (omega (arith, e))

later : (i : ℕ) (o : Option ℕ) → option_map (λ n. i + n) (option_map suc o) ≡ option_map (λ n. i + 1 + n) o
later i None = refl
later i (Some n) = ap (λ k. Some k) (omega arith)

module _ (names : List (Bor (List ℕ))) (key : List ℕ) (i : ℕ) (d : Bor (List ℕ))
    (inv : place_of (bytes_of names) key ≡ option_map (λ n. i + n) (place_of (bytes_of (drop i names)) key)) where
  pub name_met : i < length names → bytes_eq (get_or names i d).now key ≡ true → Some i ≡ place_of (bytes_of names) key
  name_met l t = ap (λ k. Some k) (omega arith) ∙ sym
      (inv ∙ ap (λ z. option_map (λ n. i + n) (place_of (bytes_of z) key)) (drop_more names i d l)
      ∙ ap (λ b. option_map (λ n. i + n) (cond b (Some 0) (option_map suc (place_of (bytes_of (drop (i + 1) names)) key)))) t)

  pub name_passed : i < length names → bytes_eq (get_or names i d).now key ≡ false
      → place_of (bytes_of names) key ≡ option_map (λ n. i + 1 + n) (place_of (bytes_of (drop (i + 1) names)) key)
  name_passed l t = inv ∙ ap (λ z. option_map (λ n. i + n) (place_of (bytes_of z) key)) (drop_more names i d l)
      ∙ ap (λ b. option_map (λ n. i + n) (cond b (Some 0) (option_map suc (place_of (bytes_of (drop (i + 1) names)) key)))) t ∙ later i _

  pub name_unknown : length names ≤ i → None ≡ place_of (bytes_of names) key
  name_unknown l = sym (inv ∙ ap (λ z. option_map (λ n. i + n) (place_of (bytes_of z) key)) (drop_all i names l))

pub name_of_raw : (names : List (List ℕ)) (t : Bool) (s : List ℕ) → name_of names (raw_msg t s) ≡ Some (place_of names s)
name_of_raw names true s = refl
name_of_raw names false s = refl

-- what says something is a number, a text or bytes
pub is_key_of : (names : List (List ℕ)) (m : Msg) (o : Option ℕ) → name_of names m ≡ Some o
    → ((z : ℤ) × (head_of m ≡ Whole z)) ⊎ ((p : Bool × ℕ) × (head_of m ≡ raw_head p.0 p.1))
is_key_of names nil o e = absurd (cc)
is_key_of names (truth t) o e = absurd (cc)
is_key_of names (whole z) o e = inl (z, refl)
is_key_of names (float32 n) o e = absurd (cc)
is_key_of names (float64 n) o e = absurd (cc)
is_key_of names (text s) o e = inr ((true, length s), refl)
is_key_of names (bin s) o e = inr ((false, length s), refl)
is_key_of names (list ms) o e = absurd (cc)
is_key_of names (map ps) o e = absurd (cc)
is_key_of names (extension tag s) o e = absurd (cc)

pub length_bytes : (names : List (Bor (List ℕ))) → length (bytes_of names) ≡ length names
length_bytes [] = refl
length_bytes (s ∷ names) = ap suc (length_bytes names)

pub below_length : (names : List (Bor (List ℕ))) (z : ℤ) (o : Option (Option ℕ)) → o ≡ place_below (length names) z
    → place_below (length (bytes_of names)) z ≡ o
below_length names z o e = ap (λ n. place_below n z) (length_bytes names) ∙ sym e

pub below_none : (n : ℕ) (z : ℤ) → lt_z z (pos 0) ≡ true → None ≡ place_below n z
below_none n (pos k) e = absurd (grind (arith, e))
below_none n (negsuc k) e = refl

pub below_some : (n : ℕ) (z t : ℤ) → t ≡ z → lt_z z (pos 0) ≡ false → lt_z z (pos n) ≡ true → Some (Some (nat_abs t)) ≡ place_below n z
below_some n (pos k) t s e l = let h : nat_lt k n ≡ true = l in ap (λ y. Some (Some (nat_abs y))) s ∙ ap (λ b. Some (cond b (Some k) None)) (sym h)
below_some n (negsuc k) t s e l = absurd (let h : true ≡ false = e in cc)

pub below_past : (n : ℕ) (z : ℤ) → lt_z z (pos 0) ≡ false → lt_z z (pos n) ≡ false → Some None ≡ place_below n z
below_past n (pos k) e l = let h : nat_lt k n ≡ false = l in ap (λ b. Some (cond b (Some k) None)) (sym h)
below_past n (negsuc k) e l = absurd (let h : true ≡ false = e in cc)

-- ---- heads that aren't wanted

pub name_wanted : (t : Bool) (n : ℕ) → IsNameHead (raw_head t n)
name_wanted true n = tt
name_wanted false n = tt

pub no_name_head : (h : Head) → ((p : Bool × ℕ) → h ≡ raw_head p.0 p.1 → ⊥) → ((z : ℤ) → h ≡ Whole z → ⊥) → IsNameHead h → ⊥
no_name_head head.Nil f g w = w
no_name_head (head.Truth t) f g w = w
no_name_head (head.Whole z) f g w = g z refl
no_name_head (head.F32Bits n) f g w = w
no_name_head (head.F64Bits n) f g w = w
no_name_head (head.Text n) f g w = f (true, n) refl
no_name_head (head.Bin n) f g w = f (false, n) refl
no_name_head (head.Array n) f g w = w
no_name_head (head.Map n) f g w = w
no_name_head (head.Ext n tag) f g w = w

pub no_negative_head : (many : ℕ) (z : ℤ) → None ≡ place_below many z → IsNameHead (Whole z) → ⊥
no_negative_head many (pos n) e w = absurd (cc)
no_negative_head many (negsuc n) e w = w

-- what says a name has a head that is wanted
pub name_only : (names : List (List ℕ)) (m : Msg) (o : Option ℕ) → name_of names m ≡ Some o → IsNameHead (head_of m)
name_only names nil o e = absurd (cc)
name_only names (truth t) o e = absurd (cc)
name_only names (whole (pos n)) o e = tt
name_only names (whole (negsuc n)) o e = absurd (cc)
name_only names (float32 n) o e = absurd (cc)
name_only names (float64 n) o e = absurd (cc)
name_only names (text s) o e = tt
name_only names (bin s) o e = tt
name_only names (list ms) o e = absurd (cc)
name_only names (map ps) o e = absurd (cc)
name_only names (extension tag s) o e = absurd (cc)
