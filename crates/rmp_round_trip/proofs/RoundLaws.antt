-- What is written is read back, and what a tree is read as depends on the tree alone.
use Rattle.std.proofs.Common.{◌≡◌, ℕ, List, ◌++◌, Option, None, Some, refl, sym, ◌∙◌, ap, subst}
use Rattle.std.specs.Prelude.{◌<◌, IsSomeAnd}
use Rattle.rmp_wire.specs.Canonical.{IsCanonical}
use Rattle.rmp_wire.specs.Msg.{Msg, depth}
use Rattle.rmp_wire.specs.Spelling.{Spells, canon, Fits}
use Rattle.rmp_wire.proofs.Canonical.{canonical_iff}
use Rattle.rmp_wire.proofs.Unique.{spelled_once}
use Rattle.rmp_encode.specs.Calls.{IsSpelled}
use Rattle.rmp_decode.specs.Law.{Begins}
use Rattle.rmp_round_trip.specs.RoundTrip.{Only}

tree_or : Msg → Option Msg → Msg
tree_or m None = m
tree_or m (Some n) = n

pub some_is : {a b : Msg} → Some a ≡ Some b → a ≡ b
unfolding tree_or
some_is {a} {b} e = ap (tree_or a) e

canonical_again : (t : Option Msg) (m : Msg) (b : List ℕ) → t ≡ Some m → (i : IsSpelled t b) → IsCanonical b m
canonical_again t m b e i =
    let same = some_is (sym i.is ∙ e) in
    (canonical_iff b m).1 (subst Fits same i.fits, i.canonical ∙ ap canon same)

module _ {V : Type 0} (reads : Msg → V → Type 0) where
  pub read_back : (t : Option Msg) (v : V) (b x : List ℕ) (room : ℕ) → IsSomeAnd t (λ m. reads m v) → IsSpelled t b → IsSomeAnd t (λ m. depth m < room)
      → Begins Spells (λ m. reads m v) room (b ++ x)
  read_back None v b x room h i d = absurd h
  read_back (Some m) v b x room h i d =
      record { bytes = b; rest = x; tree = m; front = refl; spelled = subst (Spells b) (some_is (sym i.is)) i.spells; fits = d; holds = h }

  pub read_strictly : (t : Option Msg) (v : V) (b x : List ℕ) (room : ℕ) → IsSomeAnd t (λ m. reads m v) → IsSpelled t b
      → IsSomeAnd t (λ m. depth m < room) → Begins IsCanonical (λ m. reads m v) room (b ++ x)
  read_strictly None v b x room h i d = absurd h
  read_strictly (Some m) v b x room h i d =
      record { bytes = b; rest = x; tree = m; front = refl; spelled = canonical_again (Some m) m b refl i; fits = d; holds = h }

  -- another spelling of the same tree is read alike
  pub read_alike : (room : ℕ) (a b x y : List ℕ) (m : Msg) (v : V) → Spells a m → Spells b m → Begins Spells (λ k. reads k v) room (a ++ x)
      → Begins Spells (λ k. reads k v) room (b ++ y)
  read_alike room a b x y m v h i r =
      let u = spelled_once r.tree m r.bytes a r.rest x r.spelled h (sym r.front) in
      record {
        bytes = b;
        rest = y;
        tree = m;
        front = refl;
        spelled = i;
        fits = subst (λ k. depth k < room) u.1 r.fits;
        holds = subst (λ k. reads k v) u.1 r.holds;
      }

-- what spells a tree at the front of what was written is what was written
pub written_once : (t : Option Msg) (b x c y : List ℕ) (m : Msg) → IsSpelled t b → Spells c m → b ++ x ≡ c ++ y → (t ≡ Some m) × (c ≡ b) × (y ≡ x)
written_once t b x c y m i h e =
    let u = spelled_once i.tree m b c x y i.spells h e in
    (i.is ∙ ap Some u.1, sym u.0, sym u.2)

only_there : {V : Type 0} (reads : Msg → V → Type 0) (same : V → V → Type 0) (t : Option Msg) (m : Msg) (v w : V) → IsSomeAnd t (λ k. Only reads same k v)
    → t ≡ Some m → reads m w → same v w
only_there reads same None m v w h e r = absurd h
only_there reads same (Some k) m v w h e r = h w (subst (λ j. reads j w) (sym (some_is e)) r)

-- whatever it is read as is that value, and what follows is left
pub read_only : {V : Type 0} (reads : Msg → V → Type 0) (same : V → V → Type 0) (t : Option Msg) (v w : V) (b x c y : List ℕ) (m : Msg)
    → IsSomeAnd t (λ k. Only reads same k v) → IsSpelled t b → Spells c m → b ++ x ≡ c ++ y → reads m w → same v w × (y ≡ x)
read_only reads same t v w b x c y m h i p e r =
    let u = written_once t b x c y m i p e in
    (only_there reads same t m v w h u.0 r, u.2)
