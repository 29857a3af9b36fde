-- What is read from the very bytes that are written of it.
use Rattle.std.proofs.Common.{◌≡◌, ◌≢◌, ◌∙◌, true, sym, ap, subst, ℕ, suc, List, [], Option, Result, Ok, Err, MatchResult}
use Rattle.std.specs.Prelude.{◌<◌, IfErr, IfOk, IsSomeAnd}
use Rattle.std.proofs.lemmas.List.{append-nil}
use Rattle.rmp_decode.specs.Law.{Begins, Readable}
use Rattle.rmp_encode.specs.Calls.{IsSpelled, ToVecFails}
use Rattle.rmp_encode.specs.Data.{Data}
use Rattle.rmp_encode.specs.Trees.{HasTree, tree_of}
use Rattle.rmp_encode.specs.declared.error.Error.{Error}
use Rattle.rmp_encode.specs.declared.error.Error.TheVariants as errors
use Rattle.rmp_encode.specs.declared.settings.Settings.{Settings}
use Rattle.rmp_wire.specs.Canonical.{IsCanonical}
use Rattle.rmp_wire.specs.Msg.{Msg, depth}
use Rattle.rmp_wire.specs.Spelling.{canon, Fits}
use Rattle.rmp_wire.proofs.Strict.{spells_any}
use Rattle.rmp_serde.specs.Otherwise.{DifferAt, IsOtherwise}
use Rattle.rmp_round_trip.proofs.RoundLaws.{read_only, read_strictly, some_is}
use Rattle.rmp_round_trip.specs.RoundTrip.{LowersTo, Only}

spelled_alike : (t : Option Msg) (a b : List ℕ) → IsSpelled t a → IsSpelled t b → a ≡ b
spelled_alike t a b i j = i.canonical ∙ ap canon (some_is (sym i.is ∙ j.is)) ∙ sym j.canonical

-- `to_vec` refuses what has a tree only where memory runs out
pub fails_without : (t : Option Msg) (e : Error) → ToVecFails t e → e ≢ errors.OutOfMemory → HasTree t → ⊥
fails_without t (errors.InvalidValueWrite w) f n h = f
fails_without t errors.UnknownLength f n h = f
fails_without t (errors.InvalidDataModel d) f n h = f.1 h
fails_without t errors.DepthLimitExceeded f n h = f
fails_without t (errors.Syntax d) f n h = f h
fails_without t errors.OutOfMemory f n h = n (λ i. errors.OutOfMemory)

has_tree : (t : Option Msg) (b : List ℕ) → IsSpelled t b → HasTree t
unfolding HasTree
has_tree t b i = subst (λ u. IsSomeAnd u Fits) (sym i.is) i.fits

-- what is known of either answer
pub either : {A E : Type 0} (P : A → Type 0) (Q : E → Type 0) (r : Result A E) → IfOk r P → IfErr r Q → MatchResult r P Q
either P Q (Ok x) h i = h
either P Q (Err e) h i = i

module _ {V : Type 0} (reads : Msg → V → Type 0) (same : V → V → Type 0) (s : Settings) (lowered : V → Option Data) (input : List ℕ) where
  -- a value that is written so is read
  pub read_of : (v : V) (room : ℕ) → LowersTo s (lowered v) (λ m. reads m v) → LowersTo s (lowered v) (λ m. depth m < room) → IsSpelled (tree_of s (lowered v)) input
      → Begins IsCanonical (Readable reads) room input
  read_of v room h d i =
      let r = read_strictly reads (tree_of s (lowered v)) v input [] room h i d in
      record {
        bytes = r.bytes;
        rest = r.rest;
        tree = r.tree;
        front = sym (append-nil input) ∙ r.front;
        spelled = r.spelled;
        fits = r.fits;
        holds = (v, r.holds);
      }

  -- a value was read
  pub readable : (v : V) (room : ℕ) → Begins IsCanonical (λ m. reads m v) room input → Begins IsCanonical (Readable reads) room input
  readable v room r = record { bytes = r.bytes; rest = r.rest; tree = r.tree; front = r.front; spelled = r.spelled; fits = r.fits; holds = (v, r.holds) }

  -- what was read instead has its content
  pub read_same : (v w : V) (room : ℕ) → LowersTo s (lowered v) (λ m. Only reads same m v) → IsSpelled (tree_of s (lowered v)) input
      → Begins IsCanonical (λ m. reads m w) room input → same v w
  read_same v w room h i r =
      (read_only reads same (tree_of s (lowered v)) v w input [] r.bytes r.rest r.tree h i (spells_any true r.tree r.bytes r.spelled)
      (append-nil input ∙ r.front) r.holds).0

  -- and is written so too, since it is written alike
  pub written_else : {B : Type 0} (items : B → List ℕ) (v w : V) (written : Result B Error) → lowered w ≡ lowered v → IsSpelled (tree_of s (lowered v)) input
      → MatchResult written (λ b. IsSpelled (tree_of s (lowered w)) (items b)) (ToVecFails (tree_of s (lowered w)))
      → MatchResult written (λ b. items b ≢ input) (λ e. e ≢ errors.OutOfMemory) → ⊥
  written_else items v w (Ok b) e i p n = n (spelled_alike (tree_of s (lowered v)) (items b) input (subst (λ d. IsSpelled (tree_of s d) (items b)) e p) i)
  written_else items v w (Err x) e i p n =
      fails_without (tree_of s (lowered w)) x p n (subst (λ d. HasTree (tree_of s d)) (sym e) (has_tree (tree_of s (lowered v)) input i))

  -- where what was written differs from the input, or that nothing is written
  pub otherwise : {B : Type 0} (items : B → List ℕ) (w : V) (position : ℕ) (written : Result B Error)
      → MatchResult written (λ b. IsSpelled (tree_of s (lowered w)) (items b)) (ToVecFails (tree_of s (lowered w)))
      → MatchResult written (λ b. (at : ℕ) × (position ≡ suc at) × DifferAt (items b) input at) (λ _. position ≡ 0)
      → MatchResult written (λ b. items b ≢ input) (λ e. e ≢ errors.OutOfMemory) → IsOtherwise (tree_of s (lowered w)) input position
  otherwise items w position (Ok b) p d n = subst (IsOtherwise (tree_of s (lowered w)) input) (sym d.1) (items b, p, d.2)
  otherwise items w position (Err x) p d n =
      subst (IsOtherwise (tree_of s (lowered w)) input) (sym d) (λ h. fails_without (tree_of s (lowered w)) x p n h)
