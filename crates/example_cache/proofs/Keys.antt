-- One message, one key.
use Rattle.std.proofs.Common.{◌≡◌, ◌≢◌, ℕ, List, true, Option, None, Some, sym, ◌∙◌, ap, subst}
use Rattle.std.specs.Prelude.{IfSome}
use Rattle.std.specs.Cmp.Lexicographic.{slice_cmp}
use Rattle.std.specs.Ordering.{is_eq, nat_cmp}
use Rattle.std.proofs.lemmas.Map.Text.{is_eq-slice_cmp}
use Rattle.std.proofs.lemmas.Slice.Eq.{bytes_eq-Decides}
use Rattle.rmp_wire.specs.Msg.{Msg, nil}
use Rattle.rmp_wire.specs.Spelling.{canon, Fits, Spells}
use Rattle.rmp_wire.proofs.Spellings.{canon_spells}
use Rattle.rmp_encode.specs.Calls.{IsSpelled}

or_nil : Option Msg → Msg
or_nil None = nil
or_nil (Some m) = m

-- what holds of the bytes that spell a tree holds of its canonical spelling
pub at_tree : (t : Option Msg) (bytes : List ℕ) (P : List ℕ → Type 0) → IsSpelled t bytes → P bytes → IfSome t (λ m. P (canon m))
unfolding or_nil
at_tree None bytes P s p = tt
at_tree (Some m) bytes P s p = subst P (s.canonical ∙ ap canon (sym (ap or_nil s.is))) p

-- another tree has another spelling
pub differ_from : (t : Option Msg) (bytes : List ℕ) (n : Msg) → IsSpelled t bytes → Fits n → t ≢ Some n → bytes ≢ canon n
differ_from t bytes n s fits ne e = ne (s.is ∙ ap Some (sym (s.only n (subst (λ b. Spells b n) (sym e) (canon_spells n fits)))))

-- two keys that compare as equal are the same bytes
pub same_bytes : (xs ys : List ℕ) → is_eq (slice_cmp nat_cmp xs ys) ≡ true → xs ≡ ys
same_bytes xs ys e = (bytes_eq-Decides xs ys).0 (sym (is_eq-slice_cmp xs ys) ∙ e)

pub same_order : (xs ys zs : List ℕ) → xs ≡ ys → is_eq (slice_cmp nat_cmp xs zs) ≡ is_eq (slice_cmp nat_cmp ys zs)
same_order xs ys zs e = ap (λ l. is_eq (slice_cmp nat_cmp l zs)) e
