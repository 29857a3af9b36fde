-- What the bytes of a whole value are.
use Rattle.std.proofs.Common.{◌≡◌, ℕ, List, [], Option, None, Some, ◌++◌, refl, sym, ◌∙◌, ap, subst}
use Rattle.std.specs.Prelude.{Result, Ok, Err, OnOk}
use Rattle.rmp_wire.specs.Msg.{Msg}
use Rattle.rmp_wire.proofs.Spellings.{canon_spells, canon_least}
use Rattle.rmp_wire.proofs.Unique.{spelled_once}
use Rattle.rmp_wire.specs.Spelling.{canon}
use Rattle.rmp_encode.specs.Calls.{IsSpelled}
use Rattle.rmp_encode.specs.Trees.{HasTree, spell}

-- the spelling of a tree that is there
pub spelled : (t : Option Msg) → HasTree t → IsSpelled t (spell t)
unfolding HasTree spell
spelled None h = absurd h
spelled (Some m) h = record {
  tree = m;
  is = refl;
  fits = h;
  canonical = refl;
  spells = canon_spells m h;
  only = λ n s. (spelled_once n m (canon m) (canon m) [] [] s (canon_spells m h) refl).1;
  least = λ b s. canon_least m b s;
}

pub spelled_as : (t : Option Msg) (bytes : List ℕ) → HasTree t → bytes ≡ spell t → IsSpelled t bytes
spelled_as t bytes h e = subst (IsSpelled t) (sym e) (spelled t h)

pub on_spelled : {A E : Type 0} (t : Option Msg) (r : Result A E) → OnOk r (HasTree t) → OnOk r (IsSpelled t (spell t))
on_spelled t (Ok u) h = spelled t h
on_spelled t (Err e) h = tt

-- what a `Vec` that held nothing holds
pub vec_spelled : {t t' : Option Msg} (before after : List ℕ) → t' ≡ t → before ≡ [] → HasTree t' → after ≡ before ++ spell t' → IsSpelled t after
vec_spelled {t} {t'} before after e none h k = subst (λ x. IsSpelled x after) e (spelled_as t' after h (k ∙ ap (λ l. l ++ spell t') none))
