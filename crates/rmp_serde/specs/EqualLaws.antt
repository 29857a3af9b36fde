-- The equality of trees is an equivalence.
use Rattle.std.specs.Prelude.{Bool, true, false, ◌&&◌}
use Rattle.std.proofs.Common.{◌≡◌, ◌∙◌, ap, sym, refl}
use Rattle.std.proofs.lemmas.Bool.{eqb-true, eq-eqb}
use Rattle.std.specs.Cmp.{IsEquivalence, both_ways}
use base.Stored.{Gv, gnil, gnum, gcons}
use Rattle.rmp_wire.specs.Msg.{Msg}
use Rattle.rmp_wire.specs.Stored.{store, msg_code}
use Rattle.rmp_serde.specs.Equal.{gv_eq, msg_eq}

both : (a b : Bool) → (a && b) ≡ true → (a ≡ true) × (b ≡ true)
both true b e = (refl, e)
both false b e = absurd cc

pub gv_eq-true : (x y : Gv) → gv_eq x y ≡ true → x ≡ y
gv_eq-true gnil gnil e = refl
gv_eq-true gnil (gnum n) e = absurd cc
gv_eq-true gnil (gcons c d) e = absurd cc
gv_eq-true (gnum m) gnil e = absurd cc
gv_eq-true (gnum m) (gnum n) e = ap gnum (eqb-true m n e)
gv_eq-true (gnum m) (gcons c d) e = absurd cc
gv_eq-true (gcons a b) gnil e = absurd cc
gv_eq-true (gcons a b) (gnum n) e = absurd cc
gv_eq-true (gcons a b) (gcons c d) e =
    let p = both (gv_eq a c) (gv_eq b d) e in
    λ i. gcons (gv_eq-true a c p.0 i) (gv_eq-true b d p.1 i)

pub gv_eq-refl : (x : Gv) → gv_eq x x ≡ true
gv_eq-refl gnil = refl
gv_eq-refl (gnum n) = eq-eqb n n refl
gv_eq-refl (gcons a b) = λ i. gv_eq-refl a i && gv_eq-refl b i

pub msg_eq-true : (x y : Msg) → msg_eq x y ≡ true → x ≡ y
msg_eq-true x y e = msg_code.inj x y (gv_eq-true (store x) (store y) e)

pub msg_eq-same : (x y : Msg) → x ≡ y → msg_eq x y ≡ true
msg_eq-same x y e = ap (msg_eq x) (sym e) ∙ gv_eq-refl (store x)

pub msg_eq_equiv : IsEquivalence msg_eq
msg_eq_equiv = record {
  refl = λ x. gv_eq-refl (store x);
  symm = λ x y. both_ways (msg_eq x y) (msg_eq y x) (λ e. msg_eq-same y x (sym (msg_eq-true x y e))) (λ e. msg_eq-same x y (sym (msg_eq-true y x e)));
  congr = λ x y z e. ap (λ w. msg_eq w z) (msg_eq-true x y e);
}
