use Rattle.std.proofs.Common.{rules, sym, subst, arith, None, IsSome}
use Rattle.rmp_decode.proofs.Places.{later, held_all}
use Rattle.rmp_decode.proofs.de.arrays.values_of.Goals as goal

pub from_fn-requires : goal.from_fn-requires
from_fn-requires g c = (
  search rules,
  record {
    at = λ xs t q x u ys fs st.
        let l = later (λ p. p.0) _ (λ p i y q k. (search rules, search rules)) _ xs 0 t _ q ys fs x (omega (arith, st.1)) in
        (search rules, (search rules, subst IsSome (sym l.1) (c.requires x None (search rules))));
  },
)

pub returns : goal.returns
returns g c = held_all (λ p. p.0) _ (λ p i y q k. (search rules, search rules)) _ _ c.from_fn.result c.from_fn.ensures.items.long (search rules)
    c.from_fn.ensures.items.each
