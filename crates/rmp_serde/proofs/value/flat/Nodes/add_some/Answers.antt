use Rattle.std.proofs.Common.{arith, ◌∙◌, sym, ap, ◌+◌, ◌<◌, [], ◌∷◌, ◌++◌, length, take, drop, append_assoc}
use Rattle.rmp_serde.specs.Flat.{heads_of, token_in}
use Rattle.rmp_serde.proofs.Making.{one_more}
use Rattle.rmp_serde.proofs.value.flat.Nodes.add_some.Goals as goal

pub loop-i-preserved : goal.loop-i-preserved
loop-i-preserved c =
    let from = c.args.from.now in
    let b = from.bytes.items in
    let at = c.args.at in
    let i = c.loop-i.i in
    let node = c.index.result.now in
    let there : at + i < length from.nodes.items = c.requires.there i (omega (arith, c.loop-i-test.true)) in (
      c.in_ok-add.ensures.ok ∙ ap (λ z. z ++ token_in b node ∷ []) c.loop-i.invariant.0
          ∙ append_assoc (heads_of c.args.self.now) (take i (drop at (heads_of from))) (token_in b node ∷ [])
          ∙ ap (λ z. heads_of c.args.self.now ++ z) (sym (one_more b from.nodes.items at i node there c.index.ensures)),
      c.in_ok-add.ensures.within,
    )
