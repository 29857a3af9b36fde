use Rattle.std.proofs.Common.{arith, ◌≡◌, ◌∙◌, ◌-◌, ap, suc}
use Rattle.rmp_serde.specs.Tokens.{row_from, past_items}
use Rattle.rmp_serde.proofs.value.reference.ValueRef.next.Goals as goal

pub returns-clause-next : goal.returns-clause-next
returns-clause-next c =
    let at : suc (c.args.self.at - 1) ≡ c.args.self.at = omega (arith, c.requires.part) in
    c.part_at-2.ensures.part ∙ c.part_at.ensures.past ∙ ap (λ z. past_items 1 (row_from c.args.self.value.now z)) at
