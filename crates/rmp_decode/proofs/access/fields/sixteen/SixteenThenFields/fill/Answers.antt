use Rattle.rmp_decode.proofs.Fields.{if_some, or_left, or_right}
use Rattle.rmp_decode.proofs.access.fields.sixteen.SixteenThenFields.fill.Goals as goal

pub returns-clause-ok : goal.returns-clause-ok
returns-clause-ok g c = λ t. let f = c.fill.ensures.ok t in record { took = f.took; filled = f.filled }

pub returns-clause-err : goal.returns-clause-err
returns-clause-err g c = λ n. if_some c.fill.new.refusal (λ e. or_right (λ f. record { full = f.full; same = f.same })) (c.fill.ensures.err n)

pub returns-clause-refused : goal.returns-clause-refused
returns-clause-refused g c = λ n. if_some c.fill.new.refusal (λ e. or_left (λ p. (p.0, record { full = p.1.full; same = p.1.same })))
    (c.fill.ensures.refused n)
