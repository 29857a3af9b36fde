use Rattle.rmp_decode.proofs.NextMessage.{next_refused}
use Rattle.rmp_decode.proofs.deserializer.Deserializer.next.Goals as goal

pub returns-in-Err-deserialize-clause-law : goal.returns-in-Err-deserialize-clause-law
returns-in-Err-deserialize-clause-law g c =
    let s = rw c.in-Ok-true.field-0-test at c.in-Ok-true.ensures in
    next_refused g.R.Source _ c.args.self.now c.finds_next.new.self c.deserialize.new.de s c.in-Err-deserialize.e c.in-Err-deserialize.ensures.law
