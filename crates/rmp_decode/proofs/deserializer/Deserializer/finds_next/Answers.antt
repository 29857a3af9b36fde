use Rattle.std.proofs.Common.{rules}
use Rattle.rmp_decode.proofs.NextMessage.{sees_front, sees_number}
use Rattle.rmp_decode.proofs.deserializer.Deserializer.finds_next.Goals as goal

pub returns-then-not-is_empty : goal.returns-then-not-is_empty
returns-then-not-is_empty g c = sees_front g.R.Source c.args.self.now c.if-self.false c.front.result.now c.in-Nothing.is c.front.ensures.bytes
    (search rules)

pub returns-in-Number : goal.returns-in-Number
returns-in-Number g c = sees_number g.R.Source c.args.self.now c.if-self.false c.in-Number.field-0 c.in-Number.is
