use Rattle.rmp_decode.proofs.NextMessage.{message_taken}
use Rattle.rmp_decode.proofs.deserializer.messages.MessagesIterator.next.Goals as goal

pub returns-in-Ok-Some-clause-goes : goal.returns-in-Ok-Some-clause-goes
returns-in-Ok-Some-clause-goes g c = message_taken g.R.Source _ c.args.self.now _ c.in-Ok-Some.value _ tt c.if-self.false c.if-self.false
    (rw c.in-Ok-Some.field-0-is at c.in-Ok-Some.ensures.law)
