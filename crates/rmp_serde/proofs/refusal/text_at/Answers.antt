use Rattle.std.proofs.lemmas.Result.{IfOk-weaker}
use Rattle.rmp_serde.proofs.FoundTexts.{text_begins}
use Rattle.rmp_serde.proofs.refusal.text_at.Goals as goal

pub returns-in-Ok : goal.returns-in-Ok
returns-in-Ok c = IfOk-weaker c.text_after.result _ _
    (λ found p. text_begins c.in-Ok.field-0-0 c.in-Ok.head c.args.bytes.now c.next_head.new.source.now c.in-Ok.ensures.reads.ok found p) c.text_after.ensures
