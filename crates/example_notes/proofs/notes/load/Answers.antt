use Rattle.std.proofs.lemmas.Result.{IfErr-weaker, IfOk-weaker}
use Rattle.example_notes.proofs.Messages.{back, whole}
use Rattle.example_notes.proofs.notes.load.Goals as goal

pub returns-clause-back : goal.returns-clause-back
returns-clause-back c = IfOk-weaker c.from_slice.result _ _ (λ notes b. back c.args.bytes.now notes b) c.from_slice.ensures.ok

pub returns-clause-whole : goal.returns-clause-whole
returns-clause-whole c =
    IfErr-weaker c.from_slice.result _ _ (λ e none n saved s. none n (whole c.args.bytes.now saved s)) c.from_slice.ensures.err
