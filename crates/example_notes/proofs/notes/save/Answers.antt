use Rattle.std.proofs.lemmas.Result.{IfErr-weaker, IfOk-weaker}
use Rattle.example_notes.proofs.Messages.{is_saved, only_memory}
use Rattle.example_notes.proofs.notes.save.Goals as goal

pub returns-clause-saved : goal.returns-clause-saved
returns-clause-saved c = IfOk-weaker c.to_vec.result _ _ (λ bytes s. is_saved c.args.notes.now bytes.items s) c.to_vec.ensures.bytes

pub returns-clause-whole : goal.returns-clause-whole
returns-clause-whole c = IfErr-weaker c.to_vec.result _ _ (λ e f. only_memory c.args.notes.now e f) c.to_vec.ensures.err
