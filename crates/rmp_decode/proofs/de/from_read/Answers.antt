use Rattle.std.proofs.lemmas.Result.{IfOk-weaker, IfErr-weaker}
use Rattle.rmp_decode.proofs.SourceReads.{told_begins}
use Rattle.rmp_decode.proofs.de.from_read.Goals as goal

pub returns-clause-taken : goal.returns-clause-taken
returns-clause-taken g c = IfOk-weaker c.read.result _ _ (λ v t. record { last = c.read.new.rd; place = c.read.ensures.place; read = t }) c.read.ensures.ok

pub returns-clause-ok : goal.returns-clause-ok
returns-clause-ok g c = IfOk-weaker c.read.result _ _ (λ v t. told_begins g.R.Source _ c.args.rd c.read.new.rd v t) c.read.ensures.ok

pub returns-clause-err : goal.returns-clause-err
returns-clause-err g c =
    IfErr-weaker c.read.result _ _ (λ e r. record { last = c.read.new.rd; place = c.read.ensures.place; refusal = r }) c.read.ensures.err
