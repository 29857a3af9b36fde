use Rattle.std.proofs.Common.{rules, arith, sym, ◌∙◌, ◌+◌, ◌≤◌, length}
use Rattle.std.proofs.Math.Seq.{drop-drop}
use Rattle.std.proofs.lemmas.Slice.{drop-put_mid}
use Rattle.rmp_wire.proofs.sink.SliceSink.copy_front.Goals as goal

pub returns-clause-rest : goal.returns-clause-rest
returns-clause-rest c =
    let bytes = c.args.self.now.buf.now in
    let at = c.args.self.now.at in
    let within : at ≤ length bytes = c.args.self.now.within in
    drop-put_mid at _ bytes _ (at + c.min-n.result) (omega arith) within (search rules) ∙ sym (drop-drop c.min-n.result at bytes)
