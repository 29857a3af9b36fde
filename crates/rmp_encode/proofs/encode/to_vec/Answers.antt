use Rattle.std.proofs.Common.{rules, ap}
use Rattle.rmp_encode.specs.declared.settings.Settings.{Settings}
use Rattle.rmp_encode.specs.Ser.{sink_of}
use Rattle.rmp_encode.specs.Trees.{tree_of}
use Rattle.rmp_encode.proofs.Spelled.{vec_spelled}
use Rattle.rmp_encode.proofs.encode.to_vec.Goals as goal

pub returns-clause-bytes : goal.returns-clause-bytes
returns-clause-bytes g c =
    vec_spelled (sink_of c.new-se.result).items _ (ap (λ (s : Settings). tree_of s (g.T.Serialize.data_of c.args.value.now s.human))
    c.new-se.ensures.settings) (search rules) c.in_ok-serialize.ensures.writes.may (search rules)
