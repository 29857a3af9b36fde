use Rattle.std.proofs.Common.{rules, false}
use Rattle.rmp_encode.specs.Calls.{default_settings}
use Rattle.rmp_encode.specs.Trees.{tree_of}
use Rattle.rmp_encode.proofs.Spelled.{on_spelled}
use Rattle.rmp_encode.proofs.encode.write.Goals as goal

pub returns-clause-spelled : goal.returns-clause-spelled
returns-clause-spelled g c = on_spelled (tree_of default_settings (g.T.Serialize.data_of c.args.value.now false)) _ (search rules)
