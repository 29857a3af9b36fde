use Rattle.std.proofs.Common.{rules}
use Rattle.std.proofs.Output.{has_written_of_eq}
use Rattle.rmp_serde.specs.Parts.{tree}
use Rattle.rmp_serde.proofs.OpenReadables.{head_readable}
use Rattle.rmp_serde.proofs.value.text.readable.write_readable_head.Goals as goal

pub returns-in_default : goal.returns-in_default
returns-in_default g c = record {
  writes = λ plain ok. has_written_of_eq _ _ _ _ _ (head_readable (tree c.args.value) (search rules) (search rules)) (c.write_head.ensures.writes plain ok);
}
