use Rattle.std.proofs.Common.{length, []}
use Rattle.rmp_encode.proofs.Refusals.{long_first, on_weaker}
use Rattle.rmp_encode.proofs.serializer.Serializer.serialize_unit_variant.Goals as goal

pub returns-clause-error : goal.returns-clause-error
returns-clause-error g c = on_weaker c.put_word.result (long_first (length c.args.variant.now) []) c.put_word.ensures.error
