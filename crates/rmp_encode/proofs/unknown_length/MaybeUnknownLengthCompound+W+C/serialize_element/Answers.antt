use Rattle.std.proofs.Common.{◌∙◌}
use Rattle.rmp_encode.proofs.OpenSteps.{list_owes}
use Rattle.rmp_encode.proofs.unknown_length.MaybeUnknownLengthCompound+W+C.serialize_element.Goals as goal

pub returns-clause-owed : goal.returns-clause-owed
returns-clause-owed g c = list_owes _ _ (c.put_part.ensures.kind ∙ c.requires.kind)
