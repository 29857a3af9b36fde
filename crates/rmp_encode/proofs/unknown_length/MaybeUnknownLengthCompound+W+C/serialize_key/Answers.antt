use Rattle.std.proofs.Common.{arith}
use Rattle.rmp_encode.proofs.OpenSteps.{turned, on_ok_as}
use Rattle.rmp_encode.proofs.unknown_length.MaybeUnknownLengthCompound+W+C.serialize_key.Goals as goal

pub returns-clause-owed : goal.returns-clause-owed
returns-clause-owed g c = on_ok_as c.put_part.result
    (λ t. turned c.args.self.now.pairs _ c.args.self.now.count _ 1 c.requires.kind c.put_part.ensures.kind t (omega (arith, c.requires.turn)))
    c.put_part.ensures.turn
