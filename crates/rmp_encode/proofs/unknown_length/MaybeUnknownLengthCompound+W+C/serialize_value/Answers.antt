use Rattle.std.proofs.Common.{arith}
use Rattle.rmp_encode.proofs.OpenSteps.{owed_takes, turned, on_ok_as}
use Rattle.rmp_encode.proofs.unknown_length.MaybeUnknownLengthCompound+W+C.serialize_value.Goals as goal

pub put_part-requires-clause-room : goal.put_part-requires-clause-room
put_part-requires-clause-room g c = owed_takes c.args.self.now.pairs c.args.self.now.buffer c.args.self.now.count c.requires.turn

pub returns-clause-owed : goal.returns-clause-owed
returns-clause-owed g c = on_ok_as c.put_part.result
    (λ t. turned c.args.self.now.pairs _ c.args.self.now.count _ 0 c.requires.kind c.put_part.ensures.kind t (omega (arith, c.requires.turn)))
    c.put_part.ensures.turn
