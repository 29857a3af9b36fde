use Rattle.std.proofs.Common.{rules}
use Rattle.rmp_encode.specs.Ser.{settings_of}
use Rattle.rmp_encode.proofs.Fields.{field_left}
use Rattle.rmp_encode.proofs.compound.Compound.serialize_field.Goals as goal

pub returns-in-Ok-clause-writes : goal.returns-in-Ok-clause-writes
returns-in-Ok-clause-writes g c = λ old t rest h. record {
  sound = h.sound;
  left_is = field_left _ (settings_of old).named c.args.self.now.left _ _ rest c.requires.kind (search rules) h.left_is;
  state = c.in-Ok.ensures.parts.takes.writes old t rest h.state;
}

pub returns-in-Err-clause-writes : goal.returns-in-Err-clause-writes
returns-in-Err-clause-writes g c = λ old t rest h. c.in-Err.ensures.parts.takes.writes old t rest h.state
