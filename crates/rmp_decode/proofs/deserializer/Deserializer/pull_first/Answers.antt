use Rattle.std.proofs.Common.{refl, rules}
use Rattle.rmp_decode.proofs.NextMessage.{pulled_byte, sees_pulled}
use Rattle.rmp_decode.proofs.deserializer.Deserializer.pull_first.Goals as goal

pub returns-in-Ok : goal.returns-in-Ok
returns-in-Ok g c = sees_pulled g.R.Source c.args.self.now c.requires.ready _ _ c.requires.clean refl c.requires.ready
    (pulled_byte c.in-Ok.field-0 c.pull.new.buf _ _ (search rules) c.in-Ok.ensures.bound c.in-Ok.field-0-test.1 c.in-Ok.ensures.bytes) c.in-Ok.ensures.sound
    (record { config = refl; room = refl; limit = refl; strict = refl; place = c.pull.ensures.place })
