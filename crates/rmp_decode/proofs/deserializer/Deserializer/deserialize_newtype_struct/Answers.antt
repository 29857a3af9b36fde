use Rattle.std.proofs.Common.{refl, rules}
use Rattle.rmp_decode.proofs.Units.{newtype_named, newtype_law}
use Rattle.rmp_decode.proofs.deserializer.Deserializer.deserialize_newtype_struct.Goals as goal

pub returns-then-eq-clause-law : goal.returns-then-eq-clause-law
returns-then-eq-clause-law g c = newtype_named g.R.Source _ c.args.name.now c.args.self.now _ _ (search rules) c.if-self.false refl
    (record { config = refl; room = refl; limit = refl; strict = refl; place = refl })

pub returns-clause-law : goal.returns-clause-law
returns-clause-law g c = newtype_law g.R.Source _ c.args.name.now c.args.self.now _ c.deserialize.result (λ e. search rules) c.deserialize.ensures.law
