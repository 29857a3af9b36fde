use Rattle.std.proofs.Common.{Ok, Err, subst}
use Rattle.rmp_decode.specs.Law.{Lawful}
use Rattle.rmp_decode.proofs.Options.{told_some, told_refused}
use Rattle.rmp_decode.proofs.deserializer.Deserializer.deserialize_option.Goals as goal

pub returns-in-Ok-clause-law : goal.returns-in-Ok-clause-law
returns-in-Ok-clause-law g c =
    let s = rw c.in-Some-false.field-0-test at c.in-Some-false.ensures in
    told_some g.R.Source _ c.args.self.now c.deserialize.new.de c.in-Ok.value s.1.0 s.0
    (subst (λ d. Lawful g.R.Source (g.T.Deserialize.reads g.C.SerializerConfig.human g.R.ReadSlice.lends) d c.deserialize.new.de
    (Ok c.in-Ok.value)) s.1.1 c.in-Ok.ensures.law)

pub returns-in-Err-clause-law : goal.returns-in-Err-clause-law
returns-in-Err-clause-law g c =
    let s = rw c.in-Some-false.field-0-test at c.in-Some-false.ensures in
    told_refused g.R.Source _ c.args.self.now c.deserialize.new.de c.in-Err.e s.1.0 s.0
    (subst (λ d. Lawful g.R.Source (g.T.Deserialize.reads g.C.SerializerConfig.human g.R.ReadSlice.lends) d c.deserialize.new.de
    (Err c.in-Err.e)) s.1.1 c.in-Err.ensures.law)

pub returns-in-Ok-kept_option-clause-law : goal.returns-in-Ok-kept_option-clause-law
returns-in-Ok-kept_option-clause-law g c = rw c.in-None.ensures at c.in-Ok-kept_option.ensures.law

pub returns-in-Err-kept_option-clause-law : goal.returns-in-Err-kept_option-clause-law
returns-in-Err-kept_option-clause-law g c = rw c.in-None.ensures at c.in-Err-kept_option.ensures.law

pub returns-in-Err-kept_option-clause-refused : goal.returns-in-Err-kept_option-clause-refused
returns-in-Err-kept_option-clause-refused g c = rw c.in-None.ensures at c.in-Err-kept_option.ensures.refused
