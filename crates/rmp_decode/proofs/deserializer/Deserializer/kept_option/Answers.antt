use Rattle.std.proofs.Common.{rules}
use Rattle.rmp_decode.proofs.Options.{option_some, option_refused, option_missing}
use Rattle.rmp_decode.proofs.deserializer.Deserializer.kept_option.Goals as goal

pub returns-in-Ok : goal.returns-in-Ok
returns-in-Ok g c =
    let s = rw c.in-Ok-false.field-0-test at c.in-Ok-false.ensures in
    let law = option_some g.R.Source _ c.args.self.now c.take_nil.new.self c.deserialize.new.de s.0 s.1 c.in-Ok.value c.in-Ok.ensures.law in
    record { law = law; refused = λ _. tt; memory = λ _. tt }

pub returns-in-Err-deserialize : goal.returns-in-Err-deserialize
returns-in-Err-deserialize g c =
    let s = rw c.in-Ok-false.field-0-test at c.in-Ok-false.ensures in
    let e = c.in-Err-deserialize.ensures in
    let law = option_refused g.R.Source _ c.args.self.now c.take_nil.new.self c.deserialize.new.de s.0 s.1 c.in-Err-deserialize.e e.law in
    record { law = law; refused = search rules; memory = e.memory }

pub returns-in-Err : goal.returns-in-Err
returns-in-Err g c = record {
  law = option_missing g.R.Source _ c.args.self.now _ c.in-Err.e c.in-Err.ensures;
  refused = search rules;
  memory = search rules;
}
