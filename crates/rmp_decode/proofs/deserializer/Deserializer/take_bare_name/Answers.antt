use Rattle.std.proofs.Common.{refl, arith}
use Rattle.rmp_decode.specs.State.{failed_of}
use Rattle.rmp_decode.proofs.NamesAhead.{part_placed}
use Rattle.rmp_decode.proofs.VariantNames.{name_alone_taken}
use Rattle.rmp_decode.proofs.deserializer.Deserializer.take_bare_name.Goals as goal

pub returns-in-Some : goal.returns-in-Some
returns-in-Some g c =
    let t = part_placed g.R.Source c.args.names.now 1 (failed_of c.args.self.now) c.take_name.new.self c.in-Some.place (c.in-Some.ensures.named refl)
    (c.in-Some.ensures.taken 1 (omega arith)) in
    name_alone_taken g.R.Source c.args.names.now c.args.self.now _ _ _ (c.begins_ahead.ensures.fresh c.if-not-begins_ahead.false) t
