use Rattle.std.proofs.Common.{refl, arith, max, ◌-◌}
use Rattle.rmp_decode.proofs.NamesAhead.{part_placed}
use Rattle.rmp_decode.proofs.Variants.{pair_named, pair_refused}
use Rattle.rmp_decode.proofs.deserializer.Deserializer.open_variant.Goals as goal

pub returns-in-Some-take_name : goal.returns-in-Some-take_name
returns-in-Some-take_name g c =
    let h = c.in-Some-take_nested.ensures in
    let t = part_placed g.R.Source c.args.names.now (max 1 (c.take_nested.new.self.room - 1)) c.take_nested.new.self c.take_name.new.self
    c.in-Some-take_name.place (c.in-Some-take_name.ensures.named refl) (c.in-Some-take_name.ensures.taken _ (omega arith)) in
    rw c.in_default.ensures at (pair_named g.R.Source c.args.names.now _ _ _ _ h.taken.begun h.deep _ t)

pub returns-in-Ok : goal.returns-in-Ok
returns-in-Ok g c =
    let h = c.in-Some-take_nested.ensures in
    let t = rw c.in-None-take_name.ensures.kept at c.in-Ok.ensures in
    rw c.in_default.ensures at (pair_named g.R.Source c.args.names.now _ _ _ _ h.taken.begun h.deep _ t)

pub returns-in-Err : goal.returns-in-Err
returns-in-Err g c =
    let h = c.in-Some-take_nested.ensures in
    let r = rw c.in-None-take_name.ensures.kept at c.in-Err.ensures in
    rw c.in_default.ensures at (pair_refused g.R.Source c.args.names.now _ _ _ _ h.taken.begun h.deep c.args.self _ _ _ r)
