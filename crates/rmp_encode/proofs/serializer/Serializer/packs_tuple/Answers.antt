use Rattle.std.proofs.Common.{rules, sym, ◌∙◌}
use Rattle.rmp_encode.specs.Ser.{settings_of}
use Rattle.rmp_encode.proofs.Packing.{plain_mode, plain_as, tuple_packed, tuple_listed}
use Rattle.rmp_encode.proofs.serializer.Serializer.packs_tuple.Goals as goal

pub returns-then-not-forces_all-clause-listed : goal.returns-then-not-forces_all-clause-listed
returns-then-not-forces_all-clause-listed g c = λ _. plain_mode (settings_of c.args.self.now) _ (sym c.forces_all.ensures ∙ search rules)

pub returns-then-not-are_bytes-clause-listed : goal.returns-then-not-are_bytes-clause-listed
returns-then-not-are_bytes-clause-listed g c = λ _.
    plain_as (settings_of c.args.self.now) (rw c.is_human_readable-human.ensures at (c.are_bytes.ensures.none c.if-not-are_bytes.true))

pub returns-clause-packed : goal.returns-clause-packed
returns-clause-packed g c = λ e. tuple_packed (settings_of c.args.self.now) _
    (rw c.is_human_readable-human.ensures at (c.are_bytes.ensures.bytes c.if-not-are_bytes.false)) (sym c.forces_all.ensures ∙ search rules)
    (rw c.is_human_readable-human.ensures at (sym c.packs.ensures ∙ e))

pub returns-clause-listed : goal.returns-clause-listed
returns-clause-listed g c = λ e. tuple_listed (settings_of c.args.self.now) _
    (rw c.is_human_readable-human.ensures at (c.are_bytes.ensures.bytes c.if-not-are_bytes.false)) (sym c.forces_all.ensures ∙ search rules)
    (rw c.is_human_readable-human.ensures at (sym c.packs.ensures ∙ e))
