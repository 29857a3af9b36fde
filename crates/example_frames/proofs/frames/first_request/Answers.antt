use Rattle.std.specs.Prelude.{false, max}
use Rattle.std.proofs.Common.{◌∙◌, ap, refl}
use Rattle.rmp_decode.specs.declared.deserializer.Deserializer.{Deserializer}
use Rattle.rmp_wire.specs.RefReader.{rest_of}
use Rattle.rmp_decode.proofs.Whole.{known_left, none_begins}
use Rattle.example_frames.proofs.Differing.{deep_enough}
use Rattle.example_frames.proofs.frames.first_request.Goals as goal

pub returns-in-Err-clause-err : goal.returns-in-Err-clause-err
returns-in-Err-clause-err c =
    let d = c.from_read_ref-de.ensures in
    let q = c.set_max_depth.ensures in
    let ready = ap (λ (z : Deserializer _ _). z.failed) q ∙ d.new.ready in
    let lenient = ap (λ (z : Deserializer _ _). z.strict) q ∙ d.new.lenient in
    let room = ap (λ (z : Deserializer _ _). max 1 z.room) q ∙ deep_enough _ _ d.new.room d.new.limit in
    let told = known_left _ _ _ (ap (λ (z : Deserializer _ _). z.kept) q ∙ d.new.kept) (ap (λ (z : Deserializer _ _). rest_of z.reader) q ∙ d.rest) in
    let refused = c.in-Err.ensures.refused ready in
    record {
      none = λ n. none_begins _ false _ _ _ _ _ lenient room told (c.in-Err.ensures.law.err ready n refl);
      refused = rw (told, room, lenient) at refused;
    }

pub returns-in-Err-clause-incomplete : goal.returns-in-Err-clause-incomplete
returns-in-Err-clause-incomplete c =
    let d = c.from_read_ref-de.ensures in
    let q = c.set_max_depth.ensures in
    let told = known_left _ _ _ (ap (λ (z : Deserializer _ _). z.kept) q ∙ d.new.kept) (ap (λ (z : Deserializer _ _). rest_of z.reader) q ∙ d.rest) in
    let refused = c.in-Err.ensures.refused (ap (λ (z : Deserializer _ _). z.failed) q ∙ d.new.ready) in
    c.ends_are_inside.ensures.begins _ c.in-Err.e (rw told at refused)
