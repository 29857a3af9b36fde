use Rattle.std.specs.Prelude.{false, max}
use Rattle.std.proofs.Common.{◌∙◌, ap, refl, sym}
use Rattle.rmp_decode.specs.declared.deserializer.Deserializer.{Deserializer}
use Rattle.rmp_wire.specs.RefReader.{rest_of}
use Rattle.rmp_decode.proofs.Whole.{known_left, begins_from, none_begins}
use Rattle.example_frames.proofs.Differing.{deep_enough}
use Rattle.example_frames.proofs.frames.explain_request.Goals as goal

pub returns-in-Ok-clause-none : goal.returns-in-Ok-clause-none
returns-in-Ok-clause-none c = λ _.
    let d = c.from_read_ref-de.ensures in
    let q = c.set_max_depth.ensures in
    let b = begins_from _ _ c.set_max_depth.new.self c.deserialize.new.de c.in-Ok.field-0 16 c.args.content.now false
    (known_left _ _ _ (ap (λ (z : Deserializer _ _). z.kept) q ∙ d.new.kept) (ap (λ (z : Deserializer _ _). rest_of z.reader) q ∙ d.rest))
    (ap (λ (z : Deserializer _ _). max 1 z.room) q ∙ deep_enough _ _ d.new.room d.new.limit)
    (ap (λ (z : Deserializer _ _). z.strict) q ∙ d.new.lenient) c.in-Ok.ensures.law.ok in
    record { bytes = b.bytes; rest = b.rest; tree = b.tree; front = b.front; spelled = b.spelled; fits = b.fits; holds = (c.in-Ok.field-0, b.holds) }

pub returns-in-Err-clause-some : goal.returns-in-Err-clause-some
returns-in-Err-clause-some c =
    let d = c.from_read_ref-de.ensures in
    let q = c.set_max_depth.ensures in
    let ready = ap (λ (z : Deserializer _ _). z.failed) q ∙ d.new.ready in
    let lenient = ap (λ (z : Deserializer _ _). z.strict) q ∙ d.new.lenient in
    let room = ap (λ (z : Deserializer _ _). max 1 z.room) q ∙ deep_enough _ _ d.new.room d.new.limit in
    let told = known_left _ _ _ (ap (λ (z : Deserializer _ _). z.kept) q ∙ d.new.kept) (ap (λ (z : Deserializer _ _). rest_of z.reader) q ∙ d.rest) in
    let refused = c.in-Err.ensures.refused ready in
    let same = sym c.explain.ensures.same in
    record {
      none = λ n. none_begins _ false _ _ _ _ _ lenient room told (c.in-Err.ensures.law.err ready (λ e. n (c.explain.ensures.same ∙ e)) refl);
      refused = rw same at (rw (told, room, lenient) at refused);
    }
