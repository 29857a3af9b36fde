use Rattle.std.proofs.Common.{◌∙◌, ap, refl, true, max}
use Rattle.rmp_decode.specs.declared.deserializer.Deserializer.{Deserializer}
use Rattle.rmp_wire.specs.RefReader.{rest_of}
use Rattle.rmp_decode.proofs.Whole.{known_left, begins_from, none_begins, refused_from}
use Rattle.rmp_serde.proofs.refusal.from_slice_strict_explained.Goals as goal

pub returns-in-Ok-clause-ok : goal.returns-in-Ok-clause-ok
returns-in-Ok-clause-ok g c =
    let d = c.from_read_ref.ensures in
    let b = c.with_binary-de.ensures.same in
    let q = c.set_strict.ensures in
    begins_from _ _ c.set_strict.new.self c.deserialize.new.de c.in-Ok.value 1024 c.args.input.now true
    (known_left _ _ _ (ap (λ (z : Deserializer _ _). z.kept) q ∙ b.kept ∙ d.new.kept)
    (ap (λ (z : Deserializer _ _). rest_of z.reader) q ∙ ap rest_of b.reader ∙ d.rest))
    (ap (λ (z : Deserializer _ _). max 1 z.room) q ∙ ap (max 1) b.room ∙ d.new.room) (ap (λ (z : Deserializer _ _). z.strict) q) c.in-Ok.ensures.law.ok

pub returns-in-Err-clause-err : goal.returns-in-Err-clause-err
returns-in-Err-clause-err g c =
    let d = c.from_read_ref.ensures in
    let b = c.with_binary-de.ensures.same in
    let q = c.set_strict.ensures in
    λ n. none_begins _ true _ _ _ _ _ (ap (λ (z : Deserializer _ _). z.strict) q)
    (ap (λ (z : Deserializer _ _). max 1 z.room) q ∙ ap (max 1) b.room ∙ d.new.room)
    (known_left _ _ _ (ap (λ (z : Deserializer _ _). z.kept) q ∙ b.kept ∙ d.new.kept)
    (ap (λ (z : Deserializer _ _). rest_of z.reader) q ∙ ap rest_of b.reader ∙ d.rest))
    (c.in-Err.ensures.law.err (ap (λ (z : Deserializer _ _). z.failed) q ∙ b.failed ∙ d.new.ready) (λ e. n (c.explain.ensures.same ∙ e)) refl)

pub returns-in-Err-clause-refused : goal.returns-in-Err-clause-refused
returns-in-Err-clause-refused g c =
    let d = c.from_read_ref.ensures in
    let b = c.with_binary-de.ensures.same in
    let q = c.set_strict.ensures in
    rw c.explain.ensures.same (rw c.in-Err.is at (refused_from c.set_strict.new.self c.deserialize.result g.T.Deserialize.refuses 0 0 _ c.args.input.now true
    (known_left _ _ _ (ap (λ (z : Deserializer _ _). z.kept) q ∙ b.kept ∙ d.new.kept)
    (ap (λ (z : Deserializer _ _). rest_of z.reader) q ∙ ap rest_of b.reader ∙ d.rest))
    (ap (λ (z : Deserializer _ _). max 1 z.room) q ∙ ap (max 1) b.room ∙ d.new.room) (ap (λ (z : Deserializer _ _). z.strict) q)
    (c.deserialize.ensures.refused (ap (λ (z : Deserializer _ _). z.failed) q ∙ b.failed ∙ d.new.ready))))
