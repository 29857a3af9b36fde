use Rattle.std.proofs.Common.{◌∙◌, ap, refl, true, max}
use Rattle.std.proofs.lemmas.Result.{IfOk-weaker, IfErr-weaker}
use Rattle.rmp_decode.specs.declared.deserializer.Deserializer.{Deserializer}
use Rattle.rmp_wire.specs.RefReader.{rest_of}
use Rattle.rmp_decode.proofs.Whole.{known_left, begins_from, none_begins, refused_from}
use Rattle.rmp_decode.proofs.de.from_slice_strict.Goals as goal

pub returns-clause-ok : goal.returns-clause-ok
returns-clause-ok g c =
    let d = c.from_read_ref.ensures in
    let b = c.with_binary-de.ensures.same in
    let q = c.set_strict.ensures in
    IfOk-weaker c.deserialize.result _ _ (λ v r. begins_from _ _ c.set_strict.new.self c.deserialize.new.de v 1024 c.args.input.now true
    (known_left _ _ _ (ap (λ (z : Deserializer _ _). z.kept) q ∙ b.kept ∙ d.new.kept)
    (ap (λ (z : Deserializer _ _). rest_of z.reader) q ∙ ap rest_of b.reader ∙ d.rest))
    (ap (λ (z : Deserializer _ _). max 1 z.room) q ∙ ap (max 1) b.room ∙ d.new.room) (ap (λ (z : Deserializer _ _). z.strict) q) r) c.deserialize.ensures.law.ok

pub returns-clause-err : goal.returns-clause-err
returns-clause-err g c =
    let d = c.from_read_ref.ensures in
    let b = c.with_binary-de.ensures.same in
    let q = c.set_strict.ensures in
    IfErr-weaker c.deserialize.result _ _ (λ e h n. none_begins _ true _ _ _ _ _ (ap (λ (z : Deserializer _ _). z.strict) q)
    (ap (λ (z : Deserializer _ _). max 1 z.room) q ∙ ap (max 1) b.room ∙ d.new.room)
    (known_left _ _ _ (ap (λ (z : Deserializer _ _). z.kept) q ∙ b.kept ∙ d.new.kept)
    (ap (λ (z : Deserializer _ _). rest_of z.reader) q ∙ ap rest_of b.reader ∙ d.rest)) (h n refl))
    (c.deserialize.ensures.law.err (ap (λ (z : Deserializer _ _). z.failed) q ∙ b.failed ∙ d.new.ready))

pub returns-clause-refused : goal.returns-clause-refused
returns-clause-refused g c =
    let d = c.from_read_ref.ensures in
    let b = c.with_binary-de.ensures.same in
    let q = c.set_strict.ensures in
    refused_from c.set_strict.new.self c.deserialize.result g.T.Deserialize.refuses 0 0 _ c.args.input.now true
    (known_left _ _ _ (ap (λ (z : Deserializer _ _). z.kept) q ∙ b.kept ∙ d.new.kept)
    (ap (λ (z : Deserializer _ _). rest_of z.reader) q ∙ ap rest_of b.reader ∙ d.rest))
    (ap (λ (z : Deserializer _ _). max 1 z.room) q ∙ ap (max 1) b.room ∙ d.new.room) (ap (λ (z : Deserializer _ _). z.strict) q)
    (c.deserialize.ensures.refused (ap (λ (z : Deserializer _ _). z.failed) q ∙ b.failed ∙ d.new.ready))
