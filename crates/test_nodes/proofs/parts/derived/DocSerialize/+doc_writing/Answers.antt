use Rattle.std.proofs.Common.{◌∙◌, refl, sym, ap, rules}
use Rattle.rmp_recursive.specs.Parts.{all_by}
use Rattle.test_nodes.specs.declared.parts.Doc.{out-Doc}
use Rattle.test_nodes.specs.declared.parts.Doc.TheOpen.{Doc-F}
use Rattle.test_nodes.specs.declared.parts.Doc.TheViews.{out-roll-Doc}
use Rattle.test_nodes.specs.DocLevels.{doc_at_Object, doc_fits_in, doc_is_at}
use Rattle.std.proofs.lemmas.Result.{err_from_is_err_and}
use Rattle.rmp_encode.proofs.Going.{unopened}
use Rattle.rmp_encode.proofs.Parts.{rests_at, part_takes}
use Rattle.test_nodes.specs.declared.parts.Doc.TheVariants.{rolls-Null, rolls-Wide, rolls-Framed, rolls-Array, rolls-Object}
use Rattle.rmp_recursive.proofs.Parts.{on_ok, ok_holds}
use Rattle.test_nodes.proofs.parts.derived.DocSerialize.+doc_writing.Goals as goal

pub returns-in-Null-clause-value : goal.returns-in-Null-clause-value
returns-in-Null-clause-value g t c =
    let is = ap out-Doc (c.in-Null.is ∙ sym rolls-Null) ∙ out-roll-Doc Doc-F.Null in
    ok_holds c.serialize_unit_variant.result _ ((doc_fits_in _) c.args.self.now Doc-F.Null is tt)

pub returns-in-Wide-clause-value : goal.returns-in-Wide-clause-value
returns-in-Wide-clause-value g t c =
    let a = c.in-Wide.value in
    let is = ap out-Doc (c.in-Wide.is ∙ sym (rolls-Wide a)) ∙ out-roll-Doc (Doc-F.Wide a) in
    on_ok c.serialize_newtype_variant.result _ _ (λ h. (doc_fits_in _) c.args.self.now (Doc-F.Wide a) is (h)) c.serialize_newtype_variant.ensures.value

pub returns-in_err-fields-in-Framed-clause-writes : goal.returns-in_err-fields-in-Framed-clause-writes
returns-in_err-fields-in-Framed-clause-writes g t c =
    let p = err_from_is_err_and c.from_residual.result c.from_residual.ensures.1 in
    rw (
      p.1,
      p.2,
      (doc_is_at _) c.args.self.now (Doc-F.Framed c.in-Framed.id c.in-Framed.doc)
          (ap out-Doc (c.in-Framed.is ∙ sym (rolls-Framed c.in-Framed.id c.in-Framed.doc)) ∙ out-roll-Doc (Doc-F.Framed c.in-Framed.id c.in-Framed.doc)),
    )
    (part_takes g.W.Sink _ (λ h. grind rules) (unopened g.W.Sink _ _ _ _ c.args.se.now _ _ _ _ c.in_err-fields-in-Framed.was
    c.serialize_struct_variant.follows.holds-at-none refl))

pub returns-in_err-serialize_field-in-Framed-clause-writes : goal.returns-in_err-serialize_field-in-Framed-clause-writes
returns-in_err-serialize_field-in-Framed-clause-writes g t c =
    let p = err_from_is_err_and c.from_residual-in_err-serialize_field-in-Framed.result c.from_residual-in_err-serialize_field-in-Framed.ensures.1 in
    rw (
      p.1,
      p.2,
      (doc_is_at _) c.args.self.now (Doc-F.Framed c.in-Framed.id c.in-Framed.doc)
          (ap out-Doc (c.in-Framed.is ∙ sym (rolls-Framed c.in-Framed.id c.in-Framed.doc)) ∙ out-roll-Doc (Doc-F.Framed c.in-Framed.id c.in-Framed.doc)),
    )
    (part_takes g.W.Sink _ (λ h. grind rules) (rests_at g.W.Sink (search rules)
    (c.in_err-serialize_field-in-Framed.ensures.writes c.args.se.now _ _ (c.in_ok-fields-in-Framed.ensures.opened _ refl))))

pub returns-in_err-serialize_field-in-Framed-2-clause-writes : goal.returns-in_err-serialize_field-in-Framed-2-clause-writes
returns-in_err-serialize_field-in-Framed-2-clause-writes g t c =
    let p = err_from_is_err_and c.from_residual-in_err-serialize_field-in-Framed-2.result c.from_residual-in_err-serialize_field-in-Framed-2.ensures.1 in
    rw (
      p.1,
      p.2,
      (doc_is_at _) c.args.self.now (Doc-F.Framed c.in-Framed.id c.in-Framed.doc)
          (ap out-Doc (c.in-Framed.is ∙ sym (rolls-Framed c.in-Framed.id c.in-Framed.doc)) ∙ out-roll-Doc (Doc-F.Framed c.in-Framed.id c.in-Framed.doc)),
    )
    (part_takes g.W.Sink _ (λ h. grind rules) (rests_at g.W.Sink (search rules)
    (c.in_err-serialize_field-in-Framed-2.ensures.writes c.args.se.now _ _
    (c.in_ok-serialize_field-in-Framed.ensures.writes c.args.se.now _ _ (c.in_ok-fields-in-Framed.ensures.opened _ refl)))))

pub returns-in_ok-serialize_field-in-Framed-2-clause-writes : goal.returns-in_ok-serialize_field-in-Framed-2-clause-writes
returns-in_ok-serialize_field-in-Framed-2-clause-writes g t c =
    rw ((doc_is_at _) c.args.self.now (Doc-F.Framed c.in-Framed.id c.in-Framed.doc)
    (ap out-Doc (c.in-Framed.is ∙ sym (rolls-Framed c.in-Framed.id c.in-Framed.doc)) ∙ out-roll-Doc (Doc-F.Framed c.in-Framed.id c.in-Framed.doc)))
    (part_takes g.W.Sink _ (λ h. grind rules) (rests_at g.W.Sink (search rules) (c.end.ensures.writes c.args.se.now _
    (c.in_ok-serialize_field-in-Framed-2.ensures.writes c.args.se.now _ _
    (c.in_ok-serialize_field-in-Framed.ensures.writes c.args.se.now _ _ (c.in_ok-fields-in-Framed.ensures.opened _ refl))))))

pub returns-in_ok-serialize_field-in-Framed-2-clause-value : goal.returns-in_ok-serialize_field-in-Framed-2-clause-value
returns-in_ok-serialize_field-in-Framed-2-clause-value g t c =
    ok_holds c.end.result _ ((doc_fits_in _) c.args.self.now (Doc-F.Framed c.in-Framed.id c.in-Framed.doc)
    (ap out-Doc (c.in-Framed.is ∙ sym (rolls-Framed c.in-Framed.id c.in-Framed.doc)) ∙ out-roll-Doc (Doc-F.Framed c.in-Framed.id c.in-Framed.doc))
    (c.in_ok-serialize_field-in-Framed.ensures.value, c.in_ok-serialize_field-in-Framed-2.ensures.value))

pub returns-in-Array-clause-value : goal.returns-in-Array-clause-value
returns-in-Array-clause-value g t c =
    let a = c.in-Array.value in
    let is = ap out-Doc (c.in-Array.is ∙ sym (rolls-Array a)) ∙ out-roll-Doc (Doc-F.Array a) in
    on_ok c.serialize_newtype_variant-in-Array.result _ _ (λ h. (doc_fits_in _) c.args.self.now (Doc-F.Array a) is (all_by _ a.items h))
    c.serialize_newtype_variant-in-Array.ensures.value

pub returns-in-Object-clause-value : goal.returns-in-Object-clause-value
returns-in-Object-clause-value g t c =
    let a = c.in-Object.value in
    let is = ap out-Doc (c.in-Object.is ∙ sym (rolls-Object a)) ∙ out-roll-Doc (Doc-F.Object a) in
    on_ok c.serialize_newtype_variant-in-Object.result _ _ (λ h. (doc_fits_in _) c.args.self.now (Doc-F.Object a) is (all_by _ a.items h))
    c.serialize_newtype_variant-in-Object.ensures.value

pub returns-in-Object-clause-writes : goal.returns-in-Object-clause-writes
returns-in-Object-clause-writes g t c =
    let a = c.in-Object.value in
    let is = ap out-Doc (c.in-Object.is ∙ sym (rolls-Object a)) ∙ out-roll-Doc (Doc-F.Object a) in
    rw ((doc_is_at _) c.args.self.now (Doc-F.Object a) is, (doc_at_Object _) a)
    (part_takes g.W.Sink _ (λ h. grind rules) c.serialize_newtype_variant-in-Object.ensures.writes)
