use Rattle.std.proofs.Common.{◌∙◌, sym, ap}
use Rattle.rmp_recursive.specs.Parts.{all_by}
use Rattle.test_recursive.specs.declared.trees.Term.{out-Term}
use Rattle.test_recursive.specs.declared.trees.Term.TheOpen.{Term-F}
use Rattle.test_recursive.specs.declared.trees.Term.TheViews.{out-roll-Term}
use Rattle.test_recursive.specs.TermLevels.{term_fits_in}
use Rattle.test_recursive.specs.declared.trees.Term.TheVariants.{
  rolls-Nothing,
  rolls-Number,
  rolls-Name,
  rolls-Truth,
  rolls-Letter,
  rolls-Half,
  rolls-Whole,
  rolls-Bytes,
  rolls-Size,
  rolls-Offset,
  rolls-Big,
  rolls-Wide,
  rolls-Not,
  rolls-Next,
  rolls-Sum,
}
use Rattle.rmp_recursive.proofs.Parts.{on_ok, ok_holds}
use Rattle.test_recursive.proofs.trees.derived.TermSerialize.+term_writing.Goals as goal

pub returns-in-Nothing-clause-value : goal.returns-in-Nothing-clause-value
returns-in-Nothing-clause-value g t c =
    let is = ap out-Term (c.in-Nothing.is ∙ sym rolls-Nothing) ∙ out-roll-Term Term-F.Nothing in
    ok_holds c.serialize_unit_variant.result _ (term_fits_in c.args.self.now Term-F.Nothing is tt)

pub returns-in-Number-clause-value : goal.returns-in-Number-clause-value
returns-in-Number-clause-value g t c =
    let a = c.in-Number.value in
    let is = ap out-Term (c.in-Number.is ∙ sym (rolls-Number a)) ∙ out-roll-Term (Term-F.Number a) in
    on_ok c.serialize_newtype_variant.result _ _ (λ h. term_fits_in c.args.self.now (Term-F.Number a) is (h)) c.serialize_newtype_variant.ensures.value

pub returns-in-Name-clause-value : goal.returns-in-Name-clause-value
returns-in-Name-clause-value g t c =
    let a = c.in-Name.value in
    let is = ap out-Term (c.in-Name.is ∙ sym (rolls-Name a)) ∙ out-roll-Term (Term-F.Name a) in
    on_ok c.serialize_newtype_variant-in-Name.result _ _ (λ h. term_fits_in c.args.self.now (Term-F.Name a) is (h))
    c.serialize_newtype_variant-in-Name.ensures.value

pub returns-in-Truth-clause-value : goal.returns-in-Truth-clause-value
returns-in-Truth-clause-value g t c =
    let a = c.in-Truth.value in
    let is = ap out-Term (c.in-Truth.is ∙ sym (rolls-Truth a)) ∙ out-roll-Term (Term-F.Truth a) in
    on_ok c.serialize_newtype_variant-in-Truth.result _ _ (λ h. term_fits_in c.args.self.now (Term-F.Truth a) is (h))
    c.serialize_newtype_variant-in-Truth.ensures.value

pub returns-in-Letter-clause-value : goal.returns-in-Letter-clause-value
returns-in-Letter-clause-value g t c =
    let a = c.in-Letter.value in
    let is = ap out-Term (c.in-Letter.is ∙ sym (rolls-Letter a)) ∙ out-roll-Term (Term-F.Letter a) in
    on_ok c.serialize_newtype_variant-in-Letter.result _ _ (λ h. term_fits_in c.args.self.now (Term-F.Letter a) is (h))
    c.serialize_newtype_variant-in-Letter.ensures.value

pub returns-in-Half-clause-value : goal.returns-in-Half-clause-value
returns-in-Half-clause-value g t c =
    let a = c.in-Half.value in
    let is = ap out-Term (c.in-Half.is ∙ sym (rolls-Half a)) ∙ out-roll-Term (Term-F.Half a) in
    on_ok c.serialize_newtype_variant-in-Half.result _ _ (λ h. term_fits_in c.args.self.now (Term-F.Half a) is (h))
    c.serialize_newtype_variant-in-Half.ensures.value

pub returns-in-Whole-clause-value : goal.returns-in-Whole-clause-value
returns-in-Whole-clause-value g t c =
    let a = c.in-Whole.value in
    let is = ap out-Term (c.in-Whole.is ∙ sym (rolls-Whole a)) ∙ out-roll-Term (Term-F.Whole a) in
    on_ok c.serialize_newtype_variant-in-Whole.result _ _ (λ h. term_fits_in c.args.self.now (Term-F.Whole a) is (h))
    c.serialize_newtype_variant-in-Whole.ensures.value

pub returns-in-Bytes-clause-value : goal.returns-in-Bytes-clause-value
returns-in-Bytes-clause-value g t c =
    let a = c.in-Bytes.value in
    let is = ap out-Term (c.in-Bytes.is ∙ sym (rolls-Bytes a)) ∙ out-roll-Term (Term-F.Bytes a) in
    on_ok c.serialize_newtype_variant-in-Bytes.result _ _ (λ h. term_fits_in c.args.self.now (Term-F.Bytes a) is (h))
    c.serialize_newtype_variant-in-Bytes.ensures.value

pub returns-in-Size-clause-value : goal.returns-in-Size-clause-value
returns-in-Size-clause-value g t c =
    let a = c.in-Size.value in
    let is = ap out-Term (c.in-Size.is ∙ sym (rolls-Size a)) ∙ out-roll-Term (Term-F.Size a) in
    on_ok c.serialize_newtype_variant-in-Size.result _ _ (λ h. term_fits_in c.args.self.now (Term-F.Size a) is (h))
    c.serialize_newtype_variant-in-Size.ensures.value

pub returns-in-Offset-clause-value : goal.returns-in-Offset-clause-value
returns-in-Offset-clause-value g t c =
    let a = c.in-Offset.value in
    let is = ap out-Term (c.in-Offset.is ∙ sym (rolls-Offset a)) ∙ out-roll-Term (Term-F.Offset a) in
    on_ok c.serialize_newtype_variant-in-Offset.result _ _ (λ h. term_fits_in c.args.self.now (Term-F.Offset a) is (h))
    c.serialize_newtype_variant-in-Offset.ensures.value

pub returns-in-Big-clause-value : goal.returns-in-Big-clause-value
returns-in-Big-clause-value g t c =
    let a = c.in-Big.value in
    let is = ap out-Term (c.in-Big.is ∙ sym (rolls-Big a)) ∙ out-roll-Term (Term-F.Big a) in
    on_ok c.serialize_newtype_variant-in-Big.result _ _ (λ h. term_fits_in c.args.self.now (Term-F.Big a) is (h))
    c.serialize_newtype_variant-in-Big.ensures.value

pub returns-in-Wide-clause-value : goal.returns-in-Wide-clause-value
returns-in-Wide-clause-value g t c =
    let a = c.in-Wide.value in
    let is = ap out-Term (c.in-Wide.is ∙ sym (rolls-Wide a)) ∙ out-roll-Term (Term-F.Wide a) in
    on_ok c.serialize_newtype_variant-in-Wide.result _ _ (λ h. term_fits_in c.args.self.now (Term-F.Wide a) is (h))
    c.serialize_newtype_variant-in-Wide.ensures.value

pub returns-in-Not-clause-value : goal.returns-in-Not-clause-value
returns-in-Not-clause-value g t c =
    let a = c.in-Not.value in
    let is = ap out-Term (c.in-Not.is ∙ sym (rolls-Not a)) ∙ out-roll-Term (Term-F.Not a) in
    on_ok c.serialize_newtype_variant-in-Not.result _ _ (λ h. term_fits_in c.args.self.now (Term-F.Not a) is (h))
    c.serialize_newtype_variant-in-Not.ensures.value

pub returns-in-Next-clause-value : goal.returns-in-Next-clause-value
returns-in-Next-clause-value g t c =
    let a = c.in-Next.value in
    let is = ap out-Term (c.in-Next.is ∙ sym (rolls-Next a)) ∙ out-roll-Term (Term-F.Next a) in
    on_ok c.serialize_newtype_variant-in-Next.result _ _ (λ h. term_fits_in c.args.self.now (Term-F.Next a) is (h))
    c.serialize_newtype_variant-in-Next.ensures.value

pub returns-in-Sum-clause-value : goal.returns-in-Sum-clause-value
returns-in-Sum-clause-value g t c =
    let a = c.in-Sum.value in
    let is = ap out-Term (c.in-Sum.is ∙ sym (rolls-Sum a)) ∙ out-roll-Term (Term-F.Sum a) in
    on_ok c.serialize_newtype_variant-in-Sum.result _ _ (λ h. term_fits_in c.args.self.now (Term-F.Sum a) is (all_by _ a.items h))
    c.serialize_newtype_variant-in-Sum.ensures.value
