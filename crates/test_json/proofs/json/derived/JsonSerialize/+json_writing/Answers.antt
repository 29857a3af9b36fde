use Rattle.std.proofs.Common.{◌∙◌, sym, ap}
use Rattle.rmp_recursive.specs.Parts.{all_by}
use Rattle.test_json.specs.declared.json.Json.{out-Json}
use Rattle.test_json.specs.declared.json.Json.TheOpen.{Json-F}
use Rattle.test_json.specs.declared.json.Json.TheViews.{out-roll-Json}
use Rattle.test_json.specs.JsonLevels.{json_at_Object, json_fits_in, json_is_at}
use Rattle.test_json.specs.declared.json.Json.TheVariants.{rolls-Null, rolls-Bool, rolls-Number, rolls-Text, rolls-List, rolls-Object}
use Rattle.rmp_recursive.proofs.Parts.{on_ok, ok_holds}
use Rattle.test_json.proofs.json.derived.JsonSerialize.+json_writing.Goals as goal

pub returns-in-Null-clause-value : goal.returns-in-Null-clause-value
returns-in-Null-clause-value g t c =
    let is = ap out-Json (c.in-Null.is ∙ sym rolls-Null) ∙ out-roll-Json Json-F.Null in
    ok_holds c.serialize_unit_variant.result _ (json_fits_in c.args.self.now Json-F.Null is tt)

pub returns-in-Bool-clause-value : goal.returns-in-Bool-clause-value
returns-in-Bool-clause-value g t c =
    let a = c.in-Bool.value in
    let is = ap out-Json (c.in-Bool.is ∙ sym (rolls-Bool a)) ∙ out-roll-Json (Json-F.Bool a) in
    on_ok c.serialize_newtype_variant.result _ _ (λ h. json_fits_in c.args.self.now (Json-F.Bool a) is (h)) c.serialize_newtype_variant.ensures.value

pub returns-in-Number-clause-value : goal.returns-in-Number-clause-value
returns-in-Number-clause-value g t c =
    let a = c.in-Number.value in
    let is = ap out-Json (c.in-Number.is ∙ sym (rolls-Number a)) ∙ out-roll-Json (Json-F.Number a) in
    on_ok c.serialize_newtype_variant-in-Number.result _ _ (λ h. json_fits_in c.args.self.now (Json-F.Number a) is (h))
    c.serialize_newtype_variant-in-Number.ensures.value

pub returns-in-Text-clause-value : goal.returns-in-Text-clause-value
returns-in-Text-clause-value g t c =
    let a = c.in-Text.value in
    let is = ap out-Json (c.in-Text.is ∙ sym (rolls-Text a)) ∙ out-roll-Json (Json-F.Text a) in
    on_ok c.serialize_newtype_variant-in-Text.result _ _ (λ h. json_fits_in c.args.self.now (Json-F.Text a) is (h))
    c.serialize_newtype_variant-in-Text.ensures.value

pub returns-in-List-clause-value : goal.returns-in-List-clause-value
returns-in-List-clause-value g t c =
    let a = c.in-List.value in
    let is = ap out-Json (c.in-List.is ∙ sym (rolls-List a)) ∙ out-roll-Json (Json-F.List a) in
    on_ok c.serialize_newtype_variant-in-List.result _ _ (λ h. json_fits_in c.args.self.now (Json-F.List a) is (all_by _ a.items h))
    c.serialize_newtype_variant-in-List.ensures.value

pub returns-in-Object-clause-value : goal.returns-in-Object-clause-value
returns-in-Object-clause-value g t c =
    let a = c.in-Object.value in
    let is = ap out-Json (c.in-Object.is ∙ sym (rolls-Object a)) ∙ out-roll-Json (Json-F.Object a) in
    on_ok c.serialize_newtype_variant-in-Object.result _ _ (λ h. json_fits_in c.args.self.now (Json-F.Object a) is ((all_by _ a.entries h.0, h.1)))
    c.serialize_newtype_variant-in-Object.ensures.value

pub returns-in-Object-clause-writes : goal.returns-in-Object-clause-writes
returns-in-Object-clause-writes g t c =
    let a = c.in-Object.value in
    let is = ap out-Json (c.in-Object.is ∙ sym (rolls-Object a)) ∙ out-roll-Json (Json-F.Object a) in
    rw (json_is_at c.args.self.now (Json-F.Object a) is ∙ json_at_Object a) c.serialize_newtype_variant-in-Object.ensures.writes
