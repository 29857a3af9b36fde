use Rattle.std.proofs.Common.{refl, rules}
use Rattle.rmp_decode.proofs.Payloads.{taken_as}
use Rattle.rmp_decode.proofs.VariantNames.{other_count, variant_fails, no_name_alone, name_alone_read}
use Rattle.rmp_decode.proofs.Variants.{pair_named, pair_refused}
use Rattle.rmp_decode.proofs.deserializer.Deserializer.slow_variant.Goals as goal

pub returns-in-Err : goal.returns-in-Err
returns-in-Err g c = variant_fails g.R.Source c.args.names.now _ _ _ _ c.in-Err.ensures.err

pub returns-in-Ok-name_of_pair : goal.returns-in-Ok-name_of_pair
returns-in-Ok-name_of_pair g c =
    let h = taken_as g.R.Source _ _ _ _ _ (search rules) c.in-Ok.ensures.begun in
    pair_named g.R.Source c.args.names.now c.args.self.now _ _ _ h (c.in-Ok.ensures.deep (search rules)) _ c.in-Ok-name_of_pair.ensures

pub returns-in-Err-name_of_pair : goal.returns-in-Err-name_of_pair
returns-in-Err-name_of_pair g c =
    let h = taken_as g.R.Source _ _ _ _ _ (search rules) c.in-Ok.ensures.begun in
    pair_refused g.R.Source c.args.names.now c.args.self.now _ _ _ h (c.in-Ok.ensures.deep (search rules)) c.args.self _ _ _ c.in-Err-name_of_pair.ensures

pub returns-in-Some : goal.returns-in-Some
returns-in-Some g c = other_count g.R.Source c.args.names.now _ _ _ _ (c.in-Ok.field-0-0, c.in-Ok.head) c.in-Ok.ensures.begun c.in-Some.len c.in-Some.ensures
    (search rules) refl

pub returns-in-Ok-rest_of_name : goal.returns-in-Ok-rest_of_name
returns-in-Ok-rest_of_name g c =
    let h = c.in-Ok.ensures.begun in
    name_alone_read g.R.Source c.args.names.now _ c.args.self.now _ _ _ h.fresh (c.in-Ok-rest_of_name.ensures _ c.in-Ok.field-0-0 h)

pub returns-in-Err-rest_of_name : goal.returns-in-Err-rest_of_name
returns-in-Err-rest_of_name g c =
    let h = c.in-Ok.ensures.begun in
    no_name_alone g.R.Source c.args.names.now _ _ _ _ _ (c.in-Ok.field-0-0, c.in-Ok.head) h c.in-None.ensures (c.in-Err-rest_of_name.ensures _ c.in-Ok.field-0-0 h)
