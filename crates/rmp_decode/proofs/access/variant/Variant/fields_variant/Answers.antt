use Rattle.std.proofs.Common.{rules, refl}
use Rattle.rmp_decode.proofs.LeftParts.{lawful_levels}
use Rattle.rmp_decode.proofs.Variants.{content_by, content_not_by, bare_refused}
use Rattle.rmp_decode.proofs.access.variant.Variant.fields_variant.Goals as goal

pub returns-then-bare-clause-err : goal.returns-then-bare-clause-err
returns-then-bare-clause-err g c = λ names n old o. bare_refused g.R.Source names n old c.args.self o _ _ _ c.if-bare.true (search rules)

pub returns-in-Err-clause-err : goal.returns-in-Err-clause-err
returns-in-Err-clause-err g c = λ names n old o.
    content_not_by g.R.Source names n old c.args.self o _ _ (record c.deserialize_fields-content.new.self { levels = c.levels_outside-de.result }) _
    c.if-bare.false (lawful_levels g.R.Source _ c.deserialize_fields-content.new.self c.in-Err.e c.levels_outside-de.result _ refl c.in-Err.ensures.law) (search rules)

pub returns-clause-ok : goal.returns-clause-ok
returns-clause-ok g c = λ names n old o.
    content_by g.R.Source names n old c.args.self o _ _ c.deserialize_fields-content.new.self _ c.if-bare.false c.in-Ok.ensures.law (search rules)
