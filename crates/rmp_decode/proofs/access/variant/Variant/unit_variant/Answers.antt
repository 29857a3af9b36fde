use Rattle.std.proofs.Common.{rules, refl}
use Rattle.rmp_decode.proofs.LeftParts.{lawful_levels}
use Rattle.rmp_decode.proofs.Variants.{bare_read, nil_read, nil_refused}
use Rattle.rmp_decode.proofs.access.variant.Variant.unit_variant.Goals as goal

pub returns-then-bare-clause-ok : goal.returns-then-bare-clause-ok
returns-then-bare-clause-ok g c = λ names n old o. bare_read g.R.Source names n old c.args.self o _ c.if-bare.true (search rules)

pub returns-in-Err-clause-err : goal.returns-in-Err-clause-err
returns-in-Err-clause-err g c = λ names n old o. nil_refused g.R.Source names n old c.args.self o _
    (record c.unit_content.new.self { levels = c.levels_outside-de.result }) _ c.if-bare.false
    (lawful_levels g.R.Source _ c.unit_content.new.self c.in-Err.e c.levels_outside-de.result _ refl c.in-Err.ensures.law) (search rules)

pub returns-clause-ok : goal.returns-clause-ok
returns-clause-ok g c = λ names n old o. nil_read g.R.Source names n old c.args.self o _ c.unit_content.new.self c.if-bare.false c.in-Ok.ensures.law
    (search rules)
