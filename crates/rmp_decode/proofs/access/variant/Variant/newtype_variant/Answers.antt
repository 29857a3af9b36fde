use Rattle.std.proofs.Common.{rules}
use Rattle.rmp_decode.proofs.Variants.{content_read, content_refused, bare_refused}
use Rattle.rmp_decode.proofs.access.variant.Variant.newtype_variant.Goals as goal

pub returns-then-bare-clause-err : goal.returns-then-bare-clause-err
returns-then-bare-clause-err g c = λ names n old o. bare_refused g.R.Source names n old c.args.self o _ _ _ c.if-bare.true (search rules)

pub returns-in-Err-clause-err : goal.returns-in-Err-clause-err
returns-in-Err-clause-err g c = λ names n old o.
    content_refused g.R.Source names n old c.args.self o c.part.new.self _ _ _ c.if-bare.false c.in-Err.ensures.fails (search rules)

pub returns-clause-ok : goal.returns-clause-ok
returns-clause-ok g c = λ names n old o.
    content_read g.R.Source names n old c.args.self o c.part.new.self _ _ _ c.if-bare.false c.in-Ok.ensures (search rules)
