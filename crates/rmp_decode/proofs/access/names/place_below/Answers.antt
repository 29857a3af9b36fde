use Rattle.std.proofs.Common.{◌∙◌, sym, ap, arith, pos}
use Rattle.std.specs.Int.Signed.{lt_z}
use Rattle.std.proofs.lemmas.Int.{to_z-of_z, to_z_pos}
use mir.Val.{to_z}
use mir.Syntax.{w128}
use Rattle.rmp_decode.proofs.Names.{below_none, below_some, below_past}
use Rattle.rmp_decode.proofs.access.names.place_below.Goals as goal

pub returns-then-z-lt0 : goal.returns-then-z-lt0
returns-then-z-lt0 c = below_none c.args.count c.args.z (ap (λ t. lt_z t (pos 0)) (sym (to_z-of_z w128 c.args.z c.ranges.z)) ∙ c.if-z-lt0.true)

pub returns-then-z-count : goal.returns-then-z-count
returns-then-z-count c =
    let e = to_z-of_z w128 c.args.z c.ranges.z in
    let n = to_z_pos w128 c.args.count (omega (arith, c.ranges.count.fits)) in
    below_some c.args.count c.args.z _ e (ap (λ t. lt_z t (pos 0)) (sym e) ∙ c.if-z-lt0.false)
    (ap (λ t. lt_z c.args.z t) (sym n) ∙ ap (λ t. lt_z t (to_z w128 c.args.count)) (sym e) ∙ c.if-z-count.true)

pub returns-else-z-count : goal.returns-else-z-count
returns-else-z-count c =
    let e = to_z-of_z w128 c.args.z c.ranges.z in
    let n = to_z_pos w128 c.args.count (omega (arith, c.ranges.count.fits)) in
    below_past c.args.count c.args.z (ap (λ t. lt_z t (pos 0)) (sym e) ∙ c.if-z-lt0.false)
    (ap (λ t. lt_z c.args.z t) (sym n) ∙ ap (λ t. lt_z t (to_z w128 c.args.count)) (sym e) ∙ c.if-z-count.false)
