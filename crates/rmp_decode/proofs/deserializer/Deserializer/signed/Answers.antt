use Rattle.std.proofs.Common.{◌≡◌, refl, rules, arith, pos}
use Rattle.std.proofs.lemmas.Int.{ints, to_z-of_z}
use Rattle.std.specs.Int.{w64}
use Rattle.std.specs.Prelude.{◌≤ℤ◌, ◌≤◌}
use Rattle.std.proofs.Math.IntN.{nat_abs}
use mir.Val.{to_z}
use Rattle.rmp_wire.specs.Msg.{whole}
use Rattle.rmp_decode.proofs.Leaves.{leaf_held}
use Rattle.rmp_decode.proofs.Numbers.{abs_within, small_signed}
use Rattle.rmp_decode.proofs.deserializer.Deserializer.signed.Goals as goal

pub returns-in-Some : goal.returns-in-Some
returns-in-Some g c =
    let w : c.in-Some.n ≤ nat_abs c.args.most = rw (to_z-of_z w64 c.args.most (search rules)) at c.in-Some.ensures.wanted in
    let p : pos c.in-Some.n ≤ℤ c.args.most = abs_within _ _ c.requires.most w in
    let l : c.args.least ≤ℤ pos c.in-Some.n = omega (arith, ints, c.requires.least) in
    let same : to_z w64 c.in-Some.n ≡ pos c.in-Some.n = small_signed _ _ p (search rules) in
    leaf_held g.R.Source _ _ _ _ (_, _) c.in-Some.ensures.taken.begun _ (record { tree = whole (pos c.in-Some.n); alone = refl; value = rw same (refl, l, p) })
