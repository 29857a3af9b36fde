use Rattle.std.proofs.Common.{◌≡◌, ◌+◌, ◌/◌, ◌^◌, arith, refl, ap, subst, rules}
use lib.Count.{count_trailing_zeros}
use Rattle.rmp_types.specs.FloatBits.{IsPlaced}
use Rattle.rmp_types.proofs.Sizes.{odd_part, no_size, size_is}
use Rattle.rmp_types.proofs.float.bits.size_bits.Goals as goal

pub placed-requires-clause-some : goal.placed-requires-clause-some
placed-requires-clause-some c = let o = odd_part 128 c.args.size c.requires c.ranges.size.fits in let odd = o.odd in omega (arith, odd)

pub returns-then-odd-clause-value : goal.returns-then-odd-clause-value
returns-then-odd-clause-value c =
    let t = count_trailing_zeros 128 c.args.size in
    let o = odd_part 128 c.args.size c.requires c.ranges.size.fits in
    let base : 1074 + c.from.result ≡ 1074 + t = ap (λ y. 1074 + y) c.from.ensures in
    size_is c.args.size t 1074 c.placed.result refl o (subst (λ y. IsPlaced (c.args.size / 2 ^ t) y c.placed.result) base c.placed.ensures.value)

pub returns-else-odd-clause-value : goal.returns-else-odd-clause-value
returns-else-odd-clause-value c =
    no_size c.args.size (count_trailing_zeros 128 c.args.size) c.requires (odd_part 128 c.args.size c.requires c.ranges.size.fits)
    (omega (arith, c.if-odd.false))
