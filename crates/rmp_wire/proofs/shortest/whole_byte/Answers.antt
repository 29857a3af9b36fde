-- The byte opens the head that the tests on the way leave.
use Rattle.std.proofs.Common.{◌∙◌, refl}
use Rattle.std.specs.Int.{w8, w128}
use Rattle.std.proofs.lemmas.Int.{to_z-of_z}
use Rattle.rmp_wire.proofs.WholeHeads.{
  canon_u64,
  canon_u32,
  canon_u16,
  canon_u8,
  canon_fixed,
  canon_i8,
  canon_i16,
  canon_i32,
  canon_i64,
  fits_fixed,
  bits_of_cast,
}
use Rattle.rmp_wire.proofs.shortest.whole_byte.Goals as goal

pub returns-then-z : goal.returns-then-z
returns-then-z c = let e = to_z-of_z w128 c.args.z c.ranges.z in λ f. rw (canon_u64 c.args.z (rw e at c.if-z.true)) refl

pub returns-then-z-2 : goal.returns-then-z-2
returns-then-z-2 c = let e = to_z-of_z w128 c.args.z c.ranges.z in λ f. rw (canon_u32 c.args.z (rw e at c.if-z-2.true) (rw e at c.if-z.false)) refl

pub returns-then-z-3 : goal.returns-then-z-3
returns-then-z-3 c = let e = to_z-of_z w128 c.args.z c.ranges.z in λ f. rw (canon_u16 c.args.z (rw e at c.if-z-3.true) (rw e at c.if-z-2.false)) refl

pub returns-then-z-ge128 : goal.returns-then-z-ge128
returns-then-z-ge128 c = let e = to_z-of_z w128 c.args.z c.ranges.z in λ f. rw (canon_u8 c.args.z (rw e at c.if-z-ge128.true) (rw e at c.if-z-3.false)) refl

pub returns-then-z-from : goal.returns-then-z-from
returns-then-z-from c =
    let e = to_z-of_z w128 c.args.z c.ranges.z in
    λ f. rw (canon_i8 c.args.z (rw (c.from.ensures, e) at c.if-z-from.true) (rw e at c.if-z-geminus32.false)) refl

pub returns-then-z-from-2 : goal.returns-then-z-from-2
returns-then-z-from-2 c =
    let e = to_z-of_z w128 c.args.z c.ranges.z in
    λ f. rw (canon_i16 c.args.z (rw (c.from-else-z-from.ensures, e) at c.if-z-from-2.true) (rw (c.from.ensures, e) at c.if-z-from.false)) refl

pub returns-then-z-from-3 : goal.returns-then-z-from-3
returns-then-z-from-3 c =
    let e = to_z-of_z w128 c.args.z c.ranges.z in
    λ f. rw (canon_i32 c.args.z (rw (c.from-else-z-from-2.ensures, e) at c.if-z-from-3.true) (rw (c.from-else-z-from.ensures, e) at c.if-z-from-2.false)) refl

pub returns-else-z-from-3 : goal.returns-else-z-from-3
returns-else-z-from-3 c =
    let e = to_z-of_z w128 c.args.z c.ranges.z in
    λ f. rw (canon_i64 c.args.z (rw (c.from-else-z-from-2.ensures, e) at c.if-z-from-3.false)) refl

pub overflow_cast-z : goal.overflow_cast-z
overflow_cast-z c =
    let e = to_z-of_z w128 c.args.z c.ranges.z in
    rw e (fits_fixed c.args.z (rw e at c.if-z-geminus32.true) (rw e at c.if-z-ge128.false))

pub returns-then-z-geminus32 : goal.returns-then-z-geminus32
returns-then-z-geminus32 c =
    let e = to_z-of_z w128 c.args.z c.ranges.z in
    let low = rw e at c.if-z-geminus32.true in
    let high = rw e at c.if-z-ge128.false in
    λ f. rw (canon_fixed c.args.z low high) (c.cast_unsigned.ensures ∙ bits_of_cast w128 w8 c.args.z c.ranges.z (fits_fixed c.args.z low high))
