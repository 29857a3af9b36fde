-- Each piece is the canonical head that the tests on the way leave.
use Rattle.std.proofs.Common.{◌≡◌, ◌∷◌, ◌∙◌, ap, sym, lit<, [], pos, rules}
use Rattle.std.specs.Int.{w8, w16, w32, w64, cast_signed, cast_unsigned}
use Rattle.std.proofs.lemmas.Int.{to_z-of_z}
use Rattle.rmp_wire.specs.Heads.{canon_head}
use Rattle.rmp_wire.specs.Taking.{byte_of}
use Rattle.rmp_wire.specs.declared.head.Head.TheVariants.{Whole}
use Rattle.rmp_wire.specs.declared.marker.Marker.TheVariants.{FixNeg}
use Rattle.rmp_wire.proofs.WholeHeads.{canon_fixed_neg, canon_i8, canon_i16, canon_i32, canon_i64, fits_below_zero, bits_from_zero, bits_of_cast}
use Rattle.rmp_wire.proofs.Writing.{puts_as}
use Rattle.rmp_wire.proofs.write.write_sint.Goals as goal

pub returns-then-z-ge0-clause-writes : goal.returns-then-z-ge0-clause-writes
returns-then-z-ge0-clause-writes g c =
    let z = c.args.z in
    let e = to_z-of_z w64 z c.ranges.z in
    let same : pos c.cast_unsigned.result ≡ z = ap pos (rw e at c.cast_unsigned.ensures) ∙ bits_from_zero z (rw e at c.if-z-ge0.true) in
    puts_as (ap (λ t. canon_head (Whole t)) same) (search rules)

pub overflow_cast-z : goal.overflow_cast-z
overflow_cast-z g c =
    let z = c.args.z in
    let e = to_z-of_z w64 z c.ranges.z in
    rw e (fits_below_zero w8 31 z (lit< tt) (rw e at c.if-z-geminus32.true) (rw e at c.if-z-ge0.false))

pub returns-then-z-geminus32-clause-writes : goal.returns-then-z-geminus32-clause-writes
returns-then-z-geminus32-clause-writes g c =
    let z = c.args.z in
    let e = to_z-of_z w64 z c.ranges.z in
    let low = rw e at c.if-z-geminus32.true in
    let high = rw e at c.if-z-ge0.false in
    puts_as (ap (λ t. byte_of (FixNeg t) ∷ []) (ap (λ t. cast_signed w8 (cast_unsigned w8 t)) e ∙ to_z-of_z w8 z (fits_below_zero w8 31 z (lit< tt) low high))
    ∙ canon_fixed_neg z low high) c.put_marker.ensures.writes

pub overflow_cast-z-then-z-from : goal.overflow_cast-z-then-z-from
overflow_cast-z-then-z-from g c =
    let z = c.args.z in
    let e = to_z-of_z w64 z c.ranges.z in
    rw e (fits_below_zero w8 127 z (lit< tt) (rw (c.from.ensures, e) at c.if-z-from.true) (rw e at c.if-z-ge0.false))

pub returns-then-z-from-clause-writes : goal.returns-then-z-from-clause-writes
unfolding byte_of
returns-then-z-from-clause-writes g c =
    let z = c.args.z in
    let e = to_z-of_z w64 z c.ranges.z in
    let low = rw (c.from.ensures, e) at c.if-z-from.true in
    let fits = fits_below_zero w8 127 z (lit< tt) low (rw e at c.if-z-ge0.false) in
    let bits = c.cast_unsigned-then-z-from.ensures ∙ bits_of_cast w64 w8 z c.ranges.z fits in
    puts_as (rw bits (sym (canon_i8 z low (rw e at c.if-z-geminus32.false)))) c.put_8.ensures.writes

pub overflow_cast-z-then-z-from-2 : goal.overflow_cast-z-then-z-from-2
overflow_cast-z-then-z-from-2 g c =
    let z = c.args.z in
    let e = to_z-of_z w64 z c.ranges.z in
    rw e (fits_below_zero w16 0x7fff z (lit< tt) (rw (c.from-2.ensures, e) at c.if-z-from-2.true) (rw e at c.if-z-ge0.false))

pub returns-then-z-from-2-clause-writes : goal.returns-then-z-from-2-clause-writes
unfolding byte_of
returns-then-z-from-2-clause-writes g c =
    let z = c.args.z in
    let e = to_z-of_z w64 z c.ranges.z in
    let low = rw (c.from-2.ensures, e) at c.if-z-from-2.true in
    let fits = fits_below_zero w16 0x7fff z (lit< tt) low (rw e at c.if-z-ge0.false) in
    let bits = c.cast_unsigned-then-z-from-2.ensures ∙ bits_of_cast w64 w16 z c.ranges.z fits in
    puts_as (rw bits (sym (canon_i16 z low (rw (c.from.ensures, e) at c.if-z-from.false)))) c.put_16.ensures.writes

pub overflow_cast-z-then-z-from-3 : goal.overflow_cast-z-then-z-from-3
overflow_cast-z-then-z-from-3 g c =
    let z = c.args.z in
    let e = to_z-of_z w64 z c.ranges.z in
    rw e (fits_below_zero w32 0x7fffffff z (lit< tt) (rw (c.from-3.ensures, e) at c.if-z-from-3.true) (rw e at c.if-z-ge0.false))

pub returns-then-z-from-3-clause-writes : goal.returns-then-z-from-3-clause-writes
unfolding byte_of
returns-then-z-from-3-clause-writes g c =
    let z = c.args.z in
    let e = to_z-of_z w64 z c.ranges.z in
    let low = rw (c.from-3.ensures, e) at c.if-z-from-3.true in
    let fits = fits_below_zero w32 0x7fffffff z (lit< tt) low (rw e at c.if-z-ge0.false) in
    let bits = c.cast_unsigned-then-z-from-3.ensures ∙ bits_of_cast w64 w32 z c.ranges.z fits in
    puts_as (rw bits (sym (canon_i32 z low (rw (c.from-2.ensures, e) at c.if-z-from-2.false)))) c.put_32.ensures.writes

pub returns-clause-writes : goal.returns-clause-writes
unfolding byte_of
returns-clause-writes g c =
    let z = c.args.z in
    let e = to_z-of_z w64 z c.ranges.z in
    puts_as (rw (c.cast_unsigned-2.ensures, e) (sym (canon_i64 z (rw (c.from-3.ensures, e) at c.if-z-from-3.false)))) c.put_64.ensures.writes
