-- Each piece is the canonical head that the tests on the way leave.
use Rattle.std.proofs.Common.{sym, refl, pos, ◌^◌}
use Rattle.std.proofs.lemmas.Bool.{le-leb, lt-leb}
use native.Mathlib.Nat.{mod-eq_of_lt}
use Rattle.rmp_wire.specs.Taking.{byte_of}
use Rattle.rmp_wire.proofs.WholeHeads.{canon_fixed, canon_u8, canon_u16, canon_u32, canon_u64}
use Rattle.rmp_wire.proofs.Writing.{puts_as}
use Rattle.rmp_wire.proofs.write.write_uint.Goals as goal

pub returns-then-n-lt128-clause-writes : goal.returns-then-n-lt128-clause-writes
unfolding byte_of
returns-then-n-lt128-clause-writes g c =
    let n = c.args.n in
    puts_as (rw (mod-eq_of_lt c.if-n-lt128.true) (sym (canon_fixed (pos n) refl (lt-leb 128 n c.if-n-lt128.true)))) c.put_marker.ensures.writes

pub returns-then-n-clause-writes : goal.returns-then-n-clause-writes
unfolding byte_of
returns-then-n-clause-writes g c =
    let n = c.args.n in
    puts_as (sym (canon_u8 (pos n) (le-leb 128 n c.if-n-lt128.false) (lt-leb (2 ^ 8) n c.if-n.true))) c.put_8.ensures.writes

pub returns-then-n-2-clause-writes : goal.returns-then-n-2-clause-writes
unfolding byte_of
returns-then-n-2-clause-writes g c =
    let n = c.args.n in
    puts_as (sym (canon_u16 (pos n) (le-leb (2 ^ 8) n c.if-n.false) (lt-leb (2 ^ 16) n c.if-n-2.true))) c.put_16.ensures.writes

pub returns-then-n-3-clause-writes : goal.returns-then-n-3-clause-writes
unfolding byte_of
returns-then-n-3-clause-writes g c =
    let n = c.args.n in
    puts_as (sym (canon_u32 (pos n) (le-leb (2 ^ 16) n c.if-n-2.false) (lt-leb (2 ^ 32) n c.if-n-3.true))) c.put_32.ensures.writes

pub returns-clause-writes : goal.returns-clause-writes
unfolding byte_of
returns-clause-writes g c = puts_as (sym (canon_u64 (pos c.args.n) (le-leb (2 ^ 32) c.args.n c.if-n-3.false))) c.put_64.ensures.writes
