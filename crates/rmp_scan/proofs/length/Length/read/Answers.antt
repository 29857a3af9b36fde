-- Each turn reads one byte more.
use Rattle.std.proofs.Common.{arith, ◌<◌, get_or}
use Rattle.rmp_scan.proofs.Passing.{reads_none, reads_more}
use Rattle.rmp_scan.proofs.length.Length.read.Goals as goal

pub bytes-init : goal.bytes-init
bytes-init c =
    let s = c.args.self in
    record {
      within = omega arith;
      some = λ l. absurd (omega (arith, l));
      fewer = omega arith;
      room = s.room;
      reads = reads_none s.counts s.missing s.value;
    }

pub bytes-preserved : goal.bytes-preserved
bytes-preserved c =
    let v = c.bytes.invariant in
    let few = v.room.few in
    let none = v.room.none in
    let one = v.room.one in
    let two = v.room.two in
    let byte : get_or c.args.bytes.now c.bytes.at 0 < 256 = omega (arith, c.type_inv.bytes c.bytes.at) in
    record {
      within = omega arith;
      some = λ l. omega arith;
      fewer = omega arith;
      room = record {
        few = omega arith;
        none = λ e. absurd (omega (arith, e));
        one = λ e. omega (arith, e, none, byte);
        two = λ e. omega (arith, e, one, byte);
        three = λ e. omega (arith, e, two, byte);
      };
      reads = rw c.from.ensures (reads_more c.args.self.counts c.args.self.missing c.args.self.value c.args.bytes.now c.bytes.at c.bytes.missing c.bytes.value
          v.reads c.bytes-test.true c.if-at-bytes.true byte);
    }
