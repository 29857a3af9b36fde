-- What was read of the length.
use Rattle.std.proofs.Common.{◌<◌, ◌≤◌, take, length}
use Rattle.rmp_scan.specs.Openings.{HasRoom, Reads}
use Rattle.rmp_scan.proofs.length.Length.read.Given as goal

abbrev pub invariant-bytes : goal.invariant-bytes
invariant-bytes l = record {
  within : l.at ≤ length l.bytes;
  some : l.missing < l.fn.self.missing → 0 < l.at;
  fewer : l.missing ≤ l.fn.self.missing;
  room : HasRoom l.missing l.value;
  reads : Reads l.fn.self.counts l.fn.self.missing l.fn.self.value (take l.at l.bytes) l.missing l.value;
}

abbrev pub decreases-bytes : goal.decreases-bytes
decreases-bytes l = l.missing
