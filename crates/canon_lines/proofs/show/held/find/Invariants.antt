-- The scanner has the bytes so far, and a message begins with them.
use Rattle.std.proofs.Common.{◌≡◌, ◌≤◌, ◌-◌, ◌^◌, length, take}
use Rattle.rmp_scan.specs.Scans.{IsAfter}
use Rattle.canon_lines.specs.Held.{Pulls}
use Rattle.canon_lines.proofs.show.held.find.Given as goal

abbrev pub invariant-pieces : goal.invariant-pieces
invariant-pieces g l = record {
  after : IsAfter (take l.scanned l.bytes.items) l.scanner;
  within : l.scanned ≤ length l.bytes.items;
  pulled : Pulls g.R.Source l.initial.bytes.items l.bytes.items l.initial.source l.source;
  place : g.R.Source.place l.source ≡ g.R.Source.place l.initial.source;
}

-- A vector has fewer than 2 ^ 64 bytes.
abbrev pub decreases-pieces : goal.decreases-pieces
decreases-pieces g l = 2 ^ 64 - length l.bytes.items
