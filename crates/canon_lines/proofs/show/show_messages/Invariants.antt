-- What was shown so far, and how many bytes that took.
use Rattle.std.proofs.Common.{◌-◌, ◌^◌}
use Rattle.canon_lines.proofs.Showing.{ShownSoFar}
use Rattle.canon_lines.proofs.show.show_messages.Given as goal

abbrev pub invariant-messages : goal.invariant-messages
invariant-messages g l = record {
  shown : ShownSoFar g.R.Source g.W.Sink l.fn.form l.held.items l.place.number l.place.offset l.initial.source l.source l.initial.sink l.sink;
}

-- An offset has 64 bits.
abbrev pub decreases-messages : goal.decreases-messages
decreases-messages g l = 2 ^ 64 - l.place.offset
