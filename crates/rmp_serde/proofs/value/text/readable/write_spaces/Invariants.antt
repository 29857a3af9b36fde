use Rattle.std.specs.Fmt.{HasWritten, IsPlainFormatter}
use Rattle.rmp_serde.specs.Readable.{spaces}
use Rattle.rmp_serde.proofs.value.text.readable.write_spaces.Given as goal

abbrev pub invariant-loop-list : goal.invariant-loop-list
invariant-loop-list g l = IsPlainFormatter l.initial.f → HasWritten g.W.Write.write_str_gives l.initial.f (spaces l._list) l.f
