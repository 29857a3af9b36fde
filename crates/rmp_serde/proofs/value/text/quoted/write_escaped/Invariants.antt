-- What was written and the escapes of what remains are the escapes of all.
use Rattle.std.proofs.Common.{◌≡◌, ℕ, List, ◌++◌, length}
use Rattle.std.specs.Prelude.{flat_map}
use Rattle.std.specs.Fmt.{HasWritten, IsPlainFormatter}
use Rattle.std.specs.Str.{IsUtf8}
use Rattle.rmp_serde.specs.Quoted.{in_string}
use Rattle.rmp_serde.proofs.value.text.quoted.write_escaped.Given as goal

abbrev pub invariant-pieces : goal.invariant-pieces
invariant-pieces g l = IsUtf8 l.left × (IsPlainFormatter l.fn.f
    → (done : List ℕ) × HasWritten g.W.Write.write_str_gives l.fn.f done l.f × (done ++ flat_map in_string l.left ≡ flat_map in_string l.fn.text))

abbrev pub decreases-pieces : goal.decreases-pieces
decreases-pieces g l = length l.left
