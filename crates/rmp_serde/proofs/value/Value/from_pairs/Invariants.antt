use Rattle.std.proofs.Common.{take}
use Rattle.rmp_wire.specs.Msg.{pairs}
use Rattle.rmp_serde.specs.Tokens.{flat_pairs}
use Rattle.rmp_serde.proofs.Making.{IsRowOf}
use Rattle.rmp_serde.proofs.value.Value.from_pairs.Given as goal

-- the pairs so far are copied
abbrev pub invariant-loop-key : goal.invariant-loop-key
invariant-loop-key l = IsRowOf l.parts (flat_pairs (pairs (take l.key-index l.entries)))
