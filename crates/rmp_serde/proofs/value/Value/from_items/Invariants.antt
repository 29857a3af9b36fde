use Rattle.std.proofs.Common.{take}
use Rattle.rmp_wire.specs.Msg.{msgs}
use Rattle.rmp_serde.proofs.Making.{IsRowOf}
use Rattle.rmp_serde.proofs.value.Value.from_items.Given as goal

-- the items so far are copied
abbrev pub invariant-loop-item : goal.invariant-loop-item
invariant-loop-item l = IsRowOf l.parts (msgs (take l.item-index l.items))
