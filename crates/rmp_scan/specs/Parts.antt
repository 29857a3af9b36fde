-- How many messages follow a head.
use Rattle.std.specs.Prelude.{ℕ, ◌*◌}
use Rattle.rmp_wire.specs.declared.head.Head.{Head}
use Rattle.rmp_wire.specs.declared.head.Head.TheVariants.{Array, Map}

-- as its items, or its keys and values
abbrev pub parts_after : Head → ℕ
parts_after (Array n) = n
parts_after (Map n) = 2 * n
parts_after h = 0
