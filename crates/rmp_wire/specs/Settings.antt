-- The settings that a wrapper overrides one of.
use Rattle.rmp_wire.specs.declared.config.StructMapConfig.{StructMapConfig}
use Rattle.rmp_wire.specs.declared.config.StructTupleConfig.{StructTupleConfig}
use Rattle.rmp_wire.specs.declared.config.HumanReadableConfig.{HumanReadableConfig}
use Rattle.rmp_wire.specs.declared.config.BinaryConfig.{BinaryConfig}

abbrev pub map_inner : {C : Type 0} → StructMapConfig C → C
map_inner c = c.inner

abbrev pub tuple_inner : {C : Type 0} → StructTupleConfig C → C
tuple_inner c = c.inner

abbrev pub readable_inner : {C : Type 0} → HumanReadableConfig C → C
readable_inner c = c.inner

abbrev pub binary_inner : {C : Type 0} → BinaryConfig C → C
binary_inner c = c.inner
