-- What a contract sees of an open extension.
use Rattle.std.specs.Prelude.{ℤ}
use Rattle.std.specs.Borrow.{GName}
use Rattle.rmp_encode.specs.declared.extension.ExtSerializer.{ExtSerializer}
use Rattle.rmp_encode.specs.declared.extension.ExtFieldSerializer.{ExtFieldSerializer}
use Rattle.rmp_encode.specs.declared.serializer.Serializer.{Serializer}

module _ {W C : Type 0} where
  -- the serializer that it writes to, and the reference to it, before the type is set
  abbrev pub inside : ExtSerializer W C → Serializer W C
  inside q = q.se.now

  abbrev pub reference : ExtSerializer W C → GName
  reference q = q.se.ghost_name

  -- the serializer, the reference, and the type, once it is set
  abbrev pub tagged_inside : ExtFieldSerializer W C → Serializer W C
  tagged_inside q = q.se.now

  abbrev pub tagged_reference : ExtFieldSerializer W C → GName
  tagged_reference q = q.se.ghost_name

  abbrev pub type_of : ExtFieldSerializer W C → ℤ
  type_of q = q.tag
