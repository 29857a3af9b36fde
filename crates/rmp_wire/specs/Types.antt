-- What the types for bytes and extensions hold.
use Rattle.std.specs.Prelude.{ℕ, ℤ, List}
use Rattle.rmp_wire.specs.declared.types.Bytes.{Bytes}
use Rattle.rmp_wire.specs.declared.types.ByteBuf.{ByteBuf}
use Rattle.rmp_wire.specs.declared.types.Ext.{Ext}

abbrev pub bytes_of : Bytes → List ℕ
bytes_of b = b.bytes.now

abbrev pub buffer_bytes : ByteBuf → List ℕ
buffer_bytes b = b.bytes.items

abbrev pub tag_of : Ext → ℤ
tag_of e = e.tag

abbrev pub ext_bytes : Ext → List ℕ
ext_bytes e = e.bytes.items
