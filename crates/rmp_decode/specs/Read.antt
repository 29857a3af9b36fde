-- What each type reads of a tree.
use Rattle.std.specs.Prelude.{◌≡◌, ℕ, ◌≤◌, List, Bool, ℤ, pos, ◌≤ℤ◌, IsUtf8, encode_utf8}
use Rattle.std.specs.Char.{IsScalar}
use Rattle.rmp_wire.specs.Msg.{Msg, whole, text, extension}
use Rattle.rmp_wire.specs.Types.{tag_of, ext_bytes}
use Rattle.rmp_wire.specs.declared.types.Ext.{Ext}
use Rattle.rmp_decode.specs.Kinds.{raw_msg}

-- a number without a sign, up to the most
abbrev pub IsUnsigned : ℕ → Msg → ℕ → Type 0
IsUnsigned most m n = (m ≡ whole (pos n)) × (n ≤ most)

-- a number between two others
abbrev pub IsSigned : ℤ → ℤ → Msg → ℤ → Type 0
IsSigned least most m z = (m ≡ whole z) × (least ≤ℤ z) × (z ≤ℤ most)

-- a text or bytes
abbrev pub IsRaw : Msg → List ℕ → Type 0
IsRaw m s = (t : Bool) × (m ≡ raw_msg t s)

-- a text or bytes that are UTF-8
abbrev pub IsString : Msg → List ℕ → Type 0
IsString m s = IsUtf8 s × IsRaw m s

-- a text of one character
abbrev pub IsChar : Msg → ℕ → Type 0
IsChar m c = (m ≡ text (encode_utf8 c)) × IsScalar c

-- an extension of that type, with those bytes
abbrev pub IsExt : Msg → Ext → Type 0
IsExt m e = m ≡ extension (tag_of e) (ext_bytes e)
