-- Numbers of 128 bits: what is read as one, and how what isn't is refused.
use Rattle.std.specs.Prelude.{◌≡◌, ◌⊎◌, true, ℕ, ℤ, pos, negsuc, List, Option, Result, length}
use Rattle.std.specs.Int.{w128, from_be_bytes, cast_signed}
use Rattle.std.specs.Io.KnownBytes.{Consumes}
use Rattle.rmp_wire.specs.Msg.{Msg, whole, bin}
use Rattle.rmp_wire.specs.Spelling.{IsBytes}
use Rattle.rmp_wire.specs.declared.head.Head.{Head}
use Rattle.rmp_wire.specs.declared.head.Head.TheVariants.{Whole, Bin, Array}
use Rattle.rmp_wire.specs.declared.marker.Marker.{Marker}
use Rattle.rmp_wire.specs.declared.marker.Marker.TheVariants.{FixArray}
use Rattle.rmp_wire.specs.declared.source.Source.{Ghosts}
use Rattle.rmp_decode.specs.Content.{never_refused}
use Rattle.rmp_decode.specs.Payloads.{Kind}
use Rattle.rmp_decode.specs.Pieces.{PullsPayload}
use Rattle.rmp_decode.specs.declared.error.Error.{Error}
use Rattle.rmp_decode.specs.declared.error.Error.TheVariants.{LengthMismatch, OutOfRange, TypeMismatch}

-- 16 bytes, the highest first, of a number without a sign
pub record IsSixteen (m : Msg) (n : ℕ) : Type 0 where
  pub bytes : List ℕ
  pub is : m ≡ bin bytes
  pub long : length bytes ≡ 16
  pub number : n ≡ from_be_bytes w128 bytes

-- a number from 0 on, or 16 bytes
abbrev pub IsUnsigned128 : Msg → ℕ → Type 0
IsUnsigned128 m n = (m ≡ whole (pos n)) ⊎ IsSixteen m n

-- a number, or 16 bytes in two's complement
abbrev pub IsSigned128 : Msg → ℤ → Type 0
IsSigned128 m z = (m ≡ whole z) ⊎ ((n : ℕ) × IsSixteen m n × (z ≡ cast_signed w128 n))

-- the heads that are wanted where any number is, and where one from 0 on is
abbrev pub IsSigned128Head : Head → Type 0
IsSigned128Head (Whole z) = Unit {0}
IsSigned128Head (Bin n) = n ≡ 16
IsSigned128Head h = ⊥

abbrev pub IsUnsigned128Head : Head → Type 0
IsUnsigned128Head (Whole (pos n)) = Unit {0}
IsUnsigned128Head (Whole (negsuc n)) = ⊥
IsUnsigned128Head (Bin n) = n ≡ 16
IsUnsigned128Head h = ⊥

-- how a list is refused there, by its marker
abbrev pub not_wide_list : Marker → Error
not_wide_list (FixArray n) = LengthMismatch 16
not_wide_list m = TypeMismatch m

-- how a message of another kind is: a negative number too, where one from 0 on is wanted
abbrev pub not_wide : Marker → Head → Error
not_wide m (Whole z) = OutOfRange
not_wide m (Bin n) = LengthMismatch 16
not_wide m (Array n) = not_wide_list m
not_wide m h = TypeMismatch m

-- 16 bytes were taken, which are the number
pub record TakesSixteen (old new : Option (List ℕ)) (n : ℕ) : Type 0 where
  pub bytes : List ℕ
  pub takes : Consumes old new bytes
  pub long : length bytes ≡ 16
  pub small : IsBytes bytes
  pub number : n ≡ from_be_bytes w128 bytes

-- the next 16 bytes were read as a number without a sign, or there are fewer
abbrev pub ReadsSixteen : {S : Type 0} → Ghosts S → S → S → Result ℕ Error → Type 0
ReadsSixteen g old new result = PullsPayload g 16 true TakesSixteen old new result

-- ---- the kinds

-- a number
abbrev pub a_signed128 : Kind ℤ
a_signed128 = record {
  reads = IsSigned128;
  wanted = IsSigned128Head;
  payload = IsSigned128Head;
  other = not_wide;
  refused = never_refused;
  lends = true;
}

-- a number from 0 on
abbrev pub an_unsigned128 : Kind ℕ
an_unsigned128 = record {
  reads = IsUnsigned128;
  wanted = IsUnsigned128Head;
  payload = IsUnsigned128Head;
  other = not_wide;
  refused = never_refused;
  lends = true;
}
