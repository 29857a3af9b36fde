-- A point in time as a message. (MessagePack specification, "Timestamp extension type".)
use Rattle.std.specs.Prelude.{◌≡◌, ◌<◌, ◌≤◌, ℕ, ℤ, zero, negsuc, List, codes}
use Rattle.rmp_wire.specs.Msg.{Msg, extension}
use Rattle.rmp_wire.specs.declared.head.Head.{Head}
use Rattle.rmp_wire.specs.declared.head.Head.TheVariants.{Ext}
use Rattle.rmp_wire.specs.declared.marker.Marker.{Marker}
use Rattle.rmp_decode.specs.Words.{words}
use Rattle.rmp_decode.specs.declared.error.Error.{Error}
use Rattle.rmp_decode.specs.declared.error.Error.TheVariants.{Syntax}
use Rattle.rmp_decode.specs.declared.text.Text.{Text}
use Rattle.rmp_decode.specs.declared.text.Text.TheVariants.{InvalidType, InvalidLength}
use Rattle.rmp_types.specs.Payloads.{IsTimeLen, Says}

-- the type of the extension
abbrev pub time_tag : ℤ
time_tag = negsuc 0

-- ---- what is read

-- the payload says this point in time, and the nanoseconds are less than a second
abbrev pub IsTime : List ℕ → ℤ → ℕ → Type 0
IsTime payload seconds nanoseconds = Says payload seconds nanoseconds × (nanoseconds ≤ 999999999)

-- the message is read as this point in time
pub record IsTimestamp (m : Msg) (seconds : ℤ) (nanoseconds : ℕ) : Type 0 where
  pub payload : List ℕ
  pub is : m ≡ extension time_tag payload
  pub time : IsTime payload seconds nanoseconds

-- ---- what is refused

-- the head is that of a point in time
abbrev pub IsTimeHead : Head → Type 0
IsTimeHead (Ext n tag) = (tag ≡ time_tag) × IsTimeLen n
IsTimeHead h = ⊥

-- the error of another head: of an extension of this type with another length, and of another kind
abbrev pub not_time : Marker → Head → Error
not_time m (Ext n (negsuc zero)) = Syntax InvalidLength
not_time m h = Syntax InvalidType

-- the payload says a second of nanoseconds, or more
pub record SaysTooMany (payload : List ℕ) : Type 0 where
  pub seconds : ℤ
  pub nanoseconds : ℕ
  pub says : Says payload seconds nanoseconds
  pub above : 999999999 < nanoseconds

-- the error is the type's own text for that
pub record TellsTooMany (e : Error) : Type 0 where
  pub text : Text
  pub is : e ≡ Syntax text
  pub words_are : words text ≡ codes "nanoseconds above 999999999"

-- how a whole payload is refused
abbrev pub too_many : Head → List ℕ → Error → Type 0
too_many h payload e = SaysTooMany payload × TellsTooMany e
