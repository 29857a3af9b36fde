-- The payload of a timestamp. (MessagePack specification, "Timestamp extension type".)
use Rattle.std.specs.Prelude.{◌≡◌, ◌⊎◌, ◌+◌, ◌*◌, ◌^◌, ◌<◌, ◌&&◌, ℕ, ℤ, pos, negsuc, List, ◌++◌, length, take, drop, nat_lt, ◌==◌, if◌then◌else◌}
use Rattle.rmp_types.specs.declared.timestamp.payload.Payload.{Payload}
use Rattle.rmp_types.specs.declared.timestamp.payload.Payload.TheVariants as payload
use Rattle.std.specs.Int.{w32, w64, to_be_bytes, from_be_bytes, cast_unsigned, cast_signed}

-- ---- what a payload says

-- 4 bytes: the seconds, from 0 on
pub record Short (payload : List ℕ) (seconds : ℤ) (nanoseconds : ℕ) : Type 0 where
  pub long : length payload ≡ 4
  pub seconds_are : seconds ≡ pos (from_be_bytes w32 payload)
  pub nanoseconds_are : nanoseconds ≡ 0

-- 8 bytes: 30 bits of nanoseconds, and 34 bits of seconds, from 0 on
pub record Middle (payload : List ℕ) (seconds : ℤ) (nanoseconds : ℕ) : Type 0 where
  pub long : length payload ≡ 8
  pub low : ℕ
  pub low_fits : low < 2 ^ 34
  pub seconds_are : seconds ≡ pos low
  pub word : from_be_bytes w64 payload ≡ nanoseconds * 2 ^ 34 + low

-- 12 bytes: 4 of nanoseconds, and 8 of seconds, in two's complement
pub record Long (payload : List ℕ) (seconds : ℤ) (nanoseconds : ℕ) : Type 0 where
  pub long : length payload ≡ 12
  pub nanoseconds_are : nanoseconds ≡ from_be_bytes w32 (take 4 payload)
  pub seconds_are : seconds ≡ cast_signed w64 (from_be_bytes w64 (drop 4 payload))

abbrev pub Says : List ℕ → ℤ → ℕ → Type 0
Says payload seconds nanoseconds = Short payload seconds nanoseconds ⊎ (Middle payload seconds nanoseconds ⊎ Long payload seconds nanoseconds)

-- a payload has 4, 8 or 12 bytes
abbrev pub IsTimeLen : ℕ → Type 0
IsTimeLen n = (n ≡ 4) ⊎ ((n ≡ 8) ⊎ (n ≡ 12))

-- ---- what is written

-- The seconds have 34 bits. The payload has 4 bytes where they have 32 and there are no nanoseconds, and otherwise 8.
abbrev pub short_or_middle : ℕ → ℕ → List ℕ
short_or_middle seconds nanoseconds =
    if (nanoseconds == 0) && nat_lt seconds (2 ^ 32) then to_be_bytes w32 seconds else to_be_bytes w64 (nanoseconds * 2 ^ 34 + seconds)

-- the payload of 12 bytes
abbrev pub long_payload : ℤ → ℕ → List ℕ
long_payload seconds nanoseconds = to_be_bytes w32 nanoseconds ++ to_be_bytes w64 (cast_unsigned w64 seconds)

-- the payload that is written
unfoldable pub time_payload : ℤ → ℕ → List ℕ
time_payload (pos n) nanoseconds = if nat_lt n (2 ^ 34) then short_or_middle n nanoseconds else long_payload (pos n) nanoseconds
time_payload (negsuc n) nanoseconds = long_payload (negsuc n) nanoseconds

-- the bytes of a payload
abbrev pub payload_bytes : Payload → List ℕ
payload_bytes (payload.Short bytes) = bytes
payload_bytes (payload.Middle bytes) = bytes
payload_bytes (payload.Long bytes) = bytes
