-- What a message that arrives in pieces still wants.
use Rattle.std.specs.Prelude.{◌≡◌, ◌↔◌, ℕ, zero, suc, ◌+◌, ◌*◌, ◌%◌, ◌<◌, ◌≤◌, List, [], ◌∷◌, ◌++◌, length}
use Rattle.rmp_wire.specs.declared.marker.Marker.{Marker}
use Rattle.rmp_wire.specs.declared.marker.Marker.TheVariants as marker
use Rattle.rmp_wire.specs.Msg.{Msgs, count}
use Rattle.rmp_wire.specs.Spelling.{Joined, IsBytes, SpellsAll}
use Rattle.rmp_scan.specs.declared.opening.Counts.{Counts}
use Rattle.rmp_scan.specs.declared.opening.Counts.TheVariants.{Payload, Extension, Items, Pairs}
use Rattle.rmp_scan.specs.declared.opening.Opening.{Opening}
use Rattle.rmp_scan.specs.declared.opening.Opening.TheVariants.{Fixed, Counted, Reserved}

-- so many bytes
abbrev pub IsPayload : ℕ → List ℕ → Type 0
IsPayload n b = (length b ≡ n) × IsBytes b

-- these bytes spell so many messages, one after another
pub record SpellsSome (n : ℕ) (bytes : List ℕ) : Type 0 where
  pub trees : Msgs
  pub many : count trees ≡ n
  pub spelled : SpellsAll bytes trees

-- so many bytes of payload, and then so many messages
abbrev pub WantsPayload : ℕ → ℕ → List ℕ → Type 0
WantsPayload payload n bytes = Joined (IsPayload payload) (SpellsSome n) bytes

-- how many bytes of payload follow a length
abbrev pub payload_of : Counts → ℕ → ℕ
payload_of Payload n = n
payload_of Extension n = suc n
payload_of Items n = 0
payload_of Pairs n = 0

-- how many messages do
abbrev pub parts_of : Counts → ℕ → ℕ
parts_of Payload n = 0
parts_of Extension n = 0
parts_of Items n = n
parts_of Pairs n = 2 * n

-- the missing bytes of a length, the highest first, then its payload and its messages, and then so many messages
abbrev pub WantsLength : Counts → ℕ → ℕ → ℕ → List ℕ → Type 0
WantsLength counts zero value n bytes = WantsPayload (payload_of counts value) (parts_of counts value + n) bytes
WantsLength counts (suc missing) value n [] = ⊥
WantsLength counts (suc missing) value n (b ∷ bytes) = (b < 256) × WantsLength counts missing (256 * value + b) n bytes

-- what a marker says of its message
abbrev pub opening_of : Marker → Opening
opening_of (marker.FixPos n) = Fixed 0 0
opening_of (marker.FixMap n) = Fixed 0 (2 * (n % 0x10))
opening_of (marker.FixArray n) = Fixed 0 (n % 0x10)
opening_of (marker.FixStr n) = Fixed (n % 0x20) 0
opening_of marker.Null = Fixed 0 0
opening_of marker.Reserved = Reserved
opening_of marker.False = Fixed 0 0
opening_of marker.True = Fixed 0 0
opening_of marker.Bin8 = Counted Payload 1
opening_of marker.Bin16 = Counted Payload 2
opening_of marker.Bin32 = Counted Payload 4
opening_of marker.Ext8 = Counted Extension 1
opening_of marker.Ext16 = Counted Extension 2
opening_of marker.Ext32 = Counted Extension 4
opening_of marker.F32 = Fixed 4 0
opening_of marker.F64 = Fixed 8 0
opening_of marker.U8 = Fixed 1 0
opening_of marker.U16 = Fixed 2 0
opening_of marker.U32 = Fixed 4 0
opening_of marker.U64 = Fixed 8 0
opening_of marker.I8 = Fixed 1 0
opening_of marker.I16 = Fixed 2 0
opening_of marker.I32 = Fixed 4 0
opening_of marker.I64 = Fixed 8 0
opening_of marker.FixExt1 = Fixed 2 0
opening_of marker.FixExt2 = Fixed 3 0
opening_of marker.FixExt4 = Fixed 5 0
opening_of marker.FixExt8 = Fixed 9 0
opening_of marker.FixExt16 = Fixed 17 0
opening_of marker.Str8 = Counted Payload 1
opening_of marker.Str16 = Counted Payload 2
opening_of marker.Str32 = Counted Payload 4
opening_of marker.Array16 = Counted Items 2
opening_of marker.Array32 = Counted Items 4
opening_of marker.Map16 = Counted Pairs 2
opening_of marker.Map32 = Counted Pairs 4
opening_of (marker.FixNeg z) = Fixed 0 0

-- The messages that follow such a first byte: where n more are wanted than its own.
abbrev pub Opens : ℕ → Opening → Type 0
Opens first (Fixed payload parts) = (n : ℕ) (bytes : List ℕ) → SpellsSome (suc n) (first ∷ bytes) ↔ WantsPayload payload (parts + n) bytes
Opens first (Counted counts width) = (n : ℕ) (bytes : List ℕ) → SpellsSome (suc n) (first ∷ bytes) ↔ WantsLength counts width 0 n bytes
Opens first Reserved = (n : ℕ) (bytes : List ℕ) → SpellsSome (suc n) (first ∷ bytes) → ⊥

-- what the table says of it: so many bytes and parts follow a first byte that tells both, and 2^32 - 1 bytes any other
abbrev pub Tells : Opening → ℕ → ℕ → Type 0
Tells (Fixed payload parts) payload' parts' = (payload' ≡ payload) × (parts' ≡ parts)
Tells (Counted counts width) payload' parts' = payload' ≡ 0xffffffff
Tells Reserved payload' parts' = payload' ≡ 0xffffffff

-- With these bytes the first of n + k messages are passed, so that j + k are wanted then, whatever k is.
abbrev pub Passes : List ℕ → ℕ → ℕ → Type 0
Passes passed n j = (k : ℕ) (rest : List ℕ) → SpellsSome (n + k) (passed ++ rest) ↔ SpellsSome (j + k) rest

-- with these bytes a length is read on
abbrev pub Reads : Counts → ℕ → ℕ → List ℕ → ℕ → ℕ → Type 0
Reads counts missing value read missing' value' =
    (n : ℕ) (rest : List ℕ) → WantsLength counts missing value n (read ++ rest) ↔ WantsLength counts missing' value' n rest

-- a length has one to four bytes
abbrev pub IsNarrow : Opening → Type 0
IsNarrow (Fixed payload parts) = Unit {0}
IsNarrow (Counted counts width) = (0 < width) × (width ≤ 4)
IsNarrow Reserved = Unit {0}

-- a length of which so many bytes are missing is below 2^32
pub record HasRoom (missing value : ℕ) : Type 0 where
  pub few : missing ≤ 4
  pub none : missing ≡ 4 → value ≡ 0
  pub one : missing ≡ 3 → value < 256
  pub two : missing ≡ 2 → value < 65536
  pub three : missing ≡ 1 → value < 16777216
