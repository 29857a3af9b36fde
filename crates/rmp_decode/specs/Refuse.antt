-- Which error names the first thing that is wrong with a message, and where.
use Rattle.std.specs.Prelude.{◌≡◌, ◌≢◌, ◌⊎◌, ℕ, suc, ◌-◌, ◌<◌, Bool, true, false, List, [], ◌∷◌, Option, IfSome, Result, IfErr}
use Rattle.rmp_wire.specs.declared.head.Head.{Head}
use Rattle.rmp_wire.specs.declared.marker.Marker.{Marker}
use Rattle.rmp_wire.specs.declared.marker.Marker.TheVariants.{Reserved}
use Rattle.rmp_wire.specs.declared.source.Source.{Ghosts}
use Rattle.rmp_wire.specs.Msg.{Msgs}
use Rattle.rmp_wire.specs.Canonical.{SpellsAs}
use Rattle.rmp_decode.specs.Anys.{OpensParts}
use Rattle.rmp_decode.specs.Content.{CutPayload}
use Rattle.rmp_decode.specs.Exact.{BeginsWith, BeginsWithNone, OtherWidth, IsMarkerEnd, IsDataEnd, TellsFault}
use Rattle.rmp_decode.specs.Kinds.{content_len}
use Rattle.rmp_decode.specs.Law.{Lawful}
use Rattle.rmp_decode.specs.Seq.{BeginsRow}
use Rattle.rmp_decode.specs.Skip.{SkipsRow, any_tree, any_row, parts_head, parts_count}
use Rattle.rmp_decode.specs.State.{left, faults_of, room_of}
use Rattle.rmp_decode.specs.declared.deserializer.Deserializer.{Deserializer}
use Rattle.rmp_decode.specs.declared.error.Error.{Error}
use Rattle.rmp_decode.specs.declared.error.Error.TheVariants.{InvalidMarkerRead, InvalidDataRead, TypeMismatch, DepthLimitExceeded, OutOfMemory, NotCanonical}

-- the bytes end inside of a head: the first of them isn't c1, which opens no message, and no head is whole
pub record HeadIsCut (xs : List ℕ) : Type 0 where
  pub byte : ℕ
  pub following : List ℕ
  pub front : xs ≡ byte ∷ following
  pub opens : byte ≢ 0xc1
  pub none : BeginsWithNone false xs

-- the bytes end inside of the content of a text, of bytes or of an extension
abbrev pub ContentIsCut : Bool → List ℕ → Type 0
ContentIsCut strict xs = (h : Head) × CutPayload strict h xs

-- the byte c1, which opens no message
pub record IsReserved (xs : List ℕ) : Type 0 where
  pub following : List ℕ
  pub front : xs ≡ 0xc1 ∷ following

-- the bytes begin with a whole head, and with none that may be read
pub record WidthIsWrong (strict : Bool) (xs : List ℕ) : Type 0 where
  pub other : OtherWidth xs
  pub none : BeginsWithNone strict xs

-- what is wrong with the message that the bytes begin with, and that has to nest below the room, by the error that says so
abbrev pub IsWrong : Bool → ℕ → Error → List ℕ → Type 0
IsWrong strict room (InvalidMarkerRead fault) xs = IsMarkerEnd (InvalidMarkerRead fault) × (xs ≡ [])
IsWrong strict room (InvalidDataRead fault) xs = IsDataEnd (InvalidDataRead fault) × (HeadIsCut xs ⊎ ContentIsCut strict xs)
IsWrong strict room (TypeMismatch marker) xs = (marker ≡ Reserved) × IsReserved xs
IsWrong strict room DepthLimitExceeded xs = (room ≡ 1) × OpensParts strict xs
IsWrong strict room NotCanonical xs = WidthIsWrong strict xs
IsWrong strict room _ xs = ⊥

-- the bytes begin with the head of a leaf that has a payload
pub record OpensLeaf (strict : Bool) (xs : List ℕ) : Type 0 where
  pub head : Head
  pub marker : Marker
  pub starts : BeginsWith strict marker head xs
  pub no_parts : (q : Bool × ℕ) → head ≡ parts_head q.0 q.1 → ⊥
  pub some : 0 < content_len head

-- the bytes begin with the head of a list or a map that isn't empty
pub record OpensSome (strict : Bool) (xs : List ℕ) : Type 0 where
  pub parts : OpensParts strict xs
  pub some : 0 < parts.len

-- Why a message can't be skipped, which may be inside of another that has to nest below `top`: what is wrong with it, or memory ran out, for
-- a payload that isn't lent, or for the messages that are wanted after an inner list or map that isn't empty.
abbrev pub UnpassedFor : Bool → ℕ → Bool → ℕ → Error → List ℕ → Type 0
UnpassedFor lends top strict room OutOfMemory xs = ((lends ≡ false) × OpensLeaf strict xs) ⊎ ((room < top) × OpensSome strict xs)
UnpassedFor lends top strict room e xs = IsWrong strict room e xs

-- The bytes begin with a list or a map, of which some messages are whole, but not all: they nest below the room, and are readable.
pub record Enters (strict : Bool) (readable : Msgs → Type 0) (room : ℕ) (xs : List ℕ) : Type 0 where
  pub parts : OpensParts strict xs
  pub many : ℕ
  pub before : BeginsRow (SpellsAs strict) readable room many parts.starts.rest
  pub fewer : many < parts_count parts.is_map parts.len

-- The error names the first thing that is wrong, where a message is wanted that nests below the room: its head or payload, or, where it is a list or
-- a map, what comes after some of its messages that are readable.
pub data Refusal (strict : Bool) (wrong : ℕ → Error → List ℕ → Type 0) (readable : Msgs → Type 0) : ℕ → Error → List ℕ → Type 0 where
  here : {room : ℕ} {e : Error} {xs : List ℕ} → wrong room e xs → Refusal strict wrong readable room e xs
  inside : {room : ℕ} {e : Error} {xs : List ℕ} → (enters : Enters strict readable room xs) → Refusal strict wrong readable room e enters.before.rest
      → Refusal strict wrong readable (suc room) e xs

-- the same, where the bytes are told
unfoldable pub RefusedFor : Bool → (ℕ → Error → List ℕ → Type 0) → (Msgs → Type 0) → ℕ → Error → Option (List ℕ) → Type 0
RefusedFor strict wrong readable room e known = IfSome known (Refusal strict wrong readable room e)

-- What a refusal of a ready reader says, unless the source had a fault.
abbrev pub RefusesFirst : {R C : Type 0} → Ghosts R → (Bool → ℕ → Error → List ℕ → Type 0) → (Msgs → Type 0) → Deserializer R C → Deserializer R C → Error
    → Type 0
RefusesFirst g wrong readable old new e = old.failed ≡ false → faults_of g new ≡ faults_of g old
    → RefusedFor old.strict (wrong old.strict) readable (room_of old) e (left g old)

-- of so many messages that are wanted one after another some are readable, and the next one is refused
pub record RowRefusal (strict : Bool) (wrong : ℕ → Error → List ℕ → Type 0) (readable : Msgs → Type 0) (room n : ℕ) (e : Error) (xs : List ℕ) : Type 0 where
  pub many : ℕ
  pub before : BeginsRow (SpellsAs strict) readable room many xs
  pub fewer : many < n
  pub next : Refusal strict wrong readable room e before.rest

-- the same, where the bytes are told
unfoldable pub RowRefusedFor : Bool → (ℕ → Error → List ℕ → Type 0) → (Msgs → Type 0) → ℕ → ℕ → Error → Option (List ℕ) → Type 0
RowRefusedFor strict wrong readable room n e known = IfSome known (RowRefusal strict wrong readable room n e)

-- what a refusal of such messages says, unless the source had a fault
abbrev pub RefusesRowFirst : {R C : Type 0} → Ghosts R → (Bool → ℕ → Error → List ℕ → Type 0) → (Msgs → Type 0) → ℕ → ℕ → Deserializer R C
    → Deserializer R C → Error → Type 0
RefusesRowFirst g wrong readable room n old new e = faults_of g new ≡ faults_of g old
    → RowRefusedFor old.strict (wrong old.strict) readable room n e (left g old)

-- ---- all that skipping promises

-- of the parts of a list or a map whose head was taken, so many messages, by whether the source lends
pub record SkipsParts {R C : Type 0} (g : Ghosts R) (lends : Bool) (n : ℕ) (mid new : Deserializer R C) (result : Result (Unit {0}) Error) : Type 0 where
  pub law : SkipsRow g (room_of mid - 1) n mid new result
  pub deep : IfErr result (λ e. room_of mid ≡ 1 → e ≡ DepthLimitExceeded)
  pub exact : IfErr result (λ e. 1 < room_of mid → RefusesRowFirst g (UnpassedFor lends (room_of mid)) any_row (room_of mid - 1) n mid new e)
  pub fault : IfErr result (TellsFault (faults_of g mid) (faults_of g new))
  pub memory : lends ≡ true → IfErr result (λ e. e ≡ OutOfMemory → 0 < n)

-- of one message
pub record SkipsMessage {R C : Type 0} (g : Ghosts R) (lends : Bool) (old new : Deserializer R C) (result : Result (Unit {0}) Error) : Type 0 where
  pub law : Lawful g any_tree old new result
  pub exact : IfErr result (RefusesFirst g (UnpassedFor lends (room_of old)) any_row old new)
  pub fault : IfErr result (TellsFault (faults_of g old) (faults_of g new))
  pub memory : lends ≡ true → IfErr result (λ e. e ≡ OutOfMemory → IfSome (left g old) (OpensSome old.strict))
