-- Requests one after another, with no lengths between them.
use Rattle.std.specs.Prelude.{◌≡◌, ◌≢◌, ℕ, ◌+◌, ◌≤◌, List, length, true, false, Some}
use Rattle.rmp_wire.specs.Msg.{Msg}
use Rattle.rmp_wire.specs.Spelling.{canon, Fits, Spells}
use Rattle.rmp_decode.specs.Exact.{IsEnd}
use Rattle.rmp_decode.specs.Law.{Begins, Readable}
use Rattle.rmp_decode.specs.Refusing.{Refusals, Setting}
use Rattle.rmp_decode.specs.declared.error.Error.{Error}
use Rattle.rmp_decode.specs.declared.error.Error.TheVariants as errors
use Rattle.rmp_decode.specs.declared.error.Error.TheVariants.{OutOfMemory}
use Rattle.rmp_scan.specs.Scans.{IsAfter, IsLonger, MessageEnds, NoMessage, limit_of}
use Rattle.rmp_serde.specs.Read.{AllTextsUtf8}
use Rattle.example_frames.specs.declared.request.Request.{Request}
use Rattle.example_frames.specs.declared.stream.Incoming.{Incoming}
use Rattle.example_frames.specs.declared.stream.StreamRefusal.{StreamRefusal}
use Rattle.example_frames.specs.declared.stream.StreamRefusal.TheVariants.{Reserved, TooLong, NotRequest, Closed}
use Rattle.example_frames.specs.Frames.{message_of, request_setting, Asks}

-- what has come of a request
abbrev pub held : Incoming → List ℕ
held s = s.bytes.items

-- how many bytes a request may have
abbrev pub limit_in : Incoming → ℕ
limit_in s = limit_of s.scanner

abbrev pub is_closed : Incoming → Type 0
is_closed s = s.closed ≡ true

-- nothing was refused, and the scanner has gone through what is held
pub record IsOpen (s : Incoming) : Type 0 where
  pub ready : s.closed ≡ false
  pub after : IsAfter (held s) s.scanner

-- what a peer sends for a request: its message's canonical encoding
pub record IsSent (r : Request) (bytes : List ℕ) : Type 0 where
  pub fits : Fits (message_of r)
  pub texts : AllTextsUtf8 (message_of r)
  pub is : bytes ≡ canon (message_of r)

-- the bytes begin with a request within the limit, and `rest` follows
pub record TakenFrom {V : Type 0} (reads : Msg → V → Type 0) (limit : ℕ) (r : V) (rest bytes : List ℕ) : Type 0 where
  pub asks : Asks (λ m. reads m r) rest bytes
  pub within : length bytes ≤ limit + length rest

-- a message ends in the bytes, they begin with no request, and the error is the one that the read of a request from the message answers
pub record IsOther {V : Type 0} (reads : Msg → V → Type 0) (refuses : Setting → Refusals) (bytes : List ℕ) (e : Error) : Type 0 where
  pub len : ℕ
  pub ends : MessageEnds bytes len
  pub none : Begins Spells (Readable reads) 16 bytes → ⊥
  pub refused : refuses request_setting 0 0 (Some ends.bytes) e

-- why the bytes are refused
abbrev pub StopsStream : {V : Type 0} → (Msg → V → Type 0) → (Setting → Refusals) → ℕ → List ℕ → StreamRefusal → Type 0
StopsStream reads refuses limit bytes Reserved = NoMessage bytes
StopsStream reads refuses limit bytes TooLong = IsLonger limit bytes
StopsStream reads refuses limit bytes (NotRequest e) = e ≢ OutOfMemory → IsOther reads refuses bytes e
StopsStream reads refuses limit bytes Closed = ⊥

-- the reason isn't that the bytes ended inside of a message
abbrev pub IsUncut : StreamRefusal → Type 0
IsUncut (NotRequest e) = IsEnd e → ⊥
IsUncut reason = Unit {0}

-- what a scanner's error is told as: no other error comes from a scanner that wasn't refused
abbrev pub refusal_for : Error → StreamRefusal
refusal_for (errors.TypeMismatch marker) = Reserved
refusal_for (errors.Syntax text) = TooLong
refusal_for e = Closed
