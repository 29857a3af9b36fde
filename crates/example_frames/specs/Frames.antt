-- What a peer's bytes are, and why they are refused.
use Rattle.std.specs.Prelude.{◌≡◌, ◌≢◌, ℕ, ◌<◌, ◌≤◌, ◌^◌, ◌⊎◌, pos, true, false, List, [], ◌++◌, length, codes, Some}
use Rattle.std.specs.Int.{w32, to_be_bytes}
use Rattle.rmp_wire.specs.Msg.{Msg, whole, text, list, map, no_items, item, no_pairs, pair, depth}
use Rattle.rmp_wire.specs.Spelling.{canon, Fits, Spells}
use Rattle.rmp_decode.specs.Law.{Begins, Readable}
use Rattle.rmp_decode.specs.Refusing.{Refusals, Setting}
use Rattle.rmp_decode.specs.declared.error.Error.{Error}
use Rattle.rmp_decode.specs.declared.error.Error.TheVariants.{OutOfMemory}
use Rattle.rmp_serde.specs.Read.{AllTextsUtf8}
use Rattle.example_frames.specs.declared.frames.Refusal.{Refusal}
use Rattle.example_frames.specs.declared.frames.Refusal.TheVariants.{Cut, TooLong, NotRequest, Longer}
use Rattle.example_frames.specs.declared.request.Request.{Request}
use Rattle.example_frames.specs.declared.request.Request.TheVariants.{Ping, Get, Put}

-- The message of a request.
abbrev pub message_of : Request → Msg
message_of Ping = text (codes "Ping")
message_of (Get n) = map (pair (text (codes "Get")) (whole (pos n)) no_pairs)
message_of (Put n v) = map (pair (text (codes "Put")) (list (item (whole (pos n)) (item v no_items))) no_pairs)

-- these bytes are a length, in four big-endian bytes, and then the rest
abbrev pub SaysLength : ℕ → List ℕ → List ℕ → Type 0
SaysLength n rest bytes = (n < 2 ^ 32) × (bytes ≡ to_be_bytes w32 n ++ rest)

-- the frame of a request: the length of its message's canonical spelling, and the spelling
pub record IsFrame (r : Request) (frame : List ℕ) : Type 0 where
  pub fits : Fits (message_of r)
  pub texts : AllTextsUtf8 (message_of r)
  pub is : SaysLength (length (canon (message_of r))) (canon (message_of r)) frame

-- the bytes begin with a frame that is no longer than the limit, P holds of its content, and `rest` follows
pub record Framed (limit : ℕ) (P : List ℕ → Type 0) (rest bytes : List ℕ) : Type 0 where
  pub body : List ℕ
  pub is : SaysLength (length body) (body ++ rest) bytes
  pub within : length body ≤ limit
  pub holds : P body

-- these bytes spell a message that nests below 16, P holds of it, and `more` follows
pub record Asks (P : Msg → Type 0) (more body : List ℕ) : Type 0 where
  pub bytes : List ℕ
  pub tree : Msg
  pub is : body ≡ bytes ++ more
  pub spelled : Spells bytes tree
  pub fits : depth tree < 16
  pub holds : P tree

-- a request was consumed with its frame, which contained nothing else
abbrev pub Taken : {V : Type 0} → (Msg → V → Type 0) → ℕ → V → List ℕ → List ℕ → Type 0
Taken reads limit r rest bytes = Framed limit (Asks (λ m. reads m r) []) rest bytes

-- the bytes end inside of the length, or inside of a frame of a length that isn't too long
abbrev pub IsCut : ℕ → List ℕ → Type 0
IsCut limit bytes = (length bytes < 4) ⊎ ((n : ℕ) × (rest : List ℕ) × SaysLength n rest bytes × (n ≤ limit) × (length rest < n))

-- why the bytes begin with no frame within the limit
abbrev pub StopsFor : ℕ → List ℕ → Refusal → Type 0
StopsFor limit bytes Cut = IsCut limit bytes
StopsFor limit bytes (TooLong n) = (rest : List ℕ) × SaysLength n rest bytes × (limit < n)
StopsFor limit bytes (NotRequest e) = ⊥
StopsFor limit bytes Longer = ⊥

-- of the read of a request: it is from a slice, in any widths, and a request nests below 16
abbrev pub request_setting : Setting
request_setting = record { human = false; lends = true; strict = false; room = 16 }

-- The error is the one that the read of a request from these bytes answers. Unless memory ran out, no prefix of them encodes a message that nests below
-- 16 and is read as a request.
pub record NoneFor {V : Type 0} (reads : Msg → V → Type 0) (refuses : Setting → Refusals) (bytes : List ℕ) (e : Error) : Type 0 where
  pub none : e ≢ OutOfMemory → Begins Spells (Readable reads) 16 bytes → ⊥
  pub refused : refuses request_setting 0 0 (Some bytes) e

-- why the content of a frame isn't a request
abbrev pub WrongFor : {V : Type 0} → (Msg → V → Type 0) → (Setting → Refusals) → List ℕ → Refusal → Type 0
WrongFor reads refuses body Cut = ⊥
WrongFor reads refuses body (TooLong n) = ⊥
WrongFor reads refuses body (NotRequest e) = NoneFor reads refuses body e
WrongFor reads refuses body Longer = (more : List ℕ) × (more ≢ []) × Asks (Readable reads) more body

-- Why the bytes are refused: the content of a frame past the limit isn't looked at.
abbrev pub RefusedFor : {V : Type 0} → (Msg → V → Type 0) → (Setting → Refusals) → ℕ → List ℕ → Refusal → Type 0
RefusedFor reads refuses limit bytes e =
    StopsFor limit bytes e ⊎ ((rest : List ℕ) × Framed limit (λ body. WrongFor reads refuses body e) rest bytes)
