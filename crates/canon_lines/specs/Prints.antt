-- What the lines of the input print.
use Rattle.std.specs.Prelude.{◌≡◌, ◌≢◌, ℕ, ◌<◌, ◌⊎◌, Bool, true, false, ◌&&◌, List, [], ◌∷◌, ◌++◌, length, flat_map, All, Result, Ok, Err}
use Rattle.std.specs.Io.KnownBytes.{Appends}
use Rattle.hex.specs.Hex.{decode_of}
use Rattle.hex.specs.declared.error.FromHexError.{FromHexError}
use Rattle.rmp_wire.specs.Spelling.{Spells, SpellsAll}
use Rattle.rmp_wire.specs.declared.sink.Sink.{Ghosts}
use Rattle.rmp_serde.specs.Msg.{Msg, msgs, depth}
use Rattle.rmp_serde.specs.Read.{AllTextsUtf8, ItemsUtf8}
use Rattle.rmp_serde.specs.Refuse.{UnreadFor}
use Rattle.rmp_decode.specs.Refuse.{Refusal}
use Rattle.rmp_decode.specs.declared.error.Error.{Error}
use Rattle.rmp_decode.specs.declared.error.Error.TheVariants.{OutOfMemory}
use Rattle.canon_lines.specs.Lines.{digits_in}
use Rattle.canon_lines.specs.Messages.{message_text, refused_text, no_hex_text}

-- a text as a line
abbrev pub line : List ℕ → List ℕ
line text = text ++ 10 ∷ []

-- a message that a line may hold nests below the limit, and its texts are UTF-8
pub record IsAccepted (m : Msg) : Type 0 where
  pub nested : depth m < 1024
  pub utf8 : AllTextsUtf8 m

-- no accepted message begins there
abbrev pub NoneBegins : List ℕ → Type 0
NoneBegins xs = (b rest : List ℕ) (m : Msg) → xs ≡ b ++ rest → Spells b m → IsAccepted m → ⊥

-- the bytes begin with the spellings of these messages, in order, and this is what follows them
pub record HoldsMessages (ms : List Msg) (bytes front rest : List ℕ) : Type 0 where
  pub split : bytes ≡ front ++ rest
  pub spelled : SpellsAll front (msgs ms)
  pub accepted : All IsAccepted ms

-- the remaining bytes begin with no message, and their refusal is printed, which names the first thing that is
-- wrong there
pub record RefusesAt (place : ℕ) (rest out : List ℕ) : Type 0 where
  pub error : Error
  pub some : 0 < length rest
  pub no_memory : error ≢ OutOfMemory
  pub none : NoneBegins rest
  pub wrong : Refusal false (UnreadFor false) ItemsUtf8 1024 error rest
  pub shown : out ≡ line (refused_text place error)

-- how the messages of a line end: nothing remains, or no message begins there
abbrev pub EndsAs : Bool → ℕ → List ℕ → List ℕ → Type 0
EndsAs true place rest out = (rest ≡ []) × (out ≡ [])
EndsAs false place rest out = RefusesAt place rest out

-- a beginning of these bytes
pub record IsStart (whole out : List ℕ) : Type 0 where
  pub more : List ℕ
  pub split : whole ≡ out ++ more

-- What the bytes of a line print if the run ends early: a beginning of the lines of some first messages, and of
-- the refusal after them.
pub record StartsMessages (bytes out : List ℕ) : Type 0 where
  pub messages : List Msg
  pub front : List ℕ
  pub rest : List ℕ
  pub last : List ℕ
  pub holds : HoldsMessages messages bytes front rest
  pub ends : (last ≡ []) ⊎ RefusesAt (length front) rest last
  pub start : IsStart (flat_map (λ m. line (message_text m)) messages ++ last) out

-- Each message of a line prints a line, in order; a refusal prints its own after them.
pub record PrintsMessages (bytes out : List ℕ) (accepted : Bool) : Type 0 where
  pub messages : List Msg
  pub front : List ℕ
  pub rest : List ℕ
  pub last : List ℕ
  pub holds : HoldsMessages messages bytes front rest
  pub ends : EndsAs accepted (length front) rest last
  pub printed : out ≡ flat_map (λ m. line (message_text m)) messages ++ last

-- what a line prints if its bytes print this, and whether nothing in it is refused
abbrev pub PrintsDecoded : (List ℕ → List ℕ → Bool → Type 0) → Result (List ℕ) FromHexError → List ℕ → Bool → Type 0
PrintsDecoded shows (Ok bytes) out accepted = shows bytes out accepted
PrintsDecoded shows (Err e) out accepted = (out ≡ line no_hex_text) × (accepted ≡ false)

unfoldable pub PrintsLine : (List ℕ → List ℕ → Bool → Type 0) → List ℕ → List ℕ → Bool → Type 0
PrintsLine shows text out accepted = PrintsDecoded shows (decode_of (digits_in text)) out accepted

-- what a line prints if the run ends early
abbrev pub StartsDecoded : (List ℕ → List ℕ → Type 0) → Result (List ℕ) FromHexError → List ℕ → Type 0
StartsDecoded starts (Ok bytes) out = starts bytes out
StartsDecoded starts (Err e) out = IsStart (line no_hex_text) out

unfoldable pub StartsLine : (List ℕ → List ℕ → Type 0) → List ℕ → List ℕ → Type 0
StartsLine starts text out = (out ≡ []) ⊎ StartsDecoded starts (decode_of (digits_in text)) out

-- one output, and after it another
pub record InTurn (P Q : List ℕ → Bool → Type 0) (out : List ℕ) (accepted : Bool) : Type 0 where
  pub first : List ℕ
  pub second : List ℕ
  pub first_accepted : Bool
  pub second_accepted : Bool
  pub prints_first : P first first_accepted
  pub prints_second : Q second second_accepted
  pub printed : out ≡ first ++ second
  pub both : accepted ≡ (first_accepted && second_accepted)

-- what lines print, and whether nothing in them is refused
unfoldable pub PrintsAll : (List ℕ → List ℕ → Bool → Type 0) → List (List ℕ) → List ℕ → Bool → Type 0
PrintsAll shows [] out accepted = (out ≡ []) × (accepted ≡ true)
PrintsAll shows (text ∷ texts) out accepted = InTurn (PrintsLine shows text) (PrintsAll shows texts) out accepted

-- what the first of some lines prints if the run ends early
abbrev pub StartsFirst : (List ℕ → List ℕ → Type 0) → List (List ℕ) → List ℕ → Type 0
StartsFirst starts [] out = out ≡ []
StartsFirst starts (text ∷ texts) out = StartsLine starts text out

-- What lines print if the run ends early: the first ones print all of theirs, and the next one a beginning of
-- it.
pub record StartsAll (shows : List ℕ → List ℕ → Bool → Type 0) (starts : List ℕ → List ℕ → Type 0) (texts : List (List ℕ)) (out : List ℕ) : Type 0 where
  pub before : List (List ℕ)
  pub following : List (List ℕ)
  pub split : texts ≡ before ++ following
  pub first : List ℕ
  pub second : List ℕ
  pub accepted : Bool
  pub prints : PrintsAll shows before first accepted
  pub next : StartsFirst starts following second
  pub printed : out ≡ first ++ second

-- bytes that P holds of were written to the sink
pub record Puts {W : Type 0} (g : Ghosts W) (P : List ℕ → Type 0) (old new : W) : Type 0 where
  pub out : List ℕ
  pub appended : Appends (g.told old) (g.told new) out
  pub shown : P out
