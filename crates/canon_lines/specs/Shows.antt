-- What is printed of messages for people.
use Rattle.std.specs.Prelude.{◌≡◌, ◌≢◌, ℕ, ◌+◌, ◌<◌, ◌⊎◌, Bool, false, List, [], ◌++◌, length, flat_map, Option, None, Some}
use Rattle.std.specs.Io.KnownBytes.{Appends}
use Rattle.std.specs.Option.{is_none}
use Rattle.rmp_wire.specs.Spelling.{Spells}
use Rattle.rmp_serde.specs.Msg.{Msg}
use Rattle.rmp_serde.specs.Paths.{place_of}
use Rattle.rmp_serde.specs.Read.{ItemsUtf8}
use Rattle.rmp_serde.specs.Readable.{readable_text, pretty_text}
use Rattle.rmp_serde.specs.Refuse.{UnreadFor}
use Rattle.rmp_serde.specs.declared.path.Path.{Path}
use Rattle.rmp_decode.specs.Refuse.{Refusal}
use Rattle.rmp_decode.specs.declared.error.Error.{Error}
use Rattle.rmp_decode.specs.declared.error.Error.TheVariants.{OutOfMemory}
use Rattle.rmp_scan.specs.Scans.{IsMessage, NoMessage}
use Rattle.rmp_wire.specs.declared.sink.Sink.{Ghosts}
use Rattle.canon_lines.specs.Complaints.{in_input, told_of}
use Rattle.canon_lines.specs.Held.{HoldsAll}
use Rattle.canon_lines.specs.Prints.{line, IsAccepted, NoneBegins, HoldsMessages, IsStart}
use Rattle.canon_lines.specs.Refused.{RefusesPart}
use Rattle.canon_lines.specs.declared.show.Form.{Form}
use Rattle.canon_lines.specs.declared.show.Form.TheVariants.{Line, Indented}
use Rattle.canon_lines.specs.declared.show.Told.{Told}
use Rattle.canon_lines.specs.declared.show.Told.TheVariants as told
use Rattle.canon_lines.specs.declared.show.refused.Refused.{Refused}
use Rattle.canon_lines.specs.declared.show.refused.Why.{Why}

-- a message as text
abbrev pub form_text : Form → Msg → List ℕ
form_text Line m = readable_text m
form_text Indented m = pretty_text m

-- the first n bytes spell a message that can be read, and this is its text
pub record TellsMessage (form : Form) (n : ℕ) (bytes text : List ℕ) : Type 0 where
  pub message : Msg
  pub front : List ℕ
  pub rest : List ℕ
  pub split : bytes ≡ front ++ rest
  pub long : n ≡ length front
  pub spelled : Spells front message
  pub accepted : IsAccepted message
  pub told : text ≡ form_text form message

-- no message that can be read begins there, the error names the first thing that is wrong, and the path leads to it
pub record TellsRefusal (bytes : List ℕ) (path : Path) (why : Why) : Type 0 where
  pub error : Error
  pub no_memory : error ≢ OutOfMemory
  pub none : NoneBegins bytes
  pub wrong : Refusal false (UnreadFor false) ItemsUtf8 1024 error bytes
  pub part : RefusesPart error bytes path why

-- what is told of the first message of some bytes
abbrev pub Tells : Form → List ℕ → List ℕ → Told → Type 0
Tells form bytes text (told.Message n) = TellsMessage form n bytes text
Tells form bytes text (told.Refused path why) = TellsRefusal bytes path why

-- Of the bytes that are held now these are looked at: they are a message, or no message begins with them, or they are all that is left.
pub record RefusesNext (ahead : Option (List ℕ)) (held held' : List ℕ) (path : Path) (why : Why) : Type 0 where
  pub seen : List ℕ
  pub following : List ℕ
  pub some : 0 < length seen
  pub split : held' ≡ seen ++ following
  pub decides : (IsMessage seen ⊎ NoMessage seen) ⊎ ((following ≡ []) × HoldsAll ahead held held')
  pub refusal : TellsRefusal seen path why

-- what is told of the next message, where these bytes were held, and are now, and these remained in the source
abbrev pub TellsNext : Form → Option (List ℕ) → List ℕ → List ℕ → List ℕ → Option Told → Type 0
TellsNext form ahead held held' text None = HoldsAll ahead held held' × (held' ≡ [])
TellsNext form ahead held held' text (Some (told.Message n)) = TellsMessage form n held' text
TellsNext form ahead held held' text (Some (told.Refused path why)) = RefusesNext ahead held held' path why

-- The message of this number can't be read, which begins at the offset: the bytes that were looked at are a message, or no message begins with
-- them, or nothing follows them.
pub record RefusesRest (number offset : ℕ) (rest : List ℕ) (r : Refused) : Type 0 where
  pub seen : List ℕ
  pub following : List ℕ
  pub some : 0 < length seen
  pub split : rest ≡ seen ++ following
  pub decides : (IsMessage seen ⊎ NoMessage seen) ⊎ (following ≡ [])
  pub refusal : TellsRefusal seen r.path r.why
  pub number_is : r.number ≡ number
  pub offset_is : r.offset ≡ offset + place_of r.path

-- how the messages of an input end: nothing remains, or the next one can't be read
abbrev pub EndsShowing : ℕ → ℕ → List ℕ → Option Refused → Type 0
EndsShowing number offset rest None = rest ≡ []
EndsShowing number offset rest (Some r) = RefusesRest number offset rest r

-- a line for each message, or several
abbrev pub shown_lines : Form → List Msg → List ℕ
shown_lines form ms = flat_map (λ m. line (form_text form m)) ms

-- Each message of an input is printed, in order, up to the first that can't be read.
pub record Shows (form : Form) (input out : List ℕ) (refused : Option Refused) : Type 0 where
  pub messages : List Msg
  pub front : List ℕ
  pub rest : List ℕ
  pub holds : HoldsMessages messages input front rest
  pub ends : EndsShowing (length messages + 1) (length front) rest refused
  pub printed : out ≡ shown_lines form messages

-- What is printed of an input if the run ends early: a beginning of the text of some first messages.
pub record StartsShowing (form : Form) (input out : List ℕ) : Type 0 where
  pub messages : List Msg
  pub front : List ℕ
  pub rest : List ℕ
  pub holds : HoldsMessages messages input front rest
  pub start : IsStart (shown_lines form messages) out

-- What an input prints: its messages, and on the errors the one that can't be read. This says whether there is none.
pub record ShowsInput (form : Form) (input out told : List ℕ) (accepted : Bool) : Type 0 where
  pub refused : Option Refused
  pub shows : Shows form input out refused
  pub told_is : told ≡ told_of (in_input refused)
  pub accepted_is : accepted ≡ is_none refused

-- bytes were written to the one sink and to the other, of which P holds together
pub record PutsBoth {W E : Type 0} (g : Ghosts W) (h : Ghosts E) (P : List ℕ → List ℕ → Type 0) (old new : W) (old' new' : E) : Type 0 where
  pub out : List ℕ
  pub told : List ℕ
  pub appended : Appends (g.told old) (g.told new) out
  pub told_appended : Appends (h.told old') (h.told new') told
  pub shown : P out told
