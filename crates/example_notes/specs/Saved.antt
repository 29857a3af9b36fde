-- What notes are saved as.
use Rattle.std.specs.Prelude.{◌≡◌, ℕ, List, [], ◌∷◌, string_bytes}
use Rattle.std.specs.Global.{Vec}
use Rattle.rmp_wire.specs.Msg.{Msg, Msgs, text, list, no_items, item}
use Rattle.rmp_wire.specs.Spelling.{canon, Fits}
use Rattle.example_notes.specs.declared.note.Note.{Note}

-- a note as a message: the list of its title and its text
abbrev pub message : Note → Msg
message n = list (item (text (string_bytes n.title)) (item (text (string_bytes n.text)) no_items))

-- the messages of notes, in order
abbrev pub messages : List Note → Msgs
messages [] = no_items
messages (n ∷ ns) = item (message n) (messages ns)

-- no text of them, and not the list, is longer than a message can say
abbrev pub HasRoom : Vec Note → Type 0
HasRoom notes = Fits (list (messages notes.items))

-- the bytes are what the notes are saved as: the canonical encoding of the list of their messages
pub record IsSaved (notes : Vec Note) (bytes : List ℕ) : Type 0 where
  pub room : HasRoom notes
  pub is : bytes ≡ canon (list (messages notes.items))

-- the same titles and texts, in the same order
abbrev pub AreSame : Vec Note → Vec Note → Type 0
AreSame notes others = messages notes.items ≡ messages others.items
