-- The canonical spelling of a message that is spelled in any widths.
use Rattle.std.specs.Prelude.{◌≡◌, ◌≢◌, ℕ, ◌<◌, List, [], ◌++◌, length, take, false}
use Rattle.rmp_wire.specs.Msg.{Msg, depth}
use Rattle.rmp_wire.specs.Spelling.{canon, Spells}
use Rattle.rmp_decode.specs.Law.{Begins, Readable}
use Rattle.rmp_decode.specs.Refuse.{Refusal}
use Rattle.rmp_decode.specs.declared.error.Error.{Error}
use Rattle.rmp_serde.specs.Read.{AllTextsUtf8, ItemsUtf8, reads_value}
use Rattle.rmp_serde.specs.Refuse.{UnreadFor}
use Rattle.rmp_c.specs.Statuses.{status_of}

-- the bytes spell this message, which nests below 1024, and whose texts are UTF-8
pub record SpellsValue (bytes : List ℕ) (tree : Msg) : Type 0 where
  pub spells : Spells bytes tree
  pub fits : depth tree < 1024
  pub texts : AllTextsUtf8 tree

-- the bytes spell such a message, and these are its canonical spelling
pub record Respelled (bytes spelled : List ℕ) : Type 0 where
  pub tree : Msg
  pub value : SpellsValue bytes tree
  pub is : spelled ≡ canon tree

-- the first `len` bytes are the canonical spelling
abbrev pub WritesInto : List ℕ → ℕ → List ℕ → Type 0
WritesInto bytes len out = Respelled bytes (take len out) × (length (take len out) ≡ len)

-- these bytes begin with such a message, and then there is more
pub record HasMore (input : List ℕ) : Type 0 where
  pub bytes : List ℕ
  pub more : List ℕ
  pub tree : Msg
  pub front : input ≡ bytes ++ more
  pub some : more ≢ []
  pub value : SpellsValue bytes tree

-- the status is that of the error that names what is wrong first, at its place in the message
pub record SaysWhy (bytes : List ℕ) (status : ℕ) : Type 0 where
  pub error : Error
  pub is : status ≡ status_of error
  pub refusal : Refusal false (UnreadFor false) ItemsUtf8 1024 error bytes

-- the bytes spell such a message, and memory ran out for its canonical spelling
abbrev pub HasNoRoom : List ℕ → ℕ → Type 0
HasNoRoom bytes status = (status ≡ 9) × ((tree : Msg) × SpellsValue bytes tree)

-- they begin with no such message
abbrev pub NoValue : List ℕ → Type 0
NoValue bytes = Begins Spells (Readable reads_value) 1024 bytes → ⊥
