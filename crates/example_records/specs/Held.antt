-- The content of a log file.
use Rattle.std.specs.Prelude.{List, [], ◌∷◌, ◌++◌, ℕ, Bool, true, false, ◌≡◌, ◌≢◌, ◌<◌}
use Rattle.rmp_wire.specs.Msg.{Msg, depth}
use Rattle.rmp_wire.specs.Spelling.{canon, Fits}
use Rattle.rmp_serde.specs.Read.{AllTextsUtf8}
use Rattle.rmp_decode.specs.declared.error.Error.{Error}
use Rattle.rmp_decode.specs.declared.error.Error.TheVariants as errors
use Rattle.example_records.specs.declared.records.Records.{Records}

-- its bytes
abbrev pub held : Records → List ℕ
held r = r.bytes.items

-- records, one after another
unfoldable pub written : List Msg → List ℕ
written [] = []
written (m ∷ ms) = canon m ++ written ms

-- a message that a reader accepts: its texts are UTF-8, and it nests below the limit
pub record IsRecord (m : Msg) : Type 0 where
  pub fits : Fits m
  pub texts : AllTextsUtf8 m
  pub deep : depth m < 1024

-- a beginning of a record, which lacks some of its bytes; it may be empty
pub record IsCut (cut : List ℕ) : Type 0 where
  pub message : Msg
  pub missing : List ℕ
  pub fits : Fits message
  pub begun : canon message ≡ cut ++ missing
  pub lacks : missing ≢ []

-- whether the error is that memory ran out
abbrev pub is_memory : Error → Bool
is_memory errors.OutOfMemory = true
is_memory e = false
