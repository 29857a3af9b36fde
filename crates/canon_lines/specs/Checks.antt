-- What `check` prints for the bytes of a line.
use Rattle.std.specs.Prelude.{◌≡◌, ◌≢◌, ℕ, ◌+◌, ◌<◌, ◌⊎◌, Bool, true, false, List, [], ◌++◌, length, flat_map, All}
use Rattle.rmp_wire.specs.Spelling.{canon, Fits}
use Rattle.rmp_serde.specs.Msg.{Msg}
use Rattle.rmp_serde.specs.Places.{IsFault, Stops}
use Rattle.rmp_decode.specs.declared.error.Error.{Error}
use Rattle.rmp_decode.specs.declared.error.Error.TheVariants.{OutOfMemory}
use Rattle.canon_lines.specs.Messages.{canonical_text, fault_text, refused_text}
use Rattle.canon_lines.specs.Prints.{line, IsStart}

-- the bytes begin with the canonical spellings of these messages, in order, and this is what follows them
pub record HoldsCanonical (ms : List Msg) (bytes front rest : List ℕ) : Type 0 where
  pub split : bytes ≡ front ++ rest
  pub spelled : front ≡ flat_map canon ms
  pub fit : All Fits ms

-- the remaining bytes have a first head that isn't canonical, and its offset in the line is printed
pub record FaultsAt (place : ℕ) (rest out : List ℕ) : Type 0 where
  pub at : ℕ
  pub fault : IsFault rest at
  pub shown : out ≡ line (fault_text (place + at))

-- the remaining bytes are canonical up to an offset, and the refusal is printed that says why it is no further
pub record StopsAt (place : ℕ) (rest out : List ℕ) : Type 0 where
  pub error : Error
  pub some : 0 < length rest
  pub no_memory : error ≢ OutOfMemory
  pub wrong : Stops rest error
  pub shown : out ≡ line (refused_text place error)

-- how the messages of a line end: nothing remains, or the remaining bytes begin with no canonical message
abbrev pub EndsCheck : Bool → ℕ → List ℕ → List ℕ → Type 0
EndsCheck true place rest out = (rest ≡ []) × (out ≡ [])
EndsCheck false place rest out = FaultsAt place rest out ⊎ StopsAt place rest out

-- Each canonical message of a line prints a line, in order; a fault or a refusal prints its own after them.
pub record PrintsChecks (bytes out : List ℕ) (accepted : Bool) : Type 0 where
  pub messages : List Msg
  pub front : List ℕ
  pub rest : List ℕ
  pub last : List ℕ
  pub holds : HoldsCanonical messages bytes front rest
  pub ends : EndsCheck accepted (length front) rest last
  pub printed : out ≡ flat_map (λ m. line (canonical_text (length (canon m)))) messages ++ last

-- What the bytes of a line print if the run ends early: a beginning of the lines of some first messages, and of
-- what ends them.
pub record StartsChecks (bytes out : List ℕ) : Type 0 where
  pub messages : List Msg
  pub front : List ℕ
  pub rest : List ℕ
  pub last : List ℕ
  pub holds : HoldsCanonical messages bytes front rest
  pub ends : (last ≡ []) ⊎ EndsCheck false (length front) rest last
  pub start : IsStart (flat_map (λ m. line (canonical_text (length (canon m)))) messages ++ last) out
