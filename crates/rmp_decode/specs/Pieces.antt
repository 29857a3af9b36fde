-- A piece of the input: what a read of it promises, and what comes where it couldn't be had.
use Rattle.std.specs.Prelude.{◌≡◌, ◌≢◌, ◌<◌, ℕ, List, ◌++◌, length, Bool, true, false, Option, IfSome, IfNone, MatchOption, Result, IfOk, IfErr, OnOk, Vec}
use Rattle.std.specs.Borrow.{Bor}
use Rattle.std.specs.Io.KnownBytes.{Consumes}
use Rattle.std.specs.IoError.{error_kind}
use Rattle.std.specs.declared.alloc.Global.{Global}
use Rattle.std.specs.declared.io.ErrorKind.TheVariants.{UnexpectedEof}
use Rattle.rmp_wire.specs.declared.slice.SourceFault.{SourceFault}
use Rattle.rmp_wire.specs.declared.slice.SourceFault.TheVariants.{Io, Memory}
use Rattle.rmp_wire.specs.declared.source.Source.{Ghosts}
use Rattle.rmp_wire.specs.Sources.{IsShort, Skips}
use Rattle.rmp_wire.specs.Spelling.{IsBytes}
use Rattle.rmp_decode.specs.Exact.{IsDataEnd, IsReadFault, TellsFault}
use Rattle.rmp_decode.specs.Law.{Explains}
use Rattle.rmp_decode.specs.declared.error.Error.{Error}
use Rattle.rmp_decode.specs.declared.error.Error.TheVariants.{OutOfMemory}

-- only want of memory becomes want of memory, a fault is told, and an end of the input is one after the first byte
abbrev pub Blamed : SourceFault → Error → Type 0
Blamed Memory e = e ≡ OutOfMemory
Blamed (Io fault) e = (e ≢ OutOfMemory) × (error_kind fault ≡ UnexpectedEof → IsDataEnd e) × IsReadFault e

-- The error where a piece of that length is wanted and isn't had: the input ended within it, or it is whole and refused so.
pub record ExactOfPiece (len : ℕ) (refused : List ℕ → Error → Type 0) (e : Error) (xs : List ℕ) : Type 0 where
  pub cut : length xs < len → IsDataEnd e
  pub whole : (s following : List ℕ) → xs ≡ s ++ following → length s ≡ len → refused s e

-- the same, where the bytes are told
unfoldable pub RefusesPiece : ℕ → (List ℕ → Error → Type 0) → Option (List ℕ) → Error → Type 0
RefusesPiece len refused known e = IfSome known (ExactOfPiece len refused e)

-- ---- all that a read promises

-- All that a read of the next n bytes does, where `gives` says what a value has of what was ahead, and is. Memory can't run out where that is lent.
pub record PullsPayload {R V : Type 0} (g : Ghosts R) (n : ℕ) (lends : Bool) (gives : Option (List ℕ) → Option (List ℕ) → V → Type 0) (old new : R)
    (result : Result V Error) : Type 0 where
  pub ok : IfOk result (gives (g.ahead old) (g.ahead new))
  pub sound : OnOk result (g.faults new ≡ g.faults old)
  pub err : IfErr result (λ e. Explains e (g.faults old) (g.faults new) (IsShort n (g.ahead old)))
  pub end : IfErr result (λ e. Explains e (g.faults old) (g.faults new) (IsDataEnd e))
  pub fault : IfErr result (TellsFault (g.faults old) (g.faults new))
  pub memory : lends ≡ true → IfErr result (λ e. e ≢ OutOfMemory)
  pub place : g.place new ≡ g.place old

-- n bytes were taken into a vector
abbrev pub Copies : ℕ → Option (List ℕ) → Option (List ℕ) → Vec ℕ Global → Type 0
Copies n old new v = (length v.items ≡ n) × IsBytes v.items × Consumes old new v.items

-- n bytes were lent, or only skipped, by whether the source lends
abbrev pub Lends : Bool → ℕ → Option (List ℕ) → Option (List ℕ) → Option (Bor (List ℕ)) → Type 0
Lends lends n old new o = MatchOption o ((lends ≡ false) × Skips n old new)
    (λ s. (lends ≡ true) × (length s.now ≡ n) × IsBytes s.now × Consumes old new s.now)

-- All that a read of buffered bytes does: they are consumed and the value is what `gives` says, or the source is as it was.
pub record PullsBuffered {R V : Type 0} (g : Ghosts R) (gives : Option (List ℕ) → Option (List ℕ) → V → Type 0) (old new : R) (result : Option V)
    : Type 0 where
  pub some : IfSome result (gives (g.ahead old) (g.ahead new))
  pub sound : IfSome result (λ _. g.faults new ≡ g.faults old)
  pub place : IfSome result (λ _. g.place new ≡ g.place old)
  pub kept : IfNone result (new ≡ old)
