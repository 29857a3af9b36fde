-- What a call that returns a slice of the input gives.
use Rattle.std.specs.Prelude.{◌≡◌, ℕ, Bool, true, false, List, Option, Result, MatchResult}
use Rattle.std.specs.Io.KnownBytes.{Consumes}
use Rattle.std.specs.IoError.{error_kind}
use Rattle.std.specs.declared.io.ErrorKind.TheVariants.{UnexpectedEof}
use Rattle.rmp_wire.specs.declared.slice.Reference.{Reference}
use Rattle.rmp_wire.specs.declared.slice.Reference.TheVariants.{Borrowed, Copied}
use Rattle.rmp_wire.specs.declared.slice.SourceFault.{SourceFault}
use Rattle.rmp_wire.specs.declared.slice.SourceFault.TheVariants.{Io, Memory}
use Rattle.rmp_wire.specs.Sources.{AtMostOne, IsShort}

-- the bytes, borrowed or copied
abbrev pub reference_bytes : Reference → List ℕ
reference_bytes (Borrowed s) = s.now
reference_bytes (Copied s) = s.now

-- whether they are borrowed from the input
abbrev pub is_lent : Reference → Bool
is_lent (Borrowed s) = true
is_lent (Copied s) = false

-- unless out of memory, the fault is the source's, which is counted once, or says that the input ended, where fewer
-- bytes remain than were asked for
abbrev pub Blames : SourceFault → ℕ → ℕ → Option (List ℕ) → ℕ → Type 0
Blames Memory before after ahead len = after ≡ before
Blames (Io e) before after ahead len = AtMostOne before after × (after ≡ before → IsShort len ahead × (error_kind e ≡ UnexpectedEof))

-- the bytes were consumed with no fault of the source (it counts them: before, after), or the error has its
-- cause
abbrev pub SliceRead : Option (List ℕ) → Option (List ℕ) → ℕ → ℕ → ℕ → Result Reference SourceFault → Type 0
SliceRead old new before after len r = MatchResult r (λ s. Consumes old new (reference_bytes s) × (after ≡ before)) (λ e. Blames e before after old len)
