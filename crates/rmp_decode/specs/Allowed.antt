-- What reading one head takes, or refuses, where only some heads may be read.
use Rattle.std.specs.Prelude.{ℕ, Bool, List, ◌∷◌, Ok, Err}
use Rattle.rmp_wire.specs.declared.error.ValueReadError.TheVariants as wire
use Rattle.rmp_wire.specs.declared.head.Head.{Head}
use Rattle.rmp_wire.specs.declared.marker.Marker.{Marker}
use Rattle.rmp_wire.specs.declared.source.Source.{Ghosts}
use Rattle.rmp_wire.specs.Canonical.{heads_of}
use Rattle.rmp_wire.specs.Heads.{IsHead}
use Rattle.rmp_wire.specs.Reading.{ReadsHead, ReadsNext}
use Rattle.rmp_wire.specs.Taking.{byte_of}
use Rattle.rmp_decode.specs.declared.deserializer.heads.HeadError.{HeadError}
use Rattle.rmp_decode.specs.declared.deserializer.heads.HeadError.TheVariants.{InvalidMarkerRead, InvalidDataRead, TypeMismatch, NotCanonical}

-- under this marker each head of that kind and number may be read, or none
abbrev pub AllAllowed : Bool → Marker → Head → Type 0
AllAllowed strict m h = (rest : List ℕ) → IsHead h (byte_of m ∷ rest) → heads_of strict h (byte_of m ∷ rest)

abbrev pub NoneAllowed : Bool → Marker → Head → Type 0
NoneAllowed strict m h = (rest : List ℕ) → heads_of strict h (byte_of m ∷ rest) → ⊥

module _ {S : Type 0} (g : Ghosts S) (strict : Bool) where
  -- what follows the marker's byte in a head that may be read was consumed
  pub record AfterAllowed (m : Marker) (old new : S) (h : Head) : Type 0 where
    pub read : ReadsHead g m old new (Ok h)
    pub allowed : AllAllowed strict m h

  -- the marker's byte begins no head, or one that may not be read
  abbrev pub FailsAfter : Marker → S → S → HeadError → Type 0
  FailsAfter m old new (InvalidMarkerRead fault) = ReadsHead g m old new (Err (wire.InvalidMarkerRead fault))
  FailsAfter m old new (InvalidDataRead fault) = ReadsHead g m old new (Err (wire.InvalidDataRead fault))
  FailsAfter m old new (TypeMismatch marker) = ReadsHead g m old new (Err (wire.TypeMismatch marker))
  FailsAfter m old new NotCanonical = (h : Head) × ReadsHead g m old new (Ok h) × NoneAllowed strict m h

  -- a head that may be read was taken, and this is its marker
  pub record NextAllowed (old new : S) (p : Marker × Head) : Type 0 where
    pub read : ReadsNext g old new (Ok p)
    pub allowed : AllAllowed strict p.0 p.1

  -- no head is ahead, or one that may not be read
  abbrev pub FailsNextAllowed : S → S → HeadError → Type 0
  FailsNextAllowed old new (InvalidMarkerRead fault) = ReadsNext g old new (Err (wire.InvalidMarkerRead fault))
  FailsNextAllowed old new (InvalidDataRead fault) = ReadsNext g old new (Err (wire.InvalidDataRead fault))
  FailsNextAllowed old new (TypeMismatch marker) = ReadsNext g old new (Err (wire.TypeMismatch marker))
  FailsNextAllowed old new NotCanonical = (p : Marker × Head) × ReadsNext g old new (Ok p) × NoneAllowed strict p.0 p.1
