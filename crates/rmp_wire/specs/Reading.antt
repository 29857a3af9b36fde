-- Which of the remaining bytes a read of a marker or a head consumes, and what a failure means.
use Rattle.std.specs.Prelude.{◌≡◌, ◌≢◌, ℕ, ◌<◌, ◌^◌, List, [], ◌∷◌, ◌++◌, length, ℤ, FitsSigned, Option, IfSome, Result, Err, IfOk, OnOk, IfErr}
use Rattle.std.specs.Int.{Width, w8, to_be_bytes, byte_len}
use mir.Val.{bits}
use Rattle.std.specs.Io.KnownBytes.{Consumes, Keeps, IsAtEnd}
use Rattle.std.specs.declared.io.ErrorKind.TheVariants.{UnexpectedEof}
use Rattle.rmp_wire.specs.declared.error.IoFault.{IoFault}
use Rattle.rmp_wire.specs.declared.error.MarkerReadError.{MarkerReadError}
use Rattle.rmp_wire.specs.declared.error.ValueReadError.{ValueReadError}
use Rattle.rmp_wire.specs.declared.error.ValueReadError.TheVariants.{InvalidMarkerRead, InvalidDataRead, TypeMismatch}
use Rattle.rmp_wire.specs.declared.head.Head.{Head}
use Rattle.rmp_wire.specs.declared.marker.Marker.{Marker}
use Rattle.rmp_wire.specs.declared.marker.Marker.TheVariants.{Reserved}
use Rattle.rmp_wire.specs.declared.source.Source.{Ghosts}
use Rattle.rmp_wire.specs.Faults.{fault_kind}
use Rattle.rmp_wire.specs.Heads.{IsHead, tag_byte}
use Rattle.rmp_wire.specs.Sources.{AtMostOne, TakesShort}
use Rattle.rmp_wire.specs.Taking.{marker_of, byte_of}

-- the first remaining byte was consumed, and this is its marker
pub record TakesMarker (m : Marker) (old new : Option (List ℕ)) : Type 0 where
  pub byte : ℕ
  pub is_byte : byte < 256
  pub is_marker : m ≡ marker_of byte
  pub taken : Consumes old new (byte ∷ [])

-- No first byte could be read: nothing was consumed, at most one fault was counted (before, after), and if there was
-- none, no byte remains.
pub record FailsMarker (old new : Option (List ℕ)) (before after : ℕ) (fault : IoFault) : Type 0 where
  pub kept : Keeps old new
  pub counts : AtMostOne before after
  pub none_ahead : after ≡ before → IsAtEnd old
  pub end : after ≡ before → fault_kind fault ≡ UnexpectedEof

-- the rest of a head was consumed, after its marker
pub record TakesHead (m : Marker) (h : Head) (old new : Option (List ℕ)) : Type 0 where
  pub rest : List ℕ
  pub is_head : IsHead h (byte_of m ∷ rest)
  pub taken : Consumes old new rest

-- the marker's byte and the remaining bytes begin with no head
abbrev pub IsCut : Marker → Option (List ℕ) → Type 0
IsCut m ahead = IfSome ahead (λ xs. (h : Head) (x rest : List ℕ) → xs ≡ x ++ rest → IsHead h (byte_of m ∷ x) → ⊥)

-- fewer bytes were consumed than follow the marker in any of its heads
pub record TakesHeadPart (m : Marker) (old new : Option (List ℕ)) : Type 0 where
  pub part : List ℕ
  pub short : (h : Head) (x : List ℕ) → IsHead h (byte_of m ∷ x) → length part < length x
  pub taken : Consumes old new part

-- A head was cut: only a part of it was consumed, at most one fault was counted, and if there was none, no more than a part remains.
pub record CutsHead (m : Marker) (old new : Option (List ℕ)) (before after : ℕ) (fault : IoFault) : Type 0 where
  pub part : TakesHeadPart m old new
  pub counts : AtMostOne before after
  pub cut : after ≡ before → IsCut m old
  pub end : after ≡ before → fault_kind fault ≡ UnexpectedEof

-- why no head follows the marker: the marker begins none, or the head was cut
abbrev pub FailsHead : Marker → Option (List ℕ) → Option (List ℕ) → ℕ → ℕ → ValueReadError → Type 0
FailsHead m old new before after (InvalidMarkerRead fault) = ⊥
FailsHead m old new before after (InvalidDataRead fault) = CutsHead m old new before after fault
FailsHead m old new before after (TypeMismatch k) = (m ≡ Reserved) × (k ≡ Reserved) × Keeps old new × (after ≡ before)

-- ---- a marker and its head together

-- the bytes of one head were consumed, and this is its marker
pub record TakesNext (m : Marker) (h : Head) (old new : Option (List ℕ)) : Type 0 where
  pub rest : List ℕ
  pub is_head : IsHead h (byte_of m ∷ rest)
  pub is_marker : marker_of (byte_of m) ≡ m
  pub taken : Consumes old new (byte_of m ∷ rest)

-- the remaining bytes begin with no head
abbrev pub NoHead : Option (List ℕ) → Type 0
NoHead ahead = IfSome ahead (λ xs. (h : Head) (x rest : List ℕ) → xs ≡ x ++ rest → IsHead h x → ⊥)

-- a marker's byte and a part of its head were consumed
pub record TakesNextPart (old new : Option (List ℕ)) : Type 0 where
  pub marker : Marker
  pub opens : marker ≢ Reserved
  pub part : List ℕ
  pub short : (h : Head) (x : List ℕ) → IsHead h (byte_of marker ∷ x) → length part < length x
  pub taken : Consumes old new (byte_of marker ∷ part)

-- how many bytes were consumed with each error
abbrev pub LeavesNext : Option (List ℕ) → Option (List ℕ) → ℕ → ℕ → ValueReadError → Type 0
LeavesNext old new before after (InvalidMarkerRead fault) = FailsMarker old new before after fault
LeavesNext old new before after (InvalidDataRead fault) = TakesNextPart old new × (after ≡ before → fault_kind fault ≡ UnexpectedEof)
LeavesNext old new before after (TypeMismatch k) = (k ≡ Reserved) × Consumes old new (byte_of Reserved ∷ []) × (after ≡ before)

-- No head could be read: at most one fault was counted, and if there was none, the remaining bytes begin with no head.
pub record FailsNext (old new : Option (List ℕ)) (before after : ℕ) (e : ValueReadError) : Type 0 where
  pub counts : AtMostOne before after
  pub none : after ≡ before → NoHead old
  pub leaves : LeavesNext old new before after e

-- ---- the calls, over what the source tells

-- a call failed that needs n bytes after the marker
abbrev pub FailsData : ℕ → Option (List ℕ) → Option (List ℕ) → ℕ → ℕ → ValueReadError → Type 0
FailsData n old new before after (InvalidMarkerRead fault) = ⊥
FailsData n old new before after (InvalidDataRead fault) = TakesShort n old new before after fault
FailsData n old new before after (TypeMismatch k) = ⊥

module _ {S : Type 0} (g : Ghosts S) where
  -- A first byte is consumed, or nothing is.
  pub record ReadsMarker (old new : S) (r : Result Marker MarkerReadError) : Type 0 where
    pub ok : IfOk r (λ m. TakesMarker m (g.ahead old) (g.ahead new))
    pub sound : OnOk r (g.faults new ≡ g.faults old)
    pub err : IfErr r (λ e. FailsMarker (g.ahead old) (g.ahead new) (g.faults old) (g.faults new) e.0)
    pub place : g.place new ≡ g.place old

  -- The rest of a head is consumed, after its marker, or none follows. The reserved marker begins no head.
  pub record ReadsHead (m : Marker) (old new : S) (r : Result Head ValueReadError) : Type 0 where
    pub ok : IfOk r (λ h. TakesHead m h (g.ahead old) (g.ahead new))
    pub sound : OnOk r (g.faults new ≡ g.faults old)
    pub err : IfErr r (FailsHead m (g.ahead old) (g.ahead new) (g.faults old) (g.faults new))
    pub reserved : m ≡ Reserved → r ≡ Err (TypeMismatch Reserved)
    pub place : g.place new ≡ g.place old

  -- One head is consumed, or the remaining bytes begin with none.
  pub record ReadsNext (old new : S) (r : Result (Marker × Head) ValueReadError) : Type 0 where
    pub ok : IfOk r (λ next. TakesNext next.0 next.1 (g.ahead old) (g.ahead new))
    pub sound : OnOk r (g.faults new ≡ g.faults old)
    pub err : IfErr r (FailsNext (g.ahead old) (g.ahead new) (g.faults old) (g.faults new))
    pub place : g.place new ≡ g.place old

  -- A big-endian number of the width is consumed.
  pub record ReadsNumber (w : Width) (old new : S) (r : Result ℕ ValueReadError) : Type 0 where
    pub below : IfOk r (λ n. n < 2 ^ bits w)
    pub ok : IfOk r (λ n. Consumes (g.ahead old) (g.ahead new) (to_be_bytes w n))
    pub sound : OnOk r (g.faults new ≡ g.faults old)
    pub err : IfErr r (FailsData (byte_len w) (g.ahead old) (g.ahead new) (g.faults old) (g.faults new))
    pub place : g.place new ≡ g.place old

  -- The type of an extension is consumed.
  pub record ReadsTag (old new : S) (r : Result ℤ ValueReadError) : Type 0 where
    pub fits : IfOk r (FitsSigned w8)
    pub ok : IfOk r (λ tag. Consumes (g.ahead old) (g.ahead new) (tag_byte tag ∷ []))
    pub sound : OnOk r (g.faults new ≡ g.faults old)
    pub err : IfErr r (FailsData 1 (g.ahead old) (g.ahead new) (g.faults old) (g.faults new))
    pub place : g.place new ≡ g.place old
