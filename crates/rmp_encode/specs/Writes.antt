-- What a write does to a sink and a serializer.
use Rattle.std.specs.Prelude.{◌≡◌, ◌≢◌, ℕ, ◌<◌, ◌++◌, Bool, IsTrue, List, [], ◌∷◌, length, Option, Result, Ok, Err, OnOk, OnErr, IfErr}
use Rattle.std.specs.Io.KnownBytes.{Appends}
use Rattle.std.specs.List.{flat_map}
use Rattle.rmp_wire.specs.declared.error.ValueWriteError.TheVariants as wire
use Rattle.rmp_wire.specs.declared.sink.Sink.{Ghosts}
use Rattle.rmp_wire.specs.Msg.{Msg}
use Rattle.rmp_encode.specs.declared.serializer.Serializer.{Serializer}
use Rattle.rmp_encode.specs.declared.error.Error.{Error}
use Rattle.rmp_encode.specs.declared.error.Error.TheVariants.{InvalidValueWrite, UnknownLength, InvalidDataModel, DepthLimitExceeded, Syntax, OutOfMemory}
use Rattle.rmp_encode.specs.Errors.{IsReason, IsLength}
use Rattle.rmp_encode.specs.Ser.{sink_of, settings_of}
use Rattle.rmp_encode.specs.Trees.{HasTree, spell}

-- if an error says that the first byte of an item was taken, some byte was
abbrev pub HasBegun : Error → List ℕ → Type 0
HasBegun (InvalidValueWrite (wire.InvalidDataWrite fault)) part = 0 < length part
HasBegun e part = Unit {0}

-- after an error, what a sink tells begins with the old bytes
pub record AppendsSome (e : Error) (old new : Option (List ℕ)) : Type 0 where
  pub part : List ℕ
  pub appended : Appends old new part
  pub begun : HasBegun e part

-- what is known of an error, from the bytes told before the write and after it
abbrev pub Marks : Type 1
Marks = Option (List ℕ) → Option (List ℕ) → Error → Type 0

-- of one item: if an error says that its first byte wasn't taken, nothing was
abbrev pub AtItem : Marks
AtItem old new (InvalidValueWrite (wire.InvalidMarkerWrite fault)) = Appends old new []
AtItem old new e = Unit {0}

-- a beginning of these bytes was appended to those that the sink tells
pub record AppendsPart (old new : Option (List ℕ)) (bs : List ℕ) : Type 0 where
  pub part : List ℕ
  pub rest : List ℕ
  pub split : bs ≡ part ++ rest
  pub appended : Appends old new part

-- the first of these items were appended to the told bytes, each whole, and nothing of the next
pub record AppendsFirst (items : List (List ℕ)) (old new : Option (List ℕ)) : Type 0 where
  pub front : List (List ℕ)
  pub next : List ℕ
  pub rest : List (List ℕ)
  pub split : items ≡ front ++ next ∷ rest
  pub appended : Appends old new (flat_map (λ item. item) front)

-- The causes of an error, where P says that there is something to write: a fault of the sink was counted, or
-- there is nothing to write, or memory ran out, if m says that memory may be allocated.
abbrev pub FailsBy : Bool → Type 0 → ℕ → ℕ → Error → Type 0
FailsBy m P old new (InvalidValueWrite wire.OutOfMemory) = ⊥
FailsBy m P old new (InvalidValueWrite fault) = new ≢ old
FailsBy m P old new UnknownLength = ⊥
FailsBy m P old new (InvalidDataModel t) = IsReason t.now × ¬ P × (new ≡ old)
FailsBy m P old new DepthLimitExceeded = ⊥
FailsBy m P old new (Syntax t) = ¬ P × (new ≡ old)
FailsBy m P old new OutOfMemory = IsTrue m × (new ≡ old)

-- no error says that the first byte of an item wasn't taken
abbrev pub NeverMarker : {A : Type 0} → Result A Error → Type 0
NeverMarker (Err (InvalidValueWrite (wire.InvalidMarkerWrite fault))) = ⊥
NeverMarker r = Unit {0}

-- what is refused is refused for its length, and changes nothing
abbrev pub StaysAtRefusal : {A S : Type 0} → S → S → Result A Error → Type 0
StaysAtRefusal old new (Ok u) = Unit {0}
StaysAtRefusal old new (Err (InvalidDataModel t)) = IsLength t.now × (new ≡ old)
StaysAtRefusal old new (Err e) = Unit {0}

module _ {W : Type 0} (g : Ghosts W) where
  -- At `Ok` P holds and bs was appended. At an error there is a cause, the old bytes come first, and under P a
  -- beginning of bs was appended.
  pub record WritesPart {A : Type 0} (m : Bool) (P : Type 0) (bs : List ℕ) (old new : W) (r : Result A Error) : Type 0 where
    pub may : OnOk r P
    pub whole : OnOk r (Appends (g.told old) (g.told new) bs)
    pub no_fault : OnOk r (g.faults new ≡ g.faults old)
    pub part : OnErr r (P → AppendsPart (g.told old) (g.told new) bs)
    pub front : IfErr r (λ e. AppendsSome e (g.told old) (g.told new))
    pub cause : IfErr r (FailsBy m P (g.faults old) (g.faults new))

  -- a later piece of an item: together with the bytes written before it, whichever they are, it is a write of
  -- both
  abbrev pub WritesAfter : List ℕ → W → W → Result (Unit {0}) Error → Type 0
  WritesAfter bs mid new r =
      (front : List ℕ) (old : W) → 0 < length front → WritesPart {A = Unit {0}} g.takes_memory (Unit {0}) front old mid (Ok tt)
      → WritesPart g.takes_memory (Unit {0}) (front ++ bs) old new r

  -- this is known of the error of a write to a sink
  abbrev pub MarkedBy : {A : Type 0} → Marks → W → W → Result A Error → Type 0
  MarkedBy marks old new r = IfErr r (marks (g.told old) (g.told new))

  -- of one item
  abbrev pub NoneAtMarker : {A : Type 0} → W → W → Result A Error → Type 0
  NoneAtMarker = MarkedBy AtItem

  -- of several items: if an error says that the first byte of one wasn't taken, those before it are whole
  abbrev pub FirstAtMarker : {A : Type 0} → List (List ℕ) → W → W → Result A Error → Type 0
  FirstAtMarker items old new (Err (InvalidValueWrite (wire.InvalidMarkerWrite fault))) = AppendsFirst items (g.told old) (g.told new)
  FirstAtMarker items old new r = Unit {0}

  -- the canonical spelling of the tree, if there is one that fits
  abbrev pub WritesTree : {A : Type 0} → Bool → Option Msg → W → W → Result A Error → Type 0
  WritesTree m t = WritesPart m (HasTree t) (spell t)

  -- neither the settings change, nor the place that the bytes go to
  pub record Keeps {C : Type 0} (old new : Serializer W C) : Type 0 where
    pub settings : settings_of new ≡ settings_of old
    pub place : g.place (sink_of new) ≡ g.place (sink_of old)
