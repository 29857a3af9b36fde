-- All that a write promises, as one record for each kind of write: an item, what opens parts, parts of what is open, and whole values.
use Rattle.std.specs.Prelude.{◌≡◌, ℕ, ◌+◌, ◌^◌, ◌≤◌, ◌||◌, Bool, true, List, Option, Some, Result, OnOk, IfErr}
use Rattle.rmp_wire.specs.Msg.{Msg}
use Rattle.rmp_wire.specs.declared.sink.Sink.{Ghosts}
use Rattle.rmp_encode.specs.declared.error.Error.{Error}
use Rattle.rmp_encode.specs.declared.serializer.Serializer.{Serializer}
use Rattle.rmp_encode.specs.declared.settings.Settings.{Settings}
use Rattle.rmp_encode.specs.Data.{Data}
use Rattle.rmp_encode.specs.Going.{Begins, Goes, IsWriting, States}
use Rattle.rmp_encode.specs.Markers.{items_of, InOrder, Piece}
use Rattle.rmp_encode.specs.Refusals.{AnyLong, Errors, OfLength, OfParts, OfSink, RefusesLength}
use Rattle.rmp_encode.specs.Ser.{settings_of, sink_of}
use Rattle.rmp_encode.specs.Trees.{forces_all}
use Rattle.rmp_encode.specs.Tuples as tuples
use Rattle.rmp_encode.specs.Tuples.{IsTupling, OpenTuple}
use Rattle.rmp_encode.specs.Writes.{Keeps, NeverMarker, NoneAtMarker, StaysAtRefusal, WritesAfter, WritesPart, WritesTree}

module _ {W C : Type 0} (g : Ghosts W) where
  -- An item of these bytes, or its beginning, as a head.
  pub record WritesHead (bytes : List ℕ) (old new : Serializer W C) (r : Result (Unit {0}) Error) : Type 0 where
    pub writes : WritesPart g g.takes_memory (Unit {0}) bytes (sink_of old) (sink_of new) r
    pub marker : NoneAtMarker g (sink_of old) (sink_of new) r
    pub error : IfErr r OfSink
    pub keeps : Keeps g old new

  -- A later piece of an item.
  pub record WritesPiece (piece : List ℕ) (old new : Serializer W C) (r : Result (Unit {0}) Error) : Type 0 where
    pub writes : WritesAfter g piece (sink_of old) (sink_of new) r
    pub marker : NeverMarker r
    pub error : IfErr r OfSink
    pub keeps : Keeps g old new

  -- Several items, which are these bytes.
  pub record WritesItems (items : List (List ℕ)) (bytes : List ℕ) (old new : Serializer W C) (r : Result (Unit {0}) Error) : Type 0 where
    pub writes : WritesPart g g.takes_memory (Unit {0}) bytes (sink_of old) (sink_of new) r
    pub order : InOrder g (items_of items) (sink_of old) (sink_of new) r
    pub error : IfErr r OfSink
    pub keeps : Keeps g old new

  -- A message without parts, of a text or bytes of n bytes: n is refused if no head can state it.
  pub record WritesMessage (message : Msg) (n : ℕ) (old new : Serializer W C) (r : Result (Unit {0}) Error) : Type 0 where
    pub writes : WritesTree g g.takes_memory (Some message) (sink_of old) (sink_of new) r
    pub marker : NoneAtMarker g (sink_of old) (sink_of new) r
    pub error : IfErr r (OfLength (2 ^ 32 ≤ n))
    pub keeps : Keeps g old new
    pub refused : StaysAtRefusal old new r
    pub long : 2 ^ 32 ≤ n → RefusesLength old new r

  -- What comes before parts: these items, with these numbers. P says that the numbers fit their heads.
  pub record OpensParts (P : Type 0) (numbers : List ℕ) (items : List (List ℕ)) (bytes : List ℕ) (old new : Serializer W C)
      (r : Result (Unit {0}) Error) : Type 0 where
    pub begins : Begins g P bytes old new r
    pub order : InOrder g (items_of items) (sink_of old) (sink_of new) r
    pub error : IfErr r (OfLength (AnyLong numbers))
    pub keeps : Keeps g old new
    pub refused : StaysAtRefusal old new r
    pub long : ¬ P → RefusesLength old new r
    pub fits : OnOk r P

  -- Parts of what is open are written, or kept: m says under which settings memory may be taken, `long` when a length is refused, and the
  -- others which errors the parts have and what is known of them.
  pub record TakesParts {Q : Type 0} (state : States W C Q) (inside : Q → Serializer W C) (m : Settings → Bool)
      (parts : Settings → List (Option Data)) (long : Type 0) (refusals : List Errors) (values : Type 0) (old new : Q)
      (r : Result (Unit {0}) Error) : Type 0 where
    pub writes : Goes g state inside m parts old new r
    pub keeps : Keeps g (inside old) (inside new)
    pub error : IfErr r (OfParts long refusals)
    pub value : OnOk r values

  -- The same of parts that are written at once: `pieces` says in which order, so at which of them an error came.
  pub record WritesParts (m : Settings → Bool) (parts : Settings → List (Option Data)) (pieces : Settings → List Piece) (long : Type 0)
      (refusals : List Errors) (values : Type 0) (old new : Serializer W C) (r : Result (Unit {0}) Error) : Type 0 where
    pub takes : TakesParts (IsWriting g) (λ se. se) m parts long refusals values old new r
    pub order : InOrder g (pieces (settings_of old)) (sink_of old) (sink_of new) r

  -- The same of the next n elements of a tuple.
  pub record TakesElements (n : ℕ) (m : Settings → Bool) (parts : Settings → List (Option Data)) (refusals : List Errors) (values : Type 0)
      (old new : OpenTuple W C) (r : Result (Unit {0}) Error) : Type 0 where
    pub takes : TakesParts (IsTupling g) tuples.inside (λ s. (forces_all s.bytes || m s) || g.takes_memory) parts ⊥ refusals values old new r
    pub same_reference : tuples.reference new ≡ tuples.reference old
    pub left : OnOk r (tuples.left_of new + n ≡ tuples.left_of old)
    pub sound : OnOk r (tuples.is_sound new ≡ true)

  -- A whole value of n parts, of this tree: n is refused if no head can state it.
  pub record WritesValue (m : Bool) (t : Option Msg) (n : ℕ) (refused : Error → Type 0) (values : Type 0) (old new : Serializer W C)
      (r : Result (Unit {0}) Error) : Type 0 where
    pub writes : WritesTree g m t (sink_of old) (sink_of new) r
    pub keeps : Keeps g old new
    pub error : IfErr r refused
    pub value : OnOk r values
    pub long : 2 ^ 32 ≤ n → RefusesLength old new r
