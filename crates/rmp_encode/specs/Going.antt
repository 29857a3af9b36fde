-- What remains to be written of an open list, map, tuple, struct or variant. A tree is spelled as a head and
-- then its parts, which were written to the sink, or to a buffer. The parts of a map are its keys and values in
-- turn.
use Rattle.std.specs.Prelude.{◌≡◌, ℕ, ◌+◌, ◌≤◌, ◌++◌, Bool, true, false, List, [], length, Option, Result, Ok, Err, IfErr, MatchResult}
use Rattle.std.specs.Borrow.{Fml, GName, RattleType, MutBor, RestsIfErr}
use Rattle.std.specs.List.{flat_map, AllByRecursion}
use Rattle.std.specs.declared.vec.Vec.{Vec}
use Rattle.std.specs.declared.alloc.Global.{Global}
use Rattle.rmp_wire.specs.Msg.{Msg}
use Rattle.rmp_wire.specs.declared.sink.Sink.{Ghosts}
use Rattle.rmp_encode.specs.declared.serializer.Serializer.{Serializer}
use Rattle.rmp_encode.specs.contracts.serializer.Serializer.{the_row}
use Rattle.rmp_encode.specs.declared.settings.Settings.{Settings}
use Rattle.rmp_encode.specs.declared.error.Error.{Error}
use Rattle.rmp_encode.specs.Data.{Data}
use Rattle.rmp_encode.specs.Refusals.{OfLength, OfSink, RefusesLength}
use Rattle.rmp_encode.specs.Sizes.{most}
use Rattle.rmp_encode.specs.Ser.{sink_of, settings_of}
use Rattle.rmp_encode.specs.Trees.{Has, HasTree, spell, spelling, array_head, map_head, sequence_of, mapping_of, tree_of}
use Rattle.rmp_encode.specs.Writes.{FirstAtMarker, Keeps, StaysAtRefusal, WritesPart, WritesTree}

-- it succeeded
abbrev pub done : Result (Unit {0}) Error
done = Ok tt

-- these are n elements, or n keys each followed by its value
abbrev pub AreMany : Bool → ℕ → List (Option Data) → Type 0
AreMany true n all = length all ≡ n + n
AreMany false n all = length all ≡ n

-- the head of a map or of a list
unfoldable pub head_at : Bool → ℕ → List ℕ
head_at true n = map_head n
head_at false n = array_head n

-- the message that is a map or a list of these parts
unfoldable pub open_of : Bool → List (Option Data) → Option Data
open_of true all = mapping_of all
open_of false all = sequence_of all

-- A tree is spelled as this head and then these parts: the tree exists and fits exactly where P holds and each
-- part has a tree that fits.
pub record IsMadeOf (s : Settings) (t : Option Msg) (P : Type 0) (head : List ℕ) (parts : List (Option Data)) : Type 0 where
  pub may : P → AllByRecursion (Has s) parts → HasTree t
  pub can : HasTree t → P × AllByRecursion (Has s) parts
  pub text : HasTree t → head ++ flat_map (spelling s) parts ≡ spell t

-- The statement of what is open, by its compound: of this tree, opened at this serializer, these parts remain.
abbrev pub States : Type 0 → Type 0 → Type 0 → Type 1
States W C Q = Serializer W C → Option Msg → List (Option Data) → Q → Type 0

module _ {W C : Type 0} (g : Ghosts W) where
  -- of the tree of what was opened at old, `rest` remains, and everything before it was written
  pub record IsWriting (old : Serializer W C) (t : Option Msg) (rest : List (Option Data)) (now : Serializer W C) : Type 0 where
    pub head : List ℕ
    pub front : List (Option Data)
    pub made : IsMadeOf (settings_of old) t (Unit {0}) head (front ++ rest)
    pub keeps : Keeps g old now
    pub writes : WritesPart g true (AllByRecursion (Has (settings_of old)) front) (head ++ flat_map (spelling (settings_of old)) front) (sink_of old)
        (sink_of now) done

  -- A head was written, and all parts remain; after an error nothing more is written. P says that the numbers
  -- in the head fit.
  abbrev pub Begins : Type 0 → List ℕ → Serializer W C → Serializer W C → Result (Unit {0}) Error → Type 0
  Begins P head old now r =
      (t : Option Msg) (parts : List (Option Data)) → IsMadeOf (settings_of old) t P head parts
      → MatchResult r (λ _. IsWriting old t parts now) (λ e. WritesTree g {A = Unit {0}} g.takes_memory t (sink_of old) (sink_of now) (Err e))

  -- where everything so far is in a buffer, and nothing has reached the sink
  pub record IsKeepingAt (pairs : Bool) (old : Serializer W C) (t : Option Msg) (rest : List (Option Data)) (count : ℕ)
      (buffer : Serializer (Vec ℕ Global) C) (now : Serializer W C) : Type 0 where
    pub size : ℕ
    pub front : List (Option Data)
    pub tree : t ≡ tree_of (settings_of old) (open_of pairs (front ++ rest))
    pub many : AreMany pairs size (front ++ rest)
    pub count_is : count ≡ length front
    pub fits : count ≤ most pairs
    pub same : now ≡ old
    pub settings : settings_of buffer ≡ settings_of old
    pub have : AllByRecursion (Has (settings_of old)) front
    pub bytes : (sink_of buffer).items ≡ flat_map (spelling (settings_of old)) front

  -- Parts are written, or kept; m says under which settings memory may be allocated.
  abbrev pub Goes : {Q : Type 0} → States W C Q → (Q → Serializer W C) → (Settings → Bool) → (Settings → List (Option Data)) → Q → Q
      → Result (Unit {0}) Error → Type 0
  Goes state inside m parts q q' r =
      (old : Serializer W C) (t : Option Msg) (rest : List (Option Data)) → state old t (parts (settings_of old) ++ rest) q
      → MatchResult r (λ _. state old t rest q') (λ e. WritesTree g {A = Unit {0}} (m (settings_of old)) t (sink_of old) (sink_of (inside q')) (Err e))

  -- nothing remains, and the end left this sink
  abbrev pub Ends : {Q : Type 0} → States W C Q → Q → W → Result (Unit {0}) Error → Type 0
  Ends state q last r = (old : Serializer W C) (t : Option Msg) → state old t [] q → WritesTree g g.takes_memory t (sink_of old) last r

  -- nothing remains, and an error of the end is the sink's or memory's
  abbrev pub EndsBySink : {Q : Type 0} → States W C Q → Q → Result (Unit {0}) Error → Type 0
  EndsBySink state q r = (old : Serializer W C) (t : Option Msg) → state old t [] q → IfErr r OfSink

  -- What the serializer is left as where nothing is opened. The opening writes these items. P says that the numbers at the opening fit, and
  -- `may` of which parts they may be the numbers.
  pub record FailsToOpen {A X : Type 0} (items : List (List ℕ)) (P : Type 0) (may : X → Type 0) (value : X
      → Option Data) (old : Serializer W C) (r : Result A Error) (last : Serializer W C) : Type 0 where
    pub keeps : Keeps g old last
    pub refused : StaysAtRefusal old last r
    pub error : IfErr r (OfLength (¬ P))
    pub long : ¬ P → RefusesLength old last r
    pub marker : FirstAtMarker g items (sink_of old) (sink_of last) r
    pub writes : (all : X) → may all → IfErr r (λ e. WritesTree g {A = Unit {0}} g.takes_memory (tree_of (settings_of old) (value all)) (sink_of old)
        (sink_of last) (Err e))

module _ (W C : RattleType) (g : Ghosts W.Denot) where
  -- the serializer is borrowed by what is opened, or it is left as `FailsToOpen` says
  abbrev pub Rests : {Q X : Type 0} → (Q → GName) → List (List ℕ) → Type 0 → (X → Type 0) → (X → Option Data) → MutBor (Serializer W.Denot C.Denot) → Result Q Error → Fml
  Rests reference items P may value s r = RestsIfErr (the_row W C) s reference r (FailsToOpen g items P may value s.now r)
