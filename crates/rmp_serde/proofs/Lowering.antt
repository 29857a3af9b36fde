-- A value lowers to its own tree, and what a write of it leaves is what a serializer asks for.
use Rattle.std.proofs.Common.{◌≡◌, ℕ, List, Bool, None, Some, refl, sym, ◌∙◌, ap, subst}
use Rattle.std.specs.Prelude.{Result, Ok, Err}
use Rattle.rmp_wire.specs.declared.sink.Sink.{Ghosts}
use Rattle.rmp_wire.specs.declared.error.ValueWriteError.{ValueWriteError}
use Rattle.rmp_wire.specs.declared.error.ValueWriteError.TheVariants as wire
use Rattle.rmp_wire.specs.Msg.{Msg, nil, truth, whole, float32, float64, text, bin, list, map, extension}
use Rattle.rmp_wire.specs.Spelling.{canon, Fits, Spells}
use Rattle.rmp_wire.proofs.Told.{next_differs}
use Rattle.rmp_encode.specs.declared.error.Error.{Error}
use Rattle.rmp_encode.specs.declared.error.Error.TheVariants as errors
use Rattle.rmp_encode.specs.declared.settings.Settings.{Settings}
use Rattle.rmp_encode.specs.Calls.{IsSpelled, ToVecFails}
use Rattle.rmp_encode.specs.Errors.{error_of, answer_of}
use Rattle.rmp_encode.specs.Trees.{HasTree, spell, byte_of, tree_of}
use Rattle.rmp_encode.specs.Writes as encode
use Rattle.rmp_encode.specs.Writes.{FailsBy, HasBegun, WritesPart}
use Rattle.rmp_encode.proofs.Parts.{part_done, part_failed}
use Rattle.rmp_round_trip.proofs.RoundLaws.{some_is}
use Rattle.rmp_serde.specs.TreeWrites.{StopsWithin, WritesTree}
use Rattle.rmp_serde.specs.ValueData.{value_data}
use Rattle.rmp_serde.specs.ValueLowers.{value_tree}

-- bytes that spell what a value lowers to
pub value_spelled : (s : Settings) (m : Msg) (b : List ℕ) → IsSpelled (tree_of s (Some (value_data m))) b → b ≡ canon m
value_spelled s m b h = h.canonical ∙ ap canon (some_is (sym h.is ∙ value_tree s m))

pub value_only : (s : Settings) (m n : Msg) (b : List ℕ) → IsSpelled (tree_of s (Some (value_data m))) b → Spells b n → n ≡ m
value_only s m n b h spells = h.only n spells ∙ some_is (sym h.is ∙ value_tree s m)

-- a tree that fits isn't refused
has_value : (s : Settings) (m : Msg) → Fits m → HasTree (tree_of s (Some (value_data m)))
unfolding HasTree
has_value s m fits = subst HasTree (sym (value_tree s m)) fits

pub value_fails : (s : Settings) (m : Msg) (e : Error) → Fits m → ToVecFails (tree_of s (Some (value_data m))) e → e ≡ errors.OutOfMemory
value_fails s m (errors.InvalidValueWrite e) fits h = absurd h
value_fails s m errors.UnknownLength fits h = absurd h
value_fails s m (errors.InvalidDataModel t) fits h = absurd (h.1 (has_value s m fits))
value_fails s m errors.DepthLimitExceeded fits h = absurd h
value_fails s m (errors.Syntax t) fits h = absurd (h (has_value s m fits))
value_fails s m errors.OutOfMemory fits h = refl

-- a value is no byte, for what it is told as
pub value_no_byte : (m : Msg) → None ≡ byte_of (Some (value_data m))
unfolding value_data
value_no_byte nil = refl
value_no_byte (truth t) = refl
value_no_byte (whole z) = refl
value_no_byte (float32 n) = refl
value_no_byte (float64 n) = refl
value_no_byte (text t) = refl
value_no_byte (bin t) = refl
value_no_byte (list ms) = refl
value_no_byte (map ps) = refl
value_no_byte (extension tag t) = refl

-- why a write stopped, as an error of a serializer
fails_by : (m : Bool) (P : Type 0) (old new : ℕ) (part : List ℕ) (e : ValueWriteError) → StopsWithin m old new part e → FailsBy m P old new (error_of e)
fails_by m P old new part (wire.InvalidMarkerWrite fault) c = next_differs old new c
fails_by m P old new part (wire.InvalidDataWrite fault) c = next_differs old new c.1
fails_by m P old new part wire.OutOfMemory c = (c.1, c.0)

-- a byte was taken, where the error says so
begun_by : (m : Bool) (old new : ℕ) (part : List ℕ) (e : ValueWriteError) → StopsWithin m old new part e → HasBegun (error_of e) part
begun_by m old new part (wire.InvalidMarkerWrite fault) c = tt
begun_by m old new part (wire.InvalidDataWrite fault) c = c.0
begun_by m old new part wire.OutOfMemory c = tt

module _ {W : Type 0} (g : Ghosts W) where
  wire_part : (P : Type 0) (bs : List ℕ) {old new : W} (r : Result (Unit {0}) ValueWriteError) → P → WritesTree g bs old new r
      → WritesPart g g.takes_memory P bs old new (answer_of r)
  wire_part P bs (Ok u) p w = part_done g g.takes_memory P bs _ _ u p w.whole w.sound
  wire_part P bs (Err e) p w =
      part_failed g g.takes_memory P bs _ _ (error_of e)
      (λ _. record { part = w.stops.part; rest = w.stops.rest; split = w.stops.split; appended = w.stops.appended })
      (record { part = w.stops.part; appended = w.stops.appended; begun = begun_by g.takes_memory _ _ w.stops.part e w.stops.cause })
      (fails_by g.takes_memory P _ _ w.stops.part e w.stops.cause)

  -- a value that fits, of which the canonical spelling was written
  pub value_writes : (s : Settings) (m : Msg) {old new : W} (r : Result (Unit {0}) ValueWriteError) {answer : Result (Unit {0}) Error}
      → answer ≡ answer_of r → Fits m → WritesTree g (canon m) old new r
      → encode.WritesTree g g.takes_memory (tree_of s (Some (value_data m))) old new answer
  unfolding HasTree spell
  value_writes s m {old} {new} r {answer} is fits w =
      subst (λ t. encode.WritesTree g g.takes_memory t old new answer) (sym (value_tree s m))
      (subst (encode.WritesTree g g.takes_memory (Some m) old new) (sym is) (wire_part (Fits m) (canon m) r fits w))
