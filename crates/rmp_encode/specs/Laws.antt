-- What the laws of writing say.
use Rattle.std.specs.Prelude.{◌≡◌, [], ℕ, List, Option}
use Rattle.std.specs.Borrow.{RattleType}
use Rattle.std.specs.Io.KnownBytes.{Appends}
use Rattle.rmp_wire.specs.declared.sink.Sink.{Ghosts}
use Rattle.rmp_encode.specs.declared.serializer.Serializer.{Serializer}
use Rattle.rmp_encode.specs.Data.{Data}
use Rattle.rmp_encode.specs.Going.{done, Ends}
use Rattle.rmp_encode.specs.Opens.{Open, IsOpen}
use Rattle.rmp_encode.specs.Ser.{sink_of, settings_of}
use Rattle.rmp_encode.specs.Trees.{mapping_of, sequence_of, tree_of}

-- the same bytes were appended to both
pub record AppendSame (old new old' new' : Option (List ℕ)) : Type 0 where
  pub bytes : List ℕ
  pub here : Appends old new bytes
  pub there : Appends old' new' bytes

module _ {W C : Type 0} (g : Ghosts W) where
  -- a list of these parts was opened at old, each part was written, and an end that succeeded left this sink
  pub record IsListWritten (old : Serializer W C) (all : List (Option Data)) (last : W) : Type 0 where
    pub compound : Open W C
    pub handed : IsOpen g old (tree_of (settings_of old) (sequence_of all)) [] compound
    pub ended : Ends g (IsOpen g) compound last done

  -- a map, with these keys and values in turn
  pub record IsMapWritten (old : Serializer W C) (all : List (Option Data)) (last : W) : Type 0 where
    pub compound : Open W C
    pub handed : IsOpen g old (tree_of (settings_of old) (mapping_of all)) [] compound
    pub ended : Ends g (IsOpen g) compound last done

-- The same parts give the same bytes, under the same settings. The law asks nothing of how either was opened.
module _ (W C : RattleType) (g : Ghosts W.Denot) where
  abbrev pub ListsAlike : Type 0
  ListsAlike =
      (s t : Serializer W.Denot C.Denot) (all : List (Option Data)) (x y : W.Denot) → settings_of s ≡ settings_of t
      → IsListWritten g s all x → IsListWritten g t all y → AppendSame (g.told (sink_of s)) (g.told x) (g.told (sink_of t)) (g.told y)

  abbrev pub MapsAlike : Type 0
  MapsAlike =
      (s t : Serializer W.Denot C.Denot) (all : List (Option Data)) (x y : W.Denot) → settings_of s ≡ settings_of t
      → IsMapWritten g s all x → IsMapWritten g t all y → AppendSame (g.told (sink_of s)) (g.told x) (g.told (sink_of t)) (g.told y)
