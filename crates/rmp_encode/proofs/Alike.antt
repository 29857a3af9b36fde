-- The same parts give the same bytes.
use Rattle.std.proofs.Common.{◌≡◌, List, Bool, Option, sym, subst}
use Rattle.std.specs.Io.KnownBytes.{Appends}
use Rattle.rmp_wire.specs.declared.sink.Sink.{Ghosts}
use Rattle.rmp_encode.specs.declared.serializer.Serializer.{Serializer}
use Rattle.rmp_encode.specs.declared.settings.Settings.{Settings}
use Rattle.rmp_encode.specs.Data.{Data}
use Rattle.rmp_encode.specs.Going.{done}
use Rattle.rmp_encode.specs.Laws.{AppendSame, IsListWritten, IsMapWritten}
use Rattle.rmp_encode.specs.Ser.{sink_of, settings_of}
use Rattle.rmp_encode.specs.Trees.{tree_of, spell}
use Rattle.rmp_encode.specs.Writes.{WritesTree}

module _ {W : Type 0} (g : Ghosts W) where
  -- one tree, written twice
  written_twice : (m : Bool) (d : Option Data) (s t : Settings) {a x b y : W} → s ≡ t → WritesTree g m (tree_of s d) a x done
      → WritesTree g m (tree_of t d) b y done → AppendSame (g.told a) (g.told x) (g.told b) (g.told y)
  written_twice m d s t {a} {x} {b} {y} e v w = record {
    bytes = spell (tree_of s d);
    here = v.whole;
    there = subst (λ k. Appends (g.told b) (g.told y) (spell (tree_of k d))) (sym e) w.whole;
  }

module _ {W C : Type 0} (g : Ghosts W) where
  pub lists_same : (s t : Serializer W C) (all : List (Option Data)) (x y : W) → settings_of s ≡ settings_of t → IsListWritten g s all x
      → IsListWritten g t all y → AppendSame (g.told (sink_of s)) (g.told x) (g.told (sink_of t)) (g.told y)
  lists_same s t all x y e h k = written_twice g g.takes_memory _ (settings_of s) (settings_of t) e (h.ended s _ h.handed) (k.ended t _ k.handed)

  pub maps_same : (s t : Serializer W C) (all : List (Option Data)) (x y : W) → settings_of s ≡ settings_of t → IsMapWritten g s all x
      → IsMapWritten g t all y → AppendSame (g.told (sink_of s)) (g.told x) (g.told (sink_of t)) (g.told y)
  maps_same s t all x y e h k = written_twice g g.takes_memory _ (settings_of s) (settings_of t) e (h.ended s _ h.handed) (k.ended t _ k.handed)
