-- What a contract sees of a serializer.
use Rattle.std.specs.Borrow.{Fml, RattleType, MutBor, Lends}
use Rattle.rmp_encode.specs.declared.serializer.Serializer.{Serializer}
use Rattle.rmp_encode.specs.contracts.serializer.Serializer.{the_row}
use Rattle.rmp_encode.specs.declared.settings.Settings.{Settings}

module _ {W C : Type 0} where
  abbrev pub sink_of : Serializer W C → W
  sink_of s = s.wr

  abbrev pub settings_of : Serializer W C → Settings
  settings_of s = s.settings

  abbrev pub with_sink : Serializer W C → W → Serializer W C
  with_sink s w = record s { wr = w }

module _ (W C : RattleType) where
  -- the serializer ends with the sink that the caller left in the reference
  abbrev pub LendsSink : MutBor (Serializer W.Denot C.Denot) → MutBor W.Denot → Fml
  LendsSink s r = Lends (the_row W C) W s r (with_sink s.now)
