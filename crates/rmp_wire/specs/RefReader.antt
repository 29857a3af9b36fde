-- What a reader over a slice shows.
use Rattle.std.specs.Prelude.{ℕ, List, [], ◌∷◌}
use Rattle.rmp_wire.specs.Sources.{Place}
use Rattle.rmp_wire.specs.Sources.Place.{made_of}
use Rattle.rmp_wire.specs.declared.slice.ReadRefReader.{ReadRefReader}

-- `reader.remaining_slice()`
abbrev pub rest_of : ReadRefReader → List ℕ
rest_of r = r.rest.now

-- `reader.whole()`
abbrev pub whole_of : ReadRefReader → List ℕ
whole_of r = r.whole.now

-- it reads through no mutable reference, and its slice never changes
abbrev pub place_of : ReadRefReader → List Place
place_of r = made_of (whole_of r) ∷ []
