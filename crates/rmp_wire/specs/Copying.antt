-- What a copying reader shows, and what a read leaves.
use Rattle.std.specs.Prelude.{◌≡◌, ℕ, ◌<◌, ◌≤◌, List, ◌++◌, length, Option}
use Rattle.std.specs.Io.KnownBytes.{Consumes}
use Rattle.rmp_wire.specs.declared.slice.read_reader.ReadReader.{ReadReader}

-- `reader.get_ref()`
abbrev pub copied_from : {R : Type 0} → ReadReader R → R
copied_from r = r.rd

-- the reader after `*reader.get_mut() = source`
abbrev pub copying_with : {R : Type 0} → ReadReader R → R → ReadReader R
copying_with r source = record { rd = source; scratch = r.scratch }

-- the bytes of the last slice, as far as they were read
abbrev pub scratch_of : {R : Type 0} → ReadReader R → List ℕ
scratch_of r = r.scratch.items

-- a beginning of the remaining bytes was consumed, at most n of them, and what is held is a beginning of those
pub record Begun (old new : Option (List ℕ)) (n : ℕ) (held : List ℕ) : Type 0 where
  pub lost : List ℕ
  pub within : length (held ++ lost) ≤ n
  pub taken : Consumes old new (held ++ lost)

-- at least one byte was consumed, at most n, and they were appended to those that were held
pub record Gains (old new : Option (List ℕ)) (n : ℕ) (held held' : List ℕ) : Type 0 where
  pub bytes : List ℕ
  pub some : 0 < length bytes
  pub within : length bytes ≤ n
  pub taken : Consumes old new bytes
  pub following : held' ≡ held ++ bytes
