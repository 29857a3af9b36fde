-- Leaves that are skipped by a table of first bytes.
use Rattle.std.specs.Prelude.{◌≡◌, ℕ, ◌<◌, ◌≤◌, Bool, List, ◌∷◌, length}
use Rattle.std.specs.Io.KnownBytes.{Consumes}
use Rattle.rmp_wire.specs.declared.source.Source.{Ghosts}
use Rattle.rmp_wire.specs.Canonical.{SpellsAs}
use Rattle.rmp_wire.specs.Msg.{Msg, depth}
use Rattle.rmp_wire.specs.Spelling.{IsBytes}
use Rattle.rmp_decode.specs.Open.{Leads}
use Rattle.rmp_decode.specs.Refuse.{UnpassedFor}
use Rattle.rmp_decode.specs.State.{left, faults_of, Stays}
use Rattle.rmp_decode.specs.declared.deserializer.Deserializer.{Deserializer}

-- these bytes spell a message that is no list and no map
pub record SpellsLeaf (strict : Bool) (bytes : List ℕ) : Type 0 where
  pub tree : Msg
  pub spelled : SpellsAs strict bytes tree
  pub flat : depth tree ≡ 0

-- what the table says of a first byte: with so many bytes after it, whatever they are, it spells a leaf; 2 ^ 32 - 1 says nothing
abbrev pub Tells : Bool → ℕ → ℕ → Type 0
Tells strict first payload = payload < 0xffffffff → (following : List ℕ) → length following ≡ payload → IsBytes following → SpellsLeaf strict (first ∷ following)

-- with these bytes leaves are passed, so that of n messages j are still wanted, whatever is wanted around them
abbrev pub PassesLeaves : Bool → ℕ → ℕ → List ℕ → Type 0
PassesLeaves strict n j passed =
    (lends : Bool) (top room : ℕ) (counts : List ℕ) → 0 < room → Leads strict (UnpassedFor lends top strict) room (n ∷ counts) room (j ∷ counts) passed

-- leaves were skipped: j of n messages are still wanted
pub record SkipsLeaves {R C : Type 0} (g : Ghosts R) (n j : ℕ) (old new : Deserializer R C) : Type 0 where
  pub bytes : List ℕ
  pub takes : Consumes (left g old) (left g new) bytes
  pub passes : PassesLeaves old.strict n j bytes
  pub fewer : j ≤ n
  pub failed : new.failed ≡ old.failed
  pub kept : new.kept ≡ old.kept
  pub sound : faults_of g new ≡ faults_of g old
  pub stays : Stays g old new
