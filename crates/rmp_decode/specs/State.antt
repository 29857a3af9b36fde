-- What contracts see of a `Deserializer`.
use Rattle.std.specs.Prelude.{◌≡◌, ◌+◌, ◌-◌, ℕ, max, min, Bool, true, false, List, [], ◌∷◌, Option, pos}
use Rattle.std.specs.declared.alloc.Global.{Global}
use Rattle.std.specs.Io.KnownBytes.{prepend_known}
use Rattle.rmp_wire.specs.declared.head.Head.TheVariants.{Whole}
use Rattle.rmp_wire.specs.declared.source.Source.{Ghosts}
use Rattle.rmp_wire.specs.Heads.{canon_head}
use Rattle.rmp_decode.specs.declared.deserializer.Deserializer.{Deserializer}
use Rattle.rmp_decode.specs.declared.deserializer.Kept.{Kept}
use Rattle.rmp_decode.specs.declared.deserializer.Kept.TheVariants.{Nothing, First, Number}

-- the bytes of what was kept back
abbrev pub kept_bytes : Kept → List ℕ
kept_bytes Nothing = []
kept_bytes (First b) = b ∷ []
kept_bytes (Number n) = canon_head (Whole (pos n))

-- what the reader reads from
abbrev pub reader_of : {R C : Type 0} → Deserializer R C → R
reader_of d = d.reader

abbrev pub config_of : {R C : Type 0} → Deserializer R C → C
config_of d = d.config

-- where its memory comes from
abbrev pub alloc_of : {R C : Type 0} → Deserializer R C → Global
alloc_of d = d.alloc

-- a read failed, or is under way
abbrev pub is_failed : {R C : Type 0} → Deserializer R C → Bool
is_failed d = d.failed

-- only canonical heads are taken
abbrev pub is_strict : {R C : Type 0} → Deserializer R C → Bool
is_strict d = d.strict

abbrev pub kept_of : {R C : Type 0} → Deserializer R C → Kept
kept_of d = d.kept

-- what was kept back, and then what the source has ahead, where that is told
abbrev pub left : {R C : Type 0} → Ghosts R → Deserializer R C → Option (List ℕ)
left g d = prepend_known (kept_bytes d.kept) (g.ahead d.reader)

-- how many faults the source had
abbrev pub faults_of : {R C : Type 0} → Ghosts R → Deserializer R C → ℕ
faults_of g d = g.faults d.reader

-- a message may be read that nests below this
abbrev pub room_of : {R C : Type 0} → Deserializer R C → ℕ
room_of d = max 1 d.room

-- how many levels inside of the message that was asked for the part was that the failed read refused
abbrev pub refused_levels : {R C : Type 0} → Deserializer R C → ℕ
refused_levels d = d.levels

-- so many levels, and those between the room outside of a part and the room in it, up to 2^32 - 1
abbrev pub levels_outside : ℕ → ℕ → ℕ → ℕ
levels_outside levels outer inner = min (levels + (outer - inner)) 4294967295

-- the settings, the room, the limit, the strictness and the source's own place stay
pub record Stays {R C : Type 0} (g : Ghosts R) (old new : Deserializer R C) : Type 0 where
  pub config : new.config ≡ old.config
  pub room : new.room ≡ old.room
  pub limit : new.limit ≡ old.limit
  pub strict : new.strict ≡ old.strict
  pub place : g.place new.reader ≡ g.place old.reader

-- nothing was read yet, and any width is read of messages whose depth is below 1024
pub record IsNew {R C : Type 0} (memory : Global) (d : Deserializer R C) : Type 0 where
  pub alloc : d.alloc ≡ memory
  pub kept : d.kept ≡ Nothing
  pub room : room_of d ≡ 1024
  pub limit : d.limit ≡ 1024
  pub ready : d.failed ≡ false
  pub lenient : d.strict ≡ false
  pub levels : d.levels ≡ 0

-- all but the config is that of another reader
pub record IsSameBut {R C D : Type 0} (old : Deserializer R C) (new : Deserializer R D) : Type 0 where
  pub reader : new.reader ≡ old.reader
  pub alloc : new.alloc ≡ old.alloc
  pub kept : new.kept ≡ old.kept
  pub failed : new.failed ≡ old.failed
  pub room : new.room ≡ old.room
  pub limit : new.limit ≡ old.limit
  pub strict : new.strict ≡ old.strict
  pub levels : new.levels ≡ old.levels

-- the same, strict or not
abbrev pub strict_of : {R C : Type 0} → Deserializer R C → Bool → Deserializer R C
strict_of d s = record d { strict = s }

-- how many lists and maps are open around what is read next
abbrev pub levels_open : {R C : Type 0} → Deserializer R C → ℕ
levels_open d = d.limit - d.room

-- the limit that a depth means: from 1 to 65535
abbrev pub limit_at : ℕ → ℕ
limit_at depth = max 1 (min depth 65535)

-- The same with that limit, less the levels that are open. Where more levels are open than that, they are the limit.
abbrev pub limited : {R C : Type 0} → Deserializer R C → ℕ → Deserializer R C
limited d depth = record d { limit = max (limit_at depth) (levels_open d); room = limit_at depth - levels_open d }

-- the same, failed for good
abbrev pub failed_of : {R C : Type 0} → Deserializer R C → Deserializer R C
failed_of d = record d { failed = true }
