-- Which error the read of a map answers, by those of its keys and values.
use Rattle.std.specs.Prelude.{◌≡◌, ◌≢◌, ◌⊎◌, ℕ, ◌+◌, ◌<◌, Bool, List, Option, Result, MatchResult}
use Rattle.std.specs.Io.KnownBytes.{Consumes}
use Rattle.rmp_wire.specs.declared.head.Head.TheVariants.{Map}
use Rattle.rmp_wire.specs.declared.source.Source.{Ghosts}
use Rattle.rmp_wire.specs.Canonical.{heads_of}
use Rattle.rmp_wire.specs.Msg.{Msg, Pairs, count_pairs, depth_pairs}
use Rattle.rmp_wire.specs.Spelling.{PairsSpelledBy}
use Rattle.rmp_decode.specs.Exact.{RefusesBy}
use Rattle.rmp_decode.specs.Law.{Readable}
use Rattle.rmp_decode.specs.Maps.{map_inner, not_map, ReadsPairs}
use Rattle.rmp_decode.specs.Parts.{TakesPart, FailsPart}
use Rattle.rmp_decode.specs.Refusing.{Setting, Refusals, setting_of, inside, IsMemory, AfterMessage}
use Rattle.rmp_decode.specs.State.{left, faults_of}
use Rattle.rmp_decode.specs.declared.deserializer.Deserializer.{Deserializer}
use Rattle.rmp_decode.specs.declared.access.map.MapAccess.{MapAccess}
use Rattle.rmp_decode.specs.declared.error.Error.{Error}
use Rattle.rmp_decode.specs.declared.error.Error.TheVariants.{OutOfMemory}

-- a part that nests below this is refused so
abbrev pub PartRefused : {R C : Type 0} → Ghosts R → Bool → Bool → (Setting → Refusals) → ℕ → Deserializer R C → Deserializer R C → Error → Type 0
PartRefused g human lends P inner old new e = P (inside (setting_of human lends old) inner) (faults_of g old) (faults_of g new) (left g old) e

-- a part was refused: what that says of the bytes, which error it is, and that memory can't run out
pub record RefusesPart {R C V : Type 0} (g : Ghosts R) (human lends : Bool) (reads : Msg → V → Type 0) (P : Setting → Refusals) (spared : Type 0)
    (inner : ℕ) (old new : Deserializer R C) (e : Error) : Type 0 where
  pub fails : FailsPart g reads inner old new e
  pub named : PartRefused g human lends P inner old new e
  pub memory : spared → e ≢ OutOfMemory

-- all that the read of a part promises
abbrev pub ReadsPart : {R C V : Type 0} → Ghosts R → Bool → Bool → (Bool → Bool → Msg → V → Type 0) → (Setting → Refusals) → Type 0 → ℕ
    → Deserializer R C → Deserializer R C → Result V Error → Type 0
ReadsPart g human lends reads P spared inner old new result =
    MatchResult result (TakesPart g (reads human lends) inner old new) (RefusesPart g human lends (reads human lends) P spared inner old new)

-- the next key or value of an access that was in one state and is in another then is refused so
abbrev pub EntryRefused : {R C : Type 0} → Ghosts R → Bool → Bool → (Setting → Refusals) → MapAccess R C → MapAccess R C → Error → Type 0
EntryRefused g human lends P old new e = PartRefused g human lends P (map_inner old) old.de.now new.de.now e

-- the next key is, where there is one
abbrev pub KeyRefused : {R C : Type 0} → Ghosts R → Bool → Bool → (Setting → Refusals) → MapAccess R C → MapAccess R C → Error → Type 0
KeyRefused g human lends P old new e = (0 < old.left) × EntryRefused g human lends P old new e

-- after the head of a map it is refused as P says, by the setting of its keys and values, and how many pairs there are
pub record OpenedMap (s : Setting) (P : Setting → ℕ → Option (List ℕ) → Error → Type 0) (known : Option (List ℕ)) (e : Error) : Type 0 where
  pub inner : ℕ
  pub many : ℕ
  pub bytes : List ℕ
  pub rest : Option (List ℕ)
  pub takes : Consumes known rest bytes
  pub is_head : heads_of s.strict (Map many) bytes
  pub room_of : s.room ≡ inner + 1
  pub refused : P (inside s inner) many rest e

-- after pairs of which Q holds, of n in all, it is refused as P says, by how many are still to come
pub record AfterPairs (s : Setting) (Q : Pairs → Type 0) (n : ℕ) (P : ℕ → Option (List ℕ) → Error
    → Type 0) (known : Option (List ℕ)) (e : Error) : Type 0 where
  pub bytes : List ℕ
  pub rest : Option (List ℕ)
  pub trees : Pairs
  pub still : ℕ
  pub takes : Consumes known rest bytes
  pub spelled : PairsSpelledBy (heads_of s.strict) bytes trees
  pub many : count_pairs trees + still ≡ n
  pub fits : depth_pairs trees < s.room
  pub holds : Q trees
  pub refused : P still rest e

-- where there is a pair to come, its key is refused, or its value after the key
abbrev pub PairRefused : Setting → (Msg → Type 0) → (Setting → Refusals) → (Setting → Refusals) → ℕ → ℕ → ℕ → Option (List ℕ) → Error → Type 0
PairRefused s keys K V before after left known e = (0 < left) × (K s before after known e ⊎ AfterMessage s keys (V s before after) known e)

-- these are read as some entries
abbrev pub PairsRead : {K V : Type 0} → (Bool → Bool → Msg → K → Type 0) → (Bool → Bool → Msg → V → Type 0) → Setting → Pairs → Type 0
PairsRead {K} {V} keys values s ps = (es : List (K × V)) × ReadsPairs (keys s.human s.lends) (values s.human s.lends) ps es

-- how a map is refused: it can't be opened, a key or a value is, or memory was short for the pairs that were read, of which there is one
abbrev pub RefusesPairs : {K V : Type 0} → (Bool → Bool → Msg → K → Type 0) → (Bool → Bool → Msg → V → Type 0) → (Setting → Refusals) → (Setting → Refusals)
    → Setting → Refusals
RefusesPairs keys values key value s before after known e =
    RefusesBy s.strict (not_map s.room) before after known e
    ⊎ OpenedMap s (λ i n known e. AfterPairs i (PairsRead keys values i) n (PairRefused i (Readable (keys i.human i.lends)) key value before after) known e
    ⊎ AfterPairs i (λ ps. (0 < count_pairs ps) × PairsRead keys values i ps) n IsMemory known e) known e
