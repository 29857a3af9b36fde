-- What a read gives, and what it refuses.
use Rattle.std.specs.Prelude.{◌≡◌, ◌≢◌, ℕ, ◌<◌, Bool, true, false, List, ◌∷◌, ◌++◌, Option, Some, IfSome, Result, IfErr, IfOk, OnOk, OnErr, MatchResult}
use Rattle.std.specs.Io.KnownBytes.{Consumes}
use Rattle.rmp_wire.specs.declared.head.Head.{Head}
use Rattle.rmp_wire.specs.declared.marker.Marker.{Marker}
use Rattle.rmp_wire.specs.declared.source.Source.{Ghosts}
use Rattle.rmp_wire.specs.Canonical.{heads_of, SpellsAs}
use Rattle.rmp_wire.specs.Msg.{Msg, depth}
use Rattle.rmp_decode.specs.Exact.{BeginsWith, EndsExactly, OtherWidth}
use Rattle.rmp_decode.specs.State.{left, faults_of, room_of, kept_bytes, Stays}
use Rattle.rmp_decode.specs.declared.deserializer.Deserializer.{Deserializer}
use Rattle.rmp_decode.specs.declared.deserializer.Kept.TheVariants.{Nothing}
use Rattle.rmp_decode.specs.declared.error.Error.{Error}
use Rattle.rmp_decode.specs.declared.error.Error.TheVariants.{OutOfMemory, Uncategorized}
use Rattle.rmp_decode.specs.declared.text.Text.TheVariants.{FailedBefore}

-- a tree that the type reads as some value
abbrev pub Readable : {V : Type 0} → (Msg → V → Type 0) → Msg → Type 0
Readable {V} reads m = (v : V) × reads m v

-- a beginning of xs spells a tree of which P is true and that nests below the room
pub record Begins (spells : List ℕ → Msg → Type 0) (P : Msg → Type 0) (room : ℕ) (xs : List ℕ) : Type 0 where
  pub bytes : List ℕ
  pub rest : List ℕ
  pub tree : Msg
  pub front : xs ≡ bytes ++ rest
  pub spelled : spells bytes tree
  pub fits : depth tree < room
  pub holds : P tree

-- where the bytes are told, none of their beginnings is such
unfoldable pub Refuses : (List ℕ → Msg → Type 0) → (Msg → Type 0) → ℕ → Option (List ℕ) → Type 0
Refuses spells P room known = IfSome known (λ xs. Begins spells P room xs → ⊥)

-- where the bytes are told, no message begins there
unfoldable pub NoMessage : Bool → Option (List ℕ) → Type 0
NoMessage strict known = IfSome known (λ xs. (m : Msg) (b r : List ℕ) → xs ≡ b ++ r → SpellsAs strict b m → ⊥)

-- A refusal says that nothing was there to accept, unless memory was short or the source had a fault (it counts them: before, after).
abbrev pub Explains : Error → ℕ → ℕ → Type 0 → Type 0
Explains e before after refused = e ≢ OutOfMemory → after ≡ before → refused

-- what a read after a failed one answers
abbrev pub IsFailedBefore : Error → Type 0
IsFailedBefore e = e ≡ Uncategorized FailedBefore

-- these bytes begin with what was kept back
pub record GoesOn (kept bytes : List ℕ) : Type 0 where
  pub more : List ℕ
  pub whole : bytes ≡ kept ++ more

-- a spelling of a tree was taken, and the tree is read as v
pub record Reads {R C V : Type 0} (g : Ghosts R) (reads : Msg → V → Type 0) (old new : Deserializer R C) (v : V) : Type 0 where
  pub bytes : List ℕ
  pub tree : Msg
  pub takes : Consumes (left g old) (left g new) bytes
  pub goes_on : GoesOn (kept_bytes old.kept) bytes
  pub spelled : SpellsAs old.strict bytes tree
  pub fits : depth tree < room_of old
  pub value : reads tree v

-- What a read of a type with this reading does.
pub record Lawful {R C V : Type 0} (g : Ghosts R) (reads : Msg → V → Type 0) (old new : Deserializer R C) (result : Result V Error) : Type 0 where
  -- an answer is the reading of a tree that a beginning of what was left spells
  pub ok : IfOk result (Reads g reads old new)
  pub ready : OnOk result (new.failed ≡ false)
  pub clean : OnOk result (new.kept ≡ Nothing)
  pub sound : OnOk result (faults_of g new ≡ faults_of g old)
  -- a refusal means that there is none
  pub err : old.failed ≡ false → IfErr result (λ e. Explains e (faults_of g old) (faults_of g new)
      (Refuses (SpellsAs old.strict) (Readable reads) (room_of old) (left g old)))
  pub failed : OnErr result (new.failed ≡ true)
  -- after a failure nothing is taken
  pub before : old.failed ≡ true → MatchResult result (λ _. ⊥) IsFailedBefore × (new ≡ old)
  pub stays : Stays g old new

-- one head was taken
pub record TakesHead {R C : Type 0} (g : Ghosts R) (h : Head) (old new : Deserializer R C) : Type 0 where
  pub bytes : List ℕ
  pub takes : Consumes (left g old) (left g new) bytes
  pub goes_on : GoesOn (kept_bytes old.kept) bytes
  pub is_head : heads_of old.strict h bytes

-- Of bytes that begin with no head that may be read, a beginning was consumed: no more than the byte c1, or than the whole head of another width.
pub record LeavesNone (new : Option (List ℕ)) (xs : List ℕ) : Type 0 where
  pub bytes : List ℕ
  pub taken : Consumes (Some xs) new bytes
  pub reserved : (rest : List ℕ) → xs ≡ 0xc1 ∷ rest → new ≡ Some rest
  pub wide : (s : OtherWidth xs) → new ≡ Some s.starts.rest

-- What the beginning of each read does: a head is taken, or no message begins there.
pub record ReadsHead {R C : Type 0} (g : Ghosts R) (old new : Deserializer R C) (result : Result (Marker × Head) Error) : Type 0 where
  pub ok : IfOk result (λ p. TakesHead g p.1 old new)
  -- the marker is that of the first byte that was left, where it is told
  pub marked : IfOk result (λ p. IfSome (left g old) (BeginsWith old.strict p.0 p.1))
  pub clean : OnOk result (new.kept ≡ Nothing)
  pub fresh : OnOk result (old.failed ≡ false)
  pub sound : OnOk result (faults_of g new ≡ faults_of g old)
  pub err : old.failed ≡ false → IfErr result (λ e. Explains e (faults_of g old) (faults_of g new) (NoMessage old.strict (left g old)))
  pub ends : old.failed ≡ false → IfErr result (EndsExactly old.strict (faults_of g old) (faults_of g new) (left g old))
  pub leaves : old.failed ≡ false → IfErr result (λ e. faults_of g new ≡ faults_of g old → IfSome (left g old) (LeavesNone (left g new)))
  -- a head takes no memory
  pub memory : IfErr result (λ e. e ≢ OutOfMemory)
  pub failed : new.failed ≡ true
  pub before : old.failed ≡ true → MatchResult result (λ _. ⊥) IsFailedBefore × (new ≡ old)
  pub stays : Stays g old new
