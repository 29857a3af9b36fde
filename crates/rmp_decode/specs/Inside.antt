-- A reader after the head of a list, or of bytes, where their elements are counted.
use Rattle.std.specs.Prelude.{◌≡◌, ◌⊎◌, ◌+◌, ◌-◌, ◌<◌, ℕ, Bool, true, false, List, length, Result, Ok, Err, MatchResult}
use Rattle.rmp_wire.specs.declared.source.Source.{Ghosts}
use Rattle.rmp_wire.specs.Msg.{Msg}
use Rattle.rmp_decode.specs.Refusing.{Setting, Refusals, ElementRefused, ReadsAs}
use Rattle.rmp_decode.specs.Rows.{ReadsEach}
use Rattle.rmp_decode.specs.Seq.{OfRow, levels, Opens, TakesParts, FailsToTake}
use Rattle.rmp_decode.specs.State.{left}
use Rattle.rmp_decode.specs.declared.access.seq.SeqAccess.{SeqAccess}
use Rattle.rmp_decode.specs.declared.deserializer.Deserializer.{Deserializer}
use Rattle.rmp_decode.specs.declared.error.Error.{Error}
use Rattle.rmp_decode.specs.declared.error.Error.TheVariants.{OutOfMemory}

-- the access to the elements, of which so many are still to come, of so many
abbrev pub access_at : {R C : Type 0} → Deserializer R C → Bool → ℕ → ℕ → SeqAccess R C
access_at d bytes left count = record {
  de = record { ref_ptr = (0, 0); ghost_name = 0; now = record d { failed = true } };
  left = left;
  count = count;
  inner = d.room - levels bytes;
  bytes = bytes;
  sound = true;
}

-- these values were read so far, and nothing else was consumed
abbrev pub TakesValues : {R C V : Type 0} → Ghosts R → (Msg → V → Type 0) → SeqAccess R C → SeqAccess R C → List V → Type 0
TakesValues g reads = TakesParts g (λ vs ms. ReadsEach reads ms vs)

-- elements were read until no more were wanted or to come, and this holds their values
pub record ReadsRow {R C V W : Type 0} (g : Ghosts R) (human lends : Bool) (reads : Bool → Bool → Msg → V → Type 0) (holds : W → List V
    → Type 0) (most : ℕ → ℕ) (start : Deserializer R C) (b : Bool) (all : ℕ) (new : Deserializer R C) (row : W) (left : ℕ) : Type 0 where
  pub values : List V
  pub held : holds row values
  pub read : TakesValues g (reads human lends) (access_at start b all all) (access_at new b left all) values
  pub rest : left + most all ≡ all
  pub ready : new.failed ≡ false

-- after those that were read, fewer than so many, the next element was refused
pub record StopsAtElement {R C V : Type 0} (g : Ghosts R) (human : Bool) (lends : Bool) (reads : Bool → Bool → Msg → V → Type 0) (P : Setting
    → Refusals) (start : Deserializer R C) (b : Bool) (all many : ℕ) (new : Deserializer R C) (e : Error) : Type 0 where
  pub values : List V
  pub mid : Deserializer R C
  pub still : ℕ
  pub read : TakesValues g (reads human lends) (access_at start b all all) (access_at mid b still all) values
  pub fewer : length values < many
  pub fails : FailsToTake g (reads human lends) (access_at mid b still all) (access_at new b still all) e
  pub refused : ElementRefused g human lends P (access_at mid b still all) (access_at new b still all) (left g mid) e

-- memory was short for the last of those that were read
pub record StopsFull {R C V : Type 0} (g : Ghosts R) (reads : Msg → V
    → Type 0) (start : Deserializer R C) (b : Bool) (all : ℕ) (new : Deserializer R C) (e : Error)
    : Type 0 where
  pub values : List V
  pub still : ℕ
  pub read : TakesValues g reads (access_at start b all all) (access_at new b still all) values
  pub some : 0 < length values
  pub memory : e ≡ OutOfMemory

-- elements were read until one was refused, or until memory was short, where it may be
pub record StopsRow {R C V : Type 0} (g : Ghosts R) (human : Bool) (lends : Bool) (reads : Bool → Bool → Msg → V → Type 0) (P : Setting
    → Refusals) (grows : Bool) (start : Deserializer R C) (b : Bool) (all many : ℕ) (new : Deserializer R C) (e : Error) : Type 0 where
  pub failed : new.failed ≡ true
  pub why : StopsAtElement g human lends reads P start b all many new e
      ⊎ ((grows ≡ true) × StopsFull g (reads human lends) start b all new e)

-- All that the read of a row does, which then holds them.
abbrev pub RowRead : {R C V W : Type 0} → Ghosts R → Bool → Bool → (Bool → Bool → Msg → V → Type 0) → (Setting → Refusals) → (W → List V → Type 0) → (ℕ → ℕ)
    → Bool → Deserializer R C → Bool → ℕ → Deserializer R C → W → Result ℕ Error → Type 0
RowRead g human lends reads P holds most grows start b all new row result =
    MatchResult result (ReadsRow g human lends reads holds most start b all new row) (StopsRow g human lends reads P grows start b all (most all) new)

-- a list, or bytes, whose elements are read as these values
abbrev pub ListOf : {V : Type 0} → (Msg → V → Type 0) → Msg → List V → Type 0
ListOf reads m vs = OfRow (λ ms. ReadsEach reads ms vs) m

-- the values of what a read answers
abbrev pub values_of : {X V : Type 0} → (X → List V) → Result X Error → Result (List V) Error
values_of items (Ok x) = Ok (items x)
values_of items (Err e) = Err e

-- All that a function does that is called after the head of a list, or of bytes.
abbrev pub ReadsInside : {R C V : Type 0} → Ghosts R → Bool → Bool → (Msg → V → Type 0) → (Setting → Refusals) → Deserializer R C → Bool → ℕ
    → Deserializer R C
    → Result V Error → Type 0
ReadsInside {R} {C} g human lends reads P start b all new result = (d : Deserializer R C) → Opens g d (access_at start b all all)
    → ReadsAs g human lends true reads P d new result
