-- What an array holds while its elements are read.
use Rattle.std.specs.Prelude.{◌≡◌, ◌⊎◌, ℕ, Bool, ◌*◌, ◌<◌, ◌≤◌, ◌^◌, List, map, take, length, Option, Some}
use Rattle.std.specs.Borrow.{RattleType}
use Rattle.std.specs.Mem.{type_size}
use Rattle.std.specs.contracts.option.Option.{the_row}
use Rattle.rmp_wire.specs.Msg.{Msg, Msgs}
use Rattle.rmp_decode.specs.Refusing.{Setting, Refusals, RefusesTimes}
use Rattle.rmp_decode.specs.Rows.{ReadsEach}
use Rattle.rmp_decode.specs.declared.error.Error.TheVariants.{OutOfMemory}

-- so many places fit in memory, each of which holds a value of the type or none
abbrev pub PlacesFit : RattleType → ℕ → Type 0
PlacesFit T n = n * type_size (the_row T) < 2 ^ 63

-- each of n items is read as the value at its place
abbrev pub Exactly : {V : Type 0} → ℕ → (Msg → V → Type 0) → List V → Msgs → Type 0
Exactly n reads v ms = (length v ≡ n) × ReadsEach reads ms v

-- the first of n places hold these values
pub record HoldsFirst {V : Type 0} (n : ℕ) (places : List (Option V)) (values : List V) : Type 0 where
  pub long : length places ≡ n
  pub within : length values ≤ n
  pub held : map (λ v. Some v) values ≡ take (length values) places

-- how an array is refused: it doesn't fit in memory, or the list is
abbrev pub RefusesArray : {V : Type 0} → RattleType → ℕ → (Bool → Bool → Msg → V → Type 0) → (Setting → Refusals) → Setting → Refusals
RefusesArray T n reads P s before after known e = ((PlacesFit T n → ⊥) × (e ≡ OutOfMemory)) ⊎ RefusesTimes n reads P s before after known e
