-- What completes a message of which a part has come.
use Rattle.std.specs.Prelude.{◌≡◌, ◌↔◌, ℕ, ◌+◌, ◌*◌, ◌^◌, ◌<◌, ◌≤◌, List, ◌∷◌, ◌++◌, length, take, drop, Bool, false, nat_eq, ◌&&◌}
use Rattle.rmp_scan.specs.declared.want.Next.{Next}
use Rattle.rmp_scan.specs.declared.want.Next.TheVariants as next
use Rattle.rmp_scan.specs.declared.want.Step.{Step}
use Rattle.rmp_scan.specs.declared.want.Step.TheVariants.{Whole, More, Reserved, TooLong}
use Rattle.rmp_scan.specs.declared.want.Want.{Want}
use Rattle.rmp_scan.specs.Openings.{WantsPayload, WantsLength}

abbrev pub CompletesNext : Next → ℕ → List ℕ → Type 0
CompletesNext (next.Payload payload) n bytes = WantsPayload payload n bytes
CompletesNext (next.Length length) n bytes = WantsLength length.counts length.missing length.value n bytes

-- these bytes are what is wanted
abbrev pub Completes : Want → List ℕ → Type 0
Completes want bytes = CompletesNext want.next want.messages bytes

-- with these bytes the one want becomes the other
abbrev pub Moves : Want → List ℕ → Want → Type 0
Moves want taken want' = (rest : List ℕ) → Completes want (taken ++ rest) ↔ Completes want' rest

abbrev pub least_next : Next → ℕ
least_next (next.Payload payload) = payload
least_next (next.Length length) = length.missing

-- how many bytes are wanted at least
abbrev pub least_of : Want → ℕ
least_of want = least_next want.next + want.messages

abbrev pub is_whole_at : Next → ℕ → Bool
is_whole_at (next.Payload payload) messages = nat_eq payload 0 && nat_eq messages 0
is_whole_at (next.Length length) messages = false

-- nothing is wanted
abbrev pub is_whole : Want → Bool
is_whole want = is_whole_at want.next want.messages

-- some first bytes were consumed, and for each of them less than 2^33 bytes more are wanted
pub record Steps (want : Want) (bytes : List ℕ) (want' : Want) (taken : ℕ) : Type 0 where
  pub some : 0 < taken
  pub within : taken ≤ length bytes
  pub moves : Moves want (take taken bytes) want'
  pub claims : least_of want' ≤ least_of want + 2 ^ 33 * taken

-- a message is wanted, and the byte c1 is there
pub record Sticks (want : Want) (bytes : List ℕ) : Type 0 where
  pub ready : want.next ≡ next.Payload 0
  pub wanted : 0 < want.messages
  pub following : List ℕ
  pub there : bytes ≡ 0xc1 ∷ following

-- so many bytes of the piece were taken, and this is wanted then
pub record Reaches (want : Want) (piece : List ℕ) (taken : ℕ) (want' : Want) : Type 0 where
  pub within : taken ≤ length piece
  pub moves : Moves want (take taken piece) want'
  pub claims : least_of want' ≤ least_of want + 2 ^ 33 * taken

pub record StaysShort (want : Want) (piece : List ℕ) (room : ℕ) (want' : Want) : Type 0 where
  pub reaches : Reaches want piece (length piece) want'
  pub unfinished : 0 < least_of want'
  pub short : length piece + least_of want' ≤ room

pub record Stops (want : Want) (piece : List ℕ) (room at : ℕ) : Type 0 where
  pub want' : Want
  pub reaches : Reaches want piece at want'
  pub sticks : Sticks want' (drop at piece)
  pub short : at + least_of want' ≤ room

pub record Exceeds (want : Want) (piece : List ℕ) (room : ℕ) : Type 0 where
  pub taken : ℕ
  pub want' : Want
  pub reaches : Reaches want piece taken want'
  pub long : room < taken + least_of want'

-- where a piece leads, if the message may have so many bytes more
abbrev pub Advances : Want → ℕ → List ℕ → Step → Type 0
Advances want room piece (Whole used) = (used ≤ length piece) × Completes want (take used piece) × (used ≤ room)
Advances want room piece (More want') = StaysShort want piece room want'
Advances want room piece (Reserved at) = Stops want piece room at
Advances want room piece TooLong = Exceeds want piece room
