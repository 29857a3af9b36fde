-- The state of a scanner as plain numbers.
use Rattle.std.specs.Prelude.{◌≡◌, ◌⊎◌, ℕ, ◌^◌, ◌≤◌, List, false}
use Rattle.rmp_scan.specs.declared.opening.Counts.{Counts}
use Rattle.rmp_scan.specs.declared.opening.Counts.TheVariants.{Payload, Extension, Items, Pairs}
use Rattle.rmp_scan.specs.declared.want.Next.{Next}
use Rattle.rmp_scan.specs.declared.want.Next.TheVariants as next
use Rattle.rmp_scan.specs.declared.scanner.Scanner.{Scanner}
use Rattle.rmp_scan.specs.declared.state.State.{State}
use Rattle.rmp_scan.specs.Scans.{IsAfter}

abbrev pub number_of : Counts → ℕ
number_of Payload = 1
number_of Extension = 2
number_of Items = 3
number_of Pairs = 4

-- the numbers say what comes next
abbrev pub IsNext : Next → State → Type 0
IsNext (next.Payload payload) state = (state.next ≡ 0) × (state.number ≡ payload)
IsNext (next.Length length) state =
    (state.next ≡ number_of length.counts) × (state.number ≡ length.value) × (state.missing ≡ length.missing)

-- the numbers are those of a scanner that has met no error
pub record IsStateOf (s : Scanner) (state : State) : Type 0 where
  pub ready : s.refused ≡ false
  pub limit : s.limit ≡ state.limit
  pub taken : s.taken ≡ state.taken
  pub messages : s.want.messages ≡ state.messages
  pub next : IsNext s.want.next state

-- they are those of no scanner
abbrev pub IsBroken : State → Type 0
IsBroken state = (s : Scanner) → IsStateOf s state → ⊥

-- a number of the scanner has more than 64 bits
abbrev pub IsOutOfRange : Scanner → Type 0
IsOutOfRange s = (2 ^ 64 ≤ s.limit) ⊎ ((2 ^ 64 ≤ s.taken) ⊎ (2 ^ 64 ≤ s.want.messages))

-- the scanner of this state has these bytes of a message
pub record Holds (bytes : List ℕ) (state : State) : Type 0 where
  pub scanner : Scanner
  pub is : IsStateOf scanner state
  pub after : IsAfter bytes scanner
