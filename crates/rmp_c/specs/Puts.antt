-- What a put leaves in its buffer.
use Rattle.std.specs.Prelude.{◌≡◌, ℕ, ◌+◌, ◌-◌, ◌^◌, ◌<◌, ◌≤◌, List, ◌++◌, length, take, drop, min}

-- the bytes are in the buffer from the offset on, which moves to their end, and no other byte of it changed
pub record IsPut (bytes : List ℕ) (at at' : ℕ) (out out' : List ℕ) : Type 0 where
  pub fits : at + length bytes ≤ length out
  pub place : at' ≡ at + length bytes
  pub bytes_there : out' ≡ take at out ++ (bytes ++ drop (at + length bytes) out)

-- the buffer ends before the bytes would, and the offset moves to where they would have ended, at most to the greatest `usize`
pub record NoRoom (bytes : List ℕ) (at at' room : ℕ) : Type 0 where
  pub short : room < at + length bytes
  pub place : at' ≡ min (at + length bytes) (2 ^ 64 - 1)
