-- Names that are buffered whole.
use Rattle.std.specs.Prelude.{◌≡◌, ◌<◌, ◌≤◌, ℕ, Bool, true, List, ◌++◌, length, Option, Some, None, IfSome, IfNone, cond, nat_lt}
use Rattle.std.specs.Borrow.{Bor}
use Rattle.rmp_wire.specs.declared.head.Head.TheVariants.{Text}
use Rattle.rmp_wire.specs.declared.source.Source.{Ghosts}
use Rattle.rmp_wire.specs.Canonical.{heads_of}
use Rattle.rmp_wire.specs.Msg.{Msg}
use Rattle.rmp_wire.specs.Spelling.{IsBytes}
use Rattle.rmp_decode.specs.Names.{bytes_of, IsName}
use Rattle.rmp_decode.specs.Parts.{TakesPart}
use Rattle.rmp_decode.specs.declared.deserializer.Deserializer.{Deserializer}

-- which of so many names a number below their count selects; the count selects none
abbrev pub below : ℕ → ℕ → Option ℕ
below many n = cond (nat_lt n many) (Some n) None

-- the message selects what the number selects
abbrev pub IsBelow : List (List ℕ) → Msg → ℕ → Type 0
IsBelow names m n = IsName names m (below (length names) n)

-- the bytes begin with a text of which P holds, of n bytes with its head
pub record TextIn (strict : Bool) (n : ℕ) (P : List ℕ → Type 0) (xs : List ℕ) : Type 0 where
  pub head : List ℕ
  pub bytes : List ℕ
  pub following : List ℕ
  pub is_head : heads_of strict (Text (length bytes)) head
  pub are_bytes : IsBytes bytes
  pub long : length (head ++ bytes) ≡ n
  pub begins : xs ≡ (head ++ bytes) ++ following
  pub holds : P bytes

-- All that the look for a buffered name does: a text was consumed, or nothing. With `only` it is one of the names.
pub record TakesNameAhead {R C : Type 0} (g : Ghosts R) (names : List (Bor (List ℕ))) (only : Bool) (old new : Deserializer R C) (result : Option ℕ) : Type
    0 where
  pub taken : IfSome result (λ n. (inner : ℕ) → 0 < inner → TakesPart g (IsBelow (bytes_of names)) inner old new n)
  pub within : IfSome result (λ n. n ≤ length names)
  pub named : only ≡ true → IfSome result (λ n. n < length names)
  pub kept : IfNone result (new ≡ old)
