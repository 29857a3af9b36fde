-- The canonical head is a head, and no head of its kind and number is shorter.
use Rattle.std.proofs.Common.{ℕ, ◌<◌, ◌≤◌, List, length, refl, arith, true, false, pos, negsuc}
use Rattle.std.proofs.lemmas.Bool.Decides.{nat_tests}
use Rattle.std.proofs.lemmas.Int.{ints}
use Rattle.std.specs.List.{AllByRecursion}
use Rattle.rmp_wire.proofs.Heads.{unsigned_below}
use Rattle.rmp_wire.specs.Heads.{IsHead, canon_head, fits_head}
use Rattle.rmp_wire.specs.declared.head.Head.{Head}
use Rattle.rmp_wire.specs.declared.head.Head.TheVariants.{Nil, Truth, Whole, F32Bits, F64Bits, Text, Bin, Array, Map, Ext}

-- what has a canonical head has it as a head
pub canon_is_head : (h : Head) → fits_head h → IsHead h (canon_head h)
unfolding IsHead canon_head fits_head
canon_is_head Nil f = refl
canon_is_head (Truth false) f = refl
canon_is_head (Truth true) f = refl
canon_is_head (Whole (pos n)) f = grind (arith, nat_tests)
canon_is_head (Whole (negsuc n)) f = grind (arith, nat_tests)
canon_is_head (F32Bits n) f = (f, refl)
canon_is_head (F64Bits n) f = (f, refl)
canon_is_head (Text n) f = grind (arith, nat_tests)
canon_is_head (Bin n) f = grind (arith, nat_tests)
canon_is_head (Array n) f = grind (arith, nat_tests)
canon_is_head (Map n) f = grind (arith, nat_tests)
canon_is_head (Ext n tag) f = grind (arith, nat_tests)

-- no head is shorter
pub canon_head_least : (h : Head) (a : List ℕ) → IsHead h a → length (canon_head h) ≤ length a
unfolding IsHead canon_head
canon_head_least Nil a f = grind arith
canon_head_least (Truth false) a f = grind arith
canon_head_least (Truth true) a f = grind arith
canon_head_least (Whole (pos n)) a f = grind (arith, nat_tests)
canon_head_least (Whole (negsuc n)) a f = grind (arith, nat_tests)
canon_head_least (F32Bits n) a f = grind arith
canon_head_least (F64Bits n) a f = grind arith
canon_head_least (Text n) a f = grind (arith, nat_tests)
canon_head_least (Bin n) a f = grind (arith, nat_tests)
canon_head_least (Array n) a f = grind (arith, nat_tests)
canon_head_least (Map n) a f = grind (arith, nat_tests)
canon_head_least (Ext n tag) a f = grind (arith, nat_tests)

-- what has a head fits
pub head_fits : (h : Head) (a : List ℕ) → IsHead h a → fits_head h
unfolding IsHead fits_head
head_fits Nil a f = tt
head_fits (Truth t) a f = tt
head_fits (Whole (pos n)) a f = grind (arith, ints)
head_fits (Whole (negsuc n)) a f = grind (arith, ints)
head_fits (F32Bits n) a f = f.0
head_fits (F64Bits n) a f = f.0
head_fits (Text n) a f = grind arith
head_fits (Bin n) a f = grind arith
head_fits (Array n) a f = grind arith
head_fits (Map n) a f = grind arith
head_fits (Ext n tag) a f = grind arith

-- a head is made of bytes, one at least
pub head_bytes : (h : Head) (a : List ℕ) → IsHead h a → AllByRecursion (λ b. b < 256) a
unfolding IsHead
head_bytes Nil a f = rw f (omega arith)
head_bytes (Truth false) a f = rw f (omega arith)
head_bytes (Truth true) a f = rw f (omega arith)
head_bytes (Whole (pos n)) a f = grind (arith, unsigned_below)
head_bytes (Whole (negsuc n)) a f = grind (arith, unsigned_below)
head_bytes (F32Bits n) a f = rw f.1 (omega arith)
head_bytes (F64Bits n) a f = rw f.1 (omega arith)
head_bytes (Text n) a f = grind arith
head_bytes (Bin n) a f = grind arith
head_bytes (Array n) a f = grind arith
head_bytes (Map n) a f = grind arith
head_bytes (Ext n tag) a f = grind (arith, unsigned_below)
