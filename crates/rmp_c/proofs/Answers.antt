-- A check has one answer.
use Rattle.std.proofs.Common.{◌≡◌, ℕ, Result, Ok, Err}
use Rattle.rmp_decode.specs.declared.error.Error.{Error}
use Rattle.rmp_serde.specs.declared.check.Canon.{Canon}
use Rattle.rmp_serde.specs.declared.check.Canon.TheVariants.{Whole, Fault}

pub one_whole : (r : Result Canon Error) (m n : ℕ) → r ≡ Ok (Whole m) → r ≡ Ok (Whole n) → m ≡ n
one_whole r m n a b = cc

pub one_fault : (r : Result Canon Error) (p q : ℕ) → r ≡ Ok (Fault p) → r ≡ Ok (Fault q) → p ≡ q
one_fault r p q a b = cc

pub never_both : (r : Result Canon Error) (n p : ℕ) → r ≡ Ok (Whole n) → r ≡ Ok (Fault p) → ⊥
never_both r n p a b = cc

pub never_found : (r : Result Canon Error) (e : Error) (c : Canon) → r ≡ Err e → r ≡ Ok c → ⊥
never_found r e c a b = cc
