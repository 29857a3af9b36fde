-- The payload that is written, by cases.
use Rattle.std.proofs.Common.{refl, ◌≡◌, ◌∙◌, ap, arith, ℕ, ℤ, pos, negsuc, ◌<◌, ◌≤◌, true, false, nat_lt}
use Rattle.std.proofs.lemmas.Bool.{lt-ltb, le-ltb, cond-true, cond-false}
use Rattle.rmp_types.specs.Payloads.{time_payload, short_or_middle, long_payload}

pub low_seconds : (z : ℤ) (n k : ℕ) → z ≡ pos n → n < 17179869184 → time_payload z k ≡ short_or_middle n k
unfolding time_payload
low_seconds z n k e l = ap (λ y. time_payload y k) e ∙ cond-true _ _ _ (lt-ltb n 17179869184 l)

pub high_seconds : (z : ℤ) (n k : ℕ) → z ≡ pos n → 17179869184 ≤ n → time_payload z k ≡ long_payload z k
unfolding time_payload
high_seconds (pos m) n k e l = cond-false _ _ _ (le-ltb m 17179869184 (let same : m ≡ n = cc in omega arith))
high_seconds (negsuc m) n k e l = absurd (cc)

pub below_0 : (m k : ℕ) → time_payload (negsuc m) k ≡ long_payload (negsuc m) k
unfolding time_payload
below_0 m k = refl
