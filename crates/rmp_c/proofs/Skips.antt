-- The end of the message at an offset, by its length.
use Rattle.std.specs.Prelude.{◌↔◌}
use Rattle.std.proofs.Common.{◌≡◌, ap, subst, sym, ◌∙◌, arith, ◌≢◌, ℕ, ◌+◌, ◌-◌, ◌≤◌, List, [], drop, length, Option, Some, None, Result, Ok}
use Rattle.std.proofs.lemmas.List.{length-append, length-drop}
use Rattle.rmp_decode.specs.declared.error.Error.{Error}
use Rattle.rmp_scan.specs.Scans.{IsBeginning, MessageEnds, NoMessage}
use Rattle.rmp_scan.proofs.Cutting.{nothing_begins}

abbrev Answer : Type 0
Answer = Result (Option ℕ) Error

-- a message ends in its bytes
pub end_within : (bytes : List ℕ) (at len : ℕ) → MessageEnds (drop at bytes) len → len ≤ length bytes - at
end_within bytes at len m =
    let long = m.long in
    let a = sym (length-drop at bytes) ∙ ap length m.front ∙ length-append m.bytes m.rest in omega (arith, a, long)

module _ (xs : List ℕ) (r : Answer) (whole : (n : ℕ) → (r ≡ Ok (Some n)) ↔ MessageEnds xs n) (more : (r ≡ Ok None) ↔ IsBeginning xs) where
  -- the answer is a length
  pub ends_at : (status next at len : ℕ) → status ≡ 0 → next ≡ at + len → r ≡ Ok (Some len) → (n : ℕ) → ((status ≡ 0) × (next ≡ at + n)) ↔ MessageEnds xs n
  ends_at status next at len ok place is n = (
    λ e. let same : len ≡ n = (let sum = e.1 in omega (arith, sum, place)) in subst (MessageEnds xs) same ((whole len).0 is),
    λ m. let other = (whole n).1 m in let same : len ≡ n = cc in (ok, place ∙ ap (λ k. at + k) same),
  )

  -- it isn't
  pub ends_nowhere : (status next at : ℕ) → status ≢ 0 → ((k : ℕ) → r ≡ Ok (Some k) → ⊥) → (n : ℕ) → ((status ≡ 0) × (next ≡ at + n)) ↔ MessageEnds xs n
  ends_nowhere status next at other none n = (λ e. absurd (other e.0), λ m. absurd (none n ((whole n).1 m)))

  -- some bytes are there
  pub not_empty : (r ≡ Ok None → ⊥) → xs ≡ [] → ⊥
  not_empty none e = none (more.1 (subst IsBeginning (sym e) nothing_begins))

  pub has_none : ((k : ℕ) → r ≡ Ok (Some k) → ⊥) → (r ≡ Ok None → ⊥) → NoMessage xs
  has_none ends begins = record { ends = λ n m. ends n ((whole n).1 m); begins = λ b. begins (more.1 b) }
