-- Which field is named that is missing.
use Rattle.std.proofs.Common.{◌≡◌, sym, subst, refl, arith, ℕ, suc, ◌<◌, length, Bool, true, false, List, [], ◌∷◌, Option, None, Some}
use Rattle.std.proofs.Math.ListN.{get_or}
use Rattle.std.specs.Borrow.{Bor}
use Rattle.std.specs.Option.{option_map}
use Rattle.std.specs.Prelude.{MatchOption}
use Rattle.rmp_wire.specs.Msg.{Msg}
use Rattle.rmp_decode.specs.FieldRefusing.{missing_place, missing_name}
use Rattle.rmp_decode.specs.Names.{bytes_of}
use Rattle.rmp_decode.specs.Words.{field_of, fitting}
use Rattle.rmp_decode.specs.declared.error.Error.{Error}

later : (o : Option ℕ) (n : ℕ) → option_map suc o ≡ Some n → (k : ℕ) × (n ≡ suc k) × (o ≡ Some k)
later None n e = absurd (cc)
later (Some k) n e = (k, cc, refl)

pub missing_named : (names : List (Bor (List ℕ))) (needed : List Bool) (fs : List (Option Msg)) (n : ℕ) (d : Bor (List ℕ))
    → missing_place needed fs ≡ Some n → n < length names → missing_name (bytes_of names) needed fs ≡ Some (get_or names n d).now
missing_named [] needed fs n d e l = absurd (omega (arith, l))
missing_named (s ∷ names) [] fs n d e l = absurd (cc)
missing_named (s ∷ names) (b ∷ needed) [] n d e l = absurd (cc)
missing_named (s ∷ names) (true ∷ needed) (None ∷ fs) n d e l = let z : 0 ≡ n = cc in subst (λ k. Some s.now ≡ Some (get_or (s ∷ names) k d).now) z refl
missing_named (s ∷ names) (false ∷ needed) (None ∷ fs) n d e l =
    let p = later (missing_place needed fs) n e in
    subst (λ k. missing_name (bytes_of names) needed fs ≡ Some (get_or (s ∷ names) k d).now) (sym p.1)
    (missing_named names needed fs p.0 d p.2 (let z = p.1 in omega (arith, l, z)))
missing_named (s ∷ names) (b ∷ needed) (Some m ∷ fs) n d e l =
    let p = later (missing_place needed fs) n e in
    subst (λ k. missing_name (bytes_of names) needed fs ≡ Some (get_or (s ∷ names) k d).now) (sym p.1)
    (missing_named names needed fs p.0 d p.2 (let z = p.1 in omega (arith, l, z)))

pub tells_name : (o : Option (List ℕ)) (name : List ℕ) (e : Error) → o ≡ Some name → field_of e ≡ Some (fitting name)
    → MatchOption o ⊥ (λ s. field_of e ≡ Some (fitting s))
tells_name o name e i h = rw i h
