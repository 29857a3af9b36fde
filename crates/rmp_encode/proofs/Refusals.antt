-- Whose error a write answers.
use Rattle.std.proofs.Common.{◌≡◌, ℕ, zero, suc, ◌<◌, ◌≤◌, ◌^◌, List, [], ◌∷◌, ◌++◌, length, take, drop, get_or, nat_le, Bool, true, false}
use Rattle.std.proofs.Common.{inl, inr, refl, sym, subst, arith}
use Rattle.std.specs.Prelude.{◌||◌, T, Result, Err, IfErr}
use Rattle.std.specs.Borrow.{Bor}
use Rattle.std.specs.List.{Any, list_any}
use Rattle.std.proofs.lemmas.Result.{IfErr-weaker}
use Rattle.rmp_wire.specs.declared.error.ValueWriteError.{ValueWriteError}
use Rattle.rmp_wire.specs.declared.error.ValueWriteError.TheVariants as wire
use Rattle.rmp_wire.specs.declared.sink.Sink.{Ghosts}
use Rattle.rmp_encode.specs.declared.error.Error.{Error}
use Rattle.rmp_encode.specs.declared.error.Error.TheVariants.{InvalidValueWrite, UnknownLength, InvalidDataModel, DepthLimitExceeded, Syntax, OutOfMemory}
use Rattle.rmp_encode.specs.Errors.{IsTooLong, error_of}
use Rattle.rmp_encode.specs.Refusals.{lengths, AnyLong, Errors, OfItems, OfLength, OfParts, OfSink, RefusesLength}
use Rattle.rmp_encode.specs.Writes.{FailsBy, NoneAtMarker}

-- an error of the wire is the sink's or memory's
pub of_wire : (e : ValueWriteError) → OfSink (error_of e)
of_wire (wire.InvalidMarkerWrite fault) = tt
of_wire (wire.InvalidDataWrite fault) = tt
of_wire wire.OutOfMemory = tt

-- and so is that of what can't be refused
pub of_cause : (m : Bool) (n k : ℕ) (e : Error) → FailsBy m (Unit {0}) n k e → OfSink e
of_cause m n k (InvalidValueWrite fault) h = tt
of_cause m n k UnknownLength h = h
of_cause m n k (InvalidDataModel t) h = absurd (h.1 tt)
of_cause m n k DepthLimitExceeded h = h
of_cause m n k (Syntax t) h = absurd (h.0 tt)
of_cause m n k OutOfMemory h = tt

-- under another condition
pub of_weaker : {P Q : Type 0} → (P → Q) → (e : Error) → OfLength P e → OfLength Q e
of_weaker f (InvalidValueWrite fault) h = tt
of_weaker f UnknownLength h = h
of_weaker f (InvalidDataModel t) h = (f h.0, h.1)
of_weaker f DepthLimitExceeded h = h
of_weaker f (Syntax t) h = h
of_weaker f OutOfMemory h = tt

pub on_weaker : {P Q : Type 0} (r : Result (Unit {0}) Error) → (P → Q) → IfErr r (OfLength P) → IfErr r (OfLength Q)
on_weaker {P} {Q} r f h = IfErr-weaker r (OfLength P) (OfLength Q) (of_weaker f) h

pub of_sink : (P : Type 0) (e : Error) → OfSink e → OfLength P e
of_sink P e h = of_weaker {Q = P} absurd e h

pub on_sink : (P : Type 0) (r : Result (Unit {0}) Error) → IfErr r OfSink → IfErr r (OfLength P)
on_sink P r h = on_weaker {Q = P} r absurd h

pub on_fits : (n : ℕ) (r : Result (Unit {0}) Error) → n < 2 ^ 32 → IfErr r (OfLength (2 ^ 32 ≤ n)) → IfErr r OfSink
on_fits n r lt h = on_weaker {Q = ⊥} r (λ le. omega (arith, le, lt)) h

-- the refusal of a length
pub of_long : {P : Type 0} (e : Error) → IsTooLong e → P → OfLength P e
of_long (InvalidDataModel t) is p = (p, is)
of_long (InvalidValueWrite fault) is p = absurd is
of_long UnknownLength is p = absurd is
of_long DepthLimitExceeded is p = absurd is
of_long (Syntax t) is p = absurd is
of_long OutOfMemory is p = absurd is

pub refuses_length : {S : Type 0} (old : S) (e : Error) → IsTooLong e → RefusesLength {A = Unit {0}} old old (Err e)
refuses_length old (InvalidDataModel t) is = (is, refl)
refuses_length old (InvalidValueWrite fault) is = absurd is
refuses_length old UnknownLength is = absurd is
refuses_length old DepthLimitExceeded is = absurd is
refuses_length old (Syntax t) is = absurd is
refuses_length old OutOfMemory is = absurd is

module _ {W : Type 0} (g : Ghosts W) where
  pub none_too_long : (old new : W) (e : Error) → IsTooLong e → NoneAtMarker g {A = Unit {0}} old new (Err e)
  none_too_long old new (InvalidDataModel t) is = tt
  none_too_long old new (InvalidValueWrite fault) is = absurd is
  none_too_long old new UnknownLength is = tt
  none_too_long old new DepthLimitExceeded is = tt
  none_too_long old new (Syntax t) is = tt
  none_too_long old new OutOfMemory is = tt

-- one of some lengths is past 32 bits
is_long : (n : ℕ) → 2 ^ 32 ≤ n → nat_le (2 ^ 32) n ≡ true
is_long n le = grind (arith, le)

not_long : (n : ℕ) → n < 2 ^ 32 → nat_le (2 ^ 32) n ≡ false
not_long n lt = grind (arith, lt)

pub long_first : (n : ℕ) (rest : List ℕ) → 2 ^ 32 ≤ n → AnyLong (n ∷ rest)
long_first n rest le = subst (λ b. T (b || list_any (nat_le (2 ^ 32)) rest)) (sym (is_long n le)) tt

or_after : (b c : Bool) → T c → T (b || c)
or_after true c h = tt
or_after false c h = h

or_more : (b c d : Bool) → (T c → T d) → T (b || c) → T (b || d)
or_more true c d f h = tt
or_more false c d f h = f h

pub long_after : (n : ℕ) (rest : List ℕ) → AnyLong rest → AnyLong (n ∷ rest)
long_after n rest h = or_after (nat_le (2 ^ 32) n) (list_any (nat_le (2 ^ 32)) rest) h

pub long_past : (n : ℕ) → AnyLong (n ∷ []) → ¬ (n < 2 ^ 32)
long_past n h lt = subst (λ x. T (x || false)) (not_long n lt) h

pub long_alone : (n : ℕ) → AnyLong (n ∷ []) → 2 ^ 32 ≤ n
long_alone n h = let not = long_past n h in omega arith

pub long_not : (a b : ℕ) → AnyLong (a ∷ b ∷ []) → ¬ ((a < 2 ^ 32) × (b < 2 ^ 32))
long_not a b h k =
    let h' : T (false || (nat_le (2 ^ 32) b || false)) = subst (λ x. T (x || (nat_le (2 ^ 32) b || false))) (not_long a k.0) h in
    subst (λ x. T (x || false)) (not_long b k.1) h'

pub long_more : (rest : List ℕ) (n : ℕ) (more : List ℕ) → (AnyLong rest → AnyLong more) → AnyLong (n ∷ rest) → AnyLong (n ∷ more)
long_more rest n more f h = or_more (nat_le (2 ^ 32) n) (list_any (nat_le (2 ^ 32)) rest) (list_any (nat_le (2 ^ 32)) more) f h

pub long_both : (a b : ℕ) (rest : List ℕ) → AnyLong (a ∷ b ∷ []) → AnyLong (a ∷ b ∷ rest)
long_both a b rest h = long_more (b ∷ []) a (b ∷ rest) (long_more [] b rest absurd) h

pub long_take : (k : ℕ) (names : List (Bor (List ℕ))) → AnyLong (lengths (take k names)) → AnyLong (lengths names)
long_take zero names h = absurd h
long_take (suc k) [] h = absurd h
long_take (suc k) (name ∷ names) h = long_more (lengths (take k names)) (length name.now) (lengths names) (long_take k names) h

long_drop : (k : ℕ) (names : List (Bor (List ℕ))) → AnyLong (lengths (drop k names)) → AnyLong (lengths names)
long_drop zero names h = h
long_drop (suc k) [] h = h
long_drop (suc k) (name ∷ names) h = long_after (length name.now) (lengths names) (long_drop k names h)

pub long_rest : (k n : ℕ) (names : List (Bor (List ℕ))) → AnyLong (lengths (take n (drop k names))) → AnyLong (lengths names)
long_rest k n names h = long_drop k names (long_take n (drop k names) h)

-- of one part
pub on_part : (P : Type 0) (part : Errors) (r : Result (Unit {0}) Error) → IfErr r part → IfErr r (OfParts P (part ∷ []))
on_part P part r h = IfErr-weaker r part (OfParts P (part ∷ [])) (λ e p. inl p) h

-- of some of the parts
pub of_no_part : (P : Type 0) (parts : List Errors) (e : Error) → OfLength P e → OfParts P parts e
of_no_part P [] e h = h
of_no_part P (part ∷ parts) e h = inr (of_no_part P parts e h)

pub parts_weaker : {P Q : Type 0} → (P → Q) → (parts : List Errors) (e : Error) → OfParts P parts e → OfParts Q parts e
parts_weaker f [] e h = of_weaker f e h
parts_weaker f (part ∷ parts) e (inl h) = inl h
parts_weaker f (part ∷ parts) e (inr h) = inr (parts_weaker f parts e h)

pub on_parts_weaker : {P Q : Type 0} → (P → Q) → (parts : List Errors) (r : Result (Unit {0}) Error) → IfErr r (OfParts P parts) → IfErr r (OfParts Q parts)
on_parts_weaker {P} {Q} f parts r h = IfErr-weaker r (OfParts P parts) (OfParts Q parts) (parts_weaker f parts) h

pub of_front : (P : Type 0) (front back : List Errors) (e : Error) → OfParts P front e → OfParts P (front ++ back) e
of_front P [] back e h = of_no_part P back e h
of_front P (part ∷ front) back e (inl h) = inl h
of_front P (part ∷ front) back e (inr h) = inr (of_front P front back e h)

of_back : (P : Type 0) (front back : List Errors) (e : Error) → OfParts P back e → OfParts P (front ++ back) e
of_back P [] back e h = h
of_back P (part ∷ front) back e h = inr (of_back P front back e h)

pub on_no_part : (P : Type 0) (parts : List Errors) (r : Result (Unit {0}) Error) → IfErr r (OfLength P) → IfErr r (OfParts P parts)
on_no_part P parts r h = IfErr-weaker r (OfLength P) (OfParts P parts) (of_no_part P parts) h

pub on_back : (P : Type 0) (front back : List Errors) (r : Result (Unit {0}) Error) → IfErr r (OfParts P back) → IfErr r (OfParts P (front ++ back))
on_back P front back r h = IfErr-weaker r (OfParts P back) (OfParts P (front ++ back)) (of_back P front back) h

-- of one element
module _ {X : Type 0} (P : X → Type 0) where
  pub any_at : (xs : List X) (i : ℕ) (x : X) → i < length xs → x ≡ get_or xs i x → P x → Any P xs
  any_at xs i x lt is p = (i, x, lt, sym is, p)

  pub any_head : (x : X) (xs : List X) → P x → Any P (x ∷ xs)
  any_head x xs p = (0, x, omega arith, refl, p)

  pub any_tail : (x : X) (xs : List X) → Any P xs → Any P (x ∷ xs)
  any_tail x xs h = (suc h.0, h.1, (let lt = h.2 in omega (arith, lt)), h.3, h.4)

module _ {X : Type 0} (refuses : X → Errors) where
  pub on_number : (xs : List X) (r : Result (Unit {0}) Error) → IfErr r (OfLength (2 ^ 32 ≤ length xs)) → IfErr r (OfItems refuses xs)
  on_number xs r h = IfErr-weaker r (OfLength (2 ^ 32 ≤ length xs)) (OfItems refuses xs) (λ e p. inl p) h
