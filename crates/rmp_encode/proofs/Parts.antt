-- How writes of parts join.
use Rattle.std.proofs.Common.{inl, ◌≡◌, ℕ, List, [], ◌∷◌, ◌++◌, length-append, Bool, true, false, Option, refl, sym, ◌∙◌, ap, subst, append_assoc, arith}
use Rattle.std.specs.Prelude.{Result, Ok, Err, IsTrue, ◌||◌}
use Rattle.std.specs.Io.KnownBytes.{Appends}
use Rattle.std.proofs.KnownBytes.{Appends-trans, Appends-nil}
use Rattle.rmp_encode.specs.declared.error.Error.{Error}
use Rattle.rmp_encode.specs.declared.error.Error.TheVariants.{InvalidValueWrite, UnknownLength, InvalidDataModel, DepthLimitExceeded, Syntax, OutOfMemory}
use Rattle.rmp_encode.specs.Errors.{IsTooLong}
use Rattle.rmp_wire.specs.declared.error.ValueWriteError.TheVariants as wire
use Rattle.rmp_wire.specs.declared.sink.Sink.{Ghosts}
use Rattle.rmp_encode.specs.Sizes.{one_of}
use Rattle.rmp_encode.specs.Writes.{AppendsSome, AppendsPart, FailsBy, HasBegun, WritesPart}

-- a beginning of b, and more after it
pub part_more : {x y : Option (List ℕ)} {a : List ℕ} (b : List ℕ) → AppendsPart x y a → AppendsPart x y (a ++ b)
part_more b p = record { part = p.part; rest = p.rest ++ b; split = ap (λ l. l ++ b) p.split ∙ append_assoc p.part p.rest b; appended = p.appended }

-- a whole piece, and then a beginning of b
pub part_after : {x y z : Option (List ℕ)} (a : List ℕ) {b : List ℕ} → Appends x y a → AppendsPart y z b → AppendsPart x z (a ++ b)
part_after {x} {y} {z} a {b} p q = record {
  part = a ++ q.part;
  rest = q.rest;
  split = ap (λ l. a ++ l) q.split
      ∙ sym (append_assoc a q.part q.rest);
  appended = Appends-trans x y z a q.part p q.appended;
}

pub part_none : (x : Option (List ℕ)) (a : List ℕ) → AppendsPart x x a
part_none x a = record { part = []; rest = a; split = refl; appended = Appends-nil x }

-- where no fault was counted, no item was interrupted
begun_none : (m : Bool) (P : Type 0) (n : ℕ) (e : Error) → FailsBy m P n n e → HasBegun e []
begun_none m P n (InvalidValueWrite (wire.InvalidMarkerWrite fault)) h = tt
begun_none m P n (InvalidValueWrite (wire.InvalidDataWrite fault)) h = absurd (h refl)
begun_none m P n (InvalidValueWrite wire.OutOfMemory) h = tt
begun_none m P n UnknownLength h = tt
begun_none m P n (InvalidDataModel t) h = tt
begun_none m P n DepthLimitExceeded h = tt
begun_none m P n (Syntax t) h = tt
begun_none m P n OutOfMemory h = tt

-- an item that was interrupted after other bytes
begun_after : (e : Error) (a b : List ℕ) → HasBegun e b → HasBegun e (a ++ b)
begun_after (InvalidValueWrite (wire.InvalidMarkerWrite fault)) a b h = tt
begun_after (InvalidValueWrite (wire.InvalidDataWrite fault)) a b h = omega (arith, h, length-append a b)
begun_after (InvalidValueWrite wire.OutOfMemory) a b h = tt
begun_after UnknownLength a b h = tt
begun_after (InvalidDataModel t) a b h = tt
begun_after DepthLimitExceeded a b h = tt
begun_after (Syntax t) a b h = tt
begun_after OutOfMemory a b h = tt

-- a piece, and then some more
pub some_after : {x y z : Option (List ℕ)} (e : Error) (a : List ℕ) → Appends x y a → AppendsSome e y z → AppendsSome e x z
some_after {x} {y} {z} e a p q = record { part = a ++ q.part; appended = Appends-trans x y z a q.part p q.appended; begun = begun_after e a q.part q.begun }

-- an error's cause under a stronger condition, and for a write that may allocate
pub fails_as : (m n : Bool) (P Q : Type 0) (old new : ℕ) (e : Error) → (IsTrue m → IsTrue n) → (Q → P) → FailsBy m P old new e → FailsBy n Q old new e
fails_as m n P Q old new (InvalidValueWrite (wire.InvalidMarkerWrite fault)) h f p = p
fails_as m n P Q old new (InvalidValueWrite (wire.InvalidDataWrite fault)) h f p = p
fails_as m n P Q old new (InvalidValueWrite wire.OutOfMemory) h f p = p
fails_as m n P Q old new UnknownLength h f p = p
fails_as m n P Q old new (InvalidDataModel t) h f p = (p.0, λ q. p.1 (f q), p.2)
fails_as m n P Q old new DepthLimitExceeded h f p = p
fails_as m n P Q old new (Syntax t) h f p = (λ q. p.0 (f q), p.1)
fails_as m n P Q old new OutOfMemory h f p = (h p.0, p.1)

-- the cause counted from an earlier state
pub fails_from : (m : Bool) (P : Type 0) (old mid new : ℕ) (e : Error) → mid ≡ old → FailsBy m P mid new e → FailsBy m P old new e
fails_from m P old mid new (InvalidValueWrite (wire.InvalidMarkerWrite fault)) h p = λ q. p (q ∙ sym h)
fails_from m P old mid new (InvalidValueWrite (wire.InvalidDataWrite fault)) h p = λ q. p (q ∙ sym h)
fails_from m P old mid new (InvalidValueWrite wire.OutOfMemory) h p = p
fails_from m P old mid new UnknownLength h p = p
fails_from m P old mid new (InvalidDataModel t) h p = (p.0, p.1, p.2 ∙ h)
fails_from m P old mid new DepthLimitExceeded h p = p
fails_from m P old mid new (Syntax t) h p = (p.0, p.1 ∙ h)
fails_from m P old mid new OutOfMemory h p = (p.0, p.1 ∙ h)

-- whether memory may be taken, by one of several
pub or_right : (b m : Bool) → IsTrue m → IsTrue (b || m)
or_right true m h = refl
or_right false m h = h

pub or_first : (b c m : Bool) → IsTrue (b || m) → IsTrue ((b || c) || m)
or_first true c m h = refl
or_first false c m h = or_right c m h

pub or_second : (b c m : Bool) → IsTrue (c || m) → IsTrue ((b || c) || m)
or_second true c m h = refl
or_second false c m h = h

or_left : (b c : Bool) → IsTrue b → IsTrue (b || c)
or_left true c h = h
or_left false c h = absurd cc

or_as : (b c m : Bool) → (IsTrue b → IsTrue c) → IsTrue (b || m) → IsTrue (c || m)
or_as true c m f h = or_left c m (f refl)
or_as false c m f h = or_right c m h

-- of parts after others, the first ones may allocate, or the later ones
front_some : (bs cs : List Bool) → IsTrue (one_of bs) → IsTrue (one_of (bs ++ cs))
front_some [] cs h = absurd cc
front_some (true ∷ bs) cs h = refl
front_some (false ∷ bs) cs h = front_some bs cs h

back_some : (bs cs : List Bool) → IsTrue (one_of cs) → IsTrue (one_of (bs ++ cs))
back_some [] cs h = h
back_some (b ∷ bs) cs h = or_right b (one_of (bs ++ cs)) (back_some bs cs h)

pub front_or : (m : Bool) (bs cs : List Bool) → IsTrue (one_of bs || m) → IsTrue (one_of (bs ++ cs) || m)
front_or m bs cs h = or_as (one_of bs) (one_of (bs ++ cs)) m (front_some bs cs) h

pub back_or : (m : Bool) (bs cs : List Bool) → IsTrue (one_of cs || m) → IsTrue (one_of (bs ++ cs) || m)
back_or m bs cs h = or_as (one_of cs) (one_of (bs ++ cs)) m (back_some bs cs) h

module _ {W : Type 0} (g : Ghosts W) where
  -- a write that was done
  pub part_done : {A : Type 0} (m : Bool) (P : Type 0) (a : List ℕ) (old new : W) (u : A) → P → Appends (g.told old) (g.told new) a
      → g.faults new ≡ g.faults old → WritesPart g m P a old new (Ok u)
  part_done m P a old new u p w h = record { may = p; whole = w; no_fault = h; part = tt; front = tt; cause = tt }

  -- a write that failed
  pub part_failed : {A : Type 0} (m : Bool) (P : Type 0) (a : List ℕ) (old new : W) (e : Error) → (P → AppendsPart (g.told old) (g.told new) a)
      → AppendsSome e (g.told old) (g.told new) → FailsBy m P (g.faults old) (g.faults new) e → WritesPart g {A = A} m P a old new (Err e)
  part_failed m P a old new e p some f = record { may = tt; whole = tt; no_fault = tt; part = p; front = some; cause = f }

  -- a write that failed before it wrote anything
  pub part_nothing : {A : Type 0} (m : Bool) (P : Type 0) (a : List ℕ) (w : W) (e : Error) → FailsBy m P (g.faults w) (g.faults w) e
      → WritesPart g {A = A} m P a w w (Err e)
  part_nothing m P a w e f = part_failed m P a w w e (λ _. part_none (g.told w) a)
      (record { part = []; appended = Appends-nil (g.told w); begun = begun_none m P (g.faults w) e f }) f

  -- the same write under an equal condition and an equal text
  pub part_as : {A : Type 0} {m n : Bool} {P Q : Type 0} {a b : List ℕ} {old new : W} {r : Result A Error} → (IsTrue m → IsTrue n) → (P → Q) → (Q → P)
      → (Q → a ≡ b) → WritesPart g m P a old new r → WritesPart g n Q b old new r
  part_as {m} {n} {P} {Q} {a} {b} {old} {new} {r = Ok u} h f b' e p = part_done n Q b old new u (f p.may) (subst (Appends _ _) (e (f p.may)) p.whole) p.no_fault
  part_as {m} {n} {P} {Q} {a} {b} {old} {new} {r = Err x} h f b' e p = part_failed n Q b old new x (λ q. subst (AppendsPart _ _) (e q) (p.part (b' q)))
      p.front (fails_as m n P Q _ _ x h b' p.cause)

  -- a part that was written, and then another
  pub part_then : {A B : Type 0} {m : Bool} {P Q : Type 0} {a b : List ℕ} {old mid new : W} {u : B} {r : Result A Error} → WritesPart g m P a old mid (Ok u)
      → WritesPart g m Q b mid new r → WritesPart g m (P × Q) (a ++ b) old new r
  part_then {m} {P} {Q} {a} {b} {old} {mid} {new} {r = Ok u} p q = part_done m (P × Q) (a ++ b) old new u (p.may, q.may)
      (Appends-trans _ _ _ a b p.whole q.whole) (q.no_fault ∙ p.no_fault)
  part_then {m} {P} {Q} {a} {b} {old} {mid} {new} {r = Err x} p q =
      part_failed m (P × Q) (a ++ b) old new x (λ k. part_after a p.whole (q.part k.1)) (some_after x a p.whole q.front)
      (fails_as m m Q (P × Q) _ _ x (λ t. t) (λ k. k.1) (fails_from m Q _ _ _ x p.no_fault q.cause))

  -- a part that failed, where more remained
  pub part_stops : {A B : Type 0} {m : Bool} {P Q : Type 0} {a : List ℕ} (b : List ℕ) {old new : W} {e : Error} → WritesPart g {A = A} m P a old new (Err e)
      → WritesPart g {A = B} m (P × Q) (a ++ b) old new (Err e)
  part_stops {m} {P} {Q} {a} b {old} {new} {e} p = part_failed m (P × Q) (a ++ b) old new e (λ k. part_more b (p.part k.0)) p.front
      (fails_as m m P (P × Q) _ _ e (λ t. t) (λ k. k.0) p.cause)

  -- a value that is refused, before a byte is written
  pub part_refused : {A : Type 0} (m : Bool) (P : Type 0) (a : List ℕ) (w : W) (e : Error) → IsTooLong e → ¬ P → WritesPart g {A = A} m P a w w (Err e)
  part_refused m P a w (InvalidDataModel t) is h = part_nothing m P a w (InvalidDataModel t) (inl is, h, refl)
  part_refused m P a w (InvalidValueWrite e) is h = absurd is
  part_refused m P a w UnknownLength is h = absurd is
  part_refused m P a w DepthLimitExceeded is h = absurd is
  part_refused m P a w (Syntax t) is h = absurd is
  part_refused m P a w OutOfMemory is h = absurd is

  -- where the serializer rests with the sink that a compound left
  pub rests_at : {A : Type 0} {m : Bool} {P : Type 0} {bs : List ℕ} {old w last : W} {r : Result A Error} → last ≡ w → WritesPart g m P bs old w r
      → WritesPart g m P bs old last r
  rests_at {A} {m} {P} {bs} {old} {w} {last} {r} e h = subst (λ l. WritesPart g m P bs old l r) (sym e) h

  -- a write that succeeded allocates no more than any other
  pub part_any : {A B : Type 0} {m : Bool} (n : Bool) {P : Type 0} {a : List ℕ} {old new : W} {u : A} (v : B) → WritesPart g m P a old new (Ok u)
      → WritesPart g n P a old new (Ok v)
  part_any n {P} {a} {old} {new} v p = part_done n P a old new v p.may p.whole p.no_fault

  -- the same write, where memory may be taken
  pub part_memory : {A : Type 0} {m : Bool} {P : Type 0} {a : List ℕ} {old new : W} {r : Result A Error} → WritesPart g m P a old new r
      → WritesPart g true P a old new r
  part_memory w = part_as (λ _. refl) (λ p. p) (λ p. p) (λ _. refl) w

  -- the same write, where memory may be taken if it may be taken here
  pub part_takes : {A : Type 0} {m : Bool} (n : Bool) {P : Type 0} {a : List ℕ} {old new : W} {r : Result A Error} → (IsTrue m → IsTrue n)
      → WritesPart g m P a old new r → WritesPart g n P a old new r
  part_takes n h w = part_as h (λ p. p) (λ p. p) (λ _. refl) w

  -- the same write, where a value may allocate too
  pub part_or : {A : Type 0} {m : Bool} (b : Bool) {P : Type 0} {a : List ℕ} {old new : W} {r : Result A Error} → WritesPart g m P a old new r
      → WritesPart g (b || m) P a old new r
  part_or {A} {m} b w = part_takes (b || m) (or_right b m) w
