-- What follows from what a sink was told, and how writes of pieces join.
use Rattle.std.proofs.Common.{◌≡◌, ◌≢◌, ℕ, zero, suc, ◌≤◌, ◌+◌, ◌-◌, ◌<◌, List, length, take, drop, Option, refl, sym, subst, arith}
use Rattle.std.proofs.Math.Seq.{take-add}
use Rattle.std.proofs.lemmas.List.{take-append-drop, take_rest, length-take}
use Rattle.std.proofs.lemmas.Bool.Decides.{nat_tests}
use Rattle.std.specs.Io.KnownBytes.{Appends}
use Rattle.std.proofs.KnownBytes.{Appends-trans}
use Rattle.std.specs.Prelude.{Bool, Ok, Err}
use Rattle.rmp_wire.specs.declared.error.IoFault.{IoFault}
use Rattle.rmp_wire.specs.declared.error.ValueWriteError.{ValueWriteError}
use Rattle.rmp_wire.specs.declared.error.ValueWriteError.TheVariants.{InvalidDataWrite}
use Rattle.rmp_wire.specs.Sinks.{next_fault, stopped_after, StopsAfter, PutsPart, Puts}

-- a count changes at a fault
pub next_differs : (n m : ℕ) → m ≡ next_fault n → m ≢ n
next_differs n m e h = omega (arith, e, h)

-- where n more bytes of the piece were written
pub take_further : (a b c : Option (List ℕ)) (bs : List ℕ) (i n : ℕ) → Appends a b (take i bs) → Appends b c (take n (take (length bs - i) (drop i bs)))
    → Appends a c (take (i + n) bs)
take_further a b c bs i n p q =
    let tail : Appends b c (take n (drop i bs)) = subst (λ l. Appends b c (take n l)) (take_rest bs i) q in
    subst (Appends a c) (sym (take-add i n bs)) (Appends-trans a b c _ _ p tail)

-- where no more was written
pub take_same : (a b c : Option (List ℕ)) (bs : List ℕ) (i n : ℕ) → n ≡ 0 → Appends a b (take i bs)
    → Appends b c (take n (take (length bs - i) (drop i bs))) → Appends a c (take i bs)
take_same a b c bs i n none p q = subst (λ k. Appends a c (take k bs)) (omega (arith, none)) (take_further a b c bs i n p q)

-- ---- how a write of a piece ends

pub puts_done : {A : Type 0} {m : Bool} {bytes : List ℕ} {a b : Option (List ℕ)} {f g : ℕ} {u : A} → Appends a b bytes → g ≡ f → Puts m bytes a b f g (Ok u)
puts_done p h = record { whole = p; sound = h; stops = tt }

pub puts_part : {A : Type 0} {m : Bool} {bytes : List ℕ} {a b : Option (List ℕ)} {f g : ℕ} {e : ValueWriteError} → PutsPart m bytes a b f g e
    → Puts {A = A} m bytes a b f g (Err e)
puts_part p = record { whole = tt; sound = tt; stops = p }

-- the first i bytes were taken
pub part_of_take : (m : Bool) (bytes : List ℕ) (a b : Option (List ℕ)) (f g i : ℕ) (e : ValueWriteError) → Appends a b (take i bytes)
    → StopsAfter m f g (take i bytes) e → PutsPart m bytes a b f g e
part_of_take m bytes a b f g i e p cause = record {
  part = take i bytes;
  rest = drop i bytes;
  split = sym (take-append-drop i bytes);
  appended = p;
  cause = cause;
}

-- a fault after n bytes
pub stops_at : (m : Bool) (bytes : List ℕ) (f g i : ℕ) (fault : IoFault) → i ≤ length bytes → g ≡ next_fault f
    → StopsAfter m f g (take i bytes) (stopped_after i fault)
stops_at m bytes f g zero fault h moved = (refl, moved)
stops_at m bytes f g (suc i) fault h moved =
    let is : InvalidDataWrite fault ≡ stopped_after (suc i) fault = grind (arith, nat_tests) in
    let some : 0 < length (take (suc i) bytes) = omega (arith, length-take (suc i) bytes) in
    subst (StopsAfter m f g (take (suc i) bytes)) is (some, moved)

pub puts_fault : {A : Type 0} (m : Bool) (bytes : List ℕ) (a b : Option (List ℕ)) (f g i : ℕ) (fault : IoFault) (e : ValueWriteError) → i ≤ length bytes
    → Appends a b (take i bytes) → g ≡ next_fault f → e ≡ stopped_after i fault
    → Puts {A = A} m bytes a b f g (Err e)
puts_fault m bytes a b f g i fault e h p moved is = puts_part
    (part_of_take m bytes a b f g i e p (subst (StopsAfter m f g (take i bytes)) (sym is) (stops_at m bytes f g i fault h moved)))
