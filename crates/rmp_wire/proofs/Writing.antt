-- How writes of pieces join.
use Rattle.std.proofs.Common.{◌≡◌, ℕ, ◌<◌, List, ◌++◌, length, Option, sym, ◌∙◌, ap, subst, arith, append_assoc}
use Rattle.std.proofs.lemmas.List.{length-append}
use Rattle.std.proofs.KnownBytes.{Appends-trans}
use Rattle.std.specs.Prelude.{Bool, Result, Ok, Err}
use Rattle.rmp_wire.specs.declared.error.ValueWriteError.{ValueWriteError}
use Rattle.rmp_wire.specs.declared.error.ValueWriteError.TheVariants.{InvalidMarkerWrite, InvalidDataWrite, OutOfMemory}
use Rattle.rmp_wire.specs.Faults.{past_first}
use Rattle.rmp_wire.specs.Heads.{canon_head}
use Rattle.rmp_wire.specs.declared.head.Head.{Head}
use Rattle.rmp_wire.specs.declared.head.Head.TheVariants.{Nil, Truth, Whole, F32Bits, F64Bits, Text, Bin, Array, Map, Ext}
use Rattle.std.proofs.lemmas.Bool.Decides.{nat_tests}
use Rattle.std.proofs.Common.{true, false, pos, negsuc}
use Rattle.rmp_wire.specs.Sinks.{next_fault, StopsAfter, Puts}
use Rattle.rmp_wire.proofs.Told.{puts_done, puts_part}

-- the same write, of bytes that are equal
pub puts_as : {A : Type 0} {m : Bool} {bs cs : List ℕ} {a b : Option (List ℕ)} {f g : ℕ} {r : Result A ValueWriteError} → bs ≡ cs → Puts m bs a b f g r
    → Puts m cs a b f g r
puts_as {m} {a} {b} {f} {g} {r} e p = subst (λ l. Puts m l a b f g r) e p

-- why a second piece stopped is why both did
stops_later : (m : Bool) (f g h : ℕ) (bs part : List ℕ) (e : ValueWriteError) → 0 < length bs → g ≡ f → StopsAfter m g h part e
    → StopsAfter m f h (bs ++ part) (past_first e)
stops_later m f g h bs part (InvalidMarkerWrite fault) some same c = (omega (arith, length-append bs part), c.1 ∙ ap next_fault same)
stops_later m f g h bs part (InvalidDataWrite fault) some same c = (omega (arith, length-append bs part), c.1 ∙ ap next_fault same)
stops_later m f g h bs part OutOfMemory some same c = (c.0 ∙ same, c.1)

-- two pieces were taken whole, one after the other
pub puts_both : {A B : Type 0} {m : Bool} {bs cs : List ℕ} {a b c : Option (List ℕ)} {f g h : ℕ} {u : B} {v : A} → Puts m bs a b f g (Ok u)
    → Puts m cs b c g h (Ok v) → Puts m (bs ++ cs) a c f h (Ok v)
puts_both {bs} {cs} {a} {b} {c} p q = puts_done (Appends-trans a b c bs cs p.whole q.whole) (q.sound ∙ p.sound)

-- a piece that isn't empty was taken whole, and the next was not
pub puts_then_stop : {A B : Type 0} {m : Bool} {bs cs : List ℕ} {a b c : Option (List ℕ)} {f g h : ℕ} {u : B} {e : ValueWriteError}
    → 0 < length bs → Puts m bs a b f g (Ok u) → Puts {A = A} m cs b c g h (Err e) → Puts {A = A} m (bs ++ cs) a c f h (Err (past_first e))
puts_then_stop {m} {bs} {cs} {a} {b} {c} {f} {g} {h} {e} some p q =
    puts_part (record {
      part = bs ++ q.stops.part;
      rest = q.stops.rest;
      split = ap (λ l. bs ++ l) q.stops.split ∙ sym (append_assoc bs q.stops.part q.stops.rest);
      appended = Appends-trans a b c bs q.stops.part p.whole q.stops.appended;
      cause = stops_later m f g h bs q.stops.part e some p.sound q.stops.cause;
    })

-- a piece was not taken whole, and more remained
pub puts_stop : {A B : Type 0} {m : Bool} {bs : List ℕ} {a b : Option (List ℕ)} {f g : ℕ} {e : ValueWriteError} (cs : List ℕ)
    → Puts {A = A} m bs a b f g (Err e) → Puts {A = B} m (bs ++ cs) a b f g (Err e)
puts_stop {m} {bs} {a} {b} {f} {g} {e} cs p =
    puts_part (record {
      part = p.stops.part;
      rest = p.stops.rest ++ cs;
      split = ap (λ l. l ++ cs) p.stops.split ∙ append_assoc p.stops.part p.stops.rest cs;
      appended = p.stops.appended;
      cause = p.stops.cause;
    })

-- a head has a first byte
pub head_some : (h : Head) → 0 < length (canon_head h)
unfolding canon_head
head_some Nil = grind arith
head_some (Truth false) = grind arith
head_some (Truth true) = grind arith
head_some (Whole (pos n)) = grind (arith, nat_tests)
head_some (Whole (negsuc n)) = grind (arith, nat_tests)
head_some (F32Bits n) = grind arith
head_some (F64Bits n) = grind arith
head_some (Text n) = grind (arith, nat_tests)
head_some (Bin n) = grind (arith, nat_tests)
head_some (Array n) = grind (arith, nat_tests)
head_some (Map n) = grind (arith, nat_tests)
head_some (Ext n tag) = grind (arith, nat_tests)
