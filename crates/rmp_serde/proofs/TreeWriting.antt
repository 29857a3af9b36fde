-- How the writes of a tree's parts join.
use Rattle.std.proofs.Common.{
  ◌≡◌,
  ℕ,
  zero,
  suc,
  get_or,
  ◌<◌,
  List,
  [],
  ◌∷◌,
  ◌++◌,
  length,
  take,
  drop,
  Option,
  sym,
  ◌∙◌,
  ap,
  subst,
  arith,
  append_assoc,
}
use Rattle.std.proofs.lemmas.List.{length-append, append-nil}
use Rattle.std.specs.Io.KnownBytes.{Appends}
use Rattle.std.proofs.KnownBytes.{Appends-trans}
use Rattle.std.specs.Prelude.{Bool, Result, Ok, Err}
use Rattle.std.specs.List.{flat_map}
use Rattle.rmp_wire.specs.declared.error.ValueWriteError.{ValueWriteError}
use Rattle.rmp_wire.specs.declared.error.ValueWriteError.TheVariants.{InvalidMarkerWrite, InvalidDataWrite, OutOfMemory}
use Rattle.rmp_wire.specs.Sinks.{next_fault, StopsAfter, Puts}
use Rattle.rmp_serde.specs.TreeWrites.{StopsWithin, TakesPart, TakesTree}

part_of : {A : Type 0} {m : Bool} {bytes : List ℕ} {a b : Option (List ℕ)} {f g : ℕ} {e : ValueWriteError} → TakesPart m bytes a b f g e
    → TakesTree {A = A} m bytes a b f g (Err e)
part_of p = record { whole = tt; sound = tt; stops = p }

all_of : {A : Type 0} {m : Bool} {bytes : List ℕ} {a b : Option (List ℕ)} {f g : ℕ} {u : A} → Appends a b bytes → g ≡ f → TakesTree m bytes a b f g (Ok u)
all_of p h = record { whole = p; sound = h; stops = tt }

within : (m : Bool) (f g : ℕ) (part : List ℕ) (e : ValueWriteError) → StopsAfter m f g part e → StopsWithin m f g part e
within m f g part (InvalidMarkerWrite fault) c = c.1
within m f g part (InvalidDataWrite fault) c = c
within m f g part OutOfMemory c = c

-- a write of one item is a write of a tree
pub tree_of_puts : {A : Type 0} {m : Bool} {bytes : List ℕ} {a b : Option (List ℕ)} {f g : ℕ} {r : Result A ValueWriteError} → Puts m bytes a b f g r
    → TakesTree m bytes a b f g r
tree_of_puts {r = Ok u} p = all_of p.whole p.sound
tree_of_puts {m} {f} {g} {r = Err e} p =
    part_of (record {
      part = p.stops.part;
      rest = p.stops.rest;
      split = p.stops.split;
      appended = p.stops.appended;
      cause = within m f g p.stops.part e
          p.stops.cause;
    })

-- the same write, of bytes that are equal
pub takes_as : {A : Type 0} {m : Bool} {bs cs : List ℕ} {a b : Option (List ℕ)} {f g : ℕ} {r : Result A ValueWriteError} → bs ≡ cs
    → TakesTree m bs a b f g r → TakesTree m cs a b f g r
takes_as {m} {a} {b} {f} {g} {r} e p = subst (λ l. TakesTree m l a b f g r) e p

later : (m : Bool) (f g h : ℕ) (bs part : List ℕ) (e : ValueWriteError) → g ≡ f → StopsWithin m g h part e → StopsWithin m f h (bs ++ part) e
later m f g h bs part (InvalidMarkerWrite fault) same c = c ∙ ap next_fault same
later m f g h bs part (InvalidDataWrite fault) same c = (omega (arith, length-append bs part), c.1 ∙ ap next_fault same)
later m f g h bs part OutOfMemory same c = (c.0 ∙ same, c.1)

-- one part was taken whole, and then another was written
pub takes_then : {A B : Type 0} {m : Bool} {bs cs : List ℕ} {a b c : Option (List ℕ)} {f g h : ℕ} {u : B} {r : Result A ValueWriteError}
    → TakesTree m bs a b f g (Ok u) → TakesTree m cs b c g h r → TakesTree m (bs ++ cs) a c f h r
takes_then {m} {bs} {cs} {a} {b} {c} {f} {g} {h} {r = Ok u} p q = all_of (Appends-trans a b c bs cs p.whole q.whole) (q.sound ∙ p.sound)
takes_then {m} {bs} {cs} {a} {b} {c} {f} {g} {h} {r = Err e} p q =
    part_of (record {
      part = bs ++ q.stops.part;
      rest = q.stops.rest;
      split = ap (λ l. bs ++ l) q.stops.split ∙ sym (append_assoc bs q.stops.part q.stops.rest);
      appended = Appends-trans a b c bs q.stops.part p.whole q.stops.appended;
      cause = later m f g h bs q.stops.part e p.sound q.stops.cause;
    })

-- one part was not taken whole, and more was to come
pub takes_stop : {A B : Type 0} {m : Bool} {bs : List ℕ} {a b : Option (List ℕ)} {f g : ℕ} {e : ValueWriteError} (cs : List ℕ)
    → TakesTree {A = A} m bs a b f g (Err e) → TakesTree {A = B} m (bs ++ cs) a b f g (Err e)
takes_stop cs p =
    part_of (record {
      part = p.stops.part;
      rest = p.stops.rest ++ cs;
      split = ap (λ l. l ++ cs) p.stops.split ∙ append_assoc p.stops.part p.stops.rest cs;
      appended = p.stops.appended;
      cause = p.stops.cause;
    })

-- ---- parts one after another

flat_map_split : {X : Type 0} (f : X → List ℕ) (xs : List X) (i : ℕ) (x : X) → i < length xs → x ≡ get_or xs i x
    → (flat_map f (take i xs) ++ f x) ++ flat_map f (drop (suc i) xs) ≡ flat_map f xs
flat_map_split f [] i x h e = absurd (omega arith)
flat_map_split f (y ∷ ys) zero x h e = ap (λ z. f z ++ flat_map f ys) e
flat_map_split f (y ∷ ys) (suc i) x h e =
    append_assoc (f y ++ flat_map f (take i ys)) (f x) (flat_map f (drop (suc i) ys))
    ∙ append_assoc (f y) (flat_map f (take i ys)) (f x ++ flat_map f (drop (suc i) ys))
    ∙ ap (λ l. f y ++ l) (sym (append_assoc (flat_map f (take i ys)) (f x) (flat_map f (drop (suc i) ys))) ∙ flat_map_split f ys i x (omega arith) e)

-- the parts before one were taken whole, and that one was not
pub takes_until : {X : Type 0} {A B : Type 0} {m : Bool} {a b c : Option (List ℕ)} {k g h : ℕ} {u : B} {e : ValueWriteError} (f : X
    → List ℕ) (xs : List X) (i : ℕ) (x : X) → i < length xs → x ≡ get_or xs i x
    → TakesTree m (flat_map f (take i xs)) a b k g (Ok u) → TakesTree {A = A} m (f x) b c g h (Err e) → TakesTree {A = A} m (flat_map f xs) a c k h (Err e)
takes_until f xs i x within is p q = takes_as (flat_map_split f xs i x within is) (takes_stop (flat_map f (drop (suc i) xs)) (takes_then p q))

-- an item within a row is there whatever comes after it
pub starts_in : {X : Type 0} (xs : List X) (i : ℕ) (d x : X) → i < length xs → x ≡ get_or xs i d → x ≡ get_or xs i x
starts_in [] i d x h e = absurd (omega arith)
starts_in (y ∷ ys) zero d x h e = e
starts_in (y ∷ ys) (suc i) d x h e = starts_in ys i d x (omega arith) e

flat_map_next : {X : Type 0} (f : X → List ℕ) (xs : List X) (i : ℕ) (d x : X) → i < length xs → x ≡ get_or xs i d
    → flat_map f (take i xs) ++ f x ≡ flat_map f (take (suc i) xs)
flat_map_next f [] i d x h e = absurd (omega arith)
flat_map_next f (y ∷ ys) zero d x h e = ap f e ∙ sym (append-nil (f y))
flat_map_next f (y ∷ ys) (suc i) d x h e =
    append_assoc (f y) (flat_map f (take i ys)) (f x) ∙ ap (λ l. f y ++ l) (flat_map_next f ys i d x (omega arith) e)

-- the parts before one were taken whole, and that one too
pub takes_next : {X : Type 0} {A B : Type 0} {m : Bool} {a b c : Option (List ℕ)} {k g h : ℕ} {u : B} {v : A} (f : X → List ℕ) (xs : List X)
    (i j : ℕ) (d x : X) → i < length xs → j ≡ suc i → x ≡ get_or xs i d → TakesTree m (flat_map f (take i xs)) a b k g (Ok u)
    → TakesTree {A = A} m (f x) b c g h (Ok v) → TakesTree {A = A} m (flat_map f (take j xs)) a c k h (Ok v)
takes_next f xs i j d x within n is p q =
    takes_as (flat_map_next f xs i d x within is ∙ ap (λ z. flat_map f (take z xs)) (sym n)) (takes_then p q)
