-- What was opened has written, step by step, whatever compound holds it.
use Rattle.std.proofs.Common.{◌≡◌, ℕ, ◌+◌, ◌<◌, ◌≤◌, List, [], ◌∷◌, ◌++◌, length, map, drop, get_or, drop_of_length-le, Bool, true, Option, refl, sym}
use Rattle.std.proofs.Common.{◌∙◌, ap, subst, append_assoc, append-nil}
use Rattle.std.specs.Prelude.{Result, Ok, Err, OnOk, OnErr, IfErr, IsTrue, MatchResult}
use Rattle.std.specs.List.{flat_map, AllByRecursion}
use Rattle.std.proofs.lemmas.List.{flat_map_more, drop_more}
use Rattle.std.proofs.lemmas.Grind.{flat_map-append}
use Rattle.rmp_wire.specs.Msg.{Msg}
use Rattle.rmp_wire.specs.declared.sink.Sink.{Ghosts}
use Rattle.rmp_encode.specs.declared.settings.Settings.{Settings}
use Rattle.rmp_encode.specs.declared.serializer.Serializer.{Serializer}
use Rattle.rmp_encode.specs.declared.error.Error.{Error}
use Rattle.rmp_encode.specs.declared.error.Error.TheVariants.{InvalidValueWrite, UnknownLength, InvalidDataModel, DepthLimitExceeded, Syntax, OutOfMemory}
use Rattle.rmp_encode.specs.Data.{Data}
use Rattle.rmp_encode.specs.Errors.{IsTooLong}
use Rattle.rmp_encode.specs.Going.{IsMadeOf, IsWriting, Begins, Goes, FailsToOpen}
use Rattle.rmp_encode.specs.Ser.{sink_of, settings_of}
use Rattle.rmp_encode.specs.Trees.{Has, HasTree, spell, spelling, tree_of}
use Rattle.rmp_encode.specs.Writes.{FailsBy, Keeps, StaysAtRefusal, WritesPart, WritesTree}
use Rattle.rmp_encode.proofs.Parts.{part_as, part_any, part_then, part_stops, part_refused, part_takes}

module _ {X : Type 0} (P : X → Type 0) where
  pub all_append : (xs ys : List X) → AllByRecursion P xs → AllByRecursion P ys → AllByRecursion P (xs ++ ys)
  all_append [] ys p q = q
  all_append (x ∷ xs) ys p q = (p.0, all_append xs ys p.1 q)

  pub all_front : (xs ys : List X) → AllByRecursion P (xs ++ ys) → AllByRecursion P xs
  all_front [] ys p = tt
  all_front (x ∷ xs) ys p = (p.0, all_front xs ys p.1)

  pub all_back : (xs ys : List X) → AllByRecursion P (xs ++ ys) → AllByRecursion P ys
  all_back [] ys p = p
  all_back (x ∷ xs) ys p = all_back xs ys p.1

-- the parts from an index on
module _ {X Y : Type 0} (f : X → Y) where
  pub map_rest : (xs : List X) (i : ℕ) (x : X) → i < length xs → x ≡ get_or xs i x → map f (drop i xs) ≡ f x ∷ map f (drop (i + 1) xs)
  map_rest xs i x lt is = ap (map f) (drop_more xs i x lt) ∙ ap (λ y. f y ∷ map f (drop (i + 1) xs)) (sym is)

  pub map_rest_none : (xs : List X) (i : ℕ) → length xs ≤ i → map f (drop i xs) ≡ []
  map_rest_none xs i le = ap (map f) (drop_of_length-le xs le)

-- a fact that holds in any case
pub on_ok : {A E P : Type 0} (r : Result A E) → P → OnOk r P
on_ok (Ok x) p = p
on_ok (Err e) p = tt

module _ {W C : Type 0} (g : Ghosts W) where
  pub keeps_then : {a b c : Serializer W C} → Keeps g a b → Keeps g b c → Keeps g a c
  keeps_then p q = record { settings = q.settings ∙ p.settings; place = q.place ∙ p.place }

  pub keeps_last : {a b c : Serializer W C} → c ≡ b → Keeps g a b → Keeps g a c
  keeps_last {a} {b} {c} e k = subst (λ l. Keeps g a l) (sym e) k

-- what a tree is made of
pub made_as : {s : Settings} {t t' : Option Msg} {P : Type 0} {head : List ℕ} {parts : List (Option Data)} → t ≡ t' → IsMadeOf s t' P head parts
    → IsMadeOf s t P head parts
made_as {s} {t} {t'} {P} {head} {parts} e h = subst (λ x. IsMadeOf s x P head parts) (sym e) h

pub made_sure : {s : Settings} {t : Option Msg} {P : Type 0} {head : List ℕ} {parts : List (Option Data)} → P → IsMadeOf s t P head parts
    → IsMadeOf s t (Unit {0}) head parts
made_sure p h = record { may = λ _ a. h.may p a; can = λ a. (tt, (h.can a).1); text = h.text }

pub made_of : {s : Settings} {t : Option Msg} {P : Type 0} {head : List ℕ} {parts parts' : List (Option Data)} → parts ≡ parts' → IsMadeOf s t P head parts
    → IsMadeOf s t P head parts'
made_of {s} {t} {P} {head} {parts} {parts'} e h = subst (IsMadeOf s t P head) e h

module _ {W : Type 0} (g : Ghosts W) where
  -- its head and all of its parts were written, or the last of them failed
  pub made_ended : {m : Bool} (s : Settings) (t : Option Msg) {head : List ℕ} {parts : List (Option Data)} {old new : W} {r : Result (Unit {0}) Error}
      → IsMadeOf s t (Unit {0}) head parts
      → WritesPart g m (AllByRecursion (Has s) parts) (head ++ flat_map (spelling s) parts) old new r → WritesTree g m t old new r
  made_ended s t h w = part_as g (λ x. x) (h.may tt) (λ a. (h.can a).1) h.text w

  -- its head or some part of it failed
  pub made_stopped : {m : Bool} (s : Settings) (t : Option Msg) {head : List ℕ} (front rest : List (Option Data)) {old new : W} {e : Error}
      → IsMadeOf s t (Unit {0}) head (front ++ rest)
      → WritesPart g {A = Unit {0}} m (AllByRecursion (Has s) front) (head ++ flat_map (spelling s) front) old new (Err e)
      → WritesTree g {A = Unit {0}} m t old new (Err e)
  made_stopped s t {head} front rest h w =
      made_ended s t h (part_as g (λ x. x) (λ a. all_append (Has s) front rest a.0 a.1)
      (λ a. (all_front (Has s) front rest a, all_back (Has s) front rest a))
      (λ _. append_assoc head (flat_map (spelling s) front) (flat_map (spelling s) rest)
      ∙ ap (λ l. head ++ l) (sym (flat_map-append (spelling s) front rest)))
      (part_stops g {B = Unit {0}} {Q = AllByRecursion (Has s) rest} (flat_map (spelling s) rest) w))

  -- what becomes of it, where memory may be taken if it may be taken here
  pub going_more : (S : Type 0) (t : Option Msg) (first last : W) (r : Result (Unit {0}) Error) {m n : Bool} → (IsTrue m → IsTrue n)
      → MatchResult r (λ _. S) (λ e. WritesTree g {A = Unit {0}} m t first last (Err e))
      → MatchResult r (λ _. S) (λ e. WritesTree g {A = Unit {0}} n t first last (Err e))
  going_more S t first last (Ok u) f h = h
  going_more S t first last (Err e) {m} {n} f h = part_takes g n f h

module _ {W C : Type 0} (g : Ghosts W) where
  -- the head was written, or failed
  pub begins : {P : Type 0} (head : List ℕ) (old now : Serializer W C) (r : Result (Unit {0}) Error) → P → Keeps g old now
      → WritesPart g g.takes_memory (Unit {0}) head (sink_of old) (sink_of now) r → Begins g P head old now r
  begins head old now (Ok u) p k w = λ t parts h. record {
    head = head;
    front = [];
    made = made_sure p h;
    keeps = k;
    writes = part_as g (λ _. refl) (λ _. tt) (λ _. tt) (λ _. sym (append-nil head))
        (part_any g true tt w);
  }
  begins head old now (Err e) p k w = λ t parts h. made_stopped g (settings_of old) t [] parts (made_sure p h)
      (part_as g (λ x. x) (λ _. tt) (λ _. tt) (λ _. sym (append-nil head)) w)

  -- what is too long is refused
  pub begins_not : {P : Type 0} (head : List ℕ) (old : Serializer W C) (e : Error) → IsTooLong e → ¬ P → Begins g P head old old (Err e)
  begins_not head old e is not = λ t parts h. part_refused g g.takes_memory (HasTree t) (spell t) (sink_of old) e is (λ a. not (h.can a).0)

  -- what was written before, and then one part
  with_next : (m : Bool) (d : Settings → Option Data) {now : Serializer W C} (now' : Serializer W C) {r : Result (Unit {0}) Error} {old : Serializer W C}
      {t : Option Msg} {rest : List (Option Data)} (h : IsWriting g old t (d (settings_of old) ∷ rest) now)
      → WritesTree g m (tree_of (settings_of now) (d (settings_of now))) (sink_of now) (sink_of now') r
      → WritesPart g m (AllByRecursion (Has (settings_of old)) (h.front ++ d (settings_of old) ∷ []))
      (h.head ++ flat_map (spelling (settings_of old)) (h.front ++ d (settings_of old) ∷ [])) (sink_of old) (sink_of now') r
  with_next m d {now} now' {r} {old} {t} {rest} h w =
      let s = settings_of old in
      let w' : WritesPart g m (Has s (d s)) (spelling s (d s)) (sink_of now) (sink_of now') r = subst
      (λ z. WritesPart g m (Has z (d z)) (spelling z (d z)) (sink_of now) (sink_of now') r) h.keeps.settings w in
      part_as g (λ x. x) (λ p. all_append (Has s) h.front (d s ∷ []) p.0 (p.1, tt))
      (λ a. (all_front (Has s) h.front (d s ∷ []) a, (all_back (Has s) h.front (d s ∷ []) a).0)) (λ _. flat_map_more (spelling s) h.head h.front (d s))
      (part_then g (part_any g m (tt {0}) h.writes) w')

  -- a part was written, or failed
  pub goes : (m : Settings → Bool) (d : Settings → Option Data) (now now' : Serializer W C) (r : Result (Unit {0}) Error) → Keeps g now now'
      → WritesTree g (m (settings_of now)) (tree_of (settings_of now) (d (settings_of now))) (sink_of now) (sink_of now') r
      → Goes g (IsWriting g) (λ n. n) m (λ s. d s ∷ []) now now' r
  goes m d now now' (Ok u) k w old t rest h = record {
    head = h.head;
    front = h.front ++ d (settings_of old) ∷ [];
    made = made_of (sym (append_assoc h.front (d (settings_of old) ∷ []) rest)) h.made;
    keeps = keeps_then g h.keeps k;
    writes = with_next true d now' h (part_any g true (tt {0}) w);
  }
  goes m d now now' (Err e) k w old t rest h =
      made_stopped g (settings_of old) t (h.front ++ d (settings_of old) ∷ []) rest
      (made_of (sym (append_assoc h.front (d (settings_of old) ∷ []) rest)) h.made)
      (with_next (m (settings_of old)) d now' h (subst (λ z. WritesTree g {A = Unit {0}} (m z) (tree_of (settings_of now) (d (settings_of now)))
      (sink_of now) (sink_of now') (Err e)) h.keeps.settings w))

  -- nothing remains
  pub closes : (m : Bool) (old : Serializer W C) (t : Option Msg) (now : Serializer W C) (u : Unit {0}) → IsWriting g old t [] now
      → WritesTree g m t (sink_of old) (sink_of now) (Ok u)
  closes m old t now u h = made_ended g (settings_of old) t (made_of (append-nil h.front) h.made) (part_any g m u h.writes)

  -- the same parts remain
  pub still_written : {old : Serializer W C} {t : Option Msg} {some rest : List (Option Data)} {now : Serializer W C} → some ≡ rest
      → IsWriting g old t some now → IsWriting g old t rest now
  still_written {old} {t} {some} {rest} {now} e h = subst (λ l. IsWriting g old t l now) e h

  pub none_next : {m : Bool} (old : Serializer W C) (t : Option Msg) (rest : List (Option Data)) (now : Serializer W C) (u : Unit {0}) → rest ≡ []
      → IsWriting g old t rest now → WritesTree g m t (sink_of old) (sink_of now) (Ok u)
  none_next {m} old t rest now u e h = closes m old t now u (still_written e h)

  -- all that remained was written, or some of it failed
  pub all_written : (m : Settings → Bool) (parts : Settings → List (Option Data)) (now now' : Serializer W C) (r : Result (Unit {0}) Error)
      → Goes g (IsWriting g) (λ n. n) m parts now now' r
      → (old : Serializer W C) (t : Option Msg) → IsWriting g old t (parts (settings_of old)) now
      → WritesTree g (m (settings_of old)) t (sink_of old) (sink_of now') r
  all_written m parts now now' (Ok u) w old t h = closes (m (settings_of old)) old t now' u
      (w old t [] (still_written (sym (append-nil (parts (settings_of old)))) h))
  all_written m parts now now' (Err e) w old t h = w old t [] (still_written (sym (append-nil (parts (settings_of old)))) h)

  -- nothing was opened: what is known of that
  pub failed_to_open : {A X : Type 0} {items : List (List ℕ)} {P : Type 0} {may : X → Type 0} {value : X → Option Data} {old last : Serializer W C}
      (r : Result A Error) (e : Error) → r ≡ Err e → OnErr r (FailsToOpen g items P may value old r last) → FailsToOpen g {A = A} items P may value old (Err e) last
  failed_to_open {items = items} {P = P} {may = may} {value = value} {old = old} {last = last} r e is h =
      subst (λ k. OnErr k (FailsToOpen g items P may value old k last)) is h

  pub unopened : {A X : Type 0} (items : List (List ℕ)) (P : Type 0) (may : X → Type 0) (value : X
      → Option Data) (old last : Serializer W C) (all : X) (r : Result A Error) (e : Error) → r ≡ Err e → OnErr r (FailsToOpen g items P may value old r last)
      → may all
      → WritesTree g {A = Unit {0}} g.takes_memory (tree_of (settings_of old) (value all)) (sink_of old) (sink_of last) (Err e)
  unopened {A} {X} items P may value old last all r e is h l =
      let f : FailsToOpen g {A = A} items P may value old (Err e) last = subst (λ k. OnErr k (FailsToOpen g items P may value old k last)) is h in
      f.writes all l

-- what can't be refused isn't
pub never_refused : {S : Type 0} (m : Bool) (n k : ℕ) (old new : S) (e : Error) → FailsBy m (Unit {0}) n k e → StaysAtRefusal {A = Unit {0}} old new (Err e)
never_refused m n k old new (InvalidValueWrite e) h = tt
never_refused m n k old new UnknownLength h = tt
never_refused m n k old new (InvalidDataModel t) h = absurd (h.1 tt)
never_refused m n k old new DepthLimitExceeded h = tt
never_refused m n k old new (Syntax t) h = tt
never_refused m n k old new OutOfMemory h = tt

pub never_refused_by : {S : Type 0} (m : Bool) (n k : ℕ) (old new : S) (r : Result (Unit {0}) Error) → IfErr r (FailsBy m (Unit {0}) n k)
    → StaysAtRefusal old new r
never_refused_by m n k old new (Ok u) h = tt
never_refused_by m n k old new (Err e) h = never_refused m n k old new e h

-- what is refused for its length leaves all as it was
pub stays_refused : {S : Type 0} (old : S) (e : Error) → IsTooLong e → StaysAtRefusal {A = Unit {0}} old old (Err e)
stays_refused old (InvalidDataModel t) is = (is, refl)
stays_refused old (InvalidValueWrite e) is = absurd is
stays_refused old UnknownLength is = absurd is
stays_refused old DepthLimitExceeded is = absurd is
stays_refused old (Syntax t) is = absurd is
stays_refused old OutOfMemory is = absurd is
