-- Arrays, from places that hold the elements of a list.
use Rattle.std.proofs.Common.{rules, ◌≡◌, ◌∙◌, sym, ap, subst, refl, inl, inr, ℕ, ◌+◌, ◌-◌, ◌<◌, ◌≤◌, arith, List, [], ◌∷◌, length, map, min, ◌*◌}
use Rattle.std.proofs.Common.{◌^◌, zero, suc}
use Rattle.std.proofs.Common.{◌⊎◌, Bool, true, false, Ok, Err, Option, Some, IsSome, All}
use native.Mathlib.Nat.{mul_comm}
use prog.Capped.{capped_is, capped_small}
use prog.Memory.{capped}
use Rattle.std.proofs.lemmas.Nat.{mul-le}
use Rattle.std.proofs.lemmas.List.Elements.{All-map}
use Rattle.std.proofs.lemmas.List.{take_all}
use Rattle.rmp_wire.specs.declared.source.Source.{Ghosts}
use Rattle.rmp_wire.specs.Msg.{Msg, no_items, count}
use Rattle.rmp_decode.specs.Arrays.{Exactly, HoldsFirst}
use Rattle.rmp_decode.specs.Inside.{access_at, TakesValues, ReadsRow, StopsRow}
use Rattle.rmp_decode.specs.Refusing.{Setting, Refusals, ReadsAs, setting_of, inside, RefusedIn, Wanted, Excess, AfterItems, EachRead, OneWanted}
use Rattle.rmp_decode.specs.Refusing.{RefusesTimes}
use Rattle.rmp_decode.specs.Rows.{ReadsEach}
use Rattle.rmp_decode.specs.Seq.{OfRow, SpellsIn, Opens, inner_of}
use Rattle.rmp_decode.specs.State.{left, faults_of}
use Rattle.rmp_decode.specs.declared.deserializer.Deserializer.{Deserializer}
use Rattle.rmp_decode.specs.declared.error.Error.{Error}
use Rattle.rmp_decode.specs.declared.error.Error.TheVariants.{LengthMismatch, OutOfMemory, Syntax}
use Rattle.rmp_decode.specs.declared.text.Text.TheVariants.{InvalidLength}
use Rattle.rmp_decode.proofs.Laws.{stays_refl}
use Rattle.rmp_decode.proofs.ListRefusals.{after_head}
use Rattle.rmp_decode.proofs.RowEnds.{count_each, after_values, element_of_list, row_unread}
use Rattle.rmp_decode.proofs.Rows.{append}
use Rattle.rmp_decode.proofs.Seqs.{each_next, count-append, run_start, seq_element, seq_done, seq_over, seq_unkept}

-- ---- places

-- each place holds a value
all_held : {V : Type 0} (vs : List V) (ps : List (Option V)) → map (λ v. Some v) vs ≡ ps → All (λ p. IsSome p) ps
all_held vs ps e = subst (All (λ p. IsSome p)) e (All-map (λ p. IsSome p) (λ v. Some v) vs (λ i d l. search rules))

-- places hold one list of values
same_values : {V : Type 0} (vs ws : List V) → map (λ v. Some v) vs ≡ map (λ v. Some v) ws → vs ≡ ws
same_values [] [] e = refl
same_values [] (w ∷ ws) e = absurd cc
same_values (v ∷ vs) [] e = absurd cc
same_values (v ∷ vs) (w ∷ ws) e =
    let head : v ≡ w = cc in
    let tail = same_values vs ws cc in
    cc

-- ---- how it is refused

module _ {R C V : Type 0} (g : Ghosts R) (human : Bool) (lends : Bool) (reads : Bool → Bool → Msg → V → Type 0) (P : Setting → Refusals)
    (start new d : Deserializer R C) (b : Bool) (all : ℕ) (o : Opens g d (access_at start b all all)) (n : ℕ) (e : Error) where
  i : Setting
  i = inside (setting_of human lends d) (inner_of (access_at start b all all))

  Then : ℕ → Option (List ℕ) → Error → Type 0
  Then = Wanted (RefusedIn b (P i) (faults_of g d) (faults_of g new))

  -- an element was wanted after these
  wanted : (mid : Deserializer R C) (still : ℕ) (vs : List V)
      → TakesValues g (reads human lends) (access_at start b all all) (access_at mid b still all) vs → length vs < n → Then still (left g mid) e
      → RefusesTimes n reads P (setting_of human lends d) (faults_of g d) (faults_of g new) (left g d) e
  unfolding i Then
  wanted mid still vs t l w = inr (after_head g human lends d (access_at start b all all) o (faults_of g new) e
      (λ b i many known e. OneWanted n reads P b i (faults_of g d) (faults_of g new) many known e
      ⊎ AfterItems (SpellsIn i.strict b) (λ ms. (count ms ≡ n) × EachRead reads i ms) i.room many (Excess n) known e)
      (inl (after_values g human lends reads start new d b all o mid still vs t (λ ms. (count ms < n) × EachRead reads i ms)
      (λ r. (let c = count_each (reads human lends) t.trees vs r in omega arith, (vs, r))) Then e w)))

  -- there was none
  none_there : (still : ℕ) (vs : List V) → TakesValues g (reads human lends) (access_at start b all all) (access_at new b still all) vs → length vs < n
      → still ≡ 0
      → e ≡ Syntax InvalidLength → RefusesTimes n reads P (setting_of human lends d) (faults_of g d) (faults_of g new) (left g d) e
  unfolding Then
  none_there still vs t l z q = wanted new still vs t l (inl (z, q))

  -- it was refused
  one_refused : (many : ℕ) → many ≤ n → StopsRow g human lends reads P false start b all many new e
      → RefusesTimes n reads P (setting_of human lends d) (faults_of g d) (faults_of g new) (left g d) e
  unfolding i Then
  one_refused many l w = elim w.why [
    | inl f ↦ wanted f.mid f.still f.values f.read (let fewer = f.fewer in omega arith)
        (inr (f.fails.some, element_of_list g human lends reads start new d b all o f.mid f.still f.values P f.read (λ K. K (left g f.mid) e) f.refused))
    | inr p ↦ absurd (let r = p.0 in cc)
  ]

  -- there are more elements than the array has
  more_there : (still : ℕ) (vs : List V) → TakesValues g (reads human lends) (access_at start b all all) (access_at new b still all) vs → length vs ≡ n
      → 0 < still
      → e ≡ LengthMismatch n → RefusesTimes n reads P (setting_of human lends d) (faults_of g d) (faults_of g new) (left g d) e
  unfolding i
  more_there still vs t l z q = inr (after_head g human lends d (access_at start b all all) o (faults_of g new) e
      (λ b i many known e. OneWanted n reads P b i (faults_of g d) (faults_of g new) many known e
      ⊎ AfterItems (SpellsIn i.strict b) (λ ms. (count ms ≡ n) × EachRead reads i ms) i.room many (Excess n) known e)
      (inr (after_values g human lends reads start new d b all o new still vs t (λ ms. (count ms ≡ n) × EachRead reads i ms)
      (λ r. (let c = count_each (reads human lends) t.trees vs r in omega (arith, c, l), (vs, r))) (Excess n) e (z, q))))

-- ---- what happened, each once: all that the read promises follows from it

-- as an array is refused that doesn't fit in memory where F holds
abbrev Refusal : {V : Type 0} → Type 0 → ℕ → (Bool → Bool → Msg → V → Type 0) → (Setting → Refusals) → Setting → Refusals
Refusal F n reads P s before after known e = (F × (e ≡ OutOfMemory)) ⊎ RefusesTimes n reads P s before after known e

module _ {R C V : Type 0} {g : Ghosts R} {human lends : Bool} {reads : Bool → Bool → Msg → V → Type 0} {start new : Deserializer R C} {b : Bool}
    {all n rest : ℕ} {ps : List (Option V)} (r : ReadsRow g human lends reads (HoldsFirst n) (min n) start b all new ps rest) where
  here : Msg → V → Type 0
  here = reads human lends

  each : ReadsEach here r.read.trees r.values
  unfolding here
  each = r.read.value

  -- as many were read
  read : length r.values + rest ≡ all
  read = let m = r.read.run.many in let c = count_each (reads human lends) r.read.trees r.values r.read.value in omega (arith, m, c)

  full : n ≤ all → rest ≤ 0 → map (λ v. Some v) r.values ≡ ps
  full l z = r.held.held ∙ take_all (length r.values) ps (let long = r.held.long in omega (arith, long, read, r.rest, l, z))

  -- each place was filled
  pub array_full : n ≤ all → rest ≤ 0 → All (λ p. IsSome p) ps
  array_full l z = all_held r.values ps (full l z)

  module _ {d : Deserializer R C} (F : Type 0) (P : Setting → Refusals) (o : Opens g d (access_at start b all all)) where
    -- and no more were to come
    pub array_done : n ≤ all → rest ≤ 0 → (v : List V) → map (λ w. Some w) v ≡ ps
        → ReadsAs g human lends true (λ m v. OfRow (Exactly n (reads human lends) v) m) (Refusal F n reads P) d new (Ok v)
    unfolding here
    array_done l z v q =
        let same = same_values r.values v (full l z ∙ sym q) in
        let whole : Exactly n here r.values r.read.trees = (omega (arith, read, r.rest, l, z), each) in
        record {
          law = seq_done g (Exactly n here) d (access_at start b all all) (access_at new b rest all) r.read.trees o r.read.run new v
              (subst (λ w. Exactly n here w r.read.trees) same whole) (omega (arith, z)) (ap (λ f. record new { failed = f }) r.ready);
          refused = λ _. tt;
          memory = λ _. tt;
        }

    -- there are more elements than the array has
    pub array_over : n ≤ all → 0 < rest → (e : Error) → e ≡ LengthMismatch (all - rest)
        → ReadsAs g human lends true (λ m v. OfRow (Exactly n (reads human lends) v) m) (Refusal F n reads P) d (record new { failed = true }) (Err e)
    unfolding here
    array_over l z e q =
        let same : all - rest ≡ n = omega (arith, r.rest, l) in
        record {
          law = seq_over g (Exactly n here) d (access_at start b all all) (access_at new b rest all) r.read.trees o r.read.run
              (record new { failed = true }) e z
              refl n (λ w ks x. count_each here ks w x.1 ∙ x.0) r.values (omega (arith, read, r.rest, l), each);
          refused = λ _. inr (more_there g human lends reads P start (record new { failed = true }) d b all o n e rest r.values r.read
              (omega (arith, read, r.rest, l)) z (q ∙ ap LengthMismatch same));
          memory = λ t. absurd (cc);
        }

    -- there are fewer
    pub array_wanted : all < n → (e : Error) → e ≡ Syntax InvalidLength
        → ReadsAs g human lends true (λ m v. OfRow (Exactly n (reads human lends) v) m) (Refusal F n reads P) d (record new { failed = true }) (Err e)
    unfolding here
    array_wanted l e q = record {
      law = seq_element g (Exactly n here) d (access_at start b all all) (access_at new b rest all) r.read.trees o r.read.run (record new { failed = true })
          here (access_at new b rest all) e (record { stays = stays_refl g (record new { failed = true }); err = inl (omega (arith, r.rest, l)) }) refl refl
          (λ m ks v x. each_next here r.read.trees m ks v x.1)
          (λ v x.
          let c = count_each here (append r.read.trees no_items) v x.1 in
          let k = count_each here r.read.trees r.values each in
          omega (arith, c, k, read, x.0, l, count-append r.read.trees no_items));
      refused = λ _. inr (none_there g human lends reads P start (record new { failed = true }) d b all o n e rest r.values r.read (omega (arith, read, l))
          (omega (arith, r.rest, l)) q);
      memory = λ t. absurd (cc);
    }

-- one was refused
pub array_stopped : {R C V : Type 0} {g : Ghosts R} {human lends : Bool} {reads : Bool → Bool → Msg → V → Type 0} {P : Setting → Refusals}
    {start new d : Deserializer R C} {b : Bool} {all : ℕ} {e : Error} (F : Type 0) (n : ℕ) → Opens g d (access_at start b all all)
    → StopsRow g human lends reads P false start b all (min n all) new e
    → ReadsAs g human lends true (λ m v. OfRow (Exactly n (reads human lends) v) m) (Refusal F n reads P) d new (Err e)
array_stopped {g} {human} {lends} {reads} {P} {start} {new} {d} {b} {all} {e} F n o w = record {
  law = row_unread o w (Exactly n (reads human lends)) (λ v ms h. (v, h.1));
  refused = λ _. inr (one_refused g human lends reads P start new d b all o n e (min n all) (omega arith) w);
  memory = λ t. absurd (cc);
}

-- it doesn't fit in memory
pub array_unfit : {R C V : Type 0} {g : Ghosts R} {human lends : Bool} {start d : Deserializer R C} {b : Bool} {all : ℕ} {F : Type 0}
    (reads : Bool → Bool → Msg → V → Type 0) (P : Setting → Refusals) (n : ℕ) → Opens g d (access_at start b all all) → F → start.failed ≡ true
    → ReadsAs g human lends true (λ m v. OfRow (Exactly n (reads human lends) v) m) (Refusal F n reads P) d start (Err OutOfMemory)
array_unfit {g} {human} {lends} {start} {d} {b} {all} reads P n o f failed = record {
  law = seq_unkept g (Exactly n (reads human lends)) d (access_at start b all all) (access_at start b all all) no_items o (run_start g _ o.opened) start
      (ap (λ z. record start { failed = z }) failed);
  refused = λ _. inl (f, refl);
  memory = λ t. absurd (cc);
}

-- ---- whether the places fit in memory, of which a word holds how long one is

same_word : (n k : ℕ) → k < 2 ^ 63 → capped k * n ≡ n * k
same_word n k l = ap (λ z. z * n) (capped_is k (omega (arith, l))) ∙ mul_comm k n

pub places_small : (n k size : ℕ) → size ≡ capped k * n → size < 2 ^ 63 → n * k < 2 ^ 63
places_small zero k size q l = omega arith
places_small (suc n) k size q l =
    let short : capped k < 2 ^ 63 = omega (arith, q, l, mul-le (capped k) 1 (capped k) (suc n) (omega arith) (omega arith)) in
    let same = same_word (suc n) k (capped_small k short) in
    omega (arith, same, q, l)

pub places_large : (n k : ℕ) → 2 ^ 63 ≤ capped k * n → n * k < 2 ^ 63 → ⊥
places_large zero k h l = omega (arith, h)
places_large (suc n) k h l =
    let short : k < 2 ^ 63 = omega (arith, l, mul-le 1 k (suc n) k (omega arith) (omega arith)) in
    let same = same_word (suc n) k short in
    omega (arith, same, h, l)
