-- What the read of a list says, from what the loop over its elements says.
use Rattle.std.proofs.Common.{◌≡◌, sym, ap, subst, refl, inl, inr, ◌⊎◌, arith, true, ℕ, ◌<◌, List, [], ◌∷◌, Option, Bool, Result, Ok, Err, length}
use Rattle.rmp_wire.specs.declared.source.Source.{Ghosts}
use Rattle.rmp_wire.specs.Msg.{Msg, Msgs, no_items, item, count}
use Rattle.rmp_decode.specs.Exact.{RefusesBy}
use Rattle.rmp_decode.specs.Inside.{access_at, TakesValues, ReadsRow, StopsRow, ListOf, values_of}
use Rattle.rmp_decode.specs.Law.{Lawful}
use Rattle.rmp_decode.specs.Refusing.{Setting, Refusals, ReadsAs, setting_of, inside, RefusedIn, ElementRefused, WhereSome, IsMemory, AfterItems}
use Rattle.rmp_decode.specs.Refusing.{EachRead, RefusesEach}
use Rattle.rmp_decode.specs.Rows.{ReadsEach}
use Rattle.rmp_decode.specs.Seq.{OfRow, not_seq, SpellsIn, SpellsRow, Opens, FailsToOpen, inner_of}
use Rattle.rmp_decode.specs.State.{left, faults_of, room_of}
use Rattle.rmp_decode.specs.declared.deserializer.Deserializer.{Deserializer}
use Rattle.rmp_decode.specs.declared.error.Error.{Error}
use Rattle.rmp_decode.specs.declared.error.Error.TheVariants.{OutOfMemory}
use Rattle.rmp_decode.proofs.Laws.{lawful_ok, lawful_err}
use Rattle.rmp_decode.proofs.ListRefusals.{after_head}
use Rattle.rmp_decode.proofs.Rows.{append}
use Rattle.rmp_decode.proofs.Seqs.{each_next, seq_done, seq_take, seq_unkept, seq_unopened}
use Rattle.rmp_decode.proofs.Settings.{element_after, after_opened}

-- as many values as items
pub count_each : {V : Type 0} (reads : Msg → V → Type 0) (ms : Msgs) (vs : List V) → ReadsEach reads ms vs → count ms ≡ length vs
count_each reads no_items [] r = refl
count_each reads no_items (v ∷ vs) r = absurd r
count_each reads (item m ms) [] r = absurd r
count_each reads (item m ms) (v ∷ vs) r = let i = count_each reads ms vs r.1 in omega arith

-- all of them were read, and then memory was short
pub row_full : {R C V W : Type 0} {g : Ghosts R} {human lends : Bool} {reads : Bool → Bool → Msg → V → Type 0} {holds : W → List V → Type 0}
    {start new : Deserializer R C} {b : Bool} {all : ℕ} {P : Setting → Refusals} {row : W} {rest : ℕ}
    → ReadsRow g human lends reads holds (λ n. n) start b all new row rest → 0 < all
    → StopsRow g human lends reads P true start b all all (record new { failed = true }) OutOfMemory
row_full {g} {human} {lends} {reads} {rest} r some = record {
  failed = refl;
  why = inr (
    refl,
    record {
      values = r.values;
      still = rest;
      read = r.read;
      some = let c = count_each (reads human lends) r.read.trees r.values r.read.value in let m = r.read.run.many in
          omega (arith, c, m, r.rest, some);
      memory = refl;
    },
  );
}

-- ---- after the head

module _ {R C V : Type 0} (g : Ghosts R) (human : Bool) (lends : Bool) (reads : Bool → Bool → Msg → V → Type 0) (start new d : Deserializer R C)
    (b : Bool) (all : ℕ) (o : Opens g d (access_at start b all all)) where
  -- after these values it is refused so
  pub after_values : (mid : Deserializer R C) (still : ℕ) (vs : List V)
      → (t : TakesValues g (reads human lends) (access_at start b all all) (access_at mid b still all) vs) → (Q : Msgs → Type 0)
      → (ReadsEach (reads human lends) t.trees vs → Q t.trees) → (F : ℕ → Option (List ℕ) → Error → Type 0) (e : Error) → F still (left g mid) e
      → AfterItems (SpellsIn d.strict b) Q (inner_of (access_at start b all all)) all F (left g start) e
  after_values mid still vs t Q q F e h = record {
    bytes = t.run.bytes;
    rest = left g mid;
    trees = t.trees;
    still = still;
    takes = t.run.takes;
    spelled = subst (λ z. SpellsRow (SpellsIn z b) t.run.bytes t.trees) o.stays.strict t.run.spelled;
    many = t.run.many;
    fits = t.run.fits;
    holds = q t.value;
    refused = h;
  }

  -- the next element was refused, as it is told of the whole list
  pub element_of_list : (mid : Deserializer R C) (still : ℕ) (vs : List V) (P : Setting → Refusals)
      → (t : TakesValues g (reads human lends) (access_at start b all all) (access_at mid b still all) vs)
      → (F : (Option (List ℕ) → Error → Type 0) → Type 0)
      → F (ElementRefused g human lends P (access_at mid b still all) (access_at new b still all))
      → F (RefusedIn b (P (inside (setting_of human lends d) (inner_of (access_at start b all all)))) (faults_of g d) (faults_of g new))
  element_of_list mid still vs P t F w =
      let h = element_after g human lends (access_at start b all all) (access_at mid b still all) t.trees t.run F P (access_at new b still all) w in
      after_opened g human lends d (access_at start b all all) (access_at new b still all) o (faults_of g new) refl (λ i a z. F (RefusedIn b (P i) a z)) h

-- ---- what happened, each once: all that the read promises follows from it

module _ {R C V W : Type 0} {g : Ghosts R} {human lends : Bool} {reads : Bool → Bool → Msg → V
    → Type 0} {start new d : Deserializer R C} {b : Bool} {all : ℕ}
    (o : Opens g d (access_at start b all all)) where
  -- the elements were read of a list that has no others
  pub row_done : {X : Type 0} {holds : W → List V → Type 0} {row : W} {rest : ℕ} {P : Setting → Refusals}
      → (r : ReadsRow g human lends reads holds (λ n. n) start b all new row rest) → (Q : X → Msgs → Type 0) (x : X) → Q x r.read.trees
      → ReadsAs g human lends true (λ m y. OfRow (Q y) m) P d new (Ok x)
  row_done {rest} r Q x q = record {
    law = seq_done g Q d (access_at start b all all) (access_at new b rest all) r.read.trees o r.read.run new x q (let z = r.rest in omega (arith, z))
        (ap (λ f. record new { failed = f }) r.ready);
    refused = λ _. tt;
    memory = λ _. tt;
  }

module _ {R C V X : Type 0} {g : Ghosts R} {human lends : Bool} {reads : Bool → Bool → Msg → V → Type 0} {P : Setting → Refusals} {grows : Bool}
    {start new d : Deserializer R C} {b : Bool} {all many : ℕ} {e : Error} (o : Opens g d (access_at start b all all))
    (w : StopsRow g human lends reads P grows start b all many new e) where
  -- no list is there whose elements are read as some values, and so none of which Q holds
  pub row_unread : (Q : X → Msgs → Type 0) → ((x : X) (ms : Msgs) → Q x ms → EachRead reads (setting_of human lends d) ms)
      → Lawful g (λ m x. OfRow (Q x) m) d new (Err e)
  row_unread Q proj = elim w.why [
    | inl f ↦ seq_take g Q d (access_at start b all all) (access_at f.mid b f.still all) f.read.trees o f.read.run new (reads human lends)
        (access_at new b f.still all) e f.fails refl same
        (λ m ks x h. let p = proj x (append f.read.trees (item m ks)) h in each_next (reads human lends) f.read.trees m ks p.0 p.1)
    | inr p ↦ subst (λ x. Lawful g (λ m v. OfRow (Q v) m) d new (Err x)) (sym p.1.memory)
        (seq_unkept g Q d (access_at start b all all) (access_at new b p.1.still all) p.1.read.trees o p.1.read.run new same)
  ]
    where
      same : new ≡ record new { failed = true }
      same = ap (λ f. record new { failed = f }) w.failed

  -- one was refused, or memory was short
  pub row_stopped : (Q : X → Msgs → Type 0) → ((x : X) (ms : Msgs) → Q x ms → EachRead reads (setting_of human lends d) ms)
      → ReadsAs g human lends true (λ m x. OfRow (Q x) m) (RefusesEach reads P) d new (Err e)
  row_stopped Q proj = record {
    law = row_unread Q proj;
    refused = λ _. inr (after_head g human lends d (access_at start b all all) o (faults_of g new) e
        (λ b i n known e. AfterItems (SpellsIn i.strict b) (EachRead reads i) i.room n (WhereSome (RefusedIn b (P i) (faults_of g d) (faults_of g new)))
        known e
        ⊎ AfterItems (SpellsIn i.strict b) (λ ms. (0 < count ms) × EachRead reads i ms) i.room n IsMemory known e)
        (elim w.why [
          | inl f ↦ inl (after_values g human lends reads start new d b all o f.mid f.still f.values f.read (EachRead reads i) (λ r. (f.values, r))
              (WhereSome (RefusedIn b (P i) (faults_of g d) (faults_of g new))) e
              (f.fails.some, element_of_list g human lends reads start new d b all o f.mid f.still f.values P f.read (λ K. K (left g f.mid) e) f.refused))
          | inr p ↦ inr (after_values g human lends reads start new d b all o new p.1.still p.1.values p.1.read (λ ms. (0 < count ms) × EachRead reads i ms)
              (λ r. (
                let c = count_each (reads human lends) p.1.read.trees p.1.values r in let some = p.1.some in omega (arith, c, some),
                (p.1.values, r),
              )) IsMemory e p.1.memory)
        ]));
    memory = λ t. absurd (cc);
  }
    where
      i : Setting
      i = inside (setting_of human lends d) (inner_of (access_at start b all all))

-- no list could be opened
pub row_unopened : {R C X : Type 0} {g : Ghosts R} {human lends : Bool} {P : Setting → Refusals} {old new : Deserializer R C} {e : Error} (Q : X → Msgs
    → Type 0)
    → FailsToOpen g old new e → (RefusesBy old.strict (not_seq (room_of old)) (faults_of g old) (faults_of g new) (left g old) e
    → P (setting_of human lends old) (faults_of g old) (faults_of g new) (left g old) e)
    → ReadsAs g human lends true (λ m x. OfRow (Q x) m) P old new (Err e)
row_unopened {g} {old} {new} {e} Q f why =
    record { law = seq_unopened g Q old new e f; refused = λ o. why (f.exact o); memory = λ t. absurd (cc) }

-- what was read as a list of values is read as what has them
pub of_values : {R C V X : Type 0} {g : Ghosts R} {human lends : Bool} {P : Setting → Refusals} {old new : Deserializer R C} (reads : Msg → V → Type 0)
    (items : X → List V) (r : Result X Error) → ReadsAs g human lends true (ListOf reads) P old new (values_of items r)
    → ReadsAs g human lends true (λ m x. ListOf reads m (items x)) P old new r
of_values {g} reads items (Ok x) h =
    record { law = lawful_ok g (ListOf reads) (λ m y. ListOf reads m (items y)) _ _ (items x) x (λ m k. k) h.law; refused = λ _. tt; memory = λ _. tt }
of_values {g} reads items (Err e) h =
    record { law = lawful_err g (ListOf reads) _ _ _ _ (λ m k. (items k.0, k.1)) h.law; refused = h.refused; memory = h.memory }
