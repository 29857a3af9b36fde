-- What the read of a list says, from what its opening, its elements and its end say.
use Rattle.std.proofs.Common.{◌≡◌, ◌∙◌, sym, ap, subst, refl, ℕ, suc, ◌+◌, ◌<◌, inl, inr, max, arith, List, [], ◌∷◌, ◌++◌, true, false, Ok, Err}
use Rattle.std.proofs.Common.{append_assoc}
use Rattle.std.proofs.KnownBytes.{Consumes-nil, Consumes-trans}
use Rattle.rmp_wire.specs.declared.source.Source.{Ghosts}
use Rattle.rmp_wire.specs.Msg.{Msg, Msgs, no_items, item, count}
use Rattle.rmp_wire.specs.Canonical.{SpellsAs}
use Rattle.rmp_decode.specs.Law.{Refuses, Readable, Explains, Lawful}
use Rattle.rmp_decode.specs.Seq.{OfRow, IsSeq, not_seq, SpellsIn, SpellsRow, RefusesRow, inner_of, IsOpen, Opens, FailsToOpen, TakesElement}
use Rattle.rmp_decode.specs.Seq.{FailsToTake, FailsElement, Run, FailsParts}
use Rattle.rmp_decode.specs.State.{left, faults_of, room_of, kept_bytes, Stays}
use Rattle.rmp_decode.specs.Rows.{ReadsEach, AndThen, NoMore}
use Rattle.rmp_decode.specs.declared.deserializer.Deserializer.{Deserializer}
use Rattle.rmp_decode.specs.declared.access.seq.SeqAccess.{SeqAccess}
use Rattle.rmp_decode.specs.declared.error.Error.{Error}
use Rattle.rmp_decode.specs.declared.error.Error.TheVariants.{OutOfMemory}
use Rattle.rmp_decode.proofs.Laws.{stays_refl, stays_then, refused, unopened}
use Rattle.rmp_decode.proofs.NothingAccepted.{refuses_narrower}
use Rattle.rmp_decode.proofs.Rows.{push, append, count-push, depth-push, row-push, rest_refused, element_refused, count_refused, row_whole, whole_row}
use Rattle.rmp_decode.proofs.Rows.{readable_row, is_seq}

-- a chain through what is named
pub via : {A : Type 0} {x z : A} (y : A) → x ≡ y → y ≡ z → x ≡ z
via y p q = p ∙ q

pub run_start : {R C : Type 0} (g : Ghosts R) (s : SeqAccess R C) → IsOpen s → Run g s s no_items
run_start g s o = record {
  bytes = [];
  takes = Consumes-nil (left g s.de.now);
  spelled = refl;
  fits = omega arith;
  many = omega arith;
  same_reference = refl;
  count_same = refl;
  inner = refl;
  bytes_same = refl;
  stays = stays_refl g s.de.now;
  faults_same = refl;
  still = o;
}

pub run_step : {R C V : Type 0} (g : Ghosts R) (reads : Msg → V → Type 0) (start mid now : SeqAccess R C) (ms : Msgs) (v : V) → Run g start mid ms
    → (t : TakesElement g reads mid now v) → now.de.ghost_name ≡ mid.de.ghost_name → Run g start now (push ms t.tree)
run_step g reads start mid now ms v r t n =
    let room : mid.inner ≡ start.inner = r.inner in
    record {
      bytes = r.bytes ++ t.bytes;
      takes = Consumes-trans _ _ _ r.bytes t.bytes r.takes t.takes;
      spelled = row-push (SpellsIn start.de.now.strict start.bytes) ms t.tree r.bytes t.bytes r.spelled
          (subst (λ z. SpellsIn z start.bytes t.bytes t.tree) r.stays.strict
          (subst (λ z. SpellsIn mid.de.now.strict z t.bytes t.tree) r.bytes_same t.spelled));
      fits = depth-push ms t.tree (inner_of start) r.fits (omega (arith, room, t.fits));
      many = omega (arith, count-push ms t.tree, r.many, t.fewer);
      same_reference = n ∙ r.same_reference;
      count_same = t.count ∙ r.count_same;
      inner = t.inner ∙ r.inner;
      bytes_same = t.bytes_same ∙ r.bytes_same;
      stays = stays_then g start.de.now mid.de.now now.de.now r.stays t.stays;
      faults_same = t.faults_same ∙ r.faults_same;
      still = t.still;
    }

-- after these elements no row is to come of which Q holds, since there is no element that would do, or none at all
none_follows : {R C V A : Type 0} (g : Ghosts R) (Q : V → Msgs → Type 0) (start mid : SeqAccess R C) (ms : Msgs) → Run g start mid ms
    → (reads : Msg → A → Type 0)
    (now : SeqAccess R C) (e : Error) → FailsElement g reads mid now e → ((m : Msg) (ks : Msgs) (v : V) → Q v (append ms (item m ks)) → Readable reads m)
    → (mid.left ≡ 0 → (v : V) → Q v (append ms no_items) → ⊥) → Explains e (faults_of g mid.de.now) (faults_of g now.de.now)
    (RefusesRow (SpellsIn start.de.now.strict start.bytes) (λ ks. (v : V) × Q v (append ms ks)) (inner_of start) mid.left (left g mid.de.now))
none_follows {V} g Q start mid ms r reads now e f proj some = λ n k. elim f.err [
  | inl z ↦ count_refused (SpellsIn start.de.now.strict start.bytes) (λ ks. (v : V) × Q v (append ms ks)) (inner_of start) mid.left (left g mid.de.now)
      (none_left (some z) z)
  | inr p ↦
      let rs = subst (λ z. Refuses (SpellsIn z mid.bytes) (Readable reads) (inner_of mid) (left g mid.de.now)) r.stays.strict (p.1 n k) in
      let r1 = subst (λ z. Refuses (SpellsIn start.de.now.strict z) (Readable reads) (inner_of mid) (left g mid.de.now)) r.bytes_same rs in
      let r2 = subst (λ z. Refuses (SpellsIn start.de.now.strict start.bytes) (Readable reads) (max 1 z) (left g mid.de.now)) r.inner r1 in
      element_refused (SpellsIn start.de.now.strict start.bytes) (λ ks. (v : V) × Q v (append ms ks)) (Readable reads) (inner_of start) mid.left
      (left g mid.de.now) p.0 (λ m ks h. proj m ks h.0 h.1) r2
]
  where
    none_left : ((v : V) → Q v (append ms no_items) → ⊥) → mid.left ≡ 0 → (ks : Msgs) → (v : V) × Q v (append ms ks) → count ks ≡ mid.left → ⊥
    none_left f z no_items h c = f h.0 h.1
    none_left f z (item m ks) h c = omega arith

module _ {R C V : Type 0} (g : Ghosts R) (Q : V → Msgs → Type 0) (old : Deserializer R C) where
  pub seq_unopened : (last : Deserializer R C) (e : Error) → FailsToOpen g old last e → Lawful g (λ m v. OfRow (Q v) m) old last (Err e)
  seq_unopened last e f = unopened g (λ m v. OfRow (Q v) m) IsSeq not_seq old last e f (is_seq Q)

  module _ (start mid : SeqAccess R C) (ms : Msgs) (o : Opens g old start) (r : Run g start mid ms) (last : Deserializer R C) where
    -- the list is whole
    pub seq_done : (v : V) → Q v ms → mid.left ≡ 0 → last ≡ record mid.de.now { failed = false } → Lawful g (λ m v. OfRow (Q v) m) old last (Ok v)
    seq_done v q z e =
        let many : count ms ≡ start.left = omega (arith, r.many) in
        let w = whole_row old.strict start.bytes (Q v) ms start.left o.head.bytes r.bytes o.head.is_head
        (subst (λ z. SpellsRow (SpellsIn z start.bytes) r.bytes ms) o.stays.strict r.spelled) many q in
        rw e (record {
          ok = record {
            bytes = o.head.bytes ++ r.bytes;
            tree = w.tree;
            takes = Consumes-trans _ _ _ o.head.bytes r.bytes o.head.takes r.takes;
            goes_on = record {
              more = o.head.goes_on.more ++ r.bytes;
              whole = ap (λ t. t ++ r.bytes) o.head.goes_on.whole
                  ∙ append_assoc (kept_bytes old.kept) o.head.goes_on.more r.bytes;
            };
            spelled = w.spelled;
            fits = omega (arith, w.fits, r.fits, o.room);
            value = w.holds;
          };
          ready = refl;
          clean = r.still.clean;
          sound = r.faults_same ∙ o.faults_same;
          err = λ _. tt;
          failed = tt;
          before = λ h. absurd (let f = o.fresh in cc);
          stays = record {
            config = r.stays.config ∙ o.stays.config;
            room = r.stays.room ∙ o.stays.room;
            limit = r.stays.limit ∙ o.stays.limit;
            strict = r.stays.strict
                ∙ o.stays.strict;
            place = r.stays.place ∙ o.stays.place;
          };
        })

    -- none of the elements that are to come would do
    pub seq_refused : (e : Error) → Stays g mid.de.now last → last.failed ≡ true
        → Explains e (faults_of g mid.de.now) (faults_of g last)
        (RefusesRow (SpellsIn start.de.now.strict start.bytes) (λ ks. (v : V) × Q v (append ms ks)) (inner_of start) mid.left (left g mid.de.now))
        → Lawful g (λ m v. OfRow (Q v) m) old last (Err e)
    seq_refused e s f x = refused g (λ m v. OfRow (Q v) m) old last e o.fresh f
        (stays_then g old start.de.now last o.stays (stays_then g start.de.now mid.de.now last r.stays s))
        (λ n k.
        let rest = x n (k ∙ sym o.faults_same ∙ sym r.faults_same) in
        let row = rest_refused start.de.now.strict start.bytes (λ ks. (v : V) × Q v ks) (inner_of start) mid.left start.left (left g start.de.now)
        (left g mid.de.now) ms r.bytes r.takes r.spelled r.many rest in
        refuses_narrower (SpellsAs old.strict) (OfRow (λ ks. (v : V) × Q v ks)) _ _ _ (readable_row Q)
        (row_whole old.strict start.bytes (λ ks. (v : V) × Q v ks) (room_of old) (inner_of start) start.left (left g old) (left g start.de.now)
        o.head.bytes o.head.takes o.head.is_head o.room (omega arith)
        (subst (λ z. RefusesRow (SpellsIn z start.bytes) (λ ks. (v : V) × Q v ks) (inner_of start) start.left (left g start.de.now)) o.stays.strict row)))

    -- memory was short
    pub seq_unkept : last ≡ mid.de.now → Lawful g (λ m v. OfRow (Q v) m) old last (Err OutOfMemory)
    seq_unkept q = seq_refused OutOfMemory (rw q (stays_refl g mid.de.now)) (ap (λ (z : Deserializer R C). z.failed) q ∙ r.still.marked)
        (λ n k. absurd (n refl))

    -- there was no element that would do, or none at all
    pub seq_element : {A : Type 0} (reads : Msg → A → Type 0) (now : SeqAccess R C) (e : Error) → FailsElement g reads mid now e → now.de.now.failed ≡ true
        → last ≡ now.de.now
        → ((m : Msg) (ks : Msgs) (v : V) → Q v (append ms (item m ks)) → Readable reads m) → ((v : V) → Q v (append ms no_items) → ⊥)
        → Lawful g (λ m v. OfRow (Q v) m) old last (Err e)
    seq_element reads now e f d q proj some = seq_refused e (rw q f.stays) (ap (λ (z : Deserializer R C). z.failed) q ∙ d)
        (λ n k. none_follows g Q start mid ms r reads now e f proj (λ _. some) n (ap (faults_of g) (sym q) ∙ k))

    -- an element was refused
    pub seq_take : {A : Type 0} (reads : Msg → A → Type 0) (now : SeqAccess R C) (e : Error) → FailsToTake g reads mid now e → now.de.now.failed ≡ true
        → last ≡ now.de.now
        → ((m : Msg) (ks : Msgs) (v : V) → Q v (append ms (item m ks)) → Readable reads m) → Lawful g (λ m v. OfRow (Q v) m) old last (Err e)
    seq_take reads now e f d q proj = seq_refused e (rw q f.stays) (ap (λ (z : Deserializer R C). z.failed) q ∙ d)
        (λ n k. none_follows g Q start mid ms r reads now e (record { stays = f.stays; err = inr (f.some, f.err) }) proj (λ z v h. omega (arith, z, f.some))
        n
        (ap (faults_of g) (sym q) ∙ k))

    -- there are more elements than are wanted
    pub seq_more : (e : Error) → 0 < mid.left → last ≡ mid.de.now → ((m : Msg) (ks : Msgs) (v : V) → Q v (append ms (item m ks)) → ⊥)
        → Lawful g (λ m v. OfRow (Q v) m) old last (Err e)
    seq_more e l q f = seq_refused e (rw q (stays_refl g mid.de.now)) (ap (λ (z : Deserializer R C). z.failed) q ∙ r.still.marked)
        (λ n k. count_refused (SpellsIn start.de.now.strict start.bytes) (λ ks. (v : V) × Q v (append ms ks)) (inner_of start) mid.left (left g mid.de.now)
        (too_many l f))
      where
        too_many : 0 < mid.left → ((m : Msg) (ks : Msgs) (v : V) → Q v (append ms (item m ks)) → ⊥) → (ks : Msgs) → (v : V) × Q v (append ms ks)
            → count ks ≡ mid.left → ⊥
        too_many l f no_items h c = omega arith
        too_many l f (item m ks) h c = f m ks h.0 h.1

-- ---- parts of several types

module _ {R C V : Type 0} (g : Ghosts R) (Q : V → Msgs → Type 0) (start mid : SeqAccess R C) (ms : Msgs) (r : Run g start mid ms) where
  pub parts_refused : (now : SeqAccess R C) (e : Error) → Stays g mid.de.now now.de.now → now.de.now.failed ≡ true
      → Explains e (faults_of g mid.de.now) (faults_of g now.de.now)
      (RefusesRow (SpellsIn start.de.now.strict start.bytes) (λ ks. (v : V) × Q v (append ms ks)) (inner_of start) mid.left (left g mid.de.now))
      → FailsParts g Q start now e
  parts_refused now e s f x = record {
    stays = stays_then g start.de.now mid.de.now now.de.now r.stays s;
    failed = f;
    err = λ n k. rest_refused start.de.now.strict start.bytes (λ ks. (v : V) × Q v ks) (inner_of start) mid.left start.left (left g start.de.now)
        (left g mid.de.now) ms r.bytes r.takes r.spelled r.many (x n (k ∙ sym r.faults_same));
  }

  -- there was no element that would do, or none at all
  pub parts_element : {A : Type 0} (reads : Msg → A → Type 0) (now : SeqAccess R C) (e : Error) → FailsElement g reads mid now e → now.de.now.failed ≡ true
      → ((m : Msg) (ks : Msgs) (v : V) → Q v (append ms (item m ks)) → Readable reads m) → ((v : V) → Q v (append ms no_items) → ⊥)
      → FailsParts g Q start now e
  parts_element reads now e f d proj some = parts_refused now e f.stays d (none_follows g Q start mid ms r reads now e f proj (λ _. some))

-- a list none of whose rows has such parts
pub seq_parts : {R C V : Type 0} (g : Ghosts R) (Q : V → Msgs
    → Type 0) (old : Deserializer R C) (start now : SeqAccess R C) (o : Opens g old start) (last : Deserializer R C) (e : Error)
    → FailsParts g Q start now e → last ≡ now.de.now
    → Lawful g (λ m v. OfRow (Q v) m) old last (Err e)
seq_parts g Q old start now o last e f q = seq_refused g Q old start start no_items o (run_start g start o.opened) last e (rw q f.stays)
    (ap (λ (z : Deserializer _ _). z.failed) q ∙ f.failed) (λ n k. f.err n (ap (faults_of g) (sym q) ∙ k))

-- how many items there are
pub count-append : (ms ks : Msgs) → count (append ms ks) ≡ count ms + count ks
count-append no_items ks = omega arith
count-append (item m ms) ks = let i = count-append ms ks in omega arith

pub no_more_count : (ms : Msgs) → NoMore ms → count ms ≡ 0
no_more_count no_items h = refl
no_more_count (item m ms) h = absurd h

pub and_then_count : (P : Msg → Type 0) (Q : Msgs → Type 0) (n : ℕ) → ((ms : Msgs) → Q ms → count ms ≡ n) → (ms : Msgs) → AndThen P Q ms → count ms ≡ suc n
and_then_count P Q n f no_items h = absurd h
and_then_count P Q n f (item m ms) h = ap suc (f ms h.1)

-- there are more elements than the parts are
pub seq_over : {R C V : Type 0} (g : Ghosts R) (Q : V → Msgs
    → Type 0) (old : Deserializer R C) (start mid : SeqAccess R C) (ms : Msgs) (o : Opens g old start) (r : Run g start mid ms) (last : Deserializer R C)
    (e : Error) → 0 < mid.left → last ≡ mid.de.now
    → (n : ℕ) → ((v : V) (ks : Msgs) → Q v ks → count ks ≡ n) → (v : V) → Q v ms → Lawful g (λ m v. OfRow (Q v) m) old last (Err e)
seq_over g Q old start mid ms o r last e l q n f v h = seq_more g Q old start mid ms o r last e l q (λ m ks w i. let a = f v ms h
    in let b = f w (append ms (item m ks)) i in omega (arith, count-append ms (item m ks)))

-- ---- rows of one type

-- these values were read so far
pub record Values {R C V : Type 0} (g : Ghosts R) (reads : Msg → V → Type 0) (start now : SeqAccess R C) (vs : List V) : Type 0 where
  pub trees : Msgs
  pub run : Run g start now trees
  pub values : ReadsEach reads trees vs

pub each-push : {V : Type 0} (reads : Msg → V → Type 0) (ms : Msgs) (k : Msg) (vs : List V) (v : V) → ReadsEach reads ms vs → reads k v
    → ReadsEach reads (push ms k) (vs ++ v ∷ [])
each-push reads no_items k [] v p q = (q, tt)
each-push reads no_items k (w ∷ vs) v p q = absurd p
each-push reads (item m ms) k [] v p q = absurd p
each-push reads (item m ms) k (w ∷ vs) v p q = (p.0, each-push reads ms k vs v p.1 q)

pub each_next : {V : Type 0} (reads : Msg → V → Type 0) (ms : Msgs) (m : Msg) (ks : Msgs) (vs : List V) → ReadsEach reads (append ms (item m ks)) vs
    → Readable reads m
each_next reads no_items m ks [] h = absurd h
each_next reads no_items m ks (v ∷ vs) h = (v, h.0)
each_next reads (item k ms) m ks [] h = absurd h
each_next reads (item k ms) m ks (v ∷ vs) h = each_next reads ms m ks vs h.1

pub values_start : {R C V : Type 0} (g : Ghosts R) (reads : Msg → V → Type 0) (s : SeqAccess R C) → IsOpen s → Values g reads s s []
values_start g reads s o = record { trees = no_items; run = run_start g s o; values = tt }

pub values_step : {R C V : Type 0} (g : Ghosts R) (reads : Msg → V → Type 0) (start mid now : SeqAccess R C) (vs : List V) (v : V)
    → Values g reads start mid vs → TakesElement g reads mid now v → now.de.ghost_name ≡ mid.de.ghost_name → Values g reads start now (vs ++ v ∷ [])
values_step g reads start mid now vs v r t n = record
    { trees = push r.trees t.tree; run = run_step g reads start mid now r.trees v r.run t n; values = each-push reads r.trees t.tree vs v r.values t.value }
