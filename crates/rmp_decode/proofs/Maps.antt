-- What the read of a map says, from what its opening, its keys, its values and its end say.
use Rattle.std.proofs.Common.{◌≡◌, ◌∙◌, sym, ap, subst, refl, ℕ, ◌+◌, ◌<◌, max, arith, List, [], ◌∷◌, ◌++◌, Bool, true, false, cond, Option, None}
use Rattle.std.proofs.Common.{Some, Ok, Err, append_assoc}
use Rattle.std.specs.BTreeMap.{insert_entry, is_at}
use Rattle.std.specs.Cmp.{IsTotalOrder}
use Rattle.std.specs.List.Sorted.{IsStrictlySortedBy}
use Rattle.std.specs.Map.{keys_of, lookup}
use Rattle.std.specs.Ordering.{is_eq}
use Rattle.std.specs.declared.cmp.Ordering.{Ordering}
use Rattle.std.specs.Io.KnownBytes.{Consumes}
use Rattle.std.proofs.KnownBytes.{Consumes-trans}
use Rattle.rmp_wire.specs.declared.head.Head.TheVariants.{Map}
use Rattle.rmp_wire.specs.declared.source.Source.{Ghosts}
use Rattle.rmp_wire.specs.Canonical.{heads_of, SpellsAs}
use Rattle.rmp_wire.specs.Msg.{Msg, nil, truth, whole, float32, float64, text, bin, list, map, extension, Msgs, no_items, item, Pairs, no_pairs, pair}
use Rattle.rmp_wire.specs.Msg.{count, count_pairs, depth, depth_all, depth_pairs}
use Rattle.rmp_wire.specs.Spelling.{PairsSpelledBy, head_of}
use Rattle.rmp_wire.proofs.Strict.{heads_differ_as}
use Rattle.rmp_decode.specs.Law.{Refuses, Readable, Explains, Lawful}
use Rattle.rmp_decode.specs.Maps.{OfMap, IsMap, not_map, ReadsPairs, Collects, map_inner, owed, to_come, as_row}
use Rattle.rmp_decode.specs.Maps.{IsMapOpen, OpensMap, FailsToOpenMap, TakesKey, TakesValue}
use Rattle.rmp_decode.specs.Parts.{TakesPart, FailsPart}
use Rattle.rmp_decode.specs.Seq.{SpellsRow, BeginsRow, RefusesRow, TakesElement, Run}
use Rattle.rmp_decode.specs.State.{left, faults_of, room_of, kept_bytes, Stays}
use Rattle.rmp_decode.specs.declared.deserializer.Deserializer.{Deserializer}
use Rattle.rmp_decode.specs.declared.access.map.MapAccess.{MapAccess}
use Rattle.rmp_decode.specs.declared.error.Error.{Error}
use Rattle.rmp_decode.specs.declared.error.Error.TheVariants.{OutOfMemory}
use Rattle.rmp_decode.proofs.Laws.{stays_refl, stays_then, refused, unopened}
use Rattle.rmp_decode.proofs.Orders.{entries_none, entries_more}
use Rattle.rmp_decode.proofs.NothingAccepted.{refuses_narrower, same_head}
use Rattle.rmp_decode.proofs.Rows.{push, append, rest_refused, element_refused, count_refused}
use Rattle.rmp_decode.proofs.Seqs.{run_start, run_step}

-- ---- the keys and values of pairs, in one row

abbrev pub flat : Pairs → Msgs
flat no_pairs = no_items
flat (pair k v ps) = item k (item v (flat ps))

abbrev pub push_pair : Pairs → Msg → Msg → Pairs
push_pair no_pairs m n = pair m n no_pairs
push_pair (pair k v ps) m n = pair k v (push_pair ps m n)

pub flat-push : (ps : Pairs) (m n : Msg) → push (push (flat ps) m) n ≡ flat (push_pair ps m n)
flat-push no_pairs m n = refl
flat-push (pair k v ps) m n = ap (λ z. item k (item v z)) (flat-push ps m n)

pub count-flat : (ps : Pairs) → count (flat ps) ≡ count_pairs ps + count_pairs ps
count-flat no_pairs = refl
count-flat (pair k v ps) = let i = count-flat ps in omega arith

pub depth-flat : (ps : Pairs) → depth_all (flat ps) ≡ depth_pairs ps
depth-flat no_pairs = refl
depth-flat (pair k v ps) = let i = depth-flat ps in omega arith

in_row : (w : Bool) (ps : Pairs) (b : List ℕ) → PairsSpelledBy (heads_of w) b ps → SpellsRow (SpellsAs w) b (flat ps)
in_row w no_pairs b s = s
in_row w (pair k v ps) b s = record {
  first = s.first;
  second = s.second;
  is_first = s.is_first;
  is_second = record {
    first = s.is_second.first;
    second = s.is_second.second;
    is_first = s.is_second.is_first;
    is_second = in_row w ps s.is_second.second
        s.is_second.is_second;
    is_whole = s.is_second.is_whole;
  };
  is_whole = s.is_whole;
}

pub in_pairs : (w : Bool) (ps : Pairs) (b : List ℕ) → SpellsRow (SpellsAs w) b (flat ps) → PairsSpelledBy (heads_of w) b ps
in_pairs w no_pairs b s = s
in_pairs w (pair k v ps) b s = record {
  first = s.first;
  second = s.second;
  is_first = s.is_first;
  is_second = record {
    first = s.is_second.first;
    second = s.is_second.second;
    is_first = s.is_second.is_first;
    is_second = in_pairs w ps s.is_second.second
        s.is_second.is_second;
    is_whole = s.is_second.is_whole;
  };
  is_whole = s.is_whole;
}

-- a row of the keys and values of such pairs
abbrev pub Flat : (Pairs → Type 0) → Msgs → Type 0
Flat Q ms = (ps : Pairs) × (flat ps ≡ ms) × Q ps

inside_map : (w : Bool) (Q : Pairs → Type 0) (room n : ℕ) (m : Msg) (a x y : List ℕ) → OfMap Q m → SpellsAs w a m → depth m < room + 1 → head_of m ≡ Map n
    → ((c : List ℕ) → ((d : List ℕ) → a ≡ d ++ c → heads_of w (head_of m) d → c ++ x ≡ y)) → BeginsRow (SpellsAs w) (Flat Q) room (n + n) y
inside_map w Q room n nil a x y o s d e f = absurd o
inside_map w Q room n (truth t) a x y o s d e f = absurd o
inside_map w Q room n (whole z) a x y o s d e f = absurd o
inside_map w Q room n (float32 k) a x y o s d e f = absurd o
inside_map w Q room n (float64 k) a x y o s d e f = absurd o
inside_map w Q room n (text t) a x y o s d e f = absurd o
inside_map w Q room n (bin t) a x y o s d e f = absurd o
inside_map w Q room n (list ms) a x y o s d e f = absurd o
inside_map w Q room n (map ps) a x y o s d e f =
    let same : count_pairs ps ≡ n = cc in
    record {
      bytes = s.second;
      rest = x;
      trees = flat ps;
      front = sym (f s.second s.first s.is_whole s.is_first);
      spelled = in_row w ps s.second
          s.is_second;
      many = omega (arith, count-flat ps, same);
      fits = omega (arith, d, depth-flat ps);
      holds = (ps, refl, o);
    }
inside_map w Q room n (extension tag t) a x y o s d e f = absurd o

-- where no row is accepted after the head, no map is before it
map_row_refused : (w : Bool) (Q : Pairs → Type 0) (outer room n : ℕ) (known k : Option (List ℕ)) (b : List ℕ) → Consumes known k b → heads_of w (Map n) b
    → outer ≡ room + 1 → RefusesRow (SpellsAs w) (Flat Q) room (n + n) k → Refuses (SpellsAs w) (OfMap Q) outer known
unfolding Refuses RefusesRow
map_row_refused w Q outer room n None k b t i l r = tt
map_row_refused w Q outer room n (Some xs) None b t i l r = absurd t
map_row_refused w Q outer room n (Some xs) (Some ys) b t i l r = λ a.
    let split : a.bytes ++ a.rest ≡ b ++ ys = sym a.front ∙ t in
    let u = same_head _ a.tree (Map n) a.bytes b a.rest ys a.spelled i split in
    let fits = rw l at a.fits in
    r (inside_map w Q room n a.tree a.bytes a.rest ys a.holds a.spelled fits u.0
    (λ c d e j. (heads_differ_as w (head_of a.tree) (Map n) d b (c ++ a.rest) ys j i
    (sym (append_assoc d c a.rest) ∙ ap (λ z. z ++ a.rest) (sym e) ∙ split)).2))

-- a value that reads the pairs
readable_map : {V : Type 0} (Q : V → Pairs → Type 0) (m : Msg) → (v : V) × OfMap (Q v) m → OfMap (λ ps. (v : V) × Q v ps) m
readable_map Q (map ps) r = r
readable_map Q m r = r.1

is_map : {V : Type 0} (Q : V → Pairs → Type 0) (m : Msg) → (v : V) × OfMap (Q v) m → OfMap (λ ps. Unit {0}) m
is_map Q (map ps) r = tt
is_map Q m r = r.1

-- ---- keys and values that were read

pub settled : {R C : Type 0} (a : MapAccess R C) → a.owes ≡ false → to_come a ≡ a.left + a.left
settled a e = omega (arith, ap owed e)

-- these were read so far
abbrev pub MapRun : {R C : Type 0} → Ghosts R → MapAccess R C → MapAccess R C → Msgs → Type 0
MapRun g start now ms = Run g (as_row start) (as_row now) ms

pub map_start : {R C : Type 0} (g : Ghosts R) (a : MapAccess R C) → IsMapOpen a → MapRun g a a no_items
map_start g a o = run_start g (as_row a) o

-- a key or a value that was read is an element of the list of them
abbrev as_element : {R C V : Type 0} (g : Ghosts R) (reads : Msg → V → Type 0) (mid now : MapAccess R C) (v : V)
    → TakesPart g reads (map_inner mid) mid.de.now now.de.now v → to_come mid ≡ to_come now + 1 → now.count ≡ mid.count → now.inner ≡ mid.inner
    → IsMapOpen now → TakesElement g reads (as_row mid) (as_row now) v
as_element g reads mid now v t fewer count inner still = record {
  bytes = t.bytes;
  tree = t.tree;
  takes = t.takes;
  spelled = t.spelled;
  fits = t.fits;
  value = t.value;
  fewer = fewer;
  count = omega (arith, count);
  inner = inner;
  bytes_same = refl;
  stays = t.stays;
  faults_same = t.faults_same;
  still = still;
}

key_counts : {R C : Type 0} (mid now : MapAccess R C) → mid.left ≡ now.left + 1 → mid.owes ≡ false → now.owes ≡ true → to_come mid ≡ to_come now + 1
key_counts mid now l p q = omega (arith, l, ap owed p, ap owed q)

value_counts : {R C : Type 0} (mid now : MapAccess R C) → now.left ≡ mid.left → mid.owes ≡ true → now.owes ≡ false → to_come mid ≡ to_come now + 1
value_counts mid now l p q = omega (arith, l, ap owed p, ap owed q)

-- one key more
pub map_key : {R C K : Type 0} (g : Ghosts R) (reads : Msg → K → Type 0) (start mid now : MapAccess R C) (ms : Msgs) (k : K) → MapRun g start mid ms
    → mid.owes ≡ false → (t : TakesKey g reads mid now k) → now.de.ghost_name ≡ mid.de.ghost_name → MapRun g start now (push ms t.part.tree)
map_key g reads start mid now ms k r p t n = run_step g reads (as_row start) (as_row mid) (as_row now) ms k r
    (as_element g reads mid now k t.part (key_counts mid now t.fewer p t.owes) t.count t.inner t.still) n

-- one value more
pub map_value : {R C V : Type 0} (g : Ghosts R) (reads : Msg → V → Type 0) (start mid now : MapAccess R C) (ms : Msgs) (v : V) → MapRun g start mid ms
    → mid.owes ≡ true → (t : TakesValue g reads mid now v) → now.de.ghost_name ≡ mid.de.ghost_name → MapRun g start now (push ms t.part.tree)
map_value g reads start mid now ms v r p t n = run_step g reads (as_row start) (as_row mid) (as_row now) ms v r
    (as_element g reads mid now v t.part (value_counts mid now t.same_left p t.owes) t.count t.inner t.still) n

module _ {R C V : Type 0} (g : Ghosts R) (Q : V → Pairs → Type 0) (old : Deserializer R C) where
  pub map_unopened : (last : Deserializer R C) (e : Error) → FailsToOpenMap g old last e → Lawful g (λ m v. OfMap (Q v) m) old last (Err e)
  map_unopened last e f = unopened g (λ m v. OfMap (Q v) m) IsMap not_map old last e f (is_map Q)

  module _ (start mid : MapAccess R C) (o : OpensMap g old start) (last : Deserializer R C) where
    -- the map is whole
    pub map_done : (ps : Pairs) (r : MapRun g start mid (flat ps)) (v : V) → Q v ps → mid.left ≡ 0 → mid.owes ≡ false
        → last ≡ record mid.de.now { failed = false } → Lawful g (λ m v. OfMap (Q v) m) old last (Ok v)
    map_done ps r v q z w e =
        let all : count (flat ps) ≡ start.left + start.left = omega (arith, r.many, z, settled mid w, settled start o.at_key) in
        let many : count_pairs ps ≡ start.left = omega (arith, all, count-flat ps) in
        rw e (record {
          ok = record {
            bytes = o.head.bytes ++ r.bytes;
            tree = map ps;
            takes = Consumes-trans _ _ _ o.head.bytes r.bytes o.head.takes r.takes;
            goes_on = record {
              more = o.head.goes_on.more ++ r.bytes;
              whole = ap (λ t. t ++ r.bytes) o.head.goes_on.whole
                  ∙ append_assoc (kept_bytes old.kept) o.head.goes_on.more r.bytes;
            };
            spelled = record {
              first = o.head.bytes;
              second = r.bytes;
              is_first = subst (λ n. heads_of old.strict (Map n) o.head.bytes) (sym many)
                  o.head.is_head;
              is_second = in_pairs old.strict ps r.bytes (subst (λ z. SpellsRow (SpellsAs z) r.bytes (flat ps)) o.stays.strict r.spelled);
              is_whole = refl;
            };
            fits = omega (arith, r.fits, o.room, depth-flat ps);
            value = q;
          };
          ready = refl;
          clean = r.still.clean;
          sound = r.faults_same ∙ o.faults_same;
          err = λ _. tt;
          failed = tt;
          before = λ h. absurd (let f = o.fresh in cc);
          stays = record {
            config = r.stays.config ∙ o.stays.config;
            room = r.stays.room ∙ o.stays.room;
            limit = r.stays.limit ∙ o.stays.limit;
            strict = r.stays.strict
                ∙ o.stays.strict;
            place = r.stays.place ∙ o.stays.place;
          };
        })

    module _ (ms : Msgs) (r : MapRun g start mid ms) where
      -- none of the keys and values that are to come would do
      pub map_refused : (e : Error) → Stays g mid.de.now last → last.failed ≡ true
          → Explains e (faults_of g mid.de.now) (faults_of g last)
          (RefusesRow (SpellsAs start.de.now.strict) (λ ks. Flat (λ ps. (v : V) × Q v ps) (append ms ks)) (map_inner start) (to_come mid)
          (left g mid.de.now)) → Lawful g (λ m v. OfMap (Q v) m) old last (Err e)
      map_refused e s f x = refused g (λ m v. OfMap (Q v) m) old last e o.fresh f
          (stays_then g old start.de.now last o.stays (stays_then g start.de.now mid.de.now last r.stays s))
          (λ n k.
          let rest = x n (k ∙ sym o.faults_same ∙ sym r.faults_same) in
          let row = rest_refused start.de.now.strict false (Flat (λ ps. (v : V) × Q v ps)) (map_inner start) (to_come mid) (start.left + start.left)
          (left g start.de.now) (left g mid.de.now) ms r.bytes r.takes r.spelled (r.many ∙ settled start o.at_key) rest in
          refuses_narrower (SpellsAs old.strict) (OfMap (λ ps. (v : V) × Q v ps)) _ _ _ (readable_map Q)
          (map_row_refused old.strict (λ ps. (v : V) × Q v ps) (room_of old) (map_inner start) start.left (left g old) (left g start.de.now) o.head.bytes
          o.head.takes o.head.is_head o.room (subst (λ z. RefusesRow (SpellsAs z) (Flat (λ ps. (v : V) × Q v ps)) (map_inner start)
          (start.left + start.left) (left g start.de.now)) o.stays.strict row)))

      -- memory was short
      pub map_unkept : last ≡ mid.de.now → Lawful g (λ m v. OfMap (Q v) m) old last (Err OutOfMemory)
      map_unkept q = map_refused OutOfMemory (rw q (stays_refl g mid.de.now)) (ap (λ (z : Deserializer R C). z.failed) q ∙ r.still.marked)
          (λ n k. absurd (n refl))

      -- a key or a value was refused
      pub map_take : {A : Type 0} (reads : Msg → A → Type 0) (now : MapAccess R C) (e : Error) → 0 < to_come mid
          → FailsPart g reads (map_inner mid) mid.de.now now.de.now e → last ≡ now.de.now
          → ((m : Msg) (ks : Msgs) (v : V) (ps : Pairs) → flat ps ≡ append ms (item m ks) → Q v ps → Readable reads m)
          → Lawful g (λ m v. OfMap (Q v) m) old last (Err e)
      map_take reads now e some f q proj = map_refused e (rw q f.stays) (ap (λ (z : Deserializer R C). z.failed) q ∙ f.failed) (λ n k.
          let r0 = f.err n (ap (faults_of g) (sym q) ∙ k) in
          let r1 = subst (λ z. Refuses (SpellsAs z) (Readable reads) (map_inner start) (left g mid.de.now)) r.stays.strict
          (subst (λ z. Refuses (SpellsAs mid.de.now.strict) (Readable reads) (max 1 z) (left g mid.de.now)) r.inner r0) in
          element_refused (SpellsAs start.de.now.strict) (λ ks. Flat (λ ps. (v : V) × Q v ps) (append ms ks)) (Readable reads) (map_inner start)
          (to_come mid) (left g mid.de.now) some (λ m ks h. proj m ks h.2.0 h.0 h.1 h.2.1) r1)

      -- there are more pairs than are wanted
      pub map_more : (e : Error) → 0 < mid.left → last ≡ mid.de.now
          → ((m : Msg) (ks : Msgs) (v : V) (ps : Pairs) → flat ps ≡ append ms (item m ks) → Q v ps → ⊥) → Lawful g (λ m v. OfMap (Q v) m) old last (Err e)
      map_more e l q f = map_refused e (rw q (stays_refl g mid.de.now)) (ap (λ (z : Deserializer R C). z.failed) q ∙ r.still.marked)
          (λ n k. count_refused (SpellsAs start.de.now.strict) (λ ks. Flat (λ ps. (v : V) × Q v ps) (append ms ks)) (map_inner start) (to_come mid)
          (left g mid.de.now) (too_many l f))
        where
          too_many : 0 < mid.left → ((m : Msg) (ks : Msgs) (v : V) (ps : Pairs) → flat ps ≡ append ms (item m ks) → Q v ps → ⊥) → (ks : Msgs)
              → Flat (λ ps. (v : V) × Q v ps) (append ms ks) → count ks ≡ to_come mid → ⊥
          too_many l f no_items h c = omega arith
          too_many l f (item m ks) h c = f m ks h.2.0 h.0 h.1 h.2.1

-- ---- pairs of one type

-- these entries were read so far
pub record Entries {R C K V : Type 0} (g : Ghosts R) (keys : Msg → K → Type 0) (values : Msg → V
    → Type 0) (start now : MapAccess R C) (es : List (K × V)) : Type 0 where
  pub trees : Pairs
  pub run : MapRun g start now (flat trees)
  pub reads : ReadsPairs keys values trees es
  pub at_key : now.owes ≡ false

pairs-push : {K V : Type 0} (keys : Msg → K → Type 0) (values : Msg → V → Type 0) (ps : Pairs) (m n : Msg) (es : List (K × V)) (k : K) (v : V)
    → ReadsPairs keys values ps es → keys m k → values n v → ReadsPairs keys values (push_pair ps m n) (es ++ (k, v) ∷ [])
pairs-push keys values no_pairs m n [] k v r p q = (p, q, tt)
pairs-push keys values no_pairs m n (e ∷ es) k v r p q = absurd r
pairs-push keys values (pair a b ps) m n [] k v r p q = absurd r
pairs-push keys values (pair a b ps) m n (e ∷ es) k v r p q = (r.0, r.1, pairs-push keys values ps m n es k v r.2 p q)

-- the key that comes next, where there is one
pub key_next : {K V : Type 0} (keys : Msg → K → Type 0) (values : Msg → V → Type 0) (ps qs : Pairs) (m : Msg) (ks : Msgs) (es : List (K × V))
    → flat qs ≡ append (flat ps) (item m ks) → ReadsPairs keys values qs es → Readable keys m
key_next keys values no_pairs no_pairs m ks es e r = absurd (cc)
key_next keys values no_pairs (pair a b qs) m ks [] e r = absurd r
key_next keys values no_pairs (pair a b qs) m ks (n ∷ es) e r = let same : a ≡ m = cc in (n.0, subst (λ z. keys z n.0) same r.0)
key_next keys values (pair c d ps) no_pairs m ks es e r = absurd (cc)
key_next keys values (pair c d ps) (pair a b qs) m ks [] e r = absurd r
key_next keys values (pair c d ps) (pair a b qs) m ks (n ∷ es) e r = let rest : flat qs ≡ append (flat ps) (item m ks) = cc
    in key_next keys values ps qs m ks es rest r.2

-- the value of the key that was read last
pub value_next : {K V : Type 0} (keys : Msg → K → Type 0) (values : Msg → V → Type 0) (ps qs : Pairs) (k m : Msg) (ks : Msgs) (es : List (K × V))
    → flat qs ≡ append (push (flat ps) k) (item m ks) → ReadsPairs keys values qs es → Readable values m
value_next keys values no_pairs no_pairs k m ks es e r = absurd (cc)
value_next keys values no_pairs (pair a b qs) k m ks [] e r = absurd r
value_next keys values no_pairs (pair a b qs) k m ks (n ∷ es) e r = let same : b ≡ m = cc in (n.1, subst (λ z. values z n.1) same r.1)
value_next keys values (pair c d ps) no_pairs k m ks es e r = absurd (cc)
value_next keys values (pair c d ps) (pair a b qs) k m ks [] e r = absurd r
value_next keys values (pair c d ps) (pair a b qs) k m ks (n ∷ es) e r = let rest : flat qs ≡ append (push (flat ps) k) (item m ks) = cc
    in value_next keys values ps qs k m ks es rest r.2

pub entries_start : {R C K V : Type 0} (g : Ghosts R) (keys : Msg → K → Type 0) (values : Msg → V → Type 0) (a : MapAccess R C) → a.owes ≡ false
    → IsMapOpen a → Entries g keys values a a []
entries_start g keys values a w o = record { trees = no_pairs; run = map_start g a o; reads = tt; at_key = w }

-- one pair more
pub entries_step : {R C K V : Type 0} (g : Ghosts R) (keys : Msg → K → Type 0) (values : Msg → V
    → Type 0) (start mid key now : MapAccess R C) (es : List (K × V)) (k : K) (v : V) → Entries g keys values start mid es
    → TakesKey g keys mid key k → key.de.ghost_name ≡ mid.de.ghost_name → TakesValue g values key now v → now.de.ghost_name ≡ key.de.ghost_name
    → Entries g keys values start now (es ++ (k, v) ∷ [])
entries_step g keys values start mid key now es k v r p m q n =
    let half = map_key g keys start mid key (flat r.trees) k r.run r.at_key p m in
    record {
      trees = push_pair r.trees p.part.tree q.part.tree;
      run = subst (MapRun g start now) (flat-push r.trees p.part.tree q.part.tree)
          (map_value g values start key now (push (flat r.trees) p.part.tree) v half p.owes q n);
      reads = pairs-push keys values r.trees p.part.tree q.part.tree es k v r.reads p.part.value q.part.value;
      at_key = q.owes;
    }

-- the pairs that were read so far were put into a map
pub record Gathers {R C K V : Type 0} (g : Ghosts R) (cmp : K → K → Ordering) (keys : Msg → K → Type 0) (values : Msg → V
    → Type 0) (start now : MapAccess R C) (es : List (K × V)) : Type 0 where
  pub pairs : List (K × V)
  pub read : Entries g keys values start now pairs
  pub gathered : Collects cmp pairs es

module _ {R C K V : Type 0} (g : Ghosts R) {cmp : K → K → Ordering} (o : IsTotalOrder cmp) (keys : Msg → K → Type 0) (values : Msg → V → Type 0) where
  pub gathers_start : (a : MapAccess R C) (es : List (K × V)) → a.owes ≡ false → IsMapOpen a → es ≡ [] → Gathers g cmp keys values a a es
  gathers_start a es w p e = record { pairs = []; read = entries_start g keys values a w p; gathered = entries_none o es e }

  pub gathers_step : (start mid key now : MapAccess R C) (es fs : List (K × V)) (k : K) (v : V) → Gathers g cmp keys values start mid es
      → TakesKey g keys mid key k → key.de.ghost_name ≡ mid.de.ghost_name → TakesValue g values key now v → now.de.ghost_name ≡ key.de.ghost_name
      → fs ≡ insert_entry cmp es k v
      → IsStrictlySortedBy cmp (keys_of fs) → ((q : K) → lookup (is_at (cmp q)) fs ≡ cond (is_eq (cmp k q)) (Some v) (lookup (is_at (cmp q)) es))
      → Gathers g cmp keys values start now fs
  gathers_step start mid key now es fs k v r p m q n e s u = record {
    pairs = r.pairs ++ (k, v) ∷ [];
    read = entries_step g keys values start mid key now r.pairs k v r.read p m q n;
    gathered = entries_more o r.pairs es fs k v r.gathered e s u;
  }
