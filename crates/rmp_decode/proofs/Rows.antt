-- Rows of elements at the front of the bytes.
use Rattle.std.proofs.Common.{◌≡◌, ◌∙◌, sym, ap, subst, refl, ℕ, suc, pos, ◌+◌, ◌<◌, ◌≤◌, arith, List, [], ◌∷◌, ◌++◌, length, Option, None, Some}
use Rattle.std.proofs.Common.{Bool, true, false, append_assoc}
use Rattle.std.proofs.lemmas.List.{append-nil}
use Rattle.std.specs.Io.KnownBytes.{Consumes}
use Rattle.rmp_wire.specs.declared.head.Head.TheVariants.{Array, Bin}
use Rattle.rmp_wire.specs.Canonical.{heads_of, SpellsAs}
use Rattle.rmp_wire.specs.Msg.{Msg, whole, bin, list, Msgs, no_items, item, count, depth, depth_all}
use Rattle.rmp_wire.specs.Spelling.{AllSpelledBy, IsBytes, head_of}
use Rattle.rmp_wire.proofs.Strict.{heads_differ_as, spelled_once_as}
use Rattle.rmp_decode.specs.Law.{Begins, Refuses}
use Rattle.rmp_decode.specs.Seq.{numbers, OfRow, seq_head, SpellsByte, SpellsIn, levels, SpellsRow, BeginsRow, RefusesRow}
use Rattle.rmp_decode.proofs.NothingAccepted.{same_head}

-- one more item after the others
abbrev pub push : Msgs → Msg → Msgs
push no_items k = item k no_items
push (item m ms) k = item m (push ms k)

-- items, and then others
abbrev pub append : Msgs → Msgs → Msgs
append no_items ks = ks
append (item m ms) ks = item m (append ms ks)

pub count-push : (ms : Msgs) (k : Msg) → count (push ms k) ≡ suc (count ms)
count-push no_items k = refl
count-push (item m ms) k = ap suc (count-push ms k)

pub depth-push : (ms : Msgs) (k : Msg) (room : ℕ) → depth_all ms < room → depth k < room → depth_all (push ms k) < room
depth-push no_items k room p q = omega arith
depth-push (item m ms) k room p q = let i = depth-push ms k room (omega arith) q in omega (arith, i)

pub row-push : (spells : List ℕ → Msg → Type 0) (ms : Msgs) (k : Msg) (a b : List ℕ) → SpellsRow spells a ms → spells b k
    → SpellsRow spells (a ++ b) (push ms k)
row-push spells no_items k a b p q = record { first = b; second = []; is_first = q; is_second = refl; is_whole = ap (λ z. z ++ b) p ∙ sym (append-nil b) }
row-push spells (item m ms) k a b p q = record {
  first = p.first;
  second = p.second ++ b;
  is_first = p.is_first;
  is_second = row-push spells ms k p.second b p.is_second q;
  is_whole = ap (λ z. z ++ b) p.is_whole ∙ append_assoc p.first p.second b;
}

-- the bytes begin with an element in one way
pub part_once : (w in_bytes : Bool) (m n : Msg) (a b x y : List ℕ) → SpellsIn w in_bytes a m → SpellsIn w in_bytes b n → a ++ x ≡ b ++ y → (m ≡ n) × (x ≡ y)
part_once w false m n a b x y p q e = let u = spelled_once_as w m n a b x y p q e in (u.1, u.2)
part_once w true m n a b x y p q e =
    let p0 = p.alone in
    let q0 = q.alone in
    let u : p.byte ∷ x ≡ q.byte ∷ y = ap (λ z. z ++ x) (sym p0) ∙ e ∙ ap (λ z. z ++ y) q0 in
    let same : p.byte ≡ q.byte = cc in
    let rest : x ≡ y = cc in
    (p.number ∙ ap (λ z. whole (pos z)) same ∙ sym q.number, rest)

-- what follows items that were taken, of all that follow
following : (w in_bytes : Bool) (P : Msgs → Type 0) (room n : ℕ) (ms ts : Msgs) (a b x y : List ℕ) → SpellsRow (SpellsIn w in_bytes) a ms
    → SpellsRow (SpellsIn w in_bytes) b ts → a ++ x ≡ b ++ y → count ms + n ≡ count ts → depth_all ts < room → P ts
    → BeginsRow (SpellsIn w in_bytes) (λ ks. P (append ms ks)) room n x
following w in_bytes P room n no_items ts a b x y p q e c d h = record
    { bytes = b; rest = y; trees = ts; front = ap (λ z. z ++ x) (sym p) ∙ e; spelled = q; many = omega (arith, c); fits = d; holds = h }
following w in_bytes P room n (item m ms) no_items a b x y p q e c d h = absurd (omega arith)
following w in_bytes P room n (item m ms) (item t ts) a b x y p q e c d h =
    let split : p.first ++ (p.second ++ x) ≡ q.first ++ (q.second ++ y) = sym (append_assoc p.first p.second x) ∙ ap (λ z. z ++ x) (sym p.is_whole) ∙ e
    ∙ ap (λ z. z ++ y) q.is_whole ∙ append_assoc q.first q.second y in
    let u = part_once w in_bytes m t p.first q.first (p.second ++ x) (q.second ++ y) p.is_first q.is_first split in
    following w in_bytes (λ ks. P (item m ks)) room n ms ts p.second q.second x y p.is_second q.is_second u.1 (omega (arith, c)) (omega (arith, d))
    (subst (λ z. P (item z ts)) (sym u.0) h)

-- where none of the rest is accepted, none of the whole is
pub rest_refused : (w in_bytes : Bool) (P : Msgs → Type 0) (room n all : ℕ) (known k : Option (List ℕ)) (ms : Msgs) (bytes : List ℕ)
    → Consumes known k bytes → SpellsRow (SpellsIn w in_bytes) bytes ms → count ms + n ≡ all
    → RefusesRow (SpellsIn w in_bytes) (λ ks. P (append ms ks)) room n k → RefusesRow (SpellsIn w in_bytes) P room all known
unfolding RefusesRow
rest_refused w in_bytes P room n all None k ms bytes t s c r = tt
rest_refused w in_bytes P room n all (Some xs) None ms bytes t s c r = absurd t
rest_refused w in_bytes P room n all (Some xs) (Some ys) ms bytes t s c r = λ a. r
    (following w in_bytes P room n ms a.trees bytes a.bytes ys a.rest s a.spelled (sym t ∙ a.front) (c ∙ sym a.many) a.fits a.holds)

-- the next element is refused
first_of : (spells : List ℕ → Msg → Type 0) (P : Msgs → Type 0) (F : Msg → Type 0) (room n : ℕ) (xs : List ℕ) (ts : Msgs) (b y : List ℕ)
    → ((m : Msg) (ks : Msgs) → P (item m ks) → F m) → xs ≡ b ++ y → SpellsRow spells b ts → count ts ≡ n → 0 < n → depth_all ts < room → P ts
    → Begins spells F room xs
first_of spells P F room n xs no_items b y f e s c l d h = absurd (omega arith)
first_of spells P F room n xs (item m ms) b y f e s c l d h =
    record {
      bytes = s.first;
      rest = s.second ++ y;
      tree = m;
      front = e ∙ ap (λ z. z ++ y) s.is_whole
          ∙ append_assoc s.first s.second y;
      spelled = s.is_first;
      fits = omega (arith, d);
      holds = f m ms h;
    }

pub element_refused : (spells : List ℕ → Msg → Type 0) (P : Msgs → Type 0) (F : Msg → Type 0) (room n : ℕ) (known : Option (List ℕ)) → 0 < n
    → ((m : Msg) (ks : Msgs) → P (item m ks) → F m) → Refuses spells F room known → RefusesRow spells P room n known
unfolding Refuses RefusesRow
element_refused spells P F room n None l f r = tt
element_refused spells P F room n (Some xs) l f r = λ a. r
    (first_of spells P F room n xs a.trees a.bytes a.rest f a.front a.spelled a.many l a.fits a.holds)

-- there are too few or too many
pub count_refused : (spells : List ℕ → Msg → Type 0) (P : Msgs → Type 0) (room n : ℕ) (known : Option (List ℕ)) → ((ks : Msgs) → P ks → count ks ≡ n → ⊥)
    → RefusesRow spells P room n known
unfolding RefusesRow
count_refused spells P room n None f = tt
count_refused spells P room n (Some xs) f = λ a. f a.trees a.holds a.many

-- ---- a row after its head

pub listed : (w : Bool) (ms : Msgs) (b : List ℕ) → AllSpelledBy (heads_of w) b ms → SpellsRow (SpellsAs w) b ms
listed w no_items b s = s
listed w (item m ms) b s = record {
  first = s.first;
  second = s.second;
  is_first = s.is_first;
  is_second = listed w ms s.second s.is_second;
  is_whole = s.is_whole;
}

pub in_list : (w : Bool) (ms : Msgs) (b : List ℕ) → SpellsRow (SpellsAs w) b ms → AllSpelledBy (heads_of w) b ms
in_list w no_items b s = s
in_list w (item m ms) b s = record {
  first = s.first;
  second = s.second;
  is_first = s.is_first;
  is_second = in_list w ms s.second s.is_second;
  is_whole = s.is_whole;
}

numbered : (s : List ℕ) → IsBytes s → SpellsRow SpellsByte s (numbers s)
numbered [] b = refl
numbered (n ∷ s) b = record {
  first = n ∷ [];
  second = s;
  is_first = record { byte = n; small = b.0; alone = refl; number = refl };
  is_second = numbered s
      b.1;
  is_whole = refl;
}

pub count-numbers : (s : List ℕ) → count (numbers s) ≡ length s
count-numbers [] = refl
count-numbers (n ∷ s) = ap suc (count-numbers s)

depth-numbers : (s : List ℕ) → depth_all (numbers s) ≡ 0
depth-numbers [] = refl
depth-numbers (n ∷ s) = let i = depth-numbers s in omega arith

-- bytes that were taken number by number
pub byte_row : (ms : Msgs) (b : List ℕ) → SpellsRow SpellsByte b ms → (ms ≡ numbers b) × IsBytes b
byte_row no_items b s = rw s (refl, tt)
byte_row (item m ms) b s =
    let r = byte_row ms s.second s.is_second in
    let one = s.is_first.alone in
    let e : b ≡ s.is_first.byte ∷ s.second = s.is_whole ∙ ap (λ z. z ++ s.second) one in
    rw e (ap (λ z. item z ms) s.is_first.number ∙ ap (λ z. item (whole (pos s.is_first.byte)) z) r.0, (s.is_first.small, r.1))

inside : (w in_bytes : Bool) (P : Msgs → Type 0) (room n : ℕ) (m : Msg) (a x y : List ℕ) → OfRow P m → SpellsAs w a m → depth m < room + levels in_bytes
    → 0 < room → head_of m ≡ seq_head in_bytes n
    → ((c : List ℕ) → ((d : List ℕ) → a ≡ d ++ c → heads_of w (head_of m) d → c ++ x ≡ y)) → BeginsRow (SpellsIn w in_bytes) P room n y
inside w true P room n (bin t) a x y o s d l e f =
    let same : length t ≡ n = cc in
    let c = s.is_second.0 in
    record {
      bytes = t;
      rest = x;
      trees = numbers t;
      front = sym (f s.second s.first s.is_whole s.is_first)
          ∙ ap (λ z. z ++ x) c;
      spelled = numbered t s.is_second.1;
      many = count-numbers t ∙ same;
      fits = omega (arith, depth-numbers t);
      holds = o;
    }
inside w false P room n (bin t) a x y o s d l e f = absurd (cc)
inside w true P room n (list ms) a x y o s d l e f = absurd (cc)
inside w false P room n (list ms) a x y o s d l e f =
    let same : count ms ≡ n = cc in
    record {
      bytes = s.second;
      rest = x;
      trees = ms;
      front = sym (f s.second s.first s.is_whole s.is_first);
      spelled = listed w ms s.second s.is_second;
      many = same;
      fits = omega (arith, d);
      holds = o;
    }
inside w in_bytes P room n m a x y o s d l e f = absurd o

-- where no row is accepted after the head, no list or bytes is before it
pub row_whole : (w in_bytes : Bool) (P : Msgs → Type 0) (outer room n : ℕ) (known k : Option (List ℕ)) (b : List ℕ) → Consumes known k b
    → heads_of w (seq_head in_bytes n) b → outer ≡ room + levels in_bytes → 0 < room → RefusesRow (SpellsIn w in_bytes) P room n k
    → Refuses (SpellsAs w) (OfRow P) outer known
unfolding Refuses RefusesRow
row_whole w in_bytes P outer room n None k b t i l some r = tt
row_whole w in_bytes P outer room n (Some xs) None b t i l some r = absurd t
row_whole w in_bytes P outer room n (Some xs) (Some ys) b t i l some r = λ a.
    let split : a.bytes ++ a.rest ≡ b ++ ys = sym a.front ∙ t in
    let u = same_head _ a.tree (seq_head in_bytes n) a.bytes b a.rest ys a.spelled i split in
    let fits = rw l at a.fits in
    r (inside w in_bytes P room n a.tree a.bytes a.rest ys a.holds a.spelled fits some u.0
    (λ c d e j. (heads_differ_as w (head_of a.tree) (seq_head in_bytes n) d b (c ++ a.rest) ys j i
    (sym (append_assoc d c a.rest) ∙ ap (λ z. z ++ a.rest) (sym e) ∙ split)).2))

-- a whole list or bytes, from its head and its elements
pub record Whole (w in_bytes : Bool) (P : Msgs → Type 0) (ms : Msgs) (bytes : List ℕ) : Type 0 where
  pub tree : Msg
  pub spelled : SpellsAs w bytes tree
  pub holds : OfRow P tree
  pub fits : depth tree ≤ depth_all ms + levels in_bytes

pub whole_row : (w in_bytes : Bool) (P : Msgs → Type 0) (ms : Msgs) (n : ℕ) (head bytes : List ℕ) → heads_of w (seq_head in_bytes n) head
    → SpellsRow (SpellsIn w in_bytes) bytes ms → count ms ≡ n → P ms → Whole w in_bytes P ms (head ++ bytes)
whole_row w true P ms n head bytes i s c p =
    let r = byte_row ms bytes s in
    let len : n ≡ length bytes = sym c ∙ ap count r.0 ∙ count-numbers bytes in
    record {
      tree = bin bytes;
      spelled = record { first = head; second = bytes; is_first = subst (λ k. heads_of w (Bin k) head) len i; is_second = (refl, r.1); is_whole = refl };
      holds = subst P r.0 p;
      fits = omega arith;
    }
whole_row w false P ms n head bytes i s c p =
    record {
      tree = list ms;
      spelled = record {
        first = head;
        second = bytes;
        is_first = subst (λ k. heads_of w (Array k) head) (sym c) i;
        is_second = in_list w ms bytes s;
        is_whole = refl;
      };
      holds = p;
      fits = omega arith;
    }

-- a value that reads the row
pub readable_row : {V : Type 0} (Q : V → Msgs → Type 0) (m : Msg) → (v : V) × OfRow (Q v) m → OfRow (λ ms. (v : V) × Q v ms) m
readable_row Q (bin s) r = r
readable_row Q (list ms) r = r
readable_row Q m r = r.1

pub is_seq : {V : Type 0} (Q : V → Msgs → Type 0) (m : Msg) → (v : V) × OfRow (Q v) m → OfRow (λ ms. Unit {0}) m
is_seq Q (bin s) r = tt
is_seq Q (list ms) r = tt
is_seq Q m r = r.1
