-- A number of messages remains: how many remain after their heads are consumed one by one.
use Rattle.std.proofs.Common.{◌≡◌, ◌∙◌, sym, ap, subst, refl, ℕ, zero, suc, ◌+◌, ◌<◌, ◌⊎◌, inl, inr, arith, List, [], ◌∷◌, ◌++◌, length, append_assoc, false}
use Rattle.std.proofs.lemmas.List.{append-nil, length-append}
use Rattle.rmp_wire.specs.declared.head.Head.{Head}
use Rattle.rmp_wire.specs.Canonical.{IsCanonicalHead}
use Rattle.rmp_wire.specs.Heads.{canon_head, fits_head}
use Rattle.rmp_wire.specs.Msg.{Msg, nil, Msgs, no_items, item, count}
use Rattle.rmp_wire.specs.Spelling.{IsBytes, canon, canon_all, Fits, FitsAll, head_of}
use Rattle.rmp_wire.proofs.Canon.{canon_is_head, head_fits}
use Rattle.rmp_wire.proofs.Canonical.{canonical_head_made}
use Rattle.rmp_wire.proofs.Heads.{heads_differ}
use Rattle.rmp_wire.proofs.Spellings.{canon_spells}
use Rattle.rmp_wire.proofs.Unique.{spelled_once}
use Rattle.rmp_decode.specs.Kinds.{content_len}
use Rattle.rmp_decode.specs.declared.error.Error.{Error}
use Rattle.rmp_decode.proofs.ContentErrors.{head_byte}
use Rattle.rmp_decode.proofs.Rows.{append}
use Rattle.rmp_serde.specs.Places.{BeginsAmong, IsWhole, Reaches, OpensOther, IsFault, StopsFor, parts_after}
use Rattle.rmp_serde.proofs.Nodes.{
  content,
  parts,
  own,
  fits_own,
  fits_parts,
  same_front,
  SameNode,
  same_node,
  count-append,
  fits-append,
  built,
  begins_later,
  later_begins,
  canon_row,
  content_long,
}

-- the bytes begin with the canonical spellings of n messages, in k bytes
pub record Row (n : ℕ) (ys : List ℕ) (k : ℕ) : Type 0 where
  pub trees : Msgs
  pub rest : List ℕ
  pub many : count trees ≡ n
  pub fits : FitsAll trees
  pub front : ys ≡ canon_all trees ++ rest
  pub long : k ≡ length (canon_all trees)

-- a node of one of n messages begins at the offset, their canonical spellings come before it, and P holds of
-- the bytes from there on
pub record Among (P : List ℕ → Type 0) (n : ℕ) (ys : List ℕ) (p : ℕ) : Type 0 where
  pub trees : Msgs
  pub before : List ℕ
  pub following : List ℕ
  pub there : List ℕ
  pub many : count trees ≡ n
  pub fits : FitsAll trees
  pub begins : BeginsAmong trees p
  pub place : p ≡ length before
  pub spelled : canon_all trees ≡ before ++ following
  pub front : ys ≡ before ++ there
  pub holds : P there

-- ---- the first head and content

-- the bytes after the first head and content of a row
record OpensRow (n : ℕ) (ys : List ℕ) (k : ℕ) : Type 0 where
  pub tree : Msg
  pub left : List ℕ
  pub later : ℕ
  pub fits : Fits tree
  pub front : ys ≡ own tree ++ left
  pub place : k ≡ length (own tree) + later
  pub row : Row (count (parts tree) + n) left later

record OpensAmong (P : List ℕ → Type 0) (n : ℕ) (ys : List ℕ) (p : ℕ) : Type 0 where
  pub tree : Msg
  pub left : List ℕ
  pub later : ℕ
  pub fits : Fits tree
  pub front : ys ≡ own tree ++ left
  pub place : p ≡ length (own tree) + later
  pub among : Among P (count (parts tree) + n) left later

row_opens : (n : ℕ) (ys : List ℕ) (k : ℕ) (trees : Msgs) (rest : List ℕ) → count trees ≡ suc n → FitsAll trees → ys ≡ canon_all trees ++ rest
    → k ≡ length (canon_all trees) → OpensRow n ys k
row_opens n ys k no_items rest c f e l = absurd (omega arith)
row_opens n ys k (item m ms) rest c f e l = record {
  tree = m;
  left = canon_all (append (parts m) ms) ++ rest;
  later = length (canon_all (append (parts m) ms));
  fits = f.0;
  front = e ∙ ap (λ z. z ++ rest) (canon_row m ms) ∙ append_assoc (own m) (canon_all (append (parts m) ms)) rest;
  place = l ∙ ap length (canon_row m ms) ∙ length-append (own m) (canon_all (append (parts m) ms));
  row = record {
    trees = append (parts m) ms;
    rest = rest;
    many = omega (arith, count-append (parts m) ms, c);
    fits = fits-append (parts m) ms
        (fits_parts m f.0) f.1;
    front = refl;
    long = refl;
  };
}

-- the bytes after a beginning of both
record Past (o c before following : List ℕ) (q : ℕ) : Type 0 where
  pub more : List ℕ
  pub is : before ≡ o ++ more
  pub split : c ≡ more ++ following
  pub long : q ≡ length more

past : (o c before following : List ℕ) (q : ℕ) → o ++ c ≡ before ++ following → length before ≡ length o + q → Past o c before following q
past [] c before following q e l = record { more = before; is = refl; split = e; long = omega arith }
past (x ∷ o) c [] following q e l = absurd (omega arith)
past (x ∷ o) c (y ∷ before) following q e l =
    let head : x ≡ y = cc in
    let tail : o ++ c ≡ before ++ following = cc in
    let i = past o c before following q tail (omega arith) in
    record { more = i.more; is = ap (λ z. z ∷ before) (sym head) ∙ ap (λ z. x ∷ z) i.is; split = i.split; long = i.long }

none_of : (s : List ℕ) → length s ≡ 0 → s ≡ []
none_of [] l = refl
none_of (b ∷ s) l = absurd (omega arith)

among_opens : (P : List ℕ → Type 0) (n : ℕ) (ys : List ℕ) (p : ℕ) (trees : Msgs) (before following there : List ℕ) → count trees ≡ suc n → FitsAll trees
    → BeginsAmong trees p → p ≡ length before → canon_all trees ≡ before ++ following → ys ≡ before ++ there → P there
    → ((p ≡ 0) × P ys) ⊎ OpensAmong P n ys p
among_opens P n ys p no_items before following there c f b l s e h = absurd b
among_opens P n ys p (item m ms) before following there c f b l s e h = elim (begins_later m ms p b) [
  | inl z ↦ inl (z, subst P (sym (e ∙ ap (λ t. t ++ there) (none_of before (sym l ∙ z)))) h)
  | inr a ↦
      let u = past (own m) (canon_all (append (parts m) ms)) before following a.0 (sym (canon_row m ms) ∙ s) (sym l ∙ a.1) in
      inr (record {
        tree = m;
        left = u.more ++ there;
        later = a.0;
        fits = f.0;
        front = e ∙ ap (λ t. t ++ there) u.is ∙ append_assoc (own m) u.more there;
        place = a.1;
        among = record {
          trees = append (parts m) ms;
          before = u.more;
          following = following;
          there = there;
          many = omega (arith, count-append (parts m) ms, c);
          fits = fits-append (parts m) ms (fits_parts m f.0) f.1;
          begins = a.2;
          place = u.long;
          spelled = u.split;
          front = refl;
          holds = h;
        };
      })
]

opens_row : {n : ℕ} {ys : List ℕ} {k : ℕ} → Row (suc n) ys k → OpensRow n ys k
opens_row {n} {ys} {k} r = row_opens n ys k r.trees r.rest r.many r.fits r.front r.long

opens_among : {P : List ℕ → Type 0} {n : ℕ} {ys : List ℕ} {p : ℕ} → Among P (suc n) ys p → ((p ≡ 0) × P ys) ⊎ OpensAmong P n ys p
opens_among {P} {n} {ys} {p} r = among_opens P n ys p r.trees r.before r.following r.there r.many r.fits r.begins r.place r.spelled r.front r.holds

-- ---- the bytes begin with no canonical head and content

abbrev pub NoNode : List ℕ → Type 0
NoNode ys = (m : Msg) (z : List ℕ) → Fits m → ys ≡ own m ++ z → ⊥

no_row : (n : ℕ) (ys : List ℕ) (k : ℕ) → NoNode ys → Row (suc n) ys k → ⊥
no_row n ys k none r = let o = opens_row r in none o.tree o.left o.fits o.front

only_here : (P : List ℕ → Type 0) (n : ℕ) (ys : List ℕ) (p : ℕ) → NoNode ys → Among P (suc n) ys p → (p ≡ 0) × P ys
only_here P n ys p none a = elim (opens_among a) [ inl z ↦ z | inr o ↦ absurd (none o.tree o.left o.fits o.front) ]

abbrev nils : ℕ → Msgs
nils zero = no_items
nils (suc n) = item nil (nils n)

nils_many : (n : ℕ) → count (nils n) ≡ n
nils_many zero = refl
nils_many (suc n) = ap suc (nils_many n)

nils_fit : (n : ℕ) → FitsAll (nils n)
unfolding fits_head
nils_fit zero = tt
nils_fit (suc n) = (tt, nils_fit n)

among_here : (P : List ℕ → Type 0) (n : ℕ) (ys : List ℕ) → P ys → Among P (suc n) ys 0
among_here P n ys h = record {
  trees = item nil (nils n);
  before = [];
  following = canon_all (item nil (nils n));
  there = ys;
  many = ap suc (nils_many n);
  fits = nils_fit (suc n);
  begins = inl refl;
  place = refl;
  spelled = refl;
  front = refl;
  holds = h;
}

-- another head is there
pub other_none : (ys : List ℕ) → OpensOther ys → NoNode ys
other_none ys o m z f e =
    let c = canon_head (head_of m) in
    let u = heads_differ (head_of m) o.head c o.bytes (content m ++ z) o.rest (canon_is_head (head_of m) (fits_own m f)) o.is_head
    (sym (append_assoc c (content m) z) ∙ sym e ∙ o.front) in
    o.other (subst (IsCanonicalHead o.head) (ap canon_head (sym u.0) ∙ u.1) (canonical_head_made o.head (head_fits o.head o.bytes o.is_head)))

-- ---- a canonical head was taken, and its content

module _ (h : Head) (s : List ℕ) (f : fits_head h) (l : length s ≡ content_len h) (b : IsBytes s) (n : ℕ) (zs : List ℕ) where
  whole : (m : Msg) (others ms : Msgs) → own m ≡ canon_head h ++ s → append (parts m) others ≡ ms
      → canon_all (item m others) ≡ (canon_head h ++ s) ++ canon_all ms
  whole m others ms e p = canon_row m others ∙ ap (λ z. z ++ canon_all (append (parts m) others)) e ∙ ap (λ z. (canon_head h ++ s) ++ canon_all z) p

  row_to : (k : ℕ) → Row (parts_after h + n) zs k → Row (suc n) ((canon_head h ++ s) ++ zs) (length (canon_head h ++ s) + k)
  row_to k r =
      let w = built h s n r.trees f l b r.many r.fits in
      let t = whole w.tree w.others r.trees w.own_is w.split in
      record {
        trees = item w.tree w.others;
        rest = r.rest;
        many = ap suc w.left;
        fits = (w.fits, w.others_fit);
        front = ap (λ z. (canon_head h ++ s) ++ z) r.front ∙ sym (append_assoc (canon_head h ++ s) (canon_all r.trees) r.rest) ∙ ap (λ z. z ++ r.rest) (sym t);
        long = ap (λ z. length (canon_head h ++ s) + z) r.long ∙ sym (length-append (canon_head h ++ s) (canon_all r.trees)) ∙ ap length (sym t);
      }

  among_to : (P : List ℕ → Type 0) (q : ℕ) → Among P (parts_after h + n) zs q → Among P (suc n) ((canon_head h ++ s) ++ zs) (length (canon_head h ++ s) + q)
  among_to P q r =
      let w = built h s n r.trees f l b r.many r.fits in
      let t = whole w.tree w.others r.trees w.own_is w.split in
      let begins = later_begins w.tree w.others q (subst (λ z. BeginsAmong z q) (sym w.split) r.begins) in
      record {
        trees = item w.tree w.others;
        before = (canon_head h ++ s) ++ r.before;
        following = r.following;
        there = r.there;
        many = ap suc w.left;
        fits = (w.fits, w.others_fit);
        begins = subst (λ z. BeginsAmong (item w.tree w.others) (length z + q)) w.own_is begins;
        place = ap (λ z. length (canon_head h ++ s) + z) r.place ∙ sym (length-append (canon_head h ++ s) r.before);
        spelled = t ∙ ap (λ z. (canon_head h ++ s) ++ z) r.spelled ∙ sym (append_assoc (canon_head h ++ s) r.before r.following);
        front = ap (λ z. (canon_head h ++ s) ++ z) r.front ∙ sym (append_assoc (canon_head h ++ s) r.before r.there);
        holds = r.holds;
      }

  row_from : (k : ℕ) → Row (suc n) ((canon_head h ++ s) ++ zs) k → (j : ℕ) × (k ≡ length (canon_head h ++ s) + j) × Row (parts_after h + n) zs j
  row_from k r =
      let o = opens_row r in
      let u = same_node o.tree h s o.left zs o.fits f l (sym o.front) in
      let row = subst (λ z. Row (count (parts o.tree) + n) z o.later) u.rest_same o.row in
      (o.later, o.place ∙ ap (λ z. length z + o.later) u.own_same, subst (λ z. Row (z + n) zs o.later) u.many row)

  among_from : (P : List ℕ → Type 0) → (P ((canon_head h ++ s) ++ zs) → ⊥) → (p : ℕ) → Among P (suc n) ((canon_head h ++ s) ++ zs) p
      → (q : ℕ) × (p ≡ length (canon_head h ++ s) + q) × Among P (parts_after h + n) zs q
  among_from P bad p r = elim (opens_among r) [
    | inl z ↦ absurd (bad z.1)
    | inr o ↦
        let u = same_node o.tree h s o.left zs o.fits f l (sym o.front) in
        let row = subst (λ z. Among P (count (parts o.tree) + n) z o.later) u.rest_same o.among in
        (o.later, o.place ∙ ap (λ z. length z + o.later) u.own_same, subst (λ z. Among P (z + n) zs o.later) u.many row)
  ]

  no_other : OpensOther ((canon_head h ++ s) ++ zs) → ⊥
  no_other o =
      let u = heads_differ h o.head (canon_head h) o.bytes (s ++ zs) o.rest (canon_is_head h f) o.is_head (sym (append_assoc (canon_head h) s zs) ∙ o.front) in
      o.other (subst (IsCanonicalHead o.head) (ap canon_head (sym u.0) ∙ u.1) (canonical_head_made o.head (head_fits o.head o.bytes o.is_head)))

-- ---- one message

one_row : (input : List ℕ) (n : ℕ) → IsWhole input n → Row 1 input n
one_row input n w = record {
  trees = item w.tree no_items;
  rest = w.rest;
  many = refl;
  fits = (w.fits, tt);
  front = w.front ∙ ap (λ z. z ++ w.rest) (sym (append-nil (canon w.tree)));
  long = w.long ∙ ap length (sym (append-nil (canon w.tree)));
}

row_whole : (input : List ℕ) (k : ℕ) (trees : Msgs) (rest : List ℕ) → count trees ≡ 1 → FitsAll trees → input ≡ canon_all trees ++ rest
    → k ≡ length (canon_all trees) → IsWhole input k
row_whole input k no_items rest c f e l = absurd (omega arith)
row_whole input k (item m no_items) rest c f e l = record {
  tree = m;
  rest = rest;
  fits = f.0;
  front = e ∙ ap (λ z. z ++ rest) (append-nil (canon m));
  long = l ∙ ap length (append-nil (canon m));
}
row_whole input k (item m (item x ms)) rest c f e l = absurd (omega arith)

reached : (P : List ℕ → Type 0) (input : List ℕ) (p : ℕ) → Reaches P input p → Among P 1 input p
reached P input p r = record {
  trees = item r.tree no_items;
  before = r.before;
  following = r.following;
  there = r.there;
  many = refl;
  fits = (r.fits, tt);
  begins = inl r.begins;
  place = r.place;
  spelled = append-nil (canon r.tree) ∙ r.spelled;
  front = r.front;
  holds = r.holds;
}

reaches : (P : List ℕ → Type 0) (input : List ℕ) (p : ℕ) (trees : Msgs) (before following there : List ℕ) → count trees ≡ 1 → FitsAll trees
    → BeginsAmong trees p → p ≡ length before → canon_all trees ≡ before ++ following → input ≡ before ++ there → P there → Reaches P input p
reaches P input p no_items before following there c f b l s e h = absurd b
reaches P input p (item m no_items) before following there c f (inl b) l s e h = record {
  tree = m;
  before = before;
  following = following;
  there = there;
  fits = f.0;
  begins = b;
  place = l;
  spelled = sym (append-nil (canon m)) ∙ s;
  front = e;
  holds = h;
}
reaches P input p (item m no_items) before following there c f (inr a) l s e h = absurd a.2
reaches P input p (item m (item x ms)) before following there c f b l s e h = absurd (omega arith)

-- ---- all that was consumed, and what remains then

-- What holds of the input holds of its remaining bytes, where this many messages remain.
pub record Follows (input : List ℕ) (wanted : ℕ) (left : List ℕ) (at : ℕ) : Type 0 where
  pub whole_to : (k : ℕ) → Row wanted left k → IsWhole input (at + k)
  pub whole_from : (n : ℕ) → IsWhole input n → (k : ℕ) × (n ≡ at + k) × Row wanted left k
  pub fault_to : (q : ℕ) → Among OpensOther wanted left q → IsFault input (at + q)
  pub fault_from : (p : ℕ) → IsFault input p → (q : ℕ) × (p ≡ at + q) × Among OpensOther wanted left q
  pub stops_to : (e : Error) (q : ℕ) → Among (StopsFor e) wanted left q → Reaches (StopsFor e) input (at + q)
  pub place : length input ≡ at + length left

zero_more : (k : ℕ) → k ≡ 0 + k
zero_more k = omega arith

-- nothing was taken
pub follows_all : (input : List ℕ) → Follows input 1 input 0
follows_all input = record {
  whole_to = λ k r. subst (IsWhole input) (zero_more k) (row_whole input k r.trees r.rest r.many r.fits r.front r.long);
  whole_from = λ n w. (n, zero_more n, one_row input n w);
  fault_to = λ q a. subst (IsFault input) (zero_more q)
      (reaches OpensOther input q a.trees a.before a.following a.there a.many a.fits a.begins a.place a.spelled a.front a.holds);
  fault_from = λ p f. (p, zero_more p, reached OpensOther input p f);
  stops_to = λ e q a. subst (Reaches (StopsFor e) input) (zero_more q)
      (reaches (StopsFor e) input q a.trees a.before a.following a.there a.many a.fits a.begins a.place a.spelled a.front a.holds);
  place = zero_more (length input);
}

more : (at n k : ℕ) → at + (n + k) ≡ at + n + k
more at n k = omega arith

-- a canonical head and its content were taken
pub follows_head : (input : List ℕ) (n at : ℕ) (h : Head) (s zs : List ℕ) → fits_head h → length s ≡ content_len h → IsBytes s
    → Follows input (suc n) ((canon_head h ++ s) ++ zs) at → Follows input (parts_after h + n) zs (at + length (canon_head h ++ s))
follows_head input n at h s zs f l b w =
    let a = length (canon_head h ++ s) in
    record {
      whole_to = λ k r. subst (IsWhole input) (more at a k) (w.whole_to (a + k) (row_to h s f l b n zs k r));
      whole_from = λ m i.
          let o = w.whole_from m i in
          let u = row_from h s f l b n zs o.0 o.2 in
          (u.0, o.1 ∙ ap (λ z. at + z) u.1 ∙ more at a u.0, u.2);
      fault_to = λ q r. subst (IsFault input) (more at a q) (w.fault_to (a + q) (among_to h s f l b n zs OpensOther q r));
      fault_from = λ p i.
          let o = w.fault_from p i in
          let u = among_from h s f l b n zs OpensOther (no_other h s f l b n zs) o.0 o.2 in
          (u.0, o.1 ∙ ap (λ z. at + z) u.1 ∙ more at a u.0, u.2);
      stops_to = λ e q r. subst (Reaches (StopsFor e) input) (more at a q) (w.stops_to e (a + q) (among_to h s f l b n zs (StopsFor e) q r));
      place = w.place ∙ ap (λ z. at + z) (length-append (canon_head h ++ s) zs) ∙ more at a (length zs);
    }

-- ---- what is answered

nothing_more : (at : ℕ) → at + 0 ≡ at
nothing_more at = omega arith

empty_row : (ys : List ℕ) → Row 0 ys 0
empty_row ys = record { trees = no_items; rest = ys; many = refl; fits = tt; front = refl; long = refl }

row_empty : (ys : List ℕ) (k : ℕ) (trees : Msgs) → count trees ≡ 0 → k ≡ length (canon_all trees) → k ≡ 0
row_empty ys k no_items c l = l
row_empty ys k (item m ms) c l = absurd (omega arith)

among_empty : (trees : Msgs) (p : ℕ) → count trees ≡ 0 → BeginsAmong trees p → ⊥
among_empty no_items p c b = b
among_empty (item m ms) p c b = absurd (omega arith)

module _ (input left : List ℕ) (at : ℕ) where
  -- no more remains
  module _ (w : Follows input 0 left at) where
    pub done_whole : IsWhole input at
    done_whole = subst (IsWhole input) (nothing_more at) (w.whole_to 0 (empty_row left))

    pub done_only : (n : ℕ) → IsWhole input n → n ≡ at
    done_only n i = let o = w.whole_from n i in o.1 ∙ ap (λ z. at + z) (row_empty left o.0 o.2.trees o.2.many o.2.long) ∙ nothing_more at

    pub done_fault : (p : ℕ) → IsFault input p → ⊥
    done_fault p i = let o = w.fault_from p i in among_empty o.2.trees o.0 o.2.many o.2.begins

  -- another message remains
  module _ (n : ℕ) (w : Follows input (suc n) left at) where
    pub none_whole : NoNode left → (k : ℕ) → IsWhole input k → ⊥
    none_whole none k i = let o = w.whole_from k i in no_row n left o.0 none o.2

    fault_at : NoNode left → (p : ℕ) → IsFault input p → (p ≡ at) × OpensOther left
    fault_at none p i =
        let o = w.fault_from p i in
        let u = only_here OpensOther n left o.0 none o.2 in
        (o.1 ∙ ap (λ z. at + z) u.0 ∙ nothing_more at, u.1)

    pub none_fault : NoNode left → (OpensOther left → ⊥) → (p : ℕ) → IsFault input p → ⊥
    none_fault none other p i = other (fault_at none p i).1

    pub here_fault : OpensOther left → IsFault input at
    here_fault o = subst (IsFault input) (nothing_more at) (w.fault_to 0 (among_here OpensOther n left o))

    pub here_only : OpensOther left → (p : ℕ) → IsFault input p → p ≡ at
    here_only o p i = (fault_at (other_none left o) p i).0

    pub here_stops : (e : Error) → StopsFor e left → Reaches (StopsFor e) input at
    here_stops e s = subst (Reaches (StopsFor e) input) (nothing_more at) (w.stops_to e 0 (among_here (StopsFor e) n left s))

-- ---- there is one answer

own_some : (m : Msg) → Fits m → 0 < length (own m)
own_some m f =
    let b = head_byte false (head_of m) (canon_head (head_of m)) (canon_is_head (head_of m) (fits_own m f)) in
    omega (arith, ap length b.2, length-append (canon_head (head_of m)) (content m))

node_once : (m k : Msg) (x y : List ℕ) → Fits m → Fits k → own m ++ x ≡ own k ++ y → SameNode m (own k) x y (parts_after (head_of k))
node_once m k x y f g e = same_node m (head_of k) (content k) x y f (fits_own k g) (content_long k) e

-- where no message can be taken the checker stops, so what holds there holds at one place
among_once : (P Q : List ℕ → Type 0) → ((ys : List ℕ) → P ys → NoNode ys) → ((ys : List ℕ) → Q ys → NoNode ys) → (fuel n : ℕ) (ys : List ℕ) (p q : ℕ)
    → length ys < fuel → Among P n ys p → Among Q n ys q → p ≡ q
among_once P Q bad wrong zero n ys p q l a b = absurd (omega arith)
among_once P Q bad wrong (suc fuel) zero ys p q l a b = absurd (among_empty a.trees p a.many a.begins)
among_once P Q bad wrong (suc fuel) (suc n) ys p q l a b = elim (opens_among a) [
  | inl y ↦ y.0 ∙ sym (only_here Q n ys q (bad ys y.1) b).0
  | inr o ↦ elim (opens_among b) [
    | inl z ↦ absurd (wrong ys z.1 o.tree o.left o.fits o.front)
    | inr t ↦
        let u = node_once o.tree t.tree o.left t.left o.fits t.fits (sym o.front ∙ t.front) in
        let v = node_once t.tree t.tree t.left t.left t.fits t.fits refl in
        let moved = subst (λ z. Among P (count (parts o.tree) + n) z o.later) u.rest_same o.among in
        let first = subst (λ z. Among P (z + n) t.left o.later) (u.many ∙ sym v.many) moved in
        let f = t.front in
        let i = among_once P Q bad wrong fuel (count (parts t.tree) + n) t.left o.later t.later
        (omega (arith, own_some t.tree t.fits, ap length f, length-append (own t.tree) t.left)) first t.among in
        o.place ∙ ap (λ z. length z + o.later) u.own_same ∙ ap (λ z. length (own t.tree) + z) i ∙ sym t.place
  ]
]

never_both : (P : List ℕ → Type 0) → ((ys : List ℕ) → P ys → NoNode ys) → (fuel n : ℕ) (ys : List ℕ) (k p : ℕ) → length ys < fuel → Row n ys k
    → Among P n ys p → ⊥
never_both P bad zero n ys k p l r a = absurd (omega arith)
never_both P bad (suc fuel) zero ys k p l r a = among_empty a.trees p a.many a.begins
never_both P bad (suc fuel) (suc n) ys k p l r a =
    let t = opens_row r in
    elim (opens_among a) [
      | inl y ↦ no_row n ys k (bad ys y.1) r
      | inr o ↦
          let u = node_once o.tree t.tree o.left t.left o.fits t.fits (sym o.front ∙ t.front) in
          let v = node_once t.tree t.tree t.left t.left t.fits t.fits refl in
          let moved = subst (λ z. Among P (count (parts o.tree) + n) z o.later) u.rest_same o.among in
          let first = subst (λ z. Among P (z + n) t.left o.later) (u.many ∙ sym v.many) moved in
          let f = t.front in
          never_both P bad fuel (count (parts t.tree) + n) t.left t.later o.later
          (omega (arith, own_some t.tree t.fits, ap length f, length-append (own t.tree) t.left)) t.row first
    ]

pub one_length : (input : List ℕ) (m n : ℕ) → IsWhole input m → IsWhole input n → m ≡ n
one_length input m n v w = v.long ∙ ap length (spelled_once v.tree w.tree (canon v.tree) (canon w.tree) v.rest w.rest (canon_spells v.tree v.fits)
    (canon_spells w.tree w.fits) (sym v.front ∙ w.front)).0 ∙ sym w.long

pub one_place : (input : List ℕ) (p q : ℕ) → IsFault input p → IsFault input q → p ≡ q
one_place input p q f g = among_once OpensOther OpensOther other_none other_none (suc (length input)) 1 input p q (omega arith)
    (reached OpensOther input p f) (reached OpensOther input q g)

-- where the checker stops inside of it, no message is whole
pub whole_or_stop : (P : List ℕ → Type 0) → ((ys : List ℕ) → P ys → NoNode ys) → (input : List ℕ) (n p : ℕ) → IsWhole input n → Reaches P input p → ⊥
whole_or_stop P bad input n p w f = never_both P bad (suc (length input)) 1 input n p (omega arith) (one_row input n w) (reached P input p f)

pub whole_or_fault : (input : List ℕ) (n p : ℕ) → IsWhole input n → IsFault input p → ⊥
whole_or_fault input n p w f = whole_or_stop OpensOther other_none input n p w f

-- Two reasons to stop hold of the same bytes.
pub one_stop : (P Q : List ℕ → Type 0) → ((ys : List ℕ) → P ys → NoNode ys) → ((ys : List ℕ) → Q ys → NoNode ys) → (input : List ℕ) (p q : ℕ)
    → Reaches P input p → Reaches Q input q → (ys : List ℕ) × P ys × Q ys
one_stop P Q bad wrong input p q a b =
    let place = among_once P Q bad wrong (suc (length input)) 1 input p q (omega arith) (reached P input p a) (reached Q input q b) in
    let there = (same_front a.before b.before a.there b.there (sym a.place ∙ place ∙ b.place) (sym a.front ∙ b.front)).1 in
    (b.there, subst P there a.holds, b.holds)
