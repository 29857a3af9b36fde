-- A message is its own head and content, and then its parts.
use Rattle.std.proofs.Common.{◌≡◌, ◌∙◌, sym, ap, subst, refl, ℕ, zero, suc, ◌+◌, ◌*◌, ◌⊎◌, inl, inr, arith, List, [], ◌∷◌, ◌++◌, length, append_assoc}
use Rattle.std.proofs.lemmas.List.{append-nil, length-append}
use Rattle.rmp_wire.specs.declared.head.Head.{Head}
use Rattle.rmp_wire.specs.declared.head.Head.TheVariants.{Nil, Truth, Whole, F32Bits, F64Bits, Text, Bin, Array, Map, Ext}
use Rattle.rmp_wire.specs.Heads.{canon_head, fits_head}
use Rattle.rmp_wire.specs.Msg.{
  Msg,
  nil,
  truth,
  whole,
  float32,
  float64,
  text,
  bin,
  list,
  map,
  extension,
  Msgs,
  no_items,
  item,
  Pairs,
  no_pairs,
  pair,
  count,
  count_pairs,
}
use Rattle.rmp_wire.specs.Spelling.{IsBytes, canon, canon_all, canon_pairs, Fits, FitsAll, FitsPairs, head_of}
use Rattle.rmp_wire.proofs.Canon.{canon_is_head}
use Rattle.rmp_wire.proofs.Heads.{heads_differ}
use Rattle.rmp_decode.specs.Kinds.{content_len}
use Rattle.rmp_decode.proofs.Rows.{append}
use Rattle.rmp_serde.specs.Places.{After, BeginsAt, BeginsAmong, BeginsAmongPairs, parts_after}

-- ---- heads, contents and parts

abbrev pub content : Msg → List ℕ
content (text s) = s
content (bin s) = s
content (extension tag s) = s
content m = []

-- keys and values in turn
abbrev pub turned : Pairs → Msgs
turned no_pairs = no_items
turned (pair k v ps) = item k (item v (turned ps))

abbrev pub parts : Msg → Msgs
parts (list ms) = ms
parts (map ps) = turned ps
parts m = no_items

-- the canonical head, and the content
abbrev pub own : Msg → List ℕ
own m = canon_head (head_of m) ++ content m

canon_turned : (ps : Pairs) → canon_pairs ps ≡ canon_all (turned ps)
canon_turned no_pairs = refl
canon_turned (pair k v ps) = ap (λ z. canon k ++ (canon v ++ z)) (canon_turned ps)

count_turned : (ps : Pairs) → count (turned ps) ≡ 2 * count_pairs ps
count_turned no_pairs = refl
count_turned (pair k v ps) = let i = count_turned ps in omega arith

fits_turned : (ps : Pairs) → FitsPairs ps → FitsAll (turned ps)
fits_turned no_pairs f = tt
fits_turned (pair k v ps) f = (f.0, (f.1, fits_turned ps f.2))

turned_fits : (ps : Pairs) → FitsAll (turned ps) → FitsPairs ps
turned_fits no_pairs f = tt
turned_fits (pair k v ps) f = (f.0, f.1.0, turned_fits ps f.1.1)

-- a leaf without parts, and a head without content
no_parts : (h s : List ℕ) → h ++ s ≡ (h ++ s) ++ []
no_parts h s = sym (append-nil (h ++ s))

no_content : (h : List ℕ) → h ≡ (h ++ []) ++ []
no_content h = sym (append-nil h) ∙ no_parts h []

following : (h s : List ℕ) → h ++ s ≡ (h ++ []) ++ s
following h s = ap (λ z. z ++ s) (sym (append-nil h))

pub canon_node : (m : Msg) → canon m ≡ own m ++ canon_all (parts m)
canon_node nil = no_content (canon_head Nil)
canon_node (truth t) = no_content (canon_head (Truth t))
canon_node (whole z) = no_content (canon_head (Whole z))
canon_node (float32 n) = no_content (canon_head (F32Bits n))
canon_node (float64 n) = no_content (canon_head (F64Bits n))
canon_node (text s) = no_parts (canon_head (Text (length s))) s
canon_node (bin s) = no_parts (canon_head (Bin (length s))) s
canon_node (list ms) = following (canon_head (Array (count ms))) (canon_all ms)
canon_node (map ps) = following (canon_head (Map (count_pairs ps))) (canon_pairs ps) ∙ ap (λ z. (canon_head (Map (count_pairs ps)) ++ []) ++ z) (canon_turned ps)
canon_node (extension tag s) = no_parts (canon_head (Ext (length s) tag)) s

pub fits_own : (m : Msg) → Fits m → fits_head (head_of m)
fits_own nil f = f
fits_own (truth t) f = f
fits_own (whole z) f = f
fits_own (float32 n) f = f
fits_own (float64 n) f = f
fits_own (text s) f = f.0
fits_own (bin s) f = f.0
fits_own (list ms) f = f.0
fits_own (map ps) f = f.0
fits_own (extension tag s) f = f.0

pub fits_parts : (m : Msg) → Fits m → FitsAll (parts m)
fits_parts nil f = tt
fits_parts (truth t) f = tt
fits_parts (whole z) f = tt
fits_parts (float32 n) f = tt
fits_parts (float64 n) f = tt
fits_parts (text s) f = tt
fits_parts (bin s) f = tt
fits_parts (list ms) f = f.1
fits_parts (map ps) f = fits_turned ps f.1
fits_parts (extension tag s) f = tt

pub content_long : (m : Msg) → length (content m) ≡ content_len (head_of m)
content_long nil = refl
content_long (truth t) = refl
content_long (whole z) = refl
content_long (float32 n) = refl
content_long (float64 n) = refl
content_long (text s) = refl
content_long (bin s) = refl
content_long (list ms) = refl
content_long (map ps) = refl
content_long (extension tag s) = refl

count_parts : (m : Msg) → count (parts m) ≡ parts_after (head_of m)
count_parts nil = refl
count_parts (truth t) = refl
count_parts (whole z) = refl
count_parts (float32 n) = refl
count_parts (float64 n) = refl
count_parts (text s) = refl
count_parts (bin s) = refl
count_parts (list ms) = refl
count_parts (map ps) = count_turned ps
count_parts (extension tag s) = refl

-- ---- one head and content at the front

pub same_front : (a b x y : List ℕ) → length a ≡ length b → a ++ x ≡ b ++ y → (a ≡ b) × (x ≡ y)
same_front [] [] x y l e = (refl, e)
same_front [] (c ∷ b) x y l e = absurd (omega arith)
same_front (c ∷ a) [] x y l e = absurd (omega arith)
same_front (c ∷ a) (d ∷ b) x y l e =
    let head : c ≡ d = cc in
    let tail : a ++ x ≡ b ++ y = cc in
    let i = same_front a b x y (omega arith) tail in
    (ap (λ z. z ∷ a) head ∙ ap (λ z. d ∷ z) i.0, i.1)

-- the head and the content at the front tell a message's own, and how many parts it has
pub record SameNode (m : Msg) (a x y : List ℕ) (n : ℕ) : Type 0 where
  pub own_same : own m ≡ a
  pub rest_same : x ≡ y
  pub many : count (parts m) ≡ n

pub same_node : (m : Msg) (h : Head) (s x y : List ℕ) → Fits m → fits_head h → length s ≡ content_len h → own m ++ x ≡ (canon_head h ++ s) ++ y
    → SameNode m (canon_head h ++ s) x y (parts_after h)
same_node m h s x y f g l e =
    let u = heads_differ (head_of m) h (canon_head (head_of m)) (canon_head h) (content m ++ x) (s ++ y) (canon_is_head (head_of m) (fits_own m f))
    (canon_is_head h g)
    (sym (append_assoc (canon_head (head_of m)) (content m) x) ∙ e ∙ append_assoc (canon_head h) s y) in
    let v = same_front (content m) s x y (content_long m ∙ ap content_len u.0 ∙ sym l) u.2 in
    record { own_same = ap (λ z. z ++ content m) u.1 ∙ ap (λ z. canon_head h ++ z) v.0; rest_same = v.1; many = count_parts m ∙ ap parts_after u.0 }

-- ---- a message of a head, a content and parts that were taken from the front of some

pub count-append : (xs ys : Msgs) → count (append xs ys) ≡ count xs + count ys
count-append no_items ys = omega arith
count-append (item m xs) ys = let i = count-append xs ys in omega arith

pub canon-append : (xs ys : Msgs) → canon_all (append xs ys) ≡ canon_all xs ++ canon_all ys
canon-append no_items ys = refl
canon-append (item m xs) ys = ap (λ z. canon m ++ z) (canon-append xs ys) ∙ sym (append_assoc (canon m) (canon_all xs) (canon_all ys))

pub fits-append : (xs ys : Msgs) → FitsAll xs → FitsAll ys → FitsAll (append xs ys)
fits-append no_items ys f g = g
fits-append (item m xs) ys f g = (f.0, fits-append xs ys f.1 g)

record Halves (k n : ℕ) (ms : Msgs) : Type 0 where
  pub front : Msgs
  pub others : Msgs
  pub split : append front others ≡ ms
  pub many : count front ≡ k
  pub left : count others ≡ n
  pub fits : FitsAll front
  pub others_fit : FitsAll others

halves : (k n : ℕ) (ms : Msgs) → count ms ≡ k + n → FitsAll ms → Halves k n ms
halves zero n ms c f = record { front = no_items; others = ms; split = refl; many = refl; left = omega arith; fits = tt; others_fit = f }
halves (suc k) n no_items c f = absurd (omega arith)
halves (suc k) n (item m ms) c f =
    let i = halves k n ms (omega arith) f.1 in
    record {
      front = item m i.front;
      others = i.others;
      split = ap (λ z. item m z) i.split;
      many = ap suc i.many;
      left = i.left;
      fits = (f.0, i.fits);
      others_fit = i.others_fit;
    }

record Paired (k : ℕ) (ms : Msgs) : Type 0 where
  pub pairs : Pairs
  pub same : turned pairs ≡ ms
  pub many : count_pairs pairs ≡ k

paired : (k : ℕ) (ms : Msgs) → count ms ≡ 2 * k → Paired k ms
paired zero no_items c = record { pairs = no_pairs; same = refl; many = refl }
paired zero (item m ms) c = absurd (omega arith)
paired (suc k) no_items c = absurd (omega arith)
paired (suc k) (item m no_items) c = absurd (omega arith)
paired (suc k) (item m (item v ms)) c =
    let i = paired k ms (omega arith) in
    record { pairs = pair m v i.pairs; same = ap (λ z. item m (item v z)) i.same; many = ap suc i.many }

pub record Built (h : Head) (s : List ℕ) (n : ℕ) (ms : Msgs) : Type 0 where
  pub tree : Msg
  pub others : Msgs
  pub own_is : own tree ≡ canon_head h ++ s
  pub split : append (parts tree) others ≡ ms
  pub left : count others ≡ n
  pub fits : Fits tree
  pub others_fit : FitsAll others

none_of : (s : List ℕ) → length s ≡ 0 → s ≡ []
none_of [] l = refl
none_of (b ∷ s) l = absurd (omega arith)

leaf : (m : Msg) (h : Head) (s : List ℕ) (n : ℕ) (ms : Msgs) → own m ≡ canon_head h ++ s → parts m ≡ no_items → Fits m → count ms ≡ 0 + n → FitsAll ms
    → Built h s n ms
leaf m h s n ms o p f c g = record { tree = m; others = ms; own_is = o; split = ap (λ z. append z ms) p; left = omega (arith, c); fits = f; others_fit = g }

bare : (h : Head) (s : List ℕ) → length s ≡ 0 → canon_head h ++ [] ≡ canon_head h ++ s
bare h s l = ap (λ z. canon_head h ++ z) (sym (none_of s l))

pub built : (h : Head) (s : List ℕ) (n : ℕ) (ms : Msgs) → fits_head h → length s ≡ content_len h → IsBytes s → count ms ≡ parts_after h + n → FitsAll ms
    → Built h s n ms
built Nil s n ms f l b c g = leaf nil Nil s n ms (bare Nil s l) refl f c g
built (Truth t) s n ms f l b c g = leaf (truth t) (Truth t) s n ms (bare (Truth t) s l) refl f c g
built (Whole z) s n ms f l b c g = leaf (whole z) (Whole z) s n ms (bare (Whole z) s l) refl f c g
built (F32Bits k) s n ms f l b c g = leaf (float32 k) (F32Bits k) s n ms (bare (F32Bits k) s l) refl f c g
built (F64Bits k) s n ms f l b c g = leaf (float64 k) (F64Bits k) s n ms (bare (F64Bits k) s l) refl f c g
built (Text k) s n ms f l b c g = leaf (text s) (Text k) s n ms (ap (λ z. canon_head (Text z) ++ s) l) refl (subst (λ z. fits_head (Text z)) (sym l) f, b) c g
built (Bin k) s n ms f l b c g = leaf (bin s) (Bin k) s n ms (ap (λ z. canon_head (Bin z) ++ s) l) refl (subst (λ z. fits_head (Bin z)) (sym l) f, b) c g
built (Array k) s n ms f l b c g =
    let p = halves k n ms c g in
    record {
      tree = list p.front;
      others = p.others;
      own_is = ap (λ z. canon_head (Array z) ++ []) p.many ∙ bare (Array k) s l;
      split = p.split;
      left = p.left;
      fits = (subst (λ z. fits_head (Array z)) (sym p.many) f, p.fits);
      others_fit = p.others_fit;
    }
built (Map k) s n ms f l b c g =
    let p = halves (2 * k) n ms c g in
    let q = paired k p.front p.many in
    record {
      tree = map q.pairs;
      others = p.others;
      own_is = ap (λ z. canon_head (Map z) ++ []) q.many ∙ bare (Map k) s l;
      split = ap (λ z. append z p.others) q.same ∙ p.split;
      left = p.left;
      fits = (subst (λ z. fits_head (Map z)) (sym q.many) f, turned_fits q.pairs (subst FitsAll (sym q.same) p.fits));
      others_fit = p.others_fit;
    }
built (Ext k tag) s n ms f l b c g = leaf (extension tag s) (Ext k tag) s n ms (ap (λ z. canon_head (Ext z tag) ++ s) l) refl
    (subst (λ z. fits_head (Ext z tag)) (sym l) f, b) c g

-- ---- where nodes begin

begins_turned : (ps : Pairs) (q : ℕ) → BeginsAmongPairs ps q → BeginsAmong (turned ps) q
begins_turned no_pairs q b = b
begins_turned (pair k v ps) q (inl b) = inl b
begins_turned (pair k v ps) q (inr a) = inr (a.0, a.1, elim a.2 [ inl b ↦ inl b | inr c ↦ inr (c.0, c.1, begins_turned ps c.0 c.2) ])

turned_begins : (ps : Pairs) (q : ℕ) → BeginsAmong (turned ps) q → BeginsAmongPairs ps q
turned_begins no_pairs q b = b
turned_begins (pair k v ps) q (inl b) = inl b
turned_begins (pair k v ps) q (inr a) = inr (a.0, a.1, elim a.2 [ inl b ↦ inl b | inr c ↦ inr (c.0, c.1, turned_begins ps c.0 c.2) ])

-- the first node begins at 0, and each other one after its head and content, among its parts
abbrev Later : Msg → Msgs → ℕ → Type 0
Later m ms p = (p ≡ 0) ⊎ After (length (own m)) (λ q. BeginsAmong ms q) p

own_long : (h : Head) → length (canon_head h) ≡ length (canon_head h ++ [])
own_long h = ap length (sym (append-nil (canon_head h)))

begins_own : (m : Msg) (p : ℕ) → BeginsAt m p → Later m (parts m) p
begins_own (list ms) p (inl z) = inl z
begins_own (list ms) p (inr a) = inr (a.0, a.1 ∙ ap (λ z. z + a.0) (own_long (Array (count ms))), a.2)
begins_own (map ps) p (inl z) = inl z
begins_own (map ps) p (inr a) = inr (a.0, a.1 ∙ ap (λ z. z + a.0) (own_long (Map (count_pairs ps))), begins_turned ps a.0 a.2)
begins_own nil p b = inl b
begins_own (truth t) p b = inl b
begins_own (whole z) p b = inl b
begins_own (float32 n) p b = inl b
begins_own (float64 n) p b = inl b
begins_own (text s) p b = inl b
begins_own (bin s) p b = inl b
begins_own (extension tag s) p b = inl b

own_begins : (m : Msg) (q : ℕ) → BeginsAmong (parts m) q → BeginsAt m (length (own m) + q)
own_begins (list ms) q b = inr (q, ap (λ z. z + q) (sym (own_long (Array (count ms)))), b)
own_begins (map ps) q b = inr (q, ap (λ z. z + q) (sym (own_long (Map (count_pairs ps)))), turned_begins ps q b)
own_begins nil q b = absurd b
own_begins (truth t) q b = absurd b
own_begins (whole z) q b = absurd b
own_begins (float32 n) q b = absurd b
own_begins (float64 n) q b = absurd b
own_begins (text s) q b = absurd b
own_begins (bin s) q b = absurd b
own_begins (extension tag s) q b = absurd b

pub first_begins : (m : Msg) → BeginsAt m 0
first_begins nil = refl
first_begins (truth t) = refl
first_begins (whole z) = refl
first_begins (float32 n) = refl
first_begins (float64 n) = refl
first_begins (text s) = refl
first_begins (bin s) = refl
first_begins (list ms) = inl refl
first_begins (map ps) = inl refl
first_begins (extension tag s) = refl

-- in the first part, or after all of it
long_all : (m : Msg) (ms : Msgs) → length (canon_all (item m ms)) ≡ length (canon m) + length (canon_all ms)
long_all m ms = length-append (canon m) (canon_all ms)

in_append : (xs ys : Msgs) (q : ℕ) → BeginsAmong xs q → BeginsAmong (append xs ys) q
in_append no_items ys q b = absurd b
in_append (item m xs) ys q (inl b) = inl b
in_append (item m xs) ys q (inr a) = inr (a.0, a.1, in_append xs ys a.0 a.2)

past_append : (xs ys : Msgs) (q : ℕ) → BeginsAmong ys q → BeginsAmong (append xs ys) (length (canon_all xs) + q)
past_append no_items ys q b = subst (BeginsAmong ys) (omega arith) b
past_append (item m xs) ys q b = inr (length (canon_all xs) + q, omega (arith, long_all m xs), past_append xs ys q b)

of_append : (xs ys : Msgs) (q : ℕ) → BeginsAmong (append xs ys) q → BeginsAmong xs q ⊎ After (length (canon_all xs)) (λ r. BeginsAmong ys r) q
of_append no_items ys q b = inr (q, omega arith, b)
of_append (item m xs) ys q (inl b) = inl (inl b)
of_append (item m xs) ys q (inr a) = elim (of_append xs ys a.0 a.2) [
  | inl b ↦ inl (inr (a.0, a.1, b))
  | inr c ↦ let e = a.1 in let f = c.1 in inr (c.0, omega (arith, long_all m xs, e, f), c.2)
]

node_long : (m : Msg) → length (canon m) ≡ length (own m) + length (canon_all (parts m))
node_long m = ap length (canon_node m) ∙ length-append (own m) (canon_all (parts m))

-- a node of a row begins at 0, or after the first one's head and content, in its parts or in the others
pub begins_later : (m : Msg) (ms : Msgs) (p : ℕ) → BeginsAmong (item m ms) p → Later m (append (parts m) ms) p
begins_later m ms p (inl b) = elim (begins_own m p b) [ inl z ↦ inl z | inr a ↦ inr (a.0, a.1, in_append (parts m) ms a.0 a.2) ]
begins_later m ms p (inr a) =
    let e = a.1 in
    inr (length (canon_all (parts m)) + a.0, omega (arith, node_long m, e), past_append (parts m) ms a.0 a.2)

pub later_begins : (m : Msg) (ms : Msgs) (q : ℕ) → BeginsAmong (append (parts m) ms) q → BeginsAmong (item m ms) (length (own m) + q)
later_begins m ms q b = elim (of_append (parts m) ms q b) [
  | inl c ↦ inl (own_begins m q c)
  | inr a ↦ let e = a.1 in inr (a.0, omega (arith, node_long m, e), a.2)
]

-- and the spelling of the whole row is the first one's head and content, and then its parts and the others
pub canon_row : (m : Msg) (ms : Msgs) → canon_all (item m ms) ≡ own m ++ canon_all (append (parts m) ms)
canon_row m ms =
    ap (λ z. z ++ canon_all ms) (canon_node m) ∙ append_assoc (own m) (canon_all (parts m)) (canon_all ms)
    ∙ ap (λ z. own m ++ z) (sym (canon-append (parts m) ms))
