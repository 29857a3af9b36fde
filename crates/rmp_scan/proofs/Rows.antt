-- Messages one after another: the first one's head and payload, and then its parts and the others.
use Rattle.std.proofs.Common.{◌≡◌, ◌∙◌, sym, ap, subst, refl, ℕ, zero, suc, ◌+◌, ◌*◌, ◌<◌, arith, List, [], ◌∷◌, ◌++◌, length, append_assoc}
use Rattle.std.proofs.lemmas.List.{append-nil}
use Rattle.rmp_wire.specs.declared.head.Head.{Head}
use Rattle.rmp_wire.specs.declared.head.Head.TheVariants.{Nil, Truth, Whole, F32Bits, F64Bits, Text, Bin, Array, Map, Ext}
use Rattle.rmp_wire.specs.Heads.{IsHead}
use Rattle.rmp_wire.specs.Msg.{
  Msg,
  nil,
  truth,
  whole,
  float32,
  float64,
  text,
  bin,
  list,
  map,
  extension,
  Msgs,
  no_items,
  item,
  Pairs,
  no_pairs,
  pair,
  count,
  count_pairs,
}
use Rattle.rmp_wire.specs.Spelling.{IsBytes, Spells, SpellsAll, SpellsPairs, head_of}
use Rattle.rmp_wire.proofs.Canon.{canon_head_least}
use Rattle.rmp_wire.proofs.Heads.{heads_differ}
use Rattle.rmp_wire.proofs.Writing.{head_some}
use Rattle.rmp_decode.specs.Kinds.{content_len}
use Rattle.rmp_scan.specs.Parts.{parts_after}
use Rattle.rmp_scan.specs.Openings.{SpellsSome}

-- ---- rows

abbrev append : Msgs → Msgs → Msgs
append no_items ys = ys
append (item m xs) ys = item m (append xs ys)

count-append : (xs ys : Msgs) → count (append xs ys) ≡ count xs + count ys
count-append no_items ys = omega arith
count-append (item m xs) ys = let i = count-append xs ys in omega arith

spells-append : (xs ys : Msgs) (a b : List ℕ) → SpellsAll a xs → SpellsAll b ys → SpellsAll (a ++ b) (append xs ys)
spells-append no_items ys a b p q = subst (λ z. SpellsAll z ys) (ap (λ z. z ++ b) (sym p)) q
spells-append (item m xs) ys a b p q = record {
  first = p.first;
  second = p.second ++ b;
  is_first = p.is_first;
  is_second = spells-append xs ys p.second b p.is_second q;
  is_whole = ap (λ z. z ++ b) p.is_whole ∙ append_assoc p.first p.second b;
}

pub some-append : (i n : ℕ) (a b : List ℕ) → SpellsSome i a → SpellsSome n b → SpellsSome (i + n) (a ++ b)
some-append i n a b p q = record {
  trees = append p.trees q.trees;
  many = (let l = p.many in let k = q.many in omega (arith, count-append p.trees q.trees, l, k));
  spelled = spells-append p.trees q.trees a b p.spelled q.spelled;
}

record Halves (k n : ℕ) (b : List ℕ) : Type 0 where
  pub front : Msgs
  pub others : Msgs
  pub first : List ℕ
  pub second : List ℕ
  pub split : b ≡ first ++ second
  pub many : count front ≡ k
  pub left : count others ≡ n
  pub spelled : SpellsAll first front
  pub others_spelled : SpellsAll second others

halves : (k n : ℕ) (ms : Msgs) (b : List ℕ) → count ms ≡ k + n → SpellsAll b ms → Halves k n b
halves zero n ms b c s = record {
  front = no_items;
  others = ms;
  first = [];
  second = b;
  split = refl;
  many = refl;
  left = omega arith;
  spelled = refl;
  others_spelled = s;
}
halves (suc k) n no_items b c s = absurd (omega arith)
halves (suc k) n (item m ms) b c s =
    let i = halves k n ms s.second (omega arith) s.is_second in
    record {
      front = item m i.front;
      others = i.others;
      first = s.first ++ i.first;
      second = i.second;
      split = s.is_whole ∙ ap (λ z. s.first ++ z) i.split ∙ sym (append_assoc s.first i.first i.second);
      many = ap suc i.many;
      left = i.left;
      spelled = record { first = s.first; second = i.first; is_first = s.is_first; is_second = i.spelled; is_whole = refl };
      others_spelled = i.others_spelled;
    }

record Paired (k : ℕ) (b : List ℕ) : Type 0 where
  pub pairs : Pairs
  pub many : count_pairs pairs ≡ k
  pub spelled : SpellsPairs b pairs

paired : (k : ℕ) (ms : Msgs) (b : List ℕ) → count ms ≡ 2 * k → SpellsAll b ms → Paired k b
paired zero no_items b c s = record { pairs = no_pairs; many = refl; spelled = s }
paired zero (item m ms) b c s = absurd (omega arith)
paired (suc k) no_items b c s = absurd (omega arith)
paired (suc k) (item m no_items) b c s = absurd (omega arith)
paired (suc k) (item m (item v ms)) b c s =
    let t = s.is_second in
    let i = paired k ms t.second (omega arith) t.is_second in
    record {
      pairs = pair m v i.pairs;
      many = ap suc i.many;
      spelled = record {
        first = s.first;
        second = s.second;
        is_first = s.is_first;
        is_second = record { first = t.first; second = t.second; is_first = t.is_first; is_second = i.spelled; is_whole = t.is_whole };
        is_whole = s.is_whole;
      };
    }

abbrev turned : Pairs → Msgs
turned no_pairs = no_items
turned (pair k v ps) = item k (item v (turned ps))

count-turned : (ps : Pairs) → count (turned ps) ≡ 2 * count_pairs ps
count-turned no_pairs = refl
count-turned (pair k v ps) = let i = count-turned ps in omega arith

spells-turned : (ps : Pairs) (b : List ℕ) → SpellsPairs b ps → SpellsAll b (turned ps)
spells-turned no_pairs b s = s
spells-turned (pair k v ps) b s =
    let t = s.is_second in
    record {
      first = s.first;
      second = s.second;
      is_first = s.is_first;
      is_second = record { first = t.first; second = t.second; is_first = t.is_first; is_second = spells-turned ps t.second t.is_second; is_whole = t.is_whole };
      is_whole = s.is_whole;
    }

-- ---- a head with its payload, and how many messages are its parts

pub record Node (xs : List ℕ) (parts : ℕ) : Type 0 where
  pub head : Head
  pub bytes : List ℕ
  pub payload : List ℕ
  pub front : xs ≡ bytes ++ payload
  pub is_head : IsHead head bytes
  pub long : length payload ≡ content_len head
  pub are_bytes : IsBytes payload
  pub many : parts ≡ parts_after head

pub none_of : (s : List ℕ) → length s ≡ 0 → s ≡ []
none_of [] l = refl
none_of (b ∷ s) l = absurd (omega arith)

bare : (h : Head) (a s : List ℕ) → IsHead h a → length s ≡ 0 → IsHead h (a ++ s)
bare h a s i l = subst (IsHead h) (sym (append-nil a) ∙ ap (λ z. a ++ z) (sym (none_of s l))) i

one_more : (m : Msg) (b r : List ℕ) (n k : ℕ) → Spells b m → SpellsSome k r → k ≡ n → SpellsSome (suc n) (b ++ r)
one_more m b r n k s q e = record {
  trees = item m q.trees;
  many = ap suc (q.many ∙ e);
  spelled = record { first = b; second = r; is_first = s; is_second = q.spelled; is_whole = refl };
}

none_more : (n : ℕ) → 0 + n ≡ n
none_more n = omega arith

built : (h : Head) (a s r : List ℕ) (n : ℕ) → IsHead h a → length s ≡ content_len h → IsBytes s → SpellsSome (parts_after h + n) r
    → SpellsSome (suc n) ((a ++ s) ++ r)
built Nil a s r n i l b q = one_more nil (a ++ s) r n _ (bare Nil a s i l) q (none_more n)
built (Truth t) a s r n i l b q = one_more (truth t) (a ++ s) r n _ (bare (Truth t) a s i l) q (none_more n)
built (Whole z) a s r n i l b q = one_more (whole z) (a ++ s) r n _ (bare (Whole z) a s i l) q (none_more n)
built (F32Bits k) a s r n i l b q = one_more (float32 k) (a ++ s) r n _ (bare (F32Bits k) a s i l) q (none_more n)
built (F64Bits k) a s r n i l b q = one_more (float64 k) (a ++ s) r n _ (bare (F64Bits k) a s i l) q (none_more n)
built (Text k) a s r n i l b q = one_more (text s) (a ++ s) r n _
    (record { first = a; second = s; is_first = subst (λ z. IsHead (Text z) a) (sym l) i; is_second = (refl, b); is_whole = refl }) q (none_more n)
built (Bin k) a s r n i l b q = one_more (bin s) (a ++ s) r n _
    (record { first = a; second = s; is_first = subst (λ z. IsHead (Bin z) a) (sym l) i; is_second = (refl, b); is_whole = refl }) q (none_more n)
built (Ext k tag) a s r n i l b q = one_more (extension tag s) (a ++ s) r n _
    (record { first = a; second = s; is_first = subst (λ z. IsHead (Ext z tag) a) (sym l) i; is_second = (refl, b); is_whole = refl }) q (none_more n)
built (Array k) a s r n i l b q =
    let p = halves k n q.trees r q.many q.spelled in
    let m : SpellsSome (suc n) (((a ++ s) ++ p.first) ++ p.second) = one_more (list p.front) ((a ++ s) ++ p.first) p.second n n
    (record {
      first = a ++ s;
      second = p.first;
      is_first = subst (λ z. IsHead (Array z) (a ++ s)) (sym p.many) (bare (Array k) a s i l);
      is_second = p.spelled;
      is_whole = refl;
    })
    (record { trees = p.others; many = p.left; spelled = p.others_spelled }) refl in
    subst (SpellsSome (suc n)) (append_assoc (a ++ s) p.first p.second ∙ ap (λ z. (a ++ s) ++ z) (sym p.split)) m
built (Map k) a s r n i l b q =
    let p = halves (2 * k) n q.trees r q.many q.spelled in
    let t = paired k p.front p.first p.many p.spelled in
    let m : SpellsSome (suc n) (((a ++ s) ++ p.first) ++ p.second) = one_more (map t.pairs) ((a ++ s) ++ p.first) p.second n n
    (record {
      first = a ++ s;
      second = p.first;
      is_first = subst (λ z. IsHead (Map z) (a ++ s)) (sym t.many) (bare (Map k) a s i l);
      is_second = t.spelled;
      is_whole = refl;
    })
    (record { trees = p.others; many = p.left; spelled = p.others_spelled }) refl in
    subst (SpellsSome (suc n)) (append_assoc (a ++ s) p.first p.second ∙ ap (λ z. (a ++ s) ++ z) (sym p.split)) m

-- the parts and the others after a node make one message more
pub node_some : (xs r : List ℕ) (parts n : ℕ) → Node xs parts → SpellsSome (parts + n) r → SpellsSome (suc n) (xs ++ r)
node_some xs r parts n d q =
    subst (λ z. SpellsSome (suc n) (z ++ r)) (sym d.front)
    (built d.head d.bytes d.payload r n d.is_head d.long d.are_bytes (subst (λ z. SpellsSome (z + n) r) d.many q))

some_byte : (b : List ℕ) → 0 < length b → (x : ℕ) × (y : List ℕ) × (b ≡ x ∷ y)
some_byte [] l = absurd (omega arith)
some_byte (x ∷ y) l = (x, y, refl)

pub head_byte : (h : Head) (b : List ℕ) → IsHead h b → (x : ℕ) × (y : List ℕ) × (b ≡ x ∷ y)
head_byte h b i = some_byte b (omega (arith, canon_head_least h b i, head_some h))

-- ---- and the other way round

record Own (m : Msg) (b : List ℕ) : Type 0 where
  pub bytes : List ℕ
  pub payload : List ℕ
  pub rest : List ℕ
  pub front : b ≡ (bytes ++ payload) ++ rest
  pub is_head : IsHead (head_of m) bytes
  pub long : length payload ≡ content_len (head_of m)
  pub parts : SpellsSome (parts_after (head_of m)) rest

no_parts : SpellsSome 0 []
no_parts = record { trees = no_items; many = refl; spelled = refl }

own_leaf : (m : Msg) (b : List ℕ) → IsHead (head_of m) b → content_len (head_of m) ≡ 0 → parts_after (head_of m) ≡ 0 → Own m b
own_leaf m b i l p = record {
  bytes = b;
  payload = [];
  rest = [];
  front = sym (append-nil b) ∙ sym (append-nil (b ++ []));
  is_head = i;
  long = sym l;
  parts = subst (λ z. SpellsSome z []) (sym p) no_parts;
}

own_text : (m : Msg) (b a s t : List ℕ) → IsHead (head_of m) a → s ≡ t → b ≡ a ++ s → content_len (head_of m) ≡ length t → parts_after (head_of m) ≡ 0 → Own m b
own_text m b a s t i c e l p = record {
  bytes = a;
  payload = s;
  rest = [];
  front = e ∙ sym (append-nil (a ++ s));
  is_head = i;
  long = ap length c ∙ sym l;
  parts = subst (λ z. SpellsSome z []) (sym p) no_parts;
}

own_parts : (m : Msg) (b a s : List ℕ) → IsHead (head_of m) a → b ≡ a ++ s → content_len (head_of m) ≡ 0 → SpellsSome (parts_after (head_of m)) s → Own m b
own_parts m b a s i e l q = record {
  bytes = a;
  payload = [];
  rest = s;
  front = e ∙ ap (λ z. z ++ s) (sym (append-nil a));
  is_head = i;
  long = sym l;
  parts = q;
}

own : (m : Msg) (b : List ℕ) → Spells b m → Own m b
own nil b s = own_leaf nil b s refl refl
own (truth t) b s = own_leaf (truth t) b s refl refl
own (whole z) b s = own_leaf (whole z) b s refl refl
own (float32 n) b s = own_leaf (float32 n) b s refl refl
own (float64 n) b s = own_leaf (float64 n) b s refl refl
own (text t) b s = own_text (text t) b s.first s.second t s.is_first s.is_second.0 s.is_whole refl refl
own (bin t) b s = own_text (bin t) b s.first s.second t s.is_first s.is_second.0 s.is_whole refl refl
own (extension tag t) b s = own_text (extension tag t) b s.first s.second t s.is_first s.is_second.0 s.is_whole refl refl
own (list ms) b s = own_parts (list ms) b s.first s.second s.is_first s.is_whole refl (record { trees = ms; many = refl; spelled = s.is_second })
own (map ps) b s = own_parts (map ps) b s.first s.second s.is_first s.is_whole refl
    (record { trees = turned ps; many = count-turned ps; spelled = spells-turned ps s.second s.is_second })

pub same_front : (a b x y : List ℕ) → length a ≡ length b → a ++ x ≡ b ++ y → (a ≡ b) × (x ≡ y)
same_front [] [] x y l e = (refl, e)
same_front [] (c ∷ b) x y l e = absurd (omega arith)
same_front (c ∷ a) [] x y l e = absurd (omega arith)
same_front (c ∷ a) (d ∷ b) x y l e =
    let head : c ≡ d = cc in
    let tail : a ++ x ≡ b ++ y = cc in
    let i = same_front a b x y (omega arith) tail in
    (ap (λ z. z ∷ a) head ∙ ap (λ z. d ∷ z) i.0, i.1)

pub record After (xs ys : List ℕ) (n : ℕ) : Type 0 where
  pub rest : List ℕ
  pub front : ys ≡ xs ++ rest
  pub some : SpellsSome n rest

record Split (n : ℕ) (ys : List ℕ) : Type 0 where
  pub tree : Msg
  pub first : List ℕ
  pub second : List ℕ
  pub front : ys ≡ first ++ second
  pub own : Own tree first
  pub others : SpellsSome n second

split : (n : ℕ) (ms : Msgs) (ys : List ℕ) → count ms ≡ suc n → SpellsAll ys ms → Split n ys
split n no_items ys c s = absurd (omega (arith, c))
split n (item m ms) ys c s = record {
  tree = m;
  first = s.first;
  second = s.second;
  front = s.is_whole;
  own = own m s.first s.is_first;
  others = record { trees = ms; many = omega (arith, c); spelled = s.is_second };
}

-- where messages and then any bytes begin with a node, the messages do, and its parts and the others follow
pub node_first : (xs ys y z : List ℕ) (parts n : ℕ) → Node xs parts → SpellsSome (suc n) ys → ys ++ z ≡ xs ++ y → After xs ys (parts + n)
node_first xs ys y z parts n d q e =
    let s = split n q.trees ys q.many q.spelled in
    let o = s.own in
    let left : ys ≡ (o.bytes ++ o.payload) ++ (o.rest ++ s.second) = s.front ∙ ap (λ t. t ++ s.second) o.front
    ∙ append_assoc (o.bytes ++ o.payload) o.rest s.second in
    let tail : List ℕ = (o.rest ++ s.second) ++ z in
    let l1 : ys ++ z ≡ o.bytes ++ (o.payload ++ tail) = ap (λ t. t ++ z) left ∙ append_assoc (o.bytes ++ o.payload) (o.rest ++ s.second) z
    ∙ append_assoc o.bytes o.payload tail in
    let l2 : xs ++ y ≡ d.bytes ++ (d.payload ++ y) = ap (λ t. t ++ y) d.front ∙ append_assoc d.bytes d.payload y in
    let u = heads_differ (head_of s.tree) d.head o.bytes d.bytes (o.payload ++ tail) (d.payload ++ y) o.is_head d.is_head (sym l1 ∙ e ∙ l2) in
    let v = same_front o.payload d.payload tail y (o.long ∙ ap content_len u.0 ∙ sym d.long) u.2 in
    let same : o.bytes ++ o.payload ≡ xs = ap (λ t. t ++ o.payload) u.1 ∙ ap (λ t. d.bytes ++ t) v.0 ∙ sym d.front in
    let many : parts_after (head_of s.tree) ≡ parts = ap parts_after u.0 ∙ sym d.many in
    record {
      rest = o.rest ++ s.second;
      front = left ∙ ap (λ t. t ++ (o.rest ++ s.second)) same;
      some = subst (λ t. SpellsSome (t + n) (o.rest ++ s.second)) many (some-append (parts_after (head_of s.tree)) n o.rest s.second o.parts s.others);
    }

-- the first byte of messages is a head's
pub record FirstHead (ys : List ℕ) : Type 0 where
  pub head : Head
  pub byte : ℕ
  pub following : List ℕ
  pub rest : List ℕ
  pub front : ys ≡ byte ∷ (following ++ rest)
  pub is_head : IsHead head (byte ∷ following)

pub some_head : (n : ℕ) (ys : List ℕ) → SpellsSome (suc n) ys → FirstHead ys
some_head n ys q =
    let s = split n q.trees ys q.many q.spelled in
    let o = s.own in
    let b = head_byte (head_of s.tree) o.bytes o.is_head in
    let tail : List ℕ = (o.payload ++ o.rest) ++ s.second in
    record {
      head = head_of s.tree;
      byte = b.0;
      following = b.1;
      rest = tail;
      front = s.front ∙ ap (λ t. t ++ s.second) (o.front ∙ append_assoc o.bytes o.payload o.rest) ∙ append_assoc o.bytes (o.payload ++ o.rest) s.second
          ∙ ap (λ t. t ++ tail) b.2;
      is_head = subst (IsHead (head_of s.tree)) b.2 o.is_head;
    }
