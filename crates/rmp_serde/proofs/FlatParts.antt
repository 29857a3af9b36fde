-- What is at an index of a row.
use Rattle.std.proofs.Common.{
  ◌≡◌,
  ◌∙◌,
  sym,
  ap,
  subst,
  refl,
  ℕ,
  zero,
  suc,
  ◌+◌,
  ◌-◌,
  ◌*◌,
  ◌<◌,
  ◌≤◌,
  ◌⊎◌,
  inl,
  inr,
  arith,
  List,
  [],
  ◌∷◌,
  ◌++◌,
  length,
  drop,
  get_or,
  Some,
  None,
}
use Rattle.std.specs.Prelude.{slice_get, IfSome}
use Rattle.std.specs.List.{AllByRecursion}
use Rattle.std.specs.Str.{IsUtf8}
use Rattle.std.proofs.lemmas.List.{append-nil, drop-drop, get_or_default}
use Rattle.rmp_wire.specs.declared.head.Head.{Head}
use Rattle.rmp_wire.specs.declared.head.Head.TheVariants.{Nil, Truth, Whole, F32Bits, F64Bits, Text, Bin, Array, Map, Ext}
use Rattle.rmp_wire.specs.Msg.{Msg, nil, truth, whole, float32, float64, text, bin, list, map, extension, Msgs}
use Rattle.rmp_wire.specs.Msg.{no_items, item, Pairs, no_pairs, pair, count, count_pairs, items_of, pairs_of, depth, depth_all, depth_pairs}
use Rattle.rmp_wire.specs.Spelling.{head_of, Fits}
use Rattle.rmp_decode.proofs.Rows.{append}
use Rattle.rmp_serde.specs.Flat.{head_in, parts_in, takes_in, token_in, heads_in, heads_of, heads_all, EndsBy, IsFlat, IsRow, told_tree, span}
use Rattle.rmp_serde.specs.Parts.{text_of, item_of, pair_of, content_of, parts_of, parts_in_turn}
use Rattle.rmp_serde.specs.Read.{AllTextsUtf8, ItemsUtf8, PairsUtf8}
use Rattle.rmp_serde.specs.Tokens.{Token, tokens, tokens_all, flat_pairs, first_items, past_items, first_pairs, past_pairs, put_head, built, first_tree, row_from}
use Rattle.rmp_serde.specs.declared.value.flat.Node.{Node}
use Rattle.rmp_serde.specs.declared.value.flat.Nodes.{Nodes}
use Rattle.rmp_serde.specs.declared.value.flat.Node.TheVariants as nodes
use Rattle.rmp_serde.proofs.Tokens.{built_tree}
use Rattle.rmp_serde.proofs.FlatTakes.{takes_drop, walk_place, walk_step, walk_within}
use Rattle.rmp_serde.proofs.FlatRows.{
  row_tail,
  row_drop,
  tree_row,
  told_is,
  list_many,
  map_many,
  first-past,
  pairs-past,
  pairs-items,
  count-flat,
  count-first,
  built_rest,
}

-- the first of these heads, or that of nil
abbrev first_token : List Token → Token
first_token [] = (Nil, [])
first_token (t ∷ ts) = t

first_is : (m : Msg) (x : List Token) → first_token (tokens m ++ x) ≡ (head_of m, content_of m)
first_is nil x = refl
first_is (truth t) x = refl
first_is (whole z) x = refl
first_is (float32 n) x = refl
first_is (float64 n) x = refl
first_is (text s) x = refl
first_is (bin s) x = refl
first_is (list ms) x = refl
first_is (map ps) x = refl
first_is (extension tag s) x = refl

first_of_row : (ms : Msgs) → first_token (tokens_all ms) ≡ (head_of (first_tree ms), content_of (first_tree ms))
first_of_row no_items = refl
first_of_row (item m ms) = first_is m (tokens_all ms)

-- the node at a place has the head and the content of the message that begins there
pub starts_at : (b : List ℕ) (row : List Node) (at : ℕ) → IsRow (heads_in b row)
    → token_in b (get_or row at nodes.Nil) ≡ (head_of (told_tree (drop at (heads_in b row))), content_of (told_tree (drop at (heads_in b row))))
starts_at b [] zero r = refl
starts_at b [] (suc at) r = refl
starts_at b (node ∷ row) zero r = ap first_token r ∙ first_of_row (built (heads_in b (node ∷ row)))
starts_at b (node ∷ row) (suc at) r = starts_at b row at (row_tail (head_in node) (token_in b node).1 (heads_in b row) r)

pub ends_at : (end : ℕ) (row : List Node) (at : ℕ) → AllByRecursion (EndsBy end) row → EndsBy end (get_or row at nodes.Nil)
ends_at end [] zero a = tt
ends_at end [] (suc at) a = tt
ends_at end (node ∷ row) zero a = a.0
ends_at end (node ∷ row) (suc at) a = ends_at end row at a.1

-- ---- the heads of a value

pub heads_told : (root : Node) (parts : Nodes) (m : Msg) → IsFlat root parts → told_tree (heads_all root parts) ≡ m → heads_all root parts ≡ tokens m
heads_told root parts m f e = f.told.told ∙ ap tokens (sym (told_is f.told.tree) ∙ ap told_tree (sym f.told.told) ∙ e)

-- the message has room in its heads, and its texts are UTF-8
pub value_told : (root : Node) (parts : Nodes) (m : Msg) → IsFlat root parts → told_tree (heads_all root parts) ≡ m → Fits m × AllTextsUtf8 m
value_told root parts m f e =
    let same : f.told.tree ≡ m = sym (told_is f.told.tree) ∙ ap told_tree (sym f.told.told) ∙ e in
    (subst Fits same f.told.fits, subst AllTextsUtf8 same f.told.utf8)

pub row_told : (root : Node) (parts : Nodes) → IsFlat root parts → IsRow (heads_all root parts)
row_told root parts f = subst IsRow (sym f.told.told) (tree_row f.told.tree)

pub node_is : (root : Node) (parts : Nodes) (m : Msg) (at : ℕ) → IsFlat root parts → told_tree (heads_all root parts) ≡ m
    → token_in parts.bytes.items (get_or (root ∷ parts.nodes.items) at nodes.Nil) ≡
    (head_of (told_tree (drop at (tokens m))), content_of (told_tree (drop at (tokens m))))
node_is root parts m at f e =
    starts_at parts.bytes.items (root ∷ parts.nodes.items) at (row_told root parts f)
    ∙ ap (λ z. (head_of (told_tree (drop at z)), content_of (told_tree (drop at z)))) (heads_told root parts m f e)

-- ---- messages from a place on

-- what holds of each message in a row holds of those after each head
utf8_append : (ms ks : Msgs) → ItemsUtf8 ms → ItemsUtf8 ks → ItemsUtf8 (append ms ks)
utf8_append no_items ks a b = b
utf8_append (item m ms) ks a b = (a.0, utf8_append ms ks a.1 b)

pub utf8_flat : (ps : Pairs) → PairsUtf8 ps → ItemsUtf8 (flat_pairs ps)
utf8_flat no_pairs a = a
utf8_flat (pair k v ps) a = (a.0, (a.1, utf8_flat ps a.2))

utf8_tail : (h : Head) (s : List ℕ) (ts : List Token) → IsRow ((h, s) ∷ ts) → ItemsUtf8 (built ((h, s) ∷ ts)) → ItemsUtf8 (built ts)
utf8_tail Nil s ts r u = u.1
utf8_tail (Truth t) s ts r u = u.1
utf8_tail (Whole z) s ts r u = u.1
utf8_tail (F32Bits n) s ts r u = u.1
utf8_tail (F64Bits n) s ts r u = u.1
utf8_tail (Text n) s ts r u = u.1
utf8_tail (Bin n) s ts r u = u.1
utf8_tail (Array n) s ts r u = subst ItemsUtf8 (first-past n (built ts)) (utf8_append (first_items n (built ts)) (past_items n (built ts)) u.0 u.1)
utf8_tail (Map n) s ts r u =
    subst ItemsUtf8 (pairs-past n (built ts) (map_many n s ts r))
    (utf8_append (flat_pairs (first_pairs n (built ts))) (past_pairs n (built ts)) (utf8_flat (first_pairs n (built ts)) u.0) u.1)
utf8_tail (Ext n tag) s ts r u = u.1

pub utf8_at : (ts : List Token) (at : ℕ) → IsRow ts → ItemsUtf8 (built ts) → ItemsUtf8 (built (drop at ts))
utf8_at ts zero r u = u
utf8_at [] (suc at) r u = u
utf8_at (t ∷ ts) (suc at) r u = utf8_at ts at (row_tail t.0 t.1 ts r) (utf8_tail t.0 t.1 ts r u)

text_utf8 : (m : Msg) → AllTextsUtf8 m → IfSome (text_of m) IsUtf8
text_utf8 nil u = tt
text_utf8 (truth t) u = tt
text_utf8 (whole z) u = tt
text_utf8 (float32 n) u = tt
text_utf8 (float64 n) u = tt
text_utf8 (text s) u = u
text_utf8 (bin s) u = tt
text_utf8 (list ms) u = tt
text_utf8 (map ps) u = tt
text_utf8 (extension tag s) u = tt

pub first_utf8 : (ms : Msgs) → ItemsUtf8 ms → IfSome (text_of (first_tree ms)) IsUtf8
first_utf8 no_items u = tt
first_utf8 (item m ms) u = text_utf8 m u.0

-- after the head of a list or a map come its parts
pub parts_at : (ts : List Token) (at : ℕ) → IsRow ts → parts_of (told_tree (drop at ts)) ≤ count (built (drop (suc at) ts))
parts_at [] zero r = omega arith
parts_at [] (suc at) r = omega arith
parts_at (t ∷ ts) (suc at) r = parts_at ts at (row_tail t.0 t.1 ts r)
parts_at ((Nil, s) ∷ ts) zero r = omega arith
parts_at ((Truth t, s) ∷ ts) zero r = omega arith
parts_at ((Whole z, s) ∷ ts) zero r = omega arith
parts_at ((F32Bits n, s) ∷ ts) zero r = omega arith
parts_at ((F64Bits n, s) ∷ ts) zero r = omega arith
parts_at ((Text n, s) ∷ ts) zero r = omega arith
parts_at ((Bin n, s) ∷ ts) zero r = omega arith
parts_at ((Array n, s) ∷ ts) zero r = count-first n (built ts)
parts_at ((Map n, s) ∷ ts) zero r =
    let ms = built ts in
    let many = map_many n s ts r in
    omega (arith, count-flat (first_pairs n ms), ap count (pairs-items n ms many), count-first (2 * n) ms)
parts_at ((Ext n tag, s) ∷ ts) zero r = omega arith

-- the message i places after an index of the row that follows the first head
pub later_is : (t : Token) (ts : List Token) (at q i : ℕ) → IsRow (drop at ts) → q ≡ at + span i (drop at ts)
    → built (drop (q + 1) (t ∷ ts)) ≡ past_items i (built (drop at ts))
later_is t ts at q i r e =
    let next : q + 1 ≡ suc (at + span i (drop at ts)) = omega (arith, e) in
    ap (λ z. built (drop z (t ∷ ts))) next ∙ ap built (sym (drop-drop (span i (drop at ts)) at ts)) ∙ built_rest i (drop at ts) r

-- ---- the parts of a list or a map, by the messages that follow its head

head_first : (t : Token) (ts : List Token) (h : Head) → IsRow (t ∷ ts) → head_of (told_tree (t ∷ ts)) ≡ h → t.0 ≡ h
head_first t ts h r e = ap (λ z. z.0) (ap first_token r ∙ first_of_row (built (t ∷ ts))) ∙ e

pub record ListAt (ts : List Token) (at n : ℕ) : Type 0 where
  pub is : told_tree (drop at ts) ≡ list (first_items n (built (drop (suc at) ts)))
  pub many : count (first_items n (built (drop (suc at) ts))) ≡ n

pub list_at : (ts : List Token) (at n : ℕ) → IsRow ts → head_of (told_tree (drop at ts)) ≡ Array n → ListAt ts at n
list_at [] zero n r e = absurd (cc)
list_at [] (suc at) n r e = absurd (cc)
list_at (t ∷ ts) (suc at) n r e = let l = list_at ts at n (row_tail t.0 t.1 ts r) e in record { is = l.is; many = l.many }
list_at (t ∷ ts) zero n r e =
    let h = head_first t ts (Array n) r e in
    record {
      is = ap (λ z. first_tree (put_head z t.1 (built ts))) h;
      many = list_many n t.1 ts (subst (λ z. IsRow ((z, t.1) ∷ ts)) h r);
    }

pub record MapAt (ts : List Token) (at n : ℕ) : Type 0 where
  pub is : told_tree (drop at ts) ≡ map (first_pairs n (built (drop (suc at) ts)))
  pub many : count_pairs (first_pairs n (built (drop (suc at) ts))) ≡ n

pub map_at : (ts : List Token) (at n : ℕ) → IsRow ts → head_of (told_tree (drop at ts)) ≡ Map n → MapAt ts at n
map_at [] zero n r e = absurd (cc)
map_at [] (suc at) n r e = absurd (cc)
map_at (t ∷ ts) (suc at) n r e = let l = map_at ts at n (row_tail t.0 t.1 ts r) e in record { is = l.is; many = l.many }
map_at (t ∷ ts) zero n r e =
    let h = head_first t ts (Map n) r e in
    record {
      is = ap (λ z. first_tree (put_head z t.1 (built ts))) h;
      many = map_many n t.1 ts (subst (λ z. IsRow ((z, t.1) ∷ ts)) h r);
    }

nth_item : (n i : ℕ) (ms : Msgs) → i < count (first_items n ms) → slice_get (items_of (first_items n ms)) i ≡ Some (first_tree (past_items i ms))
nth_item zero i ms l = absurd (omega (arith, l))
nth_item (suc n) i no_items l = absurd (omega (arith, l))
nth_item (suc n) zero (item m ms) l = refl
nth_item (suc n) (suc i) (item m ms) l = nth_item n i ms (omega (arith, l))

past_item : (ms : Msgs) (i : ℕ) → count ms ≤ i → slice_get (items_of ms) i ≡ None
past_item no_items zero l = refl
past_item no_items (suc i) l = refl
past_item (item m ms) zero l = absurd (omega (arith, l))
past_item (item m ms) (suc i) l = past_item ms i (omega (arith, l))

nth_depth : (n i : ℕ) (ms : Msgs) → i < count (first_items n ms) → depth (first_tree (past_items i ms)) ≤ depth_all (first_items n ms)
nth_depth zero i ms l = absurd (omega (arith, l))
nth_depth (suc n) i no_items l = absurd (omega (arith, l))
nth_depth (suc n) zero (item m ms) l = omega arith
nth_depth (suc n) (suc i) (item m ms) l = omega (arith, nth_depth n i ms (omega (arith, l)))

nth_pair : (n i : ℕ) (ms : Msgs) → i < count_pairs (first_pairs n ms)
    → slice_get (pairs_of (first_pairs n ms)) i ≡ Some (first_tree (past_items (2 * i) ms), first_tree (past_items 1 (past_items (2 * i) ms)))
nth_pair zero i ms l = absurd (omega (arith, l))
nth_pair (suc n) i no_items l = absurd (omega (arith, l))
nth_pair (suc n) i (item k no_items) l = absurd (omega (arith, l))
nth_pair (suc n) zero (item k (item v ms)) l = refl
nth_pair (suc n) (suc i) (item k (item v ms)) l =
    let two : suc (suc (2 * i)) ≡ 2 * suc i = omega arith in
    nth_pair n i ms (omega (arith, l)) ∙ ap (λ z. Some
    (first_tree (past_items z (item k (item v ms))), first_tree (past_items 1 (past_items z (item k (item v ms)))))) two

past_pair : (ps : Pairs) (i : ℕ) → count_pairs ps ≤ i → slice_get (pairs_of ps) i ≡ None
past_pair no_pairs zero l = refl
past_pair no_pairs (suc i) l = refl
past_pair (pair k v ps) zero l = absurd (omega (arith, l))
past_pair (pair k v ps) (suc i) l = past_pair ps i (omega (arith, l))

depth-flat : (ps : Pairs) → depth_all (flat_pairs ps) ≡ depth_pairs ps
depth-flat no_pairs = refl
depth-flat (pair k v ps) = omega (arith, depth-flat ps)

past_more : (i : ℕ) (ms : Msgs) → past_items (i + 1) ms ≡ past_items 1 (past_items i ms)
past_more zero ms = refl
past_more (suc i) no_items = ap (λ z. past_items z no_items) (let e : suc i + 1 ≡ suc (i + 1) = omega arith in e)
past_more (suc i) (item m ms) = ap (λ z. past_items z (item m ms)) (let e : suc i + 1 ≡ suc (i + 1) = omega arith in e) ∙ past_more i ms

-- an item of a list, by its distance from the head
pub item_is : (ts : List Token) (at n i : ℕ) → IsRow ts → head_of (told_tree (drop at ts)) ≡ Array n → i < n
    → (item_of (told_tree (drop at ts)) i ≡ Some (first_tree (past_items i (built (drop (suc at) ts))))) ×
    (depth (first_tree (past_items i (built (drop (suc at) ts)))) < depth (told_tree (drop at ts)))
item_is ts at n i r e l =
    let s = list_at ts at n r e in
    let ms = built (drop (suc at) ts) in
    let l' : i < count (first_items n ms) = omega (arith, l, s.many) in
    (ap (λ z. item_of z i) s.is ∙ nth_item n i ms l', omega (arith, nth_depth n i ms l', ap depth s.is))

pub no_item : (ts : List Token) (at n i : ℕ) → IsRow ts → head_of (told_tree (drop at ts)) ≡ Array n → n ≤ i → item_of (told_tree (drop at ts)) i ≡ None
no_item ts at n i r e l =
    let s = list_at ts at n r e in
    ap (λ z. item_of z i) s.is ∙ past_item (first_items n (built (drop (suc at) ts))) i (omega (arith, l, s.many))

pub no_pair : (ts : List Token) (at n i : ℕ) → IsRow ts → head_of (told_tree (drop at ts)) ≡ Map n → n ≤ i → pair_of (told_tree (drop at ts)) i ≡ None
no_pair ts at n i r e l =
    let s = map_at ts at n r e in
    ap (λ z. pair_of z i) s.is ∙ past_pair (first_pairs n (built (drop (suc at) ts))) i (omega (arith, l, s.many))

-- a pair of a map, by the distance of its key from the head
pub pair_is : (ts : List Token) (at n i : ℕ) → IsRow ts → head_of (told_tree (drop at ts)) ≡ Map n → i < n
    → (pair_of (told_tree (drop at ts)) i ≡ Some (
      first_tree (past_items (2 * i) (built (drop (suc at) ts))),
      first_tree
          (past_items 1 (past_items (2 * i) (built (drop (suc at) ts)))),
    ))
    × (depth (first_tree (past_items (2 * i) (built (drop (suc at) ts)))) < depth (told_tree (drop at ts)))
    × (depth (first_tree (past_items 1 (past_items (2 * i) (built (drop (suc at) ts))))) < depth (told_tree (drop at ts)))
pair_is ts at n i r e l =
    let s = map_at ts at n r e in
    let ms = built (drop (suc at) ts) in
    let k : i < count_pairs (first_pairs n ms) = omega (arith, l, s.many) in
    let flat = pairs-items n ms s.many in
    let deep : depth (told_tree (drop at ts)) ≡ suc (depth_all (first_items (2 * n) ms)) = ap depth s.is
    ∙ ap suc (sym (depth-flat (first_pairs n ms)) ∙ ap depth_all flat) in
    let many : count (first_items (2 * n) ms) ≡ 2 * n = sym (ap count flat) ∙ count-flat (first_pairs n ms) ∙ ap (λ z. 2 * z) s.many in
    let a : 2 * i < count (first_items (2 * n) ms) = omega (arith, l, many) in
    let b : 2 * i + 1 < count (first_items (2 * n) ms) = omega (arith, l, many) in (
      ap (λ z. pair_of z i) s.is ∙ nth_pair n i ms k,
      omega (arith, nth_depth (2 * n) (2 * i) ms a, deep),
      omega (arith, nth_depth (2 * n) (2 * i + 1) ms b, deep, ap (λ z. depth (first_tree z)) (past_more (2 * i) ms)),
    )

parts_told : Head → ℕ
parts_told (Array n) = n
parts_told (Map n) = 2 * n
parts_told h = 0

node_parts : (node : Node) → parts_in node ≡ parts_told (head_in node)
unfolding parts_told
node_parts nodes.Nil = refl
node_parts (nodes.Truth t) = refl
node_parts (nodes.Unsigned n) = refl
node_parts (nodes.Signed z) = refl
node_parts (nodes.F32 n) = refl
node_parts (nodes.F64 n) = refl
node_parts (nodes.Text len at) = refl
node_parts (nodes.Bytes len at) = refl
node_parts (nodes.Ext tag len at) = refl
node_parts (nodes.List n takes) = refl
node_parts (nodes.Map n takes) = refl

tree_parts : (m : Msg) → parts_told (head_of m) ≡ parts_of m
unfolding parts_told
tree_parts nil = refl
tree_parts (truth t) = refl
tree_parts (whole z) = refl
tree_parts (float32 n) = refl
tree_parts (float64 n) = refl
tree_parts (text s) = refl
tree_parts (bin s) = refl
tree_parts (list ms) = refl
tree_parts (map ps) = refl
tree_parts (extension tag s) = refl

-- the node of a message's head has as many parts as the message
pub parts_same : (node : Node) (m : Msg) → head_in node ≡ head_of m → parts_in node ≡ parts_of m
parts_same node m e = node_parts node ∙ ap parts_told e ∙ tree_parts m

turn_first : (t : Token) (ts : List Token) → IsRow (t ∷ ts)
    → parts_in_turn (told_tree (t ∷ ts)) ≡ items_of (first_items (parts_of (told_tree (t ∷ ts))) (built ts))
turn_first (Nil, s) ts r = refl
turn_first (Truth t, s) ts r = refl
turn_first (Whole z, s) ts r = refl
turn_first (F32Bits n, s) ts r = refl
turn_first (F64Bits n, s) ts r = refl
turn_first (Text n, s) ts r = refl
turn_first (Bin n, s) ts r = refl
turn_first (Array n, s) ts r = ap (λ z. items_of (first_items z (built ts))) (sym (list_many n s ts r))
turn_first (Map n, s) ts r =
    let many = map_many n s ts r in
    ap items_of (pairs-items n (built ts) many) ∙ ap (λ z. items_of (first_items (2 * z) (built ts))) (sym many)
turn_first (Ext n tag, s) ts r = refl

-- the parts of the message at an index, in order, are the first messages after its head
pub turn_at : (ts : List Token) (at : ℕ) → IsRow ts
    → parts_in_turn (told_tree (drop at ts)) ≡ items_of (first_items (parts_of (told_tree (drop at ts))) (built (drop (suc at) ts)))
turn_at [] zero r = refl
turn_at [] (suc at) r = refl
turn_at (t ∷ ts) zero r = turn_first t ts r
turn_at (t ∷ ts) (suc at) r = turn_at ts at (row_tail t.0 t.1 ts r)

-- ---- within a value

module _ (root : Node) (parts : Nodes) (m : Msg) (f : IsFlat root parts) (e : told_tree (heads_all root parts) ≡ m) where
  pub all_utf8 : ItemsUtf8 (built (tokens m))
  all_utf8 =
      subst ItemsUtf8 (sym (ap built (sym (append-nil (tokens m))) ∙ built_tree m [])) ((value_told root parts m f e).1, tt)

  pub after_row : (p : ℕ) → IsRow (drop p (heads_of parts))
  after_row p = row_drop (suc p) (heads_all root parts) (row_told root parts f)

  pub after_many : (p n : ℕ) → n < count (built (drop (suc p) (tokens m))) → n < count (built (drop p (heads_of parts)))
  after_many p n l = omega (arith, l, ap (λ z. count (built (drop (suc p) z))) (heads_told root parts m f e))

  pub after_there : (p q n : ℕ) → n < count (built (drop (suc p) (tokens m))) → q ≡ p + span n (drop p (heads_of parts)) → q < length parts.nodes.items
  after_there p q n l s = walk_place parts.bytes.items parts.nodes.items p (after_row p) (takes_drop parts.bytes.items parts.nodes.items p f.takes) n q
      (after_many p n l) s

  pub after_later : (p q n : ℕ) → q ≡ p + span n (drop p (heads_of parts)) → built (drop (q + 1) (tokens m)) ≡ past_items n (built (drop (suc p) (tokens m)))
  after_later p q n s =
      let told = heads_told root parts m f e in
      ap (λ z. built (drop (q + 1) z)) (sym told) ∙ later_is (token_in parts.bytes.items root) (heads_of parts) p q n (after_row p) s
      ∙ ap (λ z. past_items n (built (drop (suc p) z))) told

  -- the part whose first node is the one at an index
  module _ (p : ℕ) (l : 0 < count (row_from m (suc p))) where
    pub part_there : p < length parts.nodes.items
    part_there = let none : span 0 (drop p (heads_of parts)) ≡ 0 = refl in after_there p p 0 l (omega (arith, none))

    module _ (node : Node) (g : node ≡ get_or parts.nodes.items p node) where
      pub part_head : head_in node ≡ head_of (first_tree (row_from m (suc p)))
      part_head = ap head_in (g ∙ get_or_default parts.nodes.items p node nodes.Nil part_there) ∙ ap (λ z. z.0) (node_is root parts m (suc p) f e)

      part_takes : p + takes_in node ≡ p + span 1 (drop p (heads_of parts))
      part_takes =
          let none : span 0 (drop p (heads_of parts)) ≡ 0 = refl in
          walk_step parts.bytes.items parts.nodes.items p (after_row p) (takes_drop parts.bytes.items parts.nodes.items p f.takes) 0 p node
          (after_many p 0 l) (omega (arith, none)) g

      pub part_within : p + takes_in node ≤ length parts.nodes.items
      part_within = walk_within parts.bytes.items parts.nodes.items p (after_row p) (takes_drop parts.bytes.items parts.nodes.items p f.takes) 1
          (p + takes_in node) (omega (arith, part_there)) part_takes

      pub part_past : row_from m (suc (p + takes_in node)) ≡ past_items 1 (row_from m (suc p))
      part_past =
          let next : suc (p + takes_in node) ≡ p + takes_in node + 1 = omega arith in
          ap (row_from m) next ∙ after_later p (p + takes_in node) 1 part_takes

-- where more messages are than are passed over, there is one
pub one_there : (i : ℕ) (ms : Msgs) → i < count ms → 0 < count (past_items i ms)
one_there i no_items l = absurd (omega (arith, l))
one_there zero (item m ms) l = omega arith
one_there (suc i) (item m ms) l = one_there i ms (omega (arith, l))

-- of some messages the first is returned, and the others remain
pub first_yielded : (n : ℕ) (ms : Msgs) → 0 < n → n ≤ count ms
    → items_of (first_items n ms) ≡ first_tree ms ∷ items_of (first_items (n - 1) (past_items 1 ms))
first_yielded zero ms l h = absurd (omega (arith, l))
first_yielded (suc n) no_items l h = absurd (omega (arith, h))
first_yielded (suc n) (item m ms) l h = let less : n ≡ suc n - 1 = omega arith in ap (λ z. m ∷ items_of (first_items z ms)) less

pub fewer_there : (n : ℕ) (ms : Msgs) → 0 < n → n ≤ count ms → n - 1 ≤ count (past_items 1 ms)
fewer_there n no_items l h = absurd (omega (arith, l, h))
fewer_there n (item m ms) l h = omega (arith, l, h)

past_count : (i : ℕ) (ms : Msgs) → count (past_items i ms) + i ≡ count ms ⊎ (count ms ≤ i)
past_count zero ms = inl (omega arith)
past_count (suc i) no_items = inr (omega arith)
past_count (suc i) (item m ms) = elim (past_count i ms) [ inl e ↦ inl (omega (arith, e)) | inr l ↦ inr (omega (arith, l)) ]

-- after a map's key comes its value
pub value_there : (ts : List Token) (at n i : ℕ) → IsRow ts → head_of (told_tree (drop at ts)) ≡ Map n → i < n
    → 1 < count (past_items (2 * i) (built (drop (suc at) ts)))
value_there ts at n i r e l =
    let s = map_at ts at n r e in
    let ms = built (drop (suc at) ts) in
    let many : count (first_items (2 * n) ms) ≡ 2 * n = sym (ap count (pairs-items n ms s.many)) ∙ count-flat (first_pairs n ms) ∙ ap (λ z. 2 * z) s.many in
    elim (past_count (2 * i) ms) [
      | inl q ↦ omega (arith, q, many, count-first (2 * n) ms, l)
      | inr q ↦ absurd (omega (arith, q, many, count-first (2 * n) ms, l))
    ]
