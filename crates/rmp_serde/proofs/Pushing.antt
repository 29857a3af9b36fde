-- Nodes to which those of one more message are added.
use Rattle.std.proofs.Common.{◌≡◌, ◌∙◌, sym, ap, subst, refl, ℕ, suc, ◌+◌, ◌^◌, ◌<◌, arith, List, [], ◌∷◌, ◌++◌, length, drop, take, append_assoc, length-append}
use Rattle.std.specs.Prelude.{map as each}
use Rattle.std.specs.List.{AllByRecursion}
use Rattle.std.proofs.Math.Seq.{drop-append_seam}
use Rattle.std.proofs.lemmas.List.{drop-drop, length-map, map-append, take_at}
use Rattle.rmp_wire.specs.declared.head.Head.TheVariants.{Array, Map}
use Rattle.rmp_wire.specs.Msg.{Msg, nil, truth, whole, float32, float64, text, bin, list, map, extension, Msgs, no_items, item, Pairs, no_pairs, pair, count, count_pairs, items_of, msgs, pairs_of, pairs}
use Rattle.rmp_wire.specs.Spelling.{FitsAll, FitsPairs}
use Rattle.rmp_wire.proofs.Lists.{msgs-items_of}
use Rattle.rmp_decode.proofs.Rows.{append, push}
use Rattle.rmp_serde.specs.Flat.{head_in, content_in, token_in, heads_in, heads_of, heads_all, takes_in, takes_then, told_tree, size_of, AllTake, EndsBy, IsFlat, IsRow, IsWithin}
use Rattle.rmp_serde.specs.Pushing.{moved, AreNodesOf, AreSame, Begins}
use Rattle.rmp_serde.specs.Tokens.{Token, tokens, tokens_all, flat_pairs, built, first_tree}
use Rattle.rmp_serde.specs.declared.value.flat.Node.{Node}
use Rattle.rmp_serde.specs.declared.value.flat.Nodes.{Nodes}
use Rattle.rmp_serde.specs.declared.value.flat.Node.TheVariants as nodes
use Rattle.rmp_serde.proofs.FlatMade.{all_later, heads_stay}
use Rattle.rmp_serde.proofs.FlatParts.{heads_told, utf8_flat, value_told}
use Rattle.rmp_serde.proofs.FlatRows.{is_row, row_tail, told_is, tokens-flat}
use Rattle.rmp_serde.proofs.Making.{IsRowOf, list_is, list_tree, map_is, map_tree, msgs-push, row_more}
use Rattle.rmp_serde.proofs.Tokens.{built_all}

-- ---- nodes whose content begins later

takes_moved : (by : ℕ) (node : Node) → takes_in (moved by node) ≡ takes_in node
takes_moved by nodes.Nil = refl
takes_moved by (nodes.Truth t) = refl
takes_moved by (nodes.Unsigned n) = refl
takes_moved by (nodes.Signed z) = refl
takes_moved by (nodes.F32 n) = refl
takes_moved by (nodes.F64 n) = refl
takes_moved by (nodes.Text len at) = refl
takes_moved by (nodes.Bytes len at) = refl
takes_moved by (nodes.Ext tag len at) = refl
takes_moved by (nodes.List n takes) = refl
takes_moved by (nodes.Map n takes) = refl

ends_moved : (by n : ℕ) (node : Node) → EndsBy n node → EndsBy (by + n) (moved by node)
ends_moved by n nodes.Nil e = e
ends_moved by n (nodes.Truth t) e = e
ends_moved by n (nodes.Unsigned k) e = e
ends_moved by n (nodes.Signed z) e = e
ends_moved by n (nodes.F32 k) e = e
ends_moved by n (nodes.F64 k) e = e
ends_moved by n (nodes.Text len at) e = omega (arith, e)
ends_moved by n (nodes.Bytes len at) e = omega (arith, e)
ends_moved by n (nodes.Ext tag len at) e = omega (arith, e)
ends_moved by n (nodes.List k takes) e = e
ends_moved by n (nodes.Map k takes) e = e

piece : (a b : List ℕ) (len at : ℕ) → take len (drop (length a + at) (a ++ b)) ≡ take len (drop at b)
piece a b len at = ap (take len) (sym (drop-drop at (length a) (a ++ b)) ∙ ap (drop at) (drop-append_seam a b))

token_moved : (a b : List ℕ) (node : Node) → token_in (a ++ b) (moved (length a) node) ≡ token_in b node
token_moved a b nodes.Nil = refl
token_moved a b (nodes.Truth t) = refl
token_moved a b (nodes.Unsigned n) = refl
token_moved a b (nodes.Signed z) = refl
token_moved a b (nodes.F32 n) = refl
token_moved a b (nodes.F64 n) = refl
token_moved a b (nodes.Text len at) = λ i. (head_in (nodes.Text len at), piece a b len at i)
token_moved a b (nodes.Bytes len at) = λ i. (head_in (nodes.Bytes len at), piece a b len at i)
token_moved a b (nodes.Ext tag len at) = λ i. (head_in (nodes.Ext tag len at), piece a b len at i)
token_moved a b (nodes.List n takes) = refl
token_moved a b (nodes.Map n takes) = refl

heads_moved : (a b : List ℕ) (row : List Node) → heads_in (a ++ b) (each (moved (length a)) row) ≡ heads_in b row
heads_moved a b [] = refl
heads_moved a b (node ∷ row) = λ i. token_moved a b node i ∷ heads_moved a b row i

all_moved : (by n : ℕ) (row : List Node) → AllByRecursion (EndsBy n) row → AllByRecursion (EndsBy (by + n)) (each (moved by) row)
all_moved by n [] w = tt
all_moved by n (node ∷ row) w = (ends_moved by n node w.0, all_moved by n row w.1)

takes_moved_all : (a b : List ℕ) (row : List Node) → AllTake b row → AllTake (a ++ b) (each (moved (length a)) row)
takes_moved_all a b [] t = tt
takes_moved_all a b (node ∷ row) t =
    (takes_moved (length a) node ∙ t.0 ∙ ap size_of (sym (heads_moved a b (node ∷ row))), takes_moved_all a b row t.1)

-- ---- what nodes take where others follow, or more content

takes_stay : (row : List Node) (b more : List ℕ) → AllByRecursion (EndsBy (length b)) row → AllTake b row → AllTake (b ++ more) row
takes_stay [] b more w t = tt
takes_stay (node ∷ row) b more w t = (t.0 ∙ ap size_of (sym (heads_stay (node ∷ row) b more w)), takes_stay row b more w.1 t.1)

first_append : (ms ks : Msgs) (t : Token) (ts : List Token) → t ∷ ts ≡ tokens_all ms → first_tree (append ms ks) ≡ first_tree ms
first_append no_items ks t ts e = absurd cc
first_append (item m ms) ks t ts e = refl

size_append : (t : Token) (ts x : List Token) → IsRow (t ∷ ts) → size_of ((t ∷ ts) ++ x) ≡ size_of (t ∷ ts)
size_append t ts x r =
    let ms = built (t ∷ ts) in
    let all : built ((t ∷ ts) ++ x) ≡ append ms (built x) = ap (λ z. built (z ++ x)) r ∙ built_all ms x in
    ap (λ z. length (tokens z)) (ap first_tree all ∙ first_append ms (built x) t ts r)

takes_append : (b : List ℕ) (row more : List Node) → IsRow (heads_in b row) → AllTake b row → AllTake b more → AllTake b (row ++ more)
takes_append b [] more r t u = u
takes_append b (node ∷ row) more r t u =
    let d = token_in b node in
    let size : size_of (heads_in b (node ∷ (row ++ more))) ≡ size_of (heads_in b (node ∷ row)) =
    ap (λ z. size_of (d ∷ z)) (map-append (token_in b) row more) ∙ size_append d (heads_in b row) (heads_in b more) r in
    (t.0 ∙ sym size, takes_append b row more (row_tail d.0 d.1 (heads_in b row) r) t.1 u)

all_append : (end : ℕ) (row more : List Node) → AllByRecursion (EndsBy end) row → AllByRecursion (EndsBy end) more → AllByRecursion (EndsBy end) (row ++ more)
all_append end [] more a c = c
all_append end (node ∷ row) more a c = (a.0, all_append end row more a.1 c)

-- ---- the nodes of a value, whose root says what it takes

flat_size : (root : Node) (parts : Nodes) → IsFlat root parts → size_of (heads_all root parts) ≡ suc (length parts.nodes.items)
flat_size root parts f =
    let m = f.told.tree in
    ap (λ z. length (tokens z)) (ap told_tree f.told.told ∙ told_is m) ∙ ap length (sym f.told.told)
    ∙ ap suc (length-map parts.nodes.items (token_in parts.bytes.items))

root_takes : (root : Node) (parts : Nodes) → IsFlat root parts → takes_then (suc (length parts.nodes.items)) root ≡ size_of (heads_all root parts)
root_takes nodes.Nil parts f = refl
root_takes (nodes.Truth t) parts f = refl
root_takes (nodes.Unsigned n) parts f = refl
root_takes (nodes.Signed z) parts f = refl
root_takes (nodes.F32 n) parts f = refl
root_takes (nodes.F64 n) parts f = refl
root_takes (nodes.Text len at) parts f = refl
root_takes (nodes.Bytes len at) parts f = refl
root_takes (nodes.Ext tag len at) parts f = refl
root_takes (nodes.List n takes) parts f = sym (flat_size (nodes.List n takes) parts f)
root_takes (nodes.Map n takes) parts f = sym (flat_size (nodes.Map n takes) parts f)

-- the root says how many nodes it takes, and is otherwise the same
pub record IsRootOf (root told : Node) (count : ℕ) : Type 0 where
  pub head : head_in told ≡ head_in root
  pub content : (buffer : List ℕ) → content_in buffer told ≡ content_in buffer root
  pub within : (end : ℕ) → EndsBy end root → EndsBy end told
  pub takes : takes_in told ≡ takes_then count root

whole_row : (parts : Nodes) (ms : List Msg) → AreNodesOf parts ms → IsRowOf parts (msgs ms)
whole_row parts ms o = record { told = o.told; within = o.within; fits = o.fits; utf8 = o.utf8 }

-- the nodes of a message are added
module _ (old new : Nodes) (ms : List Msg) (m : Msg) (root told : Node) (parts : Nodes) where
  pub append_more : AreNodesOf old ms → IsFlat root parts → told_tree (heads_all root parts) ≡ m → IsRootOf root told (suc (length parts.nodes.items))
      → new.nodes.items ≡ old.nodes.items ++ each (moved (length old.bytes.items)) (told ∷ parts.nodes.items)
      → new.bytes.items ≡ old.bytes.items ++ parts.bytes.items
      → AreNodesOf new (ms ++ m ∷ [])
  append_more o f is r en eb =
      let a = old.bytes.items in
      let b = parts.bytes.items in
      let row = told ∷ parts.nodes.items in
      let added = each (moved (length a)) row in
      let heads : heads_in b row ≡ heads_all root parts = λ i. (r.head i, r.content b i) ∷ heads_of parts in
      let within : AllByRecursion (EndsBy (length b)) row = (r.within (length b) f.root_within, f.within) in
      let takes : AllTake b row = (r.takes ∙ root_takes root parts f ∙ ap size_of (sym heads), f.takes) in
      let long : length (a ++ b) ≡ length a + length b = length-append a b in
      let before : heads_in (a ++ b) old.nodes.items ≡ heads_of old = heads_stay old.nodes.items a b o.within in
      let after : heads_in (a ++ b) added ≡ heads_all root parts = heads_moved a b row ∙ heads in
      let all : heads_of new ≡ heads_of old ++ heads_all root parts = (λ i. heads_in (eb i) (en i)) ∙ map-append (token_in (a ++ b)) old.nodes.items added
      ∙ (λ i. before i ++ after i) in
      let here : AllByRecursion (EndsBy (length (a ++ b))) (old.nodes.items ++ added) = all_append (length (a ++ b)) old.nodes.items added
      (all_later old.nodes.items (length a) (length (a ++ b)) (omega (arith, long)) o.within)
      (subst (λ z. AllByRecursion (EndsBy z) added) (sym long) (all_moved (length a) (length b) row within)) in
      let inside : IsWithin new = subst (λ z. AllByRecursion (EndsBy (length z)) new.nodes.items) (sym eb)
      (subst (AllByRecursion (EndsBy (length (a ++ b)))) (sym en) here) in
      let in_row : IsRow (heads_in (a ++ b) old.nodes.items) = subst IsRow (sym (before ∙ o.told)) (is_row (msgs ms)) in
      let each_takes : AllTake (a ++ b) (old.nodes.items ++ added) = takes_append (a ++ b) old.nodes.items added in_row
      (takes_stay old.nodes.items a b o.within o.takes) (takes_moved_all a b row takes) in
      let more : IsRowOf new (push (msgs ms) m) = row_more old new (msgs ms) m root parts (whole_row old ms o) f is all inside in
      let same : msgs (ms ++ m ∷ []) ≡ push (msgs ms) m = msgs-push ms m in
      let is_more : IsRowOf new (msgs (ms ++ m ∷ [])) = subst (IsRowOf new) (sym same) more in
      record {
        told = is_more.told;
        takes = subst (λ z. AllTake z new.nodes.items) (sym eb) (subst (AllTake (a ++ b)) (sym en) each_takes);
        within = inside;
        fits = is_more.fits;
        utf8 = is_more.utf8;
      }

-- what was added, step by step
pub new_nodes : (old room first all row : List Node) (told : Node) (by n : ℕ) (rest : List Node) → by ≡ n → room ≡ old → first ≡ room ++ moved by told ∷ []
    → all ≡ first ++ each (moved by) row → row ≡ rest
    → all ≡ old ++ each (moved n) (told ∷ rest)
new_nodes old room first all row told by n rest b r f a e =
    a ∙ (λ i. (f ∙ ap (λ z. z ++ moved by told ∷ []) r) i ++ each (moved by) (e i)) ∙ append_assoc old (moved by told ∷ []) (each (moved by) rest)
    ∙ ap (λ z. old ++ each (moved z) (told ∷ rest)) b

-- what was there is at the front, and stays where the rest is cut off
pub begins : (old new : Nodes) (more : List Node) (bytes : List ℕ) → new.nodes.items ≡ old.nodes.items ++ more → new.bytes.items ≡ old.bytes.items ++ bytes
    → Begins old new
begins old new more bytes en eb = record {
  nodes = ap (take (length old.nodes.items)) en ∙ take_at old.nodes.items more (length old.nodes.items) refl;
  bytes = ap (take (length old.bytes.items)) eb ∙ take_at old.bytes.items bytes (length old.bytes.items) refl;
}

pub cut_off : (old first all new : Nodes) (n b : ℕ) → Begins old first → AreSame first all → n ≡ length old.nodes.items → b ≡ length old.bytes.items
    → new.nodes.items ≡ take n all.nodes.items → new.bytes.items ≡ take b all.bytes.items → AreSame old new
cut_off old first all new n b f s en eb cn cb = record {
  nodes = cn ∙ (λ i. take (en i) (s.nodes i)) ∙ f.nodes;
  bytes = cb ∙ (λ i. take (eb i) (s.bytes i)) ∙ f.bytes;
}

-- ---- the parts of a list and of a map

-- the message is the list of these items
pub record IsListOf (len : ℕ) (parts : Nodes) (m : Msg) : Type 0 where
  pub items : Msgs
  pub is : m ≡ list items
  pub many : len ≡ count items
  pub made : AreNodesOf parts (items_of items)

abbrev first_count : List Token → ℕ
first_count ((Array n, s) ∷ ts) = n
first_count ((Map n, s) ∷ ts) = n
first_count ts = 0

parts_made : (root : Node) (parts : Nodes) (ms : Msgs) → IsFlat root parts → IsRowOf parts ms → AreNodesOf parts (items_of ms)
parts_made root parts ms f r =
    let s : IsRowOf parts (msgs (items_of ms)) = subst (IsRowOf parts) (sym (msgs-items_of ms)) r in
    record { told = s.told; takes = f.takes; within = s.within; fits = s.fits; utf8 = s.utf8 }

pub list_open : (n takes : ℕ) (parts : Nodes) (m : Msg) → IsFlat (nodes.List n takes) parts → told_tree (heads_all (nodes.List n takes) parts) ≡ m
    → IsListOf n parts m
list_open n takes parts nil f e = let h = heads_told _ _ _ f e in absurd cc
list_open n takes parts (truth t) f e = let h = heads_told _ _ _ f e in absurd cc
list_open n takes parts (whole z) f e = let h = heads_told _ _ _ f e in absurd cc
list_open n takes parts (float32 k) f e = let h = heads_told _ _ _ f e in absurd cc
list_open n takes parts (float64 k) f e = let h = heads_told _ _ _ f e in absurd cc
list_open n takes parts (text s) f e = let h = heads_told _ _ _ f e in absurd cc
list_open n takes parts (bin s) f e = let h = heads_told _ _ _ f e in absurd cc
list_open n takes parts (map ps) f e = let h = heads_told _ _ _ f e in absurd cc
list_open n takes parts (extension tag s) f e = let h = heads_told _ _ _ f e in absurd cc
list_open n takes parts (list ms) f e =
    let h = heads_told (nodes.List n takes) parts (list ms) f e in
    let v = value_told (nodes.List n takes) parts (list ms) f e in
    record {
      items = ms;
      is = refl;
      many = ap first_count h;
      made = parts_made (nodes.List n takes) parts ms f (record { told = ap (drop 1) h; within = f.within; fits = v.0.1; utf8 = v.1 });
    }

pub open_list : (root : Node) (n takes : ℕ) (parts : Nodes) (m : Msg) → root ≡ nodes.List n takes → IsFlat root parts → told_tree (heads_all root parts) ≡ m
    → IsListOf n parts m
open_list root n takes parts m is f e =
    list_open n takes parts m (subst (λ z. IsFlat z parts) is f) (subst (λ z. told_tree (heads_all z parts) ≡ m) is e)

longer : (ms : Msgs) (m : Msg) → count (msgs (items_of ms ++ m ∷ [])) ≡ suc (count ms)
longer no_items m = refl
longer (item k ms) m = ap suc (longer ms m)

-- a list of one more item
module _ (n len : ℕ) (parts : Nodes) (ms : Msgs) (m : Msg) (o : AreNodesOf parts (items_of ms ++ m ∷ [])) (k : len ≡ count ms) (e : n ≡ len + 1) where
  many_items : n ≡ count (msgs (items_of ms ++ m ∷ []))
  many_items = omega (arith, k, e, longer ms m)

  pub list_flat : n < 2 ^ 32 → IsFlat (nodes.List n 1) parts
  list_flat l = record {
    told = list_tree parts n 0 (msgs (items_of ms ++ m ∷ [])) (whole_row parts (items_of ms ++ m ∷ []) o) many_items l;
    takes = o.takes;
    within = o.within;
    root_within = tt;
  }

  pub list_pushed : told_tree (heads_all (nodes.List n 1) parts) ≡ list (msgs (items_of ms ++ m ∷ []))
  list_pushed = list_is parts n 0 (msgs (items_of ms ++ m ∷ [])) (whole_row parts (items_of ms ++ m ∷ []) o) many_items

-- the message is the map of these pairs
pub record IsMapOf (len : ℕ) (parts : Nodes) (m : Msg) : Type 0 where
  pub entries : Pairs
  pub is : m ≡ map entries
  pub many : len ≡ count_pairs entries
  pub made : AreNodesOf parts (items_of (flat_pairs entries))

fits_flat : (ps : Pairs) → FitsPairs ps → FitsAll (flat_pairs ps)
fits_flat no_pairs f = tt
fits_flat (pair k v ps) f = (f.0, (f.1, fits_flat ps f.2))

pub map_open : (n takes : ℕ) (parts : Nodes) (m : Msg) → IsFlat (nodes.Map n takes) parts → told_tree (heads_all (nodes.Map n takes) parts) ≡ m
    → IsMapOf n parts m
map_open n takes parts nil f e = let h = heads_told _ _ _ f e in absurd cc
map_open n takes parts (truth t) f e = let h = heads_told _ _ _ f e in absurd cc
map_open n takes parts (whole z) f e = let h = heads_told _ _ _ f e in absurd cc
map_open n takes parts (float32 k) f e = let h = heads_told _ _ _ f e in absurd cc
map_open n takes parts (float64 k) f e = let h = heads_told _ _ _ f e in absurd cc
map_open n takes parts (text s) f e = let h = heads_told _ _ _ f e in absurd cc
map_open n takes parts (bin s) f e = let h = heads_told _ _ _ f e in absurd cc
map_open n takes parts (list ms) f e = let h = heads_told _ _ _ f e in absurd cc
map_open n takes parts (extension tag s) f e = let h = heads_told _ _ _ f e in absurd cc
map_open n takes parts (map ps) f e =
    let h = heads_told (nodes.Map n takes) parts (map ps) f e in
    let v = value_told (nodes.Map n takes) parts (map ps) f e in
    record {
      entries = ps;
      is = refl;
      many = ap first_count h;
      made = parts_made (nodes.Map n takes) parts (flat_pairs ps) f (record {
        told = ap (drop 1) h ∙ sym (tokens-flat ps);
        within = f.within;
        fits = fits_flat ps v.0.1;
        utf8 = utf8_flat ps v.1;
      });
    }

pub open_map : (root : Node) (n takes : ℕ) (parts : Nodes) (m : Msg) → root ≡ nodes.Map n takes → IsFlat root parts → told_tree (heads_all root parts) ≡ m
    → IsMapOf n parts m
open_map root n takes parts m is f e =
    map_open n takes parts m (subst (λ z. IsFlat z parts) is f) (subst (λ z. told_tree (heads_all z parts) ≡ m) is e)

longer_map : (ps : Pairs) (k v : Msg) → count_pairs (pairs (pairs_of ps ++ (k, v) ∷ [])) ≡ suc (count_pairs ps)
longer_map no_pairs k v = refl
longer_map (pair j w ps) k v = ap suc (longer_map ps k v)

two_more : (ps : Pairs) (k v : Msg) → msgs (items_of (flat_pairs ps) ++ k ∷ v ∷ []) ≡ flat_pairs (pairs (pairs_of ps ++ (k, v) ∷ []))
two_more no_pairs k v = refl
two_more (pair j w ps) k v = ap (λ z. item j (item w z)) (two_more ps k v)

-- a map of one more pair
module _ (n len : ℕ) (parts : Nodes) (ps : Pairs) (k v : Msg) (o : AreNodesOf parts (items_of (flat_pairs ps) ++ k ∷ v ∷ [])) (c : len ≡ count_pairs ps)
    (e : n ≡ len + 1) where
  many_pairs : n ≡ count_pairs (pairs (pairs_of ps ++ (k, v) ∷ []))
  many_pairs = omega (arith, c, e, longer_map ps k v)

  pair_row : IsRowOf parts (flat_pairs (pairs (pairs_of ps ++ (k, v) ∷ [])))
  pair_row = subst (IsRowOf parts) (two_more ps k v) (whole_row parts (items_of (flat_pairs ps) ++ k ∷ v ∷ []) o)

  pub map_flat : n < 2 ^ 32 → IsFlat (nodes.Map n 1) parts
  map_flat l = record {
    told = map_tree parts n 0 (pairs (pairs_of ps ++ (k, v) ∷ [])) pair_row many_pairs l;
    takes = o.takes;
    within = o.within;
    root_within = tt;
  }

  pub map_pushed : told_tree (heads_all (nodes.Map n 1) parts) ≡ map (pairs (pairs_of ps ++ (k, v) ∷ []))
  map_pushed = map_is parts n 0 (pairs (pairs_of ps ++ (k, v) ∷ [])) pair_row many_pairs
