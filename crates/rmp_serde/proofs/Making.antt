-- What a value is that is made of heads.
use Rattle.std.proofs.Common.{◌≡◌, ◌∙◌, sym, ap, subst, refl, ℕ, ◌+◌, ◌^◌, ◌<◌, ◌≤◌, arith, List, [], ◌∷◌, ◌++◌, length, take, drop, get_or, append_assoc}
use Rattle.std.specs.List.{AllByRecursion}
use Rattle.std.proofs.lemmas.List.{append-nil, get_or-drop, length-drop, length-map, length-take-le, take_more}
use Rattle.std.proofs.Math.Seq.{take-length}
use Rattle.rmp_wire.specs.declared.head.Head.{Head}
use Rattle.rmp_wire.specs.declared.head.Head.TheVariants as heads
use Rattle.rmp_wire.specs.Heads.{fits_head}
use Rattle.rmp_wire.specs.Msg.{Msg, nil, truth, whole, float32, float64, text, bin, extension, Msgs, no_items, item, Pairs, no_pairs, pair, list, map, count, count_pairs, msgs, pairs}
use Rattle.rmp_wire.specs.Spelling.{Fits, FitsAll, FitsPairs, IsBytes}
use Rattle.rmp_encode.specs.declared.error.Error.{Error}
use Rattle.rmp_encode.specs.declared.error.Error.TheVariants as errors
use Rattle.rmp_encode.specs.Errors.{IsTooLong}
use Rattle.rmp_decode.specs.Kinds.{content_len}
use Rattle.rmp_decode.proofs.Rows.{push}
use Rattle.rmp_serde.specs.Flat.{head_in, content_in, content_at, heads_in, heads_of, heads_all, token_in, told_tree, AllTake, EndsBy, IsFlat, IsTree, IsWithin}
use Rattle.rmp_serde.specs.Making.{IsBare, IsContentOf, MakeFails}
use Rattle.rmp_serde.specs.Read.{AllTextsUtf8, ItemsUtf8, PairsUtf8}
use Rattle.rmp_serde.specs.Tokens.{tokens, tokens_all, tokens_pairs, flat_pairs}
use Rattle.rmp_serde.specs.declared.value.flat.Node.{Node}
use Rattle.rmp_serde.specs.declared.value.flat.Nodes.{Nodes}
use Rattle.rmp_serde.specs.declared.value.flat.Node.TheVariants as nodes
use Rattle.rmp_serde.proofs.FlatParts.{heads_told, value_told}
use Rattle.rmp_serde.proofs.FlatRows.{told_is, tokens-flat}
use Rattle.rmp_serde.proofs.Same.{token_at}

-- ---- a value of one node

-- the content is all that the buffer holds
whole_content : (made : Nodes) (h : Head) (s : List ℕ) → made.bytes.items ≡ s → content_len h ≡ length s → take (content_len h) (drop 0 made.bytes.items) ≡ s
whole_content made h s b l = ap (λ z. take (content_len h) z) b ∙ ap (λ z. take z s) l ∙ take-length s

alone : (made : Nodes) (h : Head) (s : List ℕ) → heads_of made ≡ [] → made.bytes.items ≡ s → content_len h ≡ length s
    → content_at made h 0 ∷ heads_of made ≡ (h, s) ∷ []
alone made h s n b l = λ i. (h, whole_content made h s b l i) ∷ n i

pub leaf_made : (made : Nodes) (h : Head) (s : List ℕ) → heads_of made ≡ [] → made.bytes.items ≡ s → content_len h ≡ length s
    → IsTree ((h, s) ∷ []) → IsTree (content_at made h 0 ∷ heads_of made)
leaf_made made h s n b l t = subst IsTree (sym (alone made h s n b l)) t

pub leaf_is : (made : Nodes) (h : Head) (s : List ℕ) → heads_of made ≡ [] → made.bytes.items ≡ s → content_len h ≡ length s
    → told_tree (content_at made h 0 ∷ heads_of made) ≡ told_tree ((h, s) ∷ [])
leaf_is made h s n b l = ap told_tree (alone made h s n b l)

-- where there are no heads there are no nodes
pub none_of : (b : List ℕ) (row : List Node) → heads_in b row ≡ [] → row ≡ []
none_of b [] e = refl
none_of b (node ∷ row) e = absurd cc

-- a message that is its head
pub bare_tree : (h : Head) → IsBare h → fits_head h → IsTree ((h, []) ∷ [])
bare_tree heads.Nil k f = record { tree = nil; told = refl; fits = f; utf8 = tt }
bare_tree (heads.Truth t) k f = record { tree = truth t; told = refl; fits = f; utf8 = tt }
bare_tree (heads.Whole z) k f = record { tree = whole z; told = refl; fits = f; utf8 = tt }
bare_tree (heads.F32Bits n) k f = record { tree = float32 n; told = refl; fits = f; utf8 = tt }
bare_tree (heads.F64Bits n) k f = record { tree = float64 n; told = refl; fits = f; utf8 = tt }
bare_tree (heads.Text n) k f = absurd k
bare_tree (heads.Bin n) k f = absurd k
bare_tree (heads.Array n) k f = absurd k
bare_tree (heads.Map n) k f = absurd k
bare_tree (heads.Ext n tag) k f = absurd k

pub bare_alone : (h : Head) → IsBare h → content_len h ≡ 0
bare_alone heads.Nil k = refl
bare_alone (heads.Truth t) k = refl
bare_alone (heads.Whole z) k = refl
bare_alone (heads.F32Bits n) k = refl
bare_alone (heads.F64Bits n) k = refl
bare_alone (heads.Text n) k = absurd k
bare_alone (heads.Bin n) k = absurd k
bare_alone (heads.Array n) k = absurd k
bare_alone (heads.Map n) k = absurd k
bare_alone (heads.Ext n tag) k = absurd k

-- a message with content
pub content_tree : (h : Head) (s : List ℕ) → IsContentOf h s → content_len h ≡ length s → fits_head h → IsBytes s → IsTree ((h, s) ∷ [])
content_tree heads.Nil s k l f b = absurd k
content_tree (heads.Truth t) s k l f b = absurd k
content_tree (heads.Whole z) s k l f b = absurd k
content_tree (heads.F32Bits n) s k l f b = absurd k
content_tree (heads.F64Bits n) s k l f b = absurd k
content_tree (heads.Text n) s k l f b = record {
  tree = text s;
  told = ap (λ z. (heads.Text z, s) ∷ []) l;
  fits = (subst (λ z. fits_head (heads.Text z)) l f, b);
  utf8 = k;
}
content_tree (heads.Bin n) s k l f b = record {
  tree = bin s;
  told = ap (λ z. (heads.Bin z, s) ∷ []) l;
  fits = (subst (λ z. fits_head (heads.Bin z)) l f, b);
  utf8 = tt;
}
content_tree (heads.Array n) s k l f b = absurd k
content_tree (heads.Map n) s k l f b = absurd k
content_tree (heads.Ext n tag) s k l f b = record {
  tree = extension tag s;
  told = ap (λ z. (heads.Ext z tag, s) ∷ []) l;
  fits = (subst (λ z. fits_head (heads.Ext z tag)) l f, b);
  utf8 = tt;
}

-- ---- messages one after another

-- the nodes are those of these messages, which have room in their heads and whose texts are UTF-8
pub record IsRowOf (made : Nodes) (ms : Msgs) : Type 0 where
  pub told : heads_of made ≡ tokens_all ms
  pub within : IsWithin made
  pub fits : FitsAll ms
  pub utf8 : ItemsUtf8 ms

tokens-push : (ms : Msgs) (m : Msg) → tokens_all (push ms m) ≡ tokens_all ms ++ tokens m
tokens-push no_items m = append-nil (tokens m)
tokens-push (item k ms) m = ap (λ z. tokens k ++ z) (tokens-push ms m) ∙ sym (append_assoc (tokens k) (tokens_all ms) (tokens m))

fits-push : (ms : Msgs) (m : Msg) → FitsAll ms → Fits m → FitsAll (push ms m)
fits-push no_items m a f = (f, tt)
fits-push (item k ms) m a f = (a.0, fits-push ms m a.1 f)

utf8-push : (ms : Msgs) (m : Msg) → ItemsUtf8 ms → AllTextsUtf8 m → ItemsUtf8 (push ms m)
utf8-push no_items m a f = (f, tt)
utf8-push (item k ms) m a f = (a.0, utf8-push ms m a.1 f)

pub row_none : (made : Nodes) → heads_of made ≡ [] → IsWithin made → IsRowOf made no_items
row_none made e w = record { told = e; within = w; fits = tt; utf8 = tt }

-- the message of a value is added
pub row_more : (old new : Nodes) (ms : Msgs) (m : Msg) (root : Node) (parts : Nodes) → IsRowOf old ms → IsFlat root parts → told_tree (heads_all root parts) ≡ m
    → heads_of new ≡ heads_of old ++ heads_all root parts → IsWithin new → IsRowOf new (push ms m)
row_more old new ms m root parts r f is e w =
    let told = value_told root parts m f is in
    record {
      told = e ∙ ap (λ z. z ++ heads_all root parts) r.told ∙ ap (λ z. tokens_all ms ++ z) (heads_told root parts m f is) ∙ sym (tokens-push ms m);
      within = w;
      fits = fits-push ms m r.fits told.0;
      utf8 = utf8-push ms m r.utf8 told.1;
    }

pub msgs-push : (ms : List Msg) (m : Msg) → msgs (ms ++ m ∷ []) ≡ push (msgs ms) m
msgs-push [] m = refl
msgs-push (k ∷ ms) m = ap (λ z. item k z) (msgs-push ms m)

pub pairs-push : (ps : List (Msg × Msg)) (p : Msg × Msg) → flat_pairs (pairs (ps ++ p ∷ [])) ≡ push (push (flat_pairs (pairs ps)) p.0) p.1
pairs-push [] p = refl
pairs-push (q ∷ ps) p = ap (λ z. item q.0 (item q.1 z)) (pairs-push ps p)

-- one item and one pair further
pub items_next : (ms : List Msg) (i : ℕ) (m : Msg) → i < length ms → m ≡ get_or ms i m → push (msgs (take i ms)) m ≡ msgs (take (i + 1) ms)
items_next ms i m l g = sym (ap msgs (take_more ms i m l ∙ ap (λ z. take i ms ++ z ∷ []) (sym g)) ∙ msgs-push (take i ms) m)

pub pairs_next : (ps : List (Msg × Msg)) (i : ℕ) (p : Msg × Msg) → i < length ps → p ≡ get_or ps i p
    → push (push (flat_pairs (pairs (take i ps))) p.0) p.1 ≡ flat_pairs (pairs (take (i + 1) ps))
pairs_next ps i p l g = sym (ap (λ z. flat_pairs (pairs z)) (take_more ps i p l ∙ ap (λ z. take i ps ++ z ∷ []) (sym g)) ∙ pairs-push (take i ps) p)

-- ---- a list and a map of them

pub list_tree : (made : Nodes) (n at : ℕ) (ms : Msgs) → IsRowOf made ms → n ≡ count ms → n < 2 ^ 32 → IsTree (content_at made (heads.Array n) at ∷ heads_of made)
unfolding fits_head
list_tree made n at ms r e l = record {
  tree = list ms;
  told = λ i. (heads.Array (e i), []) ∷ r.told i;
  fits = (subst (λ k. k < 2 ^ 32) e l, r.fits);
  utf8 = r.utf8;
}

pub list_is : (made : Nodes) (n at : ℕ) (ms : Msgs) → IsRowOf made ms → n ≡ count ms → told_tree (content_at made (heads.Array n) at ∷ heads_of made) ≡ list ms
list_is made n at ms r e =
    let told : content_at made (heads.Array n) at ∷ heads_of made ≡ tokens (list ms) = λ i. (heads.Array (e i), []) ∷ r.told i in
    ap told_tree told ∙ told_is (list ms)

fits_pairs : (ps : Pairs) → FitsAll (flat_pairs ps) → FitsPairs ps
fits_pairs no_pairs f = tt
fits_pairs (pair k v ps) f = (f.0, f.1.0, fits_pairs ps f.1.1)

utf8_pairs : (ps : Pairs) → ItemsUtf8 (flat_pairs ps) → PairsUtf8 ps
utf8_pairs no_pairs f = tt
utf8_pairs (pair k v ps) f = (f.0, f.1.0, utf8_pairs ps f.1.1)

map_told : (made : Nodes) (n at : ℕ) (ps : Pairs) → IsRowOf made (flat_pairs ps) → n ≡ count_pairs ps
    → content_at made (heads.Map n) at ∷ heads_of made ≡ tokens (map ps)
map_told made n at ps r e =
    let parts : heads_of made ≡ tokens_pairs ps = r.told ∙ tokens-flat ps in
    λ i. (heads.Map (e i), []) ∷ parts i

pub map_tree : (made : Nodes) (n at : ℕ) (ps : Pairs) → IsRowOf made (flat_pairs ps) → n ≡ count_pairs ps → n < 2 ^ 32
    → IsTree (content_at made (heads.Map n) at ∷ heads_of made)
unfolding fits_head
map_tree made n at ps r e l = record {
  tree = map ps;
  told = map_told made n at ps r e;
  fits = (subst (λ k. k < 2 ^ 32) e l, fits_pairs ps r.fits);
  utf8 = utf8_pairs ps r.utf8;
}

pub map_is : (made : Nodes) (n at : ℕ) (ps : Pairs) → IsRowOf made (flat_pairs ps) → n ≡ count_pairs ps
    → told_tree (content_at made (heads.Map n) at ∷ heads_of made) ≡ map ps
map_is made n at ps r e = ap told_tree (map_told made n at ps r e) ∙ told_is (map ps)

-- ---- a node that is copied

piece_long : (len at : ℕ) (b : List ℕ) → at + len ≤ length b → length (take len (drop at b)) ≡ len
piece_long len at b l = length-take-le len (drop at b) (omega (arith, l, length-drop at b))

-- a node's content is as long as its head says
pub content_long : (b : List ℕ) (node : Node) → EndsBy (length b) node → length (content_in b node) ≡ content_len (head_in node)
content_long b nodes.Nil e = refl
content_long b (nodes.Truth t) e = refl
content_long b (nodes.Unsigned n) e = refl
content_long b (nodes.Signed z) e = refl
content_long b (nodes.F32 n) e = refl
content_long b (nodes.F64 n) e = refl
content_long b (nodes.Text len at) e = piece_long len at b e
content_long b (nodes.Bytes len at) e = piece_long len at b e
content_long b (nodes.Ext tag len at) e = piece_long len at b e
content_long b (nodes.List n takes) e = refl
content_long b (nodes.Map n takes) e = refl

-- one node further
pub one_more : (b : List ℕ) (row : List Node) (at i : ℕ) (node : Node) → at + i < length row → node ≡ get_or row (at + i) node
    → take (i + 1) (drop at (heads_in b row)) ≡ take i (drop at (heads_in b row)) ++ token_in b node ∷ []
one_more b row at i node l e =
    let heads = heads_in b row in
    let d = token_in b node in
    let there : i < length (drop at heads) = omega (arith, l, length-drop at heads, length-map row (token_in b)) in
    take_more (drop at heads) i d there ∙ ap (λ z. take i (drop at heads) ++ z ∷ []) (get_or-drop at heads i d ∙ token_at b row (at + i) node d l e)

-- ---- errors

-- a length that is too large
pub too_long : (n : ℕ) (e : Error) → IsTooLong e → 2 ^ 32 ≤ n → MakeFails n e
too_long n (errors.InvalidValueWrite w) t l = t
too_long n errors.UnknownLength t l = t
too_long n (errors.InvalidDataModel d) t l = (t, l)
too_long n errors.DepthLimitExceeded t l = t
too_long n (errors.Syntax d) t l = t
too_long n errors.OutOfMemory t l = absurd t

-- ---- a copy of a whole value

module _ (root : Node) (parts made : Nodes) (n : made.nodes.items ≡ parts.nodes.items) (b : made.bytes.items ≡ parts.bytes.items) where
  pub copy_is : told_tree (heads_all root made) ≡ told_tree (heads_all root parts)
  copy_is = λ i. told_tree (token_in (b i) root ∷ heads_in (b i) (n i))

  pub copy_flat : IsFlat root parts → IsFlat root made
  copy_flat f =
      let row = parts.nodes.items in
      let bytes = parts.bytes.items in
      record {
        told = subst (λ z. IsTree (token_in z root ∷ heads_in z made.nodes.items)) (sym b)
            (subst (λ z. IsTree (token_in bytes root ∷ heads_in bytes z)) (sym n) f.told);
        takes = subst (λ z. AllTake z made.nodes.items) (sym b) (subst (AllTake bytes) (sym n) f.takes);
        within = subst (λ z. AllByRecursion (EndsBy (length z)) made.nodes.items) (sym b) (subst (AllByRecursion (EndsBy (length bytes))) (sym n) f.within);
        root_within = subst (λ z. EndsBy (length z) root) (sym b) f.root_within;
      }
