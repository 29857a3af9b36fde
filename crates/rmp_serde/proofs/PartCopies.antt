-- A part of a value as a value of its own.
use Rattle.std.proofs.Common.{◌≡◌, ◌∙◌, sym, ap, subst, refl, ℕ, zero, suc, ◌+◌, ◌-◌, ◌≤◌, arith, List, [], ◌∷◌, ◌++◌, length, take, drop}
use Rattle.std.proofs.lemmas.List.{append-nil, take_at}
use Rattle.std.proofs.Math.Seq.{drop-append_seam, take-length}
use Rattle.rmp_wire.specs.declared.head.Head.{Head}
use Rattle.rmp_wire.specs.declared.head.Head.TheVariants.{Nil, Truth, Whole, F32Bits, F64Bits, Text, Bin, Array, Map, Ext}
use Rattle.rmp_wire.specs.Heads.{fits_head}
use Rattle.rmp_wire.specs.Msg.{Msg, nil, truth, whole, float32, float64, text, bin, list, map, extension, Msgs, no_items, item, Pairs, no_pairs, pair}
use Rattle.rmp_wire.specs.Msg.{count, msgs}
use Rattle.rmp_wire.specs.Spelling.{head_of, Fits, FitsAll, FitsPairs}
use Rattle.rmp_wire.proofs.Lists.{msgs-items_of}
use Rattle.rmp_decode.specs.Kinds.{content_len}
use Rattle.rmp_decode.proofs.Rows.{append}
use Rattle.rmp_serde.specs.Flat.{content_at, heads_of, heads_all, heads_in, told_tree, span, IsFlat, IsRow, IsTree, IsWithin}
use Rattle.rmp_serde.specs.Parts.{content_of, parts_of, parts_in_turn}
use Rattle.rmp_serde.specs.Read.{AllTextsUtf8, ItemsUtf8}
use Rattle.rmp_serde.specs.Tokens.{Token, tokens, tokens_all, flat_pairs, first_items, past_items, first_pairs, past_pairs, built, first_tree}
use Rattle.rmp_serde.specs.declared.value.flat.Node.{Node}
use Rattle.rmp_serde.specs.declared.value.flat.Nodes.{Nodes}
use Rattle.rmp_serde.proofs.FlatMade.{heads_stay}
use Rattle.rmp_serde.proofs.FlatParts.{heads_told, value_told, all_utf8, parts_at, utf8_at, turn_at}
use Rattle.rmp_serde.proofs.FlatRows.{row_tail, tree_row, told_is, tokens-append, tokens-flat, first-past, pairs-past, map_many}
use Rattle.rmp_serde.proofs.Tokens.{built_tree}

-- ---- each message of a row has room in its heads

fits_append : (ms ks : Msgs) → FitsAll ms → FitsAll ks → FitsAll (append ms ks)
fits_append no_items ks a b = b
fits_append (item m ms) ks a b = (a.0, fits_append ms ks a.1 b)

fits_flat : (ps : Pairs) → FitsPairs ps → FitsAll (flat_pairs ps)
fits_flat no_pairs a = a
fits_flat (pair k v ps) a = (a.0, (a.1, fits_flat ps a.2))

fits_tail : (h : Head) (s : List ℕ) (ts : List Token) → IsRow ((h, s) ∷ ts) → FitsAll (built ((h, s) ∷ ts)) → FitsAll (built ts)
fits_tail Nil s ts r u = u.1
fits_tail (Truth t) s ts r u = u.1
fits_tail (Whole z) s ts r u = u.1
fits_tail (F32Bits n) s ts r u = u.1
fits_tail (F64Bits n) s ts r u = u.1
fits_tail (Text n) s ts r u = u.1
fits_tail (Bin n) s ts r u = u.1
fits_tail (Array n) s ts r u = subst FitsAll (first-past n (built ts)) (fits_append (first_items n (built ts)) (past_items n (built ts)) u.0.1 u.1)
fits_tail (Map n) s ts r u =
    subst FitsAll (pairs-past n (built ts) (map_many n s ts r))
    (fits_append (flat_pairs (first_pairs n (built ts))) (past_pairs n (built ts)) (fits_flat (first_pairs n (built ts)) u.0.1) u.1)
fits_tail (Ext n tag) s ts r u = u.1

fits_at : (ts : List Token) (at : ℕ) → IsRow ts → FitsAll (built ts) → FitsAll (built (drop at ts))
fits_at ts zero r u = u
fits_at [] (suc at) r u = u
fits_at (t ∷ ts) (suc at) r u = fits_at ts at (row_tail t.0 t.1 ts r) (fits_tail t.0 t.1 ts r u)

first_fits : (ms : Msgs) → FitsAll ms → Fits (first_tree ms)
unfolding fits_head
first_fits no_items u = tt
first_fits (item m ms) u = u.0

first_utf8 : (ms : Msgs) → ItemsUtf8 ms → AllTextsUtf8 (first_tree ms)
first_utf8 no_items u = tt
first_utf8 (item m ms) u = u.0

-- ---- the heads of a message: its own, and those of its parts

own_and_parts : (m : Msg) → tokens m ≡ (head_of m, content_of m) ∷ tokens_all (msgs (parts_in_turn m))
own_and_parts nil = refl
own_and_parts (truth t) = refl
own_and_parts (whole z) = refl
own_and_parts (float32 n) = refl
own_and_parts (float64 n) = refl
own_and_parts (text s) = refl
own_and_parts (bin s) = refl
own_and_parts (list ms) = ap (λ z. (head_of (list ms), []) ∷ tokens_all z) (sym (msgs-items_of ms))
own_and_parts (map ps) = ap (λ z. (head_of (map ps), []) ∷ z) (sym (tokens-flat ps) ∙ ap tokens_all (sym (msgs-items_of (flat_pairs ps))))
own_and_parts (extension tag s) = refl

-- of the message at a place
tokens_from : (ts : List Token) (at : ℕ) → IsRow ts → tokens (told_tree (drop at ts)) ≡
    (head_of (told_tree (drop at ts)), content_of (told_tree (drop at ts)))
    ∷ tokens_all (first_items (parts_of (told_tree (drop at ts))) (built (drop (suc at) ts)))
tokens_from ts at r =
    let t = told_tree (drop at ts) in
    let row = first_items (parts_of t) (built (drop (suc at) ts)) in
    own_and_parts t ∙ ap (λ z. (head_of t, content_of t) ∷ tokens_all z) (ap msgs (turn_at ts at r) ∙ msgs-items_of row)

-- the heads of the first messages of a row
first_heads : (n : ℕ) (ts : List Token) → IsRow ts → take (span n ts) ts ≡ tokens_all (first_items n (built ts))
first_heads n ts r =
    let ms = built ts in
    let split : ts ≡ tokens_all (first_items n ms) ++ tokens_all (past_items n ms) = r ∙ ap tokens_all (sym (first-past n ms))
    ∙ tokens-append (first_items n ms) (past_items n ms) in
    ap (λ z. take (span n ts) z) split ∙ take_at (tokens_all (first_items n ms)) (tokens_all (past_items n ms)) (span n ts) refl

content_fits : (m : Msg) → length (content_of m) ≡ content_len (head_of m)
content_fits nil = refl
content_fits (truth t) = refl
content_fits (whole z) = refl
content_fits (float32 n) = refl
content_fits (float64 n) = refl
content_fits (text s) = refl
content_fits (bin s) = refl
content_fits (list ms) = refl
content_fits (map ps) = refl
content_fits (extension tag s) = refl

pub part_long : (m : Msg) (h : Head) → h ≡ head_of m → content_len h ≡ length (content_of m)
part_long m h e = ap content_len e ∙ sym (content_fits m)

-- a head whose content was put to the end of the buffer
pub root_last : (made after : Nodes) (h : Head) (s : List ℕ) (at : ℕ) → IsWithin made → after.nodes.items ≡ made.nodes.items
    → after.bytes.items ≡ made.bytes.items ++ s → at ≡ length made.bytes.items → content_len h ≡ length s
    → content_at after h at ∷ heads_of after ≡ (h, s) ∷ heads_of made
root_last made after h s at w n b a l =
    let content : take (content_len h) (drop at after.bytes.items) ≡ s =
    (λ i. take (l i) (drop (a i) (b i))) ∙ ap (take (length s)) (drop-append_seam made.bytes.items s) ∙ take-length s in
    let heads : heads_of after ≡ heads_of made = (λ i. heads_in (b i) (n i)) ∙ heads_stay made.nodes.items made.bytes.items s w in
    λ i. (h, content i) ∷ heads i

-- ---- the part at a place of a value, in a row of its own

module _ (root : Node) (parts : Nodes) (m : Msg) (at : ℕ) (f : IsFlat root parts) (e : told_tree (heads_all root parts) ≡ m) where
  -- the part
  abbrev whole_part : Msg
  whole_part = told_tree (drop at (tokens m))

  pub part_told : Fits whole_part × AllTextsUtf8 whole_part
  part_told =
      let told = value_told root parts m f e in
      let one : built (tokens m) ≡ item m no_items = ap built (sym (append-nil (tokens m))) ∙ built_tree m [] in
      let fits : FitsAll (built (tokens m)) = subst FitsAll (sym one) (told.0, tt) in (
        first_fits (built (drop at (tokens m))) (fits_at (tokens m) at (tree_row m) fits),
        first_utf8 (built (drop at (tokens m))) (utf8_at (tokens m) at (tree_row m) (all_utf8 root parts m f e)),
      )

  after : drop (suc at) (tokens m) ≡ drop at (heads_of parts)
  after = ap (drop (suc at)) (sym (heads_told root parts m f e))

  pub parts_there : parts_of whole_part ≤ count (built (drop at (heads_of parts)))
  parts_there = subst (λ z. parts_of whole_part ≤ count (built z)) after (parts_at (tokens m) at (tree_row m))

  -- its heads, where those of its parts are the first that come after its own
  pub part_heads : (made : Nodes) → IsRow (drop at (heads_of parts))
      → heads_of made ≡ take (span (parts_of whole_part) (drop at (heads_of parts))) (drop at (heads_of parts))
      → tokens whole_part ≡ (head_of whole_part, content_of whole_part) ∷ heads_of made
  part_heads made r told =
      tokens_from (tokens m) at (tree_row m)
      ∙ ap (λ z. (head_of whole_part, content_of whole_part) ∷ z)
      (ap (λ z. tokens_all (first_items (parts_of whole_part) (built z))) after ∙ sym (first_heads (parts_of whole_part) (drop at (heads_of parts)) r) ∙ sym told)

  -- the same of heads that were copied, and its own content after theirs
  pub copied : (made after : Nodes) (h : Head) (s : List ℕ) (start n place : ℕ) → IsRow (drop at (heads_of parts)) → n ≡ parts_of whole_part
      → place ≡ at + span n (drop at (heads_of parts)) → heads_of made ≡ take (place - at) (drop at (heads_of parts)) → IsWithin made
      → after.nodes.items ≡ made.nodes.items → after.bytes.items ≡ made.bytes.items ++ s → start ≡ length made.bytes.items
      → h ≡ head_of whole_part → s ≡ content_of whole_part → tokens whole_part ≡ content_at after h start ∷ heads_of after
  copied made after h s start n place r many p told w nodes bytes long own content =
      let heads = drop at (heads_of parts) in
      let inner : place - at ≡ span (parts_of whole_part) heads = omega (arith, p ∙ ap (λ z. at + span z heads) many) in
      part_heads made r (told ∙ ap (λ z. take z heads) inner) ∙ sym (λ i. (own i, content i) ∷ heads_of made)
      ∙ sym (root_last made after h s start w nodes bytes long (part_long whole_part h own ∙ sym (ap length content)))

pub tree_of_heads : (m : Msg) (heads : List Token) → tokens m ≡ heads → Fits m → AllTextsUtf8 m → IsTree heads
tree_of_heads m heads t f u = record { tree = m; told = sym t; fits = f; utf8 = u }

pub told_heads : (m : Msg) (heads : List Token) → tokens m ≡ heads → told_tree heads ≡ m
told_heads m heads t = ap told_tree (sym t) ∙ told_is m
