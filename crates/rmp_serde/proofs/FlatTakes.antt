-- From one message of a row to the next, by what each node takes.
use Rattle.std.proofs.Common.{◌≡◌, ◌∙◌, sym, ap, subst, refl, ℕ, zero, suc, ◌+◌, ◌-◌, ◌<◌, ◌≤◌, arith, List, [], ◌∷◌, length, drop, get_or, set}
use Rattle.std.specs.Prelude.{true}
use Rattle.std.specs.List.{AllByRecursion}
use Rattle.std.proofs.lemmas.List.{drop-map, drop-set, drop_more, get_or-drop, length-drop, length-map}
use Rattle.rmp_wire.specs.Msg.{count}
use Rattle.rmp_serde.specs.Flat.{head_in, content_in, token_in, heads_in, takes_in, takes_then, is_leaf, parts_in, EndsBy, IsRow, AllTake, size_of, span}
use Rattle.rmp_serde.specs.Tokens.{built}
use Rattle.rmp_serde.specs.declared.value.flat.Node.{Node}
use Rattle.rmp_serde.specs.declared.value.flat.Node.TheVariants as nodes
use Rattle.rmp_serde.proofs.FlatRows.{row_drop, span_more, span_goes_on, span_within, list_parts, map_parts, map_size}

pub heads_drop : (b : List ℕ) (row : List Node) (n : ℕ) → drop n (heads_in b row) ≡ heads_in b (drop n row)
heads_drop b row n = drop-map (token_in b) n row

pub takes_drop : (b : List ℕ) (row : List Node) (n : ℕ) → AllTake b row → AllTake b (drop n row)
takes_drop b row zero a = a
takes_drop b [] (suc n) a = a
takes_drop b (node ∷ row) (suc n) a = takes_drop b row n a.1

takes_at : (b : List ℕ) (row : List Node) (n : ℕ) (node : Node) → AllTake b row → n < length row → node ≡ get_or row n node
    → takes_in node ≡ size_of (heads_in b (drop n row))
takes_at b [] n node a l e = absurd (omega (arith, l))
takes_at b (first ∷ row) zero node a l e = ap takes_in e ∙ a.0
takes_at b (first ∷ row) (suc n) node a l e = takes_at b row n node a.1 (omega (arith, l)) e

-- where a walk is after i messages of a row that begins at an index
module _ (b : List ℕ) (row : List Node) (at : ℕ) (r : IsRow (drop at (heads_in b row))) (t : AllTake b (drop at row)) where
  pub walk_place : (i : ℕ) (place : ℕ) → i < count (built (drop at (heads_in b row))) → place ≡ at + span i (drop at (heads_in b row)) → place < length row
  walk_place i place l e =
      omega (arith, e, span_goes_on i (drop at (heads_in b row)) r l, length-drop at (heads_in b row), length-map row (token_in b))

  pub walk_step : (i : ℕ) (place : ℕ) (node : Node) → i < count (built (drop at (heads_in b row))) → place ≡ at + span i (drop at (heads_in b row))
      → node ≡ get_or row place node
      → place + takes_in node ≡ at + span (suc i) (drop at (heads_in b row))
  walk_step i place node l e g =
      let heads = drop at (heads_in b row) in
      let s = span i heads in
      let there : s < length (drop at row) = omega (arith, walk_place i place l e, e, length-drop at row) in
      let is : node ≡ get_or (drop at row) s node = g ∙ ap (λ z. get_or row z node) e ∙ sym (get_or-drop at row s node) in
      let same : drop s heads ≡ heads_in b (drop s (drop at row)) = ap (drop s) (heads_drop b row at) ∙ heads_drop b (drop at row) s in
      omega (arith, e, span_more i heads r l, takes_at b (drop at row) s node t there is, ap size_of same)

  pub walk_within : (i : ℕ) (place : ℕ) → at ≤ length row → place ≡ at + span i (drop at (heads_in b row)) → place ≤ length row
  walk_within i place l e =
      omega (arith, l, e, span_within i (drop at (heads_in b row)) r, length-drop at (heads_in b row), length-map row (token_in b))

-- ---- telling what a node takes

pub heads_set : (b : List ℕ) (row : List Node) (at : ℕ) (node node' : Node) → node ≡ get_or row at node → head_in node' ≡ head_in node
    → content_in b node' ≡ content_in b node
    → heads_in b (set row at node') ≡ heads_in b row
heads_set b [] at node node' g h c = refl
heads_set b (first ∷ row) zero node node' g h c = λ i. ((h ∙ ap head_in g) i, (c ∙ ap (content_in b) g) i) ∷ heads_in b row
heads_set b (first ∷ row) (suc at) node node' g h c = ap (λ z. (head_in first, content_in b first) ∷ z) (heads_set b row at node node' g h c)

pub within_set : (end : ℕ) (row : List Node) (at : ℕ) (node node' : Node) → node ≡ get_or row at node → (EndsBy end node → EndsBy end node')
    → AllByRecursion (EndsBy end) row
    → AllByRecursion (EndsBy end) (set row at node')
within_set end [] at node node' g w a = a
within_set end (first ∷ row) zero node node' g w a = (w (subst (EndsBy end) (sym g) a.0), a.1)
within_set end (first ∷ row) (suc at) node node' g w a = (a.0, within_set end row at node node' g w a.1)

-- after a head come its parts
pub parts_after : (b : List ℕ) (node : Node) (row : List Node) → IsRow (heads_in b (node ∷ row)) → parts_in node ≤ count (built (heads_in b row))
parts_after b nodes.Nil row r = omega arith
parts_after b (nodes.Truth t) row r = omega arith
parts_after b (nodes.Unsigned n) row r = omega arith
parts_after b (nodes.Signed z) row r = omega arith
parts_after b (nodes.F32 n) row r = omega arith
parts_after b (nodes.F64 n) row r = omega arith
parts_after b (nodes.Text len at) row r = omega arith
parts_after b (nodes.Bytes len at) row r = omega arith
parts_after b (nodes.Ext tag len at) row r = omega arith
parts_after b (nodes.List n takes) row r = list_parts n [] (heads_in b row) r
parts_after b (nodes.Map n takes) row r = map_parts n [] (heads_in b row) r

-- how many nodes it takes, by where its parts end
pub size_is : (b : List ℕ) (node : Node) (row : List Node) → IsRow (heads_in b (node ∷ row))
    → takes_then (suc (span (parts_in node) (heads_in b row))) node ≡ size_of (heads_in b (node ∷ row))
size_is b nodes.Nil row r = refl
size_is b (nodes.Truth t) row r = refl
size_is b (nodes.Unsigned n) row r = refl
size_is b (nodes.Signed z) row r = refl
size_is b (nodes.F32 n) row r = refl
size_is b (nodes.F64 n) row r = refl
size_is b (nodes.Text len at) row r = refl
size_is b (nodes.Bytes len at) row r = refl
size_is b (nodes.Ext tag len at) row r = refl
size_is b (nodes.List n takes) row r = refl
size_is b (nodes.Map n takes) row r = sym (map_size n [] (heads_in b row) r)

-- the messages from an index of a row on
pub from_place : (b : List ℕ) (row : List Node) (at : ℕ) (node : Node) → at < length row → node ≡ get_or row at node
    → drop at (heads_in b row) ≡ heads_in b (node ∷ drop (at + 1) row)
from_place b row at node l g = heads_drop b row at ∙ ap (heads_in b) (drop_more row at node l ∙ ap (λ z. z ∷ drop (at + 1) row) (sym g))

-- one more node tells what it takes
pub settled : (b : List ℕ) (row : List Node) (at end : ℕ) (node node' : Node) → at < length row → node ≡ get_or row at node → IsRow (heads_in b row)
    → AllTake b (drop (at + 1) row)
    → end ≡ at + 1 + span (parts_in node) (drop (at + 1) (heads_in b row)) → head_in node' ≡ head_in node → content_in b node' ≡ content_in b node
    → takes_in node' ≡ takes_then (end - at) node
    → AllTake b (drop at (set row at node'))
settled b row at end node node' l g r t e h c k =
    let more = drop (at + 1) row in
    let here : IsRow (heads_in b (node ∷ more)) = subst IsRow (from_place b row at node l g) (row_drop at (heads_in b row) r) in
    let long : end - at ≡ suc (span (parts_in node) (heads_in b more)) = omega (arith, e, ap (span (parts_in node)) (heads_drop b row (at + 1))) in
    let heads : heads_in b (node' ∷ more) ≡ heads_in b (node ∷ more) = λ i. (h i, c i) ∷ heads_in b more in
    subst (AllTake b) (sym (drop-set row at node' l)) (k ∙ ap (λ z. takes_then z node) long ∙ size_is b node more here ∙ ap size_of (sym heads), t)

leaf_takes : (node : Node) (n : ℕ) → is_leaf node ≡ true → takes_then n node ≡ takes_in node
leaf_takes nodes.Nil n e = refl
leaf_takes (nodes.Truth t) n e = refl
leaf_takes (nodes.Unsigned z) n e = refl
leaf_takes (nodes.Signed z) n e = refl
leaf_takes (nodes.F32 z) n e = refl
leaf_takes (nodes.F64 z) n e = refl
leaf_takes (nodes.Text len at) n e = refl
leaf_takes (nodes.Bytes len at) n e = refl
leaf_takes (nodes.Ext tag len at) n e = refl
leaf_takes (nodes.List z takes) n e = absurd cc
leaf_takes (nodes.Map z takes) n e = absurd cc

-- of a leaf it needn't be set
pub settled_leaf : (b : List ℕ) (row : List Node) (at : ℕ) (node : Node) → at < length row → node ≡ get_or row at node → IsRow (heads_in b row)
    → AllTake b (drop (at + 1) row) → is_leaf node ≡ true → AllTake b (drop at row)
settled_leaf b row at node l g r t e =
    let more = drop (at + 1) row in
    let here : IsRow (heads_in b (node ∷ more)) = subst IsRow (from_place b row at node l g) (row_drop at (heads_in b row) r) in
    let is : drop at row ≡ node ∷ more = drop_more row at node l ∙ ap (λ z. z ∷ more) (sym g) in
    let takes : takes_in node ≡ size_of (heads_in b (node ∷ more)) = sym (leaf_takes node (suc (span (parts_in node) (heads_in b more))) e)
    ∙ size_is b node more here in
    subst (AllTake b) (sym is) (takes, t)
