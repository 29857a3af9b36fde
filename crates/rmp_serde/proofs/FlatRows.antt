-- Heads in a row tell messages in a row, from each head on.
use Rattle.std.proofs.Common.{◌≡◌, ◌∙◌, sym, ap, refl, ℕ, zero, suc, ◌+◌, ◌*◌, ◌<◌, ◌≤◌, arith}
use Rattle.std.proofs.Common.{List, [], ◌∷◌, ◌++◌, length, drop, append_assoc, length-append}
use Rattle.std.proofs.lemmas.List.{append-nil, drop_at}
use Rattle.rmp_wire.specs.declared.head.Head.{Head}
use Rattle.rmp_wire.specs.declared.head.Head.TheVariants.{Nil, Truth, Whole, F32Bits, F64Bits, Text, Bin, Array, Map, Ext}
use Rattle.rmp_wire.specs.Msg.{
  Msg,
  nil,
  truth,
  whole,
  float32,
  float64,
  text,
  bin,
  list,
  map,
  extension,
  Msgs,
  no_items,
  item,
  Pairs,
  no_pairs,
  pair,
  count,
  count_pairs,
}
use Rattle.rmp_decode.proofs.Rows.{append}
use Rattle.rmp_serde.specs.Flat.{IsRow, size_of, span, told_tree}
use Rattle.rmp_serde.specs.Tokens.{Token, tokens, tokens_all, tokens_pairs, flat_pairs, first_items, past_items, first_pairs, past_pairs, built, first_tree}
use Rattle.rmp_serde.proofs.Tokens.{built_tree, built_all}

pub append-none : (ms : Msgs) → append ms no_items ≡ ms
append-none no_items = refl
append-none (item m ms) = ap (λ z. item m z) (append-none ms)

pub tokens-append : (ms ks : Msgs) → tokens_all (append ms ks) ≡ tokens_all ms ++ tokens_all ks
tokens-append no_items ks = refl
tokens-append (item m ms) ks = ap (λ z. tokens m ++ z) (tokens-append ms ks) ∙ sym (append_assoc (tokens m) (tokens_all ms) (tokens_all ks))

pub tokens-flat : (ps : Pairs) → tokens_all (flat_pairs ps) ≡ tokens_pairs ps
tokens-flat no_pairs = refl
tokens-flat (pair k v ps) = ap (λ z. tokens k ++ (tokens v ++ z)) (tokens-flat ps)

pub first-past : (n : ℕ) (ms : Msgs) → append (first_items n ms) (past_items n ms) ≡ ms
first-past zero ms = refl
first-past (suc n) no_items = refl
first-past (suc n) (item m ms) = ap (λ z. item m z) (first-past n ms)

-- ---- the pairs of a map are the messages after its head, two by two

pub pairs-past : (n : ℕ) (ms : Msgs) → count_pairs (first_pairs n ms) ≡ n → append (flat_pairs (first_pairs n ms)) (past_pairs n ms) ≡ ms
pairs-past zero ms e = refl
pairs-past (suc n) no_items e = refl
pairs-past (suc n) (item k no_items) e = absurd (omega (arith, e))
pairs-past (suc n) (item k (item v ms)) e = ap (λ z. item k (item v z)) (pairs-past n ms (omega (arith, e)))

pub pairs-items : (n : ℕ) (ms : Msgs) → count_pairs (first_pairs n ms) ≡ n → flat_pairs (first_pairs n ms) ≡ first_items (2 * n) ms
pairs-items zero ms e = refl
pairs-items (suc n) no_items e = absurd (omega (arith, e))
pairs-items (suc n) (item k no_items) e = absurd (omega (arith, e))
pairs-items (suc n) (item k (item v ms)) e =
    let more : 2 * suc n ≡ suc (suc (2 * n)) = omega arith in
    ap (λ z. item k (item v z)) (pairs-items n ms (omega (arith, e))) ∙ ap (λ z. first_items z (item k (item v ms))) (sym more)

-- ---- rows

-- what is built from the heads of messages in a row is these messages
pub built_row : (ms : Msgs) → built (tokens_all ms) ≡ ms
built_row ms = ap built (sym (append-nil (tokens_all ms))) ∙ built_all ms [] ∙ append-none ms

pub is_row : (ms : Msgs) → IsRow (tokens_all ms)
is_row ms = ap tokens_all (sym (built_row ms))

-- the heads of one message are a row
pub tree_row : (m : Msg) → IsRow (tokens m)
tree_row m = sym (append-nil (tokens m)) ∙ is_row (item m no_items) ∙ ap (λ z. tokens_all (built z)) (append-nil (tokens m))

pub told_is : (m : Msg) → told_tree (tokens m) ≡ m
told_is m = ap told_tree (sym (append-nil (tokens m))) ∙ ap first_tree (built_tree m [])

abbrev parts_in : Head → ℕ
parts_in (Array n) = n
parts_in (Map n) = n
parts_in h = 0

abbrev parts_first : List Token → ℕ
parts_first [] = 0
parts_first (t ∷ ts) = parts_in t.0

-- as many items as the head of a list says
pub list_many : (n : ℕ) (s : List ℕ) (ts : List Token) → IsRow ((Array n, s) ∷ ts) → count (first_items n (built ts)) ≡ n
list_many n s ts e = sym (ap parts_first e)

pub map_many : (n : ℕ) (s : List ℕ) (ts : List Token) → IsRow ((Map n, s) ∷ ts) → count_pairs (first_pairs n (built ts)) ≡ n
map_many n s ts e = sym (ap parts_first e)

-- after each head of a row comes a row
pub row_tail : (h : Head) (s : List ℕ) (ts : List Token) → IsRow ((h, s) ∷ ts) → IsRow ts
row_tail Nil s ts e = ap (drop 1) e
row_tail (Truth t) s ts e = ap (drop 1) e
row_tail (Whole z) s ts e = ap (drop 1) e
row_tail (F32Bits n) s ts e = ap (drop 1) e
row_tail (F64Bits n) s ts e = ap (drop 1) e
row_tail (Text n) s ts e = ap (drop 1) e
row_tail (Bin n) s ts e = ap (drop 1) e
row_tail (Array n) s ts e = ap (drop 1) e ∙ sym (tokens-append (first_items n (built ts)) (past_items n (built ts))) ∙ ap tokens_all (first-past n (built ts))
row_tail (Map n) s ts e =
    let ms = built ts in
    ap (drop 1) e ∙ ap (λ z. z ++ tokens_all (past_pairs n ms)) (sym (tokens-flat (first_pairs n ms)))
    ∙ sym (tokens-append (flat_pairs (first_pairs n ms)) (past_pairs n ms))
    ∙ ap tokens_all (pairs-past n ms (map_many n s ts e))
row_tail (Ext n tag) s ts e = ap (drop 1) e

pub row_drop : (n : ℕ) (ts : List Token) → IsRow ts → IsRow (drop n ts)
row_drop zero ts e = e
row_drop (suc n) [] e = e
row_drop (suc n) (t ∷ ts) e = row_drop n ts (row_tail t.0 t.1 ts e)

-- ---- from one message of a row to the next

-- after the first n messages come the others
pub rest_is : (n : ℕ) (ts : List Token) → IsRow ts → drop (span n ts) ts ≡ tokens_all (past_items n (built ts))
rest_is n ts e =
    let ms = built ts in
    let split : ts ≡ tokens_all (first_items n ms) ++ tokens_all (past_items n ms) = e ∙ ap tokens_all (sym (first-past n ms))
    ∙ tokens-append (first_items n ms) (past_items n ms) in
    ap (λ z. drop (span n ts) z) split ∙ drop_at (tokens_all (first_items n ms)) (tokens_all (past_items n ms)) (span n ts) refl

pub built_rest : (n : ℕ) (ts : List Token) → IsRow ts → built (drop (span n ts) ts) ≡ past_items n (built ts)
built_rest n ts e = ap built (rest_is n ts e) ∙ built_row (past_items n (built ts))

pub span_within : (n : ℕ) (ts : List Token) → IsRow ts → span n ts ≤ length ts
span_within n ts e =
    let ms = built ts in
    let split : ts ≡ tokens_all (first_items n ms) ++ tokens_all (past_items n ms) = e ∙ ap tokens_all (sym (first-past n ms))
    ∙ tokens-append (first_items n ms) (past_items n ms) in
    omega (arith, ap length split ∙ length-append (tokens_all (first_items n ms)) (tokens_all (past_items n ms)))

one_more : (n : ℕ) (ms : Msgs) → n < count ms → length (tokens_all (first_items (suc n) ms)) ≡ length (tokens_all (first_items n ms)) + length
    (tokens (first_tree (past_items n ms)))
one_more n no_items l = absurd (omega (arith, l))
one_more zero (item m ms) l = omega (arith, ap length (append-nil (tokens m)))
one_more (suc n) (item m ms) l =
    let a = length-append (tokens m) (tokens_all (first_items (suc n) ms)) in
    let b = length-append (tokens m) (tokens_all (first_items n ms)) in
    omega (arith, a, b, one_more n ms (omega (arith, l)))

-- one message further
pub span_more : (n : ℕ) (ts : List Token) → IsRow ts → n < count (built ts) → span (suc n) ts ≡ span n ts + size_of (drop (span n ts) ts)
span_more n ts e l = one_more n (built ts) l ∙ ap (λ z. span n ts + length (tokens (first_tree z))) (sym (built_rest n ts e))

-- each message has a head
has_head : (m : Msg) → 0 < length (tokens m)
has_head nil = omega arith
has_head (truth t) = omega arith
has_head (whole z) = omega arith
has_head (float32 n) = omega arith
has_head (float64 n) = omega arith
has_head (text s) = omega arith
has_head (bin s) = omega arith
has_head (list ms) = omega arith
has_head (map ps) = omega arith
has_head (extension tag s) = omega arith

count-past : (n : ℕ) (ms : Msgs) → n < count ms → 0 < length (tokens_all (past_items n ms))
count-past n no_items l = absurd (omega (arith, l))
count-past zero (item m ms) l = omega (arith, has_head m, length-append (tokens m) (tokens_all ms))
count-past (suc n) (item m ms) l = count-past n ms (omega (arith, l))

-- where one more message begins, the row goes on
pub span_goes_on : (n : ℕ) (ts : List Token) → IsRow ts → n < count (built ts) → span n ts < length ts
span_goes_on n ts e l =
    let ms = built ts in
    let split : ts ≡ tokens_all (first_items n ms) ++ tokens_all (past_items n ms) = e ∙ ap tokens_all (sym (first-past n ms))
    ∙ tokens-append (first_items n ms) (past_items n ms) in
    omega (arith, ap length split ∙ length-append (tokens_all (first_items n ms)) (tokens_all (past_items n ms)), count-past n ms l)

-- ---- how many heads a list or a map has

pub map_size : (n : ℕ) (s : List ℕ) (ts : List Token) → IsRow ((Map n, s) ∷ ts) → size_of ((Map n, s) ∷ ts) ≡ suc (span (2 * n) ts)
map_size n s ts e =
    let ms = built ts in
    ap (λ z. suc (length z)) (sym (tokens-flat (first_pairs n ms)) ∙ ap tokens_all (pairs-items n ms (map_many n s ts e)))

pub count-first : (n : ℕ) (ms : Msgs) → count (first_items n ms) ≤ count ms
count-first zero ms = omega arith
count-first (suc n) no_items = omega arith
count-first (suc n) (item m ms) = omega (arith, count-first n ms)

pub count-flat : (ps : Pairs) → count (flat_pairs ps) ≡ 2 * count_pairs ps
count-flat no_pairs = refl
count-flat (pair k v ps) = omega (arith, count-flat ps)

-- after the head of a list or a map come at least its parts
pub list_parts : (n : ℕ) (s : List ℕ) (ts : List Token) → IsRow ((Array n, s) ∷ ts) → n ≤ count (built ts)
list_parts n s ts e = omega (arith, list_many n s ts e, count-first n (built ts))

pub map_parts : (n : ℕ) (s : List ℕ) (ts : List Token) → IsRow ((Map n, s) ∷ ts) → 2 * n ≤ count (built ts)
map_parts n s ts e =
    let ms = built ts in
    let many = map_many n s ts e in
    omega (arith, count-flat (first_pairs n ms), many, ap count (pairs-items n ms many), count-first (2 * n) ms)
