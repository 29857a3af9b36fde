-- More content in the buffer leaves what the nodes say.
use Rattle.std.proofs.Common.{◌≡◌, ◌∙◌, ap, refl, ℕ, ◌+◌, ◌≤◌, arith, List, [], ◌∷◌, ◌++◌, length, take, drop}
use Rattle.std.specs.List.{AllByRecursion}
use Rattle.std.proofs.lemmas.List.{drop-append-le, take-append-le, length-drop, map-append}
use Rattle.rmp_serde.specs.Flat.{head_in, content_in, token_in, heads_in, EndsBy}
use Rattle.rmp_serde.specs.Tokens.{Token}
use Rattle.rmp_serde.specs.declared.value.flat.Node.{Node}
use Rattle.rmp_serde.specs.declared.value.flat.Node.TheVariants as nodes

piece : (len at : ℕ) (buffer more : List ℕ) → at + len ≤ length buffer → take len (drop at (buffer ++ more)) ≡ take len (drop at buffer)
piece len at buffer more l =
    ap (λ z. take len z) (drop-append-le at buffer more (omega (arith, l)))
    ∙ take-append-le len (drop at buffer) more (omega (arith, l, length-drop at buffer))

content_stays : (node : Node) (buffer more : List ℕ) → EndsBy (length buffer) node → content_in (buffer ++ more) node ≡ content_in buffer node
content_stays nodes.Nil buffer more e = refl
content_stays (nodes.Truth t) buffer more e = refl
content_stays (nodes.Unsigned n) buffer more e = refl
content_stays (nodes.Signed z) buffer more e = refl
content_stays (nodes.F32 n) buffer more e = refl
content_stays (nodes.F64 n) buffer more e = refl
content_stays (nodes.Text len at) buffer more e = piece len at buffer more e
content_stays (nodes.Bytes len at) buffer more e = piece len at buffer more e
content_stays (nodes.Ext tag len at) buffer more e = piece len at buffer more e
content_stays (nodes.List n takes) buffer more e = refl
content_stays (nodes.Map n takes) buffer more e = refl

pub heads_stay : (row : List Node) (buffer more : List ℕ) → AllByRecursion (EndsBy (length buffer)) row → heads_in (buffer ++ more) row ≡ heads_in buffer row
heads_stay [] buffer more a = refl
heads_stay (node ∷ row) buffer more a = λ i. (head_in node, content_stays node buffer more a.0 i) ∷ heads_stay row buffer more a.1 i

ends_later : (node : Node) (m n : ℕ) → m ≤ n → EndsBy m node → EndsBy n node
ends_later nodes.Nil m n l e = e
ends_later (nodes.Truth t) m n l e = e
ends_later (nodes.Unsigned k) m n l e = e
ends_later (nodes.Signed z) m n l e = e
ends_later (nodes.F32 k) m n l e = e
ends_later (nodes.F64 k) m n l e = e
ends_later (nodes.Text len at) m n l e = omega (arith, l, e)
ends_later (nodes.Bytes len at) m n l e = omega (arith, l, e)
ends_later (nodes.Ext tag len at) m n l e = omega (arith, l, e)
ends_later (nodes.List k takes) m n l e = e
ends_later (nodes.Map k takes) m n l e = e

pub all_later : (row : List Node) (m n : ℕ) → m ≤ n → AllByRecursion (EndsBy m) row → AllByRecursion (EndsBy n) row
all_later [] m n l a = tt
all_later (node ∷ row) m n l a = (ends_later node m n l a.0, all_later row m n l a.1)

pub one_within : (row : List Node) (node : Node) (end : ℕ) → AllByRecursion (EndsBy end) row → EndsBy end node → AllByRecursion (EndsBy end) (row ++ node ∷ [])
one_within [] node end a e = (e, tt)
one_within (first ∷ row) node end a e = (a.0, one_within row node end a.1 e)

-- one more node
pub made_of : (b : List ℕ) (row row' : List Node) (node : Node) (token : Token) → row' ≡ row ++ node ∷ [] → token_in b node ≡ token
    → heads_in b row' ≡ heads_in b row ++ token ∷ []
made_of b row row' node token r t = ap (heads_in b) r ∙ map-append (token_in b) row (node ∷ []) ∙ ap (λ z. heads_in b row ++ z ∷ []) t
