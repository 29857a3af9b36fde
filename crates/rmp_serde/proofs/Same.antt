-- Values are equal where their heads are.
use Rattle.std.specs.Prelude.{Bool, IsTrue, ◌↔◌}
use Rattle.std.proofs.Common.{◌≡◌, ◌∙◌, ap, sym, ℕ, zero, suc, ◌+◌, ◌<◌, arith, List, [], ◌∷◌, ◌++◌, length, take, drop, get_or}
use Rattle.std.specs.Cmp.{both_ways}
use Rattle.std.proofs.lemmas.List.{take_more, length-map}
use Rattle.rmp_wire.specs.Msg.{Msg}
use Rattle.rmp_serde.specs.Equal.{msg_eq}
use Rattle.rmp_serde.specs.EqualLaws.{msg_eq-true, msg_eq-same}
use Rattle.rmp_serde.specs.Flat.{token_in, heads_in, heads_of, heads_all, told_tree, IsFlat}
use Rattle.rmp_serde.specs.Tokens.{Token, tokens}
use Rattle.rmp_serde.specs.declared.value.flat.Node.{Node}
use Rattle.rmp_serde.specs.declared.value.flat.Nodes.{Nodes}
use Rattle.rmp_serde.proofs.FlatParts.{heads_told}

pub token_at : (b : List ℕ) (row : List Node) (i : ℕ) (node : Node) (d : Token) → i < length row → node ≡ get_or row i node
    → get_or (heads_in b row) i d ≡ token_in b node
token_at b [] i node d l e = absurd (omega (arith, l))
token_at b (first ∷ row) zero node d l e = ap (token_in b) (sym e)
token_at b (first ∷ row) (suc i) node d l e = token_at b row i node d (omega (arith, l)) e

-- equal heads are equal at each place
pub at_place : (b c : List ℕ) (row other : List Node) (i : ℕ) (x y : Node) → i < length row → i < length other → x ≡ get_or row i x → y ≡ get_or other i y
    → heads_in b row ≡ heads_in c other → token_in b x ≡ token_in c y
at_place b c row other i x y l k e f same =
    sym (token_at b row i x (token_in b x) l e) ∙ ap (λ z. get_or z i (token_in b x)) same ∙ token_at c other i y (token_in b x) k f

-- one more head is equal
pub one_further : (b c : List ℕ) (row other : List Node) (i : ℕ) (x y : Node) → i < length row → i < length other → x ≡ get_or row i x → y ≡ get_or other i y
    → take i (heads_in b row) ≡ take i (heads_in c other) → token_in b x ≡ token_in c y → take (i + 1) (heads_in b row) ≡ take (i + 1) (heads_in c other)
one_further b c row other i x y l k e f before same =
    let d = token_in b x in
    take_more (heads_in b row) i d (omega (arith, l, length-map row (token_in b))) ∙ ap (λ z. z ++ get_or (heads_in b row) i d ∷ []) before
    ∙ ap (λ z. take i (heads_in c other) ++ z ∷ []) (token_at b row i x d l e ∙ same ∙ sym (token_at c other i y d k f))
    ∙ sym (take_more (heads_in c other) i d (omega (arith, k, length-map other (token_in c))))

first_head : List Token → Token → Token
first_head [] d = d
first_head (t ∷ ts) d = t

-- the heads tell the value
pub heads_equal : (root : Node) (parts : Nodes) (m : Msg) (other : Node) (others : Nodes) (n : Msg) → IsFlat root parts → told_tree (heads_all root parts) ≡ m
    → IsFlat other others → told_tree (heads_all other others) ≡ n
    → (m ≡ n) ↔ ((token_in parts.bytes.items root ≡ token_in others.bytes.items other) × (heads_of parts ≡ heads_of others))
unfolding first_head
heads_equal root parts m other others n f e g h = (
  λ same. let all : heads_all root parts ≡ heads_all other others = heads_told root parts m f e ∙ ap tokens same ∙ sym (heads_told other others n g h) in
      (ap (λ z. first_head z (token_in parts.bytes.items root)) all, ap (drop 1) all),
  λ p. sym e ∙ (λ i. told_tree (p.0 i ∷ p.1 i)) ∙ h,
)

pub both_same : (r s : Bool) (A : Type 0) (P Q : Type 0) → (A ↔ (P × Q)) → IsTrue r ↔ P → IsTrue r → IsTrue s ↔ Q → IsTrue s ↔ A
both_same r s A P Q a p t q = (λ u. a.1 (p.0 t, q.0 u), λ x. q.1 (a.0 x).1)

pub not_same : (r : Bool) (A : Type 0) (P Q : Type 0) → (A ↔ (P × Q)) → IsTrue r ↔ P → (IsTrue r → ⊥) → IsTrue r ↔ A
not_same r A P Q a p t = (λ u. absurd (t u), λ x. p.1 (a.0 x).0)

pub msg_eq_from : (r : Bool) (x y : Msg) → IsTrue r ↔ (x ≡ y) → r ≡ msg_eq x y
msg_eq_from r x y h = both_ways r (msg_eq x y) (λ e. msg_eq-same x y (h.0 e)) (λ e. h.1 (msg_eq-true x y e))
