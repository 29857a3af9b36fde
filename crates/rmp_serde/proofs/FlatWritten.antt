-- The nodes of a value, written one after another, are its canonical spelling.
use Rattle.std.proofs.Common.{◌≡◌, ◌∙◌, sym, ap, refl, ℕ, ◌<◌, arith, zero, suc, List, [], ◌∷◌, ◌++◌, length, get_or, subst, append_assoc}
use Rattle.std.specs.List.{AllByRecursion, flat_map}
use Rattle.std.proofs.lemmas.List.{append-nil}
use Rattle.rmp_wire.specs.Heads.{canon_head}
use Rattle.rmp_wire.specs.Msg.{Msg}
use Rattle.rmp_wire.specs.Spelling.{canon}
use Rattle.rmp_serde.specs.Flat.{head_in, content_in, heads_in, heads_all, spelled_in, told_tree, EndsBy, IsFlat}
use Rattle.rmp_serde.specs.Tokens.{tokens, canon_tokens}
use Rattle.rmp_serde.specs.declared.value.flat.Node.{Node}
use Rattle.rmp_serde.specs.declared.value.flat.Nodes.{Nodes}
use Rattle.rmp_serde.specs.declared.value.flat.Node.TheVariants as nodes
use Rattle.rmp_serde.proofs.FlatParts.{heads_told}
use Rattle.rmp_serde.proofs.Tokens.{canon_told}

spelled_is : (b : List ℕ) (node : Node) → spelled_in b node ≡ canon_head (head_in node) ++ content_in b node
spelled_is b nodes.Nil = sym (append-nil (canon_head (head_in nodes.Nil)))
spelled_is b (nodes.Truth t) = sym (append-nil (canon_head (head_in (nodes.Truth t))))
spelled_is b (nodes.Unsigned n) = sym (append-nil (canon_head (head_in (nodes.Unsigned n))))
spelled_is b (nodes.Signed z) = sym (append-nil (canon_head (head_in (nodes.Signed z))))
spelled_is b (nodes.F32 n) = sym (append-nil (canon_head (head_in (nodes.F32 n))))
spelled_is b (nodes.F64 n) = sym (append-nil (canon_head (head_in (nodes.F64 n))))
spelled_is b (nodes.Text len at) = refl
spelled_is b (nodes.Bytes len at) = refl
spelled_is b (nodes.Ext tag len at) = refl
spelled_is b (nodes.List n takes) = sym (append-nil (canon_head (head_in (nodes.List n takes))))
spelled_is b (nodes.Map n takes) = sym (append-nil (canon_head (head_in (nodes.Map n takes))))

spelled_all : (b : List ℕ) (row : List Node) → flat_map (spelled_in b) row ≡ canon_tokens (heads_in b row)
spelled_all b [] = refl
spelled_all b (node ∷ row) =
    ap (λ z. z ++ flat_map (spelled_in b) row) (spelled_is b node) ∙ append_assoc (canon_head (head_in node)) (content_in b node) (flat_map (spelled_in b) row)
    ∙ ap (λ z. canon_head (head_in node) ++ (content_in b node ++ z)) (spelled_all b row)

-- the root and then the parts spell the message
pub spells_all : (root : Node) (parts : Nodes) (m : Msg) → IsFlat root parts → told_tree (heads_all root parts) ≡ m
    → spelled_in parts.bytes.items root ++ flat_map (spelled_in parts.bytes.items) parts.nodes.items ≡ canon m
spells_all root parts m f e =
    spelled_all parts.bytes.items (root ∷ parts.nodes.items) ∙ ap canon_tokens (heads_told root parts m f e ∙ sym (append-nil (tokens m)))
    ∙ sym (canon_told m []) ∙ append-nil (canon m)

-- the content of each of them is within the buffer
pub one_ends : (end : ℕ) (row : List Node) (i : ℕ) (node : Node) → AllByRecursion (EndsBy end) row → i < length row → node ≡ get_or row i node → EndsBy end node
one_ends end [] i node a l e = absurd (omega (arith, l))
one_ends end (first ∷ row) zero node a l e = subst (EndsBy end) (sym e) a.0
one_ends end (first ∷ row) (suc i) node a l e = one_ends end row i node a.1 (omega (arith, l)) e
