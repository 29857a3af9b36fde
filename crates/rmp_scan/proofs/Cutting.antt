-- Bytes that end inside of a head, of a payload, or before the last part of a list or a map are the beginning of a message.
use Rattle.std.specs.Prelude.{◌≢◌, false}
use Rattle.std.proofs.Common.{◌≡◌, ◌∙◌, sym, ap, subst, refl, ℕ, zero, suc, ◌+◌, ◌-◌, ◌⊎◌, inl, inr, arith}
use Rattle.std.proofs.Common.{List, [], ◌∷◌, ◌++◌, length, append_assoc}
use Rattle.std.proofs.lemmas.List.{append-nil, length-append}
use Rattle.rmp_wire.specs.Spelling.{IsBytes}
use Rattle.rmp_wire.specs.Taking.{marker_of}
use Rattle.rmp_wire.proofs.Taken.{bytes_parts}
use Rattle.rmp_wire.specs.Heads.{IsHead}
use Rattle.rmp_decode.specs.Exact.{BeginsWithNone}
use Rattle.rmp_decode.specs.Kinds.{content_len}
use Rattle.rmp_decode.specs.Refuse.{HeadIsCut, ContentIsCut}
use Rattle.rmp_scan.specs.declared.opening.Opening.{Opening}
use Rattle.rmp_scan.specs.declared.opening.Opening.TheVariants.{Fixed, Counted, Reserved}
use Rattle.rmp_scan.specs.Openings.{SpellsSome, opening_of, payload_of, parts_of}
use Rattle.rmp_scan.specs.Parts.{parts_after}
use Rattle.rmp_scan.specs.Scans.{IsMessage, IsBeginning}
use Rattle.rmp_scan.proofs.Completing.{nils, nils_some, nothing}
use Rattle.rmp_scan.proofs.FirstByte.{Nodes, byte_nodes, bytes_append, length-zeros, number, zeros, zeros_bytes}
use Rattle.rmp_scan.proofs.Rows.{Node, node_some, head_byte}
use Rattle.rmp_scan.proofs.Scanning.{first_message}

-- ---- so many bytes at the front, filled up where there are fewer

record Filled (k : ℕ) (xs : List ℕ) : Type 0 where
  pub front : List ℕ
  pub more : List ℕ
  pub left : List ℕ
  pub is : xs ++ more ≡ front ++ left
  pub long : length front ≡ k
  pub are_bytes : IsBytes front
  pub left_bytes : IsBytes left
  pub either : (more ≡ []) ⊎ (left ≡ [])

filled : (k : ℕ) (xs : List ℕ) → IsBytes xs → Filled k xs
filled zero xs b = record { front = []; more = []; left = xs; is = append-nil xs; long = refl; are_bytes = tt; left_bytes = b; either = inl refl }
filled (suc k) [] b = record {
  front = zeros (suc k);
  more = zeros (suc k);
  left = [];
  is = sym (append-nil (zeros (suc k)));
  long = length-zeros (suc k);
  are_bytes = zeros_bytes (suc k);
  left_bytes = tt;
  either = inr refl;
}
filled (suc k) (x ∷ xs) b =
    let i = filled k xs b.1 in
    record {
      front = x ∷ i.front;
      more = i.more;
      left = i.left;
      is = ap (λ z. x ∷ z) i.is;
      long = ap suc i.long;
      are_bytes = (b.0, i.are_bytes);
      left_bytes = i.left_bytes;
      either = i.either;
    }

-- with some bytes more these are a head with its payload, or they begin with one
record Grown (xs : List ℕ) : Type 0 where
  pub node : List ℕ
  pub more : List ℕ
  pub left : List ℕ
  pub parts : ℕ
  pub is : xs ++ more ≡ node ++ left
  pub is_node : Node node parts
  pub either : (more ≡ []) ⊎ (left ≡ [])

grown_by : (b : ℕ) (following : List ℕ) (o : Opening) → Nodes b o → IsBytes following → b ≢ 0xc1 → Grown (b ∷ following)
grown_by b following (Fixed payload parts) f own other =
    let i = filled payload following own in
    record {
      node = b ∷ i.front;
      more = i.more;
      left = i.left;
      parts = parts;
      is = ap (λ z. b ∷ z) i.is;
      is_node = f i.front i.long i.are_bytes;
      either = i.either;
    }
grown_by b following (Counted counts width) f own other =
    let i = filled width following own in
    let k : ℕ = payload_of counts (number 0 i.front) in
    let j = filled k i.left i.left_bytes in
    let is : following ++ (i.more ++ j.more) ≡ (i.front ++ j.front) ++ j.left = sym (append_assoc following i.more j.more) ∙ ap (λ z. z ++ j.more) i.is
    ∙ append_assoc i.front i.left j.more ∙ ap (λ z. i.front ++ z) j.is ∙ sym (append_assoc i.front j.front j.left) in
    record {
      node = b ∷ (i.front ++ j.front);
      more = i.more ++ j.more;
      left = j.left;
      parts = parts_of counts (number 0 i.front);
      is = ap (λ z. b ∷ z) is;
      is_node = f i.front j.front i.long j.long i.are_bytes j.are_bytes;
      either = elim j.either [
        | inr q ↦ inr q
        | inl q ↦ elim i.either [
          | inl p ↦ inl (ap (λ z. z ++ j.more) p ∙ q)
          | inr p ↦ inr (nothing j.front j.left (sym j.is ∙ ap (λ z. i.left ++ z) q ∙ append-nil i.left ∙ p)).1
        ]
      ];
    }
grown_by b following Reserved f own other = absurd (other f)

-- ---- and so they are the beginning of a message

-- bytes that are a node with some more, and then its parts
node_begins : (xs more node : List ℕ) (parts : ℕ) (rest : List ℕ) → xs ++ more ≡ node → Node node parts → SpellsSome parts rest → more ++ rest ≢ []
    → IsBeginning xs
node_begins xs more node parts rest is n s some =
    let none : parts + 0 ≡ parts = omega arith in
    let one = node_some node rest parts 0 n (subst (λ z. SpellsSome z rest) (sym none) s) in
    record {
      rest = more ++ rest;
      some = some;
      spelled = subst IsMessage (ap (λ z. z ++ rest) (sym is) ∙ append_assoc xs more rest) (first_message one.trees (node ++ rest) one.many one.spelled);
    }

pub nothing_begins : IsBeginning []
nothing_begins =
    let one = nils_some 1 in
    record { rest = nils 1; some = λ e. absurd (cc); spelled = first_message one.trees (nils 1) one.many one.spelled }

node_starts : (xs node left : List ℕ) (parts : ℕ) → xs ≡ node ++ left → Node node parts → BeginsWithNone false xs → ⊥
node_starts xs node left parts is n none =
    let b = head_byte n.head n.bytes n.is_head in
    let front : xs ≡ (b.0 ∷ b.1) ++ (n.payload ++ left) = is ∙ ap (λ z. z ++ left) n.front ∙ append_assoc n.bytes n.payload left
    ∙ ap (λ z. z ++ (n.payload ++ left)) b.2 in
    none (marker_of b.0) n.head
    (record { byte = b.0; following = b.1; rest = n.payload ++ left; front = front; is_marker = refl; is_head = subst (IsHead n.head) b.2 n.is_head })

pub head_cut : (xs : List ℕ) → IsBytes xs → HeadIsCut xs → IsBeginning xs
head_cut xs own c =
    let bytes = subst IsBytes c.front own in
    let g = grown_by c.byte c.following (opening_of (marker_of c.byte)) (byte_nodes c.byte bytes.0) bytes.1 c.opens in
    let is : xs ++ g.more ≡ g.node ++ g.left = ap (λ z. z ++ g.more) c.front ∙ g.is in
    let starts : g.more ≡ [] → ⊥ = λ e.
    node_starts xs g.node g.left g.parts (sym (append-nil xs) ∙ ap (λ z. xs ++ z) (sym e) ∙ is) g.is_node c.none in
    elim g.either [
      | inl e ↦ absurd (starts e)
      | inr e ↦
          node_begins xs g.more g.node g.parts (nils g.parts) (is ∙ ap (λ z. g.node ++ z) e ∙ append-nil g.node) g.is_node (nils_some g.parts)
          (λ q. starts (nothing g.more (nils g.parts) q).0)
    ]

pub content_cut : (xs : List ℕ) → IsBytes xs → ContentIsCut false xs → IsBeginning xs
content_cut xs own (h, c) =
    let s = c.starts in
    let short = c.short in
    let miss : ℕ = content_len h - length s.rest in
    let z : List ℕ = zeros miss in
    let rest_bytes : IsBytes s.rest = (bytes_parts (s.byte ∷ s.following) s.rest (subst IsBytes s.front own)).1 in
    let node : Node ((s.byte ∷ s.following) ++ (s.rest ++ z)) (parts_after h) = record {
      head = h;
      bytes = s.byte ∷ s.following;
      payload = s.rest ++ z;
      front = refl;
      is_head = s.is_head;
      long = omega (arith, length-append s.rest z, length-zeros miss, short);
      are_bytes = bytes_append s.rest z rest_bytes (zeros_bytes miss);
      many = refl;
    } in
    node_begins xs z ((s.byte ∷ s.following) ++ (s.rest ++ z)) (parts_after h) (nils (parts_after h))
    (ap (λ u. u ++ z) s.front ∙ append_assoc (s.byte ∷ s.following) s.rest z) node (nils_some (parts_after h))
    (λ q. absurd (omega (arith, ap length (nothing z (nils (parts_after h)) q).0, length-zeros miss, short)))
