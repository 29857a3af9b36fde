-- A head and its content at an offset.
use Rattle.std.specs.Prelude.{◌++◌, ◌<◌, length, drop, take}
use Rattle.std.proofs.Common.{◌≡◌, ◌∙◌, ◌≤◌, ◌+◌, ◌-◌, ℕ, List, [], ◌∷◌, Some, sym, ap, subst, arith}
use Rattle.std.proofs.lemmas.List.{length-append, length-take-le, length-drop, take-append-drop}
use Rattle.std.proofs.Math.Seq.{take-length}
use Rattle.rmp_wire.specs.declared.head.Head.{Head}
use Rattle.rmp_wire.specs.declared.marker.Marker.{Marker}
use Rattle.rmp_wire.specs.Heads.{IsHead}
use Rattle.rmp_wire.specs.Reading.{TakesNext}
use Rattle.rmp_wire.specs.Taking.{byte_of}
use Rattle.rmp_wire.proofs.Canon.{canon_head_least, head_fits}
use Rattle.rmp_wire.proofs.Heads.{heads_differ}
use Rattle.rmp_wire.proofs.Reading.{reserved_opens_none}
use Rattle.rmp_wire.proofs.Writing.{head_some}
use Rattle.rmp_wire.specs.Heads.{fits_head}
use Rattle.rmp_decode.specs.Kinds.{content_len}
use Rattle.rmp_decode.proofs.Exactness.{reserved_byte}
use Rattle.rmp_c.specs.declared.walk.Item.{Item}
use Rattle.rmp_c.specs.Items.{Node, IsItem, Says, OpensReserved}

-- past the end there is none
pub none_left : (bytes : List ℕ) (at : ℕ) → length bytes ≤ at → Node bytes at → ⊥
none_left bytes at past n =
    let a = sym (length-drop at bytes) ∙ ap length n.front ∙ length-append n.spelled (n.content ++ n.rest) in
    let b = canon_head_least n.head n.spelled n.is_head in
    let d = head_some n.head in omega (arith, a, b, d, past)

-- where the content of a head is cut, there is none
pub none_cut : (bytes ahead rest : List ℕ) (at : ℕ) (m : Marker) (h : Head) → ahead ≡ drop at bytes → TakesNext m h (Some ahead) (Some rest)
    → length rest < content_len h → Node bytes at → ⊥
none_cut bytes ahead rest at m h e t short n =
    let p = heads_differ h n.head (byte_of m ∷ t.rest) n.spelled rest (n.content ++ n.rest) t.is_head n.is_head (sym t.taken ∙ e ∙ n.front) in
    let a = ap length p.2 ∙ length-append n.content n.rest in
    let b = n.long in
    let d = ap content_len p.0 in omega (arith, a, b, d, short)

-- what was found
pub found : (bytes ahead rest : List ℕ) (at : ℕ) (m : Marker) (h : Head) (i : Item) → at ≤ length bytes → ahead ≡ drop at bytes
    → TakesNext m h (Some ahead) (Some rest) → content_len h ≤ length rest → (fits_head h → Says h i) → i.start ≡ length bytes - length rest
    → i.len ≡ content_len h → IsItem bytes at i
found bytes ahead rest at m h i within e t long says start len =
    let a = sym (length-drop at bytes) ∙ ap length (sym e ∙ t.taken) ∙ length-append (byte_of m ∷ t.rest) rest in
    let following : i.start ≡ at + length (byte_of m ∷ t.rest) = start ∙ omega (arith, a, within) in
    record {
      node = record {
        head = h;
        spelled = byte_of m ∷ t.rest;
        content = take (content_len h) rest;
        rest = drop (content_len h) rest;
        front = sym e ∙ t.taken ∙ ap (λ z. (byte_of m ∷ t.rest) ++ z) (sym (take-append-drop (content_len h) rest));
        is_head = t.is_head;
        long = length-take-le (content_len h) rest long;
      };
      says = says (head_fits h _ t.is_head);
      start = following;
      len = len ∙ sym (length-take-le (content_len h) rest long);
    }

-- all bytes from an offset on
pub from_there : (bytes : List ℕ) (at : ℕ) → take (length bytes - at) (drop at bytes) ≡ drop at bytes
from_there bytes at = ap (λ k. take k (drop at bytes)) (sym (length-drop at bytes)) ∙ take-length (drop at bytes)

same_first : (a b : ℕ) (x y : List ℕ) → a ∷ x ≡ b ∷ y → a ≡ b
same_first a b x y e = cc

-- where a head is, the first byte isn't c1
pub not_reserved : (bytes ahead rest : List ℕ) (at : ℕ) (m : Marker) (h : Head) → ahead ≡ drop at bytes → TakesNext m h (Some ahead) (Some rest)
    → OpensReserved (drop at bytes) → ⊥
not_reserved bytes ahead rest at m h e t o =
    let b : byte_of m ≡ 0xc1 = same_first (byte_of m) 0xc1 (t.rest ++ rest) o.0 (sym t.taken ∙ e ∙ o.1) in
    reserved_opens_none h t.rest (subst (λ k. IsHead h (byte_of k ∷ t.rest)) (reserved_byte m b) t.is_head)

-- before the end there are bytes
pub some_left : (bytes : List ℕ) (at : ℕ) → at < length bytes → drop at bytes ≡ [] → ⊥
some_left bytes at within e =
    let a = sym (length-drop at bytes) ∙ ap length e in omega (arith, a, within)
