-- The text that bytes begin with.
use Rattle.std.proofs.Common.{◌≡◌, ◌∙◌, sym, ap, subst, ℕ, ◌≤◌, List, ◌∷◌, ◌++◌, length, take, drop, Option, None, Some}
use Rattle.std.specs.Prelude.{String}
use Rattle.std.specs.String.{string_bytes}
use Rattle.std.specs.declared.alloc.Global.{Global}
use Rattle.std.proofs.lemmas.List.{length-take-le, take-append-drop}
use Rattle.rmp_wire.specs.declared.head.Head.{Head}
use Rattle.rmp_wire.specs.declared.head.Head.TheVariants as heads
use Rattle.rmp_wire.specs.declared.marker.Marker.{Marker}
use Rattle.rmp_wire.specs.Heads.{IsHead}
use Rattle.rmp_wire.specs.Reading.{TakesNext}
use Rattle.rmp_wire.specs.Taking.{byte_of}
use Rattle.rmp_wire.proofs.Heads.{heads_differ}
use Rattle.rmp_serde.specs.Explaining.{BeginsText, IsTextAfter, IsTextAt, TextFollows}

-- what is there by the head and the bytes after it is there by the bytes
pub text_begins : (m : Marker) (h : Head) (xs rest : List ℕ) → TakesNext m h (Some xs) (Some rest) → (found : Option (String Global))
    → IsTextAfter h rest found → IsTextAt xs found
text_begins m h xs rest t (Some s) p = record {
  head = byte_of m ∷ t.rest;
  rest = p.more;
  front = t.taken ∙ ap (λ z. (byte_of m ∷ t.rest) ++ z) p.split;
  is_head = subst (λ k. IsHead k (byte_of m ∷ t.rest)) p.is_text t.is_head;
}
text_begins m h xs rest t None none = λ s b utf8.
    let d = heads_differ h (heads.Text (length s)) (byte_of m ∷ t.rest) b.head rest (s ++ b.rest) t.is_head b.is_head (sym t.taken ∙ b.front) in
    none s (record { more = b.rest; is_text = d.0; split = d.2 }) utf8

-- a whole text is what begins the bytes after its head
pub whole_text : (n : ℕ) (rest : List ℕ) (s : String Global) → n ≤ length rest → string_bytes s ≡ take n rest → IsTextAfter (heads.Text n) rest (Some s)
whole_text n rest s within e = record {
  more = drop n rest;
  is_text = ap heads.Text (sym (ap length e ∙ length-take-le n rest within));
  split = sym (take-append-drop n rest) ∙ ap (λ z. z ++ drop n rest) (sym e);
}
