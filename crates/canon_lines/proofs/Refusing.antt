-- What is said of a part that can't be read.
use Rattle.std.proofs.Common.{◌≡◌, ◌∙◌, ℕ, ◌≤◌, ◌-◌, List, ◌∷◌, length, take, drop, sym, ap, subst}
use Rattle.std.specs.Prelude.{Some, IsUtf8}
use Rattle.std.proofs.lemmas.List.{take-append-drop, length-take-le}
use Rattle.rmp_wire.specs.declared.head.Head.{Head}
use Rattle.rmp_wire.specs.declared.head.Head.TheVariants as head
use Rattle.rmp_wire.specs.declared.marker.Marker.{Marker}
use Rattle.rmp_wire.specs.Reading.{TakesNext}
use Rattle.rmp_wire.specs.Taking.{byte_of}
use Rattle.rmp_decode.specs.declared.error.Error.{Error}
use Rattle.rmp_path.specs.Places.{Locates}
use Rattle.rmp_path.specs.declared.location.Location.{Location}
use Rattle.rmp_serde.specs.Paths.{IsPathOf, place_of}
use Rattle.rmp_serde.specs.declared.path.Path.{Path}
use Rattle.canon_lines.specs.Refused.{IsEnd, RefusesPart, IsInvalidText, IsWhy, IsWhyAfter, IsWhyOfHead}
use Rattle.canon_lines.specs.declared.show.refused.Why.{Why}
use Rattle.canon_lines.specs.declared.show.refused.Why.TheVariants.{Absent, CutHead, CutContent, Reserved, NotUtf8, TooDeep, Unreadable}
use Rattle.canon_lines.proofs.Checked.{left_after}

-- a whole text isn't UTF-8
pub invalid_text : (n : ℕ) (bytes : List ℕ) → n ≤ length bytes → (IsUtf8 (take n bytes) → ⊥) → IsInvalidText (head.Text n) bytes
invalid_text n bytes within invalid = record {
  text = take n bytes;
  more = drop n bytes;
  head = ap head.Text (sym (length-take-le n bytes within));
  split = sym (take-append-drop n bytes);
  invalid = invalid;
}

-- the part that a path leads to, and what is said of it
pub part_of : (error : Error) (bytes : List ℕ) (path : Path) (why : Why) (at n : ℕ) (p : (found : Location) × Locates bytes at found × IsPathOf bytes found path)
    → at ≤ length bytes → (IsEnd error → at ≡ length bytes) → n ≡ place_of path → IsWhy (take (length bytes - n) (drop n bytes)) why
    → RefusesPart error bytes path why
part_of error bytes path why at n p within end is reason = record {
  offset = at;
  found = p.0;
  within = within;
  at_end = end;
  located = p.1;
  is_path = p.2;
  reason = subst (λ xs. IsWhy xs why) (left_after n bytes ∙ ap (λ k. drop k bytes) is) reason;
}

-- what is said of a head is said of the bytes that begin with it
of_head : (bytes : List ℕ) (why : Why) → IsWhyOfHead bytes why → IsWhy bytes why
of_head bytes Absent p = absurd p.why_after
of_head bytes CutHead p = absurd p.why_after
of_head bytes Reserved p = absurd p.why_after
of_head bytes (CutContent kind there n) p = p
of_head bytes NotUtf8 p = p
of_head bytes TooDeep p = p
of_head bytes Unreadable p = p

-- a head was read, and this is said of it and of what follows
pub why_of_head : (m : Marker) (h : Head) (bytes rest : List ℕ) (why : Why) → TakesNext m h (Some bytes) (Some rest) → IsWhyAfter h rest why → IsWhy bytes why
why_of_head m h bytes rest why t p =
    of_head bytes why (record { head = h; front = byte_of m ∷ t.rest; rest = rest; split = t.taken; is_head = t.is_head; why_after = p })
