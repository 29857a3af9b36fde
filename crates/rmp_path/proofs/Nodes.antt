-- A head that was read, and its content.
use Rattle.std.proofs.Common.{◌≡◌, ◌∙◌, sym, ap, subst, ℕ, ◌+◌, ◌-◌, ◌<◌, arith, List, ◌∷◌, ◌++◌, length, Bool, Some}
use Rattle.std.proofs.lemmas.List.{length-append}
use Rattle.rmp_wire.specs.declared.head.Head.{Head}
use Rattle.rmp_wire.specs.declared.marker.Marker.{Marker}
use Rattle.rmp_wire.specs.Heads.{IsHead}
use Rattle.rmp_wire.specs.Kinds.{content_len}
use Rattle.rmp_wire.specs.Sources.{Skips}
use Rattle.rmp_wire.specs.Spelling.{IsBytes}
use Rattle.rmp_wire.specs.Taking.{byte_of}
use Rattle.rmp_wire.proofs.Heads.{heads_differ}
use Rattle.rmp_wire.proofs.Taken.{bytes_parts}
use Rattle.rmp_path.specs.Places.{IsNode, IsNoNode, parts_of_head}

-- no head is there
pub none_read : (xs : List ℕ) → ((h : Head) (x rest : List ℕ) → xs ≡ x ++ rest → IsHead h x → ⊥) → IsNoNode xs
none_read xs none = λ len o. none o.head o.bytes (o.content ++ o.rest) o.front o.is_head

module _ (xs ys rest : List ℕ) (m : Marker) (h : Head) (i : IsHead h (byte_of m ∷ rest)) (t : xs ≡ (byte_of m ∷ rest) ++ ys) where
  -- its content is cut
  pub node_cut : length ys < content_len h → IsNoNode xs
  node_cut short = λ len o.
      let d = heads_differ h o.head (byte_of m ∷ rest) o.bytes ys (o.content ++ o.rest) i o.is_head (sym t ∙ o.front) in
      let l = o.long in
      absurd (omega (arith, short, ap length d.2, length-append o.content o.rest, l, ap content_len d.0))

  -- its content is whole
  pub node_taken : (zs : List ℕ) (k : ℕ) → k ≡ content_len h → Skips k (Some ys) (Some zs) → IsBytes xs → (len : ℕ) → len + length zs ≡ length xs
      → (b : Bool) (n : ℕ) → (b, n) ≡ parts_of_head h → IsNode xs (record { len = len; is_map = b; parts = n })
  node_taken zs k l s own len long b n p =
      let front : xs ≡ (byte_of m ∷ rest) ++ (s.bytes ++ zs) = t ∙ ap (λ z. (byte_of m ∷ rest) ++ z) s.taken in
      let tail = (bytes_parts (byte_of m ∷ rest) (s.bytes ++ zs) (subst IsBytes front own)).1 in
      record {
        own = record {
          head = h;
          bytes = byte_of m ∷ rest;
          content = s.bytes;
          rest = zs;
          front = front;
          is_head = i;
          long = s.long ∙ l;
          are_bytes = (bytes_parts s.bytes zs tail).0;
          len_is = omega (arith, long, ap length front, length-append (byte_of m ∷ rest) (s.bytes ++ zs), length-append s.bytes zs);
        };
        parts = sym p;
      }

-- how long a head with its content is, by what follows it
pub taken_length : (xs ys zs a : List ℕ) → xs ≡ a ++ ys → (k : ℕ) → Skips k (Some ys) (Some zs) → length xs - length zs + length zs ≡ length xs
taken_length xs ys zs a t k s = omega (arith, ap length t, length-append a ys, ap length s.taken, length-append s.bytes zs)
