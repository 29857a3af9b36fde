-- What take_head and take_msg take is spelled there, where the input is made of bytes.
use Rattle.std.proofs.Common.{
  ◌≡◌,
  ◌∙◌,
  sym,
  ap,
  subst,
  ℕ,
  zero,
  suc,
  ◌-◌,
  ◌%◌,
  ◌^◌,
  ◌≤◌,
  ◌<◌,
  List,
  [],
  ◌∷◌,
  ◌++◌,
  length,
  take,
  drop,
  get_or,
  Option,
  Some,
  None,
  refl,
  arith,
  cond,
  Bool,
  true,
  false,
  nat_lt,
  append_assoc,
  pos,
  negsuc,
  ℤ,
  inl,
  inr,
}
use Rattle.std.specs.Int.{Width, w8, w16, w32, w64, w128, to_be_bytes, from_be_bytes, byte_len, cast_signed, cast_unsigned}
use Rattle.std.specs.Prelude.{FitsSigned}
use Rattle.std.proofs.lemmas.List.{take-append-drop}
use Rattle.std.proofs.lemmas.Bool.{ltb-false}
use Rattle.std.proofs.lemmas.Option.{some_pair_parts}
use Rattle.std.proofs.lemmas.List.{length-take-le}
use Rattle.std.proofs.lemmas.Nat.{be_bytes_2, be_bytes_4, be_bytes_8}
use Rattle.std.proofs.lemmas.Int.{of_z-to_z, ints}
use mir.Val.{bits}
use Rattle.rmp_wire.specs.declared.head.Head.{Head}
use Rattle.rmp_wire.specs.declared.head.Head.TheVariants.{Nil, Truth, Whole, F32Bits, F64Bits, Text, Bin, Array, Map, Ext}
use Rattle.rmp_wire.specs.declared.marker.Marker.{Marker}
use Rattle.rmp_wire.specs.declared.marker.Marker.TheVariants as marker
use Rattle.rmp_wire.specs.Heads.{IsHead, tag_byte, Signed, SignedAny}
use Rattle.rmp_wire.specs.Spelling.{IsBytes}
use Rattle.rmp_wire.specs.Taking.{marker_of, byte_of, take_number, take_head, head_after, take_map, take_then, take_tag, Takes}
use Rattle.rmp_wire.proofs.Markers.{byte_of-marker_of}

-- ---- bytes

pub small : (s : List ℕ) → IsBytes s → (i : ℕ) → get_or s i 0 < 256
small [] h i = omega arith
small (b ∷ s) h zero = h.0
small (b ∷ s) h (suc i) = small s h.1 i

pub bytes_from : (s : List ℕ) → ((k : ℕ) → get_or s k 0 < 256) → IsBytes s
bytes_from [] f = tt
bytes_from (b ∷ s) f = (f 0, bytes_from s (λ k. f (suc k)))

pub bytes_parts : (a b : List ℕ) → IsBytes (a ++ b) → IsBytes a × IsBytes b
bytes_parts [] b h = (tt, h)
bytes_parts (x ∷ a) b h = let r : IsBytes a × IsBytes b = bytes_parts a b h.1 in ((h.0, r.0), r.1)

-- ---- what was taken

pub taken_unless : {A : Type 0} (b : Bool) (v w : A) → cond b None (Some v) ≡ Some w → (b ≡ false) × (v ≡ w)
taken_unless true v w e = absurd (cc)
taken_unless false v w e = (refl, cc)

pub taken_map : {A B : Type 0} (f : A → B) (r : Option (A × List ℕ)) (y : B) (x : List ℕ) → take_map f r ≡ Some (y, x) → (a : A) × (r ≡ Some (a, x)) × (y ≡ f a)
taken_map f None y x e = absurd (cc)
taken_map f (Some p) y x e = let q : (f p.0 ≡ y) × (p.1 ≡ x) = some_pair_parts (f p.0) y p.1 x e in (p.0, ap (λ t. Some (p.0, t)) q.1, sym q.0)

pub taken_then : {A B : Type 0} (r : Option (A × List ℕ)) (f : A → Takes B) (y : B) (x : List ℕ) → take_then r f ≡ Some (y, x)
    → (a : A) × (rest : List ℕ) × (r ≡ Some (a, rest)) × (f a rest ≡ Some (y, x))
taken_then None f y x e = absurd (cc)
taken_then (Some p) f y x e = (p.0, p.1, refl, e)

-- the bytes of a number that was taken
record Number (w : Width) (s : List ℕ) (n : ℕ) (x : List ℕ) : Type 0 where
  below : n < 2 ^ bits w
  split : s ≡ to_be_bytes w n ++ x

abbrev pub Spelled : Width → Type 0
Spelled w = (bs : List ℕ) (n : ℕ) → length bs ≡ byte_len w → IsBytes bs → n ≡ from_be_bytes w bs → (n < 2 ^ bits w) × (to_be_bytes w n ≡ bs)

pub spelled_8 : Spelled w8
spelled_8 [] n l h e = absurd (omega arith)
spelled_8 (b ∷ []) n l h e = (omega arith, ap (λ k. k ∷ []) (omega arith))
spelled_8 (b ∷ c ∷ s) n l h e = absurd (omega arith)

pub spelled_16 : Spelled w16
spelled_16 bs n l h e = (omega (arith, small bs h 0, small bs h 1), be_bytes_2 bs n l (small bs h) e)

pub spelled_32 : Spelled w32
spelled_32 bs n l h e = (omega (arith, small bs h 0, small bs h 1, small bs h 2, small bs h 3), be_bytes_4 bs n l (small bs h) e)

pub spelled_64 : Spelled w64
spelled_64 bs n l h e = (
  omega (arith, small bs h 0, small bs h 1, small bs h 2, small bs h 3, small bs h 4, small bs h 5, small bs h 6, small bs h 7),
  be_bytes_8 bs n l
      (small bs h) e,
)

number_from : (w : Width) → Spelled w → (s : List ℕ) (n : ℕ) (x : List ℕ) → IsBytes s → take_number w s ≡ Some (n, x) → Number w s n x
unfolding take_number
number_from w spelled s n x h e =
    let k : ℕ = byte_len w in
    let u : (nat_lt (length s) k ≡ false) × ((from_be_bytes w (take k s), drop k s) ≡ (n, x)) = taken_unless _ _ _ e in
    let long : k ≤ length s = ltb-false (length s) k u.0 in
    let split : take k s ++ drop k s ≡ s = take-append-drop k s in
    let made : (n < 2 ^ bits w) × (to_be_bytes w n ≡ take k s) =
    spelled (take k s) n (length-take-le k s long) (bytes_parts (take k s) (drop k s) (subst IsBytes (sym split) h)).0 (sym (ap (λ p. p.0) u.1)) in
    record { below = made.0; split = sym split ∙ ap (λ t. t ++ drop k s) (sym made.1) ∙ ap (λ t. to_be_bytes w n ++ t) (ap (λ p. p.1) u.1) }

-- ---- heads

-- after the byte b comes the rest of a head of h
pub record Took (h : Head) (b : ℕ) (s x : List ℕ) : Type 0 where
  pub rest : List ℕ
  pub is_head : IsHead h (b ∷ rest)
  pub split : s ≡ rest ++ x

pub signed_head : (z : ℤ) (a : List ℕ) → SignedAny z a → IsHead (Whole z) a
unfolding IsHead
signed_head (pos n) a f = inr (inr (inr (inr (inr f))))
signed_head (negsuc n) a f = inr f

pub fits_signed : (w : Width) (n : ℕ) → n < 2 ^ bits w → FitsSigned w (cast_signed w n)
fits_signed w8 n h = grind (arith, ints)
fits_signed w16 n h = grind (arith, ints)
fits_signed w32 n h = grind (arith, ints)
fits_signed w64 n h = grind (arith, ints)
fits_signed w128 n h = grind (arith, ints)

pub signed_made : (b : ℕ) (w : Width) (n : ℕ) → n < 2 ^ bits w → Signed b w (cast_signed w n) (b ∷ to_be_bytes w n)
signed_made b w n h = (fits_signed w n h, ap (λ k. b ∷ to_be_bytes w k) (sym (of_z-to_z w n h)))

pub tag_made : (t : ℕ) → t < 256 → (t % 256) ∷ [] ≡ tag_byte (cast_signed w8 t) ∷ []
tag_made t h = ap (λ k. k ∷ []) (let e : t % 256 ≡ t = omega arith in e ∙ sym (of_z-to_z w8 t h))

took_wide : (w : Width) → Spelled w → (f : ℕ → Head) (b : ℕ) → ((n : ℕ) → n < 2 ^ bits w → IsHead (f n) (b ∷ to_be_bytes w n))
    → (s : List ℕ) (h : Head) (x : List ℕ) → IsBytes s
    → take_map f (take_number w s) ≡ Some (h, x) → Took h b s x
took_wide w spelled f b made s h x bs e =
    let t : (n : ℕ) × (take_number w s ≡ Some (n, x)) × (h ≡ f n) = taken_map f (take_number w s) h x e in
    let number : Number w s t.0 x = number_from w spelled s t.0 x bs t.1 in
    record { rest = to_be_bytes w t.0; is_head = subst (λ k. IsHead k (b ∷ to_be_bytes w t.0)) (sym t.2) (made t.0 number.below); split = number.split }

took_tag : (k b : ℕ) → ((t : ℕ) → t < 2 ^ 8 → IsHead (Ext k (cast_signed w8 t)) (b ∷ to_be_bytes w8 t)) → (s : List ℕ) (h : Head) (x : List ℕ) → IsBytes s
    → take_tag k s ≡ Some (h, x) → Took h b s x
took_tag k b made s h x bs e = took_wide w8 spelled_8 (λ t. Ext k (cast_signed w8 t)) b made s h x bs e

took_wide_ext : (w : Width) → Spelled w → (b : ℕ) → ((n : ℕ) (tag : ℤ) → n < 2 ^ bits w → FitsSigned w8 tag
    → IsHead (Ext n tag) (b ∷ (to_be_bytes w n ++ tag_byte tag ∷ []))) → (s : List ℕ) (h : Head) (x : List ℕ) → IsBytes s
    → take_then (take_number w s) take_tag ≡ Some (h, x) → Took h b s x
took_wide_ext w spelled b made s h x bs e =
    let t : (n : ℕ) × (rest : List ℕ) × (take_number w s ≡ Some (n, rest)) × (take_tag n rest ≡ Some (h, x)) = taken_then (take_number w s) take_tag h x e in
    let number : Number w s t.0 t.1 = number_from w spelled s t.0 t.1 bs t.2 in
    let after : IsBytes t.1 = (bytes_parts (to_be_bytes w t.0) t.1 (subst IsBytes number.split bs)).1 in
    let u : (n : ℕ) × (take_number w8 t.1 ≡ Some (n, x))
    × (h ≡ Ext t.0 (cast_signed w8 n)) = taken_map (λ k. Ext t.0 (cast_signed w8 k)) (take_number w8 t.1) h x t.3 in
    let tag : Number w8 t.1 u.0 x = number_from w8 spelled_8 t.1 u.0 x after u.1 in
    let whole_tag : t.1 ≡ tag_byte (cast_signed w8 u.0) ∷ x = tag.split ∙ ap (λ k. k ++ x) (tag_made u.0 tag.below) in
    record {
      rest = to_be_bytes w t.0 ++ tag_byte (cast_signed w8 u.0) ∷ [];
      is_head = subst (λ k. IsHead k (b ∷ (to_be_bytes w t.0 ++ tag_byte (cast_signed w8 u.0) ∷ []))) (sym u.2)
          (made t.0 (cast_signed w8 u.0) number.below (fits_signed w8 u.0 tag.below));
      split = number.split ∙ ap (λ k. to_be_bytes w t.0 ++ k) whole_tag ∙ sym (append_assoc (to_be_bytes w t.0) (tag_byte (cast_signed w8 u.0) ∷ []) x);
    }

-- a head that is its marker
took_alone : (h k : Head) (b : ℕ) (s x : List ℕ) → IsHead k (b ∷ []) → ◌≡◌ {A = Option (Head × List ℕ)} (Some (k, s)) (Some (h, x)) → Took h b s x
took_alone h k b s x p e =
    let q : (k ≡ h) × (s ≡ x) = some_pair_parts k h s x e in
    record { rest = []; is_head = subst (λ j. IsHead j (b ∷ [])) q.0 p; split = q.1 }

pub head_after_took : (m : Marker) (s : List ℕ) (h : Head) (x : List ℕ) → IsBytes s → head_after m s ≡ Some (h, x) → Took h (byte_of m) s x
unfolding IsHead byte_of head_after
head_after_took (marker.FixPos n) s h x bs e = took_alone h (Whole (pos (n % 0x80))) _ s x (inl (omega arith, refl)) e
head_after_took (marker.FixMap n) s h x bs e = took_alone h (Map (n % 0x10)) _ s x (inl (omega arith, refl)) e
head_after_took (marker.FixArray n) s h x bs e = took_alone h (Array (n % 0x10)) _ s x (inl (omega arith, refl)) e
head_after_took (marker.FixStr n) s h x bs e = took_alone h (Text (n % 0x20)) _ s x (inl (omega arith, refl)) e
head_after_took (marker.FixNeg z) s h x bs e = took_alone h (Whole (negsuc (0x1f - cast_unsigned w8 z % 0x20))) _ s x
    (inl (omega arith, ap (λ k. k ∷ []) (omega arith))) e
head_after_took marker.Null s h x bs e = took_alone h Nil _ s x refl e
head_after_took marker.False s h x bs e = took_alone h (Truth false) _ s x refl e
head_after_took marker.True s h x bs e = took_alone h (Truth true) _ s x refl e
head_after_took marker.Reserved s h x bs e = absurd (cc)
head_after_took marker.Bin8 s h x bs e = took_wide w8 spelled_8 Bin _ (λ n k. inl (k, refl)) s h x bs e
head_after_took marker.Bin16 s h x bs e = took_wide w16 spelled_16 Bin _ (λ n k. inr (inl (k, refl))) s h x bs e
head_after_took marker.Bin32 s h x bs e = took_wide w32 spelled_32 Bin _ (λ n k. inr (inr (k, refl))) s h x bs e
head_after_took marker.Str8 s h x bs e = took_wide w8 spelled_8 Text _ (λ n k. inr (inl (k, refl))) s h x bs e
head_after_took marker.Str16 s h x bs e = took_wide w16 spelled_16 Text _ (λ n k. inr (inr (inl (k, refl)))) s h x bs e
head_after_took marker.Str32 s h x bs e = took_wide w32 spelled_32 Text _ (λ n k. inr (inr (inr (k, refl)))) s h x bs e
head_after_took marker.Array16 s h x bs e = took_wide w16 spelled_16 Array _ (λ n k. inr (inl (k, refl))) s h x bs e
head_after_took marker.Array32 s h x bs e = took_wide w32 spelled_32 Array _ (λ n k. inr (inr (k, refl))) s h x bs e
head_after_took marker.Map16 s h x bs e = took_wide w16 spelled_16 Map _ (λ n k. inr (inl (k, refl))) s h x bs e
head_after_took marker.Map32 s h x bs e = took_wide w32 spelled_32 Map _ (λ n k. inr (inr (k, refl))) s h x bs e
head_after_took marker.U8 s h x bs e = took_wide w8 spelled_8 (λ n. Whole (pos n)) _ (λ n k. inr (inl (k, refl))) s h x bs e
head_after_took marker.U16 s h x bs e = took_wide w16 spelled_16 (λ n. Whole (pos n)) _ (λ n k. inr (inr (inl (k, refl)))) s h x bs e
head_after_took marker.U32 s h x bs e = took_wide w32 spelled_32 (λ n. Whole (pos n)) _ (λ n k. inr (inr (inr (inl (k, refl))))) s h x bs e
head_after_took marker.U64 s h x bs e = took_wide w64 spelled_64 (λ n. Whole (pos n)) _ (λ n k. inr (inr (inr (inr (inl (k, refl)))))) s h x bs e
head_after_took marker.F32 s h x bs e = took_wide w32 spelled_32 F32Bits _ (λ n k. (k, refl)) s h x bs e
head_after_took marker.F64 s h x bs e = took_wide w64 spelled_64 F64Bits _ (λ n k. (k, refl)) s h x bs e
head_after_took marker.I8 s h x bs e = took_wide w8 spelled_8 (λ n. Whole (cast_signed w8 n)) 0xd0
    (λ n k. signed_head (cast_signed w8 n) _ (inl (signed_made 0xd0 w8 n k))) s h x bs e
head_after_took marker.I16 s h x bs e = took_wide w16 spelled_16 (λ n. Whole (cast_signed w16 n)) 0xd1
    (λ n k. signed_head (cast_signed w16 n) _ (inr (inl (signed_made 0xd1 w16 n k)))) s h x bs e
head_after_took marker.I32 s h x bs e = took_wide w32 spelled_32 (λ n. Whole (cast_signed w32 n)) 0xd2
    (λ n k. signed_head (cast_signed w32 n) _ (inr (inr (inl (signed_made 0xd2 w32 n k))))) s h x bs e
head_after_took marker.I64 s h x bs e = took_wide w64 spelled_64 (λ n. Whole (cast_signed w64 n)) 0xd3
    (λ n k. signed_head (cast_signed w64 n) _ (inr (inr (inr (signed_made 0xd3 w64 n k))))) s h x bs e
head_after_took marker.FixExt1 s h x bs e = took_tag 1 0xd4 (λ t k. inl (refl, fits_signed w8 t k, ap (λ q. 0xd4 ∷ q) (tag_made t k))) s h x bs e
head_after_took marker.FixExt2 s h x bs e = took_tag 2 0xd5 (λ t k. inr (inl (refl, fits_signed w8 t k, ap (λ q. 0xd5 ∷ q) (tag_made t k)))) s h x bs e
head_after_took marker.FixExt4 s h x bs e = took_tag 4 0xd6 (λ t k. inr (inr (inl (refl, fits_signed w8 t k, ap (λ q. 0xd6 ∷ q) (tag_made t k))))) s h x bs e
head_after_took marker.FixExt8 s h x bs e = took_tag 8 0xd7 (λ t k. inr (inr (inr (inl (refl, fits_signed w8 t k, ap (λ q. 0xd7 ∷ q) (tag_made t k)))))) s h
    x bs e
head_after_took marker.FixExt16 s h x bs e = took_tag 16 0xd8
    (λ t k. inr (inr (inr (inr (inl (refl, fits_signed w8 t k, ap (λ q. 0xd8 ∷ q) (tag_made t k))))))) s h x bs e
head_after_took marker.Ext8 s h x bs e = took_wide_ext w8 spelled_8 0xc7 (λ n tag k l. inr (inr (inr (inr (inr (inl (k, l, refl))))))) s h x bs e
head_after_took marker.Ext16 s h x bs e = took_wide_ext w16 spelled_16 0xc8 (λ n tag k l. inr (inr (inr (inr (inr (inr (inl (k, l, refl)))))))) s h x bs e
head_after_took marker.Ext32 s h x bs e = took_wide_ext w32 spelled_32 0xc9 (λ n tag k l. inr (inr (inr (inr (inr (inr (inr (k, l, refl)))))))) s h x bs e

-- What take_head takes is a head.
pub record TookHead (h : Head) (s x : List ℕ) : Type 0 where
  pub head : List ℕ
  pub is_head : IsHead h head
  pub split : s ≡ head ++ x

pub take_head_took : (s : List ℕ) (h : Head) (x : List ℕ) → IsBytes s → take_head s ≡ Some (h, x) → TookHead h s x
unfolding take_head
take_head_took [] h x bs e = absurd (cc)
take_head_took (b ∷ s) h x bs e =
    let took : Took h (byte_of (marker_of b)) s x = head_after_took (marker_of b) s h x bs.1 e in
    let same : byte_of (marker_of b) ≡ b = byte_of-marker_of b bs.0 in
    record { head = b ∷ took.rest; is_head = subst (λ k. IsHead h (k ∷ took.rest)) same took.is_head; split = ap (λ t. b ∷ t) took.split }
