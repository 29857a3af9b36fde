-- What a first byte says of its message.
use Rattle.std.proofs.Common.{◌≡◌, ◌∙◌, sym, ap, subst, refl, ℕ, zero, suc, ◌+◌, ◌*◌, ◌%◌, ◌<◌, ◌≤◌, arith, List, []}
use Rattle.std.proofs.Common.{◌∷◌, ◌++◌, length, take, drop, append_assoc, Some, pos, negsuc, ◌-◌, true, false, nat_lt}
use Rattle.std.specs.Prelude.{◌↔◌}
use Rattle.std.specs.Int.{Width, w8, w16, w32, w64, from_be_bytes, byte_len, cast_signed, cast_unsigned}
use Rattle.std.proofs.lemmas.List.{append-nil, length-append, take-append-drop, length-take-le, take_at, drop_at}
use Rattle.std.proofs.lemmas.Bool.{le-ltb}
use Rattle.rmp_wire.specs.declared.head.Head.{Head}
use Rattle.rmp_wire.specs.declared.head.Head.TheVariants.{Nil, Truth, Whole, F32Bits, F64Bits, Text, Bin, Array, Map, Ext}
use Rattle.rmp_wire.specs.declared.marker.Marker.{Marker}
use Rattle.rmp_wire.specs.declared.marker.Marker.TheVariants as marker
use Rattle.rmp_wire.specs.Heads.{IsHead}
use Rattle.rmp_wire.specs.Spelling.{IsBytes}
use Rattle.rmp_wire.specs.Taking.{marker_of, byte_of, take_number, head_after, take_map, take_then, take_tag}
use Rattle.rmp_wire.proofs.Markers.{byte_of-marker_of}
use Rattle.rmp_wire.proofs.Reading.{reserved_opens_none}
use Rattle.rmp_wire.proofs.Spellings.{spells_all_bytes}
use Rattle.rmp_wire.proofs.Taken.{bytes_parts, head_after_took}
use Rattle.rmp_decode.specs.Kinds.{content_len}
use Rattle.rmp_scan.specs.Parts.{parts_after}
use Rattle.rmp_scan.specs.declared.opening.Counts.{Counts}
use Rattle.rmp_scan.specs.declared.opening.Counts.TheVariants.{Payload, Extension, Items, Pairs}
use Rattle.rmp_scan.specs.declared.opening.Opening.{Opening}
use Rattle.rmp_scan.specs.declared.opening.Opening.TheVariants.{Fixed, Counted, Reserved}
use Rattle.rmp_scan.specs.Openings.{SpellsSome, IsPayload, WantsPayload, WantsLength, payload_of, parts_of, opening_of, Opens}
use Rattle.rmp_scan.proofs.Rows.{Node, node_some, node_first, some_head}

-- ---- zeros, in place of bytes that are to come

abbrev pub zeros : ℕ → List ℕ
zeros zero = []
zeros (suc n) = 0 ∷ zeros n

pub length-zeros : (n : ℕ) → length (zeros n) ≡ n
length-zeros zero = refl
length-zeros (suc n) = ap suc (length-zeros n)

pub zeros_bytes : (n : ℕ) → IsBytes (zeros n)
zeros_bytes zero = tt
zeros_bytes (suc n) = (omega arith, zeros_bytes n)

pub bytes_append : (a b : List ℕ) → IsBytes a → IsBytes b → IsBytes (a ++ b)
bytes_append [] b p q = q
bytes_append (x ∷ a) b p q = (p.0, bytes_append a b p.1 q)

-- ---- nodes by the first byte

took_node : (m : Marker) (t x : List ℕ) (h : Head) → IsBytes t → head_after m t ≡ Some (h, x) → length x ≡ content_len h → Node (byte_of m ∷ t) (parts_after h)
took_node m t x h b e l =
    let k = head_after_took m t h x b e in
    record {
      head = h;
      bytes = byte_of m ∷ k.rest;
      payload = x;
      front = ap (λ z. byte_of m ∷ z) k.split;
      is_head = k.is_head;
      long = l;
      are_bytes = (bytes_parts k.rest x (subst IsBytes k.split b)).1;
      many = refl;
    }

number_gives : (w : Width) (q x : List ℕ) → length q ≡ byte_len w → take_number w (q ++ x) ≡ Some (from_be_bytes w q, x)
unfolding take_number
number_gives w q x l =
    let long : nat_lt (length (q ++ x)) (byte_len w) ≡ false = le-ltb (length (q ++ x)) (byte_len w) (omega (arith, length-append q x)) in
    rw (long, take_at q x (byte_len w) l, drop_at q x (byte_len w) l) refl

number_whole : (w : Width) (q : List ℕ) → length q ≡ byte_len w → take_number w q ≡ Some (from_be_bytes w q, [])
number_whole w q l = ap (take_number w) (sym (append-nil q)) ∙ number_gives w q [] l

abbrev Fixes : Marker → ℕ → ℕ → Type 0
Fixes m payload parts = (t : List ℕ) → length t ≡ payload → IsBytes t → Node (byte_of m ∷ t) parts

alone : (m : Marker) (h : Head) (payload parts : ℕ) → ((s : List ℕ) → head_after m s ≡ Some (h, s)) → payload ≡ content_len h → parts_after h ≡ parts
    → Fixes m payload parts
alone m h payload parts e c p = λ t l b. subst (Node (byte_of m ∷ t)) p (took_node m t t h b (e t) (l ∙ c))

wide : (m : Marker) (w : Width) (f : ℕ → Head) → ((s : List ℕ) → head_after m s ≡ take_map f (take_number w s)) → ((n : ℕ) → content_len (f n) ≡ 0)
    → ((n : ℕ) → parts_after (f n) ≡ 0) → Fixes m (byte_len w) 0
wide m w f e c p = λ t l b.
    let n : ℕ = from_be_bytes w t in
    subst (Node (byte_of m ∷ t)) (p n) (took_node m t [] (f n) b (e t ∙ ap (take_map f) (number_whole w t l)) (sym (c n)))

tagged : (m : Marker) (k : ℕ) → ((s : List ℕ) → head_after m s ≡ take_tag k s) → Fixes m (suc k) 0
tagged m k e [] l b = absurd (omega arith)
tagged m k e (c ∷ x) l b =
    took_node m (c ∷ x) x (Ext k (cast_signed w8 (from_be_bytes w8 (c ∷ [])))) b
    (e (c ∷ x) ∙ ap (take_map (λ tag. Ext k (cast_signed w8 tag))) (number_gives w8 (c ∷ []) x refl)) (omega arith)

-- the number that bytes go on with
abbrev pub number : ℕ → List ℕ → ℕ
number v [] = v
number v (b ∷ q) = number (256 * v + b) q

abbrev Lengthens : Marker → Counts → ℕ → Type 0
Lengthens m counts width = (q s : List ℕ) → length q ≡ width → length s ≡ payload_of counts (number 0 q) → IsBytes q → IsBytes s
    → Node (byte_of m ∷ (q ++ s)) (parts_of counts (number 0 q))

abbrev IsNumber : Width → Type 0
IsNumber w = (q : List ℕ) → length q ≡ byte_len w → from_be_bytes w q ≡ number 0 q

number_8 : IsNumber w8
number_8 [] l = absurd (omega arith)
number_8 (a ∷ []) l = omega arith
number_8 (a ∷ b ∷ q) l = absurd (omega arith)

number_16 : IsNumber w16
number_16 [] l = absurd (omega arith)
number_16 (a ∷ []) l = absurd (omega arith)
number_16 (a ∷ b ∷ []) l = omega arith
number_16 (a ∷ b ∷ c ∷ q) l = absurd (omega arith)

number_32 : IsNumber w32
number_32 [] l = absurd (omega arith)
number_32 (a ∷ []) l = absurd (omega arith)
number_32 (a ∷ b ∷ []) l = absurd (omega arith)
number_32 (a ∷ b ∷ c ∷ []) l = absurd (omega arith)
number_32 (a ∷ b ∷ c ∷ d ∷ []) l = omega arith
number_32 (a ∷ b ∷ c ∷ d ∷ e ∷ q) l = absurd (omega arith)

counted : (m : Marker) (counts : Counts) (w : Width) (f : ℕ → Head) → IsNumber w → ((s : List ℕ) → head_after m s ≡ take_map f (take_number w s))
    → ((n : ℕ) → content_len (f n) ≡ payload_of counts n) → ((n : ℕ) → parts_after (f n) ≡ parts_of counts n) → Lengthens m counts (byte_len w)
counted m counts w f is e c p = λ q s l k b d.
    let n : ℕ = from_be_bytes w q in
    let same : n ≡ number 0 q = is q l in
    subst (Node (byte_of m ∷ (q ++ s))) (p n ∙ ap (parts_of counts) same)
    (took_node m (q ++ s) s (f n) (bytes_append q s b d) (e (q ++ s) ∙ ap (take_map f) (number_gives w q s l)) (k ∙ ap (payload_of counts) (sym same) ∙ sym (c n)))

extended : (m : Marker) (w : Width) → IsNumber w → ((s : List ℕ) → head_after m s ≡ take_then (take_number w s) take_tag)
    → Lengthens m Extension (byte_len w)
extended m w is e q [] l k b d = absurd (omega arith)
extended m w is e q (t ∷ s) l k b d =
    let n : ℕ = from_be_bytes w q in
    let same : n ≡ number 0 q = is q l in
    took_node m (q ++ (t ∷ s)) s (Ext n (cast_signed w8 (from_be_bytes w8 (t ∷ [])))) (bytes_append q (t ∷ s) b d)
    (e (q ++ (t ∷ s)) ∙ ap (λ z. take_then z take_tag) (number_gives w q (t ∷ s) l)
    ∙ ap (take_map (λ tag. Ext n (cast_signed w8 tag))) (number_gives w8 (t ∷ []) s refl))
    (let j : length s ≡ number 0 q = omega arith in j ∙ sym same)

-- ---- and so what may follow it

bytes_of : (n : ℕ) (bytes : List ℕ) → SpellsSome n bytes → IsBytes bytes
bytes_of n bytes s = spells_all_bytes s.trees bytes s.spelled

tail_is : (b : ℕ) (xs ys : List ℕ) → b ∷ xs ≡ b ∷ ys → xs ≡ ys
tail_is b xs ys e = cc

first_is : (b c : ℕ) (xs ys : List ℕ) → b ∷ xs ≡ c ∷ ys → b ≡ c
first_is b c xs ys e = cc

opens_fixed : (m : Marker) (payload parts : ℕ) → Fixes m payload parts → (n : ℕ) (r : List ℕ)
    → SpellsSome (suc n) (byte_of m ∷ r) ↔ WantsPayload payload (parts + n) r
opens_fixed m payload parts f n r = (
  λ s.
      let z : List ℕ = zeros payload in
      let long : payload ≤ length (r ++ z) = omega (arith, length-append r z, length-zeros payload) in
      let t : List ℕ = take payload (r ++ z) in
      let y : List ℕ = drop payload (r ++ z) in
      let split : t ++ y ≡ r ++ z = take-append-drop payload (r ++ z) in
      let all : IsBytes (r ++ z) = bytes_append r z (bytes_of (suc n) (byte_of m ∷ r) s).1 (zeros_bytes payload) in
      let own : IsBytes t = (bytes_parts t y (subst IsBytes (sym split) all)).0 in
      let node : Node (byte_of m ∷ t) parts = f t (length-take-le payload (r ++ z) long) own in
      let a = node_first (byte_of m ∷ t) (byte_of m ∷ r) y z parts n node s (ap (λ k. byte_of m ∷ k) (sym split)) in
      record {
        first = t;
        second = a.rest;
        is_first = (length-take-le payload (r ++ z) long, own);
        is_second = a.some;
        is_whole = tail_is (byte_of m) r (t ++ a.rest) a.front;
      },
  λ j. subst (λ k. SpellsSome (suc n) (byte_of m ∷ k)) (sym j.is_whole)
      (node_some (byte_of m ∷ j.first) j.second parts n (f j.first j.is_first.0 j.is_first.1) j.is_second),
)

record Lengths (counts : Counts) (width value n : ℕ) (r : List ℕ) : Type 0 where
  pub q : List ℕ
  pub s : List ℕ
  pub rest : List ℕ
  pub front : r ≡ q ++ (s ++ rest)
  pub long : length q ≡ width
  pub are_bytes : IsBytes q
  pub payload : IsPayload (payload_of counts (number value q)) s
  pub some : SpellsSome (parts_of counts (number value q) + n) rest

lengths : (counts : Counts) (width value n : ℕ) (r : List ℕ) → WantsLength counts width value n r → Lengths counts width value n r
lengths counts zero value n r j = record {
  q = [];
  s = j.first;
  rest = j.second;
  front = j.is_whole;
  long = refl;
  are_bytes = tt;
  payload = j.is_first;
  some = j.is_second;
}
lengths counts (suc width) value n [] j = absurd j
lengths counts (suc width) value n (b ∷ r) j =
    let i = lengths counts width (256 * value + b) n r j.1 in
    record {
      q = b ∷ i.q;
      s = i.s;
      rest = i.rest;
      front = ap (λ z. b ∷ z) i.front;
      long = ap suc i.long;
      are_bytes = (j.0, i.are_bytes);
      payload = i.payload;
      some = i.some;
    }

pub wants : (counts : Counts) (q : List ℕ) (value n : ℕ) (s rest : List ℕ) → IsBytes q → IsPayload (payload_of counts (number value q)) s
    → SpellsSome (parts_of counts (number value q) + n) rest → WantsLength counts (length q) value n (q ++ (s ++ rest))
wants counts [] value n s rest b p o = record { first = s; second = rest; is_first = p; is_second = o; is_whole = refl }
wants counts (c ∷ q) value n s rest b p o = (b.0, wants counts q (256 * value + c) n s rest b.1 p o)

opens_counted : (m : Marker) (counts : Counts) (width : ℕ) → Lengthens m counts width → (n : ℕ) (r : List ℕ)
    → SpellsSome (suc n) (byte_of m ∷ r) ↔ WantsLength counts width 0 n r
opens_counted m counts width f n r = (
  λ s.
      let z : List ℕ = zeros width in
      let q : List ℕ = take width (r ++ z) in
      let following : List ℕ = drop width (r ++ z) in
      let split : q ++ following ≡ r ++ z = take-append-drop width (r ++ z) in
      let long : length q ≡ width = length-take-le width (r ++ z) (omega (arith, length-append r z, length-zeros width)) in
      let k : ℕ = payload_of counts (number 0 q) in
      let x : List ℕ = zeros k in
      let t : List ℕ = take k (following ++ x) in
      let y : List ℕ = drop k (following ++ x) in
      let split_2 : t ++ y ≡ following ++ x = take-append-drop k (following ++ x) in
      let long_2 : length t ≡ k = length-take-le k (following ++ x) (omega (arith, length-append following x, length-zeros k)) in
      let all : IsBytes (r ++ z) = bytes_append r z (bytes_of (suc n) (byte_of m ∷ r) s).1 (zeros_bytes width) in
      let parted = bytes_parts q following (subst IsBytes (sym split) all) in
      let own : IsBytes t = (bytes_parts t y (subst IsBytes (sym split_2) (bytes_append following x parted.1 (zeros_bytes k)))).0 in
      let node = f q t long long_2 parted.0 own in
      let same : r ++ (z ++ x) ≡ (q ++ t) ++ y = sym (append_assoc r z x) ∙ ap (λ u. u ++ x) (sym split) ∙ append_assoc q following x
      ∙ ap (λ u. q ++ u) (sym split_2) ∙ sym (append_assoc q t y) in
      let a = node_first (byte_of m ∷ (q ++ t)) (byte_of m ∷ r) y (z ++ x) (parts_of counts (number 0 q)) n node s (ap (λ u. byte_of m ∷ u) same) in
      let is : r ≡ q ++ (t ++ a.rest) = tail_is (byte_of m) r ((q ++ t) ++ a.rest) a.front ∙ append_assoc q t a.rest in
      let made = wants counts q 0 n t a.rest parted.0 (long_2, own) a.some in
      subst (WantsLength counts width 0 n) (sym is) (subst (λ u. WantsLength counts u 0 n (q ++ (t ++ a.rest))) long made),
  λ j.
      let i = lengths counts width 0 n r j in
      let made = node_some (byte_of m ∷ (i.q ++ i.s)) i.rest (parts_of counts (number 0 i.q)) n
      (f i.q i.s i.long i.payload.0 i.are_bytes i.payload.1) i.some in
      subst (λ k. SpellsSome (suc n) (byte_of m ∷ k)) (append_assoc i.q i.s i.rest ∙ sym i.front) made,
)

pub reserved : (n : ℕ) (r : List ℕ) → SpellsSome (suc n) (byte_of marker.Reserved ∷ r) → ⊥
reserved n r s =
    let h = some_head n (byte_of marker.Reserved ∷ r) s in
    reserved_opens_none h.head h.following (subst (λ z. IsHead h.head (z ∷ h.following)) (first_is h.byte (byte_of marker.Reserved) _ r (sym h.front)) h.is_head)

-- a first byte that tells its length, with so many bytes more, is a head with its payload, and one whose length follows with that and its payload
abbrev pub Nodes : ℕ → Opening → Type 0
Nodes b (Fixed payload parts) = (t : List ℕ) → length t ≡ payload → IsBytes t → Node (b ∷ t) parts
Nodes b (Counted counts width) = (q s : List ℕ) → length q ≡ width → length s ≡ payload_of counts (number 0 q) → IsBytes q → IsBytes s
    → Node (b ∷ (q ++ s)) (parts_of counts (number 0 q))
Nodes b Reserved = b ≡ 0xc1

marker_nodes : (m : Marker) → Nodes (byte_of m) (opening_of m)
unfolding head_after byte_of
marker_nodes (marker.FixPos n) = alone (marker.FixPos n) (Whole (pos (n % 0x80))) 0 0 (λ s. refl) refl refl
marker_nodes (marker.FixMap n) = alone (marker.FixMap n) (Map (n % 0x10)) 0 _ (λ s. refl) refl refl
marker_nodes (marker.FixArray n) = alone (marker.FixArray n) (Array (n % 0x10)) 0 _ (λ s. refl) refl refl
marker_nodes (marker.FixStr n) = alone (marker.FixStr n) (Text (n % 0x20)) _ 0 (λ s. refl) refl refl
marker_nodes (marker.FixNeg z) = alone (marker.FixNeg z) (Whole (negsuc (0x1f - cast_unsigned w8 z % 0x20))) 0 0 (λ s. refl) refl refl
marker_nodes marker.Null = alone marker.Null Nil 0 0 (λ s. refl) refl refl
marker_nodes marker.False = alone marker.False (Truth false) 0 0 (λ s. refl) refl refl
marker_nodes marker.True = alone marker.True (Truth true) 0 0 (λ s. refl) refl refl
marker_nodes marker.Reserved = refl
marker_nodes marker.Bin8 = counted marker.Bin8 Payload w8 Bin number_8 (λ s. refl) (λ n. refl) (λ n. refl)
marker_nodes marker.Bin16 = counted marker.Bin16 Payload w16 Bin number_16 (λ s. refl) (λ n. refl) (λ n. refl)
marker_nodes marker.Bin32 = counted marker.Bin32 Payload w32 Bin number_32 (λ s. refl) (λ n. refl) (λ n. refl)
marker_nodes marker.Str8 = counted marker.Str8 Payload w8 Text number_8 (λ s. refl) (λ n. refl) (λ n. refl)
marker_nodes marker.Str16 = counted marker.Str16 Payload w16 Text number_16 (λ s. refl) (λ n. refl) (λ n. refl)
marker_nodes marker.Str32 = counted marker.Str32 Payload w32 Text number_32 (λ s. refl) (λ n. refl) (λ n. refl)
marker_nodes marker.Array16 = counted marker.Array16 Items w16 Array number_16 (λ s. refl) (λ n. refl) (λ n. refl)
marker_nodes marker.Array32 = counted marker.Array32 Items w32 Array number_32 (λ s. refl) (λ n. refl) (λ n. refl)
marker_nodes marker.Map16 = counted marker.Map16 Pairs w16 Map number_16 (λ s. refl) (λ n. refl) (λ n. refl)
marker_nodes marker.Map32 = counted marker.Map32 Pairs w32 Map number_32 (λ s. refl) (λ n. refl) (λ n. refl)
marker_nodes marker.Ext8 = extended marker.Ext8 w8 number_8 (λ s. refl)
marker_nodes marker.Ext16 = extended marker.Ext16 w16 number_16 (λ s. refl)
marker_nodes marker.Ext32 = extended marker.Ext32 w32 number_32 (λ s. refl)
marker_nodes marker.F32 = wide marker.F32 w32 F32Bits (λ s. refl) (λ n. refl) (λ n. refl)
marker_nodes marker.F64 = wide marker.F64 w64 F64Bits (λ s. refl) (λ n. refl) (λ n. refl)
marker_nodes marker.U8 = wide marker.U8 w8 (λ n. Whole (pos n)) (λ s. refl) (λ n. refl) (λ n. refl)
marker_nodes marker.U16 = wide marker.U16 w16 (λ n. Whole (pos n)) (λ s. refl) (λ n. refl) (λ n. refl)
marker_nodes marker.U32 = wide marker.U32 w32 (λ n. Whole (pos n)) (λ s. refl) (λ n. refl) (λ n. refl)
marker_nodes marker.U64 = wide marker.U64 w64 (λ n. Whole (pos n)) (λ s. refl) (λ n. refl) (λ n. refl)
marker_nodes marker.I8 = wide marker.I8 w8 (λ n. Whole (cast_signed w8 n)) (λ s. refl) (λ n. refl) (λ n. refl)
marker_nodes marker.I16 = wide marker.I16 w16 (λ n. Whole (cast_signed w16 n)) (λ s. refl) (λ n. refl) (λ n. refl)
marker_nodes marker.I32 = wide marker.I32 w32 (λ n. Whole (cast_signed w32 n)) (λ s. refl) (λ n. refl) (λ n. refl)
marker_nodes marker.I64 = wide marker.I64 w64 (λ n. Whole (cast_signed w64 n)) (λ s. refl) (λ n. refl) (λ n. refl)
marker_nodes marker.FixExt1 = tagged marker.FixExt1 1 (λ s. refl)
marker_nodes marker.FixExt2 = tagged marker.FixExt2 2 (λ s. refl)
marker_nodes marker.FixExt4 = tagged marker.FixExt4 4 (λ s. refl)
marker_nodes marker.FixExt8 = tagged marker.FixExt8 8 (λ s. refl)
marker_nodes marker.FixExt16 = tagged marker.FixExt16 16 (λ s. refl)

opens : (m : Marker) (o : Opening) → Nodes (byte_of m) o → Opens (byte_of m) o
unfolding byte_of
opens m (Fixed payload parts) f = opens_fixed m payload parts f
opens m (Counted counts width) f = opens_counted m counts width f
opens m Reserved f = λ n r s. reserved n r (subst (λ z. SpellsSome (suc n) (z ∷ r)) f s)

pub marker_opens : (m : Marker) → Opens (byte_of m) (opening_of m)
marker_opens m = opens m (opening_of m) (marker_nodes m)

-- by the byte itself
pub byte_opens : (b : ℕ) → b < 256 → Opens b (opening_of (marker_of b))
byte_opens b l = subst (λ z. Opens z (opening_of (marker_of b))) (byte_of-marker_of b l) (marker_opens (marker_of b))

pub byte_nodes : (b : ℕ) → b < 256 → Nodes b (opening_of (marker_of b))
byte_nodes b l = subst (λ z. Nodes z (opening_of (marker_of b))) (byte_of-marker_of b l) (marker_nodes (marker_of b))

-- a first byte tells of few bytes and parts, and c1 alone of none
abbrev IsFew : ℕ → Opening → Type 0
IsFew b (Fixed payload parts) = (payload ≤ 31) × (parts ≤ 30)
IsFew b (Counted counts width) = Unit {0}
IsFew b Reserved = b ≡ 0xc1

few : (m : Marker) → IsFew (byte_of m) (opening_of m)
unfolding byte_of
few (marker.FixMap n) = (omega arith, omega arith)
few (marker.FixArray n) = (omega arith, omega arith)
few (marker.FixPos n) = (omega arith, omega arith)
few (marker.FixStr n) = (omega arith, omega arith)
few (marker.FixNeg z) = (omega arith, omega arith)
few marker.Null = (omega arith, omega arith)
few marker.Reserved = refl
few marker.False = (omega arith, omega arith)
few marker.True = (omega arith, omega arith)
few marker.Bin8 = tt
few marker.Bin16 = tt
few marker.Bin32 = tt
few marker.Ext8 = tt
few marker.Ext16 = tt
few marker.Ext32 = tt
few marker.F32 = (omega arith, omega arith)
few marker.F64 = (omega arith, omega arith)
few marker.U8 = (omega arith, omega arith)
few marker.U16 = (omega arith, omega arith)
few marker.U32 = (omega arith, omega arith)
few marker.U64 = (omega arith, omega arith)
few marker.I8 = (omega arith, omega arith)
few marker.I16 = (omega arith, omega arith)
few marker.I32 = (omega arith, omega arith)
few marker.I64 = (omega arith, omega arith)
few marker.FixExt1 = (omega arith, omega arith)
few marker.FixExt2 = (omega arith, omega arith)
few marker.FixExt4 = (omega arith, omega arith)
few marker.FixExt8 = (omega arith, omega arith)
few marker.FixExt16 = (omega arith, omega arith)
few marker.Str8 = tt
few marker.Str16 = tt
few marker.Str32 = tt
few marker.Array16 = tt
few marker.Array32 = tt
few marker.Map16 = tt
few marker.Map32 = tt

few_at : (b : ℕ) → b < 256 → IsFew b (opening_of (marker_of b))
few_at b l = subst (λ z. IsFew z (opening_of (marker_of b))) (byte_of-marker_of b l) (few (marker_of b))

pub parts_few : (b payload parts : ℕ) → b < 256 → Fixed payload parts ≡ opening_of (marker_of b) → (payload ≤ 31) × (parts ≤ 30)
parts_few b payload parts l e = subst (IsFew b) (sym e) (few_at b l)

pub reserved_is : (b : ℕ) → b < 256 → Reserved ≡ opening_of (marker_of b) → b ≡ 0xc1
reserved_is b l e = subst (IsFew b) (sym e) (few_at b l)
