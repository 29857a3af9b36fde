-- The table of first bytes, and the leaves that it tells the length of.
use Rattle.std.proofs.Common.{◌≡◌, ◌∙◌, sym, ap, subst, refl, ℕ, zero, suc, ◌+◌, ◌-◌, ◌*◌, ◌%◌, ◌<◌, ◌≤◌, arith, Bool, true, false, cond}
use Rattle.std.proofs.Common.{List, [], ◌∷◌, ◌++◌, length, take, drop, get_or, append_assoc, Some, Ok, pos, negsuc, ℤ, ◌==◌, ◌&&◌, nat_lt}
use Rattle.std.specs.Int.{Width, w8, w16, w32, w64, from_be_bytes, byte_len, cast_signed, cast_unsigned}
use Rattle.std.proofs.lemmas.Bool.{and_parts, eqb-true, lt-ltb, le-ltb}
use Rattle.std.proofs.lemmas.List.{append-nil, length-append, length-drop, take-append-drop, length-take-le, take_at, drop_at}
use Rattle.std.proofs.KnownBytes.{Consumes-nil}
use Rattle.std.proofs.Math.Seq.{drop-cons}
use Rattle.rmp_wire.specs.declared.head.Head.{Head}
use Rattle.rmp_wire.specs.declared.head.Head.TheVariants.{Nil, Truth, Whole, F32Bits, F64Bits, Text, Bin, Array, Map, Ext}
use Rattle.rmp_wire.specs.declared.marker.Marker.{Marker}
use Rattle.rmp_wire.specs.declared.marker.Marker.TheVariants as marker
use Rattle.rmp_wire.specs.Canonical.{heads_of, Opens, SpellsAs}
use Rattle.rmp_wire.specs.Heads.{IsHead, canon_head}
use Rattle.rmp_wire.specs.Spelling.{IsBytes}
use Rattle.rmp_wire.specs.Taking.{marker_of, byte_of, take_number, head_after, take_map, take_tag}
use Rattle.rmp_wire.specs.declared.source.Source.{Ghosts}
use Rattle.rmp_wire.specs.Msg.{Msg, Msgs, no_items, item, count, depth, depth_all}
use Rattle.rmp_wire.specs.Sources.{IsFront, Skips}
use Rattle.rmp_wire.proofs.Markers.{byte_of-marker_of}
use Rattle.rmp_wire.proofs.Strict.{test_passed}
use Rattle.rmp_wire.proofs.Taken.{bytes_from, bytes_parts, head_after_took}
use Rattle.rmp_decode.specs.Kinds.{content_len}
use Rattle.rmp_decode.specs.Ahead.{LeafHeadIn}
use Rattle.rmp_decode.specs.BufferedHeads.{HeadIn}
use Rattle.rmp_decode.specs.Law.{Lawful}
use Rattle.rmp_decode.specs.LeafTable.{SpellsLeaf, Tells, PassesLeaves, SkipsLeaves}
use Rattle.rmp_decode.specs.Open.{Leads, SpellsOpen}
use Rattle.rmp_decode.specs.Refuse.{UnpassedFor}
use Rattle.rmp_decode.specs.Seq.{SpellsRow}
use Rattle.rmp_decode.specs.Skip.{any_tree, parts_head}
use Rattle.rmp_decode.specs.State.{left, faults_of, room_of, Stays}
use Rattle.rmp_decode.specs.declared.deserializer.Deserializer.{Deserializer}
use Rattle.rmp_decode.specs.declared.deserializer.Kept.TheVariants.{Nothing}
use Rattle.rmp_decode.specs.declared.error.Error.{Error}
use Rattle.rmp_decode.proofs.Contents.{bare}
use Rattle.rmp_decode.proofs.BufferedHeads.{bytes_consumed}
use Rattle.rmp_decode.proofs.Laws.{stays_refl}
use Rattle.rmp_decode.proofs.SkipLaws.{leaf_of, leaf_flat, leaf_spelled}
use Rattle.rmp_decode.proofs.WantedNext.{leads_none, leads_then, leads_message}

-- ---- leaves by their marker

abbrev is_leaf : Head → Bool
is_leaf Nil = true
is_leaf (Truth t) = true
is_leaf (Whole z) = true
is_leaf (F32Bits n) = true
is_leaf (F64Bits n) = true
is_leaf (Text n) = true
is_leaf (Bin n) = true
is_leaf (Array n) = false
is_leaf (Map n) = false
is_leaf (Ext n tag) = true

nested : (is_map : Bool) (n : ℕ) → is_leaf (parts_head is_map n) ≡ false
nested true n = refl
nested false n = refl

no_parts : (h : Head) → is_leaf h ≡ true → (p : Bool × ℕ) → h ≡ parts_head p.0 p.1 → ⊥
no_parts h l p e =
    let no : true ≡ false = sym l ∙ ap is_leaf e ∙ nested p.0 p.1 in
    absurd cc

-- where reading is strict, the marker begins the canonical head
abbrev Begins : Bool → Marker → Head → Type 0
Begins strict m h = strict ≡ true → Opens (byte_of m) (canon_head h)

head_as : (strict : Bool) (h : Head) (b : ℕ) (rest : List ℕ) → IsHead h (b ∷ rest) → (strict ≡ true → Opens b (canon_head h)) → heads_of strict h (b ∷ rest)
head_as false h b rest i o = i
head_as true h b rest i o = test_passed h b rest i (o refl)

took_leaf : (strict : Bool) (m : Marker) (t x : List ℕ) (h : Head) → IsBytes t → head_after m t ≡ Some (h, x) → length x ≡ content_len h → is_leaf h ≡ true
    → Begins strict m h → SpellsLeaf strict (byte_of m ∷ t)
took_leaf strict m t x h b e l n o =
    let k = head_after_took m t h x b e in
    record {
      tree = leaf_of h x;
      spelled = subst (λ z. SpellsAs strict (byte_of m ∷ z) (leaf_of h x)) (sym k.split)
          (leaf_spelled strict h (byte_of m ∷ k.rest) x (no_parts h n) (head_as strict h (byte_of m) k.rest k.is_head o) l (bytes_parts k.rest x (subst IsBytes k.split b)).1);
      flat = leaf_flat h x;
    }

number_gives : (w : Width) (q x : List ℕ) → length q ≡ byte_len w → take_number w (q ++ x) ≡ Some (from_be_bytes w q, x)
unfolding take_number
number_gives w q x l =
    let long : nat_lt (length (q ++ x)) (byte_len w) ≡ false = le-ltb (length (q ++ x)) (byte_len w) (omega (arith, length-append q x)) in
    rw (long, take_at q x (byte_len w) l, drop_at q x (byte_len w) l) refl

number_whole : (w : Width) (q : List ℕ) → length q ≡ byte_len w → take_number w q ≡ Some (from_be_bytes w q, [])
number_whole w q l = ap (take_number w) (sym (append-nil q)) ∙ number_gives w q [] l

-- so many bytes after the marker, whatever they are, make a leaf
abbrev Fixes : Bool → Marker → ℕ → Type 0
Fixes strict m payload = (t : List ℕ) → length t ≡ payload → IsBytes t → SpellsLeaf strict (byte_of m ∷ t)

alone : (strict : Bool) (m : Marker) (h : Head) (payload : ℕ) → ((s : List ℕ) → head_after m s ≡ Some (h, s)) → payload ≡ content_len h → is_leaf h ≡ true
    → Begins strict m h → Fixes strict m payload
alone strict m h payload e c n o = λ t l b. took_leaf strict m t t h b (e t) (l ∙ c) n o

wide : (strict : Bool) (m : Marker) (w : Width) (f : ℕ → Head) → ((s : List ℕ) → head_after m s ≡ take_map f (take_number w s))
    → ((n : ℕ) → content_len (f n) ≡ 0) → ((n : ℕ) → is_leaf (f n) ≡ true) → ((n : ℕ) → Begins strict m (f n)) → Fixes strict m (byte_len w)
wide strict m w f e c n o = λ t l b.
    let k : ℕ = from_be_bytes w t in
    took_leaf strict m t [] (f k) b (e t ∙ ap (take_map f) (number_whole w t l)) (sym (c k)) (n k) (o k)

tagged : (strict : Bool) (m : Marker) (k : ℕ) → ((s : List ℕ) → head_after m s ≡ take_tag k s) → ((tag : ℕ) → Begins strict m (Ext k (cast_signed w8 tag)))
    → Fixes strict m (suc k)
tagged strict m k e o [] l b = absurd (omega arith)
tagged strict m k e o (c ∷ x) l b =
    let tag : ℕ = from_be_bytes w8 (c ∷ []) in
    took_leaf strict m (c ∷ x) x (Ext k (cast_signed w8 tag)) b
    (e (c ∷ x) ∙ ap (take_map (λ t. Ext k (cast_signed w8 t))) (number_gives w8 (c ∷ []) x refl)) (omega arith) refl (o tag)

-- what the table says of a marker
abbrev never : ℕ
never = 0xffffffff

abbrev unless : Bool → ℕ → ℕ
unless strict n = cond strict never n

abbrev pub payload_of : Bool → Marker → ℕ
payload_of strict (marker.FixPos n) = 0
payload_of strict (marker.FixMap n) = never
payload_of strict (marker.FixArray n) = never
payload_of strict (marker.FixStr n) = n % 0x20
payload_of strict marker.Null = 0
payload_of strict marker.Reserved = never
payload_of strict marker.False = 0
payload_of strict marker.True = 0
payload_of strict marker.Bin8 = never
payload_of strict marker.Bin16 = never
payload_of strict marker.Bin32 = never
payload_of strict marker.Ext8 = never
payload_of strict marker.Ext16 = never
payload_of strict marker.Ext32 = never
payload_of strict marker.F32 = 4
payload_of strict marker.F64 = 8
payload_of strict marker.U8 = unless strict 1
payload_of strict marker.U16 = unless strict 2
payload_of strict marker.U32 = unless strict 4
payload_of strict marker.U64 = unless strict 8
payload_of strict marker.I8 = unless strict 1
payload_of strict marker.I16 = unless strict 2
payload_of strict marker.I32 = unless strict 4
payload_of strict marker.I64 = unless strict 8
payload_of strict marker.FixExt1 = 2
payload_of strict marker.FixExt2 = 3
payload_of strict marker.FixExt4 = 5
payload_of strict marker.FixExt8 = 9
payload_of strict marker.FixExt16 = 17
payload_of strict marker.Str8 = never
payload_of strict marker.Str16 = never
payload_of strict marker.Str32 = never
payload_of strict marker.Array16 = never
payload_of strict marker.Array32 = never
payload_of strict marker.Map16 = never
payload_of strict marker.Map32 = never
payload_of strict (marker.FixNeg z) = 0

-- ---- the canonical head begins with these

module _ (strict : Bool) where
  first_pos : (n : ℕ) → Begins strict (marker.FixPos n) (Whole (pos (n % 0x80)))
  unfolding byte_of canon_head
  first_pos n = λ _. let l = lt-ltb (n % 0x80) 128 (omega arith) in rw l refl

  first_str : (n : ℕ) → Begins strict (marker.FixStr n) (Text (n % 0x20))
  unfolding byte_of canon_head
  first_str n = λ _. let l = lt-ltb (n % 0x20) 32 (omega arith) in rw l refl

  first_neg : (z : ℤ) → Begins strict (marker.FixNeg z) (Whole (negsuc (0x1f - cast_unsigned w8 z % 0x20)))
  unfolding byte_of canon_head
  first_neg z = λ _. let l = lt-ltb (0x1f - cast_unsigned w8 z % 0x20) 32 (omega arith) in rw l (omega arith)

may_be : (strict : Bool) (m : Marker) (n : ℕ) → Fixes false m n → unless strict n < never → Fixes strict m (unless strict n)
may_be true m n f l = absurd (omega (arith, l))
may_be false m n f l = f

not_strict : (b : ℕ) (a : List ℕ) → false ≡ true → Opens b a
not_strict b a e = absurd cc

number : (m : Marker) (w : Width) (f : ℕ → Head) → ((s : List ℕ) → head_after m s ≡ take_map f (take_number w s)) → ((n : ℕ) → content_len (f n) ≡ 0)
    → ((n : ℕ) → is_leaf (f n) ≡ true) → Fixes false m (byte_len w)
number m w f e c n = wide false m w f e c n (λ k. not_strict (byte_of m) (canon_head (f k)))

unsigned : (strict : Bool) (m : Marker) (w : Width) → ((s : List ℕ) → head_after m s ≡ take_map (λ n. Whole (pos n)) (take_number w s))
    → unless strict (byte_len w) < never → Fixes strict m (unless strict (byte_len w))
unsigned strict m w e l = may_be strict m (byte_len w) (number m w (λ n. Whole (pos n)) e (λ n. refl) (λ n. refl)) l

signed : (strict : Bool) (m : Marker) (w : Width) → ((s : List ℕ) → head_after m s ≡ take_map (λ n. Whole (cast_signed w n)) (take_number w s))
    → unless strict (byte_len w) < never → Fixes strict m (unless strict (byte_len w))
signed strict m w e l = may_be strict m (byte_len w) (number m w (λ n. Whole (cast_signed w n)) e (λ n. refl) (λ n. refl)) l

fixes : (strict : Bool) (m : Marker) → payload_of strict m < never → Fixes strict m (payload_of strict m)
unfolding head_after byte_of canon_head
fixes strict (marker.FixPos n) l = alone strict (marker.FixPos n) (Whole (pos (n % 0x80))) 0 (λ s. refl) refl refl (first_pos strict n)
fixes strict (marker.FixMap n) l = absurd (omega (arith, l))
fixes strict (marker.FixArray n) l = absurd (omega (arith, l))
fixes strict (marker.FixStr n) l = alone strict (marker.FixStr n) (Text (n % 0x20)) (n % 0x20) (λ s. refl) refl refl (first_str strict n)
fixes strict marker.Null l = alone strict marker.Null Nil 0 (λ s. refl) refl refl (λ _. refl)
fixes strict marker.Reserved l = absurd (omega (arith, l))
fixes strict marker.False l = alone strict marker.False (Truth false) 0 (λ s. refl) refl refl (λ _. refl)
fixes strict marker.True l = alone strict marker.True (Truth true) 0 (λ s. refl) refl refl (λ _. refl)
fixes strict marker.Bin8 l = absurd (omega (arith, l))
fixes strict marker.Bin16 l = absurd (omega (arith, l))
fixes strict marker.Bin32 l = absurd (omega (arith, l))
fixes strict marker.Ext8 l = absurd (omega (arith, l))
fixes strict marker.Ext16 l = absurd (omega (arith, l))
fixes strict marker.Ext32 l = absurd (omega (arith, l))
fixes strict marker.F32 l = wide strict marker.F32 w32 F32Bits (λ s. refl) (λ n. refl) (λ n. refl) (λ n _. refl)
fixes strict marker.F64 l = wide strict marker.F64 w64 F64Bits (λ s. refl) (λ n. refl) (λ n. refl) (λ n _. refl)
fixes strict marker.U8 l = unsigned strict marker.U8 w8 (λ s. refl) l
fixes strict marker.U16 l = unsigned strict marker.U16 w16 (λ s. refl) l
fixes strict marker.U32 l = unsigned strict marker.U32 w32 (λ s. refl) l
fixes strict marker.U64 l = unsigned strict marker.U64 w64 (λ s. refl) l
fixes strict marker.I8 l = signed strict marker.I8 w8 (λ s. refl) l
fixes strict marker.I16 l = signed strict marker.I16 w16 (λ s. refl) l
fixes strict marker.I32 l = signed strict marker.I32 w32 (λ s. refl) l
fixes strict marker.I64 l = signed strict marker.I64 w64 (λ s. refl) l
fixes strict marker.FixExt1 l = tagged strict marker.FixExt1 1 (λ s. refl) (λ t _. refl)
fixes strict marker.FixExt2 l = tagged strict marker.FixExt2 2 (λ s. refl) (λ t _. refl)
fixes strict marker.FixExt4 l = tagged strict marker.FixExt4 4 (λ s. refl) (λ t _. refl)
fixes strict marker.FixExt8 l = tagged strict marker.FixExt8 8 (λ s. refl) (λ t _. refl)
fixes strict marker.FixExt16 l = tagged strict marker.FixExt16 16 (λ s. refl) (λ t _. refl)
fixes strict marker.Str8 l = absurd (omega (arith, l))
fixes strict marker.Str16 l = absurd (omega (arith, l))
fixes strict marker.Str32 l = absurd (omega (arith, l))
fixes strict marker.Array16 l = absurd (omega (arith, l))
fixes strict marker.Array32 l = absurd (omega (arith, l))
fixes strict marker.Map16 l = absurd (omega (arith, l))
fixes strict marker.Map32 l = absurd (omega (arith, l))
fixes strict (marker.FixNeg z) l = alone strict (marker.FixNeg z) (Whole (negsuc (0x1f - cast_unsigned w8 z % 0x20))) 0 (λ s. refl) refl refl (first_neg strict z)

-- ---- the table

-- each two numbers of a table are those of their first byte, for the bytes from one on
abbrev pub says : ℕ → ℕ → List ℕ → Bool
says zero k table = true
says (suc n) k (a ∷ b ∷ table) = ((a == payload_of false (marker_of k)) && (b == payload_of true (marker_of k))) && says n (suc k) table
says (suc n) k _ = false

pub record Row (table : List ℕ) (j m : ℕ) : Type 0 where
  pub any : get_or table (2 * m) 0 ≡ payload_of false (marker_of j)
  pub strict : get_or table (2 * m + 1) 0 ≡ payload_of true (marker_of j)

row_after : (a b : ℕ) (table : List ℕ) (j m : ℕ) → Row table j m → Row (a ∷ b ∷ table) j (suc m)
row_after a b table j m r =
    let at : (x y : ℕ) → suc (suc x) ≡ y → get_or (a ∷ b ∷ table) y 0 ≡ get_or table x 0 = λ x y e. ap (λ z. get_or (a ∷ b ∷ table) z 0) (sym e) in
    record {
      any = at (2 * m) (2 * suc m) (omega arith) ∙ r.any;
      strict = at (2 * m + 1) (2 * suc m + 1) (omega arith) ∙ r.strict;
    }

row_says : (n m k j : ℕ) (table : List ℕ) → j ≡ m + k → m < n → says n k table ≡ true → Row table j m
row_says zero m k j table i l e = absurd (omega arith)
row_says (suc n) m k j [] i l e = absurd cc
row_says (suc n) m k j (a ∷ []) i l e = absurd cc
row_says (suc n) zero k j (a ∷ b ∷ table) i l e =
    let here : j ≡ k = omega arith in
    let both : Bool = (a == payload_of false (marker_of k)) && (b == payload_of true (marker_of k)) in
    let u = and_parts both (says n (suc k) table) e in
    let v = and_parts (a == payload_of false (marker_of k)) (b == payload_of true (marker_of k)) u.0 in
    rw here (record { any = eqb-true a (payload_of false (marker_of k)) v.0; strict = eqb-true b (payload_of true (marker_of k)) v.1 })
row_says (suc n) (suc m) k j (a ∷ b ∷ table) i l e =
    let both : Bool = (a == payload_of false (marker_of k)) && (b == payload_of true (marker_of k)) in
    let u = and_parts both (says n (suc k) table) e in
    row_after a b table j m (row_says n m (suc k) j table (omega arith) (omega arith) u.1)

pub row_of : (table : List ℕ) → says 256 0 table ≡ true → (b : ℕ) → b < 256 → Row table b b
row_of table e b l = row_says 256 b 0 b table (omega arith) l e

tells_is : (strict : Bool) (b payload : ℕ) → b < 256 → payload ≡ payload_of strict (marker_of b) → Tells strict b payload
tells_is strict b payload s e = λ l t k i.
    subst (λ z. SpellsLeaf strict (z ∷ t)) (byte_of-marker_of b s) (fixes strict (marker_of b) (omega (arith, e, l)) t (k ∙ e) i)

module _ (table : List ℕ) (e : says 256 0 table ≡ true) (b : ℕ) (strict : Bool) where
  pub tells_strict : strict ≡ true → b < 256 → Tells strict b (get_or table (2 * b + 1) 0)
  tells_strict q s = rw q (tells_is true b (get_or table (2 * b + 1) 0) s (row_of table e b s).strict)

  pub tells_any : strict ≡ false → b < 256 → Tells strict b (get_or table (2 * b) 0)
  tells_any q s = rw q (tells_is false b (get_or table (2 * b) 0) s (row_of table e b s).any)

-- ---- leaves one after another

pub passes_none : (strict : Bool) (n : ℕ) → PassesLeaves strict n n []
passes_none strict n = λ lends top room counts s. leads_none strict (UnpassedFor lends top strict) room (n ∷ counts)

-- one more
passes_by : (strict : Bool) (passed x : List ℕ) (n w : ℕ) → PassesLeaves strict n w passed → 0 < w → SpellsLeaf strict x
    → PassesLeaves strict n (w - 1) (passed ++ x)
passes_by strict passed x n w p some leaf =
    let one : suc (w - 1) ≡ w = omega (arith, some) in
    λ lends top room counts s.
    let wrong : ℕ → Error → List ℕ → Type 0 = UnpassedFor lends top strict in
    let l = leads_message strict wrong room (w - 1) counts leaf.tree x leaf.spelled (omega (arith, leaf.flat, s)) in
    leads_then strict wrong room (n ∷ counts) room (w ∷ counts) room ((w - 1) ∷ counts) passed x (p lends top room counts s)
    (subst (λ z. Leads strict wrong room (z ∷ counts) room ((w - 1) ∷ counts) x) one l)

taken_more : (bytes : List ℕ) (at size : ℕ) → at ≤ length bytes → size ≤ length (drop at bytes)
    → take (at + size) bytes ≡ take at bytes ++ take size (drop at bytes)
taken_more bytes at size a l =
    let x : List ℕ = take size (drop at bytes) in
    let more : List ℕ = drop size (drop at bytes) in
    let whole : bytes ≡ (take at bytes ++ x) ++ more = sym (take-append-drop at bytes)
    ∙ ap (λ z. take at bytes ++ z) (sym (take-append-drop size (drop at bytes))) ∙ sym (append_assoc (take at bytes) x more) in
    let long : length (take at bytes ++ x) ≡ at + size = omega (
      arith,
      length-append (take at bytes) x,
      length-take-le at bytes a,
      length-take-le size (drop at bytes) l,
    ) in
    ap (take (at + size)) whole ∙ take_at (take at bytes ++ x) more (at + size) long

-- the bytes from a place on
abbrev pub from_place : List ℕ → ℕ → List ℕ
from_place bytes at = take (length bytes - at) (drop at bytes)

pub from_place_is : (bytes : List ℕ) (at : ℕ) → from_place bytes at ≡ drop at bytes
from_place_is bytes at =
    let rest : List ℕ = drop at bytes in
    let n : ℕ = length bytes - at in
    ap (take n) (sym (append-nil rest)) ∙ take_at rest [] n (length-drop at bytes)

-- one that begins them
pub passes_leaf : (strict : Bool) (bytes : List ℕ) (at n w size : ℕ) → PassesLeaves strict n w (take at bytes) → 0 < w → at ≤ length bytes
    → size ≤ length (from_place bytes at) → SpellsLeaf strict (take size (from_place bytes at)) → PassesLeaves strict n (w - 1) (take (at + size) bytes)
passes_leaf strict bytes at n w size p some a l leaf =
    let same : from_place bytes at ≡ drop at bytes = from_place_is bytes at in
    let x : SpellsLeaf strict (take size (drop at bytes)) = subst (λ z. SpellsLeaf strict (take size z)) same leaf in
    let fits : size ≤ length (drop at bytes) = subst (λ z. size ≤ length z) same l in
    subst (PassesLeaves strict n (w - 1)) (sym (taken_more bytes at size a fits)) (passes_by strict (take at bytes) (take size (drop at bytes)) n w p some x)

-- one that the table tells the length of
pub passes_more : (strict : Bool) (bytes : List ℕ) (at n w b payload : ℕ) → PassesLeaves strict n w (take at bytes) → 0 < w → b ≡ get_or bytes at 0
    → Tells strict b payload → payload < 0xffffffff → at + (1 + payload) ≤ length bytes → ((i : ℕ) → get_or bytes i 0 < 256)
    → PassesLeaves strict n (w - 1) (take (at + (1 + payload)) bytes)
passes_more strict bytes at n w b payload p some is tells few long small =
    let rest : List ℕ = drop (suc at) bytes in
    let t : List ℕ = take payload rest in
    let more : List ℕ = drop payload rest in
    let here : drop at bytes ≡ b ∷ rest = drop-cons bytes at 0 (omega (arith, long)) ∙ ap (λ z. z ∷ rest) (sym is) in
    let whole : bytes ≡ (take at bytes ++ (b ∷ t)) ++ more = sym (take-append-drop at bytes) ∙ ap (λ z. take at bytes ++ z)
    (here ∙ ap (λ z. b ∷ z) (sym (take-append-drop payload rest))) ∙ sym (append_assoc (take at bytes) (b ∷ t) more) in
    let t_long : length t ≡ payload = length-take-le payload rest (omega (arith, long, length-drop (suc at) bytes)) in
    let front_long : length (take at bytes ++ (b ∷ t)) ≡ at + (1 + payload) = omega (
      arith,
      length-append (take at bytes) (b ∷ t),
      t_long,
      length-take-le at bytes (omega (arith, long)),
    ) in
    let taken : take (at + (1 + payload)) bytes ≡ take at bytes ++ (b ∷ t) = ap (take (at + (1 + payload))) whole
    ∙ take_at (take at bytes ++ (b ∷ t)) more (at + (1 + payload)) front_long in
    let own : IsBytes t = (bytes_parts t more (subst IsBytes (sym (take-append-drop payload rest))
    (bytes_parts (take (suc at) bytes) rest (subst IsBytes (sym (take-append-drop (suc at) bytes)) (bytes_from bytes small))).1)).0 in
    let leaf : SpellsLeaf strict (b ∷ t) = tells few t t_long own in
    subst (PassesLeaves strict n (w - 1)) (sym taken) (passes_by strict (take at bytes) (b ∷ t) n w p some leaf)

-- ---- a leaf by its head

pub leaf_held : (strict : Bool) (len : ℕ) (h : Head) (xs : List ℕ) → is_leaf h ≡ true → HeadIn strict len h xs → LeafHeadIn strict len (content_len h) xs
leaf_held strict len h xs l s = record { head = h; starts = s; is_leaf = record { leaf = no_parts h l; long = refl } }

pub leaf_whole : (strict : Bool) (len payload : ℕ) (xs : List ℕ) → LeafHeadIn strict len payload xs → ((i : ℕ) → get_or xs i 0 < 256)
    → len + payload ≤ length xs → SpellsLeaf strict (take (len + payload) xs)
leaf_whole strict len payload xs l small fits =
    let s = l.starts.starts in
    let a : List ℕ = s.byte ∷ s.following in
    let t : List ℕ = take payload s.rest in
    let more : List ℕ = drop payload s.rest in
    let long = l.starts.long in
    let t_long : length t ≡ payload = length-take-le payload s.rest (omega (arith, long, ap length s.front, length-append a s.rest, fits)) in
    let whole : xs ≡ (a ++ t) ++ more = s.front ∙ ap (λ z. a ++ z) (sym (take-append-drop payload s.rest)) ∙ sym (append_assoc a t more) in
    let taken : take (len + payload) xs ≡ a ++ t = ap (take (len + payload)) whole
    ∙ take_at (a ++ t) more (len + payload) (omega (arith, length-append a t, long, t_long)) in
    let own : IsBytes t = (bytes_parts a t (bytes_parts (a ++ t) more (subst IsBytes whole (bytes_from xs small))).0).1 in
    record {
      tree = leaf_of l.head t;
      spelled = subst (λ z. SpellsAs strict z (leaf_of l.head t)) (sym taken) (leaf_spelled strict l.head a t l.is_leaf.leaf s.is_head (t_long ∙ sym l.is_leaf.long) own);
      flat = leaf_flat l.head t;
    }

record Only (strict : Bool) (room : ℕ) (bytes : List ℕ) : Type 0 where
  pub tree : Msg
  pub spelled : SpellsAs strict bytes tree
  pub fits : depth tree < room

only : (strict : Bool) (room : ℕ) (bytes : List ℕ) (ts : Msgs) → count ts ≡ 1 → SpellsRow (SpellsAs strict) bytes ts → depth_all ts < room → Only strict room bytes
only strict room bytes no_items c s d = absurd (omega (arith, c))
only strict room bytes (item m no_items) c s d = record {
  tree = m;
  spelled = subst (λ z. SpellsAs strict z m) (sym (s.is_whole ∙ ap (λ z. s.first ++ z) s.is_second ∙ append-nil s.first)) s.is_first;
  fits = omega (arith, d);
}
only strict room bytes (item m (item k ms)) c s d = absurd (omega (arith, c))

-- ---- leaves of a reader

module _ {R C : Type 0} (g : Ghosts R) where
  pub skips_none : (n : ℕ) (d : Deserializer R C) → SkipsLeaves g n n d d
  skips_none n d = record {
    bytes = [];
    takes = Consumes-nil (left g d);
    passes = passes_none d.strict n;
    fewer = omega arith;
    failed = refl;
    kept = refl;
    sound = refl;
    stays = stays_refl g d;
  }

  pub skips_some : (n j len : ℕ) (front : List ℕ) (old new : Deserializer R C) → old.kept ≡ Nothing → len ≤ length front → j ≤ n
      → PassesLeaves old.strict n j (take len front) → IsFront front (g.ahead old.reader) → Skips len (g.ahead old.reader) (g.ahead new.reader)
      → new.failed ≡ old.failed → new.kept ≡ old.kept → faults_of g new ≡ faults_of g old → Stays g old new → SkipsLeaves g n j old new
  skips_some n j len front old new clean l few p f s failed kept sound stays = record {
    bytes = take len front;
    takes = rw (bare g old clean, bare g new (kept ∙ clean))
        (bytes_consumed len (take len front) front (g.ahead old.reader) (g.ahead new.reader) f (drop len front, sym (take-append-drop len front))
        (length-take-le len front l) s);
    passes = p;
    fewer = few;
    failed = failed;
    kept = kept;
    sound = sound;
    stays = stays;
  }

  -- the next message was such a leaf
  pub leaf_skipped : (old new : Deserializer R C) → old.failed ≡ false → old.kept ≡ Nothing → SkipsLeaves g 1 0 old new → Lawful g any_tree old new (Ok tt)
  leaf_skipped old new fresh clean k =
      let room : ℕ = room_of old in
      let some : 0 < room = omega arith in
      let l = k.passes false room room [] some in
      let s : SpellsOpen old.strict room (1 ∷ []) (k.bytes ++ []) = l.closes []
      (record { first = []; second = []; is_first = record { trees = no_items; spelled = refl; many = refl; fits = some }; is_second = refl; is_whole = refl }) in
      let m = s.is_first in
      let whole : s.first ≡ k.bytes = sym (append-nil s.first) ∙ ap (λ t. s.first ++ t) (sym s.is_second) ∙ sym s.is_whole ∙ append-nil k.bytes in
      let o : Only old.strict room k.bytes = only old.strict room k.bytes m.trees m.many (subst (λ t. SpellsRow (SpellsAs old.strict) t m.trees) whole m.spelled)
      m.fits in
      record {
        ok = record {
          bytes = k.bytes;
          tree = o.tree;
          takes = k.takes;
          goes_on = record { more = k.bytes; whole = rw clean refl };
          spelled = o.spelled;
          fits = o.fits;
          value = tt;
        };
        ready = k.failed ∙ fresh;
        clean = k.kept ∙ clean;
        sound = k.sound;
        err = λ _. tt;
        failed = tt;
        before = λ b. absurd (let o = fresh in cc);
        stays = k.stays;
      }
