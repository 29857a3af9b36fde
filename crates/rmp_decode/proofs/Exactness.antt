-- Which error comes where one head is wanted.
use Rattle.std.proofs.Common.{◌≡◌, ◌∙◌, sym, ap, subst, refl, ℕ, pos, negsuc, ◌<◌, ◌≤◌, arith, List, [], ◌∷◌, ◌++◌, Option, None, Some, IfSome}
use Rattle.std.proofs.Common.{nat_lt, nat_eq, ◌⊎◌, Bool, true, false}
use Rattle.std.proofs.Common.{inl, inr}
use Rattle.std.proofs.lemmas.Bool.{cases_lt, lt-ltb, le-ltb}
use Rattle.std.specs.Io.KnownBytes.{Consumes, prepend_known}
use Rattle.std.specs.Int.{w8, to_be_bytes}
use Rattle.rmp_wire.specs.declared.error.ValueReadError.{ValueReadError}
use Rattle.rmp_wire.specs.declared.error.ValueReadError.TheVariants as wire
use Rattle.rmp_wire.specs.declared.head.Head.{Head}
use Rattle.rmp_wire.specs.declared.head.Head.TheVariants.{Nil, Truth, Whole, F32Bits, F64Bits, Text, Bin, Array, Map, Ext}
use Rattle.rmp_wire.specs.declared.marker.Marker.{Marker}
use Rattle.rmp_wire.specs.declared.marker.Marker.TheVariants as marker
use Rattle.rmp_wire.specs.Canonical.{heads_of}
use Rattle.rmp_wire.specs.Heads.{IsHead, canon_head, fits_head}
use Rattle.rmp_wire.specs.Reading.{NoHead, FailsNext}
use Rattle.rmp_wire.specs.Taking.{byte_of, marker_of}
use Rattle.rmp_wire.proofs.Heads.{heads_differ, marker_pos}
use Rattle.rmp_wire.proofs.Strict.{any_width, canon_in, heads_differ_as}
use Rattle.rmp_decode.specs.Exact.{BeginsWith, BeginsWithNone, OtherWidth, Ends, TellsFault, FaultTold, UnlessFault, RefusesExactly, RefusesBy, EndsExactly}
use Rattle.rmp_decode.specs.Law.{LeavesNone}
use Rattle.rmp_decode.specs.ReadErrors.{error_of}
use Rattle.rmp_decode.specs.declared.error.Error.{Error}
use Rattle.rmp_decode.specs.declared.error.Error.TheVariants.{TypeMismatch, NotCanonical}

-- ---- a head that the bytes begin with

pub starts_known : (s : Bool) (m : Marker) (h : Head) (b : ℕ) (following : List ℕ) (known k : Option (List ℕ)) → Consumes known k (b ∷ following)
    → m ≡ marker_of b → heads_of s h (b ∷ following) → IfSome known (BeginsWith s m h)
starts_known s m h b following None k c e i = tt
starts_known s m h b following (Some xs) None c e i = absurd c
starts_known s m h b following (Some xs) (Some ys) c e i = record { byte = b; following = following; rest = ys; front = c; is_marker = e; is_head = i }

-- at most one does
pub start_once : (strict : Bool) (m n : Marker) (h k : Head) (xs : List ℕ) → BeginsWith strict m h xs → BeginsWith strict n k xs → (m ≡ n) × (h ≡ k)
start_once strict m n h k xs s t =
    let u = heads_differ_as strict h k (s.byte ∷ s.following) (t.byte ∷ t.following) s.rest t.rest s.is_head t.is_head (sym s.front ∙ t.front) in
    let bytes = u.1 in
    let first : s.byte ≡ t.byte = cc in
    (s.is_marker ∙ ap marker_of first ∙ sym t.is_marker, u.0)

-- the canonical head of a byte
record ByteHead (m : Marker) (head : List ℕ) : Type 0 where
  pub byte : ℕ
  pub following : List ℕ
  pub is : head ≡ byte ∷ following
  pub is_marker : m ≡ marker_of byte

byte_head : (n : ℕ) → n < 256 → (m : Marker) → (n < 128 → m ≡ marker.FixPos n) → (128 ≤ n → m ≡ marker.U8) → ByteHead m (canon_head (Whole (pos n)))
unfolding canon_head marker_of
byte_head n l m small wide = elim (cases_lt n 128) [
  | inl lt ↦ let yes : nat_lt n 128 ≡ true = lt-ltb n 128 lt in record { byte = n; following = []; is = rw yes refl; is_marker = small lt ∙ sym (marker_pos n lt) }
  | inr ge ↦
      let no : nat_lt n 128 ≡ false = le-ltb n 128 ge in
      let yes : nat_lt n 256 ≡ true = lt-ltb n 256 l in
      record { byte = 0xcc; following = to_be_bytes w8 n; is = rw (no, yes) refl; is_marker = wide ge }
]

pub number_starts : (s : Bool) (n : ℕ) → n < 256 → fits_head (Whole (pos n)) → (m : Marker) → (n < 128 → m ≡ marker.FixPos n) → (128 ≤ n → m ≡ marker.U8)
    → (known : Option (List ℕ)) → IfSome (prepend_known (canon_head (Whole (pos n))) known) (BeginsWith s m (Whole (pos n)))
number_starts s n l f m small wide None = tt
number_starts s n l f m small wide (Some ys) =
    let b = byte_head n l m small wide in
    record {
      byte = b.byte;
      following = b.following;
      rest = ys;
      front = ap (λ z. z ++ ys) b.is;
      is_marker = b.is_marker;
      is_head = subst
          (heads_of s (Whole (pos n))) b.is (canon_in s (Whole (pos n)) f);
    }

-- ---- the error

-- the source had no fault
-- there was no fault
pub none_told : (before after : ℕ) (e : Error) → after ≡ before → TellsFault before after e
none_told before after e same = record { counts = inl same; told = λ n. absurd (n same) }

pub no_fault : {P : Type 0} (before after : ℕ) (e : Error) → after ≡ before → P → UnlessFault before after e P
no_fault before after e same p = (λ _. p, none_told before after e same)

-- it had a fault or none
pub fault_or : {P : Type 0} (before after : ℕ) (e : Error) → UnlessFault before after e P → FaultTold before after e ⊎ P
fault_or {P} before after e u = go (nat_eq after before) refl
  where
    go : (b : Bool) → nat_eq after before ≡ b → FaultTold before after e ⊎ P
    go true q = inr (u.0 (grind (arith, q)))
    go false q = inl (λ z. absurd (grind (arith, q, z)), u.1)

pub exact_head : (s : Bool) (table : Marker → Head → Error) (before after : ℕ) (known : Option (List ℕ)) (m : Marker) (h : Head) (e : Error)
    → after ≡ before → IfSome known (BeginsWith s m h) → e ≡ table m h → RefusesExactly s table before after known e
unfolding RefusesExactly
exact_head w table before after None m h e f s q = no_fault before after e f tt
exact_head w table before after (Some xs) m h e f s q = no_fault before after e f (record {
  starts = λ n k t. let u = start_once _ n m k h xs t s in q ∙ ap (λ z. table z h) (sym u.0) ∙ ap (table n) (sym u.1);
  ends = λ none. absurd (none m h s);
})

pub exact_none : (s : Bool) (table : Marker → Head → Error) (before after : ℕ) (known : Option (List ℕ)) (e : Error) → EndsExactly s before after known e
    → RefusesExactly s table before after known e
unfolding RefusesExactly EndsExactly
exact_none w table before after None e s = (λ _. tt, s.1)
exact_none w table before after (Some xs) e s = (λ same. record { starts = λ m h t. absurd ((s.0 same).0 m h t); ends = λ _. (s.0 same).1 }, s.1)

pub by_head : (s : Bool) (table : Marker → Head → Error → Type 0) (before after : ℕ) (known : Option (List ℕ)) (m : Marker) (h : Head) (e : Error)
    → after ≡ before → IfSome known (BeginsWith s m h) → table m h e → RefusesBy s table before after known e
unfolding RefusesBy
by_head w table before after None m h e f s q = no_fault before after e f tt
by_head w table before after (Some xs) m h e f s q = no_fault before after e f (record {
  starts = λ n k t. let u = start_once _ n m k h xs t s in subst (λ z. table n z e) (sym u.1) (subst (λ z. table z h e) (sym u.0) q);
  ends = λ none. absurd (none m h s);
})

pub by_none : (s : Bool) (table : Marker → Head → Error → Type 0) (before after : ℕ) (known : Option (List ℕ)) (e : Error)
    → EndsExactly s before after known e → RefusesBy s table before after known e
unfolding RefusesBy EndsExactly
by_none w table before after None e s = (λ _. tt, s.1)
by_none w table before after (Some xs) e s = (λ same. record { starts = λ m h t. absurd ((s.0 same).0 m h t); ends = λ _. (s.0 same).1 }, s.1)

-- ---- no head

pub reserved_byte : (m : Marker) → byte_of m ≡ 0xc1 → m ≡ marker.Reserved
unfolding byte_of
reserved_byte (marker.FixPos n) e = absurd (omega arith)
reserved_byte (marker.FixMap n) e = absurd (omega arith)
reserved_byte (marker.FixArray n) e = absurd (omega arith)
reserved_byte (marker.FixStr n) e = absurd (omega arith)
reserved_byte (marker.FixNeg z) e = absurd (omega arith)
reserved_byte marker.Null e = absurd (omega arith)
reserved_byte marker.Reserved e = refl
reserved_byte marker.False e = absurd (omega arith)
reserved_byte marker.True e = absurd (omega arith)
reserved_byte marker.Bin8 e = absurd (omega arith)
reserved_byte marker.Bin16 e = absurd (omega arith)
reserved_byte marker.Bin32 e = absurd (omega arith)
reserved_byte marker.Ext8 e = absurd (omega arith)
reserved_byte marker.Ext16 e = absurd (omega arith)
reserved_byte marker.Ext32 e = absurd (omega arith)
reserved_byte marker.F32 e = absurd (omega arith)
reserved_byte marker.F64 e = absurd (omega arith)
reserved_byte marker.U8 e = absurd (omega arith)
reserved_byte marker.U16 e = absurd (omega arith)
reserved_byte marker.U32 e = absurd (omega arith)
reserved_byte marker.U64 e = absurd (omega arith)
reserved_byte marker.I8 e = absurd (omega arith)
reserved_byte marker.I16 e = absurd (omega arith)
reserved_byte marker.I32 e = absurd (omega arith)
reserved_byte marker.I64 e = absurd (omega arith)
reserved_byte marker.FixExt1 e = absurd (omega arith)
reserved_byte marker.FixExt2 e = absurd (omega arith)
reserved_byte marker.FixExt4 e = absurd (omega arith)
reserved_byte marker.FixExt8 e = absurd (omega arith)
reserved_byte marker.FixExt16 e = absurd (omega arith)
reserved_byte marker.Str8 e = absurd (omega arith)
reserved_byte marker.Str16 e = absurd (omega arith)
reserved_byte marker.Str32 e = absurd (omega arith)
reserved_byte marker.Array16 e = absurd (omega arith)
reserved_byte marker.Array32 e = absurd (omega arith)
reserved_byte marker.Map16 e = absurd (omega arith)
reserved_byte marker.Map32 e = absurd (omega arith)

not_begun : (xs : List ℕ) (b : ℕ) (part : List ℕ) (new : Option (List ℕ)) → xs ≡ [] → Consumes (Some xs) new (b ∷ part) → ⊥
not_begun xs b part None e c = c
not_begun xs b part (Some ys) e c = let u : ◌≡◌ {A = List ℕ} [] (b ∷ (part ++ ys)) = sym e ∙ c in absurd (cc)

same_first : (a b : ℕ) (xs part : List ℕ) (new : Option (List ℕ)) → Consumes (Some (a ∷ xs)) new (b ∷ part) → a ≡ b
same_first a b xs part None c = absurd c
same_first a b xs part (Some ys) c = let u : a ∷ xs ≡ b ∷ (part ++ ys) = c in cc

none_starts : (strict : Bool) (xs : List ℕ) → NoHead (Some xs) → BeginsWithNone strict xs
none_starts strict xs n m h s = n h (s.byte ∷ s.following) s.rest s.front (any_width strict h (s.byte ∷ s.following) s.is_head)

ends_known : (xs : List ℕ) (new : Option (List ℕ)) (before after : ℕ) (e : ValueReadError) → after ≡ before → FailsNext (Some xs) new before after e
    → BeginsWithNone false xs → Ends xs (error_of e)
unfolding byte_of
ends_known [] new before after (wire.InvalidMarkerRead f) q r none = r.leaves.end q
ends_known [] new before after (wire.InvalidDataRead f) q r none = let t = r.leaves.0 in absurd (not_begun [] (byte_of t.marker) t.part new refl t.taken)
ends_known [] new before after (wire.TypeMismatch k) q r none = absurd (not_begun [] (byte_of marker.Reserved) [] new refl r.leaves.1)
ends_known (b ∷ xs) new before after (wire.InvalidMarkerRead f) q r none = let u : ◌≡◌ {A = List ℕ} (b ∷ xs) [] = r.leaves.none_ahead q in absurd (cc)
ends_known (b ∷ xs) new before after (wire.InvalidDataRead f) q r none =
    let t = r.leaves.0 in
    let same = same_first b (byte_of t.marker) xs t.part new t.taken in
    (λ e. absurd (t.opens (reserved_byte t.marker (sym same ∙ e))), λ _. inl (none, r.leaves.1 q))
ends_known (b ∷ xs) new before after (wire.TypeMismatch k) q r none =
    let same : b ≡ 0xc1 = same_first b 0xc1 xs [] new r.leaves.1 in
    (λ _. ap TypeMismatch r.leaves.0, λ n. absurd (n same))

-- the byte c1 is no fault of the source
fault_told : (known new : Option (List ℕ)) (before after : ℕ) (e : ValueReadError) → FailsNext known new before after e
    → TellsFault before after (error_of e)
fault_told known new before after (wire.InvalidMarkerRead f) r = record { counts = r.counts; told = λ _. tt }
fault_told known new before after (wire.InvalidDataRead f) r = record { counts = r.counts; told = λ _. tt }
fault_told known new before after (wire.TypeMismatch k) r = none_told before after (error_of (wire.TypeMismatch k)) r.leaves.2

pub ends_none : (s : Bool) (known new : Option (List ℕ)) (before after : ℕ) (e : ValueReadError) → FailsNext known new before after e
    → EndsExactly s before after known (error_of e)
unfolding EndsExactly
ends_none s None new before after e r = (λ _. tt, fault_told None new before after e r)
ends_none s (Some xs) new before after e r = (
  λ q. (none_starts s xs (r.none q), ends_known xs new before after e q r (none_starts false xs (r.none q))),
  fault_told (Some xs) new before after e r,
)

-- ---- what is left where no head is there

no_wide_head : (xs : List ℕ) → NoHead (Some xs) → OtherWidth xs → ⊥
no_wide_head xs n s = none_starts false xs n s.marker s.head s.starts

pub leaves_where_none : (known new : Option (List ℕ)) (before after : ℕ) (e : ValueReadError) → FailsNext known new before after e → after ≡ before
    → IfSome known (LeavesNone new)
unfolding byte_of
leaves_where_none None new before after e r q = tt
leaves_where_none (Some xs) None before after (wire.InvalidMarkerRead f) r q = absurd r.leaves.kept
leaves_where_none (Some xs) None before after (wire.InvalidDataRead f) r q = absurd r.leaves.0.taken
leaves_where_none (Some xs) None before after (wire.TypeMismatch k) r q = absurd r.leaves.1
leaves_where_none (Some xs) (Some ys) before after (wire.InvalidMarkerRead f) r q = record {
  bytes = [];
  taken = sym r.leaves.kept;
  reserved = λ rest e. let u : ◌≡◌ {A = List ℕ} [] (0xc1 ∷ rest) = sym (r.leaves.none_ahead q) ∙ e in absurd (cc);
  wide = λ s. absurd (no_wide_head xs (r.none q) s);
}
leaves_where_none (Some xs) (Some ys) before after (wire.InvalidDataRead f) r q =
    let t = r.leaves.0 in
    record {
      bytes = byte_of t.marker ∷ t.part;
      taken = t.taken;
      reserved = λ rest e. absurd (t.opens (reserved_byte t.marker
          (sym (same_first 0xc1 (byte_of t.marker) rest t.part (Some ys) (subst (λ z. Consumes (Some z) (Some ys) (byte_of t.marker ∷ t.part)) e t.taken)))));
      wide = λ s. absurd (no_wide_head xs (r.none q) s);
    }
leaves_where_none (Some xs) (Some ys) before after (wire.TypeMismatch k) r q = record {
  bytes = 0xc1 ∷ [];
  taken = r.leaves.1;
  reserved = λ rest e. let u : 0xc1 ∷ rest ≡ 0xc1 ∷ ys = sym e ∙ r.leaves.1 in cc;
  wide = λ s. absurd (no_wide_head xs (r.none q) s);
}

-- ---- a head that isn't canonical

-- no head begins with the byte c1
not_reserved : (h : Head) (b : ℕ) (x : List ℕ) → IsHead h (b ∷ x) → b ≡ 0xc1 → ⊥
unfolding IsHead
not_reserved Nil b x i e = grind arith
not_reserved (Truth false) b x i e = grind arith
not_reserved (Truth true) b x i e = grind arith
not_reserved (Whole (pos n)) b x i e = grind arith
not_reserved (Whole (negsuc n)) b x i e = grind arith
not_reserved (F32Bits n) b x i e = grind arith
not_reserved (F64Bits n) b x i e = grind arith
not_reserved (Text n) b x i e = grind arith
not_reserved (Bin n) b x i e = grind arith
not_reserved (Array n) b x i e = grind arith
not_reserved (Map n) b x i e = grind arith
not_reserved (Ext n tag) b x i e = grind arith

-- another head of some width is there, so none that is allowed does
pub wide_starts_none : (strict : Bool) (h : Head) (b : ℕ) (following xs ys : List ℕ) → xs ≡ (b ∷ following) ++ ys → IsHead h (b ∷ following)
    → (heads_of strict h (b ∷ following) → ⊥) → BeginsWithNone strict xs
wide_starts_none strict h b following xs ys c i n = λ m k s.
    let u = heads_differ k h (s.byte ∷ s.following) (b ∷ following) s.rest ys (any_width strict k (s.byte ∷ s.following) s.is_head) i (sym s.front ∙ c) in
    n (subst (λ z. heads_of strict z (b ∷ following)) u.0 (subst (heads_of strict k) u.1 s.is_head))

pub ends_wide : (s : Bool) (before after : ℕ) (known k : Option (List ℕ)) (h : Head) (b : ℕ) (following : List ℕ) → Consumes known k (b ∷ following)
    → IsHead h (b ∷ following) → (heads_of s h (b ∷ following) → ⊥) → after ≡ before → EndsExactly s before after known NotCanonical
unfolding EndsExactly
ends_wide s before after None k h b following c i n f = no_fault before after NotCanonical f tt
ends_wide s before after (Some xs) None h b following c i n f = absurd c
ends_wide s before after (Some xs) (Some ys) h b following c i n f = no_fault before after NotCanonical f (
  wide_starts_none s h b following xs ys c i n,
  subst (λ z. Ends z NotCanonical) (sym c) (
    λ e. absurd (not_reserved h b following i e),
    λ _. inr (
      record { marker = marker_of b; head = h; starts = record { byte = b; following = following; rest = ys; front = refl; is_marker = refl; is_head = i } },
      refl,
    ),
  ),
)

-- no more than it was consumed
pub leaves_wide : (known k : Option (List ℕ)) (h : Head) (b : ℕ) (following : List ℕ) → Consumes known k (b ∷ following) → IsHead h (b ∷ following)
    → IfSome known (LeavesNone k)
leaves_wide None k h b following c i = tt
leaves_wide (Some xs) None h b following c i = absurd c
leaves_wide (Some xs) (Some ys) h b following c i = record {
  bytes = b ∷ following;
  taken = c;
  reserved = λ rest e. absurd (not_reserved h b following i
      (sym (same_first 0xc1 b rest following (Some ys) (subst (λ z. Consumes (Some z) (Some ys) (b ∷ following)) e c))));
  wide = λ s.
      let t = s.starts in
      let u = heads_differ_as false s.head h (t.byte ∷ t.following) (b ∷ following) t.rest ys t.is_head i (sym t.front ∙ c) in
      ap (λ z. Some z) (sym u.2);
}

-- ---- a fault is told

pub exact_tells : (s : Bool) (table : Marker → Head → Error) (before after : ℕ) (known : Option (List ℕ)) (e : Error)
    → RefusesExactly s table before after known e → TellsFault before after e
unfolding RefusesExactly
exact_tells s table before after known e r = r.1
