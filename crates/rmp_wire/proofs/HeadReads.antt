-- What `read_head` leaves at each of its exits.
use Rattle.std.proofs.Common.{
  ◌≡◌,
  ◌∙◌,
  sym,
  ap,
  subst,
  ℕ,
  ◌+◌,
  ◌^◌,
  ◌<◌,
  List,
  [],
  ◌∷◌,
  ◌++◌,
  length,
  get_or,
  Result,
  Ok,
  Err,
  refl,
  arith,
  ℤ,
  pos,
  negsuc,
  inl,
  ◌-◌,
  ◌%◌,
  ◌-ℤ◌,
}
use Rattle.std.specs.Prelude.{FitsSigned}
use Rattle.std.specs.Int.{Width, w8, w16, w32, w64, w128, to_be_bytes, from_be_bytes, byte_len, cast_signed, cast_unsigned}
use Rattle.std.proofs.lemmas.Int.{ints, to_z-of_z}
use mir.Val.{bits, to_z, of_z}
use Rattle.std.specs.Io.KnownBytes.{Consumes}
use Rattle.std.proofs.KnownBytes.{Consumes-nil, Consumes-trans, Keeps-refl}
use Rattle.rmp_wire.specs.declared.source.Source.{Ghosts}
use Rattle.rmp_wire.specs.declared.error.ValueReadError.{ValueReadError}
use Rattle.rmp_wire.specs.declared.error.ValueReadError.TheVariants.{InvalidMarkerRead, InvalidDataRead, TypeMismatch}
use Rattle.rmp_wire.specs.declared.head.Head.{Head}
use Rattle.rmp_wire.specs.declared.head.Head.TheVariants.{Whole, Ext}
use Rattle.rmp_wire.specs.declared.marker.Marker.{Marker}
use Rattle.rmp_wire.specs.declared.marker.Marker.TheVariants.{Reserved, FixNeg}
use Rattle.rmp_wire.specs.Heads.{IsHead, tag_byte}
use Rattle.rmp_wire.specs.Reading.{ReadsHead, ReadsNumber, ReadsTag, FailsHead, FailsData}
use Rattle.rmp_wire.specs.Sources.{Takes}
use Rattle.rmp_wire.specs.Taking.{byte_of}
use Rattle.std.proofs.lemmas.Nat.{be_bytes_8}
use Rattle.rmp_wire.proofs.Reading.{tail_len, reserved_opens_none, short_of_more, cuts_short, cuts_short_after}

not_reserved : (k : Marker) (h : Head) (x : List ℕ) → IsHead h (byte_of k ∷ x) → k ≡ Reserved → ⊥
not_reserved k h x p e = reserved_opens_none h x (subst (λ m. IsHead h (byte_of m ∷ x)) e p)

-- a marker that more bytes follow isn't the reserved one
long_not_reserved : (k : Marker) → 0 < tail_len k → k ≡ Reserved → ⊥
long_not_reserved k l e = let none : tail_len k ≡ 0 = ap tail_len e in omega arith

byte_len_positive : (w : Width) → 0 < byte_len w
byte_len_positive w8 = omega arith
byte_len_positive w16 = omega arith
byte_len_positive w32 = omega arith
byte_len_positive w64 = omega arith
byte_len_positive w128 = omega arith

length-to_be_bytes : (w : Width) (n : ℕ) → length (to_be_bytes w n) ≡ byte_len w
length-to_be_bytes w8 n = refl
length-to_be_bytes w16 n = refl
length-to_be_bytes w32 n = refl
length-to_be_bytes w64 n = refl
length-to_be_bytes w128 n = refl

pub fits_unsigned : (n : ℕ) → n < 2 ^ 64 → FitsSigned w128 (pos n)
fits_unsigned n h = grind (arith, ints)

-- a number in two's complement of at most 64 bits fits 128
abbrev FitsWider : Width → Type 0
FitsWider w = (n : ℕ) → n < 2 ^ bits w → FitsSigned w128 (cast_signed w n)

pub fits_8 : FitsWider w8
fits_8 n h = grind (arith, ints)

pub fits_16 : FitsWider w16
fits_16 n h = grind (arith, ints)

pub fits_32 : FitsWider w32
fits_32 n h = grind (arith, ints)

pub fits_64 : FitsWider w64
fits_64 n h = grind (arith, ints)

-- a number that was stored in 128 bits
pub widened : (w : Width) (v u : ℤ) (n : ℕ) → v ≡ to_z w (of_z w u) → u ≡ to_z w n → FitsSigned w (cast_signed w n) → v ≡ cast_signed w n
widened w v u n e d h = e ∙ ap (λ t. to_z w (of_z w t)) d ∙ to_z-of_z w (cast_signed w n) h

-- what the marker of a small negative number holds
negative_is : (k : ℕ) → k < 0x20 → pos k -ℤ pos 0x20 ≡ negsuc (0x1f - k)
negative_is k h = omega (arith, ints)

fits_negative : (k : ℕ) → k < 0x20 → FitsSigned w128 (negsuc (0x1f - k))
fits_negative k h = grind (arith, ints)

module _ {S : Type 0} (g : Ghosts S) where
  ahead_taken : (m k : Marker) (h : Head) (rest : List ℕ) (old new : S) → m ≡ k → IsHead h (byte_of k ∷ rest) → Consumes (g.ahead old) (g.ahead new) rest
      → g.faults new ≡ g.faults old → g.place new ≡ g.place old → ReadsHead g m old new (Ok h)
  ahead_taken m k h rest old new is p c f l = record {
    ok = record { rest = rest; is_head = subst (λ t. IsHead h (byte_of t ∷ rest)) (sym is) p; taken = c };
    sound = f;
    err = tt;
    reserved = λ e. absurd (not_reserved k h rest p (sym is ∙ e));
    place = l;
  }

  -- eight bytes are a number of 64 bits
  pub number_64_taken : (old new : S) (bytes : List ℕ) (n : ℕ) → length bytes ≡ 8 → ((i : ℕ) → get_or bytes i 0 < 256) → n ≡ from_be_bytes w64 bytes
      → n < 2 ^ 64
      → Takes 8 (g.ahead old) (g.ahead new) (g.faults old) (g.faults new) (Ok bytes) → g.place new ≡ g.place old → ReadsNumber g w64 old new (Ok n)
  number_64_taken old new bytes n l small e below t p = record
      { below = below; ok = subst (Consumes (g.ahead old) (g.ahead new)) (sym (be_bytes_8 bytes n l small e)) t.ok; sound = t.sound; err = tt; place = p }

  -- the marker holds the head whole
  pub reads_held : (m k : Marker) (h : Head) (s : S) → m ≡ k → IsHead h (byte_of k ∷ []) → ReadsHead g m s s (Ok h)
  reads_held m k h s is p = ahead_taken m k h [] s s is p (Consumes-nil (g.ahead s)) refl refl

  -- the same of a whole number
  pub reads_held_whole : (m k : Marker) (v z : ℤ) (s : S) → m ≡ k → v ≡ z → FitsSigned w128 z → IsHead (Whole z) (byte_of k ∷ [])
      → ReadsHead g m s s (Ok (Whole (to_z w128 (of_z w128 v))))
  reads_held_whole m k v z s is same fits p = subst (λ t. ReadsHead g m s s (Ok (Whole t)))
      (sym (ap (λ t. to_z w128 (of_z w128 t)) same ∙ to_z-of_z w128 z fits)) (reads_held m k (Whole z) s is p)

  -- the same of a length
  pub reads_held_number : (m k : Marker) (make : ℕ → Head) (a n : ℕ) (s : S) → m ≡ k → a ≡ n → IsHead (make n) (byte_of k ∷ [])
      → ReadsHead g m s s (Ok (make a))
  reads_held_number m k make a n s is same p = subst (λ t. ReadsHead g m s s (Ok (make t))) (sym same) (reads_held m k (make n) s is p)

  -- a number follows the marker
  pub reads_number : (w : Width) (m k : Marker) (make : ℕ → Head) (a n : ℕ) (old new : S) → m ≡ k → a ≡ n → ReadsNumber g w old new (Ok n)
      → (n < 2 ^ bits w → IsHead (make n) (byte_of k ∷ to_be_bytes w n)) → ReadsHead g m old new (Ok (make a))
  reads_number w m k make a n old new is same r p =
      subst (λ t. ReadsHead g m old new (Ok (make t))) (sym same) (ahead_taken m k (make n) (to_be_bytes w n) old new is (p r.below) r.ok r.sound r.place)

  pub reads_whole : (w : Width) (m k : Marker) (v z : ℤ) (n : ℕ) (old new : S) → m ≡ k → v ≡ z → FitsSigned w128 z → ReadsNumber g w old new (Ok n)
      → IsHead (Whole z) (byte_of k ∷ to_be_bytes w n) → ReadsHead g m old new (Ok (Whole (to_z w128 (of_z w128 v))))
  reads_whole w m k v z n old new is same fits r p =
      subst (λ t. ReadsHead g m old new (Ok (Whole t))) (sym (ap (λ t. to_z w128 (of_z w128 t)) same ∙ to_z-of_z w128 z fits))
      (ahead_taken m k (Whole z) (to_be_bytes w n) old new is p r.ok r.sound r.place)

  -- an extension's type follows the marker
  pub reads_tag : (m k : Marker) (n : ℕ) (tag : ℤ) (old new : S) → m ≡ k → ReadsTag g old new (Ok tag)
      → (FitsSigned w8 tag → IsHead (Ext n tag) (byte_of k ∷ tag_byte tag ∷ [])) → ReadsHead g m old new (Ok (Ext n (to_z w8 (of_z w8 tag))))
  reads_tag m k n tag old new is r p =
      subst (λ t. ReadsHead g m old new (Ok (Ext n t))) (sym (to_z-of_z w8 tag r.fits))
      (ahead_taken m k (Ext n tag) (tag_byte tag ∷ []) old new is (p r.fits) r.ok r.sound r.place)

  -- an extension's length and its type follow the marker
  pub reads_ext : (w : Width) (m k : Marker) (a n : ℕ) (tag : ℤ) (old mid new : S) → m ≡ k → a ≡ n → ReadsNumber g w old mid (Ok n)
      → ReadsTag g mid new (Ok tag)
      → (n < 2 ^ bits w → FitsSigned w8 tag → IsHead (Ext n tag) (byte_of k ∷ (to_be_bytes w n ++ tag_byte tag ∷ [])))
      → ReadsHead g m old new (Ok (Ext a (to_z w8 (of_z w8 tag))))
  reads_ext w m k a n tag old mid new is same r t p =
      subst (λ b. ReadsHead g m old new (Ok (Ext b (to_z w8 (of_z w8 tag))))) (sym same)
      (subst (λ z. ReadsHead g m old new (Ok (Ext n z))) (sym (to_z-of_z w8 tag t.fits))
      (ahead_taken m k (Ext n tag) (to_be_bytes w n ++ tag_byte tag ∷ []) old new is (p r.below t.fits)
      (Consumes-trans (g.ahead old) (g.ahead mid) (g.ahead new) _ _ r.ok t.ok) (t.sound ∙ r.sound) (t.place ∙ r.place)))

  pub reads_negative : (m : Marker) (x v : ℤ) (u : ℕ) (s : S) → m ≡ FixNeg x → u ≡ cast_unsigned w8 x → v ≡ pos (u % 0x20)
      → ReadsHead g m s s (Ok (Whole (to_z w128 (of_z w128 (to_z w128 (of_z w128 v) -ℤ pos 0x20)))))
  unfolding IsHead byte_of
  reads_negative m x v u s is low same =
      let k : ℕ = u % 0x20 in
      let small : k < 0x20 = omega arith in
      let plain : to_z w128 (of_z w128 v) ≡ pos k = ap (λ t. to_z w128 (of_z w128 t)) same ∙ to_z-of_z w128 (pos k) (fits_unsigned k (omega arith)) in
      let byte : 0xe0 + cast_unsigned w8 x % 0x20 ≡ 0xff - (0x1f - k) = omega arith in
      reads_held_whole m (FixNeg x) _ (negsuc (0x1f - k)) s is (ap (λ t. t -ℤ pos 0x20) plain ∙ negative_is k small) (fits_negative k small)
      (inl (omega arith, ap (λ t. t ∷ []) byte))

  -- ---- where a call failed

  fails_head : (m : Marker) (n : ℕ) (e : ValueReadError) (old new : S) → tail_len m ≡ n
      → FailsData n (g.ahead old) (g.ahead new) (g.faults old) (g.faults new) e → FailsHead m (g.ahead old) (g.ahead new) (g.faults old) (g.faults new) e
  fails_head m n (InvalidMarkerRead f) old new l t = t
  fails_head m n (InvalidDataRead f) old new l t = cuts_short m n _ _ _ _ f l t
  fails_head m n (TypeMismatch k) old new l t = absurd t

  fails_early : (m : Marker) (n more : ℕ) (e : ValueReadError) (old new : S) → tail_len m ≡ n + more
      → FailsData n (g.ahead old) (g.ahead new) (g.faults old) (g.faults new) e
      → FailsHead m (g.ahead old) (g.ahead new) (g.faults old) (g.faults new) e
  fails_early m n more (InvalidMarkerRead f) old new l t = t
  fails_early m n more (InvalidDataRead f) old new l t = cuts_short m (n + more) _ _ _ _ f l (short_of_more n more _ _ _ _ f t)
  fails_early m n more (TypeMismatch k) old new l t = absurd t

  fails_after : (m : Marker) (k n : ℕ) (bytes : List ℕ) (e : ValueReadError) (old mid new : S) → tail_len m ≡ k + n → length bytes ≡ k
      → Consumes (g.ahead old) (g.ahead mid) bytes → g.faults mid ≡ g.faults old
      → FailsData n (g.ahead mid) (g.ahead new) (g.faults mid) (g.faults new) e → FailsHead m (g.ahead old) (g.ahead new) (g.faults old) (g.faults new) e
  fails_after m k n bytes (InvalidMarkerRead f) old mid new l b c s t = t
  fails_after m k n bytes (InvalidDataRead f) old mid new l b c s t = cuts_short_after m k n _ (g.ahead mid) _ bytes _ (g.faults mid) _ f l b c s t
  fails_after m k n bytes (TypeMismatch q) old mid new l b c s t = absurd t

  failed : (m k : Marker) (e : ValueReadError) (r : Result Head ValueReadError) (old new : S) → m ≡ k → 0 < tail_len k → r ≡ Err e → g.place new ≡ g.place old
      → FailsHead k (g.ahead old) (g.ahead new) (g.faults old) (g.faults new) e → ReadsHead g m old new r
  failed m k e r old new is l was p f =
      subst (ReadsHead g m old new) (sym was) (subst (λ t. ReadsHead g t old new (Err e)) (sym is)
      (record { ok = tt; sound = tt; err = f; reserved = λ q. absurd (long_not_reserved k l q); place = p }))

  pub fails_number : (w : Width) (m k : Marker) (e : ValueReadError) (r : Result Head ValueReadError) (old new : S) → m ≡ k → tail_len k ≡ byte_len w
      → r ≡ Err e → ReadsNumber g w old new (Err e) → ReadsHead g m old new r
  fails_number w m k e r old new is l was t = failed m k e r old new is (omega (arith, byte_len_positive w, l)) was t.place
      (fails_head k (byte_len w) e old new l t.err)

  pub fails_first : (w : Width) (m k : Marker) (e : ValueReadError) (r : Result Head ValueReadError) (old new : S) → m ≡ k → tail_len k ≡ byte_len w + 1
      → r ≡ Err e → ReadsNumber g w old new (Err e) → ReadsHead g m old new r
  fails_first w m k e r old new is l was t = failed m k e r old new is (omega arith) was t.place (fails_early k (byte_len w) 1 e old new l t.err)

  pub fails_tag : (m k : Marker) (e : ValueReadError) (r : Result Head ValueReadError) (old new : S) → m ≡ k → tail_len k ≡ 1 → r ≡ Err e
      → ReadsTag g old new (Err e) → ReadsHead g m old new r
  fails_tag m k e r old new is l was t = failed m k e r old new is (omega arith) was t.place (fails_head k 1 e old new l t.err)

  pub fails_ext : (w : Width) (m k : Marker) (n : ℕ) (e : ValueReadError) (r : Result Head ValueReadError) (old mid new : S) → m ≡ k
      → tail_len k ≡ byte_len w + 1 → r ≡ Err e → ReadsNumber g w old mid (Ok n) → ReadsTag g mid new (Err e)
      → ReadsHead g m old new r
  fails_ext w m k n e r old mid new is l was first t =
      failed m k e r old new is (omega arith) was (t.place ∙ first.place)
      (fails_after k (byte_len w) 1 (to_be_bytes w n) e old mid new l (length-to_be_bytes w n) first.ok first.sound t.err)

  pub fails_reserved : (m : Marker) (s : S) → m ≡ Reserved → ReadsHead g m s s (Err (TypeMismatch Reserved))
  fails_reserved m s is = record { ok = tt; sound = tt; err = (is, refl, Keeps-refl (g.ahead s), refl); reserved = λ e. refl; place = refl }
