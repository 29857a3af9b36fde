-- The canonical heads are those of the table, and the canonical spelling is the one that is made of them.
use Rattle.std.proofs.Common.{
  ◌≡◌,
  ◌∙◌,
  sym,
  ap,
  subst,
  ℕ,
  ◌+◌,
  ◌-◌,
  ◌^◌,
  ◌<◌,
  ◌≤◌,
  List,
  [],
  ◌∷◌,
  ◌++◌,
  length,
  refl,
  arith,
  pos,
  negsuc,
  Bool,
  cond,
  true,
  false,
  nat_eq,
  nat_lt,
  inl,
  inr,
  lit<,
}
use Rattle.std.proofs.lemmas.Bool.Decides.{nat_tests}
use Rattle.std.proofs.lemmas.Bool.{lt-ltb}
use Rattle.std.specs.Prelude.{◌↔◌}
use lib.Signed.{mag}
use Rattle.std.specs.Int.{w8, w16, w32, w64, to_be_bytes, cast_unsigned}
use Rattle.rmp_wire.specs.declared.head.Head.{Head}
use Rattle.rmp_wire.specs.declared.head.Head.TheVariants.{Nil, Truth, Whole, F32Bits, F64Bits, Text, Bin, Array, Map, Ext}
use Rattle.rmp_wire.specs.Heads.{IsHead, SignedAny, tag_byte, canon_head, fits_head}
use Rattle.rmp_wire.specs.Canonical.{IsCanonicalHead, IsCanonical, AreCanonical, ArePairsCanonical}
use Rattle.rmp_wire.specs.Msg.{
  Msg,
  nil,
  truth,
  whole,
  float32,
  float64,
  text,
  bin,
  list,
  map,
  extension,
  Msgs,
  no_items,
  item,
  Pairs,
  no_pairs,
  pair,
  count,
  count_pairs,
}
use Rattle.rmp_wire.specs.Spelling.{IsBytes, Joined, IsContent, canon, canon_all, canon_pairs, Fits, FitsAll, FitsPairs}
use Rattle.rmp_wire.proofs.Canon.{canon_is_head, canon_head_least, head_fits}

-- the canonical head of a number from 0 on is in no signed format
canon_unsigned : (n : ℕ) → ¬ SignedAny (pos n) (canon_head (Whole (pos n)))
unfolding canon_head
canon_unsigned n s = grind (arith, nat_tests)

-- ---- formats are tried in turn

-- a format that is longer than the next one tried is as short as the chosen one only where that one isn't chosen
skip : (b : Bool) (v rest z : List ℕ) → length v < length z → (length z ≤ length rest → z ≡ rest) → length z ≤ length (cond b v rest) → z ≡ cond b v rest
skip true v rest z i k l = absurd (omega arith)
skip false v rest z i k l = k l

chosen : (b : Bool) (z rest : List ℕ) → b ≡ true → length z ≤ length (cond b z rest) → z ≡ cond b z rest
chosen true z rest t l = refl
chosen false z rest t l = absurd (cc)

signed_below : (n k : ℕ) → mag (negsuc n) < 2 ^ k → n < 2 ^ k
signed_below n k h = omega arith

-- a head that is as short as the canonical one, and of a number from 0 on in no signed format, is the canonical one
unsigned_shortest : (h : Head) (a : List ℕ) → IsHead h a → length a ≤ length (canon_head h) → ((n : ℕ) → h ≡ Whole (pos n) → ¬ SignedAny (pos n) a)
    → a ≡ canon_head h
unfolding IsHead canon_head
unsigned_shortest Nil a f l u = f
unsigned_shortest (Truth false) a f l u = f
unsigned_shortest (Truth true) a f l u = f
unsigned_shortest (Whole (pos n)) a (inl f) l u = f.1
    ∙ chosen _ (n ∷ []) _ (lt-ltb n 128 f.0) (subst (λ t. length t ≤ length (canon_head (Whole (pos n)))) f.1 l)
unsigned_shortest (Whole (pos n)) a (inr (inl f)) l u = f.1
    ∙ skip _ (n ∷ []) _ (0xcc ∷ to_be_bytes w8 n) (lit< tt) (chosen _ (0xcc ∷ to_be_bytes w8 n) _ (lt-ltb n (2 ^ 8) f.0))
    (subst (λ t. length t ≤ length (canon_head (Whole (pos n)))) f.1 l)
unsigned_shortest (Whole (pos n)) a (inr (inr (inl f))) l u = f.1
    ∙ skip _ (n ∷ []) _ (0xcd ∷ to_be_bytes w16 n) (lit< tt)
    (skip _ (0xcc ∷ to_be_bytes w8 n) _ (0xcd ∷ to_be_bytes w16 n) (lit< tt) (chosen _ (0xcd ∷ to_be_bytes w16 n) _ (lt-ltb n (2 ^ 16) f.0)))
    (subst (λ t. length t ≤ length (canon_head (Whole (pos n)))) f.1 l)
unsigned_shortest (Whole (pos n)) a (inr (inr (inr (inl f)))) l u = f.1
    ∙ skip _ (n ∷ []) _ (0xce ∷ to_be_bytes w32 n) (lit< tt)
    (skip _ (0xcc ∷ to_be_bytes w8 n) _ (0xce ∷ to_be_bytes w32 n) (lit< tt)
    (skip _ (0xcd ∷ to_be_bytes w16 n) _ (0xce ∷ to_be_bytes w32 n) (lit< tt) (chosen _ (0xce ∷ to_be_bytes w32 n) _ (lt-ltb n (2 ^ 32) f.0))))
    (subst (λ t. length t ≤ length (canon_head (Whole (pos n)))) f.1 l)
unsigned_shortest (Whole (pos n)) a (inr (inr (inr (inr (inl f))))) l u = f.1
    ∙ skip _ (n ∷ []) _ (0xcf ∷ to_be_bytes w64 n) (lit< tt)
    (skip _ (0xcc ∷ to_be_bytes w8 n) _ (0xcf ∷ to_be_bytes w64 n) (lit< tt)
    (skip _ (0xcd ∷ to_be_bytes w16 n) _ (0xcf ∷ to_be_bytes w64 n) (lit< tt)
    (skip _ (0xce ∷ to_be_bytes w32 n) _ (0xcf ∷ to_be_bytes w64 n) (lit< tt) (λ l. refl))))
    (subst (λ t. length t ≤ length (canon_head (Whole (pos n)))) f.1 l)
unsigned_shortest (Whole (pos n)) a (inr (inr (inr (inr (inr s))))) l u = absurd (u n refl s)
unsigned_shortest (Whole (negsuc n)) a (inl f) l u = f.1
    ∙ chosen _ ((0xff - n) ∷ []) _ (lt-ltb n 32 f.0) (subst (λ t. length t ≤ length (canon_head (Whole (negsuc n)))) f.1 l)
unsigned_shortest (Whole (negsuc n)) a (inr (inl f)) l u = f.1
    ∙ skip _ ((0xff - n) ∷ []) _ (0xd0 ∷ to_be_bytes w8 (cast_unsigned w8 (negsuc n))) (lit< tt)
    (chosen _ (0xd0 ∷ to_be_bytes w8 (cast_unsigned w8 (negsuc n))) _ (lt-ltb n (2 ^ 7) (signed_below n 7 f.0.sfits)))
    (subst (λ t. length t ≤ length (canon_head (Whole (negsuc n)))) f.1 l)
unsigned_shortest (Whole (negsuc n)) a (inr (inr (inl f))) l u = f.1
    ∙ skip _ ((0xff - n) ∷ []) _ (0xd1 ∷ to_be_bytes w16 (cast_unsigned w16 (negsuc n))) (lit< tt)
    (skip _ (0xd0 ∷ to_be_bytes w8 (cast_unsigned w8 (negsuc n))) _ (0xd1 ∷ to_be_bytes w16 (cast_unsigned w16 (negsuc n))) (lit< tt)
    (chosen _ (0xd1 ∷ to_be_bytes w16 (cast_unsigned w16 (negsuc n))) _ (lt-ltb n (2 ^ 15) (signed_below n 15 f.0.sfits))))
    (subst (λ t. length t ≤ length (canon_head (Whole (negsuc n)))) f.1 l)
unsigned_shortest (Whole (negsuc n)) a (inr (inr (inr (inl f)))) l u = f.1
    ∙ skip _ ((0xff - n) ∷ []) _ (0xd2 ∷ to_be_bytes w32 (cast_unsigned w32 (negsuc n))) (lit< tt)
    (skip _ (0xd0 ∷ to_be_bytes w8 (cast_unsigned w8 (negsuc n))) _ (0xd2 ∷ to_be_bytes w32 (cast_unsigned w32 (negsuc n))) (lit< tt)
    (skip _ (0xd1 ∷ to_be_bytes w16 (cast_unsigned w16 (negsuc n))) _ (0xd2 ∷ to_be_bytes w32 (cast_unsigned w32 (negsuc n))) (lit< tt)
    (chosen _ (0xd2 ∷ to_be_bytes w32 (cast_unsigned w32 (negsuc n))) _ (lt-ltb n (2 ^ 31) (signed_below n 31 f.0.sfits)))))
    (subst (λ t. length t ≤ length (canon_head (Whole (negsuc n)))) f.1 l)
unsigned_shortest (Whole (negsuc n)) a (inr (inr (inr (inr (f))))) l u = f.1
    ∙ skip _ ((0xff - n) ∷ []) _ (0xd3 ∷ to_be_bytes w64 (cast_unsigned w64 (negsuc n))) (lit< tt)
    (skip _ (0xd0 ∷ to_be_bytes w8 (cast_unsigned w8 (negsuc n))) _ (0xd3 ∷ to_be_bytes w64 (cast_unsigned w64 (negsuc n))) (lit< tt)
    (skip _ (0xd1 ∷ to_be_bytes w16 (cast_unsigned w16 (negsuc n))) _ (0xd3 ∷ to_be_bytes w64 (cast_unsigned w64 (negsuc n))) (lit< tt)
    (skip _ (0xd2 ∷ to_be_bytes w32 (cast_unsigned w32 (negsuc n))) _ (0xd3 ∷ to_be_bytes w64 (cast_unsigned w64 (negsuc n))) (lit< tt) (λ l. refl))))
    (subst (λ t. length t ≤ length (canon_head (Whole (negsuc n)))) f.1 l)
unsigned_shortest (F32Bits n) a f l u = f.1
unsigned_shortest (F64Bits n) a f l u = f.1
unsigned_shortest (Text n) a (inl f) l u = f.1 ∙ chosen _ ((0xa0 + n) ∷ []) _ (lt-ltb n 32 f.0) (subst (λ t. length t ≤ length (canon_head (Text n))) f.1 l)
unsigned_shortest (Text n) a (inr (inl f)) l u = f.1
    ∙ skip _ ((0xa0 + n) ∷ []) _ (0xd9 ∷ to_be_bytes w8 n) (lit< tt) (chosen _ (0xd9 ∷ to_be_bytes w8 n) _ (lt-ltb n (2 ^ 8) f.0))
    (subst (λ t. length t ≤ length (canon_head (Text n))) f.1 l)
unsigned_shortest (Text n) a (inr (inr (inl f))) l u = f.1
    ∙ skip _ ((0xa0 + n) ∷ []) _ (0xda ∷ to_be_bytes w16 n) (lit< tt)
    (skip _ (0xd9 ∷ to_be_bytes w8 n) _ (0xda ∷ to_be_bytes w16 n) (lit< tt) (chosen _ (0xda ∷ to_be_bytes w16 n) _ (lt-ltb n (2 ^ 16) f.0)))
    (subst (λ t. length t ≤ length (canon_head (Text n))) f.1 l)
unsigned_shortest (Text n) a (inr (inr (inr (f)))) l u = f.1
    ∙ skip _ ((0xa0 + n) ∷ []) _ (0xdb ∷ to_be_bytes w32 n) (lit< tt)
    (skip _ (0xd9 ∷ to_be_bytes w8 n) _ (0xdb ∷ to_be_bytes w32 n) (lit< tt)
    (skip _ (0xda ∷ to_be_bytes w16 n) _ (0xdb ∷ to_be_bytes w32 n) (lit< tt) (λ l. refl))) (subst (λ t. length t ≤ length (canon_head (Text n))) f.1 l)
unsigned_shortest (Bin n) a (inl f) l u = f.1 ∙ chosen _ (0xc4 ∷ to_be_bytes w8 n) _ (lt-ltb n (2 ^ 8) f.0)
    (subst (λ t. length t ≤ length (canon_head (Bin n))) f.1 l)
unsigned_shortest (Bin n) a (inr (inl f)) l u = f.1
    ∙ skip _ (0xc4 ∷ to_be_bytes w8 n) _ (0xc5 ∷ to_be_bytes w16 n) (lit< tt) (chosen _ (0xc5 ∷ to_be_bytes w16 n) _ (lt-ltb n (2 ^ 16) f.0))
    (subst (λ t. length t ≤ length (canon_head (Bin n))) f.1 l)
unsigned_shortest (Bin n) a (inr (inr (f))) l u = f.1
    ∙ skip _ (0xc4 ∷ to_be_bytes w8 n) _ (0xc6 ∷ to_be_bytes w32 n) (lit< tt)
    (skip _ (0xc5 ∷ to_be_bytes w16 n) _ (0xc6 ∷ to_be_bytes w32 n) (lit< tt) (λ l. refl)) (subst (λ t. length t ≤ length (canon_head (Bin n))) f.1 l)
unsigned_shortest (Array n) a (inl f) l u = f.1 ∙ chosen _ ((0x90 + n) ∷ []) _ (lt-ltb n 16 f.0) (subst (λ t. length t ≤ length (canon_head (Array n))) f.1 l)
unsigned_shortest (Array n) a (inr (inl f)) l u = f.1
    ∙ skip _ ((0x90 + n) ∷ []) _ (0xdc ∷ to_be_bytes w16 n) (lit< tt) (chosen _ (0xdc ∷ to_be_bytes w16 n) _ (lt-ltb n (2 ^ 16) f.0))
    (subst (λ t. length t ≤ length (canon_head (Array n))) f.1 l)
unsigned_shortest (Array n) a (inr (inr (f))) l u = f.1
    ∙ skip _ ((0x90 + n) ∷ []) _ (0xdd ∷ to_be_bytes w32 n) (lit< tt) (skip _ (0xdc ∷ to_be_bytes w16 n) _ (0xdd ∷ to_be_bytes w32 n) (lit< tt) (λ l. refl))
    (subst (λ t. length t ≤ length (canon_head (Array n))) f.1 l)
unsigned_shortest (Map n) a (inl f) l u = f.1 ∙ chosen _ ((0x80 + n) ∷ []) _ (lt-ltb n 16 f.0) (subst (λ t. length t ≤ length (canon_head (Map n))) f.1 l)
unsigned_shortest (Map n) a (inr (inl f)) l u = f.1
    ∙ skip _ ((0x80 + n) ∷ []) _ (0xde ∷ to_be_bytes w16 n) (lit< tt) (chosen _ (0xde ∷ to_be_bytes w16 n) _ (lt-ltb n (2 ^ 16) f.0))
    (subst (λ t. length t ≤ length (canon_head (Map n))) f.1 l)
unsigned_shortest (Map n) a (inr (inr (f))) l u = f.1
    ∙ skip _ ((0x80 + n) ∷ []) _ (0xdf ∷ to_be_bytes w32 n) (lit< tt) (skip _ (0xde ∷ to_be_bytes w16 n) _ (0xdf ∷ to_be_bytes w32 n) (lit< tt) (λ l. refl))
    (subst (λ t. length t ≤ length (canon_head (Map n))) f.1 l)
unsigned_shortest (Ext n tag) a (inl f) l u = rw (f.2, f.0) refl
unsigned_shortest (Ext n tag) a (inr (inl f)) l u = rw (f.2, f.0) refl
unsigned_shortest (Ext n tag) a (inr (inr (inl f))) l u = rw (f.2, f.0) refl
unsigned_shortest (Ext n tag) a (inr (inr (inr (inl f)))) l u = rw (f.2, f.0) refl
unsigned_shortest (Ext n tag) a (inr (inr (inr (inr (inl f))))) l u = rw (f.2, f.0) refl
unsigned_shortest (Ext n tag) a (inr (inr (inr (inr (inr (inl f)))))) l u = f.2
    ∙ skip (nat_eq n 1) (0xd4 ∷ tag_byte tag ∷ []) _ (0xc7 ∷ (to_be_bytes w8 n ++ tag_byte tag ∷ [])) (lit< tt)
    (skip (nat_eq n 2) (0xd5 ∷ tag_byte tag ∷ []) _ (0xc7 ∷ (to_be_bytes w8 n ++ tag_byte tag ∷ [])) (lit< tt)
    (skip (nat_eq n 4) (0xd6 ∷ tag_byte tag ∷ []) _ (0xc7 ∷ (to_be_bytes w8 n ++ tag_byte tag ∷ [])) (lit< tt)
    (skip (nat_eq n 8) (0xd7 ∷ tag_byte tag ∷ []) _ (0xc7 ∷ (to_be_bytes w8 n ++ tag_byte tag ∷ [])) (lit< tt)
    (skip (nat_eq n 16) (0xd8 ∷ tag_byte tag ∷ []) _ (0xc7 ∷ (to_be_bytes w8 n ++ tag_byte tag ∷ [])) (lit< tt)
    (chosen (nat_lt n (2 ^ 8)) (0xc7 ∷ (to_be_bytes w8 n ++ tag_byte tag ∷ [])) _ (lt-ltb n (2 ^ 8) f.0))))))
    (subst (λ t. length t ≤ length (canon_head (Ext n tag))) f.2 l)
unsigned_shortest (Ext n tag) a (inr (inr (inr (inr (inr (inr (inl f))))))) l u = f.2
    ∙ skip (nat_eq n 1) (0xd4 ∷ tag_byte tag ∷ []) _ (0xc8 ∷ (to_be_bytes w16 n ++ tag_byte tag ∷ [])) (lit< tt)
    (skip (nat_eq n 2) (0xd5 ∷ tag_byte tag ∷ []) _ (0xc8 ∷ (to_be_bytes w16 n ++ tag_byte tag ∷ [])) (lit< tt)
    (skip (nat_eq n 4) (0xd6 ∷ tag_byte tag ∷ []) _ (0xc8 ∷ (to_be_bytes w16 n ++ tag_byte tag ∷ [])) (lit< tt)
    (skip (nat_eq n 8) (0xd7 ∷ tag_byte tag ∷ []) _ (0xc8 ∷ (to_be_bytes w16 n ++ tag_byte tag ∷ [])) (lit< tt)
    (skip (nat_eq n 16) (0xd8 ∷ tag_byte tag ∷ []) _ (0xc8 ∷ (to_be_bytes w16 n ++ tag_byte tag ∷ [])) (lit< tt)
    (skip (nat_lt n (2 ^ 8)) (0xc7 ∷ (to_be_bytes w8 n ++ tag_byte tag ∷ [])) _ (0xc8 ∷ (to_be_bytes w16 n ++ tag_byte tag ∷ [])) (lit< tt)
    (chosen (nat_lt n (2 ^ 16)) (0xc8 ∷ (to_be_bytes w16 n ++ tag_byte tag ∷ [])) _ (lt-ltb n (2 ^ 16) f.0)))))))
    (subst (λ t. length t ≤ length (canon_head (Ext n tag))) f.2 l)
unsigned_shortest (Ext n tag) a (inr (inr (inr (inr (inr (inr (inr (f)))))))) l u = f.2
    ∙ skip (nat_eq n 1) (0xd4 ∷ tag_byte tag ∷ []) _ (0xc9 ∷ (to_be_bytes w32 n ++ tag_byte tag ∷ [])) (lit< tt)
    (skip (nat_eq n 2) (0xd5 ∷ tag_byte tag ∷ []) _ (0xc9 ∷ (to_be_bytes w32 n ++ tag_byte tag ∷ [])) (lit< tt)
    (skip (nat_eq n 4) (0xd6 ∷ tag_byte tag ∷ []) _ (0xc9 ∷ (to_be_bytes w32 n ++ tag_byte tag ∷ [])) (lit< tt)
    (skip (nat_eq n 8) (0xd7 ∷ tag_byte tag ∷ []) _ (0xc9 ∷ (to_be_bytes w32 n ++ tag_byte tag ∷ [])) (lit< tt)
    (skip (nat_eq n 16) (0xd8 ∷ tag_byte tag ∷ []) _ (0xc9 ∷ (to_be_bytes w32 n ++ tag_byte tag ∷ [])) (lit< tt)
    (skip (nat_lt n (2 ^ 8)) (0xc7 ∷ (to_be_bytes w8 n ++ tag_byte tag ∷ [])) _ (0xc9 ∷ (to_be_bytes w32 n ++ tag_byte tag ∷ [])) (lit< tt)
    (skip (nat_lt n (2 ^ 16)) (0xc8 ∷ (to_be_bytes w16 n ++ tag_byte tag ∷ [])) _ (0xc9 ∷ (to_be_bytes w32 n ++ tag_byte tag ∷ [])) (lit< tt)
    (λ l. refl))))))) (subst (λ t. length t ≤ length (canon_head (Ext n tag))) f.2 l)

-- ---- heads

pub canonical_head_made : (h : Head) → fits_head h → IsCanonicalHead h (canon_head h)
canonical_head_made h f = record {
  is_head = canon_is_head h f;
  shortest = λ b. canon_head_least h b;
  unsigned = λ n e s. canon_unsigned n (subst (λ k. SignedAny (pos n) (canon_head k)) e s);
}

pub canonical_head_is : (h : Head) (a : List ℕ) → IsCanonicalHead h a → fits_head h × (a ≡ canon_head h)
canonical_head_is h a c =
    let f : fits_head h = head_fits h a c.is_head in
    (f, unsigned_shortest h a c.is_head (c.shortest (canon_head h) (canon_is_head h f)) c.unsigned)

pub canonical_head_iff : (h : Head) (a : List ℕ) → IsCanonicalHead h a ↔ (fits_head h × (a ≡ canon_head h))
canonical_head_iff h a = (λ c. canonical_head_is h a c, λ p. subst (IsCanonicalHead h) (sym p.1) (canonical_head_made h p.0))

-- ---- messages

-- a canonical head, and then the one thing that may follow it
joined_is : {Q : List ℕ → Type 0} (h : Head) (c b : List ℕ) (j : Joined (IsCanonicalHead h) Q b) → j.second ≡ c → fits_head h × (b ≡ canon_head h ++ c)
joined_is h c b j e =
    let p : fits_head h × (j.first ≡ canon_head h) = canonical_head_is h j.first j.is_first in
    (p.0, j.is_whole ∙ ap (λ t. t ++ j.second) p.1 ∙ ap (λ t. canon_head h ++ t) e)

content_is : (h : Head) (s b : List ℕ) → Joined (IsCanonicalHead h) (IsContent s) b → (fits_head h × IsBytes s) × (b ≡ canon_head h ++ s)
content_is h s b j = let p : fits_head h × (b ≡ canon_head h ++ s) = joined_is h s b j j.is_second.0 in ((p.0, j.is_second.1), p.1)

content_made : (h : Head) (s : List ℕ) → fits_head h × IsBytes s → Joined (IsCanonicalHead h) (IsContent s) (canon_head h ++ s)
content_made h s f = record { first = canon_head h; second = s; is_first = canonical_head_made h f.0; is_second = (refl, f.1); is_whole = refl }

mutual
  canonical_is : (m : Msg) (b : List ℕ) → IsCanonical b m → Fits m × (b ≡ canon m)
  canonical_is nil b c = canonical_head_is Nil b c
  canonical_is (truth t) b c = canonical_head_is (Truth t) b c
  canonical_is (whole z) b c = canonical_head_is (Whole z) b c
  canonical_is (float32 n) b c = canonical_head_is (F32Bits n) b c
  canonical_is (float64 n) b c = canonical_head_is (F64Bits n) b c
  canonical_is (text s) b c = content_is (Text (length s)) s b c
  canonical_is (bin s) b c = content_is (Bin (length s)) s b c
  canonical_is (list ms) b c =
      let rest : FitsAll ms × (c.second ≡ canon_all ms) = canonical_all_is ms c.second c.is_second in
      let whole : fits_head (Array (count ms)) × (b ≡ canon_head (Array (count ms)) ++ canon_all ms) = joined_is (Array (count ms)) (canon_all ms) b c rest.1 in
      ((whole.0, rest.0), whole.1)
  canonical_is (map ps) b c =
      let rest : FitsPairs ps × (c.second ≡ canon_pairs ps) = canonical_pairs_is ps c.second c.is_second in
      let whole : fits_head (Map (count_pairs ps)) × (b ≡ canon_head (Map (count_pairs ps)) ++ canon_pairs ps) = joined_is (Map (count_pairs ps))
      (canon_pairs ps) b c rest.1 in
      ((whole.0, rest.0), whole.1)
  canonical_is (extension tag s) b c = content_is (Ext (length s) tag) s b c

  canonical_all_is : (ms : Msgs) (b : List ℕ) → AreCanonical b ms → FitsAll ms × (b ≡ canon_all ms)
  canonical_all_is no_items b c = (tt, c)
  canonical_all_is (item m ms) b c =
      let one : Fits m × (c.first ≡ canon m) = canonical_is m c.first c.is_first in
      let rest : FitsAll ms × (c.second ≡ canon_all ms) = canonical_all_is ms c.second c.is_second in
      ((one.0, rest.0), c.is_whole ∙ ap (λ t. t ++ c.second) one.1 ∙ ap (λ t. canon m ++ t) rest.1)

  canonical_pairs_is : (ps : Pairs) (b : List ℕ) → ArePairsCanonical b ps → FitsPairs ps × (b ≡ canon_pairs ps)
  canonical_pairs_is no_pairs b c = (tt, c)
  canonical_pairs_is (pair k v ps) b c =
      let key : Fits k × (c.first ≡ canon k) = canonical_is k c.first c.is_first in
      let value : Fits v × (c.is_second.first ≡ canon v) = canonical_is v c.is_second.first c.is_second.is_first in
      let rest : FitsPairs ps × (c.is_second.second ≡ canon_pairs ps) = canonical_pairs_is ps c.is_second.second c.is_second.is_second in
      let second : c.second ≡ canon v ++ canon_pairs ps = c.is_second.is_whole ∙ ap (λ t. t ++ c.is_second.second) value.1 ∙ ap (λ t. canon v ++ t) rest.1 in
      ((key.0, value.0, rest.0), c.is_whole ∙ ap (λ t. t ++ c.second) key.1 ∙ ap (λ t. canon k ++ t) second)

mutual
  canonical_made : (m : Msg) → Fits m → IsCanonical (canon m) m
  canonical_made nil f = canonical_head_made Nil f
  canonical_made (truth t) f = canonical_head_made (Truth t) f
  canonical_made (whole z) f = canonical_head_made (Whole z) f
  canonical_made (float32 n) f = canonical_head_made (F32Bits n) f
  canonical_made (float64 n) f = canonical_head_made (F64Bits n) f
  canonical_made (text s) f = content_made (Text (length s)) s f
  canonical_made (bin s) f = content_made (Bin (length s)) s f
  canonical_made (list ms) f = record {
    first = _;
    second = canon_all ms;
    is_first = canonical_head_made (Array (count ms)) f.0;
    is_second = canonical_all_made ms f.1;
    is_whole = refl;
  }
  canonical_made (map ps) f = record {
    first = _;
    second = canon_pairs ps;
    is_first = canonical_head_made (Map (count_pairs ps)) f.0;
    is_second = canonical_pairs_made ps f.1;
    is_whole = refl;
  }
  canonical_made (extension tag s) f = content_made (Ext (length s) tag) s f

  canonical_all_made : (ms : Msgs) → FitsAll ms → AreCanonical (canon_all ms) ms
  canonical_all_made no_items f = refl
  canonical_all_made (item m ms) f = record {
    first = canon m;
    second = canon_all ms;
    is_first = canonical_made m f.0;
    is_second = canonical_all_made ms
        f.1;
    is_whole = refl;
  }

  canonical_pairs_made : (ps : Pairs) → FitsPairs ps → ArePairsCanonical (canon_pairs ps) ps
  canonical_pairs_made no_pairs f = refl
  canonical_pairs_made (pair k v ps) f = record {
    first = canon k;
    second = canon v ++ canon_pairs ps;
    is_first = canonical_made k f.0;
    is_second = record { first = canon v; second = canon_pairs ps; is_first = canonical_made v f.1; is_second = canonical_pairs_made ps f.2; is_whole = refl };
    is_whole = refl;
  }

-- A tree that fits has one canonical spelling, and one that doesn't has none.
pub canonical_iff : (b : List ℕ) (m : Msg) → IsCanonical b m ↔ (Fits m × (b ≡ canon m))
canonical_iff b m = (λ c. canonical_is m b c, λ p. subst (λ t. IsCanonical t m) (sym p.1) (canonical_made m p.0))
