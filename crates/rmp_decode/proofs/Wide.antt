-- Numbers of 128 bits.
use Rattle.std.proofs.Common.{◌≡◌, sym, ap, subst, refl, ℕ, ℤ, pos, negsuc, ◌≤ℤ◌, ◌≤◌, List, [], ◌∷◌, length, slice_index_or, inl, inr, arith, Option, Ok}
use Rattle.std.proofs.lemmas.Int.{ints}
use Rattle.rmp_wire.specs.declared.head.Head.{Head}
use Rattle.rmp_wire.specs.declared.head.Head.TheVariants as head
use Rattle.rmp_wire.specs.declared.source.Source.{Ghosts}
use Rattle.rmp_wire.specs.Msg.{Msg, bin, whole}
use Rattle.rmp_wire.specs.Spelling.{head_of}
use Rattle.rmp_decode.specs.Payloads.{Kind, TakesPayload}
use Rattle.rmp_decode.proofs.Payloads.{payload_read}
use Rattle.rmp_decode.specs.Wide.{IsSixteen, IsUnsigned128, IsSigned128, IsSigned128Head, IsUnsigned128Head, TakesSixteen, ReadsSixteen}

-- a number from 0 on is read without a sign
pub unsigned_as : (z : ℤ) (n : ℕ) → z ≡ pos n → IsUnsigned128 (whole z) n
unsigned_as z n e = inl (ap whole e)

-- heads that aren't wanted
pub not_signed_head : (h : Head) → ((z : ℤ) → h ≡ head.Whole z → ⊥) × (h ≡ head.Bin 16 → ⊥) → IsSigned128Head h → ⊥
not_signed_head head.Nil f w = w
not_signed_head (head.Truth t) f w = w
not_signed_head (head.Whole z) f w = f.0 z refl
not_signed_head (head.F32Bits n) f w = w
not_signed_head (head.F64Bits n) f w = w
not_signed_head (head.Text n) f w = w
not_signed_head (head.Bin n) f w = f.1 (ap head.Bin w)
not_signed_head (head.Array n) f w = w
not_signed_head (head.Map n) f w = w
not_signed_head (head.Ext n tag) f w = w

signed_wider : (h : Head) → IsUnsigned128Head h → IsSigned128Head h
signed_wider head.Nil w = w
signed_wider (head.Truth t) w = w
signed_wider (head.Whole (pos n)) w = tt
signed_wider (head.Whole (negsuc n)) w = absurd w
signed_wider (head.F32Bits n) w = w
signed_wider (head.F64Bits n) w = w
signed_wider (head.Text n) w = w
signed_wider (head.Bin n) w = w
signed_wider (head.Array n) w = w
signed_wider (head.Map n) w = w
signed_wider (head.Ext n tag) w = w

pub not_unsigned_head : (h : Head) → ((z : ℤ) → h ≡ head.Whole z → ⊥) × (h ≡ head.Bin 16 → ⊥) → IsUnsigned128Head h → ⊥
not_unsigned_head h f w = not_signed_head h f (signed_wider h w)

pub not_negative_head : (h : Head) (z : ℤ) → h ≡ head.Whole z → (pos 0 ≤ℤ z → ⊥) → IsUnsigned128Head h → ⊥
not_negative_head h (pos n) i f w = f (omega (arith, ints))
not_negative_head h (negsuc n) i f w = subst IsUnsigned128Head i w

-- 16 bytes that were taken are the number
pub taken_sixteen : {old new : Option (List ℕ)} {n : ℕ} (t : TakesSixteen old new n) → IsSixteen (bin t.bytes) n
taken_sixteen t = record { bytes = t.bytes; is = refl; long = t.long; number = t.number }

-- only messages with a head that is wanted are read
pub signed_only : (m : Msg) (z : ℤ) → IsSigned128 m z → IsSigned128Head (head_of m)
signed_only m z r = elim r [
  | inl w ↦ subst (λ k. IsSigned128Head (head_of k)) (sym w) tt
  | inr s ↦ subst (λ k. IsSigned128Head (head_of k)) (sym s.1.is) s.1.long
]

pub unsigned_only : (m : Msg) (n : ℕ) → IsUnsigned128 m n → IsUnsigned128Head (head_of m)
unsigned_only m n r = elim r [
  | inl w ↦ subst (λ k. IsUnsigned128Head (head_of k)) (sym w) tt
  | inr s ↦ subst (λ k. IsUnsigned128Head (head_of k)) (sym s.is) s.long
]

module _ {S V : Type 0} (g : Ghosts S) (k : Kind V) (old new : S) where
  -- 16 bytes were there
  pub sixteen_read : (n : ℕ) (v : V) (r : ReadsSixteen g old new (Ok n)) → ((m : Msg) → IsSixteen m n → k.reads m v)
      → TakesPayload g k (head.Bin 16) old new (Ok v)
  sixteen_read n v r f = let t = r.ok in payload_read g k (head.Bin 16) old new 16 refl n v r
      (record { bytes = t.bytes; long = t.long; small = t.small; taken = t.takes; value = f (bin t.bytes) (taken_sixteen t) })

-- the first 16 bytes of some come before the others
pub sixteen_first : (xs : List ℕ) → 16 ≤ length xs
    → (rest : List ℕ) × (xs ≡ slice_index_or xs 0 0 ∷ slice_index_or xs 1 0 ∷ slice_index_or xs 2 0 ∷ slice_index_or xs 3 0 ∷ slice_index_or xs 4 0
    ∷ slice_index_or xs 5 0 ∷ slice_index_or xs 6 0 ∷ slice_index_or xs 7 0 ∷ slice_index_or xs 8 0 ∷ slice_index_or xs 9 0 ∷ slice_index_or xs 10 0
    ∷ slice_index_or xs 11 0 ∷ slice_index_or xs 12 0 ∷ slice_index_or xs 13 0 ∷ slice_index_or xs 14 0 ∷ slice_index_or xs 15 0 ∷ rest)
sixteen_first [] long = absurd (omega arith)
sixteen_first (a ∷ []) long = absurd (omega arith)
sixteen_first (a ∷ b ∷ []) long = absurd (omega arith)
sixteen_first (a ∷ b ∷ c ∷ []) long = absurd (omega arith)
sixteen_first (a ∷ b ∷ c ∷ d ∷ []) long = absurd (omega arith)
sixteen_first (a ∷ b ∷ c ∷ d ∷ e ∷ []) long = absurd (omega arith)
sixteen_first (a ∷ b ∷ c ∷ d ∷ e ∷ f ∷ []) long = absurd (omega arith)
sixteen_first (a ∷ b ∷ c ∷ d ∷ e ∷ f ∷ g ∷ []) long = absurd (omega arith)
sixteen_first (a ∷ b ∷ c ∷ d ∷ e ∷ f ∷ g ∷ h ∷ []) long = absurd (omega arith)
sixteen_first (a ∷ b ∷ c ∷ d ∷ e ∷ f ∷ g ∷ h ∷ i ∷ []) long = absurd (omega arith)
sixteen_first (a ∷ b ∷ c ∷ d ∷ e ∷ f ∷ g ∷ h ∷ i ∷ j ∷ []) long = absurd (omega arith)
sixteen_first (a ∷ b ∷ c ∷ d ∷ e ∷ f ∷ g ∷ h ∷ i ∷ j ∷ k ∷ []) long = absurd (omega arith)
sixteen_first (a ∷ b ∷ c ∷ d ∷ e ∷ f ∷ g ∷ h ∷ i ∷ j ∷ k ∷ l ∷ []) long = absurd (omega arith)
sixteen_first (a ∷ b ∷ c ∷ d ∷ e ∷ f ∷ g ∷ h ∷ i ∷ j ∷ k ∷ l ∷ m ∷ []) long = absurd (omega arith)
sixteen_first (a ∷ b ∷ c ∷ d ∷ e ∷ f ∷ g ∷ h ∷ i ∷ j ∷ k ∷ l ∷ m ∷ n ∷ []) long = absurd (omega arith)
sixteen_first (a ∷ b ∷ c ∷ d ∷ e ∷ f ∷ g ∷ h ∷ i ∷ j ∷ k ∷ l ∷ m ∷ n ∷ o ∷ []) long = absurd (omega arith)
sixteen_first (a ∷ b ∷ c ∷ d ∷ e ∷ f ∷ g ∷ h ∷ i ∷ j ∷ k ∷ l ∷ m ∷ n ∷ o ∷ p ∷ rest) long = (rest, refl)
