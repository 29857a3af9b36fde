-- Heads of extensions that are buffered whole.
use Rattle.std.proofs.Common.{◌≡◌, ◌∙◌, sym, ap, subst, refl, arith, ℕ, suc, ◌<◌, ◌≤◌, inl, inr, List, [], ◌∷◌, length, get_or, false}
use Rattle.std.proofs.lemmas.Int.{to_z-of_z, of_z-to_z}
use Rattle.std.specs.Int.{w8, cast_signed}
use Rattle.std.specs.Prelude.{ℤ}
use mir.Val.{to_z, of_z}
use Rattle.rmp_wire.proofs.Taken.{fits_signed}
use Rattle.rmp_wire.specs.declared.head.Head.TheVariants.{Ext}
use Rattle.rmp_wire.specs.Heads.{IsHead, tag_byte}
use Rattle.rmp_wire.specs.Taking.{marker_of}
use Rattle.rmp_decode.specs.BufferedHeads.{HeadIn}
use Rattle.rmp_decode.proofs.BufferedHeads.{following, after_is}

-- the byte of a type that was read from it
tag_same : (a : ℕ) → a < 256 → tag_byte (cast_signed w8 a) ≡ a
tag_same a h = of_z-to_z w8 a h

-- a type as code stores it
pub tag_stored : (a : ℕ) (u : ℤ) → a < 256 → u ≡ to_z w8 a → to_z w8 (of_z w8 u) ≡ cast_signed w8 a
tag_stored a u h e = ap (λ t. to_z w8 (of_z w8 t)) e ∙ to_z-of_z w8 (cast_signed w8 a) (fits_signed w8 a h)

-- a marker that tells the length, with the type after it
abbrev pub TellsLength : ℕ → ℕ → Type 0
TellsLength b n = (a : ℕ) → a < 256 → IsHead (Ext n (cast_signed w8 a)) (b ∷ tag_byte (cast_signed w8 a) ∷ [])

pub ext_1 : TellsLength 0xd4 1
unfolding IsHead
ext_1 a h = inl (refl, fits_signed w8 a h, refl)

pub ext_2 : TellsLength 0xd5 2
unfolding IsHead
ext_2 a h = inr (inl (refl, fits_signed w8 a h, refl))

pub ext_4 : TellsLength 0xd6 4
unfolding IsHead
ext_4 a h = inr (inr (inl (refl, fits_signed w8 a h, refl)))

pub ext_8 : TellsLength 0xd7 8
unfolding IsHead
ext_8 a h = inr (inr (inr (inl (refl, fits_signed w8 a h, refl))))

pub ext_16 : TellsLength 0xd8 16
unfolding IsHead
ext_16 a h = inr (inr (inr (inr (inl (refl, fits_signed w8 a h, refl)))))

fixed_at : (x n a : ℕ) (ys : List ℕ) → TellsLength x n → a < 256 → HeadIn false 2 (Ext n (cast_signed w8 a)) (x ∷ (a ∷ ys))
fixed_at x n a ys p h = record {
  marker = marker_of x;
  starts = record {
    byte = x;
    following = a ∷ [];
    rest = ys;
    front = refl;
    is_marker = refl;
    is_head = subst (λ t. IsHead (Ext n (cast_signed w8 a)) (x ∷ t ∷ [])) (tag_same a h) (p a h);
  };
  long = refl;
}

fixed_after : (x n : ℕ) (ys : List ℕ) (u : ℤ) → TellsLength x n → 1 ≤ length ys → ((i : ℕ) → get_or ys i 0 < 256) → u ≡ to_z w8 (get_or ys 0 0)
    → HeadIn false 2 (Ext n (to_z w8 (of_z w8 u))) (x ∷ ys)
fixed_after x n [] u p m f s = absurd (omega arith)
fixed_after x n (a ∷ ys) u p m f s = subst (λ z. HeadIn false 2 (Ext n z) (x ∷ (a ∷ ys))) (sym (tag_stored a u (f 0) s)) (fixed_at x n a ys p (f 0))

pub fixed_starts : (b n : ℕ) → TellsLength b n → (xs : List ℕ) (u : ℤ) → 1 ≤ length xs → get_or xs 0 0 ≡ b → 1 ≤ length (following xs)
    → ((i : ℕ) → get_or xs i 0 < 256) → u ≡ to_z w8 (get_or (following xs) 0 0) → HeadIn false 2 (Ext n (to_z w8 (of_z w8 u))) xs
fixed_starts b n p [] u l e m f s = absurd (omega arith)
fixed_starts b n p (x ∷ ys) u l e m f s =
    fixed_after x n ys u (subst (λ k. TellsLength k n) (sym e) p) (rw (after_is x ys) at m) (λ i. f (suc i)) (rw (after_is x ys) at s)

short_head : (n a : ℕ) → n < 256 → a < 256 → IsHead (Ext n (cast_signed w8 a)) (0xc7 ∷ n ∷ tag_byte (cast_signed w8 a) ∷ [])
unfolding IsHead
short_head n a l h = inr (inr (inr (inr (inr (inl (l, fits_signed w8 a h, ap (λ k. 0xc7 ∷ k ∷ tag_byte (cast_signed w8 a) ∷ []) (omega arith)))))))

short_at : (x n a : ℕ) (ys : List ℕ) → x ≡ 0xc7 → n < 256 → a < 256 → HeadIn false 3 (Ext n (cast_signed w8 a)) (x ∷ (n ∷ a ∷ ys))
short_at x n a ys e l h = record {
  marker = marker_of x;
  starts = record {
    byte = x;
    following = n ∷ a ∷ [];
    rest = ys;
    front = refl;
    is_marker = refl;
    is_head = subst (λ k. IsHead (Ext n (cast_signed w8 a)) (k ∷ n ∷ a ∷ [])) (sym e)
        (subst (λ t. IsHead (Ext n (cast_signed w8 a)) (0xc7 ∷ n ∷ t ∷ [])) (tag_same a h) (short_head n a l h));
  };
  long = refl;
}

short_after : (x : ℕ) (ys : List ℕ) (v : ℕ) (u : ℤ) → x ≡ 0xc7 → 2 ≤ length ys → ((i : ℕ) → get_or ys i 0 < 256) → v ≡ get_or ys 0 0
    → u ≡ to_z w8 (get_or ys 1 0) → HeadIn false 3 (Ext v (to_z w8 (of_z w8 u))) (x ∷ ys)
short_after x [] v u e m f q s = absurd (omega arith)
short_after x (n ∷ []) v u e m f q s = absurd (omega arith)
short_after x (n ∷ a ∷ ys) v u e m f q s =
    subst (λ k. HeadIn false 3 (Ext k (to_z w8 (of_z w8 u))) (x ∷ (n ∷ a ∷ ys))) (sym q)
    (subst (λ z. HeadIn false 3 (Ext n z) (x ∷ (n ∷ a ∷ ys))) (sym (tag_stored a u (f 1) s)) (short_at x n a ys e (f 0) (f 1)))

pub short_starts : (xs : List ℕ) (v : ℕ) (u : ℤ) → 1 ≤ length xs → get_or xs 0 0 ≡ 0xc7 → 2 ≤ length (following xs) → ((i : ℕ) → get_or xs i 0 < 256)
    → v ≡ get_or (following xs) 0 0 → u ≡ to_z w8 (get_or (following xs) 1 0) → HeadIn false 3 (Ext v (to_z w8 (of_z w8 u))) xs
short_starts [] v u l e m f q s = absurd (omega arith)
short_starts (x ∷ ys) v u l e m f q s =
    short_after x ys v u e (rw (after_is x ys) at m) (λ i. f (suc i)) (rw (after_is x ys) at q) (rw (after_is x ys) at s)
