-- Characters that are decoded in the buffer.
use Rattle.std.proofs.Common.{◌≡◌, ◌∙◌, sym, ap, subst, refl, arith, ℕ, ◌+◌, ◌/◌, ◌%◌, ◌<◌, ◌≤◌, List, [], ◌∷◌, ◌++◌, length, get_or, append_assoc}
use Rattle.std.proofs.Common.{Option, None, Some}
use lib.Utf8.{low_scalar}
use Rattle.std.proofs.lemmas.Bool.{cond-true, cond-false, le-ltb, lt-ltb}
use Rattle.std.proofs.lemmas.Str.{encode_ascii}
use Rattle.std.specs.Char.{IsScalar, encode_utf8}
use Rattle.std.specs.Io.KnownBytes.{Consumes}
use Rattle.std.specs.Prelude.{SomeIff, IfSome}
use Rattle.rmp_wire.specs.Sources.{IsFront, Skips}
use Rattle.rmp_wire.specs.Spelling.{IsBytes}
use Rattle.rmp_decode.specs.Ahead.{SpellsChar, CharIn}
use Rattle.rmp_decode.proofs.ContentErrors.{same_front}

-- ---- the UTF-8 of a character by its length

two : (c : ℕ) → 0x80 ≤ c → c < 0x800 → encode_utf8 c ≡ (192 + c / 64) ∷ (128 + c % 64) ∷ []
unfolding encode_utf8
two c low high = cond-false _ _ _ (le-ltb c 128 low) ∙ cond-true _ _ _ (lt-ltb c 2048 high)

three : (c : ℕ) → 0x800 ≤ c → c < 0x10000 → encode_utf8 c ≡ (224 + c / 4096) ∷ (128 + (c / 64) % 64) ∷ (128 + c % 64) ∷ []
unfolding encode_utf8
three c low high = cond-false _ _ _ (le-ltb c 128 (omega arith)) ∙ cond-false _ _ _ (le-ltb c 2048 low) ∙ cond-true _ _ _ (lt-ltb c 65536 high)

four : (c : ℕ) → 0x10000 ≤ c → encode_utf8 c ≡ (240 + c / 262144) ∷ (128 + (c / 4096) % 64) ∷ (128 + (c / 64) % 64) ∷ (128 + c % 64) ∷ []
unfolding encode_utf8
four c low =
    cond-false _ _ _ (le-ltb c 128 (omega arith)) ∙ cond-false _ _ _ (le-ltb c 2048 (omega arith)) ∙ cond-false _ _ _ (le-ltb c 65536 low)

pub char_2 : (r : Option ℕ) (code a b : ℕ) → SomeIff r (IsScalar code) code → 0x80 ≤ code → code < 0x800 → a ≡ 192 + code / 64 → b ≡ 128 + code % 64
    → IfSome r (λ c. SpellsChar c (a ∷ b ∷ []))
char_2 None code a b s l h p q = tt
char_2 (Some c) code a b s l h p q = record {
  scalar = subst IsScalar (sym s.1) s.0;
  are_bytes = (omega (arith, p, h), (omega (arith, q), tt));
  spelled = rw (s.1, p, q) (two code l h);
}

pub char_3 : (r : Option ℕ) (code a b d : ℕ) → SomeIff r (IsScalar code) code → 0x800 ≤ code → code < 0x10000 → a ≡ 224 + code / 4096
    → b ≡ 128 + (code / 64) % 64 → d ≡ 128 + code % 64 → IfSome r (λ c. SpellsChar c (a ∷ b ∷ d ∷ []))
char_3 None code a b d s l h p q t = tt
char_3 (Some c) code a b d s l h p q t = record {
  scalar = subst IsScalar (sym s.1) s.0;
  are_bytes = (omega (arith, p, h), (omega (arith, q), (omega (arith, t), tt)));
  spelled = rw (s.1, p, q, t) (three code l h);
}

pub char_4 : (r : Option ℕ) (code a b d e : ℕ) → SomeIff r (IsScalar code) code → 0x10000 ≤ code → code < 0x110000 → a ≡ 240 + code / 262144
    → b ≡ 128 + (code / 4096) % 64 → d ≡ 128 + (code / 64) % 64 → e ≡ 128 + code % 64 → IfSome r (λ c. SpellsChar c (a ∷ b ∷ d ∷ e ∷ []))
char_4 None code a b d e s l h p q t u = tt
char_4 (Some c) code a b d e s l h p q t u = record {
  scalar = subst IsScalar (sym s.1) s.0;
  are_bytes = (omega (arith, p, h), (omega (arith, q), (omega (arith, t), (omega (arith, u), tt))));
  spelled = rw (s.1, p, q, t, u) (four code l);
}

-- ---- the bytes begin with it

pub lies_1 : (front : List ℕ) (c len : ℕ) → len ≡ 1 → 1 ≤ length front → get_or front 0 0 < 128 → c ≡ get_or front 0 0 → CharIn c len front
lies_1 [] c len i l b e = absurd (omega arith)
lies_1 (x ∷ xs) c len i l b e = record {
  bytes = x ∷ [];
  spells = record {
    scalar = low_scalar c (omega (arith, b, e));
    are_bytes = (omega (arith, b), tt);
    spelled = ap encode_utf8 e ∙ encode_ascii x b;
  };
  long = sym i;
  following = xs;
  begins = refl;
}

pub lies_2 : (r : Option ℕ) (front : List ℕ) (len : ℕ) → len ≡ 2 → 2 ≤ length front
    → IfSome r (λ c. SpellsChar c (get_or front 0 0 ∷ get_or front 1 0 ∷ [])) → IfSome r (λ c. CharIn c len front)
lies_2 None front len i l s = tt
lies_2 (Some c) [] len i l s = absurd (omega arith)
lies_2 (Some c) (x ∷ []) len i l s = absurd (omega arith)
lies_2 (Some c) (x ∷ y ∷ xs) len i l s = record { bytes = x ∷ y ∷ []; spells = s; long = sym i; following = xs; begins = refl }

pub lies_3 : (r : Option ℕ) (front : List ℕ) (len : ℕ) → len ≡ 3 → 3 ≤ length front
    → IfSome r (λ c. SpellsChar c (get_or front 0 0 ∷ get_or front 1 0 ∷ get_or front 2 0 ∷ [])) → IfSome r (λ c. CharIn c len front)
lies_3 None front len i l s = tt
lies_3 (Some c) [] len i l s = absurd (omega arith)
lies_3 (Some c) (x ∷ []) len i l s = absurd (omega arith)
lies_3 (Some c) (x ∷ y ∷ []) len i l s = absurd (omega arith)
lies_3 (Some c) (x ∷ y ∷ z ∷ xs) len i l s = record { bytes = x ∷ y ∷ z ∷ []; spells = s; long = sym i; following = xs; begins = refl }

pub lies_4 : (r : Option ℕ) (front : List ℕ) (len : ℕ) → len ≡ 4 → 4 ≤ length front
    → IfSome r (λ c. SpellsChar c (get_or front 0 0 ∷ get_or front 1 0 ∷ get_or front 2 0 ∷ get_or front 3 0 ∷ [])) → IfSome r (λ c. CharIn c len front)
lies_4 None front len i l s = tt
lies_4 (Some c) [] len i l s = absurd (omega arith)
lies_4 (Some c) (x ∷ []) len i l s = absurd (omega arith)
lies_4 (Some c) (x ∷ y ∷ []) len i l s = absurd (omega arith)
lies_4 (Some c) (x ∷ y ∷ z ∷ []) len i l s = absurd (omega arith)
lies_4 (Some c) (x ∷ y ∷ z ∷ w ∷ xs) len i l s = record { bytes = x ∷ y ∷ z ∷ w ∷ []; spells = s; long = sym i; following = xs; begins = refl }

-- ---- it is taken

bytes_consumed : (c len : ℕ) (front : List ℕ) (known k : Option (List ℕ)) → (a : CharIn c len front) → IsFront front known → Skips len known k
    → Consumes known k a.bytes
bytes_consumed c len front None k a f s = tt
bytes_consumed c len front (Some xs) None a f s = absurd s.taken
bytes_consumed c len front (Some xs) (Some ys) a f s =
    let split : xs ≡ a.bytes ++ (a.following ++ f.0) = f.1 ∙ ap (λ t. t ++ f.0) a.begins ∙ append_assoc a.bytes a.following f.0 in
    let same : s.bytes ≡ a.bytes = same_front s.bytes a.bytes ys (a.following ++ f.0) (s.long ∙ sym a.long) (sym s.taken ∙ split) in
    subst (λ b. xs ≡ b ++ ys) same s.taken

pub char_consumed : (c len : ℕ) (front : List ℕ) (known k : Option (List ℕ)) → CharIn c len front → IsFront front known → Skips len known k
    → IsScalar c × (length (encode_utf8 c) ≡ len) × IsBytes (encode_utf8 c) × Consumes known k (encode_utf8 c)
char_consumed c len front known k a f s =
    let e = sym a.spells.spelled in
    let taken = bytes_consumed c len front known k a f s in
    (a.spells.scalar, ap length (sym e) ∙ a.long, subst IsBytes e a.spells.are_bytes, subst (Consumes known k) e taken)
