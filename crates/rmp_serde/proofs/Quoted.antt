-- Texts as JSON strings, piece by piece.
use Rattle.std.proofs.Common.{arith, ◌≡◌, ◌∙◌, ℕ, ◌<◌, List, [], ◌∷◌, ◌++◌, refl, sym, ap, append_assoc, append-nil}
use Rattle.std.specs.Prelude.{true, false, flat_map}
use Rattle.std.proofs.lemmas.Bool.Decides.{nat_tests}
use Rattle.rmp_serde.specs.Quoted.{is_escaped, in_string}

pub escaped_ascii : (b : ℕ) → is_escaped b ≡ true → b < 128
escaped_ascii b e = grind (arith, nat_tests)

-- a byte that isn't escaped is as it is
pub plain_byte : (b : ℕ) → is_escaped b ≡ false → in_string b ≡ b ∷ []
plain_byte b e = rw e refl

pub escapes_append : (xs ys : List ℕ) → flat_map in_string (xs ++ ys) ≡ flat_map in_string xs ++ flat_map in_string ys
escapes_append [] ys = refl
escapes_append (x ∷ xs) ys =
    ap (λ s. in_string x ++ s) (escapes_append xs ys) ∙ sym (append_assoc (in_string x) (flat_map in_string xs) (flat_map in_string ys))

-- one more byte that isn't escaped
pub plain_push : (xs ys : List ℕ) (b : ℕ) → ys ≡ xs ++ b ∷ [] → flat_map in_string xs ≡ xs → is_escaped b ≡ false → flat_map in_string ys ≡ ys
plain_push xs ys b more plain e =
    ap (flat_map in_string) more ∙ escapes_append xs (b ∷ []) ∙ ap (λ s. s ++ (in_string b ++ [])) plain
    ∙ ap (λ s. xs ++ s) (append-nil (in_string b) ∙ plain_byte b e) ∙ sym more

-- a piece and the escaped byte after it
pub piece_put : (done plain after left all : List ℕ) (b : ℕ) → done ++ flat_map in_string left ≡ flat_map in_string all → left ≡ plain ++ b ∷ after
    → flat_map in_string plain ≡ plain → done ++ plain ++ in_string b ++ flat_map in_string after ≡ flat_map in_string all
piece_put done plain after left all b before split same =
    append_assoc (done ++ plain) (in_string b) (flat_map in_string after) ∙ append_assoc done plain (in_string b ++ flat_map in_string after)
    ∙ ap (λ s. done ++ s) (ap (λ s. s ++ (in_string b ++ flat_map in_string after)) (sym same) ∙ sym (escapes_append plain (b ∷ after))
    ∙ ap (flat_map in_string) (sym split)) ∙ before

-- the last piece
pub last_put : (done plain left all : List ℕ) → done ++ flat_map in_string left ≡ flat_map in_string all → left ≡ plain
    → flat_map in_string plain ≡ plain → done ++ plain ≡ flat_map in_string all
last_put done plain left all before is same = ap (λ s. done ++ s) (sym same ∙ ap (flat_map in_string) (sym is)) ∙ before
