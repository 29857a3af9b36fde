-- What a variant is made of.
use Rattle.std.proofs.Common.{◌≡◌, ℕ, ◌<◌, ◌+◌, nat_lt, ◌^◌, List, [], ◌∷◌, ◌++◌, length, true, false, Option, None, Some, refl, sym, ◌∙◌, ap, subst, arith, take, append_assoc, append-nil}
use Rattle.std.specs.List.{flat_map}
use Rattle.std.specs.Option.{option_map}
use Rattle.std.proofs.lemmas.Bool.Decides.{nat_tests}
use Rattle.std.proofs.lemmas.List.{take_at}
use Rattle.rmp_wire.specs.declared.head.Head.TheVariants.{Text}
use Rattle.rmp_wire.specs.Heads.{canon_head, fits_head}
use Rattle.rmp_wire.specs.Msg as msg
use Rattle.rmp_wire.specs.Msg.{Msg}
use Rattle.rmp_wire.specs.Spelling.{canon, IsBytes}
use Rattle.rmp_encode.specs.declared.settings.Settings.{Settings}
use Rattle.rmp_encode.specs.Data.{Data, Parts, Fields, tuple_variant, struct_variant, structure, sequence, lower, variant}
use Rattle.rmp_encode.specs.Going.{IsMadeOf, head_at}
use Rattle.rmp_encode.specs.Trees.{HasTree, byte_of, field_parts, fields_of, map_head, parts_of, sequence_of, structure_of, newtype_variant_of}
use Rattle.rmp_encode.specs.Trees.{tuple_variant_of, struct_variant_of, spell, spelling, tree_of, variant_head}
use Rattle.rmp_encode.proofs.Fields.{made_struct}
use Rattle.rmp_encode.proofs.Going.{made_as}
use Rattle.rmp_encode.proofs.Lists.{made_list}

-- its content's tree, after a name
abbrev following : List ℕ → Option Msg → Option Msg
following name t = option_map (variant name) t

after_may : (name : List ℕ) (t : Option Msg) → length name < 2 ^ 32 → IsBytes name → HasTree t → HasTree (following name t)
unfolding HasTree fits_head
after_may name None lt b h = h
after_may name (Some m) lt b h = (omega arith, ((lt, b), h, tt))

after_can : (name : List ℕ) (t : Option Msg) → HasTree (following name t) → (length name < 2 ^ 32) × HasTree t
unfolding HasTree fits_head
after_can name None h = absurd h
after_can name (Some m) h = (h.1.0.0, h.1.1)

after_text : (name : List ℕ) (t : Option Msg) → HasTree (following name t) → variant_head name ++ spell t ≡ spell (following name t)
unfolding HasTree spell
after_text name None h = absurd h
after_text name (Some m) h = append_assoc (map_head 1) (canon (msg.text name)) (canon m)
    ∙ ap (λ l. map_head 1 ++ (canon (msg.text name) ++ l)) (sym (append-nil (canon m)))

-- what the content is made of, after the name
pub made_after : {s : Settings} {t : Option Msg} {P : Type 0} {head : List ℕ} {parts : List (Option Data)} (name : List ℕ) → IsBytes name
    → IsMadeOf s t P head parts
    → IsMadeOf s (following name t) ((length name < 2 ^ 32) × P) (variant_head name ++ head) parts
made_after {s} {t} {P} {head} {parts} name b h = record {
  may = λ p a. after_may name t p.0 b (h.may p.1 a);
  can = λ k. let n = after_can name t k in let a = h.can n.1 in ((n.0, a.0), a.1);
  text = λ k. append_assoc (variant_head name) head (flat_map (spelling s) parts) ∙ ap (λ l. variant_head name ++ l) (h.text (after_can name t k).1)
      ∙ after_text name t k;
}

newtype_tree : (s : Settings) (name : List ℕ) (d : Option Data) → tree_of s (newtype_variant_of name d) ≡ following name (tree_of s d)
unfolding newtype_variant_of lower
newtype_tree s name None = refl
newtype_tree s name (Some d) = refl

tuple_tree_at : (s : Settings) (name : List ℕ) (o : Option Parts)
    → tree_of s (option_map (tuple_variant name) o) ≡ following name (tree_of s (option_map sequence o))
unfolding lower
tuple_tree_at s name None = refl
tuple_tree_at s name (Some ds) = refl

struct_tree_at : (s : Settings) (name : List ℕ) (o : Option Fields)
    → tree_of s (option_map (struct_variant name) o) ≡ following name (tree_of s (option_map structure o))
unfolding lower
struct_tree_at s name None = refl
struct_tree_at s name (Some fs) = refl

made_one : (s : Settings) (d : Option Data) → IsMadeOf s (tree_of s d) (Unit {0}) [] (d ∷ [])
made_one s d = record { may = λ _ a. a.0; can = λ h. (tt, (h, tt)); text = λ _. append-nil (spelling s d) }

pub made_newtype : (s : Settings) (name : List ℕ) (d : Option Data) → IsBytes name
    → IsMadeOf s (tree_of s (newtype_variant_of name d)) ((length name < 2 ^ 32) × Unit {0}) (variant_head name) (d ∷ [])
made_newtype s name d b =
    subst (λ l. IsMadeOf s (tree_of s (newtype_variant_of name d)) ((length name < 2 ^ 32) × Unit {0}) l (d ∷ [])) (append-nil (variant_head name))
    (made_as (newtype_tree s name d) (made_after name b (made_one s d)))

pub made_tuple_variant : (s : Settings) (name : List ℕ) (n : ℕ) (ds : List (Option Data)) → IsBytes name → length ds ≡ n
    → IsMadeOf s (tree_of s (tuple_variant_of name ds)) ((length name < 2 ^ 32) × (n < 2 ^ 32)) (variant_head name ++ head_at false n) ds
unfolding tuple_variant_of sequence_of
made_tuple_variant s name n ds b e = made_as (tuple_tree_at s name (parts_of ds)) (made_after name b (made_list s n ds e))

pub made_struct_variant : (s : Settings) (name : List ℕ) (n : ℕ) (fs : List (List ℕ × Option Data)) → IsBytes name → length fs ≡ n
    → IsMadeOf s (tree_of s (struct_variant_of name fs)) ((length name < 2 ^ 32) × (n < 2 ^ 32)) (variant_head name ++ head_at s.named n)
    (flat_map (field_parts s.named) fs)
unfolding struct_variant_of structure_of
made_struct_variant s name n fs b e = made_as (struct_tree_at s name (fields_of fs)) (made_after name b (made_struct s n fs e))

-- no variant is a byte
pub newtype_no_byte : (name : List ℕ) (d : Option Data) → byte_of (newtype_variant_of name d) ≡ None
unfolding newtype_variant_of
newtype_no_byte name None = refl
newtype_no_byte name (Some d) = refl

tuple_byte_at : (name : List ℕ) (o : Option Parts) → byte_of (option_map (tuple_variant name) o) ≡ None
tuple_byte_at name None = refl
tuple_byte_at name (Some ds) = refl

pub tuple_variant_no_byte : (name : List ℕ) (ds : List (Option Data)) → byte_of (tuple_variant_of name ds) ≡ None
unfolding tuple_variant_of
tuple_variant_no_byte name ds = tuple_byte_at name (parts_of ds)

struct_byte_at : (name : List ℕ) (o : Option Fields) → byte_of (option_map (struct_variant name) o) ≡ None
struct_byte_at name None = refl
struct_byte_at name (Some fs) = refl

pub struct_variant_no_byte : (name : List ℕ) (fs : List (List ℕ × Option Data)) → byte_of (struct_variant_of name fs) ≡ None
unfolding struct_variant_of
struct_variant_no_byte name fs = struct_byte_at name (fields_of fs)

-- the head of a short text
pub word_head : (n : ℕ) → n < 32 → canon_head (Text n) ≡ (0xa0 + n) ∷ []
unfolding canon_head
word_head n l = let t : nat_lt n 32 ≡ true = grind (arith, nat_tests) in rw t refl

-- a short text: its head and its bytes, where each copy of the bytes has its own name
pub short_piece : (s bytes copied rest : List ℕ) → bytes ≡ s → copied ≡ bytes → length s < 32
    → take (1 + length bytes) ((0xa0 + length bytes) ∷ (copied ++ rest)) ≡ canon (msg.text s)
short_piece s bytes copied rest e f l =
    rw (f, e) (take_at ((0xa0 + length s) ∷ s) rest (1 + length s) (omega arith) ∙ sym (ap (λ h. h ++ s) (word_head (length s) l)))
