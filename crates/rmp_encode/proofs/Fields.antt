-- The fields of a struct, and what is written of them.
use Rattle.std.proofs.Common.{◌≡◌, ℕ, ◌+◌, ◌-◌, ◌<◌, ◌≤◌, ◌^◌, List, [], ◌∷◌, ◌++◌, length, Bool, true, false, Option, None, Some, refl, sym, ◌∙◌, ap, subst, arith, append_assoc, drop, take}
use Rattle.std.specs.Borrow.{Bor}
use Rattle.std.proofs.lemmas.List.{length-drop}
use Rattle.std.proofs.Math.Seq.{take-length}
use Rattle.std.proofs.lemmas.Grind.{flat_map-append}
use Rattle.std.specs.Prelude.{◌&&◌}
use Rattle.std.specs.List.{flat_map}
use Rattle.std.specs.Option.{option_map}
use Rattle.rmp_wire.specs.Msg as msg
use Rattle.rmp_wire.specs.Msg.{Msg, item, list, map, pair}
use Rattle.rmp_wire.specs.declared.sink.Sink.{Ghosts}
use Rattle.rmp_encode.specs.declared.serializer.Serializer.{Serializer}
use Rattle.rmp_encode.specs.declared.settings.Settings.{Settings}
use Rattle.rmp_encode.specs.Data.{Data, Parts, part, Entries, entry, Fields, field, text, sequence, mapping, structure, map_or_list, lower}
use Rattle.rmp_encode.specs.Data.{lower_named, lower_values, lower_entries, lower_parts}
use Rattle.rmp_encode.specs.Going.{AreMany, IsMadeOf, IsWriting, head_at}
use Rattle.rmp_encode.specs.Ser.{settings_of}
use Rattle.rmp_encode.specs.Trees.{byte_of, entries_of, fields_by, fields_of, field_parts, mapping_of, name_parts, parts_of, push_field, sequence_of}
use Rattle.rmp_encode.specs.Trees.{structure_of, tree_of}
use Rattle.rmp_encode.proofs.Going.{made_as}
use Rattle.rmp_encode.proofs.Lists.{made_list, made_map}

-- how many haven't begun, after one more
pub element_left : (fields named : Bool) (left left' : ℕ) (d : Option Data) (rest : List (Option Data)) → fields ≡ false → left' + 1 ≡ left
    → AreMany (fields && named) left (d ∷ rest) → AreMany (fields && named) left' rest
element_left true named left left' d rest is l h = absurd cc
element_left false named left left' d rest is l h = omega (arith, l, h)

pub field_left : (fields named : Bool) (left left' : ℕ) (f : List ℕ × Option Data) (rest : List (Option Data)) → fields ≡ true → left' + 1 ≡ left
    → AreMany (fields && named) left (field_parts named f ++ rest) → AreMany (fields && named) left' rest
field_left true true left left' f rest is l h = omega (arith, l, h)
field_left true false left left' f rest is l h = omega (arith, l, h)
field_left false named left left' f rest is l h = absurd cc

module _ {W C : Type 0} (g : Ghosts W) where
  name_as : (name : List ℕ) {old now : Serializer W C} {t : Option Msg} (rest : List (Option Data)) (b : Bool) → (settings_of now).named ≡ b
      → IsWriting g old t (name_parts (settings_of old).named name ++ rest) now → IsWriting g old t (name_parts b name ++ rest) now
  name_as name {old} {now} {t} rest b is h = subst (λ n. IsWriting g old t (name_parts n name ++ rest) now)
      (ap (λ (s : Settings). s.named) (sym h.keeps.settings) ∙ is) h

  -- where structs are written without names
  pub no_name : (name : List ℕ) {old now : Serializer W C} {t : Option Msg} (rest : List (Option Data)) → (settings_of now).named ≡ false
      → IsWriting g old t (name_parts (settings_of old).named name ++ rest) now → IsWriting g old t rest now
  no_name name rest is h = name_as name rest false is h

  pub with_name : (name : List ℕ) {old now : Serializer W C} {t : Option Msg} (rest : List (Option Data)) → (settings_of now).named ≡ true
      → IsWriting g old t (name_parts (settings_of old).named name ++ rest) now → IsWriting g old t (Some (text name) ∷ rest) now
  with_name name rest is h = name_as name rest true is h

-- With names, the fields are the entries of a map.
NamedAs : Settings → Option Fields → Option Entries → Type 0
NamedAs s None None = Unit {0}
NamedAs s (Some a) (Some b) = lower_named s a ≡ lower_entries s b
NamedAs s o p = ⊥

named_more : (s : Settings) (name : List ℕ) (d : Data) (o : Option Fields) (p : Option Entries) → NamedAs s o p
    → NamedAs s (option_map (field name d) o) (option_map (entry (text name) d) p)
unfolding NamedAs lower
named_more s name d None None h = tt
named_more s name d None (Some b) h = h
named_more s name d (Some a) None h = h
named_more s name d (Some a) (Some b) h = ap (pair (msg.text name) (lower s d)) h

named_next : (s : Settings) (name : List ℕ) (d : Option Data) (o : Option Fields) (ds : List (Option Data)) → NamedAs s o (entries_of ds)
    → NamedAs s (push_field name d o) (entries_of (Some (text name) ∷ (d ∷ ds)))
unfolding NamedAs
named_next s name None o ds h = tt
named_next s name (Some d) o ds h = named_more s name d o (entries_of ds) h

named_as : (s : Settings) (fs : List (List ℕ × Option Data)) → NamedAs s (fields_of fs) (entries_of (flat_map (field_parts true) fs))
unfolding NamedAs lower
named_as s [] = refl
named_as s (f ∷ fs) = named_next s f.0 f.1 (fields_of fs) (flat_map (field_parts true) fs) (named_as s fs)

named_at : (s : Settings) (o : Option Fields) (p : Option Entries) → s.named ≡ true → NamedAs s o p
    → tree_of s (option_map structure o) ≡ tree_of s (option_map mapping p)
unfolding NamedAs lower
named_at s None None is h = refl
named_at s None (Some b) is h = absurd h
named_at s (Some a) None is h = absurd h
named_at s (Some a) (Some b) is h = ap (λ n. Some (map_or_list n (lower_named s a) (lower_values s a))) is ∙ ap (λ l. Some (map l)) h

named_tree : (s : Settings) (fs : List (List ℕ × Option Data)) → s.named ≡ true
    → tree_of s (structure_of fs) ≡ tree_of s (mapping_of (flat_map (field_parts true) fs))
unfolding structure_of mapping_of
named_tree s fs is = named_at s (fields_of fs) (entries_of (flat_map (field_parts true) fs)) is (named_as s fs)

-- Without, their values are the elements of a list.
PlainAs : Settings → Option Fields → Option Parts → Type 0
PlainAs s None None = Unit {0}
PlainAs s (Some a) (Some b) = lower_values s a ≡ lower_parts s b
PlainAs s o p = ⊥

plain_more : (s : Settings) (name : List ℕ) (d : Data) (o : Option Fields) (p : Option Parts) → PlainAs s o p
    → PlainAs s (option_map (field name d) o) (option_map (part d) p)
unfolding PlainAs lower
plain_more s name d None None h = tt
plain_more s name d None (Some b) h = h
plain_more s name d (Some a) None h = h
plain_more s name d (Some a) (Some b) h = ap (item (lower s d)) h

plain_next : (s : Settings) (name : List ℕ) (d : Option Data) (o : Option Fields) (ds : List (Option Data)) → PlainAs s o (parts_of ds)
    → PlainAs s (push_field name d o) (parts_of (d ∷ ds))
unfolding PlainAs
plain_next s name None o ds h = tt
plain_next s name (Some d) o ds h = plain_more s name d o (parts_of ds) h

plain_as : (s : Settings) (fs : List (List ℕ × Option Data)) → PlainAs s (fields_of fs) (parts_of (flat_map (field_parts false) fs))
unfolding PlainAs lower
plain_as s [] = refl
plain_as s (f ∷ fs) = plain_next s f.0 f.1 (fields_of fs) (flat_map (field_parts false) fs) (plain_as s fs)

plain_at : (s : Settings) (o : Option Fields) (p : Option Parts) → s.named ≡ false → PlainAs s o p
    → tree_of s (option_map structure o) ≡ tree_of s (option_map sequence p)
unfolding PlainAs lower
plain_at s None None is h = refl
plain_at s None (Some b) is h = absurd h
plain_at s (Some a) None is h = absurd h
plain_at s (Some a) (Some b) is h = ap (λ n. Some (map_or_list n (lower_named s a) (lower_values s a))) is ∙ ap (λ l. Some (list l)) h

plain_tree : (s : Settings) (fs : List (List ℕ × Option Data)) → s.named ≡ false
    → tree_of s (structure_of fs) ≡ tree_of s (sequence_of (flat_map (field_parts false) fs))
unfolding structure_of sequence_of
plain_tree s fs is = plain_at s (fields_of fs) (parts_of (flat_map (field_parts false) fs)) is (plain_as s fs)

-- how many parts they are
pub many_fields : (named : Bool) (fs : List (List ℕ × Option Data)) (n : ℕ) → length fs ≡ n → AreMany named n (flat_map (field_parts named) fs)
many_fields true [] n e = omega (arith, e)
many_fields true (f ∷ fs) n e = let r = many_fields true fs (length fs) refl in omega (arith, e, r)
many_fields false [] n e = e
many_fields false (f ∷ fs) n e = let r = many_fields false fs (length fs) refl in omega (arith, e, r)

made_at : (b : Bool) (s : Settings) (n : ℕ) (fs : List (List ℕ × Option Data)) → s.named ≡ b → length fs ≡ n
    → IsMadeOf s (tree_of s (structure_of fs)) (n < 2 ^ 32) (head_at b n) (flat_map (field_parts b) fs)
made_at true s n fs is e = made_as (named_tree s fs is) (made_map s n (flat_map (field_parts true) fs) (many_fields true fs n e))
made_at false s n fs is e = made_as (plain_tree s fs is) (made_list s n (flat_map (field_parts false) fs) (many_fields false fs n e))

-- a struct is made of its head and its fields
pub made_struct : (s : Settings) (n : ℕ) (fs : List (List ℕ × Option Data)) → length fs ≡ n
    → IsMadeOf s (tree_of s (structure_of fs)) (n < 2 ^ 32) (head_at s.named n) (flat_map (field_parts s.named) fs)
made_struct s n fs e = made_at s.named s n fs refl e

byte_at : (o : Option Fields) → byte_of (option_map structure o) ≡ None
byte_at None = refl
byte_at (Some fs) = refl

-- a struct is no byte
pub structure_no_byte : (fs : List (List ℕ × Option Data)) → byte_of (structure_of fs) ≡ None
unfolding structure_of
structure_no_byte fs = byte_at (fields_of fs)

-- fields with names, one after the other
pub fields_many : (ns : List (Bor (List ℕ))) (ds : List (Option Data)) (n : ℕ) → length ns ≡ n → length ds ≡ n → length (fields_by ns ds) ≡ n
fields_many ns [] n e f = f
fields_many [] (d ∷ ds) n e f = e
fields_many (x ∷ ns) (d ∷ ds) n e f = let r = fields_many ns ds (length ns) refl (omega (arith, e, f)) in omega (arith, r, e)

-- ---- fields in two parts

fields_split : (ns : List (Bor (List ℕ))) (ps qs : List (Option Data)) → length ps ≤ length ns
    → fields_by ns (ps ++ qs) ≡ fields_by (take (length ps) ns) ps ++ fields_by (drop (length ps) ns) qs
fields_split ns [] qs l = refl
fields_split [] (p ∷ ps) qs l = absurd (omega (arith, l))
fields_split (n ∷ ns) (p ∷ ps) qs l = ap (λ fs. (n.now, p) ∷ fs) (fields_split ns ps qs (omega (arith, l)))

-- the first fields, and then the others
pub named_halves : {W C : Type 0} (g : Ghosts W) {old now : Serializer W C} {t : Option Msg} (ns : List (Bor (List ℕ))) (k : ℕ)
    (ps qs rest : List (Option Data)) → length ps ≡ k → k ≤ length ns
    → IsWriting g old t (flat_map (field_parts (settings_of old).named) (fields_by ns (ps ++ qs)) ++ rest) now
    → IsWriting g old t (flat_map (field_parts (settings_of old).named) (fields_by (take k ns) ps)
    ++ (flat_map (field_parts (settings_of old).named) (fields_by (take (length ns - k) (drop k ns)) qs) ++ rest)) now
named_halves g {old} {now} {t} ns k ps qs rest e l h =
    let f = field_parts (settings_of old).named in
    let a : List (List ℕ × Option Data) = fields_by (take k ns) ps in
    let b : List (List ℕ × Option Data) = fields_by (drop k ns) qs in
    let all : take (length ns - k) (drop k ns) ≡ drop k ns = subst (λ i. take i (drop k ns) ≡ drop k ns) (length-drop k ns) (take-length (drop k ns)) in
    let split : fields_by ns (ps ++ qs) ≡ a ++ b = subst (λ i. i ≤ length ns → fields_by ns (ps ++ qs) ≡ fields_by (take i ns) ps
    ++ fields_by (drop i ns) qs) e (fields_split ns ps qs) l in
    subst (λ l. IsWriting g old t (flat_map f a ++ (flat_map f (fields_by l qs) ++ rest)) now) (sym all)
    (subst (λ x. IsWriting g old t x now) (ap (λ x. flat_map f x ++ rest) split ∙ ap (λ x. x ++ rest) (flat_map-append f a b)
    ∙ append_assoc (flat_map f a) (flat_map f b) rest) h)
