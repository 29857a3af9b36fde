-- What notes are written as, and what their messages are read as.
use Rattle.std.specs.Prelude.{[], ◌∷◌, ◌≤◌, ◌≢◌, true, false, codes, IsSomeAnd}
use Rattle.std.proofs.Common.{◌≡◌, ◌∙◌, ℕ, List, Option, Some, None, map, refl, sym, ap, subst, arith}
use Rattle.std.specs.Global.{Vec}
use Rattle.std.specs.Option.{option_map}
use Rattle.std.specs.String.{string_bytes}
use Rattle.std.proofs.lemmas.List.{append-nil}
use Rattle.rmp_wire.specs.Msg as msg
use Rattle.rmp_wire.specs.Msg.{Msg, Msgs, no_items, item, list, depth, depth_all}
use Rattle.rmp_wire.specs.Spelling.{canon, Fits, Spells}
use Rattle.rmp_wire.proofs.Spellings.{canon_spells}
use Rattle.rmp_wire.proofs.Unique.{spelled_once}
use Rattle.rmp_encode.specs.Calls.{default_settings, IsSpelled, ToVecFails}
use Rattle.rmp_encode.specs.Data.{Data, Parts, no_parts, part, no_fields, field, structure, slice, text, lower, lower_parts, packs_slice}
use Rattle.rmp_encode.specs.Trees.{HasTree, tree_of, parts_of, slice_of, structure_of}
use Rattle.rmp_encode.specs.declared.error.Error.{Error}
use Rattle.rmp_encode.specs.declared.error.Error.TheVariants as errors
use Rattle.rmp_serde.proofs.CanonicalReads.{fails_without}
use Rattle.rmp_decode.specs.Fields.{OfFields, Field, Absent, NoField}
use Rattle.rmp_decode.specs.Law.{Begins, Readable}
use Rattle.rmp_decode.specs.Read.{IsRaw}
use Rattle.rmp_decode.specs.Rows.{ReadsEach}
use Rattle.rmp_decode.specs.Seq.{OfRow}
use Rattle.example_notes.specs.declared.note.Note.{Note}
use Rattle.example_notes.specs.Saved.{message, messages, AreSame, IsSaved}

-- ---- what is written

-- what the derived code says that a note is written as
abbrev pub note_data : Note → Option Data
note_data n = structure_of ((codes "title", Some (text (string_bytes n.title))) ∷ ((codes "text", Some (text (string_bytes n.text))) ∷ []))

note_part : Note → Data
note_part n = structure (field (codes "title") (text (string_bytes n.title)) (field (codes "text") (text (string_bytes n.text)) no_fields))

parts : List Note → Parts
parts [] = no_parts
parts (n ∷ ns) = part (note_part n) (parts ns)

parts_are : (ns : List Note) → parts_of (map note_data ns) ≡ Some (parts ns)
unfolding note_part parts structure_of
parts_are [] = refl
parts_are (n ∷ ns) = ap (λ o. option_map (part (note_part n)) o) (parts_are ns)

lowered : (ns : List Note) → lower_parts default_settings (parts ns) ≡ messages ns
unfolding note_part parts lower lower_parts
lowered [] = refl
lowered (n ∷ ns) = ap (item (message n)) (lowered ns)

list_is : (ns : List Note) → lower default_settings (slice (parts ns)) ≡ list (messages ns)
unfolding note_part parts lower lower_parts packs_slice
list_is [] = refl
list_is (n ∷ ns) = ap (λ ms. list (item (message n) ms)) (lowered ns)

written_as : (ns : List Note) → tree_of default_settings (slice_of (map note_data ns)) ≡ Some (list (messages ns))
unfolding slice_of
written_as ns = ap (λ o. tree_of default_settings (option_map slice o)) (parts_are ns) ∙ ap Some (list_is ns)

some_same : (m n : Msg) → Some m ≡ Some n → m ≡ n
some_same m n e = cc

pub is_saved : (notes : Vec Note) (bytes : List ℕ) → IsSpelled (tree_of default_settings (slice_of (map note_data notes.items))) bytes → IsSaved notes bytes
is_saved notes bytes s =
    let same : s.tree ≡ list (messages notes.items) = some_same _ _ (sym s.is ∙ written_as notes.items) in
    record { room = subst Fits same s.fits; is = s.canonical ∙ ap canon same }

has_tree : (notes : Vec Note) → Fits (list (messages notes.items)) → HasTree (tree_of default_settings (slice_of (map note_data notes.items)))
unfolding HasTree
has_tree notes fits = subst (λ t. IsSomeAnd t Fits) (sym (written_as notes.items)) fits

-- notes whose lengths fit are refused only where memory is
pub only_memory : (notes : Vec Note) (e : Error) → ToVecFails (tree_of default_settings (slice_of (map note_data notes.items))) e → e ≢ errors.OutOfMemory
    → Fits (list (messages notes.items)) → ⊥
only_memory notes e f n fits = fails_without _ e f n (has_tree notes fits)

-- ---- what is read

-- what the derived code says that a note is read from
abbrev pub reads_note : Msg → Note → Type 0
reads_note m n = OfFields (codes "title" ∷ (codes "text" ∷ [])) (Field (λ j. IsRaw j (string_bytes n.title)) (Absent None n.title)
    (Field (λ j. IsRaw j (string_bytes n.text)) (Absent None n.text) NoField)) m

abbrev pub reads_notes : Msg → Vec Note → Type 0
reads_notes m notes = OfRow (λ ms. ReadsEach reads_note ms notes.items) m

read_back : (ns : List Note) → ReadsEach reads_note (messages ns) ns
read_back [] = tt
read_back (n ∷ ns) = (((true, refl), ((true, refl), tt)), read_back ns)

same_text : (s t : List ℕ) → IsRaw (msg.text s) t → t ≡ s
same_text s t (true, e) = cc
same_text s t (false, e) = cc

read_once : (ns ks : List Note) → ReadsEach reads_note (messages ns) ks → messages ks ≡ messages ns
read_once [] [] r = refl
read_once [] (k ∷ ks) r = absurd r
read_once (n ∷ ns) [] r = absurd r
read_once (n ∷ ns) (k ∷ ks) r =
    let title : string_bytes k.title ≡ string_bytes n.title = same_text _ _ r.0.0 in
    let words : string_bytes k.text ≡ string_bytes n.text = same_text _ _ r.0.1.0 in
    let more : messages ks ≡ messages ns = read_once ns ks r.1 in
    cc

shallow : (ns : List Note) → depth_all (messages ns) ≤ 1
shallow [] = omega arith
shallow (n ∷ ns) = let others : depth_all (messages ns) ≤ 1 = shallow ns in omega (arith, others)

-- what was saved is what is read
pub back : (bytes : List ℕ) (notes : Vec Note) → Begins Spells (λ m. reads_notes m notes) 1024 bytes
    → (saved : Vec Note) → IsSaved saved bytes → AreSame notes saved
back bytes notes b saved s =
    let m = list (messages saved.items) in
    let one = spelled_once b.tree m b.bytes (canon m) b.rest [] b.spelled (canon_spells m s.room) (sym b.front ∙ s.is ∙ sym (append-nil (canon m))) in
    read_once saved.items notes.items (subst (λ k. reads_notes k notes) one.1 b.holds)

-- what was saved is read
pub whole : (bytes : List ℕ) (saved : Vec Note) → IsSaved saved bytes → Begins Spells (Readable reads_notes) 1024 bytes
whole bytes saved s =
    record {
      bytes = canon (list (messages saved.items));
      rest = [];
      tree = list (messages saved.items);
      front = s.is ∙ sym (append-nil (canon (list (messages saved.items))));
      spelled = canon_spells (list (messages saved.items)) s.room;
      fits = let all : depth_all (messages saved.items) ≤ 1 = shallow saved.items in omega (arith, all);
      holds = (saved, read_back saved.items);
    }
