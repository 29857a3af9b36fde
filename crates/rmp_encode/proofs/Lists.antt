-- The tree of a list or a map of values, from the trees of the values.
use Rattle.std.proofs.Common.{◌≡◌, ℕ, zero, suc, ◌+◌, ◌<◌, ◌^◌, List, [], ◌∷◌, ◌++◌, length, Bool, true, false, Option, None, Some, refl, sym, ◌∙◌, ap, subst, arith}
use Rattle.std.specs.List.{flat_map, AllByRecursion}
use Rattle.std.specs.Option.{option_map}
use Rattle.rmp_wire.proofs.Writing.{head_some}
use Rattle.rmp_wire.specs.Heads.{fits_head}
use Rattle.rmp_wire.specs.declared.head.Head.TheVariants.{Array, Map}
use Rattle.rmp_wire.specs.Msg.{count, count_pairs}
use Rattle.rmp_wire.specs.Spelling.{FitsAll, FitsPairs, canon, canon_all, canon_pairs}
use Rattle.rmp_encode.specs.declared.settings.Settings.{Settings}
use Rattle.rmp_encode.specs.Data.{Data, Parts, part, sequence, Entries, entry, mapping, lower, lower_parts, lower_entries}
use Rattle.rmp_encode.specs.Going.{AreMany, head_at, open_of, IsMadeOf}
use Rattle.rmp_encode.specs.Trees.{Has, HasTree, array_head, map_head, byte_of, parts_of, entries_of, in_turn, sequence_of, mapping_of, spell}
use Rattle.rmp_encode.specs.Trees.{spelling, tree_of}

-- what the data of a list say of its parts
unfoldable pub Tells : Settings → List (Option Data) → Option Parts → Type 0
Tells s ds None = ¬ AllByRecursion (Has s) ds
Tells s ds (Some es) =
    (count (lower_parts s es) ≡ length ds) × (canon_all (lower_parts s es) ≡ flat_map (spelling s) ds)
    × (FitsAll (lower_parts s es) → AllByRecursion (Has s) ds) × (AllByRecursion (Has s) ds → FitsAll (lower_parts s es))

tells_more : (s : Settings) (d : Data) (ds : List (Option Data)) (o : Option Parts) → Tells s ds o → Tells s (Some d ∷ ds) (option_map (part d) o)
unfolding Tells lower HasTree spell
tells_more s d ds None h = λ k. h k.1
tells_more s d ds (Some es) h = (ap suc h.0, ap (λ l. canon (lower s d) ++ l) h.1, λ k. (k.0, h.2 k.1), λ k. (k.0, h.3 k.1))

pub tells : (s : Settings) (ds : List (Option Data)) → Tells s ds (parts_of ds)
unfolding Tells lower HasTree spell
tells s [] = (refl, refl, λ _. tt, λ _. tt)
tells s (None ∷ ds) = λ h. h.0
tells s (Some d ∷ ds) = tells_more s d ds (parts_of ds) (tells s ds)

may_at : (s : Settings) (ds : List (Option Data)) (o : Option Parts) → Tells s ds o → length ds < 2 ^ 32 → AllByRecursion (Has s) ds
    → HasTree (tree_of s (option_map sequence o))
unfolding Tells lower HasTree fits_head
may_at s ds None h n k = h k
may_at s ds (Some es) h n k = (omega (arith, h.0), h.3 k)

can_at : (s : Settings) (ds : List (Option Data)) (o : Option Parts) → Tells s ds o → HasTree (tree_of s (option_map sequence o))
    → (length ds < 2 ^ 32) × AllByRecursion (Has s) ds
unfolding Tells lower HasTree fits_head
can_at s ds None h k = absurd k
can_at s ds (Some es) h k = (omega (arith, h.0, k.0), h.2 k.1)

text_at : (s : Settings) (ds : List (Option Data)) (o : Option Parts) → Tells s ds o → HasTree (tree_of s (option_map sequence o))
    → array_head (length ds) ++ flat_map (spelling s) ds ≡ spell (tree_of s (option_map sequence o))
unfolding Tells lower HasTree spell
text_at s ds None h k = absurd k
text_at s ds (Some es) h k = ap (λ n. array_head n ++ flat_map (spelling s) ds) (sym h.0) ∙ ap (λ l. array_head (count (lower_parts s es)) ++ l) (sym h.1)

-- a list has a tree that fits exactly where its length fits and each part has one
pub list_may : (s : Settings) (ds : List (Option Data)) → length ds < 2 ^ 32 → AllByRecursion (Has s) ds → HasTree (tree_of s (sequence_of ds))
unfolding sequence_of
list_may s ds = may_at s ds (parts_of ds) (tells s ds)

pub list_can : (s : Settings) (ds : List (Option Data)) → HasTree (tree_of s (sequence_of ds)) → (length ds < 2 ^ 32) × AllByRecursion (Has s) ds
unfolding sequence_of
list_can s ds = can_at s ds (parts_of ds) (tells s ds)

-- its spelling is its head and those of its parts
pub list_text : (s : Settings) (ds : List (Option Data)) → HasTree (tree_of s (sequence_of ds))
    → array_head (length ds) ++ flat_map (spelling s) ds ≡ spell (tree_of s (sequence_of ds))
unfolding sequence_of
list_text s ds = text_at s ds (parts_of ds) (tells s ds)

-- what the data of a map of n pairs say of its keys and values
TellsPairs : Settings → ℕ → List (Option Data) → Option Entries → Type 0
TellsPairs s n ds None = ¬ AllByRecursion (Has s) ds
TellsPairs s n ds (Some es) =
    (count_pairs (lower_entries s es) ≡ n) × (canon_pairs (lower_entries s es) ≡ flat_map (spelling s) ds)
    × (FitsPairs (lower_entries s es) → AllByRecursion (Has s) ds) × (AllByRecursion (Has s) ds → FitsPairs (lower_entries s es))

pairs_more : (s : Settings) (k v : Data) (n : ℕ) (ds : List (Option Data)) (o : Option Entries) → TellsPairs s n ds o
    → TellsPairs s (suc n) (Some k ∷ (Some v ∷ ds)) (option_map (entry k v) o)
unfolding TellsPairs lower HasTree spell
pairs_more s k v n ds None h = λ a. h a.1.1
pairs_more s k v n ds (Some es) h = (
  ap suc h.0,
  ap (λ l. canon (lower s k) ++ (canon (lower s v) ++ l)) h.1,
  λ a. (a.0, (a.1, h.2 a.2)),
  λ a.
      (a.0, a.1.0, h.3 a.1.1),
)

tells_pairs : (s : Settings) (n : ℕ) (ds : List (Option Data)) → length ds ≡ n + n → TellsPairs s n ds (entries_of ds)
unfolding TellsPairs lower HasTree spell
tells_pairs s zero [] e = (refl, refl, λ _. tt, λ _. tt)
tells_pairs s zero (d ∷ ds) e = let no_way : ⊥ = omega (arith, e) in absurd no_way
tells_pairs s (suc n) [] e = let no_way : ⊥ = omega (arith, e) in absurd no_way
tells_pairs s (suc n) (None ∷ ds) e = λ a. a.0
tells_pairs s (suc n) (Some k ∷ []) e = let no_way : ⊥ = omega (arith, e) in absurd no_way
tells_pairs s (suc n) (Some k ∷ (None ∷ ds)) e = λ a. a.1.0
tells_pairs s (suc n) (Some k ∷ (Some v ∷ ds)) e = pairs_more s k v n ds (entries_of ds) (tells_pairs s n ds (omega (arith, e)))

map_may_at : (s : Settings) (n : ℕ) (ds : List (Option Data)) (o : Option Entries) → TellsPairs s n ds o → n < 2 ^ 32 → AllByRecursion (Has s) ds
    → HasTree (tree_of s (option_map mapping o))
unfolding TellsPairs lower HasTree fits_head
map_may_at s n ds None h lt k = h k
map_may_at s n ds (Some es) h lt k = (omega (arith, h.0, lt), h.3 k)

map_can_at : (s : Settings) (n : ℕ) (ds : List (Option Data)) (o : Option Entries) → TellsPairs s n ds o → HasTree (tree_of s (option_map mapping o))
    → (n < 2 ^ 32) × AllByRecursion (Has s) ds
unfolding TellsPairs lower HasTree fits_head
map_can_at s n ds None h k = absurd k
map_can_at s n ds (Some es) h k = (omega (arith, h.0, k.0), h.2 k.1)

map_text_at : (s : Settings) (n : ℕ) (ds : List (Option Data)) (o : Option Entries) → TellsPairs s n ds o → HasTree (tree_of s (option_map mapping o))
    → map_head n ++ flat_map (spelling s) ds ≡ spell (tree_of s (option_map mapping o))
unfolding TellsPairs lower HasTree spell
map_text_at s n ds None h k = absurd k
map_text_at s n ds (Some es) h k = ap (λ n. map_head n ++ flat_map (spelling s) ds) (sym h.0)
    ∙ ap (λ l. map_head (count_pairs (lower_entries s es)) ++ l) (sym h.1)

-- a list or a map of n: it has a tree that fits exactly where n does and each part has one
pub open_may : (pairs : Bool) (s : Settings) (n : ℕ) (ds : List (Option Data)) → AreMany pairs n ds → n < 2 ^ 32 → AllByRecursion (Has s) ds
    → HasTree (tree_of s (open_of pairs ds))
unfolding open_of mapping_of
open_may true s n ds e lt = map_may_at s n ds (entries_of ds) (tells_pairs s n ds e) lt
open_may false s n ds e lt = list_may s ds (subst (λ k. k < 2 ^ 32) (sym e) lt)

pub open_can : (pairs : Bool) (s : Settings) (n : ℕ) (ds : List (Option Data)) → AreMany pairs n ds → HasTree (tree_of s (open_of pairs ds))
    → (n < 2 ^ 32) × AllByRecursion (Has s) ds
unfolding open_of mapping_of
open_can true s n ds e h = map_can_at s n ds (entries_of ds) (tells_pairs s n ds e) h
open_can false s n ds e h = let k = list_can s ds h in (subst (λ k. k < 2 ^ 32) e k.0, k.1)

pub open_text : (pairs : Bool) (s : Settings) (n : ℕ) (ds : List (Option Data)) → AreMany pairs n ds → HasTree (tree_of s (open_of pairs ds))
    → head_at pairs n ++ flat_map (spelling s) ds ≡ spell (tree_of s (open_of pairs ds))
unfolding open_of mapping_of head_at
open_text true s n ds e h = map_text_at s n ds (entries_of ds) (tells_pairs s n ds e) h
open_text false s n ds e h = ap (λ k. array_head k ++ flat_map (spelling s) ds) (sym e) ∙ list_text s ds h

-- so it is made of its head and its parts
pub made : (pairs : Bool) (s : Settings) (n : ℕ) (ds : List (Option Data)) → AreMany pairs n ds
    → IsMadeOf s (tree_of s (open_of pairs ds)) (n < 2 ^ 32) (head_at pairs n) ds
made pairs s n ds e = record { may = open_may pairs s n ds e; can = open_can pairs s n ds e; text = open_text pairs s n ds e }

pub made_list : (s : Settings) (n : ℕ) (ds : List (Option Data)) → length ds ≡ n → IsMadeOf s (tree_of s (sequence_of ds)) (n < 2 ^ 32) (head_at false n) ds
unfolding open_of
made_list s n ds e = made false s n ds e

pub made_map : (s : Settings) (n : ℕ) (ds : List (Option Data)) → length ds ≡ n + n → IsMadeOf s (tree_of s (mapping_of ds)) (n < 2 ^ 32) (head_at true n) ds
unfolding open_of
made_map s n ds e = made true s n ds e

-- a head has a first byte
pub head_at_some : (pairs : Bool) (n : ℕ) → 0 < length (head_at pairs n)
unfolding head_at
head_at_some true n = head_some (Map n)
head_at_some false n = head_some (Array n)

byte_at : (o : Option Parts) → byte_of (option_map sequence o) ≡ None
byte_at None = refl
byte_at (Some es) = refl

-- a list is no byte
pub sequence_no_byte : (ds : List (Option Data)) → byte_of (sequence_of ds) ≡ None
unfolding sequence_of
sequence_no_byte ds = byte_at (parts_of ds)

map_byte_at : (o : Option Entries) → byte_of (option_map mapping o) ≡ None
map_byte_at None = refl
map_byte_at (Some es) = refl

-- a map is no byte
pub mapping_no_byte : (ds : List (Option Data)) → byte_of (mapping_of ds) ≡ None
unfolding mapping_of
mapping_no_byte ds = map_byte_at (entries_of ds)

-- keys and values in turn are twice as many as the entries
pub length-in_turn : {K V : Type 0} (k : K → Option Data) (v : V → Option Data) (es : List (K × V)) (n : ℕ) → length es ≡ n → length (in_turn k v es) ≡ n + n
length-in_turn k v [] n e = omega (arith, e)
length-in_turn k v (x ∷ es) n e = let r = length-in_turn k v es (length es) refl in omega (arith, e, r)
