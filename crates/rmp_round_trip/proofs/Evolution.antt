-- A map of distinct names has for each name that is wanted the tree of that name, wherever it is in the map, and none for another.
use Rattle.std.proofs.Common.{◌≡◌, ℕ, suc, List, [], ◌∷◌, Bool, true, false, Option, None, Some, refl, sym, ◌∙◌, ap, subst}
use Rattle.std.specs.Prelude.{◌<◌, ◌++◌, cond, map, MatchOption, IsSomeAnd}
use Rattle.std.specs.Option.{option_map, option_and_then}
use Rattle.std.specs.Str.{bytes_eq}
use Rattle.std.proofs.lemmas.Slice.Eq.{bytes_eq-Decides}
use Rattle.rmp_wire.specs.Canonical.{IsCanonical}
use Rattle.rmp_wire.specs.Msg.{Msg, depth}
use Rattle.rmp_wire.specs.Msg.{map as mapping}
use Rattle.rmp_wire.specs.Spelling.{Spells}
use Rattle.rmp_encode.specs.Calls.{IsSpelled}
use Rattle.rmp_encode.specs.Data.{Data, Fields, no_fields, field, structure, map_or_list, lower, lower_named, lower_values}
use Rattle.rmp_encode.specs.Trees.{fields_of, push_field, structure_of, tree_of}
use Rattle.rmp_encode.specs.declared.settings.Settings.{Settings}
use Rattle.rmp_decode.specs.Fields.{OfFields, blank, fields, met, put_named}
use Rattle.rmp_decode.specs.Names.{distinct, is_new, place_of}
use Rattle.rmp_decode.specs.Law.{Begins}
use Rattle.rmp_round_trip.specs.Evolution.{IsRecord, found, tree_in, tree_named}
use Rattle.rmp_round_trip.specs.RoundTrip.{LowersTo}
use Rattle.rmp_round_trip.specs.StructRounds.{names_in}
use Rattle.rmp_round_trip.proofs.RoundLaws.{read_back, read_strictly, written_once}

-- what is known of names: a tree, or none
abbrev Trees : Type 0
Trees = List ℕ → Option Msg

abbrev none_known : Trees
none_known n = None

-- the same, but that tree for that name
abbrev updated : Trees → List ℕ → Msg → Trees
updated f k m n = cond (bytes_eq n k) (Some m) (f n)

abbrev or_else : Option Msg → Option Msg → Option Msg
or_else None o = o
or_else (Some m) o = Some m

-- none is known of these names
abbrev AreUnset : Trees → List (List ℕ) → Type 0
AreUnset f [] = Unit {0}
AreUnset f (k ∷ ks) = (f k ≡ None) × AreUnset f ks

absent_is : false ≡ true → ⊥
absent_is h = cc

new_by : (b x : Bool) → cond b false x ≡ true → x ≡ true
new_by true x h = absurd (absent_is h)
new_by false x h = h

both_by : (b x : Bool) → cond b x false ≡ true → (b ≡ true) × (x ≡ true)
both_by true x h = (refl, h)
both_by false x h = absurd (absent_is h)

or_none : (o : Option Msg) → or_else o None ≡ o
or_none None = refl
or_none (Some m) = refl

map_same : (names : List (List ℕ)) (f g : Trees) → ((n : List ℕ) → f n ≡ g n) → map f names ≡ map g names
map_same [] f g h = refl
map_same (n ∷ names) f g h = ap (λ o. o ∷ map f names) (h n) ∙ ap (λ os. g n ∷ os) (map_same names f g h)

-- a name that isn't k keeps its tree
kept : (b x : Bool) (o : Option Msg) (m : Msg) → cond b false x ≡ true → o ≡ cond b (Some m) o
kept true x o m h = absurd (absent_is h)
kept false x o m h = refl

untouched : (names : List (List ℕ)) (f : Trees) (k : List ℕ) (m : Msg) → is_new names k ≡ true → map f names ≡ map (updated f k m) names
untouched [] f k m h = refl
untouched (n ∷ names) f k m h =
    ap (λ o. o ∷ map f names) (kept (bytes_eq n k) (is_new names k) (f n) m h)
    ∙ ap (λ os. updated f k m n ∷ os) (untouched names f k m (new_by (bytes_eq n k) (is_new names k) h))

put_suc : (o : Option ℕ) (m : Msg) (g : Option Msg) (gs hs : List (Option Msg)) → put_named o m gs ≡ Some hs
    → put_named (option_map suc o) m (g ∷ gs) ≡ Some (g ∷ hs)
put_suc None m g gs hs e = ap (λ o. option_and_then (λ t. Some (g ∷ t)) o) e
put_suc (Some n) m g gs hs e = ap (λ o. option_and_then (λ t. Some (g ∷ t)) o) e

put_head : (b : Bool) (n k : List ℕ) (names : List (List ℕ)) (f : Trees) (m : Msg) → (b ≡ true → n ≡ k) → f k ≡ None → is_new names n ≡ true
    → put_named (place_of names k) m (map f names) ≡ Some (map (updated f k m) names)
    → put_named (cond b (Some 0) (option_map suc (place_of names k))) m (f n ∷ map f names) ≡ Some (cond b (Some m) (f n) ∷ map (updated f k m) names)
put_head true n k names f m is e new others =
    ap (λ o. put_named (Some 0) m (o ∷ map f names)) (subst (λ z. f z ≡ None) (sym (is refl)) e)
    ∙ ap (λ os. Some (Some m ∷ os)) (untouched names f k m (subst (λ z. is_new names z ≡ true) (is refl) new))
put_head false n k names f m is e new others = put_suc (place_of names k) m (f n) (map f names) (map (updated f k m) names) others

-- the tree of a name goes to the place of the name, if there is one
put_by : (names : List (List ℕ)) (f : Trees) (k : List ℕ) (m : Msg) → distinct names ≡ true → f k ≡ None
    → put_named (place_of names k) m (map f names) ≡ Some (map (updated f k m) names)
put_by [] f k m h e = refl
put_by (n ∷ names) f k m h e =
    let parts = both_by (is_new names n) (distinct names) h in
    put_head (bytes_eq n k) n k names f m (λ b. (bytes_eq-Decides n k).0 b) e parts.0 (put_by names f k m parts.1 e)

unset_by : (ks : List (List ℕ)) (f : Trees) (k : List ℕ) (m : Msg) → is_new ks k ≡ true → AreUnset f ks → AreUnset (updated f k m) ks
unset_by [] f k m h u = tt
unset_by (j ∷ ks) f k m h u =
    (sym (kept (bytes_eq j k) (is_new ks k) (f j) m h) ∙ u.0, unset_by ks f k m (new_by (bytes_eq j k) (is_new ks k) h) u.1)

unset_none : (ks : List (List ℕ)) → AreUnset none_known ks
unset_none [] = tt
unset_none (k ∷ ks) = (refl, unset_none ks)

swapped : (b : Bool) (m : Msg) (o q : Option Msg) → (b ≡ true → o ≡ None) → or_else (cond b (Some m) o) q ≡ or_else o (cond b (Some m) q)
swapped true m o q h = sym (ap (λ z. or_else z (Some m)) (h refl))
swapped false m o q h = refl

blank_is : (names : List (List ℕ)) → blank names ≡ map none_known names
blank_is [] = refl
blank_is (n ∷ names) = ap (λ os. None ∷ os) (blank_is names)

met_by : (s : Settings) (names : List (List ℕ)) (f : Trees) (x : Fields) → distinct names ≡ true → distinct (names_in x) ≡ true → AreUnset f (names_in x)
    → met names (map f names) (lower_named s x) ≡ Some (map (λ n. or_else (f n) (tree_named s x n)) names)
unfolding lower_named
met_by s names f no_fields h hx u = ap Some (map_same names f (λ n. or_else (f n) None) (λ n. sym (or_none (f n))))
met_by s names f (field k d x) h hx u =
    let m = lower s d in
    let parts = both_by (is_new (names_in x) k) (distinct (names_in x)) hx in
    ap (option_and_then (λ gs. met names gs (lower_named s x))) (put_by names f k m h u.0)
    ∙ met_by s names (updated f k m) x h parts.1 (unset_by (names_in x) f k m parts.0 u.1)
    ∙ ap Some (map_same names (λ n. or_else (updated f k m n) (tree_named s x n)) (λ n. or_else (f n) (cond (bytes_eq n k) (Some m) (tree_named s x n)))
    (λ n. swapped (bytes_eq n k) m (f n) (tree_named s x n) (λ b. subst (λ z. f z ≡ None) (sym ((bytes_eq-Decides n k).0 b)) u.0)))

pub names_found : (s : Settings) (names : List (List ℕ)) (x : Fields) → distinct names ≡ true → distinct (names_in x) ≡ true
    → fields names (mapping (lower_named s x)) ≡ Some (map (tree_named s x) names)
names_found s names x h hx =
    ap (λ fs. met names fs (lower_named s x)) (blank_is names) ∙ met_by s names none_known x h hx (unset_none (names_in x))

named_read : (s : Settings) (b : Bool) (names : List (List ℕ)) (x : Fields) → b ≡ true → distinct names ≡ true → distinct (names_in x) ≡ true
    → fields names (map_or_list b (lower_named s x) (lower_values s x)) ≡ Some (map (tree_named s x) names)
named_read s true names x is h hx = names_found s names x h hx
named_read s false names x is h hx = absurd (absent_is is)

pub struct_found : (s : Settings) (names : List (List ℕ)) (fs : List (List ℕ × Option Data)) (x : Fields) → fields_of fs ≡ Some x → s.named ≡ true
    → distinct names ≡ true → distinct (names_in x) ≡ true → LowersTo s (structure_of fs) (λ m. fields names m ≡ Some (map (tree_named s x) names))
unfolding lower structure_of
struct_found s names fs x all is h hx =
    subst (λ o. LowersTo s (option_map structure o) (λ m. fields names m ≡ Some (map (tree_named s x) names))) (sym all)
    (named_read s s.named names x is h hx)

-- ---- fields that may be refused

abbrev Wanted : Type 0
Wanted = List (List ℕ × Option Data)

-- the fields are of these names and trees
abbrev IsOf : Settings → Wanted → Fields → Type 0
IsOf s fs x = (names_in x ≡ map (λ f. f.0) fs) × ((n : List ℕ) → tree_named s x n ≡ tree_in s fs n)

fields_are : (s : Settings) (fs : Wanted) (x : Fields) → fields_of fs ≡ Some x → IsOf s fs x
fields_are s [] x e = let is : no_fields ≡ x = cc in subst (IsOf s []) is (refl, λ n. refl)
fields_are s (f ∷ fs) x e = go (λ y q. fields_are s fs y q) f.1 refl (fields_of fs) refl e
  where
    go : ((y : Fields) → fields_of fs ≡ Some y → IsOf s fs y) → (d : Option Data) → f.1 ≡ d → (o : Option Fields) → fields_of fs ≡ o
        → push_field f.0 d o ≡ Some x → IsOf s (f ∷ fs) x
    go ih None p o q h = absurd (cc)
    go ih (Some d) p None q h = absurd (cc)
    go ih (Some d) p (Some y) q h =
        let is : field f.0 d y ≡ x = cc in
        let rest = ih y (q) in
        subst (IsOf s (f ∷ fs)) is (
          ap (λ l. f.0 ∷ l) rest.0,
          λ n. ap (λ o. cond (bytes_eq n f.0) (Some (lower s d)) o) (rest.1 n) ∙ ap (λ o. cond (bytes_eq n f.0) (tree_of s o) (tree_in s fs n)) (sym p),
        )

structure_there : (s : Settings) (fs : Wanted) (o : Option Fields) → fields_of fs ≡ o → (m : Msg) → tree_of s (option_map structure o) ≡ Some m
    → (x : Fields) × (fields_of fs ≡ Some x)
structure_there s fs None q m e = absurd (cc)
structure_there s fs (Some x) q m e = (x, q)

-- the tree of a record has for each name that is wanted what is found
record_found : (s : Settings) (fs : Wanted) (names : List (List ℕ)) (b : List ℕ) → distinct names ≡ true → IsRecord s fs b
    → LowersTo s (structure_of fs) (λ m. fields names m ≡ Some (found s fs names))
unfolding structure_of
record_found s fs names b h r =
    let all = structure_there s fs (fields_of fs) refl r.spelled.tree r.spelled.is in
    let x = all.0 in
    let are = fields_are s fs x all.1 in
    subst (λ l. LowersTo s (structure_of fs) (λ m. fields names m ≡ Some l)) (map_same names (tree_named s x) (tree_in s fs) are.1)
    (struct_found s names fs x all.1 r.named h (subst (λ l. distinct l ≡ true) (sym are.0) r.differ))

tree_there : (o : Option Msg) (m : Msg) (P : Msg → Type 0) → o ≡ Some m → IsSomeAnd o P → P m
tree_there o m P e h = subst (λ p. IsSomeAnd p P) e h

-- what another version finds in a record
pub version_reads : (s : Settings) (fs : Wanted) (names : List (List ℕ)) (b x c y : List ℕ) (m : Msg)
    → distinct names ≡ true → IsRecord s fs b → Spells c m → b ++ x ≡ c ++ y → (fields names m ≡ Some (found s fs names)) × (y ≡ x)
version_reads s fs names b x c y m h r p e =
    let u = written_once (tree_of s (structure_of fs)) b x c y m r.spelled p e in
    (tree_there (tree_of s (structure_of fs)) m (λ k. fields names k ≡ Some (found s fs names)) u.0 (record_found s fs names b h r), u.2)

pub version_begins : (s : Settings) (fs : Wanted) (names : List (List ℕ)) (b x : List ℕ) (room : ℕ)
    → distinct names ≡ true → IsRecord s fs b → LowersTo s (structure_of fs) (λ m. depth m < room)
    → Begins Spells (λ m. fields names m ≡ Some (found s fs names)) room (b ++ x)
version_begins s fs names b x room h r d =
    read_back (λ m (v : Unit {0}). fields names m ≡ Some (found s fs names)) (tree_of s (structure_of fs)) tt b x room (record_found s fs names b h r)
    r.spelled d

pub version_strict : (s : Settings) (fs : Wanted) (names : List (List ℕ)) (b x : List ℕ) (room : ℕ)
    → distinct names ≡ true → IsRecord s fs b → LowersTo s (structure_of fs) (λ m. depth m < room)
    → Begins IsCanonical (λ m. fields names m ≡ Some (found s fs names)) room (b ++ x)
version_strict s fs names b x room h r d =
    read_strictly (λ m (v : Unit {0}). fields names m ≡ Some (found s fs names)) (tree_of s (structure_of fs)) tt b x room (record_found s fs names b h r)
    r.spelled d
