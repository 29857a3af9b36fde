-- What structs lower to, with names or without, is read as their values.
use Rattle.std.proofs.Common.{◌≡◌, ℕ, suc, ◌+◌, List, [], ◌∷◌, ◌++◌, length, Bool, true, false, Option, None, Some, refl, sym, ◌∙◌, ap, subst, append_assoc}
use Rattle.std.specs.Prelude.{◌≢◌, cond, IsSome, MatchOption}
use Rattle.std.specs.Option.{option_map, option_and_then}
use Rattle.std.specs.Str.{bytes_eq}
use Rattle.std.proofs.lemmas.List.{length-append}
use Rattle.std.proofs.lemmas.Slice.Eq.{bytes_eq-Decides}
use Rattle.std.proofs.lemmas.Bool.Decides.{Decides-eqb}
use Rattle.rmp_wire.specs.Msg as msg
use Rattle.rmp_wire.specs.Msg.{Msg, Pairs, pair, count}
use Rattle.rmp_encode.specs.Data.{Data, structure, tuple_variant, struct_variant, Fields, no_fields, field, map_or_list, lower, lower_named, lower_values}
use Rattle.rmp_encode.specs.Trees.{tree_of, parts_of, fields_of, sequence_of, tuple_of, structure_of, tuple_variant_of, struct_variant_of}
use Rattle.rmp_encode.specs.declared.settings.Settings.{Settings}
use Rattle.rmp_decode.specs.Fields.{Field, NoField, OfFields, blank, given_all, met, put, put_named}
use Rattle.rmp_decode.specs.Names.{distinct, is_new, place_of}
use Rattle.rmp_round_trip.specs.RoundTrip.{LowersTo}
use Rattle.rmp_round_trip.specs.Rounds.{mapped_some, parts_cons, sequence_some, tuple_some}

-- ---- what isn't refused

absent_is : false ≡ true → ⊥
absent_is h = cc

-- none of them is refused
abbrev pub AllSome : List (Option Data) → Type 0
AllSome [] = Unit {0}
AllSome (d ∷ ds) = IsSome d × AllSome ds

parts_all : (ds : List (Option Data)) → AllSome ds → IsSome (parts_of ds)
parts_all [] h = refl
parts_all (d ∷ ds) h = parts_cons d ds h.0 (parts_all ds h.1)

pub sequence_all : (ds : List (Option Data)) → AllSome ds → IsSome (sequence_of ds)
sequence_all ds h = sequence_some ds (parts_all ds h)

pub tuple_all : (ds : List (Option Data)) → AllSome ds → IsSome (tuple_of ds)
tuple_all ds h = tuple_some ds (parts_all ds h)

pub tuple_variant_all : (name : List ℕ) (ds : List (Option Data)) → AllSome ds → IsSome (tuple_variant_of name ds)
unfolding tuple_variant_of
tuple_variant_all name ds h = mapped_some (tuple_variant name) (parts_of ds) (parts_all ds h)

field_some : (n : List ℕ) (d : Option Data) (fs : List (List ℕ × Option Data)) → IsSome d → IsSome (fields_of fs) → IsSome (fields_of ((n, d) ∷ fs))
field_some n None fs h hs = absurd (absent_is h)
field_some n (Some d) fs h hs = mapped_some (field n d) (fields_of fs) hs

-- none of the fields is
abbrev pub FieldsSome : List (List ℕ × Option Data) → Type 0
FieldsSome [] = Unit {0}
FieldsSome (f ∷ fs) = IsSome f.1 × FieldsSome fs

fields_all : (fs : List (List ℕ × Option Data)) → FieldsSome fs → IsSome (fields_of fs)
fields_all [] h = refl
fields_all (f ∷ fs) h = field_some f.0 f.1 fs h.0 (fields_all fs h.1)

pub structure_all : (fs : List (List ℕ × Option Data)) → FieldsSome fs → IsSome (structure_of fs)
unfolding structure_of
structure_all fs h = mapped_some structure (fields_of fs) (fields_all fs h)

pub struct_variant_all : (name : List ℕ) (fs : List (List ℕ × Option Data)) → FieldsSome fs → IsSome (struct_variant_of name fs)
unfolding struct_variant_of
struct_variant_all name fs h = mapped_some (struct_variant name) (fields_of fs) (fields_all fs h)

-- ---- the place of a name among names that are all distinct

new_by : (b x : Bool) → cond b false x ≡ true → x ≡ true
new_by true x h = absurd (absent_is h)
new_by false x h = h

both_by : (b x : Bool) → cond b x false ≡ true → (b ≡ true) × (x ≡ true)
both_by true x h = (refl, h)
both_by false x h = absurd (absent_is h)

is_false : (b : Bool) → (b ≡ true → ⊥) → b ≡ false
is_false true h = absurd (h refl)
is_false false h = refl

-- a name that is new among others is none of them
new_differs : (front : List (List ℕ)) (n p : List ℕ) (names : List (List ℕ)) → is_new (front ++ n ∷ names) p ≡ true → p ≡ n → ⊥
new_differs [] n p names h e = absent_is (subst (λ b. cond b false (is_new names p) ≡ true) ((bytes_eq-Decides n p).1 (sym e)) h)
new_differs (q ∷ front) n p names h e = new_differs front n p names (new_by (bytes_eq q p) (is_new (front ++ n ∷ names) p) h) e

pub place_among : (front : List (List ℕ)) (n : List ℕ) (names : List (List ℕ)) → distinct (front ++ n ∷ names) ≡ true
    → place_of (front ++ n ∷ names) n ≡ Some (length front)
place_among [] n names h = ap (λ b. cond b (Some 0) (option_map suc (place_of names n))) ((bytes_eq-Decides n n).1 refl)
place_among (p ∷ front) n names h =
    let all = front ++ n ∷ names in
    let parts = both_by (is_new all p) (distinct all) h in
    ap (λ b. cond b (Some 0) (option_map suc (place_of all n)))
    (is_false (bytes_eq p n) (λ t. new_differs front n p names parts.0 ((bytes_eq-Decides p n).0 t)))
    ∙ ap (option_map suc) (place_among front n names parts.1)

-- ---- the fields of a struct

-- the names of the fields
abbrev pub names_in : Fields → List (List ℕ)
names_in no_fields = []
names_in (field n d fs) = n ∷ names_in fs

put_at : (gs : List (Option Msg)) (m : Msg) (fs : List (Option Msg)) → put (length gs) m (gs ++ None ∷ fs) ≡ Some (gs ++ Some m ∷ fs)
put_at [] m fs = refl
put_at (g ∷ gs) m fs = ap (option_and_then (λ hs. Some (g ∷ hs))) (put_at gs m fs)

-- a pair's value goes to the place of its name
met_one : (names : List (List ℕ)) (fs gs : List (Option Msg)) (n : List ℕ) (m : Msg) (ps : Pairs) (k : ℕ) → place_of names n ≡ Some k → put k m fs ≡ Some gs
    → met names fs (pair (msg.text n) m ps) ≡ met names gs ps
met_one names fs gs n m ps k at to = ap (λ o. option_and_then (λ hs. met names hs ps) (put_named o m fs)) at ∙ ap (option_and_then (λ hs. met names hs ps)) to

module _ (s : Settings) where
  count_values : (x : Fields) → count (lower_values s x) ≡ length (names_in x)
  unfolding lower_values
  count_values no_fields = refl
  count_values (field n d x) = ap suc (count_values x)

  -- the pairs of a struct's map fill the places of its names, after those that are filled
  met_all : (front : List (List ℕ)) (gs : List (Option Msg)) (x : Fields) → length gs ≡ length front → distinct (front ++ names_in x) ≡ true
      → met (front ++ names_in x) (gs ++ blank (names_in x)) (lower_named s x) ≡ Some (gs ++ given_all (lower_values s x))
  unfolding lower_named lower_values
  met_all front gs no_fields l h = refl
  met_all front gs (field n d x) l h =
      let m = lower s d in
      let names = names_in x in
      let left = blank names in
      met_one (front ++ n ∷ names) (gs ++ None ∷ left) (gs ++ Some m ∷ left) n m (lower_named s x) (length front) (place_among front n names h)
      (ap (λ k. put k m (gs ++ None ∷ left)) (sym l) ∙ put_at gs m left)
      ∙ ap (λ all. met all (gs ++ Some m ∷ left) (lower_named s x)) (sym (append_assoc front (n ∷ []) names))
      ∙ ap (λ fs. met ((front ++ n ∷ []) ++ names) fs (lower_named s x)) (sym (append_assoc gs (Some m ∷ []) left))
      ∙ met_all (front ++ n ∷ []) (gs ++ Some m ∷ []) x
      (length-append gs (Some m ∷ []) ∙ ap (λ k. k + 1) l ∙ sym (length-append front (n ∷ [])))
      (subst (λ all. distinct all ≡ true) (sym (append_assoc front (n ∷ []) names)) h)
      ∙ ap Some (append_assoc gs (Some m ∷ []) (given_all (lower_values s x)))

  pub fields_read : (b : Bool) (x : Fields) (Q : List (Option Msg) → Type 0) → distinct (names_in x) ≡ true → Q (given_all (lower_values s x))
      → OfFields (names_in x) Q (map_or_list b (lower_named s x) (lower_values s x))
  fields_read true x Q h q = subst (λ o. MatchOption o ⊥ Q) (sym (met_all [] [] x refl h)) q
  fields_read false x Q h q = subst (λ b. MatchOption (cond b (Some (given_all (lower_values s x))) None) ⊥ Q)
      (sym ((Decides-eqb (count (lower_values s x)) (length (names_in x))).1 (count_values x))) q

  -- the fields aren't refused, they have these names, and Q holds of what they lower to
  pub record FieldRows (names : List (List ℕ)) (fs : List (List ℕ × Option Data)) (Q : List (Option Msg) → Type 0) : Type 0 where
    pub fields : Fields
    pub is : fields_of fs ≡ Some fields
    pub named : names_in fields ≡ names
    pub holds : Q (given_all (lower_values s fields))

  pub fields_none : FieldRows [] [] NoField
  unfolding lower_values
  fields_none = record { fields = no_fields; is = refl; named = refl; holds = tt }

  pub fields_cons : (n : List ℕ) (d : Option Data) (names : List (List ℕ)) (fs : List (List ℕ × Option Data)) (P : Msg → Type 0) (A : Type 0)
      (Q : List (Option Msg) → Type 0) → LowersTo s d P → FieldRows names fs Q → FieldRows (n ∷ names) ((n, d) ∷ fs) (Field P A Q)
  unfolding lower_values
  fields_cons n None names fs P A Q h r = absurd h
  fields_cons n (Some d) names fs P A Q h r =
      record { fields = field n d r.fields; is = ap (option_map (field n d)) r.is; named = ap (λ l. n ∷ l) r.named; holds = (h, r.holds) }

  pub fields_row : (b : Bool) (names : List (List ℕ)) (fs : List (List ℕ × Option Data)) (Q : List (Option Msg) → Type 0) → distinct names ≡ true
      → (r : FieldRows names fs Q) → OfFields names Q (map_or_list b (lower_named s r.fields) (lower_values s r.fields))
  fields_row b names fs Q h r = subst (λ l. OfFields l Q (map_or_list b (lower_named s r.fields) (lower_values s r.fields))) r.named
      (fields_read b r.fields Q (subst (λ l. distinct l ≡ true) (sym r.named) h) r.holds)

  pub structure_row : (names : List (List ℕ)) (fs : List (List ℕ × Option Data)) (Q : List (Option Msg) → Type 0) → distinct names ≡ true
      → FieldRows names fs Q → LowersTo s (structure_of fs) (OfFields names Q)
  unfolding lower structure_of
  structure_row names fs Q h r = subst (λ o. LowersTo s (option_map structure o) (OfFields names Q)) (sym r.is) (fields_row s.named names fs Q h r)

  -- ---- what is never nil

  named_other : (b : Bool) (x : Fields) → ◌≡◌ {A = Option Msg} (Some (map_or_list b (lower_named s x) (lower_values s x))) (Some msg.nil) → ⊥
  named_other true x e = cc
  named_other false x e = cc

  structure_under : (o : Option Fields) → tree_of s (option_map structure o) ≢ Some msg.nil
  unfolding lower
  structure_under None e = cc
  structure_under (Some x) e = named_other s.named x e

  pub structure_other : (fs : List (List ℕ × Option Data)) → tree_of s (structure_of fs) ≢ Some msg.nil
  unfolding structure_of
  structure_other fs = structure_under (fields_of fs)
