-- What the recursive type Json is read from and written as, level by level. Written by tools/derive.py.
use Rattle.std.proofs.Common.{◌≡◌, ◌∙◌, refl, sym, ap, subst, ℕ, zero, suc, List, [], ◌∷◌, All, Option, None, Some, String}
use Rattle.std.specs.Int.{w64}
use Rattle.std.specs.List.{AllByRecursion}
use Rattle.std.specs.String.{string_cmp}
use Rattle.std.specs.declared.collections.BTreeMap.{BTreeMap}
use Rattle.std.specs.Prelude.{⊤, codes, Vec, Bool, ℤ, pos, negsuc, FitsSigned, IsUtf8, string_bytes}
use Rattle.std.specs.declared.alloc.Global.{Global}
use Rattle.rmp_wire.specs.Msg.{Msg}
use Rattle.rmp_decode.specs.Law.{Readable}
use Rattle.rmp_decode.specs.Maps.{ReadsEntries}
use Rattle.rmp_decode.specs.Read.{IsSigned, IsRaw}
use Rattle.rmp_decode.specs.Variants.{OfVariant, Case, NoCase, Bare, Content}
use Rattle.rmp_encode.specs.Data.{Data, whole, truth, text, unit_variant}
use Rattle.rmp_encode.specs.Trees.{slice_of, mapping_of, in_turn, newtype_variant_of}
use Rattle.rmp_recursive.specs.Parts.{Row, InSteps, row_as, row_in, variant_as, variant_in, each_holds, through}
use Rattle.rmp_recursive.specs.Maps.{EntriesFit, map_as, map_in, entries_hold, entries_through, turns_mapped}
use Rattle.test_json.specs.declared.json.Json.{Json, out-Json}
use Rattle.test_json.specs.declared.json.Json.TheFolds.{ind-Json, fold-Json, rec-Json, map-Json, rec-roll-Json, fold_out-Json}
use Rattle.test_json.specs.declared.json.Json.TheOpen.{Json-F}
use Rattle.test_json.specs.declared.json.Json.TheViews.{roll-Json, out-roll-Json, roll-out-Json}
use Rattle.rmp_wire.specs.Msg as msg

abbrev pub json_names : List (List ℕ)
json_names = codes "Null" ∷ (codes "Bool" ∷ (codes "Number" ∷ (codes "Text" ∷ (codes "List" ∷ (codes "Object" ∷ [])))))

-- ---- what it is read from

abbrev pub JsonCase : (Msg → Json → Type 0) → Json → ℕ × Option Msg → Type 0
JsonCase reads v = Case (λ c. (out-Json v ≡ Json-F.Null) × Bare c)
    (Case (λ c. (a : Bool) × (out-Json v ≡ Json-F.Bool a) × Content (λ k. k ≡ msg.truth a) c)
    (Case (λ c. (a : ℤ) × (out-Json v ≡ Json-F.Number a) × Content (λ k. IsSigned (negsuc 9223372036854775807) (pos 9223372036854775807) k a) c)
    (Case (λ c. (a : String Global) × (out-Json v ≡ Json-F.Text a) × Content (λ k. IsRaw k (string_bytes a)) c)
    (Case (λ c. (a : Vec Json Global) × (out-Json v ≡ Json-F.List a) × Content (λ k. Row reads k a.items) c)
    (Case (λ c. (a : BTreeMap (String Global) Json Global) × (out-Json v ≡ Json-F.Object a)
    × Content (λ k. ReadsEntries string_cmp (λ j q. IsRaw j (string_bytes q)) reads a.entries k) c)
    NoCase)))))

abbrev pub JsonIn : ℕ → Msg → Json → Type 0
JsonIn zero m v = ⊥
JsonIn (suc n) m v = OfVariant json_names (JsonCase (JsonIn n) v) m

-- in some number of steps the message is read as the value
abbrev pub IsJson : Msg → Json → Type 0
IsJson m v = InSteps JsonIn m v

-- ---- what it is written as: one level, of what its parts are written as

abbrev pub json_level : Json-F (Option Data) → Option Data
json_level Json-F.Null = Some (unit_variant (codes "Null"))
json_level (Json-F.Bool a) = newtype_variant_of (codes "Bool") (Some (truth a))
json_level (Json-F.Number a) = newtype_variant_of (codes "Number") (Some (whole a))
json_level (Json-F.Text a) = newtype_variant_of (codes "Text") (Some (text (string_bytes a)))
json_level (Json-F.List a) = newtype_variant_of (codes "List") (slice_of a.items)
json_level (Json-F.Object a) = newtype_variant_of (codes "Object")
    (mapping_of (in_turn (λ (q : String Global). Some (text (string_bytes q))) (λ x. x) a.entries))

abbrev pub json_data : Json → Option Data
json_data = fold-Json (Option Data) json_level

-- ---- what is known of a value

abbrev pub json_layer_fits : (X : Type 0) → (X → Json) → (X → Type 0) → Json-F X → Type 0
json_layer_fits X at fits Json-F.Null = ⊤
json_layer_fits X at fits (Json-F.Bool a) = ⊤
json_layer_fits X at fits (Json-F.Number a) = FitsSigned w64 a
json_layer_fits X at fits (Json-F.Text a) = IsUtf8 (string_bytes a)
json_layer_fits X at fits (Json-F.List a) = AllByRecursion fits a.items
json_layer_fits X at fits (Json-F.Object a) = EntriesFit string_cmp (λ (q : String Global). IsUtf8 (string_bytes q)) fits a.entries

abbrev pub json_fits : Json → Type 0
json_fits = rec-Json (Type 0) json_layer_fits

-- ---- one step more

json_as : (P Q : Msg → Json → Type 0) → ((m : Msg) (v : Json) → P m v → Q m v) → (v : Json) (k : ℕ) (c : Option Msg) → JsonCase P v (k, c) → JsonCase Q v (k, c)
json_as P Q f v zero c h = h
json_as P Q f v (suc zero) c h = h
json_as P Q f v (suc (suc zero)) c h = h
json_as P Q f v (suc (suc (suc zero))) c h = h
json_as P Q f v (suc (suc (suc (suc zero)))) None (a, e, h) = absurd h
json_as P Q f v (suc (suc (suc (suc zero)))) (Some m) (a, e, h) = (a, e, row_as P Q f m a.items h)
json_as P Q f v (suc (suc (suc (suc (suc zero))))) None (a, e, h) = absurd h
json_as P Q f v (suc (suc (suc (suc (suc zero))))) (Some m)
    (a, e, h) = (a, e, map_as string_cmp (λ (j : Msg) (q : String Global). IsRaw j (string_bytes q)) P Q f m a.entries h)
json_as P Q f v (suc (suc (suc (suc (suc (suc k)))))) c h = absurd h

json_up : (n : ℕ) (m : Msg) (v : Json) → JsonIn n m v → JsonIn (suc n) m v
json_up zero m v h = absurd h
json_up (suc n) m v h =
    variant_as json_names (JsonCase (JsonIn n) v) (JsonCase (JsonIn (suc n)) v) (json_as (JsonIn n) (JsonIn (suc n)) (json_up n) v) m h

json_in : (v : Json) (k : ℕ) (c : Option Msg) → JsonCase IsJson v (k, c) → (n : ℕ) × JsonCase (JsonIn n) v (k, c)
json_in v zero c h = (zero, h)
json_in v (suc zero) c h = (zero, h)
json_in v (suc (suc zero)) c h = (zero, h)
json_in v (suc (suc (suc zero))) c h = (zero, h)
json_in v (suc (suc (suc (suc zero)))) None (a, e, h) = absurd h
json_in v (suc (suc (suc (suc zero)))) (Some m) (a, e, h) = let i = row_in JsonIn json_up m a.items h in (i.0, (a, e, i.1))
json_in v (suc (suc (suc (suc (suc zero))))) None (a, e, h) = absurd h
json_in v (suc (suc (suc (suc (suc zero))))) (Some m) (a, e, h) = let i = map_in string_cmp (λ (j : Msg) (q : String Global). IsRaw j (string_bytes q))
    JsonIn json_up m a.entries h in (i.0, (a, e, i.1))
json_in v (suc (suc (suc (suc (suc (suc k)))))) c h = absurd h

pub json_made : (v : Json) (m : Msg) → OfVariant json_names (JsonCase IsJson v) m → IsJson m v
json_made v m h = let i = variant_in json_names (JsonCase IsJson v) (λ n. JsonCase (JsonIn n) v) (json_in v) m h in (suc i.0, i.1)

pub json_out : (m : Msg) (v : Json) → IsJson m v → OfVariant json_names (JsonCase IsJson v) m
json_out m v (zero, h) = absurd h
json_out m v (suc n, h) = variant_as json_names (JsonCase (JsonIn n) v) (JsonCase IsJson v) (json_as (JsonIn n) IsJson (λ k w p. (n, p)) v) m h

pub json_variant : (m : Msg) → Readable IsJson m → Readable (λ k v. OfVariant json_names (JsonCase IsJson v) k) m
json_variant m (v, h) = (v, json_out m v h)

-- ---- induction

-- P holds of the parts
abbrev pub JsonParts : (Json → Type 0) → Json-F Json → Type 0
JsonParts P Json-F.Null = ⊤
JsonParts P (Json-F.Bool a) = ⊤
JsonParts P (Json-F.Number a) = ⊤
JsonParts P (Json-F.Text a) = ⊤
JsonParts P (Json-F.List a) = All P a.items
JsonParts P (Json-F.Object a) = All (λ (e : String Global × Json). P e.1) a.entries

json_parts_hold : {B : Type 0} (P : Json → Type 0) (first : B → Json) → ((b : B) → P (first b)) → (y : Json-F B) → JsonParts P (map-Json B Json first y)
json_parts_hold P first h Json-F.Null = tt
json_parts_hold P first h (Json-F.Bool a) = tt
json_parts_hold P first h (Json-F.Number a) = tt
json_parts_hold P first h (Json-F.Text a) = tt
json_parts_hold P first h (Json-F.List a) = each_holds P first h a.items
json_parts_hold P first h (Json-F.Object a) = entries_hold first P h a.entries

-- what holds of a value where it holds of its parts holds of each value
pub json_induction : (P : Json → Type 0) → ((v : Json) → JsonParts P (out-Json v) → P v) → (v : Json) → P v
json_induction P step =
    ind-Json P (λ x y same. step (roll-Json x) (subst (JsonParts P) (same ∙ sym (out-roll-Json x)) (json_parts_hold P (λ e. e.0) (λ e. e.1) y)))

json_through : (X : Type 0) (at : X → Json) (k : Json → Type 0) (x : Json-F X)
    → json_layer_fits X at (λ p. k (at p)) x ≡ json_layer_fits Json (λ y. y) k (map-Json X Json at x)
json_through X at k Json-F.Null = refl
json_through X at k (Json-F.Bool a) = refl
json_through X at k (Json-F.Number a) = refl
json_through X at k (Json-F.Text a) = refl
json_through X at k (Json-F.List a) = λ i. through at k a.items i
json_through X at k (Json-F.Object a) = λ i. entries_through at string_cmp (λ (q : String Global). IsUtf8 (string_bytes q)) k a.entries i

abbrev pub JsonFits : Json-F Json → Type 0
JsonFits x = json_layer_fits Json (λ y. y) json_fits x

json_fits_is : (v : Json) → json_fits v ≡ JsonFits (out-Json v)
json_fits_is v = ap json_fits (sym (roll-out-Json v)) ∙ rec-roll-Json (Type 0) json_layer_fits json_through (out-Json v)

pub json_fits_out : (v : Json) → json_fits v → JsonFits (out-Json v)
json_fits_out v h = subst (λ T. T) (json_fits_is v) h

pub json_fits_in : (v : Json) (x : Json-F Json) → out-Json v ≡ x → JsonFits x → json_fits v
json_fits_in v x e h = subst (λ T. T) (sym (json_fits_is v)) (subst JsonFits (sym e) h)

pub json_is : (v : Json) → json_data v ≡ json_level (map-Json Json (Option Data) json_data (out-Json v))
json_is v = fold_out-Json (Option Data) json_level v

pub json_is_at : (v : Json) (x : Json-F Json) → out-Json v ≡ x → json_data v ≡ json_level (map-Json Json (Option Data) json_data x)
json_is_at v x e = json_is v ∙ ap (λ z. json_level (map-Json Json (Option Data) json_data z)) e

pub json_at_Object : (a : BTreeMap (String Global) Json Global)
    → json_level (map-Json Json (Option Data) json_data (Json-F.Object a)) ≡ newtype_variant_of (codes "Object")
    (mapping_of (in_turn (λ (q : String Global). Some (text (string_bytes q))) json_data a.entries))
json_at_Object a = λ i. newtype_variant_of (codes "Object")
    (mapping_of (turns_mapped (λ (q : String Global). Some (text (string_bytes q))) json_data a.entries i))
