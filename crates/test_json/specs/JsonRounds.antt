-- Each Json is read as it was written, and as nothing else. Written by tools/derive.py.
use Rattle.std.proofs.Common.{◌≡◌, ◌∙◌, refl, sym, ap, subst, List, map, Option, Some, String}
use Rattle.std.specs.Cmp.Lexicographic.{slice_cmp}
use Rattle.std.specs.Ordering.{nat_cmp}
use Rattle.std.specs.String.{string_cmp, string_cmp_total}
use Rattle.std.proofs.lemmas.Map.Lookups.{exact_bytes}
use Rattle.std.specs.declared.collections.BTreeMap.{BTreeMap}
use Rattle.std.specs.Prelude.{◌≢◌, codes, Vec, Bool, ℤ, pos, negsuc, IsUtf8, IsSome, string_bytes}
use Rattle.std.specs.declared.alloc.Global.{Global}
use Rattle.rmp_wire.specs.Msg.{Msg, nil}
use Rattle.rmp_decode.specs.Maps.{ReadsEntries}
use Rattle.rmp_decode.specs.Read.{IsSigned, IsRaw}
use Rattle.rmp_decode.specs.Rows.{ReadsEach}
use Rattle.rmp_decode.specs.Variants.{OfVariant, Content}
use Rattle.rmp_encode.specs.Data.{Data, whole, truth, text, unit_variant}
use Rattle.rmp_encode.specs.Trees.{tree_of, slice_of, mapping_of, in_turn, newtype_variant_of}
use Rattle.rmp_encode.specs.declared.settings.Settings.{Settings}
use Rattle.rmp_round_trip.specs.LeafRounds.{truth_row, string_row, signed_row_64}
use Rattle.rmp_round_trip.specs.MapRounds.{map_row, pairs_row}
use Rattle.rmp_round_trip.specs.OnlyFields.{AtPlace, AnyContent, content_only, variant_both}
use Rattle.rmp_round_trip.specs.OnlyLeaves.{truth_only, signed_only, string_only}
use Rattle.rmp_round_trip.specs.OnlyMaps.{map_only}
use Rattle.rmp_round_trip.specs.OnlyRows.{list_only, lowers_then}
use Rattle.rmp_round_trip.specs.RoundTrip.{Alike, AlikeEntries, LowersTo, Only}
use Rattle.rmp_round_trip.specs.Rounds.{slice_some, each_row, slice_row}
use Rattle.rmp_round_trip.specs.VariantRounds.{newtype_variant_some, bare_row, newtype_variant_row, bare_other, newtype_variant_other}
use Rattle.rmp_recursive.specs.Parts.{Row, each_from}
use Rattle.rmp_recursive.specs.MapRounds.{mapping_data, maps_alike}
use Rattle.rmp_recursive.specs.Maps.{entries_from}
use Rattle.rmp_recursive.specs.Rounds.{each_data, lowers_as, map_alike}
use Rattle.test_json.specs.declared.json.Json.{Json, out-Json}
use Rattle.test_json.specs.declared.json.Json.TheFolds.{map-Json}
use Rattle.test_json.specs.declared.json.Json.TheOpen.{Json-F}
use Rattle.test_json.specs.JsonLevels.{
  JsonCase,
  IsJson,
  JsonParts,
  JsonFits,
  json_at_Object,
  json_names,
  json_level,
  json_data,
  json_fits,
  json_made,
  json_out,
  json_induction,
  json_fits_out,
  json_is,
  json_is_at,
}
use Rattle.rmp_wire.specs.Msg as msg

-- ---- no value is refused

json_level_some : (x : Json-F Json) → JsonParts (λ t. IsSome (json_data t)) x → IsSome (json_level (map-Json Json (Option Data) json_data x))
json_level_some Json-F.Null h = refl
json_level_some (Json-F.Bool a) h = newtype_variant_some (codes "Bool") (Some (truth a)) refl
json_level_some (Json-F.Number a) h = newtype_variant_some (codes "Number") (Some (whole a)) refl
json_level_some (Json-F.Text a) h = newtype_variant_some (codes "Text") (Some (text (string_bytes a))) refl
json_level_some (Json-F.List a) h = newtype_variant_some (codes "List") (slice_of (map json_data a.items))
    (slice_some (map json_data a.items) (each_data json_data a.items h))
json_level_some (Json-F.Object a) h = subst IsSome (sym (json_at_Object a))
    (newtype_variant_some (codes "Object") (mapping_of (in_turn (λ (q : String Global). Some (text (string_bytes q))) json_data a.entries))
    (mapping_data (λ (q : String Global). Some (text (string_bytes q))) json_data (λ q. refl) a.entries h))

pub json_some : (v : Json) → IsSome (json_data v)
json_some = json_induction (λ v. IsSome (json_data v)) (λ v h. subst IsSome (sym (json_is v)) (json_level_some (out-Json v) h))

module _ (s : Settings) where
  -- ---- it is never nil

  json_level_other : (x : Json-F (Option Data)) → tree_of s (json_level x) ≢ Some nil
  json_level_other Json-F.Null e = bare_other s (codes "Null") e
  json_level_other (Json-F.Bool a) e = newtype_variant_other s (codes "Bool") (Some (truth a)) e
  json_level_other (Json-F.Number a) e = newtype_variant_other s (codes "Number") (Some (whole a)) e
  json_level_other (Json-F.Text a) e = newtype_variant_other s (codes "Text") (Some (text (string_bytes a))) e
  json_level_other (Json-F.List a) e = newtype_variant_other s (codes "List") (slice_of a.items) e
  json_level_other (Json-F.Object a) e = newtype_variant_other s (codes "Object")
      (mapping_of (in_turn (λ (q : String Global). Some (text (string_bytes q))) (λ x. x) a.entries)) e

  pub json_other : (v : Json) → tree_of s (json_data v) ≢ Some nil
  json_other v e = json_level_other (map-Json Json (Option Data) json_data (out-Json v)) (ap (tree_of s) (sym (json_is v)) ∙ e)

  -- ---- what a value lowers to is read as that value

  abbrev JsonBack : Json → Type 0
  JsonBack v = LowersTo s (json_data v) (λ m. IsJson m v)

  abbrev JsonRound : Json → Type 0
  JsonRound v = json_fits v → JsonBack v

  json_level_round : (v : Json) (x : Json-F Json) → out-Json v ≡ x → JsonParts JsonRound x → JsonFits x
      → LowersTo s (json_level (map-Json Json (Option Data) json_data x)) (λ m. OfVariant json_names (JsonCase IsJson v) m)
  json_level_round v Json-F.Null e h fit = bare_row s json_names (codes "Null") 0 refl (JsonCase IsJson v) (e, tt)
  json_level_round v (Json-F.Bool a) e h fit = newtype_variant_row s json_names (codes "Bool") 1 refl (JsonCase IsJson v)
      (Some (truth a)) (λ m. m ≡ msg.truth a) (λ m p. (a, e, p)) (truth_row s a)
  json_level_round v (Json-F.Number a) e h fit = newtype_variant_row s json_names (codes "Number") 2 refl (JsonCase IsJson v)
      (Some (whole a)) (λ m. IsSigned (negsuc 9223372036854775807) (pos 9223372036854775807) m a) (λ m p. (a, e, p)) (signed_row_64 s a fit)
  json_level_round v (Json-F.Text a) e h fit = newtype_variant_row s json_names (codes "Text") 3 refl (JsonCase IsJson v)
      (Some (text (string_bytes a))) (λ m. IsRaw m (string_bytes a)) (λ m p. (a, e, p)) (string_row s (string_bytes a))
  json_level_round v (Json-F.List a) e h fit = newtype_variant_row s json_names (codes "List") 4 refl (JsonCase IsJson v)
      (slice_of (map json_data a.items)) (λ m. Row IsJson m a.items) (λ m p. (a, e, p)) (slice_row s (map json_data a.items) (λ ms. ReadsEach IsJson ms a.items)
      (each_row s json_data JsonBack IsJson (λ w p. p) a.items (each_from json_fits JsonBack a.items h fit)))
  json_level_round v (Json-F.Object a) e h fit = subst (λ d. LowersTo s d (λ m. OfVariant json_names (JsonCase IsJson v) m)) (sym (json_at_Object a))
      (newtype_variant_row s json_names (codes "Object") 5 refl (JsonCase IsJson v)
      (mapping_of (in_turn (λ (q : String Global). Some (text (string_bytes q))) json_data a.entries))
      (λ m. ReadsEntries string_cmp (λ j q. IsRaw j (string_bytes q)) IsJson a.entries m) (λ m p. (a, e, p))
      (map_row s (λ (q : String Global). Some (text (string_bytes q))) json_data (λ (q : String Global). IsUtf8 (string_bytes q)) JsonBack
      (λ (j : Msg) (q : String Global). IsRaw j (string_bytes q)) IsJson (λ q u. string_row s (string_bytes q)) (λ w p. p)
      string_cmp_total a.entries fit.1 (entries_from (λ (q : String Global). IsUtf8 (string_bytes q)) json_fits JsonBack a.entries h fit.0)))

  pub json_round : (v : Json) → JsonRound v
  json_round = json_induction JsonRound
      (λ v h fits. subst (λ d. LowersTo s d (λ m. IsJson m v)) (sym (json_is v))
      (lowers_as s (json_level (map-Json Json (Option Data) json_data (out-Json v))) (λ m. OfVariant json_names (JsonCase IsJson v) m) (λ m. IsJson m v)
      (json_made v) (json_level_round v (out-Json v) refl h (json_fits_out v fits))))

-- ---- values of the same content are written alike

abbrev pub SameJson : Json → Json → Type 0
SameJson v w = json_data v ≡ json_data w

json_by : (w : Json) (y : Json-F Json) → out-Json w ≡ y → json_level (map-Json Json (Option Data) json_data y) ≡ json_data w
json_by w y e = sym (json_is_at w y e)

module _ (s : Settings) where
  abbrev JsonOnly : Json → Type 0
  JsonOnly v = LowersTo s (json_data v) (λ m. Only IsJson SameJson m v)

  abbrev JsonLevelOnly : Json-F Json → Msg → Type 0
  JsonLevelOnly x m = (w : Json) → OfVariant json_names (JsonCase IsJson w) m → json_level (map-Json Json (Option Data) json_data x) ≡ json_data w

  json_level_only : (x : Json-F Json) → JsonParts (λ v. json_fits v → JsonOnly v) x → JsonFits x
      → LowersTo s (json_level (map-Json Json (Option Data) json_data x)) (JsonLevelOnly x)
  json_level_only Json-F.Null h fit =
      lowers_then s (Some (unit_variant (codes "Null"))) (OfVariant json_names (AtPlace 0 AnyContent)) (JsonLevelOnly Json-F.Null)
      (bare_row s json_names (codes "Null") 0 refl (AtPlace 0 AnyContent) (refl, tt))
      (λ m q w r. variant_both json_names 0 AnyContent (JsonCase IsJson w) _ m q r (λ c i j. json_by w Json-F.Null j.0))
  json_level_only (Json-F.Bool a) h fit =
      lowers_then s (newtype_variant_of (codes "Bool") (Some (truth a))) _ (JsonLevelOnly (Json-F.Bool a))
      (newtype_variant_row s json_names (codes "Bool") 1 refl
      (AtPlace 1 (Content (λ k. Only (λ (k : Msg) (x : Bool). k ≡ msg.truth x) (λ (x y : Bool). x ≡ y) k a))) (Some (truth a))
      (λ k. Only (λ (k : Msg) (x : Bool). k ≡ msg.truth x) (λ (x y : Bool). x ≡ y) k a) (λ m p. (refl, p)) (truth_only s a))
      (λ m q w r. variant_both json_names 1 _ (JsonCase IsJson w) _ m q r
      (λ c i j. ap (λ d. newtype_variant_of (codes "Bool") d)
      (ap (λ n. Some (truth n)) (content_only (λ (k : Msg) (x : Bool). k ≡ msg.truth x) (λ (x y : Bool). x ≡ y) a j.0 c i j.2))
      ∙ json_by w (Json-F.Bool j.0) j.1))
  json_level_only (Json-F.Number a) h fit =
      lowers_then s (newtype_variant_of (codes "Number") (Some (whole a))) _ (JsonLevelOnly (Json-F.Number a))
      (newtype_variant_row s json_names (codes "Number") 2 refl
      (AtPlace 2 (Content (λ k. Only (λ (k : Msg) (x : ℤ). IsSigned (negsuc 9223372036854775807) (pos 9223372036854775807) k x) (λ (x y : ℤ). x ≡ y) k
      a))) (Some (whole a))
      (λ k. Only (λ (k : Msg) (x : ℤ). IsSigned (negsuc 9223372036854775807) (pos 9223372036854775807) k x) (λ (x y : ℤ). x ≡ y) k a) (λ m p. (refl, p))
      (signed_only s (negsuc 9223372036854775807) (pos 9223372036854775807) a))
      (λ m q w r. variant_both json_names 2 _ (JsonCase IsJson w) _ m q r
      (λ c i j. ap (λ d. newtype_variant_of (codes "Number") d)
      (ap (λ n. Some (whole n)) (content_only (λ (k : Msg) (x : ℤ). IsSigned (negsuc 9223372036854775807) (pos 9223372036854775807) k x)
      (λ (x y : ℤ). x ≡ y) a j.0 c i j.2)) ∙ json_by w (Json-F.Number j.0) j.1))
  json_level_only (Json-F.Text a) h fit =
      lowers_then s (newtype_variant_of (codes "Text") (Some (text (string_bytes a)))) _ (JsonLevelOnly (Json-F.Text a))
      (newtype_variant_row s json_names (codes "Text") 3 refl
      (AtPlace 3 (Content (λ k. Only (λ (k : Msg) (x : String Global). IsRaw k (string_bytes x))
      (λ (x y : String Global). string_bytes x ≡ string_bytes y) k a))) (Some (text (string_bytes a)))
      (λ k. Only (λ (k : Msg) (x : String Global). IsRaw k (string_bytes x)) (λ (x y : String Global). string_bytes x ≡ string_bytes y) k a)
      (λ m p. (refl, p)) (string_only s (λ (w : String Global). string_bytes w) (string_bytes a)))
      (λ m q w r. variant_both json_names 3 _ (JsonCase IsJson w) _ m q r
      (λ c i j. ap (λ d. newtype_variant_of (codes "Text") d)
      (ap (λ n. Some (text n)) (content_only (λ (k : Msg) (x : String Global). IsRaw k (string_bytes x))
      (λ (x y : String Global). string_bytes x ≡ string_bytes y) a j.0 c i j.2)) ∙ json_by w (Json-F.Text j.0) j.1))
  json_level_only (Json-F.List a) h fit =
      lowers_then s (newtype_variant_of (codes "List") (slice_of (map json_data a.items))) _ (JsonLevelOnly (Json-F.List a))
      (newtype_variant_row s json_names (codes "List") 4 refl
      (AtPlace 4 (Content (λ k. Only (λ (k : Msg) (x : Vec Json Global). Row IsJson k x.items)
      (λ (x y : Vec Json Global). Alike SameJson x.items y.items) k a))) (slice_of (map json_data a.items))
      (λ k. Only (λ (k : Msg) (x : Vec Json Global). Row IsJson k x.items) (λ (x y : Vec Json Global). Alike SameJson x.items y.items) k a)
      (λ m p. (refl, p)) (list_only s (slice_of (map json_data a.items)) (λ us. us.items) IsJson SameJson a.items
      (slice_row s (map json_data a.items) (λ ms. ReadsEach (Only IsJson SameJson) ms a.items)
      (each_row s json_data JsonOnly (Only IsJson SameJson) (λ w p. p) a.items (each_from json_fits JsonOnly a.items h fit)))))
      (λ m q w r. variant_both json_names 4 _ (JsonCase IsJson w) _ m q r
      (λ c i j. ap (λ d. newtype_variant_of (codes "List") d)
      (ap slice_of (map_alike json_data a.items j.0.items
      (content_only (λ (k : Msg) (x : Vec Json Global). Row IsJson k x.items) (λ (x y : Vec Json Global). Alike SameJson x.items y.items) a j.0 c i
      j.2))) ∙ json_by w (Json-F.List j.0) j.1))
  json_level_only (Json-F.Object a) h fit =
      subst (λ d. LowersTo s d (JsonLevelOnly (Json-F.Object a))) (sym (json_at_Object a))
      (lowers_then s (newtype_variant_of (codes "Object") (mapping_of (in_turn (λ (q : String Global). Some (text (string_bytes q))) json_data a.entries)))
      _ (JsonLevelOnly (Json-F.Object a))
      (newtype_variant_row s json_names (codes "Object") 5 refl
      (AtPlace 5 (Content (λ k. Only (λ (k : Msg) (x : BTreeMap (String Global) Json Global). ReadsEntries string_cmp (λ j q. IsRaw j (string_bytes q))
      IsJson x.entries k) (λ (x y : BTreeMap (String Global) Json Global). AlikeEntries string_cmp
      (λ (q r : String Global). string_bytes q ≡ string_bytes r) SameJson x.entries y.entries) k a)))
      (mapping_of (in_turn (λ (q : String Global). Some (text (string_bytes q))) json_data a.entries))
      (λ k. Only (λ (k : Msg) (x : BTreeMap (String Global) Json Global). ReadsEntries string_cmp (λ j q. IsRaw j (string_bytes q)) IsJson x.entries k)
      (λ (x y : BTreeMap (String Global) Json Global). AlikeEntries string_cmp (λ (q r : String Global). string_bytes q ≡ string_bytes r) SameJson
      x.entries y.entries) k a) (λ m p. (refl, p)) (map_only (λ (j : Msg) (q : String Global). IsRaw j (string_bytes q)) IsJson
      (λ (q r : String Global). string_bytes q ≡ string_bytes r) SameJson s
      (mapping_of (in_turn (λ (q : String Global). Some (text (string_bytes q))) json_data a.entries)) (λ us. us.entries) string_cmp a.entries
      (pairs_row s (λ (q : String Global). Some (text (string_bytes q))) json_data (λ (q : String Global). IsUtf8 (string_bytes q)) JsonOnly
      (Only (λ (j : Msg) (q : String Global). IsRaw j (string_bytes q)) (λ (q r : String Global). string_bytes q ≡ string_bytes r))
      (Only IsJson SameJson)
      (λ q u. string_only s (λ (w : String Global). string_bytes w) (string_bytes q)) (λ w p. p) a.entries
      (entries_from (λ (q : String Global). IsUtf8 (string_bytes q)) json_fits JsonOnly a.entries h fit.0))))
      (λ m q w r. variant_both json_names 5 _ (JsonCase IsJson w) _ m q r
      (λ c i j. json_at_Object a ∙ ap (λ d. newtype_variant_of (codes "Object") d)
      (ap mapping_of (maps_alike (λ (q : String Global). string_bytes q) (slice_cmp nat_cmp) string_cmp_total (exact_bytes) (λ q. Some (text q))
      json_data a.entries j.0.entries fit.1 (content_only
      (λ (k : Msg) (x : BTreeMap (String Global) Json Global). ReadsEntries string_cmp (λ j q. IsRaw j (string_bytes q)) IsJson x.entries k)
      (λ (x y : BTreeMap (String Global) Json Global). AlikeEntries string_cmp (λ (q r : String Global). string_bytes q ≡ string_bytes r) SameJson
      x.entries y.entries) a j.0 c i j.2))) ∙ sym (json_at_Object j.0) ∙ json_by w (Json-F.Object j.0) j.1)))

  pub json_only : (v : Json) → json_fits v → JsonOnly v
  json_only = json_induction (λ v. json_fits v → JsonOnly v)
      (λ v h fits. subst (λ d. LowersTo s d (λ m. Only IsJson SameJson m v)) (sym (json_is v))
      (lowers_then s (json_level (map-Json Json (Option Data) json_data (out-Json v))) (JsonLevelOnly (out-Json v)) (λ m. Only IsJson SameJson m v)
      (json_level_only (out-Json v) h (json_fits_out v fits)) (λ m q w r. json_is v ∙ q w (json_out m w r))))
