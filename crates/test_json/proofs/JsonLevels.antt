-- No Json is written as a byte. Written by tools/derive.py.
use Rattle.std.proofs.Common.{◌≡◌, ◌∙◌, refl, ap, Option, None}
use Rattle.rmp_encode.specs.Data.{Data}
use Rattle.rmp_encode.specs.Trees.{byte_of}
use Rattle.test_json.specs.declared.json.Json.{Json}
use Rattle.test_json.specs.declared.json.Json.TheOpen.{Json-F}
use Rattle.test_json.specs.JsonLevels.{json_level, json_data, json_is}
use Rattle.rmp_encode.proofs.Variants.{newtype_no_byte}

level_no_byte : (x : Json-F (Option Data)) → byte_of (json_level x) ≡ None
level_no_byte Json-F.Null = refl
level_no_byte (Json-F.Bool a) = newtype_no_byte _ _
level_no_byte (Json-F.Number a) = newtype_no_byte _ _
level_no_byte (Json-F.Text a) = newtype_no_byte _ _
level_no_byte (Json-F.List a) = newtype_no_byte _ _
level_no_byte (Json-F.Object a) = newtype_no_byte _ _

pub json_no_byte : (v : Json) → byte_of (json_data v) ≡ None
json_no_byte v = ap byte_of (json_is v) ∙ level_no_byte _
