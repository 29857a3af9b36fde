-- The bytes of texts that needn't be UTF-8, and what they are for a serializer.
use Rattle.std.specs.Prelude.{ℕ, List, cond}
use Rattle.std.specs.Str.{is_utf8}
use Rattle.std.specs.String.{string_bytes}
use Rattle.rmp_encode.specs.Data.{Data, text, bytes}
use Rattle.rmp_serde.specs.declared.raw.Raw.{Raw}
use Rattle.rmp_serde.specs.declared.raw.Content.{Content}
use Rattle.rmp_serde.specs.declared.raw.Content.TheVariants as owned
use Rattle.rmp_serde.specs.declared.raw.RawRef.{RawRef}
use Rattle.rmp_serde.specs.declared.raw.ContentRef.{ContentRef}
use Rattle.rmp_serde.specs.declared.raw.ContentRef.TheVariants as borrowed

abbrev pub content_bytes : Content → List ℕ
content_bytes (owned.Text t) = string_bytes t
content_bytes (owned.Other o) = o.bytes.items

abbrev pub raw_bytes : Raw → List ℕ
raw_bytes r = content_bytes r.content

abbrev pub content_ref_bytes : ContentRef → List ℕ
content_ref_bytes (borrowed.Text t) = t.now
content_ref_bytes (borrowed.Other o) = o.bytes.now

abbrev pub raw_ref_bytes : RawRef → List ℕ
raw_ref_bytes r = content_ref_bytes r.content

-- a text if they are UTF-8, and bytes otherwise
abbrev pub raw_data : List ℕ → Data
raw_data s = cond (is_utf8 s) (text s) (bytes s)
