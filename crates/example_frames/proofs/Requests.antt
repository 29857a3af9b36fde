-- What requests are written as and read from.
use Rattle.std.specs.Prelude.{IsUtf8, [], ◌∷◌, pos, codes, ◌<◌, ◌^◌}
use Rattle.std.proofs.Common.{◌≡◌, ◌∙◌, ℕ, Some, refl, sym, ap, arith}
use Rattle.rmp_wire.specs.Msg.{Msg}
use Rattle.rmp_wire.specs.Heads.{fits_head}
use Rattle.rmp_wire.specs.Spelling.{Fits}
use Rattle.rmp_encode.specs.Calls.{default_settings}
use Rattle.rmp_encode.specs.Data as calls
use Rattle.rmp_encode.specs.Data.{lower, lower_parts, unit_variant}
use Rattle.rmp_encode.specs.Trees.{tree_of, newtype_variant_of, tuple_variant_of}
use Rattle.rmp_decode.specs.Read.{IsUnsigned}
use Rattle.rmp_decode.specs.Rows.{AndThen, NoMore}
use Rattle.rmp_decode.specs.Seq.{OfRow}
use Rattle.rmp_decode.specs.Variants.{OfVariant, Case, NoCase, Bare, Content}
use Rattle.rmp_serde.specs.Read.{AllTextsUtf8, reads_value}
use Rattle.rmp_serde.specs.ValueData.{value_data}
use Rattle.rmp_serde.specs.ValueLowers.{lower_value}
use Rattle.example_frames.specs.Frames.{message_of}
use Rattle.example_frames.specs.declared.request.Request.{Request}
use Rattle.example_frames.specs.declared.request.Request.TheVariants.{Ping, Get, Put}

pub ping_is : tree_of default_settings (Some (unit_variant (codes "Ping"))) ≡ Some (message_of Ping)
unfolding lower
ping_is = refl

pub get_is : (n : ℕ) → tree_of default_settings (newtype_variant_of (codes "Get") (Some (calls.whole (pos n)))) ≡ Some (message_of (Get n))
unfolding lower newtype_variant_of
get_is n = refl

pub put_is : (n : ℕ) (v : Msg) → tree_of default_settings (tuple_variant_of (codes "Put") (Some (calls.whole (pos n)) ∷ (Some (value_data v) ∷ [])))
    ≡ Some (message_of (Put n v))
unfolding lower lower_parts tuple_variant_of
put_is n v = ap (λ m. Some (message_of (Put n m))) (lower_value default_settings v)

-- what is read as a request
unfoldable pub reads_request : Msg → Request → Type 0
reads_request m v = OfVariant (codes "Ping" ∷ (codes "Get" ∷ (codes "Put" ∷ [])))
    (Case (λ c. (v ≡ Ping) × Bare c) (Case (λ c. (a1 : _) × (v ≡ Get a1) × Content (λ k. IsUnsigned 18446744073709551615 k a1) c)
    (Case (λ c. (a1 : _) × (a2 : _) × (v ≡ Put a1 a2)
    × Content (λ k. OfRow (AndThen (λ j. IsUnsigned 18446744073709551615 j a1) (AndThen (λ j. reads_value j a2) NoMore)) k) c) NoCase))) m

pub reads_it : (r : Request) → Fits (message_of r) → AllTextsUtf8 (message_of r) → reads_request (message_of r) r
unfolding OfVariant fits_head reads_request
reads_it Ping f t = (refl, tt)
reads_it (Get n) f t = let below : n < 2 ^ 64 = f.1.1 in (n, refl, (refl, omega arith))
reads_it (Put n v) f t = let below : n < 2 ^ 64 = f.1.1.1.0 in (n, v, refl, ((refl, omega arith), ((refl, t.1.1.0), tt)))

pub reads_one : (r s : Request) → reads_request (message_of r) s → s ≡ r
unfolding OfVariant reads_request
reads_one Ping s h = h.0
reads_one (Get n) s (k, is, (same, below)) = let e : n ≡ k = cc in is ∙ ap Get (sym e)
reads_one (Put n v) s (k, w, is, ((same, below), ((value, texts), none))) = let e : n ≡ k = cc in is ∙ ap (λ t. Put k t) value ∙ ap (λ t. Put t v) (sym e)

-- the texts of a request are UTF-8
pub ping_texts : IsUtf8 (codes "Ping")
unfolding lib.Utf8.encode
ping_texts = (codes "Ping", (refl, refl))

get_utf8 : IsUtf8 (codes "Get")
unfolding lib.Utf8.encode
get_utf8 = (codes "Get", (refl, refl))

put_utf8 : IsUtf8 (codes "Put")
unfolding lib.Utf8.encode
put_utf8 = (codes "Put", (refl, refl))

pub get_texts : (n : ℕ) → AllTextsUtf8 (message_of (Get n))
get_texts n = (get_utf8, tt, tt)

pub put_texts : (n : ℕ) (v : Msg) → AllTextsUtf8 v → AllTextsUtf8 (message_of (Put n v))
put_texts n v t = (put_utf8, (tt, (t, tt)), tt)
