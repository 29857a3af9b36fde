-- What is written of bytes that may be no UTF-8, and what holds them.
use Rattle.std.proofs.Common.{◌≡◌, ◌∙◌, ℕ, List, Bool, true, false, None, Some, Result, refl, sym, ap, subst, cond}
use Rattle.std.proofs.lemmas.Str.{IsUtf8-from_is_utf8, IsUtf8-string_bytes, is_utf8-from_IsUtf8}
use Rattle.std.specs.Prelude.{IsUtf8}
use Rattle.std.specs.Str.{is_utf8}
use Rattle.rmp_wire.specs.Msg as msg
use Rattle.rmp_encode.specs.Data.{text, bytes, lower}
use Rattle.rmp_encode.specs.Trees.{byte_of, tree_of}
use Rattle.rmp_encode.specs.declared.settings.Settings.{Settings}
use Rattle.rmp_encode.specs.Writes.{WritesTree}
use Rattle.rmp_encode.specs.declared.error.Error.{Error}
use Rattle.rmp_wire.specs.declared.sink.Sink.{Ghosts}
use Rattle.std.specs.Borrow.{Bor}
use Rattle.std.specs.String.{string_vec}
use Rattle.std.specs.declared.string.String.{String}
use Rattle.std.specs.declared.alloc.Global.{Global}
use Rattle.std.specs.declared.vec.Vec.{Vec}
use Rattle.rmp_serde.specs.Raws.{raw_data, raw_bytes, raw_ref_bytes, content_bytes, content_ref_bytes}
use Rattle.rmp_serde.specs.declared.raw.Raw.{Raw}
use Rattle.rmp_serde.specs.declared.raw.Content.{Content}
use Rattle.rmp_serde.specs.declared.raw.Content.TheVariants as owned
use Rattle.rmp_serde.specs.declared.raw.RawRef.{RawRef}
use Rattle.rmp_serde.specs.declared.raw.ContentRef.{ContentRef}
use Rattle.rmp_serde.specs.declared.raw.ContentRef.TheVariants as borrowed

-- what they are to a serializer, by whether they are UTF-8
pub raw_text : (t : List ℕ) → IsUtf8 t → raw_data t ≡ text t
raw_text t u = ap (λ b. cond b (text t) (bytes t)) (is_utf8-from_IsUtf8 t u)

else_bytes : (t : List ℕ) (b : Bool) → is_utf8 t ≡ b → (IsUtf8 t → ⊥) → raw_data t ≡ bytes t
else_bytes t true e n = absurd (n (IsUtf8-from_is_utf8 t e))
else_bytes t false e n = ap (λ b. cond b (text t) (bytes t)) e

pub raw_else : (t : List ℕ) → (IsUtf8 t → ⊥) → raw_data t ≡ bytes t
raw_else t n = else_bytes t (is_utf8 t) refl n

no_byte : (b : Bool) (t : List ℕ) → None ≡ byte_of (Some (cond b (text t) (bytes t)))
no_byte true t = refl
no_byte false t = refl

pub raw_no_byte : (t : List ℕ) → None ≡ byte_of (Some (raw_data t))
raw_no_byte t = no_byte (is_utf8 t) t

pub content_utf8 : (x : Content) (s : String Global) → x ≡ owned.Text s → IsUtf8 (content_bytes x)
content_utf8 x s e = subst (λ z. IsUtf8 (content_bytes z)) (sym e) (IsUtf8-string_bytes s)

-- the vector, or the reference, that holds the bytes
abbrev content_vec : Content → Vec ℕ Global
content_vec (owned.Text t) = string_vec t
content_vec (owned.Other o) = o.bytes

content_vec_items : (x : Content) → (content_vec x).items ≡ content_bytes x
content_vec_items (owned.Text t) = refl
content_vec_items (owned.Other o) = refl

abbrev pub raw_vec : Raw → Vec ℕ Global
raw_vec r = content_vec r.content

pub raw_vec_items : (r : Raw) → (raw_vec r).items ≡ raw_bytes r
raw_vec_items r = content_vec_items r.content

abbrev content_lent : ContentRef → Bor (List ℕ)
content_lent (borrowed.Text t) = t
content_lent (borrowed.Other o) = o.bytes

content_lent_bytes : (x : ContentRef) → (content_lent x).now ≡ content_ref_bytes x
content_lent_bytes (borrowed.Text t) = refl
content_lent_bytes (borrowed.Other o) = refl

abbrev pub raw_ref_lent : RawRef → Bor (List ℕ)
raw_ref_lent r = content_lent r.content

pub raw_ref_lent_bytes : (r : RawRef) → (raw_ref_lent r).now ≡ raw_ref_bytes r
raw_ref_lent_bytes r = content_lent_bytes r.content

module _ (s : Settings) where
  text_tree : (t : List ℕ) → IsUtf8 t → tree_of s (Some (raw_data t)) ≡ Some (msg.text t)
  unfolding lower
  text_tree t u = ap (λ d. Some (lower s d)) (raw_text t u)

  bytes_tree : (t : List ℕ) → (IsUtf8 t → ⊥) → tree_of s (Some (raw_data t)) ≡ Some (msg.bin t)
  unfolding lower
  bytes_tree t n = ap (λ d. Some (lower s d)) (raw_else t n)

module _ {W : Type 0} (g : Ghosts W) (m : Bool) (s : Settings) (t u : List ℕ) (e : u ≡ t) {old new : W} {r : Result (Unit {0}) Error} where
  pub text_written : IsUtf8 t → WritesTree g m (Some (msg.text u)) old new r → WritesTree g m (tree_of s (Some (raw_data t))) old new r
  text_written h w = subst (λ z. WritesTree g m z old new r) (ap (λ x. Some (msg.text x)) e ∙ sym (text_tree s t h)) w

  pub bytes_written : (IsUtf8 t → ⊥) → WritesTree g m (Some (msg.bin u)) old new r → WritesTree g m (tree_of s (Some (raw_data t))) old new r
  bytes_written h w = subst (λ z. WritesTree g m z old new r) (ap (λ x. Some (msg.bin x)) e ∙ sym (bytes_tree s t h)) w
