-- What bytes that may be no UTF-8 lower to is read as those bytes.
use Rattle.std.proofs.Common.{◌≡◌, ℕ, List, Bool, true, false, Some, refl, cond}
use Rattle.std.specs.Prelude.{◌≢◌}
use Rattle.std.specs.Str.{is_utf8}
use Rattle.rmp_wire.specs.Msg as msg
use Rattle.rmp_encode.specs.Data.{text, bytes, lower}
use Rattle.rmp_encode.specs.Trees.{tree_of}
use Rattle.rmp_encode.specs.declared.settings.Settings.{Settings}
use Rattle.rmp_decode.specs.Read.{IsRaw}
use Rattle.rmp_serde.specs.Raws.{raw_data}
use Rattle.rmp_round_trip.specs.OnlyLeaves.{raw_is}
use Rattle.rmp_round_trip.specs.OnlyRows.{lowers_then}
use Rattle.rmp_round_trip.specs.RoundTrip.{LowersTo}

-- the same bytes are written alike
pub raw_alike : (a b : List ℕ) → a ≡ b → Some (raw_data a) ≡ Some (raw_data b)
raw_alike a b e = λ i. Some (raw_data (e i))

module _ (s : Settings) where
  either_row : (b : Bool) (t : List ℕ) → LowersTo s (Some (cond b (text t) (bytes t))) (λ m. IsRaw m t)
  unfolding lower
  either_row true t = (true, refl)
  either_row false t = (false, refl)

  pub raw_row : (t : List ℕ) → LowersTo s (Some (raw_data t)) (λ m. IsRaw m t)
  raw_row t = either_row (is_utf8 t) t

  either_other : (b : Bool) (t : List ℕ) → tree_of s (Some (cond b (text t) (bytes t))) ≢ Some msg.nil
  unfolding lower
  either_other true t e = cc
  either_other false t e = cc

  pub raw_other : (t : List ℕ) → tree_of s (Some (raw_data t)) ≢ Some msg.nil
  raw_other t = either_other (is_utf8 t) t

  module _ {W : Type 0} (f : W → List ℕ) where
    either_only : (b : Bool) (t : List ℕ) → LowersTo s (Some (cond b (text t) (bytes t))) (λ m. (w : W) → IsRaw m (f w) → t ≡ f w)
    unfolding lower
    either_only true t = λ w r. raw_is true r.0 t (f w) r.1
    either_only false t = λ w r. raw_is false r.0 t (f w) r.1

    pub raw_only : (t : List ℕ) → LowersTo s (Some (raw_data t)) (λ m. (w : W) → IsRaw m (f w) → t ≡ f w)
    raw_only t = either_only (is_utf8 t) t

    pub raw_ref_only : (t : List ℕ) (lends : Bool) → LowersTo s (Some (raw_data t)) (λ m. (w : W) → (lends ≡ true) × IsRaw m (f w) → t ≡ f w)
    raw_ref_only t lends = lowers_then s (Some (raw_data t)) (λ m. (w : W) → IsRaw m (f w) → t ≡ f w)
        (λ m. (w : W) → (lends ≡ true) × IsRaw m (f w) → t ≡ f w) (raw_only t) (λ m q w r. q w r.1)

  either_lent : (b : Bool) (t : List ℕ) (lends : Bool) → lends ≡ true → LowersTo s (Some (cond b (text t) (bytes t))) (λ m. (lends ≡ true) × IsRaw m t)
  unfolding lower
  either_lent true t lends l = (l, (true, refl))
  either_lent false t lends l = (l, (false, refl))

  pub raw_ref_row : (t : List ℕ) (lends : Bool) → lends ≡ true → LowersTo s (Some (raw_data t)) (λ m. (lends ≡ true) × IsRaw m t)
  raw_ref_row t lends l = either_lent (is_utf8 t) t lends l
