-- Heads that may be read: those of one byte, and where reading isn't strict all others.
use Rattle.std.proofs.Common.{◌≡◌, ◌∙◌, sym, ap, subst, refl, ℕ, ℤ, pos, ◌+◌, ◌<◌, [], ◌∷◌, Bool, true, false, Result, Ok, Err, IfErr, FitsSigned}
use Rattle.std.proofs.Common.{nat_lt, to_z, of_z}
use Rattle.std.proofs.lemmas.Bool.{lt-ltb}
use Rattle.std.proofs.lemmas.Int.{to_z-of_z}
use Rattle.std.specs.Int.{w128}
use Rattle.rmp_wire.specs.declared.error.MarkerReadError.{MarkerReadError}
use Rattle.rmp_wire.specs.declared.error.ValueReadError.{ValueReadError}
use Rattle.rmp_wire.specs.declared.error.ValueReadError.TheVariants as wire
use Rattle.rmp_wire.specs.declared.head.Head.{Head}
use Rattle.rmp_wire.specs.declared.head.Head.TheVariants.{Whole, Text, Array, Map}
use Rattle.rmp_wire.specs.declared.marker.Marker.{Marker}
use Rattle.rmp_wire.specs.declared.source.Source.{Ghosts}
use Rattle.rmp_wire.specs.Canonical.{Opens}
use Rattle.rmp_wire.specs.Heads.{IsHead, canon_head}
use Rattle.rmp_wire.specs.Reading.{ReadsMarker, ReadsHead}
use Rattle.rmp_wire.specs.Taking.{byte_of}
use Rattle.rmp_wire.proofs.HeadReads.{reads_held_number, reads_held_whole}
use Rattle.rmp_wire.proofs.NextReads.{reads_next, fails_at_marker, fails_at_head}
use Rattle.rmp_wire.proofs.Strict.{test_passed}
use Rattle.rmp_decode.specs.Allowed.{AllAllowed, AfterAllowed, FailsAfter, FailsNextAllowed}
use Rattle.rmp_decode.specs.ReadErrors.{of_wire}
use Rattle.rmp_decode.specs.declared.deserializer.heads.HeadError.{HeadError}
use Rattle.rmp_decode.specs.declared.deserializer.heads.HeadError.TheVariants as heads

-- a head whose first byte opens the canonical one may be read
opened_allowed : (w : Bool) (m : Marker) (h : Head) → Opens (byte_of m) (canon_head h) → AllAllowed w m h
opened_allowed false m h o = λ rest i. i
opened_allowed true m h o = λ rest i. test_passed h (byte_of m) rest i o

-- where reading isn't strict, each may
pub lenient_allowed : (w : Bool) (m : Marker) (h : Head) → w ≡ false → AllAllowed w m h
lenient_allowed false m h e = λ rest i. i
lenient_allowed true m h e = absurd (cc)

pub opens_small : (n : ℕ) → n < 128 → Opens n (canon_head (Whole (pos n)))
unfolding canon_head
opens_small n l = let yes : nat_lt n 128 ≡ true = lt-ltb n 128 l in rw yes refl

pub opens_text : (n : ℕ) → n < 32 → Opens (0xa0 + n) (canon_head (Text n))
unfolding canon_head
opens_text n l = let yes : nat_lt n 32 ≡ true = lt-ltb n 32 l in rw yes refl

pub opens_list : (n : ℕ) → n < 16 → Opens (0x90 + n) (canon_head (Array n))
unfolding canon_head
opens_list n l = let yes : nat_lt n 16 ≡ true = lt-ltb n 16 l in rw yes refl

pub opens_map : (n : ℕ) → n < 16 → Opens (0x80 + n) (canon_head (Map n))
unfolding canon_head
opens_map n l = let yes : nat_lt n 16 ≡ true = lt-ltb n 16 l in rw yes refl

module _ {S : Type 0} (g : Ghosts S) (w : Bool) where
  -- the head of a number or of a length that the marker's byte holds
  pub held_whole : (m k : Marker) (v z : ℤ) (s : S) → m ≡ k → v ≡ z → FitsSigned w128 z → IsHead (Whole z) (byte_of k ∷ [])
      → Opens (byte_of k) (canon_head (Whole z)) → AfterAllowed g w m s s (Whole (to_z w128 (of_z w128 v)))
  held_whole m k v z s e q f i o =
      let same : to_z w128 (of_z w128 v) ≡ z = ap (λ t. to_z w128 (of_z w128 t)) q ∙ to_z-of_z w128 z f in
      record {
        read = reads_held_whole g m k v z s e q f i;
        allowed = opened_allowed w m (Whole (to_z w128 (of_z w128 v)))
            (subst (λ t. Opens (byte_of t) (canon_head (Whole (to_z w128 (of_z w128 v))))) (sym e)
            (subst (λ t. Opens (byte_of k) (canon_head (Whole t))) (sym same) o));
      }

  pub held_number : (m k : Marker) (make : ℕ → Head) (a n : ℕ) (s : S) → m ≡ k → a ≡ n → IsHead (make n) (byte_of k ∷ [])
      → Opens (byte_of k) (canon_head (make n)) → AfterAllowed g w m s s (make a)
  held_number m k make a n s e q i o = record {
    read = reads_held_number g m k make a n s e q i;
    allowed = opened_allowed w m (make a) (subst (λ t. Opens (byte_of t) (canon_head (make a))) (sym e)
        (subst (λ t. Opens (byte_of k) (canon_head (make t))) (sym q) o));
  }

  -- a head that was read where reading isn't strict
  pub lenient_read : (m : Marker) (old new : S) (h : Head) → w ≡ false → ReadsHead g m old new (Ok h) → AfterAllowed g w m old new h
  lenient_read m old new h e r = record { read = r; allowed = lenient_allowed w m h e }

  -- the wire's refusal of what follows the marker's byte
  pub wire_refused : (m : Marker) (old new : S) (e : ValueReadError) → ReadsHead g m old new (Err e) → FailsAfter g w m old new (of_wire e)
  wire_refused m old new (wire.InvalidMarkerRead fault) r = r
  wire_refused m old new (wire.InvalidDataRead fault) r = r
  wire_refused m old new (wire.TypeMismatch marker) r = r

  -- an error that another one was made from
  pub wire_failed : (m : Marker) (old new : S) (e : ValueReadError) (r : Result Head HeadError) → r ≡ Err (of_wire e) → ReadsHead g m old new (Err e)
      → IfErr r (FailsAfter g w m old new)
  wire_failed m old new e r q h = rw q (wire_refused m old new e h)

  pub marker_failed : (old new : S) (e : MarkerReadError) (r : Result (Marker × Head) HeadError) → r ≡ Err (heads.InvalidMarkerRead e.0)
      → ReadsMarker g old new (Err e) → IfErr r (FailsNextAllowed g w old new)
  marker_failed old new e r q h = rw q (fails_at_marker g e _ old new refl h)

  rest_failed : (m : Marker) (old mid new : S) (e : HeadError) → ReadsMarker g old mid (Ok m) → FailsAfter g w m mid new e → FailsNextAllowed g w old new e
  rest_failed m old mid new (heads.InvalidMarkerRead fault) r f = fails_at_head g m (wire.InvalidMarkerRead fault) _ old mid new refl r f
  rest_failed m old mid new (heads.InvalidDataRead fault) r f = fails_at_head g m (wire.InvalidDataRead fault) _ old mid new refl r f
  rest_failed m old mid new (heads.TypeMismatch k) r f = fails_at_head g m (wire.TypeMismatch k) _ old mid new refl r f
  rest_failed m old mid new heads.NotCanonical r f = ((m, f.0), reads_next g m f.0 old mid new r f.1, f.2)

  pub head_failed : (m : Marker) (old mid new : S) (e : HeadError) (r : Result (Marker × Head) HeadError) → r ≡ Err e → ReadsMarker g old mid (Ok m)
      → FailsAfter g w m mid new e → IfErr r (FailsNextAllowed g w old new)
  head_failed m old mid new e r q h f = rw q (rest_failed m old mid new e h f)
