-- A point in time is read as it was written, and as nothing else, and an end of its bytes is inside of a message.
use Rattle.std.proofs.Common.{◌≡◌, sym, refl, subst, arith, ℕ, ℤ, List, Some, ◌≤◌}
use Rattle.std.specs.Prelude.{FitsSigned, zero, negsuc}
use Rattle.std.specs.Int.{w64}
use Rattle.rmp_wire.specs.Msg as msg
use Rattle.rmp_encode.specs.Data.{extension, lower}
use Rattle.rmp_encode.specs.declared.settings.Settings.{Settings}
use Rattle.rmp_wire.specs.declared.head.Head.{Head}
use Rattle.rmp_wire.specs.declared.head.Head.TheVariants.{Ext}
use Rattle.rmp_wire.specs.declared.marker.Marker.{Marker}
use Rattle.rmp_decode.specs.Content.{RefusesContent}
use Rattle.rmp_ends.specs.EndsInside.{AlwaysInside, IsNoEnd}
use Rattle.rmp_ends.specs.LeafEnds.{contents_inside, neither, syntax_no_end}
use Rattle.rmp_round_trip.specs.RoundTrip.{LowersTo}
use Rattle.rmp_types.specs.Payloads.{Says, time_payload}
use Rattle.rmp_types.specs.Timestamps.{IsTimeHead, IsTimestamp, not_time, time_tag, too_many}
use Rattle.rmp_types.specs.declared.timestamp.Timestamp.{Timestamp}
use Rattle.rmp_types.specs.Says.{payload_says, says_once}

-- points in time of the same content are written alike
pub time_alike : (y z : ℤ) (j k : ℕ) → (y ≡ z) × (j ≡ k)
    → Some (extension time_tag (time_payload y j)) ≡ Some (extension time_tag (time_payload z k))
time_alike y z j k e = λ i. Some (extension time_tag (time_payload (e.0 i) (e.1 i)))

module _ (s : Settings) where
  pub time_row : (seconds : ℤ) (nanoseconds : ℕ) → FitsSigned w64 seconds → nanoseconds ≤ 999999999
      → LowersTo s (Some (extension time_tag (time_payload seconds nanoseconds))) (λ m. IsTimestamp m seconds nanoseconds)
  unfolding lower
  time_row seconds nanoseconds f l = record {
    payload = time_payload seconds nanoseconds;
    is = refl;
    time = (payload_says seconds nanoseconds f (omega arith), l);
  }

  payload_is : (p q : List ℕ) → msg.extension time_tag p ≡ msg.extension time_tag q → p ≡ q
  payload_is p q e = cc

  same_time : (p : List ℕ) (y z : ℤ) (j k : ℕ) → Says p y j → IsTimestamp (msg.extension time_tag p) z k → (y ≡ z) × (j ≡ k)
  same_time p y z j k a r = says_once p y z j k a (subst (λ q. Says q z k) (sym (payload_is p r.payload r.is)) r.time.0)

  pub time_only : (seconds : ℤ) (nanoseconds : ℕ) → FitsSigned w64 seconds → nanoseconds ≤ 999999999
      → LowersTo s (Some (extension time_tag (time_payload seconds nanoseconds)))
      (λ m. (t : Timestamp) → IsTimestamp m t.seconds t.nanoseconds → (seconds ≡ t.seconds) × (nanoseconds ≡ t.nanoseconds))
  unfolding lower
  time_only seconds nanoseconds f l = λ t r.
      same_time (time_payload seconds nanoseconds) seconds t.seconds nanoseconds t.nanoseconds (payload_says seconds nanoseconds f (omega arith)) r

-- ---- no other error is an end

time_none : (m : Marker) (h : Head) → IsNoEnd (not_time m h)
time_none m (Ext n (negsuc zero)) = neither
time_none m h = neither

pub time_inside : AlwaysInside (λ s. RefusesContent s.strict IsTimeHead not_time too_many)
time_inside s = contents_inside s.strict IsTimeHead not_time too_many time_none (λ h p e w r. syntax_no_end e r.1.text r.1.is)
