-- What a refused read of a leaf leaves.
use Rattle.std.specs.Prelude.{◌≡◌, ℕ, Bool, false, List, ◌++◌, length, Option, Some, IfSome, Result, IfErr}
use Rattle.rmp_wire.specs.declared.head.Head.{Head}
use Rattle.rmp_wire.specs.declared.marker.Marker.{Marker}
use Rattle.rmp_wire.specs.declared.source.Source.{Ghosts}
use Rattle.rmp_decode.specs.Content.{WholePayload}
use Rattle.rmp_decode.specs.Exact.{BeginsWith, BeginsWithNone}
use Rattle.rmp_decode.specs.Law.{Explains, LeavesNone}
use Rattle.rmp_decode.specs.State.{left, faults_of}
use Rattle.rmp_decode.specs.declared.deserializer.Deserializer.{Deserializer}
use Rattle.rmp_decode.specs.declared.error.Error.{Error}

-- no payload is wanted
abbrev pub no_payload : Head → Type 0
no_payload h = ⊥

-- Of bytes that begin with a head, what follows it is left. Where its payload is wanted and whole, what follows that is left. Of others no more was
-- consumed than the beginning of a head.
pub record LeavesRest (strict : Bool) (wanted : Head → Type 0) (new : Option (List ℕ)) (xs : List ℕ) : Type 0 where
  pub unwanted : (m : Marker) (h : Head) (s : BeginsWith strict m h xs) → (wanted h → ⊥) → new ≡ Some s.rest
  pub whole : (h : Head) (s : List ℕ) → wanted h → (w : WholePayload strict h s xs) → new ≡ Some w.following
  pub none : BeginsWithNone strict xs → LeavesNone new xs

-- the same where the bytes are told, unless memory was short or the source had a fault (it counts them: before, after)
unfoldable pub LeavesAfter : Bool → (Head → Type 0) → Option (List ℕ) → Option (List ℕ) → ℕ → ℕ → Error → Type 0
LeavesAfter strict wanted known new before after e = Explains e before after (IfSome known (LeavesRest strict wanted new))

-- the same of what a ready reader refuses that was in one state and is in another then
abbrev pub RefusalLeaves : {R C V : Type 0} → Ghosts R → (Head → Type 0) → Deserializer R C → Deserializer R C → Result V Error → Type 0
RefusalLeaves g wanted old new result = old.failed ≡ false
    → IfErr result (LeavesAfter old.strict wanted (left g old) (left g new) (faults_of g old) (faults_of g new))

-- where a piece of n bytes is whole, what follows it is left
abbrev pub LeavesPiece : ℕ → Option (List ℕ) → List ℕ → Type 0
LeavesPiece n new xs = (s following : List ℕ) → xs ≡ s ++ following → length s ≡ n → new ≡ Some following

-- the same where the bytes are told, unless memory was short or the source had a fault (it counts them: before, after)
unfoldable pub PieceLeaves : ℕ → Option (List ℕ) → Option (List ℕ) → ℕ → ℕ → Error → Type 0
PieceLeaves n known new before after e = Explains e before after (IfSome known (LeavesPiece n new))
