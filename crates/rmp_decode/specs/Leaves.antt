-- Messages that are their head.
use Rattle.std.specs.Prelude.{◌≡◌, ◌≢◌, Option, MatchOption, Result, IfErr}
use Rattle.rmp_wire.specs.Msg.{Msg, nil, truth, whole, float32, float64}
use Rattle.rmp_wire.specs.Spelling.{head_of}
use Rattle.rmp_wire.specs.declared.head.Head.{Head}
use Rattle.rmp_wire.specs.declared.head.Head.TheVariants.{Nil, Truth, Whole, F32Bits, F64Bits}
use Rattle.rmp_wire.specs.declared.marker.Marker.{Marker}
use Rattle.rmp_wire.specs.declared.source.Source.{Ghosts}
use Rattle.rmp_decode.specs.Consumed.{RefusalLeaves, no_payload}
use Rattle.rmp_decode.specs.Exact.{RefusesHead}
use Rattle.rmp_decode.specs.Law.{Lawful, Readable}
use Rattle.rmp_decode.specs.declared.deserializer.Deserializer.{Deserializer}
use Rattle.rmp_decode.specs.declared.error.Error.{Error}
use Rattle.rmp_decode.specs.declared.error.Error.TheVariants.{OutOfMemory}

-- the message that a head is by itself
abbrev pub IsAlone : Head → Msg → Type 0
IsAlone Nil m = m ≡ nil
IsAlone (Truth t) m = m ≡ truth t
IsAlone (Whole z) m = m ≡ whole z
IsAlone (F32Bits n) m = m ≡ float32 n
IsAlone (F64Bits n) m = m ≡ float64 n
IsAlone h m = ⊥

-- the head is a message by itself, which is read as this
pub record HoldsAs {V : Type 0} (reads : Msg → V → Type 0) (h : Head) (v : V) : Type 0 where
  pub tree : Msg
  pub alone : IsAlone h tree
  pub value : reads tree v

-- no message with that head is read
abbrev pub HoldsNone : {V : Type 0} → (Msg → V → Type 0) → Head → Type 0
HoldsNone reads h = (m : Msg) → Readable reads m → head_of m ≡ h → ⊥

-- the head holds this, or nothing that is read
abbrev pub Holds : {V : Type 0} → (Msg → V → Type 0) → Head → Option V → Type 0
Holds reads h found = MatchOption found (HoldsNone reads h) (HoldsAs reads h)

-- all that a read of a message promises that is its head
pub record ReadsLeaf {R C V : Type 0} (g : Ghosts R) (reads : Msg → V → Type 0) (table : Marker → Head → Error) (old new : Deserializer R C)
    (result : Result V Error) : Type 0 where
  pub law : Lawful g reads old new result
  pub exact : RefusesHead g table old new result
  pub taken : RefusalLeaves g no_payload old new result
  pub memory : IfErr result (λ e. e ≢ OutOfMemory)
