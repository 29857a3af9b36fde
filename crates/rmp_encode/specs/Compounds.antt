-- What a contract sees of an open tuple struct, struct or variant's content.
use Rattle.std.specs.Prelude.{◌≡◌, ℕ, Bool, true, ◌&&◌, List, Option}
use Rattle.std.specs.Borrow.{GName}
use Rattle.rmp_wire.specs.Msg.{Msg}
use Rattle.rmp_wire.specs.declared.sink.Sink.{Ghosts}
use Rattle.rmp_encode.specs.declared.compound.Compound.{Compound}
use Rattle.rmp_encode.specs.declared.serializer.Serializer.{Serializer}
use Rattle.rmp_encode.specs.Data.{Data}
use Rattle.rmp_encode.specs.Going.{AreMany, IsWriting}
use Rattle.rmp_encode.specs.Ser.{settings_of}

module _ {W C : Type 0} where
  -- the serializer that it writes to, and the reference to it
  abbrev pub inside : Compound W C → Serializer W C
  inside q = q.se.now

  abbrev pub reference : Compound W C → GName
  reference q = q.se.ghost_name

  -- how many elements or fields remain
  abbrev pub left_of : Compound W C → ℕ
  left_of q = q.left

  -- its parts are fields, which have names
  abbrev pub has_fields : Compound W C → Bool
  has_fields q = q.fields

  -- no call has returned an error
  abbrev pub is_sound : Compound W C → Bool
  is_sound q = q.sound

module _ {W C : Type 0} (g : Ghosts W) where
  -- of the tree t of what was opened at old, `rest` remains; with names each field is two parts
  pub record IsFilling (old : Serializer W C) (t : Option Msg) (rest : List (Option Data)) (q : Compound W C) : Type 0 where
    pub sound : q.sound ≡ true
    pub left_is : AreMany (q.fields && (settings_of old).named) q.left rest
    pub state : IsWriting g old t rest q.se.now
