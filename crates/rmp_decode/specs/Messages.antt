-- The messages of a source, one after another.
use Rattle.std.specs.Prelude.{◌≡◌, ◌≢◌, ◌+◌, ℕ, Bool, true, false, List, Option, None, Some, Result, Ok, Err, length}
use Rattle.std.specs.Borrow.{GName}
use Rattle.std.specs.Iterator.{Count, at_most, endless, count_unless}
use Rattle.rmp_wire.specs.Msg.{Msg}
use Rattle.rmp_wire.specs.declared.source.Source.{Ghosts}
use Rattle.rmp_decode.specs.Law.{Lawful}
use Rattle.rmp_decode.specs.Next.{EndsHere, IsThere, RefusesNext}
use Rattle.rmp_decode.specs.Refusing.{Setting, Refusals, RefusesAs}
use Rattle.rmp_decode.specs.State.{faults_of, left}
use Rattle.rmp_decode.specs.declared.deserializer.Deserializer.{Deserializer}
use Rattle.rmp_decode.specs.declared.deserializer.messages.Messages.{Messages}
use Rattle.rmp_decode.specs.declared.error.Error.{Error}
use Rattle.rmp_decode.specs.declared.error.Error.TheVariants.{OutOfMemory}

-- at most one message for each byte that is left, and an error; no bound where the source doesn't tell its bytes
abbrev pub most_messages : Option (List ℕ) → Count
most_messages None = endless
most_messages (Some xs) = at_most (length xs + 1)

-- what the iterator borrows
abbrev pub messages_lender : {V R C : Type 0} → Messages V R C → Deserializer R C
messages_lender s = s.de.now

-- the name of that reference, which every call keeps
abbrev pub messages_reference : {V R C : Type 0} → Messages V R C → GName
messages_reference s = s.de.ghost_name

-- it has ended, or returned an error
abbrev pub is_done : {V R C : Type 0} → Messages V R C → Bool
is_done s = s.done

module _ {R C V : Type 0} (g : Ghosts R) where
  -- how many items are still to come, at most: none after the end or an error
  abbrev pub messages_left : Messages V R C → Count
  messages_left s = count_unless s.done (most_messages (left g s.de.now))

  -- How the next message is refused: as the type refuses it, or by a fault. Its first byte is there where the source had no fault, and lack of
  -- memory is no reason of a type that takes none.
  pub record RefusesItem (human lends takes_memory : Bool) (reads : Msg → V → Type 0) (refuses : Setting → Refusals) (old new : Deserializer R C) (e : Error) :
      Type 0 where
    pub law : Lawful g reads old new (Err e)
    pub there : old.failed ≡ false → faults_of g new ≡ faults_of g old → IsThere (left g old)
    pub refused : RefusesAs {V = V} g human lends (RefusesNext refuses) old new (Err e)
    pub memory : takes_memory ≡ false → e ≢ OutOfMemory

  module _ (human lends takes_memory : Bool) (reads : Msg → V → Type 0) (refuses : Setting → Refusals) where
    -- an item is what `next` of the reader answers, and the end is its `None`
    abbrev pub Answers : Messages V R C → Option (Result V Error) → Messages V R C → Type 0
    Answers s None t = EndsHere g s.de.now t.de.now × (t.done ≡ true)
    Answers s (Some (Ok v)) t = Lawful g reads s.de.now t.de.now (Ok v) × (t.done ≡ false)
    Answers s (Some (Err e)) t = RefusesItem human lends takes_memory reads refuses s.de.now t.de.now e × (t.done ≡ true)

    -- What a call of the iterator's `next` does. After the end or an error it does nothing.
    pub record YieldsMessage (s : Messages V R C) (r : Option (Result V Error)) (t : Messages V R C) : Type 0 where
      pub same_reference : t.de.ghost_name ≡ s.de.ghost_name
      pub answers : s.done ≡ false → Answers s r t
      pub done : s.done ≡ true → (r ≡ None) × (t ≡ s)
