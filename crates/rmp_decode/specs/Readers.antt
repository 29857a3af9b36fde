-- What a reader over a source shows, and what a read of a source's beginning says.
use Rattle.std.specs.Prelude.{◌≡◌, ◌≢◌, ℕ, ◌<◌, Bool, false, List, Result, IfOk, IfErr}
use Rattle.std.specs.Io.KnownBytes.{Consumes}
use Rattle.rmp_wire.specs.declared.slice.read_reader.ReadReader.{ReadReader}
use Rattle.rmp_wire.specs.declared.source.Source.{Ghosts}
use Rattle.rmp_wire.specs.Copying.{copied_from, copying_with}
use Rattle.rmp_wire.specs.Msg.{Msg, depth}
use Rattle.rmp_wire.specs.Spelling.{Spells}
use Rattle.rmp_decode.specs.Law.{Explains, Readable, Refuses}
use Rattle.rmp_decode.specs.Refusing.{Setting, Refusals}
use Rattle.rmp_decode.specs.declared.deserializer.Deserializer.{Deserializer}
use Rattle.rmp_decode.specs.declared.error.Error.{Error}
use Rattle.rmp_decode.specs.declared.error.Error.TheVariants.{OutOfMemory}

-- `de.get_ref()`
abbrev pub source_of : {R C : Type 0} → Deserializer (ReadReader R) C → R
source_of d = copied_from d.reader

-- the reader after `*de.get_mut() = source`: what it keeps back, and so what is left, is this and then what that source has ahead
abbrev pub reading_with : {R C : Type 0} → Deserializer (ReadReader R) C → R → Deserializer (ReadReader R) C
reading_with d source = record d { reader = copying_with d.reader source }

-- the setting of a read from a source, by whether only canonical heads are read
abbrev pub source_setting : Setting
source_setting = record { human = false; lends = false; strict = false; room = 1024 }

-- A tree is read as v, and of a source that tells its bytes exactly a spelling of it was consumed.
pub record ReadFrom {R V : Type 0} (g : Ghosts R) (reads : Msg → V → Type 0) (old new : R) (v : V) : Type 0 where
  pub bytes : List ℕ
  pub tree : Msg
  pub takes : Consumes (g.ahead old) (g.ahead new) bytes
  pub sound : g.faults new ≡ g.faults old
  pub spelled : Spells bytes tree
  pub fits : depth tree < 1024
  pub value : reads tree v

-- A source refused: unless memory was short or it had a fault, none of its beginnings was one to read; and the error is as the type says.
pub record RefusedBy {R V : Type 0} (g : Ghosts R) (reads : Msg → V → Type 0) (refuses : Refusals) (old new : R) (e : Error) : Type 0 where
  pub explains : Explains e (g.faults old) (g.faults new) (Refuses Spells (Readable reads) 1024 (g.ahead old))
  pub refused : refuses (g.faults old) (g.faults new) (g.ahead old) e

-- all that a read of a value from a source promises: the value, how it refuses, where the source is, and that memory can't run out
pub record ReadsSource {R V : Type 0} (g : Ghosts R) (wants : Bool) (reads : Msg → V → Type 0) (refuses : Refusals) (old new : R)
    (result : Result V Error) : Type 0 where
  pub ok : IfOk result (ReadFrom g reads old new)
  pub err : IfErr result (RefusedBy g reads refuses old new)
  pub place : g.place new ≡ g.place old
  pub memory : wants ≡ false → IfErr result (λ e. e ≢ OutOfMemory)

-- a value was read from a source, which isn't given back: of some state of it, which reads through the same references
pub record TakenFrom {R V : Type 0} (g : Ghosts R) (reads : Msg → V → Type 0) (source : R) (v : V) : Type 0 where
  pub last : R
  pub place : g.place last ≡ g.place source
  pub read : ReadFrom g reads source last v

-- a source refused, and was left in some state
pub record RefusedFrom {R V : Type 0} (g : Ghosts R) (reads : Msg → V → Type 0) (refuses : Refusals) (source : R) (e : Error) : Type 0 where
  pub last : R
  pub place : g.place last ≡ g.place source
  pub refusal : RefusedBy g reads refuses source last e
