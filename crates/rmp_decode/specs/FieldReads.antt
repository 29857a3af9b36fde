-- All that the reads of fields promise, by what their types say.
use Rattle.std.specs.Prelude.{◌≡◌, ◌≢◌, ◌-◌, ℕ, Bool, true, false, List, Option, None, IfSome, IfNone, Result, Err, IfOk, IfErr}
use Rattle.rmp_wire.specs.declared.source.Source.{Ghosts}
use Rattle.rmp_decode.specs.FieldRefusing.{RefusesFields, PassesSome}
use Rattle.rmp_decode.specs.FieldRows.{TakesRow, FailsRow}
use Rattle.rmp_decode.specs.Fields.{OfFields, given_all, name_refusal}
use Rattle.rmp_decode.specs.Law.{Lawful}
use Rattle.rmp_decode.specs.MapRefusing.{PartRefused}
use Rattle.rmp_decode.specs.Maps.{map_inner, map_lender, map_reference, TakesKey}
use Rattle.rmp_decode.specs.Names.{IsName}
use Rattle.rmp_decode.specs.NamesAhead.{IsBelow}
use Rattle.rmp_decode.specs.Parts.{TakesPart, FailsPart}
use Rattle.rmp_decode.specs.Refusing.{RefusesAs, RefusesParts, no_refusal, setting_of}
use Rattle.rmp_decode.specs.State.{left, faults_of}
use Rattle.rmp_decode.specs.declared.access.fields.Fields.{Ghosts as Fields}
use Rattle.rmp_decode.specs.declared.access.map.MapAccess.{MapAccess}
use Rattle.rmp_decode.specs.declared.deserializer.Deserializer.{Deserializer}
use Rattle.rmp_decode.specs.declared.error.Error.{Error}
use Rattle.rmp_decode.specs.declared.error.Error.TheVariants.{OutOfMemory}

-- All that the read of a struct promises.
pub record ReadsFields {R C V S : Type 0} (g : Ghosts R) (human lends : Bool) (F : Fields V R S) (names : List (List ℕ)) (old new : Deserializer R C)
    (result : Result V Error) : Type 0 where
  pub law : Lawful g (λ m v. OfFields names (λ fs. F.reads human lends fs v) m) old new result
  pub refused : RefusesAs g human lends (RefusesFields names F.needed F.parts) old new result
  -- Where the source lends, and no field's read wants memory, it may run out only at a list or a map that is passed over, and isn't empty.
  pub memory : lends ≡ true → F.takes_memory lends ≡ false → IfErr result (λ e. e ≡ OutOfMemory
      → PassesSome names (setting_of human lends old) (left g old) e)

-- ---- the elements of a list whose head was taken

-- the reader that reads them, which nest one level less
abbrev pub in_row : {R C : Type 0} → Deserializer R C → Deserializer R C
in_row d = record d { room = d.room - 1; failed = false }

-- as many were read as there are fields, and are these values
pub record ReadsRow {R C V S : Type 0} (g : Ghosts R) (human lends : Bool) (F : Fields V R S) (old new : Deserializer R C) (v : V) : Type 0 where
  pub last : Deserializer R C
  pub row : TakesRow g (λ ms. F.reads human lends (given_all ms) v) F.count (in_row old) last
  pub is : new ≡ record last { room = old.room }

-- one of them was refused
pub record MissesRow {R C V S : Type 0} (g : Ghosts R) (human lends : Bool) (F : Fields V R S) (old new : Deserializer R C) (e : Error) : Type 0 where
  pub last : Deserializer R C
  pub row : FailsRow g (λ ms. (v : V) × F.reads human lends (given_all ms) v) F.count (in_row old) last e
  pub is : new ≡ record last { room = old.room }
  pub refused : RefusesParts false (setting_of human lends (in_row old)) (faults_of g old) (faults_of g new) F.parts no_refusal F.count (left g old) e
  pub memory : F.takes_memory lends ≡ false → e ≢ OutOfMemory

-- All that their read does.
pub record ReadsAhead {R C V S : Type 0} (g : Ghosts R) (human lends : Bool) (F : Fields V R S) (old new : Deserializer R C) (result : Result V Error) :
    Type 0
  where
    pub ok : IfOk result (ReadsRow g human lends F old new)
    pub err : IfErr result (MissesRow g human lends F old new)

-- ---- the names of fields, as keys that nest below a room

-- All that the read of one does.
pub record ReadsNamePart {R C : Type 0} (g : Ghosts R) (human lends : Bool) (names : List (List ℕ)) (inner : ℕ) (old new : Deserializer R C)
    (result : Result (Option ℕ) Error) : Type 0 where
  pub ok : IfOk result (TakesPart g (IsName names) inner old new)
  pub err : IfErr result (FailsPart g (IsName names) inner old new)
  pub refused : IfErr result (PartRefused g human lends name_refusal inner old new)
  pub memory : lends ≡ true → IfErr result (λ e. e ≢ OutOfMemory)

-- the same of a read that returns the place of the name, or the count of the names for another, and puts an error into `refusal`
pub record ReadsPlacePart {R C : Type 0} (g : Ghosts R) (human lends : Bool) (names : List (List ℕ)) (inner : ℕ) (old new : Deserializer R C)
    (refusal : Option Error) (result : Option ℕ) : Type 0 where
  pub ok : IfSome result (TakesPart g (IsBelow names) inner old new)
  pub some : IfNone result (refusal ≢ None)
  pub none : IfNone result (IfSome refusal (λ e. ReadsNamePart g human lends names inner old new (Err e)))

-- the same of the next key of a map
pub record NextPlace {R C : Type 0} (g : Ghosts R) (human lends : Bool) (names : List (List ℕ)) (old new : MapAccess R C) (refusal : Option Error)
    (result : Option ℕ) : Type 0 where
  pub same_reference : map_reference new ≡ map_reference old
  pub ok : IfSome result (TakesKey g (IsBelow names) old new)
  pub some : IfNone result (refusal ≢ None)
  pub none : IfNone result (IfSome refusal (λ e. ReadsNamePart g human lends names (map_inner old) (map_lender old) (map_lender new) (Err e)))
