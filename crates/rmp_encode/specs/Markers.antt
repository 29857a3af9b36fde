-- Of several items and values that are written in order: at which of them a write failed, and whether its first byte was taken.
use Rattle.std.specs.Prelude.{◌≡◌, ◌⊎◌, ℕ, ◌≤◌, ◌<◌, ◌^◌, length, ◌++◌, Bool, true, false, List, [], ◌∷◌, Option, Result, OnOk, IfErr}
use Rattle.std.specs.Borrow.{Bor}
use Rattle.std.specs.Io.KnownBytes.{Appends}
use Rattle.rmp_wire.specs.Msg.{text}
use Rattle.rmp_wire.specs.Spelling.{canon}
use Rattle.rmp_wire.specs.declared.sink.Sink.{Ghosts}
use Rattle.rmp_encode.specs.declared.error.Error.{Error}
use Rattle.rmp_encode.specs.declared.error.Error.TheVariants.{InvalidValueWrite}
use Rattle.rmp_encode.specs.declared.settings.Settings.{Settings}
use Rattle.rmp_encode.specs.Data.{Data}
use Rattle.rmp_encode.specs.Errors.{IsTooLong}
use Rattle.rmp_encode.specs.Trees.{spelling}
use Rattle.rmp_encode.specs.Writes.{AppendsSome, AtItem, Marks}

-- nothing is known
abbrev pub any_mark : Marks
any_mark old new e = Unit {0}

-- what is written, whole: its bytes, what is known of an error at it, and what holds where it is whole
abbrev pub Piece : Type 1
Piece = List ℕ × Marks × Type 0

-- an item, as a head, a name or a number
abbrev pub item : List ℕ → Piece
item bytes = (bytes, AtItem, Unit {0})

abbrev pub items_of : List (List ℕ) → List Piece
items_of [] = []
items_of (bytes ∷ rest) = item bytes ∷ items_of rest

-- a value of a type, of which this is known
abbrev pub value_of : Settings → Option Data → Marks → Piece
value_of s d marks = (spelling s d, marks, Unit {0})

-- the bytes of each piece were appended, in order
abbrev pub AllPieces : List Piece → Option (List ℕ) → Option (List ℕ) → Type 0
AllPieces [] old new = old ≡ new
AllPieces (p ∷ ps) old new = (mid : Option (List ℕ)) × Appends old mid p.0 × p.2 × AllPieces ps mid new

-- one of the pieces failed, and those before it were written whole
abbrev pub AtPieces : List Piece → Marks
AtPieces [] old new e = ⊥
AtPieces (p ∷ ps) old new e = (AppendsSome e old new × p.1 old new e) ⊎ ((mid : Option (List ℕ)) × Appends old mid p.0 × p.2 × AtPieces ps mid new e)

-- the sink didn't fail
abbrev pub no_fault : Marks
no_fault old new (InvalidValueWrite fault) = ⊥
no_fault old new e = Unit {0}

-- if the sink failed, it was at one of these pieces
abbrev pub FaultAt : List Piece → Marks
FaultAt ps old new e = no_fault old new e ⊎ AtPieces ps old new e

-- a length past 32 bits is refused as such, and nothing is written for it
abbrev pub AtRefusal : Marks
AtRefusal old new e = IsTooLong e × Appends old new []

-- what is never whole, since its length is past 32 bits
abbrev pub refusal : Piece
refusal = ([], AtRefusal, ⊥)

-- of a name: past 32 bits it is refused
abbrev pub AtName : List ℕ → Marks
AtName name old new e = AtItem old new e × (2 ^ 32 ≤ length name → AtRefusal old new e)

-- What is written of fields with these names: each value, and with names its name before it. A name that is whole has fewer than 2 ^ 32 bytes.
-- (MessagePack specification, "str format family".)
abbrev pub name_pieces : Bool → List ℕ → List Piece
name_pieces true name = (canon (text name), AtName name, length name < 2 ^ 32) ∷ []
name_pieces false name = []

abbrev pub field_pieces : Bool → List ℕ → Piece → List Piece
field_pieces named name p = name_pieces named name ++ p ∷ []

abbrev pub pieces_by : Bool → List (Bor (List ℕ)) → List Piece → List Piece
pieces_by named names [] = []
pieces_by named [] (p ∷ ps) = []
pieces_by named (name ∷ names) (p ∷ ps) = field_pieces named name.now p ++ pieces_by named names ps

module _ {W : Type 0} (g : Ghosts W) where
  -- these pieces were written to a sink, or one of them failed
  pub record InOrder {A : Type 0} (ps : List Piece) (old new : W) (r : Result A Error) : Type 0 where
    pub whole : OnOk r (AllPieces ps (g.told old) (g.told new))
    pub stops : IfErr r (AtPieces ps (g.told old) (g.told new))

  -- A name past 32 bits ends the fields: those before it are whole, and then it is refused, and nothing of it is written, or one of the
  -- pieces before it failed.
  abbrev pub EndsAtLong : {A : Type 0} → List Piece → List (Bor (List ℕ)) → List Piece → W → W → Result A Error → Type 0
  EndsAtLong first names ps old new r =
      (before : List (Bor (List ℕ))) (name : Bor (List ℕ)) (after : List (Bor (List ℕ))) → names ≡ before ++ name ∷ after
      → 2 ^ 32 ≤ length name.now → InOrder (first ++ (pieces_by true before ps ++ refusal ∷ [])) old new r
