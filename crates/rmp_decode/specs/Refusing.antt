-- Which error the read of a type answers, and how it is composed of those of its parts.
use Rattle.std.specs.Prelude.{◌≡◌, ◌≢◌, ◌⊎◌, ℕ, ◌+◌, ◌<◌, Bool, true, false, List, [], ◌∷◌, ◌++◌, Option, None, Some, Result, IfErr, OnErr, MatchResult, length, pos}
use Rattle.std.specs.Io.KnownBytes.{Consumes}
use Rattle.rmp_wire.specs.declared.head.Head.TheVariants.{Whole}
use Rattle.rmp_wire.specs.declared.source.Source.{Ghosts}
use Rattle.rmp_wire.specs.Canonical.{heads_of, SpellsAs}
use Rattle.rmp_wire.specs.Heads.{canon_head}
use Rattle.rmp_wire.specs.Msg.{Msg, Msgs, count, depth, depth_all}
use Rattle.rmp_decode.specs.Exact.{FaultTold, IsDataEnd, RefusesBy}
use Rattle.rmp_decode.specs.Law.{Lawful, Readable}
use Rattle.rmp_decode.specs.Rows.{ReadsEach}
use Rattle.rmp_decode.specs.Seq.{seq_head, not_seq, levels, SpellsIn, SpellsRow, inner_of, IsOpen, TakesElement, FailsToTake}
use Rattle.rmp_decode.specs.State.{left, faults_of, room_of}
use Rattle.rmp_decode.specs.declared.deserializer.Deserializer.{Deserializer}
use Rattle.rmp_decode.specs.declared.access.seq.SeqAccess.{SeqAccess}
use Rattle.rmp_decode.specs.declared.error.Error.{Error}
use Rattle.rmp_decode.specs.declared.error.Error.TheVariants.{OutOfMemory, Syntax, LengthMismatch}
use Rattle.rmp_decode.specs.declared.text.Text.TheVariants.{InvalidLength}

-- What a read depends on besides its bytes: whether types that have a form for people are read from it, whether the source lends
-- its bytes, whether only canonical heads are read, and the room, below which a message has to nest.
pub record Setting : Type 0 where
  pub human : Bool
  pub lends : Bool
  pub strict : Bool
  pub room : ℕ

-- that of a reader
abbrev pub setting_of : {R C : Type 0} → Bool → Bool → Deserializer R C → Setting
setting_of human lends d = record { human = human; lends = lends; strict = d.strict; room = room_of d }

-- that of the elements of a list
abbrev pub element_setting : {R C : Type 0} → Bool → Bool → SeqAccess R C → Setting
element_setting human lends s = record { human = human; lends = lends; strict = s.de.now.strict; room = inner_of s }

-- the setting of a read from a slice
abbrev pub slice_setting : Bool → Setting
slice_setting strict = record { human = false; lends = true; strict = strict; room = 1024 }

-- the same with another room
abbrev pub inside : Setting → ℕ → Setting
inside s room = record { human = s.human; lends = s.lends; strict = s.strict; room = room }

-- What is known of a read's error, by how many faults the source had before and after, and what was left, where that is told.
abbrev pub Refusals : Type 1
Refusals = ℕ → ℕ → Option (List ℕ) → Error → Type 0

-- nothing is known of the error
abbrev pub any_refusal : Refusals
any_refusal before after known e = Unit {0}

-- A ready reader that was in one state and is in another then refuses so.
abbrev pub RefusesAs : {R C V : Type 0} → Ghosts R → Bool → Bool → (Setting → Refusals) → Deserializer R C → Deserializer R C → Result V Error → Type 0
RefusesAs g human lends P old new result = old.failed ≡ false
    → IfErr result (P (setting_of human lends old) (faults_of g old) (faults_of g new) (left g old))

-- All that the read of a value promises: the value or a refusal, which error comes, and that memory can't run out where the type wants none.
pub record ReadsAs {R C V : Type 0} (g : Ghosts R) (human lends wants : Bool) (reads : Msg → V → Type 0) (P : Setting → Refusals)
    (old new : Deserializer R C) (result : Result V Error) : Type 0 where
  pub law : Lawful g reads old new result
  pub refused : RefusesAs g human lends P old new result
  pub memory : wants ≡ false → IfErr result (λ e. e ≢ OutOfMemory)

-- after a message of which Q holds it is refused as P says
pub record AfterMessage (s : Setting) (Q : Msg → Type 0) (P : Option (List ℕ) → Error → Type 0) (known : Option (List ℕ)) (e : Error) : Type 0 where
  pub bytes : List ℕ
  pub rest : Option (List ℕ)
  pub tree : Msg
  pub takes : Consumes known rest bytes
  pub spelled : SpellsAs s.strict bytes tree
  pub fits : depth tree < s.room
  pub holds : Q tree
  pub refused : P rest e

-- how a value in memory of its own is: the type refuses it, or memory ran out after it
abbrev pub RefusesBoxed : {V : Type 0} → (Bool → Bool → Msg → V → Type 0) → (Setting → Refusals) → Setting → Refusals
RefusesBoxed reads P s before after known e = P s before after known e
    ⊎ AfterMessage s (Readable (reads s.human s.lends)) (λ rest e. e ≡ OutOfMemory) known e

-- how a byte that is read as a number is refused: so as the type refuses its canonical head, or none was left
abbrev pub RefusedByte : Refusals → Refusals
RefusedByte P before after None e = IsDataEnd e ⊎ ((there : Option (List ℕ)) × P before after there e)
RefusedByte P before after (Some []) e = IsDataEnd e
RefusedByte P before after (Some (b ∷ xs)) e = P before after (Some (canon_head (Whole (pos b)) ++ xs)) e

-- how an element of a list is refused, or of bytes, where the source may also have a fault
abbrev pub RefusedIn : Bool → Refusals → Refusals
RefusedIn false P before after known e = P before after known e
RefusedIn true P before after known e = FaultTold before after e ⊎ RefusedByte P before after known e

-- the same of the next element of an access that was in one state and is in another then
abbrev pub ElementRefused : {R C : Type 0} → Ghosts R → Bool → Bool → (Setting → Refusals) → SeqAccess R C → SeqAccess R C → Option (List ℕ) → Error
    → Type 0
ElementRefused g human lends P old new = RefusedIn old.bytes (P (element_setting human lends old)) (faults_of g old.de.now) (faults_of g new.de.now)

-- there was an element, and it was refused: what that says of the bytes, and which error it is
pub record RefusesElement {R C V : Type 0} (g : Ghosts R) (human lends : Bool) (reads : Msg → V → Type 0) (P : Setting → Refusals)
    (old new : SeqAccess R C) (e : Error) : Type 0 where
  pub fails : FailsToTake g reads old new e
  pub named : ElementRefused g human lends P old new (left g old.de.now) e

-- all that the read of an element promises
pub record ReadsElement {R C V : Type 0} (g : Ghosts R) (human lends : Bool) (reads : Bool → Bool → Msg → V → Type 0) (P : Setting → Refusals)
    (takes_memory : Bool) (old new : SeqAccess R C) (result : Result V Error) : Type 0 where
  pub same_reference : new.de.ghost_name ≡ old.de.ghost_name
  pub answers : IsOpen old → MatchResult result (TakesElement g (reads human lends) old new) (RefusesElement g human lends (reads human lends) P old new)
  pub memory : takes_memory ≡ false → IfErr result (λ e. e ≢ OutOfMemory)
  pub failed : OnErr result (new.sound ≡ false)
  pub marked : old.de.now.failed ≡ true → new.de.now.failed ≡ true

-- where there is an element to come, it is refused so
abbrev pub WhereSome : (Option (List ℕ) → Error → Type 0) → ℕ → Option (List ℕ) → Error → Type 0
WhereSome P left known e = (0 < left) × P known e

-- an element is wanted: there is none to come, or it is refused so
abbrev pub Wanted : (Option (List ℕ) → Error → Type 0) → ℕ → Option (List ℕ) → Error → Type 0
Wanted P left known e = ((left ≡ 0) × (e ≡ Syntax InvalidLength)) ⊎ WhereSome P left known e

-- so many were wanted, and more are to come
abbrev pub Excess : ℕ → ℕ → Option (List ℕ) → Error → Type 0
Excess many left known e = (0 < left) × (e ≡ LengthMismatch many)

-- memory was short
abbrev pub IsMemory : ℕ → Option (List ℕ) → Error → Type 0
IsMemory left known e = e ≡ OutOfMemory

-- after items of which Q holds, of n in all, it is refused as P says, by how many are still to come
pub record AfterItems (spells : List ℕ → Msg → Type 0) (Q : Msgs → Type 0) (room n : ℕ) (P : ℕ → Option (List ℕ) → Error
    → Type 0) (known : Option (List ℕ)) (e : Error) : Type 0 where
  pub bytes : List ℕ
  pub rest : Option (List ℕ)
  pub trees : Msgs
  pub still : ℕ
  pub takes : Consumes known rest bytes
  pub spelled : SpellsRow spells bytes trees
  pub many : count trees + still ≡ n
  pub fits : depth_all trees < room
  pub holds : Q trees
  pub refused : P still rest e

-- after the head of a list, or of bytes, it is refused as P says, by whether they are bytes, the setting of an element, and how many there are
pub record Opened (s : Setting) (P : Bool → Setting → ℕ → Option (List ℕ) → Error → Type 0) (known : Option (List ℕ)) (e : Error) : Type 0 where
  pub is_bytes : Bool
  pub inner : ℕ
  pub many : ℕ
  pub bytes : List ℕ
  pub rest : Option (List ℕ)
  pub takes : Consumes known rest bytes
  pub is_head : heads_of s.strict (seq_head is_bytes many) bytes
  pub room_of : s.room ≡ inner + levels is_bytes
  pub refused : P is_bytes (inside s inner) many rest e

-- how a list is refused: it can't be opened, or the refusal comes after its head
abbrev pub RefusesSeq : Setting → (ℕ → ℕ → Bool → Setting → ℕ → Option (List ℕ) → Error → Type 0) → Refusals
RefusesSeq s P before after known e = RefusesBy s.strict (not_seq s.room) before after known e ⊎ Opened s (P before after) known e

-- these are read as some values
abbrev pub EachRead : {V : Type 0} → (Bool → Bool → Msg → V → Type 0) → Setting → Msgs → Type 0
EachRead {V} reads s ms = (vs : List V) × ReadsEach (reads s.human s.lends) ms vs

-- how a list of elements of one type is refused: one of them is, or memory was short for those that were read, of which there is one
abbrev pub RefusesEach : {V : Type 0} → (Bool → Bool → Msg → V → Type 0) → (Setting → Refusals) → Setting → Refusals
RefusesEach reads P s =
    RefusesSeq s (λ a z b i n known e. AfterItems (SpellsIn i.strict b) (EachRead reads i) i.room n (WhereSome (RefusedIn b (P i) a z)) known e
    ⊎ AfterItems (SpellsIn i.strict b) (λ ms. (0 < count ms) × EachRead reads i ms) i.room n IsMemory known e)

-- So many elements of one type are wanted: after fewer of them the next one isn't there or is refused.
abbrev pub OneWanted : {V : Type 0} → ℕ → (Bool → Bool → Msg → V → Type 0) → (Setting → Refusals) → Bool → Setting → ℕ → ℕ → ℕ → Option (List ℕ) → Error
    → Type 0
OneWanted n reads P b s before after many = AfterItems (SpellsIn s.strict b) (λ ms. (count ms < n) × EachRead reads s ms) s.room many
    (Wanted (RefusedIn b (P s) before after))

-- how a list is refused that has other elements than so many of one type: one is wanted, or after so many there are more
abbrev pub RefusesTimes : {V : Type 0} → ℕ → (Bool → Bool → Msg → V → Type 0) → (Setting → Refusals) → Setting → Refusals
RefusesTimes n reads P s =
    RefusesSeq s (λ a z b i many known e. OneWanted n reads P b i a z many known e
    ⊎ AfterItems (SpellsIn i.strict b) (λ ms. (count ms ≡ n) × EachRead reads i ms) i.room many (Excess n) known e)

-- ---- elements of several types, one after another

-- an element that is wanted: what holds of its tree, and how it is refused
pub record Part : Type 1 where
  pub holds : Setting → Msg → Type 0
  pub refuses : Setting → Refusals

-- the element of a type
abbrev pub part_of : {V : Type 0} → (Bool → Bool → Msg → V → Type 0) → (Setting → Refusals) → Part
part_of reads refuses = record { holds = λ s. Readable (reads s.human s.lends); refuses = refuses }

-- an element was read of which P holds, and after it the refusal is as `next` says, by how many are still to come
pub record AfterElement (b : Bool) (s : Setting) (P : Msg → Type 0) (next : ℕ → Option (List ℕ) → Error
    → Type 0) (n : ℕ) (known : Option (List ℕ)) (e : Error) : Type 0 where
  pub bytes : List ℕ
  pub rest : Option (List ℕ)
  pub tree : Msg
  pub still : ℕ
  pub takes : Consumes known rest bytes
  pub spelled : SpellsIn s.strict b bytes tree
  pub many : n ≡ still + 1
  pub fits : depth tree < s.room
  pub holds : P tree
  pub refused : next still rest e

-- The first of these that isn't there or is refused is so, or they are all read and the refusal after them is as `last` says.
abbrev pub RefusesParts : Bool → Setting → ℕ → ℕ → List Part → (ℕ → Option (List ℕ) → Error → Type 0) → ℕ → Option (List ℕ) → Error → Type 0
RefusesParts b s before after [] last n known e = last n known e
RefusesParts b s before after (p ∷ ps) last n known e = Wanted (RefusedIn b (p.refuses s) before after) n known e
    ⊎ AfterElement b s (p.holds s) (RefusesParts b s before after ps last) n known e

-- how a list is refused that has other elements than these
abbrev pub RefusesTuple : List Part → Setting → Refusals
RefusesTuple ps s = RefusesSeq s (λ a z b i. RefusesParts b i a z ps (Excess (length ps)))

-- nothing is refused
abbrev pub no_refusal : ℕ → Option (List ℕ) → Error → Type 0
no_refusal left known e = ⊥

-- one of these was refused of an access that was in one state and is in another then
abbrev pub PartsRefused : {R C : Type 0} → Ghosts R → Bool → Bool → List Part → SeqAccess R C → SeqAccess R C → Error → Type 0
PartsRefused g human lends ps old new e = RefusesParts old.bytes (element_setting human lends old) (faults_of g old.de.now) (faults_of g new.de.now) ps
    no_refusal old.left (left g old.de.now) e
