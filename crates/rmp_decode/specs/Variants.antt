-- What the variants of an enum are read from: a name alone, or a map of one pair, from a name to content.
use Rattle.std.specs.Prelude.{◌≡◌, ◌≢◌, ◌<◌, ℕ, zero, suc, ◌+◌, ◌-◌, max, Bool, true, false, List, length, Option, Some, None, MatchOption}
use Rattle.std.specs.Prelude.{Result, MatchResult, Ok, Err, OnOk, OnErr, ◌⊎◌}
use Rattle.std.specs.Borrow.{Bor, GName}
use Rattle.std.specs.Option.{option_and_then, option_map}
use Rattle.rmp_wire.specs.declared.head.Head.{Head}
use Rattle.rmp_wire.specs.declared.head.Head.TheVariants.{Map}
use Rattle.rmp_wire.specs.declared.marker.Marker.{Marker}
use Rattle.rmp_wire.specs.declared.source.Source.{Ghosts}
use Rattle.rmp_wire.specs.Canonical.{SpellsAs}
use Rattle.rmp_wire.specs.Msg.{Msg, nil, truth, whole, float32, float64, text, bin, list, extension, Pairs, no_pairs, pair}
use Rattle.rmp_wire.specs.Msg.{map as mapping}
use Rattle.rmp_decode.specs.Content.{IsRawHead, RefusesContent}
use Rattle.rmp_decode.specs.Exact.{RefusesBy}
use Rattle.rmp_decode.specs.Law.{Reads, TakesHead, Refuses, Readable, Explains, Lawful, IsFailedBefore}
use Rattle.rmp_decode.specs.MapRefusing.{OpenedMap}
use Rattle.rmp_decode.specs.Names.{bytes_of, name_of}
use Rattle.rmp_decode.specs.Parts.{TakesPart}
use Rattle.rmp_decode.specs.Refusing.{Setting, Refusals, setting_of}
use Rattle.rmp_decode.specs.Seq.{IsSeq, IsOpen, inner_of, levels, seq_head, not_seq}
use Rattle.rmp_decode.specs.State.{left, faults_of, room_of, Stays}
use Rattle.rmp_decode.specs.VariantNames.{IsPlace, other_name, unknown_name, RefusesName}
use Rattle.rmp_decode.specs.With.{Reading, PartGiven}
use Rattle.rmp_decode.specs.declared.deserializer.Deserializer.{Deserializer}
use Rattle.rmp_decode.specs.declared.deserializer.Kept.TheVariants.{Nothing}
use Rattle.rmp_decode.specs.declared.access.seq.SeqAccess.{SeqAccess}
use Rattle.rmp_decode.specs.declared.access.variant.Variant.{Variant}
use Rattle.rmp_decode.specs.declared.error.Error.{Error}
use Rattle.rmp_decode.specs.declared.error.Error.TheVariants.{DepthLimitExceeded, LengthMismatch, OutOfMemory, Syntax, TypeMismatch}
use Rattle.rmp_decode.specs.declared.text.Text.TheVariants.{InvalidType}

-- ---- what types read of variants

-- a variant's place, by what a name says, and its content, if there is any
abbrev pub placed : Option Msg → Option (Option ℕ) → Option (ℕ × Option Msg)
placed c o = option_and_then (option_map (λ n. (n, c))) o

abbrev pub variant_in : List (List ℕ) → Pairs → Option (ℕ × Option Msg)
variant_in names no_pairs = None
variant_in names (pair k v no_pairs) = placed (Some v) (name_of names k)
variant_in names (pair k v (pair j w ps)) = None

-- The place of a variant by its name, and its content, which a name alone has none of. `None` for a tree that is no variant, whatever the contents' types are.
abbrev pub variant_of : List (List ℕ) → Msg → Option (ℕ × Option Msg)
variant_of names nil = None
variant_of names (truth t) = None
variant_of names (whole z) = placed None (name_of names (whole z))
variant_of names (float32 n) = None
variant_of names (float64 n) = None
variant_of names (text s) = placed None (name_of names (text s))
variant_of names (bin s) = placed None (name_of names (bin s))
variant_of names (list ms) = None
variant_of names (mapping ps) = variant_in names ps
variant_of names (extension tag s) = None

-- a variant of whose place and content this holds
unfoldable pub OfVariant : List (List ℕ) → (ℕ × Option Msg → Type 0) → Msg → Type 0
OfVariant names Q m = MatchOption (variant_of names m) ⊥ Q

-- a variant
abbrev pub IsVariant : List (List ℕ) → Msg → Type 0
IsVariant names = OfVariant names (λ p. Unit {0})

abbrev pub case_at : (Option Msg → Type 0) → (ℕ × Option Msg → Type 0) → ℕ → Option Msg → Type 0
case_at P Q zero c = P c
case_at P Q (suc n) c = Q (n, c)

-- the first variant, of whose content P holds, or one of the others
abbrev pub Case : (Option Msg → Type 0) → (ℕ × Option Msg → Type 0) → ℕ × Option Msg → Type 0
Case P Q p = case_at P Q p.0 p.1

-- there are no others
abbrev pub NoCase : ℕ × Option Msg → Type 0
NoCase p = ⊥

-- the variant at that place, of whose content P holds
unfoldable pub IsAt : ℕ → (Option Msg → Type 0) → ℕ × Option Msg → Type 0
IsAt n P p = (p.0 ≡ n) × P p.1

-- where it is the variant at that place, P holds of its content
unfoldable pub IfAt : ℕ → (Option Msg → Type 0) → ℕ × Option Msg → Type 0
IfAt n P p = p.0 ≡ n → P p.1

-- no content, or nil
abbrev pub Bare : Option Msg → Type 0
Bare None = Unit {0}
Bare (Some m) = m ≡ nil

-- content of which P holds
abbrev pub Content : (Msg → Type 0) → Option Msg → Type 0
Content P None = ⊥
Content P (Some m) = P m

-- ---- the access

-- a name alone was read
abbrev pub is_bare : {R C : Type 0} → Variant R C → Bool
is_bare v = v.bare

-- what it borrows
abbrev pub variant_lender : {R C : Type 0} → Variant R C → Deserializer R C
variant_lender v = v.de.now

-- the name of that reference, which every call keeps
abbrev pub variant_reference : {R C : Type 0} → Variant R C → GName
variant_reference v = v.de.ghost_name

-- the room of the content
abbrev pub content_room : {R C : Type 0} → Variant R C → ℕ
content_room v = v.inner

-- the head of a map of one pair was taken, and then its key, which is the name of the variant at that place
pub record TakesKeyOf {R C : Type 0} (g : Ghosts R) (names : List (List ℕ)) (n : ℕ) (old new : Deserializer R C) (inner : ℕ) : Type 0 where
  pub between : Deserializer R C
  pub head : TakesHead g (Map 1) old between
  pub room : room_of old ≡ max 1 inner + 1
  pub stays : Stays g old between
  pub faults_same : faults_of g between ≡ faults_of g old
  pub marked : between.failed ≡ true
  pub clean : between.kept ≡ Nothing
  pub key : TakesPart g (IsPlace names) (max 1 inner) between new n

-- what was consumed of a variant: its name, which is alone or comes before its content
abbrev pub TakesNameOf : {R C : Type 0} → Ghosts R → List (List ℕ) → ℕ → Bool → Deserializer R C → Deserializer R C → ℕ → Type 0
TakesNameOf g names n true old new inner = Reads g (IsPlace names) old new n
TakesNameOf g names n false old new inner = TakesKeyOf g names n old new inner

-- the name of the variant at that place was taken, and its content, if there is any, wasn't
pub record OpensVariant {R C : Type 0} (g : Ghosts R) (names : List (List ℕ)) (n : ℕ) (old : Deserializer R C) (v : Variant R C) : Type 0 where
  pub fresh : old.failed ≡ false
  pub name : TakesNameOf g names n v.bare old v.de.now v.inner
  pub stays : Stays g old v.de.now
  pub faults_same : faults_of g v.de.now ≡ faults_of g old
  pub marked : v.de.now.failed ≡ true
  pub clean : v.de.now.kept ≡ Nothing

-- ---- which error

-- the head of a text, of bytes, or of a map of one pair
abbrev pub IsVariantHead : Head → Type 0
IsVariantHead (Map n) = n ≡ 1
IsVariantHead h = IsRawHead h

-- how a message is refused where a variant is wanted: a map of another count of pairs, and what is no name
abbrev pub other_variant : Marker → Head → Error
other_variant m (Map n) = LengthMismatch n
other_variant m h = other_name m h

-- a map of one pair, by the room, only where no level is left, and a text or bytes that are no name
abbrev pub not_variant : ℕ → Head → List ℕ → Error → Type 0
not_variant room (Map n) s e = (room ≡ 1) × (e ≡ DepthLimitExceeded)
not_variant room h s e = unknown_name h s e

-- how a variant is refused whose content wasn't looked at: at its first head, or at the key of a map of one pair
abbrev pub RefusesVariant : Setting → Refusals
RefusesVariant s before after known e =
    RefusesContent s.strict IsVariantHead other_variant (not_variant s.room) before after known e
    ⊎ OpenedMap s (λ i n rest e. (n ≡ 1) × RefusesName i.strict before after rest e) known e

-- the message selects none of these names
abbrev pub NoNameThere : List (List ℕ) → Setting → Refusals
NoNameThere names s before after known e = Explains e before after (Refuses (SpellsAs s.strict) (Readable (IsPlace names)) s.room known)

-- the same where a variant of these names is wanted: neither the message nor its key selects one
abbrev pub RefusesVariantOf : List (List ℕ) → Setting → Refusals
RefusesVariantOf names s before after known e =
    (RefusesContent s.strict IsVariantHead other_variant (not_variant s.room) before after known e × NoNameThere names s before after known e)
    ⊎ OpenedMap s (λ i n rest e. (n ≡ 1) × RefusesName i.strict before after rest e × NoNameThere names i before after rest e) known e

-- no variant could be opened
pub record FailsToOpenVariant {R C : Type 0} (g : Ghosts R) (names : List (List ℕ)) (old new : Deserializer R C) (e : Error) : Type 0 where
  pub failed : new.failed ≡ true
  pub stays : Stays g old new
  pub before : old.failed ≡ true → IsFailedBefore e × (new ≡ old)
  pub err : old.failed ≡ false → Explains e (faults_of g old) (faults_of g new) (Refuses (SpellsAs old.strict) (IsVariant names) (room_of old) (left g old))
  pub exact : old.failed ≡ false → (human lends : Bool) → RefusesVariant (setting_of human lends old) (faults_of g old) (faults_of g new) (left g old) e
  pub named : old.failed ≡ false → (human lends : Bool) → RefusesVariantOf names (setting_of human lends old) (faults_of g old) (faults_of g new) (left g old) e

-- ---- all that the read of a name promises, which comes before the content

-- the name was taken of the variant at that place
pub record NamesVariant {R C : Type 0} (g : Ghosts R) (names : List (Bor (List ℕ))) (bare : Bool) (old new : Deserializer R C) (inner n : ℕ) : Type 0 where
  pub fresh : old.failed ≡ false
  pub name : TakesNameOf g (bytes_of names) n bare old new inner
  pub stays : Stays g old new
  pub faults_same : faults_of g new ≡ faults_of g old
  pub marked : new.failed ≡ true
  pub clean : new.kept ≡ Nothing
  pub below : n < length names

-- there was none
pub record NamesNone {R C : Type 0} (g : Ghosts R) (names : List (Bor (List ℕ))) (lends : Bool) (old new : Deserializer R C) (e : Error) : Type 0 where
  pub fails : FailsToOpenVariant g (bytes_of names) old new e
  pub memory : lends ≡ true → e ≢ OutOfMemory

abbrev pub OpensName : {R C : Type 0} → Ghosts R → List (Bor (List ℕ)) → Bool → Deserializer R C → Deserializer R C → Result (ℕ × Bool) Error → Type 0
OpensName g names lends old new result =
    MatchResult result (λ p. NamesVariant g names p.1 old new (old.room - 1) p.0) (NamesNone g names lends old new)

-- ---- content

-- how content is refused where nil is wanted
abbrev pub not_unit : Marker → Head → Error
not_unit m h = TypeMismatch m

-- ---- what a call on the access makes of the message whose name was taken

module _ {R C : Type 0} (g : Ghosts R) where
  -- whatever opened it: the variant at that place was read, which has no content
  abbrev pub ReadsBare : Variant R C → Deserializer R C → Type 0
  ReadsBare v last =
      (names : List (List ℕ)) (n : ℕ) (old : Deserializer R C) → OpensVariant g names n old v
      → Lawful g (λ m (u : Unit {0}). OfVariant names (IsAt n Bare) m) old last (Ok tt)

  -- or it has content, and was refused
  abbrev pub RefusesBare : Variant R C → Deserializer R C → Error → Type 0
  RefusesBare v last e =
      (names : List (List ℕ)) (n : ℕ) (old : Deserializer R C) → OpensVariant g names n old v
      → Lawful g (λ m (u : Unit {0}). OfVariant names (IfAt n Bare) m) old last (Err e)

  -- its content was read, by whether the format is for people
  abbrev pub ReadsContent : {V : Type 0} → Bool → (Bool → Msg → V → Type 0) → Variant R C → Deserializer R C → V → Type 0
  ReadsContent human reads v last x =
      (names : List (List ℕ)) (n : ℕ) (old : Deserializer R C) → OpensVariant g names n old v
      → Lawful g (λ m y. OfVariant names (IsAt n (Content (λ k. reads human k y))) m) old last (Ok x)

  -- or it has none, or such that is refused
  abbrev pub RefusesContentOf : Bool → (Bool → Msg → Type 0) → Variant R C → Deserializer R C → Error → Type 0
  RefusesContentOf human holds v last e =
      (names : List (List ℕ)) (n : ℕ) (old : Deserializer R C) → OpensVariant g names n old v
      → Lawful g (λ m (u : Unit {0}). OfVariant names (IfAt n (Content (holds human))) m) old last (Err e)

  -- which error it is, by whether only canonical heads are read
  abbrev pub ContentRefusedBy : (Bool → Refusals) → Variant R C → Deserializer R C → Error → Type 0
  ContentRefusedBy P v last e = P v.de.now.strict (faults_of g v.de.now) (faults_of g last) (left g v.de.now) e

-- ---- content that is a list

-- the head of a list or of bytes was consumed after the name
pub record OpensSeqIn {R C : Type 0} (g : Ghosts R) (inner : ℕ) (old : Deserializer R C) (s : SeqAccess R C) : Type 0 where
  pub head : TakesHead g (seq_head s.bytes s.left) old s.de.now
  pub count : s.count ≡ s.left
  pub room : max 1 inner ≡ inner_of s + levels s.bytes
  pub stays : Stays g old s.de.now
  pub faults_same : faults_of g s.de.now ≡ faults_of g old
  pub opened : IsOpen s

-- there is none
pub record FailsToOpenSeqOf {R C : Type 0} (g : Ghosts R) (v : Variant R C) (last : Deserializer R C) (e : Error) : Type 0 where
  pub err : RefusesContentOf g true (λ human. Readable (λ m (u : Unit {0}). IsSeq m)) v last e
  pub bare : v.bare ≡ true → (e ≡ Syntax InvalidType) × (last ≡ v.de.now)
  pub exact : v.bare ≡ false → ContentRefusedBy g (λ strict. RefusesBy strict (not_seq (max 1 v.inner))) v last e

-- ---- content by a function

-- The content was offered to f, once. An answer of f that leaves the reader failed counts as a failure, and any other makes the reader ready.
pub record ContentGiven {F R C X : Type 0} (once : Reading F R C X) (f : F) (inner : ℕ) (old new : Deserializer R C) (result : Result X Error) : Type 0 where
  pub after : Deserializer R C
  pub part : PartGiven once f inner old after result
  pub ready : OnOk result (new ≡ record after { failed = false })
  pub failed : OnErr result (new ≡ after)
