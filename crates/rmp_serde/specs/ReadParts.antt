-- What reading values by their heads consumes, and which heads it records.
use Rattle.std.specs.Prelude.{◌≡◌, ◌⊎◌, ℕ, ◌-◌, ◌<◌, List, [], ◌∷◌, ◌++◌, Bool, true, false, Result, OnOk, OnErr, IfErr, IsUtf8}
use Rattle.std.specs.Io.KnownBytes.{Consumes}
use Rattle.rmp_wire.specs.Canonical.{SpellsAs}
use Rattle.rmp_wire.specs.Msg.{Msgs, count, depth_all}
use Rattle.rmp_wire.specs.declared.head.Head.{Head}
use Rattle.rmp_wire.specs.declared.head.Head.TheVariants.{Text}
use Rattle.rmp_wire.specs.declared.source.Source.{Ghosts}
use Rattle.rmp_decode.specs.Anys.{TakesContent, FailsContent, FailsText}
use Rattle.rmp_decode.specs.Kinds.{content_len}
use Rattle.rmp_decode.specs.Law.{Explains}
use Rattle.rmp_decode.specs.Seq.{SpellsRow, RefusesRow}
use Rattle.rmp_decode.specs.Skip.{parts_head}
use Rattle.rmp_decode.specs.State.{left, faults_of, Stays}
use Rattle.rmp_decode.specs.declared.deserializer.Deserializer.{Deserializer}
use Rattle.rmp_decode.specs.declared.deserializer.Kept.TheVariants.{Nothing}
use Rattle.rmp_decode.specs.declared.error.Error.{Error}
use Rattle.rmp_serde.specs.Read.{ItemsUtf8}
use Rattle.rmp_serde.specs.Tokens.{Token, tokens_all}

-- it begins no list and no map
abbrev pub IsLeafHead : Head → Type 0
IsLeafHead h = (q : Bool × ℕ) → h ≡ parts_head q.0 q.1 → ⊥

-- the content of a text is UTF-8
abbrev pub ContentUtf8 : Head → List ℕ → Type 0
ContentUtf8 (Text n) s = IsUtf8 s
ContentUtf8 h s = Unit {0}

-- the content after this head was consumed, and appended to the bytes in the buffer
pub record TakesAfter {R C : Type 0} (g : Ghosts R) (h : Head) (old new : Deserializer R C) (before after : List ℕ) : Type 0 where
  pub content : List ℕ
  pub taken : TakesContent g (content_len h) old new content
  pub utf8 : ContentUtf8 h content
  pub whole : after ≡ before ++ content

-- the content after this head was consumed, and both were appended to the heads recorded before
pub record TakesLeaf {R C : Type 0} (g : Ghosts R) (h : Head) (old new : Deserializer R C) (before after : List Token) : Type 0 where
  pub content : List ℕ
  pub taken : TakesContent g (content_len h) old new content
  pub utf8 : ContentUtf8 h content
  pub told : after ≡ before ++ (h, content) ∷ []

-- it couldn't be read
abbrev pub FailsLeaf : {R C : Type 0} → Ghosts R → Head → Deserializer R C → Deserializer R C → Error → Type 0
FailsLeaf g (Text n) old new e = FailsText g n old new e
FailsLeaf g h old new e = FailsContent g (content_len h) old new e

-- a list or a map is empty, so that as many messages remain after its head, at the same depth
pub record PassesEmpty (inner : ℕ) (around : ℕ × ℕ) (outer : List ℕ) (now : ℕ × ℕ) (following : List ℕ) : Type 0 where
  pub none : inner ≡ 0
  pub room : now.0 ≡ around.0
  pub wanted : now.1 ≡ around.1
  pub kept : following ≡ outer

-- it contains this many messages, which come next, one level deeper; what remained is kept
pub record GoesIn (inner : ℕ) (around : ℕ × ℕ) (outer : List ℕ) (now : ℕ × ℕ) (following : List ℕ) : Type 0 where
  pub room : now.0 ≡ around.0 - 1
  pub wanted : now.1 ≡ inner
  pub few : inner < 8589934592
  pub kept : following ≡ outer ++ around.1 ∷ []

abbrev pub Enters : ℕ → ℕ × ℕ → List ℕ → ℕ × ℕ → List ℕ → Type 0
Enters inner around outer now following = PassesEmpty inner around outer now following ⊎ GoesIn inner around outer now following

-- n messages were consumed, in order, whose texts are UTF-8, and their heads were appended to those recorded
-- before
pub record TakesTrees {R C : Type 0} (g : Ghosts R) (room n : ℕ) (old new : Deserializer R C) (before after : List Token) : Type 0 where
  pub bytes : List ℕ
  pub trees : Msgs
  pub takes : Consumes (left g old) (left g new) bytes
  pub spelled : SpellsRow (SpellsAs old.strict) bytes trees
  pub many : count trees ≡ n
  pub fits : depth_all trees < room
  pub utf8 : ItemsUtf8 trees
  pub told : after ≡ before ++ tokens_all trees

-- What reading n messages does that nest below the room.
pub record ReadsTrees {R C : Type 0} (g : Ghosts R) (room n : ℕ) (old new : Deserializer R C) (before after : List Token) (result : Result (Unit {0}) Error)
    : Type 0 where
  pub ok : OnOk result (TakesTrees g room n old new before after)
  pub ready : OnOk result (new.failed ≡ false)
  pub clean : OnOk result (new.kept ≡ Nothing)
  pub sound : OnOk result (faults_of g new ≡ faults_of g old)
  pub err : IfErr result (λ e. Explains e (faults_of g old) (faults_of g new) (RefusesRow (SpellsAs old.strict) ItemsUtf8 room n (left g old)))
  pub failed : OnErr result (new.failed ≡ true)
  pub stays : Stays g old new
