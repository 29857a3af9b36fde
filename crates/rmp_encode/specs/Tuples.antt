-- What a contract sees of an open tuple.
use Rattle.std.specs.Prelude.{if◌then◌else◌, ◌≡◌, ℕ, ◌<◌, ◌^◌, ◌++◌, Bool, true, false, List, [], ◌∷◌, length, map, Option, None, Some}
use Rattle.std.specs.List.{AllByRecursion}
use Rattle.std.specs.Borrow.{GName}
use Rattle.std.specs.declared.vec.Vec.{Vec}
use Rattle.std.specs.declared.alloc.Global.{Global}
use Rattle.rmp_wire.specs.Msg.{Msg, bin}
use Rattle.rmp_wire.specs.Spelling.{canon}
use Rattle.rmp_wire.specs.declared.sink.Sink.{Ghosts}
use Rattle.rmp_encode.specs.declared.serializer.Serializer.{Serializer}
use Rattle.rmp_encode.specs.declared.tuple.Tuple.{Tuple}
use Rattle.rmp_wire.specs.declared.config.BytesMode.TheVariants.{ForceAll}
use Rattle.rmp_encode.specs.Data.{Data, packs_tuple}
use Rattle.rmp_encode.specs.Markers.{item, items_of, Piece}
use Rattle.rmp_encode.specs.Trees.{Has, a_byte, array_head, number_head, tree_of, tuple_of}
use Rattle.rmp_encode.specs.Ser.{settings_of}
use Rattle.rmp_encode.specs.Going.{IsWriting}

-- the tuple's own type, with the elements that it keeps
abbrev pub OpenTuple : Type 0 → Type 0 → Type 0
OpenTuple W C = Tuple W C (Option (Vec ℕ Global))

-- the bytes that are kept, if the elements so far were all bytes
abbrev pub kept_at : {B : Type 0} → Option B → Bool → Option B
kept_at None probing = None
kept_at (Some b) true = Some b
kept_at (Some b) false = None

-- what `end` writes of what is kept, as one item: bytes, or a list whose numbers are a byte each
unfoldable pub kept_item : Vec ℕ Global → ℕ → List ℕ
kept_item v len = if packs_tuple ForceAll v.items then canon (bin v.items) else array_head len ++ v.items

abbrev pub items_kept : Option (Vec ℕ Global) → ℕ → List Piece
items_kept None len = []
items_kept (Some v) len = item (kept_item v len) ∷ []

-- what is written of it before an element that is no byte: the head of a list, and the numbers
abbrev pub spilled_items : Option (Vec ℕ Global) → ℕ → List Piece
spilled_items None len = []
spilled_items (Some v) len = items_of (array_head len ∷ map number_head v.items)

module _ {W C : Type 0} where
  -- the serializer that it writes to, and the reference to it
  abbrev pub inside : {P : Type 0} → Tuple W C P → Serializer W C
  inside q = q.se.now

  abbrev pub reference : OpenTuple W C → GName
  reference q = q.se.ghost_name

  -- how many elements remain
  abbrev pub left_of : OpenTuple W C → ℕ
  left_of q = q.left

  -- no call has returned an error
  abbrev pub is_sound : OpenTuple W C → Bool
  is_sound q = q.sound

  abbrev pub kept_of : OpenTuple W C → Option (Vec ℕ Global)
  kept_of q = kept_at q.kept q.probing

  -- what its end writes: nothing, or one item
  abbrev pub items_left : OpenTuple W C → List Piece
  items_left q = items_kept (kept_of q) q.len

  -- what is written before the next element, if that is no byte
  abbrev pub items_before : OpenTuple W C → List Piece
  items_before q = spilled_items (kept_of q) q.len

module _ {W C : Type 0} (g : Ghosts W) where
  -- the elements so far were bytes, which are kept, and nothing has reached the sink
  pub record IsProbing (old : Serializer W C) (t : Option Msg) (rest : List (Option Data)) (kept : List ℕ) (len : ℕ) (now : Serializer W C) : Type 0 where
    pub tree : t ≡ tree_of (settings_of old) (tuple_of (map a_byte kept ++ rest))
    pub len_is : len ≡ length (map a_byte kept ++ rest)
    pub fits : len < 2 ^ 32
    pub mode : (settings_of old).bytes ≡ ForceAll
    pub same : now ≡ old
    pub have : AllByRecursion (Has (settings_of old)) (map a_byte kept)

  abbrev pub IsTuplingAt : Serializer W C → Option Msg → List (Option Data) → Option (Vec ℕ Global) → ℕ → Serializer W C → Type 0
  IsTuplingAt old t rest None len now = IsWriting g old t rest now
  IsTuplingAt old t rest (Some v) len now = IsProbing old t rest v.items len now

  -- of the tree t of the tuple that was opened at old, `rest` remains
  pub record IsTupling (old : Serializer W C) (t : Option Msg) (rest : List (Option Data)) (q : OpenTuple W C) : Type 0 where
    pub sound : q.sound ≡ true
    pub left_is : q.left ≡ length rest
    pub state : IsTuplingAt old t rest (kept_of q) q.len q.se.now
