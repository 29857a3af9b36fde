-- Which part of a message an offset is in.
use Rattle.std.specs.Prelude.{◌≡◌, ◌⊎◌, ℕ, suc, ◌+◌, ◌*◌, ◌-◌, ◌<◌, ◌≤◌, List, [], ◌∷◌, ◌++◌, length, take, Bool, true, false, MatchOption}
use Rattle.std.specs.List.{slice_get}
use Rattle.rmp_wire.specs.declared.head.Head.{Head}
use Rattle.rmp_wire.specs.declared.head.Head.TheVariants.{Array, Map}
use Rattle.rmp_wire.specs.Heads.{IsHead}
use Rattle.rmp_wire.specs.Kinds.{parts_head, content_len}
use Rattle.rmp_wire.specs.Spelling.{IsBytes}
use Rattle.rmp_decode.specs.Skip.{parts_count}
use Rattle.rmp_scan.specs.Openings.{SpellsSome}
use Rattle.rmp_scan.specs.Scans.{IsMessage}
use Rattle.rmp_path.specs.declared.node.Node.{Node}
use Rattle.rmp_path.specs.declared.turn.Turn.{Turn}
use Rattle.rmp_path.specs.declared.location.Location.{Location}

-- ---- one head with its content

-- the bytes begin with a head and its content, which have so many bytes together
pub record OwnBytes (len : ℕ) (xs : List ℕ) : Type 0 where
  pub head : Head
  pub bytes : List ℕ
  pub content : List ℕ
  pub rest : List ℕ
  pub front : xs ≡ bytes ++ (content ++ rest)
  pub is_head : IsHead head bytes
  pub long : length content ≡ content_len head
  pub are_bytes : IsBytes content
  pub len_is : len ≡ length bytes + length content

-- whether the parts of a head are a map's, and how many messages they are
abbrev pub parts_of_head : Head → Bool × ℕ
parts_of_head (Array n) = (false, n)
parts_of_head (Map n) = (true, 2 * n)
parts_of_head h = (false, 0)

-- the bytes begin with this head and content
pub record IsNode (xs : List ℕ) (node : Node) : Type 0 where
  pub own : OwnBytes node.len xs
  pub parts : parts_of_head own.head ≡ (node.is_map, node.parts)

-- the bytes begin with no head and its content: they end before it or inside of it, or the byte c1 is there
abbrev pub IsNoNode : List ℕ → Type 0
IsNoNode xs = (len : ℕ) → OwnBytes len xs → ⊥

-- ---- turns

-- whether it is into a map, how many parts come before the part that it is to, where that one begins, and where the one before does
abbrev pub is_map_turn : Turn → Bool
is_map_turn t = t.is_map

abbrev pub before_of : Turn → ℕ
before_of t = t.before

abbrev pub start_of_part : Turn → ℕ
start_of_part t = t.start

abbrev pub start_before : Turn → ℕ
start_before t = t.previous

abbrev pub turn_first : Node → ℕ → Turn
turn_first node start = record { is_map = node.is_map; before = 0; parts = node.parts; start = start; previous = start }

abbrev pub turn_next : Turn → ℕ → Turn
turn_next t start = record t { before = t.before + 1; start = start; previous = t.start }

-- the last of some messages, and where it begins, if the first of them does at the base
pub record LastBegins (n : ℕ) (row : List ℕ) (base at : ℕ) : Type 0 where
  pub earlier : List ℕ
  pub last : List ℕ
  pub split : row ≡ earlier ++ last
  pub is_row : SpellsSome n earlier
  pub is_last : IsMessage last
  pub begins : at ≡ base + length earlier

-- The turn leads from a list or a map, whose bytes xs begin at the base, to the part whose bytes are ys and whatever follows.
pub record TurnsInto (xs : List ℕ) (base : ℕ) (t : Turn) (ys : List ℕ) : Type 0 where
  pub len : ℕ
  pub head : List ℕ
  pub row : List ℕ
  pub front : xs ≡ head ++ (row ++ ys)
  pub is_head : IsHead (parts_head t.is_map len) head
  pub many : t.parts ≡ parts_count t.is_map len
  pub before : SpellsSome t.before row
  pub fewer : t.before < t.parts
  pub starts : t.start ≡ base + (length head + length row)
  pub previous : (n : ℕ) → t.before ≡ suc n → LastBegins n row (base + length head) t.previous

-- The turns lead from the bytes xs, which begin at the base, to the part whose bytes are ys, which begin at the place.
abbrev pub Leads : List ℕ → ℕ → List Turn → List ℕ → ℕ → Type 0
Leads xs base [] ys place = (xs ≡ ys) × (place ≡ base)
Leads xs base (t ∷ ts) ys place = (mid : List ℕ) × TurnsInto xs base t mid × Leads mid t.start ts ys place

-- The offset, as counted from where the bytes begin, is in their own head or content, or no head with its content is there.
abbrev pub Holds : List ℕ → ℕ → Type 0
Holds xs offset = ((len : ℕ) × OwnBytes len xs × (offset < len)) ⊎ IsNoNode xs

-- The part that the offset is in: of the message that comes after some whole ones, where the turns lead to.
pub record Locates (input : List ℕ) (offset : ℕ) (found : Location) : Type 0 where
  pub many : ℕ
  pub before : List ℕ
  pub from : List ℕ
  pub front : input ≡ before ++ from
  pub earlier : SpellsSome many before
  pub message : found.message ≡ length before
  pub there : List ℕ
  pub leads : Leads from found.message found.turns.items there found.place
  pub reached : found.place ≤ offset
  pub holds : Holds there (offset - found.place)

-- the list or the map around it that is so many levels inside of the message, or the part itself if it has no more
pub record IsOutward (levels : ℕ) (inner outer : Location) : Type 0 where
  pub turns : outer.turns.items ≡ take levels inner.turns.items
  pub message : outer.message ≡ inner.message
  pub place : MatchOption (slice_get outer.turns.items (length outer.turns.items - 1)) (outer.place ≡ inner.message) (λ t. outer.place ≡ t.start)

-- ---- passing parts

-- The part that the turns lead to ends at the place, and the rest follows.
pub record PartEnds (from : List ℕ) (base : ℕ) (turns : List Turn) (rest : List ℕ) (place : ℕ) : Type 0 where
  pub ys : List ℕ
  pub start : ℕ
  pub leads : Leads from base turns ys start
  pub part : List ℕ
  pub front : ys ≡ part ++ rest
  pub spelled : IsMessage part
  pub ends : place ≡ start + length part

-- The turns lead to the rest, or the whole message ends there.
abbrev pub PassesTo : List ℕ → ℕ → List Turn → List ℕ → ℕ → Bool → Type 0
PassesTo from base turns rest place true = Leads from base turns rest place
PassesTo from base turns rest place false = (turns ≡ []) × PartEnds from base [] rest place
