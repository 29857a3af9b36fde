-- What nodes and the buffer of their content say.
use Rattle.std.specs.Prelude.{◌≡◌, ◌≤◌, ◌+◌, ◌*◌, ℕ, Bool, true, false, List, [], ◌∷◌, ◌++◌, ⊤, length, take, drop, map, pos}
use Rattle.std.specs.List.{AllByRecursion}
use Rattle.rmp_wire.specs.declared.head.Head.{Head}
use Rattle.rmp_wire.specs.declared.head.Head.TheVariants.{Nil, Truth, Whole, F32Bits, F64Bits, Text, Bin, Array, Map, Ext}
use Rattle.rmp_wire.specs.Heads.{canon_head}
use Rattle.rmp_wire.specs.Msg.{Msg}
use Rattle.rmp_wire.specs.Spelling.{Fits}
use Rattle.rmp_decode.specs.Kinds.{content_len}
use Rattle.rmp_serde.specs.Read.{AllTextsUtf8}
use Rattle.rmp_serde.specs.Tokens.{Token, tokens, tokens_all, built, first_items, first_tree}
use Rattle.rmp_serde.specs.declared.value.flat.Node.{Node}
use Rattle.rmp_serde.specs.declared.value.flat.Nodes.{Nodes}
use Rattle.rmp_serde.specs.declared.value.flat.Node.TheVariants as nodes

-- the head of a node
abbrev pub head_in : Node → Head
head_in nodes.Nil = Nil
head_in (nodes.Truth t) = Truth t
head_in (nodes.Unsigned n) = Whole (pos n)
head_in (nodes.Signed z) = Whole z
head_in (nodes.F32 n) = F32Bits n
head_in (nodes.F64 n) = F64Bits n
head_in (nodes.Text len at) = Text len
head_in (nodes.Bytes len at) = Bin len
head_in (nodes.Ext tag len at) = Ext len tag
head_in (nodes.List n takes) = Array n
head_in (nodes.Map n takes) = Map n

-- its content, which is in the buffer
abbrev pub content_in : List ℕ → Node → List ℕ
content_in buffer (nodes.Text len at) = take len (drop at buffer)
content_in buffer (nodes.Bytes len at) = take len (drop at buffer)
content_in buffer (nodes.Ext tag len at) = take len (drop at buffer)
content_in buffer node = []

abbrev pub token_in : List ℕ → Node → Token
token_in buffer node = (head_in node, content_in buffer node)

-- the heads of the nodes, each with its content
abbrev pub heads_in : List ℕ → List Node → List Token
heads_in buffer row = map (token_in buffer) row

abbrev pub heads_of : Nodes → List Token
heads_of made = heads_in made.bytes.items made.nodes.items

-- a head whose content, if it has some, is in the buffer from an offset on
abbrev pub content_at : Nodes → Head → ℕ → Token
content_at made head at = (head, take (content_len head) (drop at made.bytes.items))

-- the content of a node ends within this many bytes
abbrev pub EndsBy : ℕ → Node → Type 0
EndsBy end (nodes.Text len at) = at + len ≤ end
EndsBy end (nodes.Bytes len at) = at + len ≤ end
EndsBy end (nodes.Ext tag len at) = at + len ≤ end
EndsBy end node = Unit {0}

-- the content of each node is within the buffer
abbrev pub IsWithin : Nodes → Type 0
IsWithin made = AllByRecursion (EndsBy (length made.bytes.items)) made.nodes.items

-- the canonical head of a node, and its content
abbrev pub spelled_in : List ℕ → Node → List ℕ
spelled_in buffer (nodes.Text len at) = canon_head (Text len) ++ take len (drop at buffer)
spelled_in buffer (nodes.Bytes len at) = canon_head (Bin len) ++ take len (drop at buffer)
spelled_in buffer (nodes.Ext tag len at) = canon_head (Ext len tag) ++ take len (drop at buffer)
spelled_in buffer node = canon_head (head_in node)

-- how many nodes it takes, with all that is nested in it
abbrev pub takes_in : Node → ℕ
takes_in (nodes.List n takes) = takes
takes_in (nodes.Map n takes) = takes
takes_in node = 1

-- it is no list and no map
abbrev pub is_leaf : Node → Bool
is_leaf (nodes.List n takes) = false
is_leaf (nodes.Map n takes) = false
is_leaf node = true

-- how many it takes once that is set, for a list or a map
abbrev pub takes_then : ℕ → Node → ℕ
takes_then takes (nodes.List n old) = takes
takes_then takes (nodes.Map n old) = takes
takes_then takes node = 1

-- how many messages a list or a map contains; each pair of a map counts as two
abbrev pub parts_in : Node → ℕ
parts_in (nodes.List n takes) = n
parts_in (nodes.Map n takes) = 2 * n
parts_in node = 0

-- ---- what the heads say

-- they are those of messages, in order
abbrev pub IsRow : List Token → Type 0
IsRow heads = heads ≡ tokens_all (built heads)

-- the first message
abbrev pub told_tree : List Token → Msg
told_tree heads = first_tree (built heads)

-- how many heads the first message has
abbrev pub size_of : List Token → ℕ
size_of heads = length (tokens (told_tree heads))

-- how many heads the first n messages have
abbrev pub span : ℕ → List Token → ℕ
span n heads = length (tokens_all (first_items n (built heads)))

-- each node says how many heads the message has that begins with it
abbrev pub AllTake : List ℕ → List Node → Type 0
AllTake buffer [] = ⊤
AllTake buffer (node ∷ more) = (takes_in node ≡ size_of (heads_in buffer (node ∷ more))) × AllTake buffer more

-- they are the heads of a message that has room in its heads and whose texts are UTF-8
pub record IsTree (heads : List Token) : Type 0 where
  pub tree : Msg
  pub told : heads ≡ tokens tree
  pub fits : Fits tree
  pub utf8 : AllTextsUtf8 tree

-- the heads of a message: that of the root, and those of its parts
abbrev pub heads_all : Node → Nodes → List Token
heads_all root parts = token_in parts.bytes.items root ∷ heads_of parts

-- The root of one message and its parts, each of which says how many nodes it takes.
pub record IsFlat (root : Node) (parts : Nodes) : Type 0 where
  pub told : IsTree (heads_all root parts)
  pub takes : AllTake parts.bytes.items parts.nodes.items
  pub within : IsWithin parts
  pub root_within : EndsBy (length parts.bytes.items) root
