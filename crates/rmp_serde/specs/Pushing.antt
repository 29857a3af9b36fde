-- What it means to add a part to a list or a map.
use Rattle.std.specs.Prelude.{◌≡◌, ◌+◌, ℕ, suc, List, [], ◌∷◌, ◌++◌, length, take, codes, Option, Some, None}
use Rattle.rmp_wire.specs.Msg.{Msg, list, map, msgs, items_of, pairs, pairs_of, count, count_pairs}
use Rattle.rmp_wire.specs.Spelling.{FitsAll}
use Rattle.rmp_encode.specs.declared.error.Error.{Error}
use Rattle.rmp_encode.specs.declared.error.Error.TheVariants.{InvalidDataModel}
use Rattle.rmp_serde.specs.Flat.{heads_of, AllTake, IsWithin}
use Rattle.rmp_serde.specs.Making.{MakeFails}
use Rattle.rmp_serde.specs.Read.{ItemsUtf8}
use Rattle.rmp_serde.specs.Tokens.{tokens_all}
use Rattle.rmp_serde.specs.declared.value.flat.Node.{Node}
use Rattle.rmp_serde.specs.declared.value.flat.Nodes.{Nodes}
use Rattle.rmp_serde.specs.declared.value.flat.Node.TheVariants as nodes

-- the list with one more item; no other message has one more
abbrev pub pushed : Msg → Msg → Option Msg
pushed (list ms) m = Some (list (msgs (items_of ms ++ m ∷ [])))
pushed _ m = None

-- the map with one more pair
abbrev pub pushed_pair : Msg → Msg → Msg → Option Msg
pushed_pair (map ps) k v = Some (map (pairs (pairs_of ps ++ (k, v) ∷ [])))
pushed_pair _ k v = None

-- the error is an InvalidDataModel with this text
abbrev pub SaysNo : List ℕ → Error → Type 0
SaysNo why (InvalidDataModel d) = d.now ≡ why
SaysNo why e = ⊥

-- why no item is added: the message is no list, a head has no room for the length, or memory ran out
abbrev pub PushFails : Msg → Error → Type 0
PushFails (list ms) e = MakeFails (suc (count ms)) e
PushFails _ e = SaysNo (codes "no list") e

-- the same of a pair
abbrev pub PushPairFails : Msg → Error → Type 0
PushPairFails (map ps) e = MakeFails (suc (count_pairs ps)) e
PushPairFails _ e = SaysNo (codes "no map") e

-- ---- nodes to which others are added

-- the node, where its content begins so many bytes later
abbrev pub moved : ℕ → Node → Node
moved by (nodes.Text len at) = nodes.Text len (by + at)
moved by (nodes.Bytes len at) = nodes.Bytes len (by + at)
moved by (nodes.Ext tag len at) = nodes.Ext tag len (by + at)
moved by node = node

-- They are the nodes of these messages, one after another, and each says how many nodes it takes. The messages have room in
-- their heads, and their texts are UTF-8.
pub record AreNodesOf (made : Nodes) (ms : List Msg) : Type 0 where
  pub told : heads_of made ≡ tokens_all (msgs ms)
  pub takes : AllTake made.bytes.items made.nodes.items
  pub within : IsWithin made
  pub fits : FitsAll (msgs ms)
  pub utf8 : ItemsUtf8 (msgs ms)

-- the nodes and the content begin with these
pub record Begins (old new : Nodes) : Type 0 where
  pub nodes : take (length old.nodes.items) new.nodes.items ≡ old.nodes.items
  pub bytes : take (length old.bytes.items) new.bytes.items ≡ old.bytes.items

-- the same nodes and the same content
pub record AreSame (old new : Nodes) : Type 0 where
  pub nodes : new.nodes.items ≡ old.nodes.items
  pub bytes : new.bytes.items ≡ old.bytes.items
