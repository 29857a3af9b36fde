-- Where the nodes of a tree begin in its canonical spelling, and what a check of such a spelling returns.
use Rattle.std.specs.Prelude.{◌≡◌, ◌⊎◌, ℕ, zero, suc, ◌+◌, List, [], ◌++◌, length, true, Option, Some, None, Result, Ok, Err}
use Rattle.rmp_wire.specs.declared.head.Head.{Head}
use Rattle.rmp_wire.specs.declared.head.Head.TheVariants.{Array, Map}
use Rattle.rmp_wire.specs.declared.marker.Marker.TheVariants.{Reserved}
use Rattle.rmp_wire.specs.Canonical.{IsCanonicalHead}
use Rattle.rmp_wire.specs.Heads.{IsHead, canon_head, fits_head}
use Rattle.rmp_wire.specs.Msg.{
  Msg,
  nil,
  truth,
  whole,
  float32,
  float64,
  text,
  bin,
  list,
  map,
  extension,
  Msgs,
  no_items,
  item,
  Pairs,
  no_pairs,
  pair,
  count,
  count_pairs,
}
use Rattle.rmp_wire.specs.Spelling.{canon, Fits}
use Rattle.rmp_decode.specs.Exact.{IsMarkerEnd, IsDataEnd}
pub use Rattle.rmp_scan.specs.Parts.{parts_after}
use Rattle.rmp_decode.specs.Kinds.{content_len}
use Rattle.rmp_decode.specs.Refuse.{HeadIsCut, ContentIsCut, IsReserved}
use Rattle.rmp_decode.specs.declared.error.Error.{Error}
use Rattle.rmp_decode.specs.declared.error.Error.TheVariants.{InvalidMarkerRead, InvalidDataRead, TypeMismatch}

-- the offset is n and some more, of which P is true
abbrev pub After : ℕ → (ℕ → Type 0) → ℕ → Type 0
After n P p = (q : ℕ) × (p ≡ n + q) × P q

-- A node of the tree begins at this offset of the tree's canonical spelling: the tree itself at 0. In a list or
-- a map, after the head and the parts before some part, each node of that part.
abbrev mutual
  pub BeginsAt : Msg → ℕ → Type 0
  BeginsAt (list ms) p = (p ≡ 0) ⊎ After (length (canon_head (Array (count ms)))) (λ q. BeginsAmong ms q) p
  BeginsAt (map ps) p = (p ≡ 0) ⊎ After (length (canon_head (Map (count_pairs ps)))) (λ q. BeginsAmongPairs ps q) p
  BeginsAt m p = p ≡ 0

  pub BeginsAmong : Msgs → ℕ → Type 0
  BeginsAmong no_items p = ⊥
  BeginsAmong (item m ms) p = BeginsAt m p ⊎ After (length (canon m)) (λ q. BeginsAmong ms q) p

  pub BeginsAmongPairs : Pairs → ℕ → Type 0
  BeginsAmongPairs no_pairs p = ⊥
  BeginsAmongPairs (pair k v ps) p = BeginsAt k p ⊎ After (length (canon k)) (λ q. BeginsAt v q ⊎ After (length (canon v)) (λ r. BeginsAmongPairs ps r) q) p

-- the first n bytes are the canonical spelling of a message
pub record IsWhole (input : List ℕ) (n : ℕ) : Type 0 where
  pub tree : Msg
  pub rest : List ℕ
  pub fits : Fits tree
  pub front : input ≡ canon tree ++ rest
  pub long : n ≡ length (canon tree)

-- A node of some message begins at the offset p, the first p bytes are those of the message's canonical
-- spelling, and P is true of the bytes from there on.
pub record Reaches (P : List ℕ → Type 0) (input : List ℕ) (p : ℕ) : Type 0 where
  pub tree : Msg
  pub before : List ℕ
  pub following : List ℕ
  pub there : List ℕ
  pub fits : Fits tree
  pub begins : BeginsAt tree p
  pub place : p ≡ length before
  pub spelled : canon tree ≡ before ++ following
  pub front : input ≡ before ++ there
  pub holds : P there

-- the bytes begin with a whole head that isn't the canonical one of its kind and number
pub record OpensOther (xs : List ℕ) : Type 0 where
  pub head : Head
  pub bytes : List ℕ
  pub rest : List ℕ
  pub front : xs ≡ bytes ++ rest
  pub is_head : IsHead head bytes
  pub other : IsCanonicalHead head bytes → ⊥

-- at this offset is the first head that isn't canonical
abbrev pub IsFault : List ℕ → ℕ → Type 0
IsFault input p = Reaches OpensOther input p

-- why the bytes don't begin with a head and its content: they end before the message, inside of its head or
-- inside of its content, or the byte c1 is there
abbrev pub StopsFor : Error → List ℕ → Type 0
StopsFor (InvalidMarkerRead fault) xs = IsMarkerEnd (InvalidMarkerRead fault) × (xs ≡ [])
StopsFor (InvalidDataRead fault) xs = IsDataEnd (InvalidDataRead fault) × (HeadIsCut xs ⊎ ContentIsCut true xs)
StopsFor (TypeMismatch marker) xs = (marker ≡ Reserved) × IsReserved xs
StopsFor e xs = ⊥

-- the error says why, at some offset, up to which the input is canonical
abbrev pub Stops : List ℕ → Error → Type 0
Stops input e = (p : ℕ) × Reaches (StopsFor e) input p

-- the bytes begin with a canonical head and its content, and then come the rest, where n messages follow as its
-- parts
pub record TakesNode (xs rest : List ℕ) (n : ℕ) : Type 0 where
  pub head : Head
  pub content : List ℕ
  pub fits : fits_head head
  pub long : length content ≡ content_len head
  pub front : xs ≡ (canon_head head ++ content) ++ rest
  pub many : n ≡ parts_after head

-- What reading a head and its content does: they are canonical and were consumed, the head isn't canonical, or
-- the error says why neither is so.
abbrev pub NextNode : List ℕ → List ℕ → Result (Option ℕ) Error → Type 0
NextNode old new (Ok (Some n)) = TakesNode old new n
NextNode old new (Ok None) = OpensOther old × (new ≡ old)
NextNode old new (Err e) = StopsFor e old

-- The bytes begin with this many canonical heads and their contents, in order, and then come the rest, where n
-- messages follow as their parts.
abbrev pub TakesNodes : ℕ → ℕ → List ℕ → List ℕ → Type 0
TakesNodes zero parts xs zs = (parts ≡ 0) × (xs ≡ zs)
TakesNodes (suc n) parts xs zs = (ys : List ℕ) × (before : ℕ) × (last : ℕ) × TakesNodes n before xs ys × TakesNode ys zs last × (parts ≡ before + last)
