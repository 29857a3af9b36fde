-- How the logic stores a message, so that a Rust type may have one as the value that contracts see. No contract
-- cites this module.
use Rattle.std.specs.Prelude.{◌≡◌, ℕ, List, [], ◌∷◌, ℤ, pos, negsuc, Bool, true, false, slice_index_or, refl}
use Rattle.std.specs.Coded.{Coded, code_by}
use base.Stored.{Gv, gnil, gnum, gcons}
use denote.Struct.Codes.{itself}
use Rattle.rmp_wire.specs.Msg.{Msg, nil, truth, whole, float32, float64, text, bin, list, map, extension, Msgs, no_items, item, Pairs, no_pairs, pair}

-- ---- numbers and bytes

num : Gv → ℕ
num gnil = 0
num (gnum n) = n
num (gcons a b) = 0

store_bytes : List ℕ → Gv
store_bytes [] = gnil
store_bytes (b ∷ s) = gcons (gnum b) (store_bytes s)

load_bytes : Gv → List ℕ
unfolding num
load_bytes gnil = []
load_bytes (gnum n) = []
load_bytes (gcons a b) = num a ∷ load_bytes b

load_bytes-store_bytes : (s : List ℕ) → load_bytes (store_bytes s) ≡ s
unfolding store_bytes load_bytes
load_bytes-store_bytes [] = refl
load_bytes-store_bytes (b ∷ s) = λ i. b ∷ load_bytes-store_bytes s i

store_int : ℤ → Gv
store_int (pos n) = gnum n
store_int (negsuc n) = gcons (gnum n) gnil

load_int : Gv → ℤ
unfolding num
load_int gnil = pos 0
load_int (gnum n) = pos n
load_int (gcons a b) = negsuc (num a)

load_int-store_int : (z : ℤ) → load_int (store_int z) ≡ z
unfolding store_int load_int
load_int-store_int (pos n) = refl
load_int-store_int (negsuc n) = refl

store_bool : Bool → Gv
store_bool false = gnil
store_bool true = gnum 1

load_bool : Gv → Bool
load_bool gnil = false
load_bool (gnum n) = true
load_bool (gcons a b) = true

load_bool-store_bool : (t : Bool) → load_bool (store_bool t) ≡ t
unfolding store_bool load_bool
load_bool-store_bool false = refl
load_bool-store_bool true = refl

-- ---- messages

mutual
  unfolding store_bytes store_int store_bool

  pub store : Msg → Gv
  store nil = gnil
  store (truth t) = gcons (gnum 0) (store_bool t)
  store (whole z) = gcons (gnum 1) (store_int z)
  store (float32 n) = gcons (gnum 2) (gnum n)
  store (float64 n) = gcons (gnum 3) (gnum n)
  store (text s) = gcons (gnum 4) (store_bytes s)
  store (bin s) = gcons (gnum 5) (store_bytes s)
  store (list ms) = gcons (gnum 6) (store_all ms)
  store (map ps) = gcons (gnum 7) (store_pairs ps)
  store (extension tag s) = gcons (gnum 8) (gcons (store_int tag) (store_bytes s))

  store_all : Msgs → Gv
  store_all no_items = gnil
  store_all (item m ms) = gcons (store m) (store_all ms)

  store_pairs : Pairs → Gv
  store_pairs no_pairs = gnil
  store_pairs (pair k v ps) = gcons (gcons (store k) (store v)) (store_pairs ps)

load_extension : Gv → Msg
unfolding load_int load_bytes
load_extension gnil = nil
load_extension (gnum n) = nil
load_extension (gcons a b) = extension (load_int a) (load_bytes b)

mutual
  unfolding num load_bytes load_int load_bool load_extension

  pub load : Gv → Msg
  load gnil = nil
  load (gnum n) = nil
  load (gcons a b) =
      slice_index_or (truth (load_bool b) ∷ whole (load_int b) ∷ float32 (num b) ∷ float64 (num b) ∷ text (load_bytes b) ∷ bin (load_bytes b)
      ∷ list (load_all b) ∷ map (load_pairs b) ∷ load_extension b ∷ []) (num a) nil

  load_all : Gv → Msgs
  load_all gnil = no_items
  load_all (gnum n) = no_items
  load_all (gcons a b) = item (load a) (load_all b)

  load_pairs : Gv → Pairs
  load_pairs gnil = no_pairs
  load_pairs (gnum n) = no_pairs
  load_pairs (gcons gnil b) = no_pairs
  load_pairs (gcons (gnum n) b) = no_pairs
  load_pairs (gcons (gcons k v) b) = pair (load k) (load v) (load_pairs b)

mutual
  unfolding store load

  pub load-store : (m : Msg) → load (store m) ≡ m
  load-store nil = refl
  load-store (truth t) = λ i. truth (load_bool-store_bool t i)
  load-store (whole z) = λ i. whole (load_int-store_int z i)
  load-store (float32 n) = refl
  load-store (float64 n) = refl
  load-store (text s) = λ i. text (load_bytes-store_bytes s i)
  load-store (bin s) = λ i. bin (load_bytes-store_bytes s i)
  load-store (list ms) = λ i. list (load_all-store_all ms i)
  load-store (map ps) = λ i. map (load_pairs-store_pairs ps i)
  load-store (extension tag s) = λ i. extension (load_int-store_int tag i) (load_bytes-store_bytes s i)

  load_all-store_all : (ms : Msgs) → load_all (store_all ms) ≡ ms
  load_all-store_all no_items = refl
  load_all-store_all (item m ms) = λ i. item (load-store m i) (load_all-store_all ms i)

  load_pairs-store_pairs : (ps : Pairs) → load_pairs (store_pairs ps) ≡ ps
  load_pairs-store_pairs no_pairs = refl
  load_pairs-store_pairs (pair k v ps) = λ i. pair (load-store k i) (load-store v i) (load_pairs-store_pairs ps i)

abbrev pub msg_code : Coded Msg
msg_code = code_by Gv itself store load load-store
