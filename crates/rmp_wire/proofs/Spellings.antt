-- Laws of spellings.
use Rattle.std.proofs.Common.{ap, ℕ, ◌≤◌, List, [], ◌∷◌, ◌++◌, length, refl, arith}
use Rattle.std.proofs.lemmas.List.{length-append}
use Rattle.rmp_wire.specs.declared.head.Head.TheVariants.{Nil, Truth, Whole, F32Bits, F64Bits, Text, Bin, Array, Map, Ext}
use Rattle.rmp_wire.specs.Msg.{
  Msg,
  nil,
  truth,
  whole,
  float32,
  float64,
  text,
  bin,
  list,
  map,
  extension,
  Msgs,
  no_items,
  item,
  Pairs,
  no_pairs,
  pair,
  count,
  count_pairs,
}
use Rattle.rmp_wire.specs.Spelling.{IsBytes, Joined, IsContent, Spells, SpellsAll, SpellsPairs, canon, canon_all, canon_pairs, Fits, FitsAll, FitsPairs}
use Rattle.rmp_wire.proofs.Canon.{canon_is_head, canon_head_least, head_fits, head_bytes}

-- ---- the canonical spelling is one

mutual
  pub canon_spells : (m : Msg) → Fits m → Spells (canon m) m
  canon_spells nil f = canon_is_head Nil f
  canon_spells (truth t) f = canon_is_head (Truth t) f
  canon_spells (whole z) f = canon_is_head (Whole z) f
  canon_spells (float32 n) f = canon_is_head (F32Bits n) f
  canon_spells (float64 n) f = canon_is_head (F64Bits n) f
  canon_spells (text s) f = record { first = _; second = s; is_first = canon_is_head (Text (length s)) f.0; is_second = (refl, f.1); is_whole = refl }
  canon_spells (bin s) f = record { first = _; second = s; is_first = canon_is_head (Bin (length s)) f.0; is_second = (refl, f.1); is_whole = refl }
  canon_spells (list ms) f = record {
    first = _;
    second = canon_all ms;
    is_first = canon_is_head (Array (count ms)) f.0;
    is_second = canon_all_spells ms
        f.1;
    is_whole = refl;
  }
  canon_spells (map ps) f = record {
    first = _;
    second = canon_pairs ps;
    is_first = canon_is_head (Map (count_pairs ps)) f.0;
    is_second = canon_pairs_spells
        ps f.1;
    is_whole = refl;
  }
  canon_spells (extension tag s) f = record {
    first = _;
    second = s;
    is_first = canon_is_head (Ext (length s) tag) f.0;
    is_second = (refl, f.1);
    is_whole = refl;
  }

  pub canon_all_spells : (ms : Msgs) → FitsAll ms → SpellsAll (canon_all ms) ms
  canon_all_spells no_items f = refl
  canon_all_spells (item m ms) f = record {
    first = canon m;
    second = canon_all ms;
    is_first = canon_spells m f.0;
    is_second = canon_all_spells ms f.1;
    is_whole = refl;
  }

  pub canon_pairs_spells : (ps : Pairs) → FitsPairs ps → SpellsPairs (canon_pairs ps) ps
  canon_pairs_spells no_pairs f = refl
  canon_pairs_spells (pair k v ps) f = record {
    first = canon k;
    second = canon v ++ canon_pairs ps;
    is_first = canon_spells k f.0;
    is_second = record { first = canon v; second = canon_pairs ps; is_first = canon_spells v f.1; is_second = canon_pairs_spells ps f.2; is_whole = refl };
    is_whole = refl;
  }

-- ---- no spelling is shorter

joined_least : {P Q : List ℕ → Type 0} (a b c : List ℕ) (j : Joined P Q c) → length a ≤ length j.first → length b ≤ length j.second → length (a ++ b) ≤ length c
joined_least a b c j p q = omega (arith, length-append a b, length-append j.first j.second, ap length j.is_whole)

mutual
  pub canon_least : (m : Msg) (b : List ℕ) → Spells b m → length (canon m) ≤ length b
  canon_least nil b s = canon_head_least Nil b s
  canon_least (truth t) b s = canon_head_least (Truth t) b s
  canon_least (whole z) b s = canon_head_least (Whole z) b s
  canon_least (float32 n) b s = canon_head_least (F32Bits n) b s
  canon_least (float64 n) b s = canon_head_least (F64Bits n) b s
  canon_least (text t) b s = joined_least _ t b s (canon_head_least (Text (length t)) s.first s.is_first) (omega (arith, ap length s.is_second.0))
  canon_least (bin t) b s = joined_least _ t b s (canon_head_least (Bin (length t)) s.first s.is_first) (omega (arith, ap length s.is_second.0))
  canon_least (list ms) b s = joined_least _ (canon_all ms) b s (canon_head_least (Array (count ms)) s.first s.is_first)
      (canon_all_least ms s.second s.is_second)
  canon_least (map ps) b s = joined_least _ (canon_pairs ps) b s (canon_head_least (Map (count_pairs ps)) s.first s.is_first)
      (canon_pairs_least ps s.second s.is_second)
  canon_least (extension tag t) b s = joined_least _ t b s (canon_head_least (Ext (length t) tag) s.first s.is_first) (omega (arith, ap length s.is_second.0))

  pub canon_all_least : (ms : Msgs) (b : List ℕ) → SpellsAll b ms → length (canon_all ms) ≤ length b
  canon_all_least no_items b s = omega arith
  canon_all_least (item m ms) b s = joined_least (canon m) (canon_all ms) b s (canon_least m s.first s.is_first) (canon_all_least ms s.second s.is_second)

  pub canon_pairs_least : (ps : Pairs) (b : List ℕ) → SpellsPairs b ps → length (canon_pairs ps) ≤ length b
  canon_pairs_least no_pairs b s = omega arith
  canon_pairs_least (pair k v ps) b s =
      joined_least (canon k) (canon v ++ canon_pairs ps) b s (canon_least k s.first s.is_first)
      (joined_least (canon v) (canon_pairs ps) s.second s.is_second (canon_least v s.is_second.first s.is_second.is_first)
      (canon_pairs_least ps s.is_second.second s.is_second.is_second))

-- ---- what is spelled fits

mutual
  pub spells_fits : (m : Msg) (b : List ℕ) → Spells b m → Fits m
  spells_fits nil b s = head_fits Nil b s
  spells_fits (truth t) b s = head_fits (Truth t) b s
  spells_fits (whole z) b s = head_fits (Whole z) b s
  spells_fits (float32 n) b s = head_fits (F32Bits n) b s
  spells_fits (float64 n) b s = head_fits (F64Bits n) b s
  spells_fits (text t) b s = (head_fits (Text (length t)) s.first s.is_first, s.is_second.1)
  spells_fits (bin t) b s = (head_fits (Bin (length t)) s.first s.is_first, s.is_second.1)
  spells_fits (list ms) b s = (head_fits (Array (count ms)) s.first s.is_first, spells_all_fits ms s.second s.is_second)
  spells_fits (map ps) b s = (head_fits (Map (count_pairs ps)) s.first s.is_first, spells_pairs_fits ps s.second s.is_second)
  spells_fits (extension tag t) b s = (head_fits (Ext (length t) tag) s.first s.is_first, s.is_second.1)

  pub spells_all_fits : (ms : Msgs) (b : List ℕ) → SpellsAll b ms → FitsAll ms
  spells_all_fits no_items b s = tt
  spells_all_fits (item m ms) b s = (spells_fits m s.first s.is_first, spells_all_fits ms s.second s.is_second)

  pub spells_pairs_fits : (ps : Pairs) (b : List ℕ) → SpellsPairs b ps → FitsPairs ps
  spells_pairs_fits no_pairs b s = tt
  spells_pairs_fits (pair k v ps) b s =
      (spells_fits k s.first s.is_first, spells_fits v s.is_second.first s.is_second.is_first, spells_pairs_fits ps s.is_second.second s.is_second.is_second)

-- ---- a spelling is made of bytes

bytes-append : (a b : List ℕ) → IsBytes a → IsBytes b → IsBytes (a ++ b)
bytes-append [] b p q = q
bytes-append (x ∷ a) b p q = (p.0, bytes-append a b p.1 q)

joined_bytes : {P Q : List ℕ → Type 0} (c : List ℕ) (j : Joined P Q c) → IsBytes j.first → IsBytes j.second → IsBytes c
joined_bytes c j p q = rw j.is_whole (bytes-append j.first j.second p q)

content_bytes : (t content : List ℕ) → IsContent t content → IsBytes content
content_bytes t content c = rw c.0 c.1

mutual
  pub spells_bytes : (m : Msg) (b : List ℕ) → Spells b m → IsBytes b
  spells_bytes nil b s = head_bytes Nil b s
  spells_bytes (truth t) b s = head_bytes (Truth t) b s
  spells_bytes (whole z) b s = head_bytes (Whole z) b s
  spells_bytes (float32 n) b s = head_bytes (F32Bits n) b s
  spells_bytes (float64 n) b s = head_bytes (F64Bits n) b s
  spells_bytes (text t) b s = joined_bytes b s (head_bytes (Text (length t)) s.first s.is_first) (content_bytes t s.second s.is_second)
  spells_bytes (bin t) b s = joined_bytes b s (head_bytes (Bin (length t)) s.first s.is_first) (content_bytes t s.second s.is_second)
  spells_bytes (list ms) b s = joined_bytes b s (head_bytes (Array (count ms)) s.first s.is_first) (spells_all_bytes ms s.second s.is_second)
  spells_bytes (map ps) b s = joined_bytes b s (head_bytes (Map (count_pairs ps)) s.first s.is_first) (spells_pairs_bytes ps s.second s.is_second)
  spells_bytes (extension tag t) b s = joined_bytes b s (head_bytes (Ext (length t) tag) s.first s.is_first) (content_bytes t s.second s.is_second)

  pub spells_all_bytes : (ms : Msgs) (b : List ℕ) → SpellsAll b ms → IsBytes b
  spells_all_bytes no_items b s = rw s tt
  spells_all_bytes (item m ms) b s = joined_bytes b s (spells_bytes m s.first s.is_first) (spells_all_bytes ms s.second s.is_second)

  pub spells_pairs_bytes : (ps : Pairs) (b : List ℕ) → SpellsPairs b ps → IsBytes b
  spells_pairs_bytes no_pairs b s = rw s tt
  spells_pairs_bytes (pair k v ps) b s =
      joined_bytes b s (spells_bytes k s.first s.is_first)
      (joined_bytes s.second s.is_second (spells_bytes v s.is_second.first s.is_second.is_first)
      (spells_pairs_bytes ps s.is_second.second s.is_second.is_second))
