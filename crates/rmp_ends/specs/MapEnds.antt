-- A read of a map meets an end only inside of a message, where those of its keys and values do.
use Rattle.std.proofs.Common.{◌≡◌, sym, subst, ℕ, suc, ◌+◌, ◌*◌, ◌-◌, ◌<◌, inl, inr, arith, List}
use Rattle.std.specs.Prelude.{Bool, Option, Some}
use Rattle.rmp_wire.specs.Msg.{Msg, Pairs, count_pairs}
use Rattle.rmp_wire.specs.Spelling.{IsBytes}
use Rattle.rmp_wire.specs.declared.head.Head.TheVariants.{Nil, Truth, Whole, F32Bits, F64Bits, Text, Bin, Array, Map, Ext}
use Rattle.rmp_wire.proofs.Strict.{spells_any}
use Rattle.rmp_decode.specs.Exact.{IsEnd}
use Rattle.rmp_decode.specs.MapRefusing.{OpenedMap, AfterPairs, PairRefused, RefusesPairs}
use Rattle.rmp_decode.specs.Maps.{not_map}
use Rattle.rmp_decode.specs.Refusing.{Setting, Refusals, inside, AfterMessage, IsMemory}
use Rattle.rmp_decode.specs.declared.error.Error.{Error}
use Rattle.rmp_scan.specs.Scans.{IsBeginning}
use Rattle.rmp_ends.specs.EndsInside.{AlwaysInside}
use Rattle.rmp_ends.specs.LeafEnds.{NoEnds, heads_inside, syntax_no_end, depth_no_end, memory_no_end}
use Rattle.rmp_ends.specs.RowEnds.{left_after}
use Rattle.rmp_ends.specs.Unfinished.{Unfinished, unfinished_first, unfinished_after, unfinished_map, pairs_after}

-- Where so many pairs are to come, an end says that fewer do.
abbrev pub PairsInside : (ℕ → Option (List ℕ) → Error → Type 0) → Type 0
PairsInside P = (n : ℕ) (xs : List ℕ) (e : Error) → IsBytes xs → P n (Some xs) e → IsEnd e → Unfinished (2 * n) xs

-- after a whole message
pub message_inside : (s : Setting) (Q : Msg → Type 0) (P : Option (List ℕ) → Error → Type 0) (n : ℕ) (xs : List ℕ) (e : Error) → IsBytes xs
    → AfterMessage s Q P (Some xs) e → IsEnd e → 1 < n → ((ys : List ℕ) (f : Error) → IsBytes ys → P (Some ys) f → IsEnd f → IsBeginning ys) → Unfinished n xs
message_inside s Q P n xs e own r end more each =
    let l = left_after xs r.bytes r.rest own r.takes in
    let i = each l.left e l.are_bytes (subst (λ z. P z e) l.told r.refused) end in
    let k : ℕ = n - 1 in
    let all : suc k ≡ n = omega (arith, more) in
    subst (λ z. Unfinished z xs) all (subst (Unfinished (suc k)) (sym l.front)
    (unfinished_after k r.bytes l.left (r.tree, spells_any s.strict r.tree r.bytes r.spelled) (unfinished_first k l.left (omega (arith, more)) i)))

pub entries_inside : (s : Setting) (Q : Pairs → Type 0) (n : ℕ) (P : ℕ → Option (List ℕ) → Error → Type 0) (xs : List ℕ) (e : Error) → IsBytes xs
    → AfterPairs s Q n P (Some xs) e → IsEnd e → PairsInside P → Unfinished (2 * n) xs
entries_inside s Q n P xs e own r end each =
    let l = left_after xs r.bytes r.rest own r.takes in
    let i = each r.still l.left e l.are_bytes (subst (λ z. P r.still z e) l.told r.refused) end in
    let all : 2 * count_pairs r.trees + 2 * r.still ≡ 2 * n = (let m = r.many in omega (arith, m)) in
    subst (λ z. Unfinished z xs) all (subst (Unfinished (2 * count_pairs r.trees + 2 * r.still)) (sym l.front)
    (pairs_after s.strict (2 * r.still) r.trees r.bytes l.left r.spelled i))

pub opened_map_inside : (s : Setting) (P : Setting → ℕ → Option (List ℕ) → Error → Type 0) (xs : List ℕ) (e : Error) → IsBytes xs
    → OpenedMap s P (Some xs) e → IsEnd e → ((i : Setting) → PairsInside (P i)) → IsBeginning xs
opened_map_inside s P xs e own r end each =
    let l = left_after xs r.bytes r.rest own r.takes in
    let i = each (inside s r.inner) r.many l.left e l.are_bytes (subst (λ z. P (inside s r.inner) r.many z e) l.told r.refused) end in
    subst IsBeginning (sym l.front) (unfinished_map s.strict r.many r.bytes l.left r.is_head i)

pair_inside : (s : Setting) (keys : Msg → Type 0) (K V : Setting → Refusals) → AlwaysInside K → AlwaysInside V → (faults : ℕ)
    → PairsInside (PairRefused s keys K V faults faults)
pair_inside s keys K V key value faults n xs e own (some, inl r) end = unfinished_first (2 * n) xs (omega (arith, some)) (key s faults xs e own r end)
pair_inside s keys K V key value faults n xs e own (some, inr r) end =
    message_inside s keys (V s faults faults) (2 * n) xs e own r end (omega (arith, some)) (value s faults)

not_map_none : (room : ℕ) → NoEnds (not_map room)
not_map_none room m (Map n) e r = depth_no_end e r.1
not_map_none room m (Array n) e r = syntax_no_end e _ r
not_map_none room m (Bin n) e r = syntax_no_end e _ r
not_map_none room m Nil e r = syntax_no_end e _ r
not_map_none room m (Truth t) e r = syntax_no_end e _ r
not_map_none room m (Whole z) e r = syntax_no_end e _ r
not_map_none room m (F32Bits n) e r = syntax_no_end e _ r
not_map_none room m (F64Bits n) e r = syntax_no_end e _ r
not_map_none room m (Text n) e r = syntax_no_end e _ r
not_map_none room m (Ext n tag) e r = syntax_no_end e _ r

pub map_inside : {K V : Type 0} (keys : Bool → Bool → Msg → K → Type 0) (values : Bool → Bool → Msg → V → Type 0) (key value : Setting → Refusals)
    → AlwaysInside key → AlwaysInside value → AlwaysInside (RefusesPairs keys values key value)
map_inside keys values key value k v s n xs e own (inl r) end = heads_inside s.strict (not_map s.room) (not_map_none s.room) n xs e own r end
map_inside keys values key value k v s n xs e own (inr r) end = opened_map_inside s _ xs e own r end (λ i many ys f b q is. elim q [
  | inl one ↦ entries_inside i _ many _ ys f b one is (pair_inside i _ key value k v n)
  | inr none ↦ entries_inside i _ many IsMemory ys f b none is (λ _ zs g _ h at. absurd (memory_no_end g h at))
])
