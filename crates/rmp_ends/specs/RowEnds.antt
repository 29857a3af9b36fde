-- A read of a list meets an end only inside of a message, where those of its elements do.
use Rattle.std.proofs.Common.{◌≡◌, sym, subst, refl, ℕ, suc, ◌+◌, ◌<◌, ◌⊎◌, inl, inr, arith, List, [], ◌∷◌, ◌++◌, length}
use Rattle.std.specs.Prelude.{Bool, true, false, Option, None, Some, pos}
use Rattle.std.specs.Io.KnownBytes.{Consumes, Keeps}
use Rattle.rmp_wire.specs.Heads.{canon_head}
use Rattle.rmp_wire.specs.Msg.{Msg, Msgs, whole, count}
use Rattle.rmp_wire.specs.Spelling.{IsBytes}
use Rattle.rmp_wire.specs.declared.head.Head.TheVariants.{Nil, Truth, Whole, F32Bits, F64Bits, Text, Bin, Array, Map, Ext}
use Rattle.rmp_wire.proofs.Canon.{canon_is_head, head_bytes}
use Rattle.rmp_wire.proofs.Taken.{bytes_parts}
use Rattle.rmp_decode.specs.Exact.{IsEnd, RefusesBy}
use Rattle.rmp_decode.specs.Options.{RefusesOption}
use Rattle.rmp_decode.specs.Refusing.{Setting, Refusals, inside, RefusesBoxed, RefusedIn, WhereSome, Wanted, Excess, IsMemory}
use Rattle.rmp_decode.specs.Refusing.{AfterItems, Opened, RefusesEach, RefusesTimes, Part, RefusesParts, RefusesTuple}
use Rattle.rmp_decode.specs.Seq.{SpellsIn, not_seq}
use Rattle.rmp_decode.specs.declared.error.Error.{Error}
use Rattle.rmp_decode.specs.declared.error.Error.TheVariants as errors
use Rattle.rmp_scan.specs.Scans.{IsBeginning}
use Rattle.rmp_scan.proofs.Cutting.{nothing_begins}
use Rattle.rmp_scan.proofs.FirstByte.{bytes_append}
use Rattle.rmp_scan.proofs.Scanning.{begins_or_ends}
use Rattle.rmp_ends.specs.EndsInside.{EndsInside, AlwaysInside}
use Rattle.rmp_ends.specs.LeafEnds.{NoEnds, heads_inside, syntax_no_end, length_no_end, depth_no_end, memory_no_end}
use Rattle.rmp_ends.specs.Unfinished.{UnfinishedIn, unfinished_first, unfinished_list, element_after, row_after}

-- ---- what is left after some bytes

pub record Left (xs bytes : List ℕ) (rest : Option (List ℕ)) : Type 0 where
  pub left : List ℕ
  pub told : rest ≡ Some left
  pub front : xs ≡ bytes ++ left
  pub are_bytes : IsBytes left

pub left_after : (xs bytes : List ℕ) (rest : Option (List ℕ)) → IsBytes xs → Consumes (Some xs) rest bytes → Left xs bytes rest
left_after xs bytes None own c = absurd c
left_after xs bytes (Some left) own c = record { left = left; told = refl; front = c; are_bytes = (bytes_parts bytes left (subst IsBytes c own)).1 }

-- ---- elements

-- Where so many elements are to come, an end says that fewer do.
abbrev pub RowInside : Bool → (ℕ → Option (List ℕ) → Error → Type 0) → Type 0
RowInside b P = (n : ℕ) (xs : List ℕ) (e : Error) → IsBytes xs → P n (Some xs) e → IsEnd e → UnfinishedIn b n xs

-- a whole number begins no message but itself
number_whole : (b : ℕ) (xs : List ℕ) → b < 256 → IsBeginning (canon_head (Whole (pos b)) ++ xs) → ⊥
unfolding Rattle.rmp_wire.specs.Heads.fits_head
number_whole b xs small i =
    let a : List ℕ = canon_head (Whole (pos b)) in
    begins_or_ends (a ++ xs) (length a)
    (record { bytes = a; rest = xs; front = refl; spelled = (whole (pos b), canon_is_head (Whole (pos b)) (omega (arith, small))); long = refl }) i

number_bytes : (b : ℕ) → b < 256 → IsBytes (canon_head (Whole (pos b)))
unfolding Rattle.rmp_wire.specs.Heads.fits_head
number_bytes b small = head_bytes (Whole (pos b)) (canon_head (Whole (pos b))) (canon_is_head (Whole (pos b)) (omega (arith, small)))

pub element_inside : (b : Bool) (P : Refusals) → EndsInside P → (faults : ℕ) → RowInside b (WhereSome (RefusedIn b P faults faults))
element_inside false P inside faults n xs e own r end = unfinished_first n xs r.0 (inside faults xs e own r.1 end)
element_inside true P inside faults n xs e own (some, inl fault) end = absurd (fault.0 refl)
element_inside true P inside faults n [] e own (some, inr r) end = some
element_inside true P inside faults n (x ∷ xs) e own (some, inr r) end =
    let more : List ℕ = canon_head (Whole (pos x)) ++ xs in
    absurd (number_whole x xs own.0 (inside faults more e (bytes_append (canon_head (Whole (pos x))) xs (number_bytes x own.0) own.1) r end))

pub wanted_inside : (b : Bool) (P : Refusals) → EndsInside P → (faults : ℕ) → RowInside b (Wanted (RefusedIn b P faults faults))
wanted_inside b P inside faults n xs e own (inl none) end = absurd (syntax_no_end e _ none.1 end)
wanted_inside b P inside faults n xs e own (inr r) end = element_inside b P inside faults n xs e own r end

pub excess_inside : (b : Bool) (many : ℕ) → RowInside b (Excess many)
excess_inside b many n xs e own r end = absurd (length_no_end e many r.1 end)

memory_inside : (b : Bool) → RowInside b IsMemory
memory_inside b n xs e own r end = absurd (memory_no_end e r end)

items_inside : (strict b : Bool) (Q : Msgs → Type 0) (room n : ℕ) (P : ℕ → Option (List ℕ) → Error → Type 0) (xs : List ℕ) (e : Error) → IsBytes xs
    → AfterItems (SpellsIn strict b) Q room n P (Some xs) e → IsEnd e → RowInside b P → UnfinishedIn b n xs
items_inside strict b Q room n P xs e own r end row =
    let l = left_after xs r.bytes r.rest own r.takes in
    let i = row r.still l.left e l.are_bytes (subst (λ z. P r.still z e) l.told r.refused) end in
    subst (λ z. UnfinishedIn b z xs) r.many (subst (UnfinishedIn b (count r.trees + r.still)) (sym l.front)
    (row_after strict b r.still r.trees r.bytes l.left r.spelled i))

-- ---- lists

not_seq_none : (room : ℕ) → NoEnds (not_seq room)
not_seq_none room m (Array n) e r = depth_no_end e r.1
not_seq_none room m (Bin n) e r = absurd r
not_seq_none room m Nil e r = syntax_no_end e _ r
not_seq_none room m (Truth t) e r = syntax_no_end e _ r
not_seq_none room m (Whole z) e r = syntax_no_end e _ r
not_seq_none room m (F32Bits n) e r = syntax_no_end e _ r
not_seq_none room m (F64Bits n) e r = syntax_no_end e _ r
not_seq_none room m (Text n) e r = syntax_no_end e _ r
not_seq_none room m (Map n) e r = syntax_no_end e _ r
not_seq_none room m (Ext n tag) e r = syntax_no_end e _ r

pub opened_inside : (s : Setting) (P : Bool → Setting → ℕ → Option (List ℕ) → Error → Type 0) (xs : List ℕ) (e : Error) → IsBytes xs → Opened s P (Some xs) e
    → IsEnd e → ((b : Bool) (i : Setting) → RowInside b (P b i)) → IsBeginning xs
opened_inside s P xs e own r end each =
    let l = left_after xs r.bytes r.rest own r.takes in
    let refused = subst (λ z. P r.is_bytes (inside s r.inner) r.many z e) l.told r.refused in
    let i = each r.is_bytes (inside s r.inner) r.many l.left e l.are_bytes refused end in
    subst IsBeginning (sym l.front) (unfinished_list s.strict r.is_bytes r.many r.bytes l.left r.is_head l.are_bytes i)

-- what is no list or bytes
no_seq : (s : Setting) → EndsInside (RefusesBy s.strict (not_seq s.room))
no_seq s = heads_inside s.strict (not_seq s.room) (not_seq_none s.room)

pub each_inside : {V : Type 0} (reads : Bool → Bool → Msg → V → Type 0) (refuses : Setting → Refusals) → AlwaysInside refuses
    → AlwaysInside (RefusesEach reads refuses)
each_inside reads refuses law s n xs e own (inl r) end = no_seq s n xs e own r end
each_inside reads refuses law s n xs e own (inr r) end = opened_inside s _ xs e own r end (λ b i many ys f bytes q is. elim q [
  | inl one ↦ items_inside i.strict b _ i.room many _ ys f bytes one is (element_inside b (refuses i) (law i) n)
  | inr none ↦ items_inside i.strict b _ i.room many _ ys f bytes none is (memory_inside b)
])

times_inside : {V : Type 0} (many : ℕ) (reads : Bool → Bool → Msg → V → Type 0) (refuses : Setting → Refusals) → AlwaysInside refuses
    → AlwaysInside (RefusesTimes many reads refuses)
times_inside many reads refuses law s n xs e own (inl r) end = no_seq s n xs e own r end
times_inside many reads refuses law s n xs e own (inr r) end = opened_inside s _ xs e own r end (λ b i left ys f bytes q is. elim q [
  | inl one ↦ items_inside i.strict b _ i.room left _ ys f bytes one is (wanted_inside b (refuses i) (law i) n)
  | inr more ↦ items_inside i.strict b _ i.room left _ ys f bytes more is (excess_inside b many)
])

-- an array, which may not fit in memory
pub array_inside : {V : Type 0} (P : Type 0) (many : ℕ) (reads : Bool → Bool → Msg → V → Type 0) (refuses : Setting → Refusals) → AlwaysInside refuses
    → AlwaysInside (λ s before after known e. (P × (e ≡ errors.OutOfMemory)) ⊎ RefusesTimes many reads refuses s before after known e)
array_inside P many reads refuses law s n xs e own (inl r) end = absurd (memory_no_end e r.1 end)
array_inside P many reads refuses law s n xs e own (inr r) end = times_inside many reads refuses law s n xs e own r end

-- ---- elements of several types

-- each of them meets an end only inside of a message
abbrev pub PartsInside : List Part → Type 0
PartsInside [] = Unit {0}
PartsInside (p ∷ ps) = AlwaysInside p.refuses × PartsInside ps

pub parts_inside : (b : Bool) (s : Setting) (faults : ℕ) (ps : List Part) (last : ℕ → Option (List ℕ) → Error → Type 0) → PartsInside ps → RowInside b last
    → RowInside b (RefusesParts b s faults faults ps last)
parts_inside b s faults [] last laws end n xs e own r is = end n xs e own r is
parts_inside b s faults (p ∷ ps) last laws end n xs e own (inl r) is = wanted_inside b (p.refuses s) (laws.0 s) faults n xs e own r is
parts_inside b s faults (p ∷ ps) last laws end n xs e own (inr r) is =
    let l = left_after xs r.bytes r.rest own r.takes in
    let i = parts_inside b s faults ps last laws.1 end r.still l.left e l.are_bytes
    (subst (λ z. RefusesParts b s faults faults ps last r.still z e) l.told r.refused) is in
    let many : suc r.still ≡ n = (let m = r.many in omega (arith, m)) in
    subst (λ z. UnfinishedIn b z xs) many (subst (UnfinishedIn b (suc r.still)) (sym l.front)
    (element_after s.strict b r.still r.bytes l.left r.tree r.spelled i))

pub tuple_inside : (ps : List Part) → PartsInside ps → AlwaysInside (RefusesTuple ps)
tuple_inside ps laws s n xs e own (inl r) end = no_seq s n xs e own r end
tuple_inside ps laws s n xs e own (inr r) end =
    opened_inside s _ xs e own r end (λ b i. parts_inside b i n ps (Excess (length ps)) laws (excess_inside b (length ps)))

-- ---- options and boxes

kept_inside : (P : Refusals) → EndsInside P → (n : ℕ) (xs : List ℕ) (there : Option (List ℕ)) (e : Error) → IsBytes xs → Keeps (Some xs) there → P n n there e
    → IsEnd e → IsBeginning xs
kept_inside P inside n xs None e own k r end = absurd k
kept_inside P inside n xs (Some ys) e own k r end = inside n xs e own (subst (λ z. P n n (Some z) e) k r) end

pub option_inside : (refuses : Setting → Refusals) → AlwaysInside refuses → AlwaysInside (RefusesOption refuses)
option_inside refuses law s n xs e own (inl r) end = subst IsBeginning (sym (r.0 refl).0) nothing_begins
option_inside refuses law s n xs e own (inr r) end = kept_inside (refuses s) (law s) n xs r.there e own r.same r.refused end

pub box_inside : {V : Type 0} (reads : Bool → Bool → Msg → V → Type 0) (refuses : Setting → Refusals) → AlwaysInside refuses
    → AlwaysInside (RefusesBoxed reads refuses)
box_inside reads refuses law s n xs e own (inl r) end = law s n xs e own r end
box_inside reads refuses law s n xs e own (inr r) end = absurd (memory_no_end e r.refused end)
