-- A head and its payload, put one after the other.
use Rattle.std.proofs.Common.{◌≡◌, ◌≢◌, ◌∙◌, ◌≤◌, ◌+◌, ◌-◌, ◌++◌, ℕ, List, [], ◌∷◌, length, take, drop, sym, ap, arith, append_assoc, append-nil}
use Rattle.std.proofs.Common.{true, false, pos, negsuc, Result, Ok, Err, Some}
use Rattle.std.proofs.lemmas.List.{length-append}
use Rattle.std.proofs.lemmas.Bool.Decides.{nat_tests}
use Rattle.std.proofs.lemmas.Slice.{take-put_mid, drop-put_mid}
use Rattle.std.proofs.Math.Seq.{drop-drop}
use borrow.Rule.Slice.PartMut.{put_mid}
use Rattle.rmp_wire.specs.declared.error.ValueWriteError.{ValueWriteError}
use Rattle.rmp_wire.specs.declared.error.ValueWriteError.TheVariants.{InvalidMarkerWrite, InvalidDataWrite, OutOfMemory}
use Rattle.rmp_wire.specs.declared.head.Head.{Head}
use Rattle.rmp_wire.specs.declared.head.Head.TheVariants.{Nil, Truth, Whole, F32Bits, F64Bits, Text, Bin, Array, Map, Ext}
use Rattle.rmp_wire.specs.Heads.{canon_head}
use Rattle.rmp_wire.specs.Sinks.{Puts}
use Rattle.rmp_c.specs.Puts.{IsPut}

pub two_pieces : (out h p x y : List ℕ) (at middle end : ℕ) → x ≡ h → y ≡ p → middle ≡ at + length h → end ≡ middle + length p → end ≤ length out
    → IsPut (h ++ p) at end out (put_mid middle (end - middle) (put_mid at (middle - at) out x) y)
two_pieces out h p x y at middle end same_head same_payload m e fits =
    let one = put_mid at (middle - at) out x in
    let long_head : length x ≡ length h = ap length same_head in
    let long : length (h ++ p) ≡ length h + length p = length-append h p in
    let front : take middle one ≡ take at out ++ x = take-put_mid at (middle - at) out x middle (omega (arith, m, long_head)) (omega (arith, m, e, fits)) in
    let after : drop (end - middle) (drop middle one) ≡ drop (at + length (h ++ p)) out =
    drop-drop (end - middle) middle one ∙ ap (λ k. drop k one) (omega (arith, m, e, long))
    ∙ drop-put_mid at (middle - at) out x (at + length (h ++ p)) (omega (arith, m, e, long)) (omega (arith, m, e, fits)) (omega (arith, m, long_head)) in
    let rest = drop (at + length (h ++ p)) out in record {
      fits = omega (arith, m, e, fits, long);
      place = omega (arith, m, e, long);
      bytes_there = ap (λ l. l ++ (y ++ drop (end - middle) (drop middle one))) front
          ∙ ap (λ l. (take at out ++ x) ++ (y ++ l)) after
          ∙ ap (λ l. (take at out ++ l) ++ (y ++ rest)) same_head
          ∙ ap (λ l. (take at out ++ h) ++ (l ++ rest)) same_payload
          ∙ append_assoc (take at out) h (p ++ rest)
          ∙ ap (λ l. take at out ++ l) (sym (append_assoc h p rest));
    }

-- ---- a head has room in 9 bytes

pub head_most : (h : Head) → length (canon_head h) ≤ 9
unfolding canon_head
head_most Nil = grind arith
head_most (Truth false) = grind arith
head_most (Truth true) = grind arith
head_most (Whole (pos n)) = grind (arith, nat_tests)
head_most (Whole (negsuc n)) = grind (arith, nat_tests)
head_most (F32Bits n) = grind arith
head_most (F64Bits n) = grind arith
head_most (Text n) = grind (arith, nat_tests)
head_most (Bin n) = grind (arith, nat_tests)
head_most (Array n) = grind (arith, nat_tests)
head_most (Map n) = grind (arith, nat_tests)
head_most (Ext n tag) = grind (arith, nat_tests)

all_of : (bs part rest : List ℕ) → bs ≡ part ++ rest → length bs ≤ length part → part ≡ bs
all_of bs part [] e l = sym (e ∙ append-nil part)
all_of bs part (x ∷ rest) e l = let a = ap length e ∙ length-append part (x ∷ rest) in absurd (omega (arith, a, l))

-- a write into those stops nowhere
pub written_whole : {A : Type 0} (h : Head) (bytes : List ℕ) (len faults : ℕ) (r : Result A ValueWriteError) → (faults ≢ 0 → len ≡ 9) → length bytes ≡ len
    → Puts false (canon_head h) (Some []) (Some bytes) 0 faults r → bytes ≡ canon_head h
written_whole h bytes len faults (Ok u) full long p = p.whole
written_whole h bytes len faults (Err (InvalidMarkerWrite f)) full long p =
    let nine = full (λ z. let c = p.stops.cause.1 in omega (arith, c, z)) in
    let most = head_most h in
    let is = p.stops.appended in
    is ∙ all_of (canon_head h) p.stops.part p.stops.rest p.stops.split (let l = ap length is in omega (arith, l, long, nine, most))
written_whole h bytes len faults (Err (InvalidDataWrite f)) full long p =
    let nine = full (λ z. let c = p.stops.cause.1 in omega (arith, c, z)) in
    let most = head_most h in
    let is = p.stops.appended in
    is ∙ all_of (canon_head h) p.stops.part p.stops.rest p.stops.split (let l = ap length is in omega (arith, l, long, nine, most))
written_whole h bytes len faults (Err OutOfMemory) full long p = let never = p.stops.cause.1 in absurd (cc)
