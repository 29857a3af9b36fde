-- No Dir is written as a byte, and what is read of its fields. Written by tools/derive.py.
use Rattle.std.proofs.Common.{◌≡◌, ◌∙◌, refl, ap, subst, ℕ, List, Option, None, Some, ◌⊎◌}
use Rattle.std.specs.Ordering.{nat_cmp}
use Rattle.std.specs.declared.collections.BTreeMap.{BTreeMap}
use Rattle.std.specs.Prelude.{ℤ, pos, negsuc}
use Rattle.std.specs.declared.alloc.Global.{Global}
use Rattle.rmp_wire.specs.Msg.{Msg, Msgs}
use Rattle.rmp_decode.specs.Fields.{Absent, NoField, Slot, at, put, given_all}
use Rattle.rmp_decode.specs.Maps.{ReadsEntries}
use Rattle.rmp_decode.specs.Read.{IsSigned, IsChar}
use Rattle.rmp_encode.specs.Trees.{byte_of}
use Rattle.test_json.specs.declared.dirs.Dir.{Dir, out-Dir}
use Rattle.test_json.specs.declared.dirs.Dir.TheOpen.{Dir-F}
use Rattle.test_json.specs.DirLevels.{IsDir, DirFields, DirFrom0, DirFrom1, DirFrom2, dir_data, dir_is}
use Rattle.rmp_encode.proofs.Fields.{structure_no_byte}
use Rattle.rmp_decode.proofs.StructRuns.{slot_first, slot_later, slot_field, slot_gap, slot_gap_later, slot_lacks}
use Rattle.rmp_recursive.proofs.Fields.{first_tree, later_tree, later_lacks}

pub dir_no_byte : (v : Dir) → byte_of (dir_data v) ≡ None
dir_no_byte v = ap byte_of (dir_is v) ∙ structure_no_byte _

-- ---- what was read so far

abbrev pub DirHeld2 : List (Option Msg) → Unit {0} → Type 0
DirHeld2 fs s = NoField fs

abbrev pub DirSlot1 : Msg → BTreeMap (ℕ) Dir Global → Type 0
DirSlot1 m a = ReadsEntries nat_cmp (λ j q. IsChar j q) IsDir a.entries m

abbrev pub DirHeld1 : List (Option Msg) → (Option (BTreeMap (ℕ) Dir Global) × Unit {0}) → Type 0
DirHeld1 fs s = Slot DirSlot1 DirHeld2 fs s.0 s.1

abbrev pub DirSlot0 : Msg → ℤ → Type 0
DirSlot0 m a = IsSigned (negsuc 9223372036854775807) (pos 9223372036854775807) m a

abbrev pub DirHeld0 : List (Option Msg) → (Option (ℤ) × (Option (BTreeMap (ℕ) Dir Global) × Unit {0})) → Type 0
DirHeld0 fs s = Slot DirSlot0 DirHeld1 fs s.0 s.1

pub dir_tree0 : (fs : List (Option Msg)) (v : Dir) (m : Msg) → DirFields IsDir fs v → at 0 fs ≡ Some m → (DirSlot0 m (out-Dir v).size)
dir_tree0 fs v m h e = first_tree (λ k. IsSigned (negsuc 9223372036854775807) (pos 9223372036854775807) k (out-Dir v).size) (Absent None (out-Dir v).size)
    (DirFrom1 IsDir (out-Dir v)) fs m h e

pub dir_step0 : (s : (Option (ℤ) × (Option (BTreeMap (ℕ) Dir Global) × Unit {0}))) (x : ℤ) (fs : List (Option Msg)) (m : Msg) → DirHeld0 fs s
    → at 0 fs ≡ None → DirSlot0 m x
    → (gs : List (Option Msg)) × (put 0 m fs ≡ Some gs) × DirHeld0 gs (Some x, (s.1.0, tt))
dir_step0 s x fs m h e r = slot_first DirSlot0 DirHeld1 s.0 s.1 x fs m h e r

pub dir_gap0 : (s : (Option (ℤ) × (Option (BTreeMap (ℕ) Dir Global) × Unit {0}))) → s.0 ≡ None → (ms : Msgs) → DirHeld0 (given_all ms) s → ⊥
dir_gap0 s e ms h = slot_gap DirSlot0 DirHeld1 s.1 ms (subst (λ z. DirHeld0 (given_all ms) (z, s.1)) e h)

pub dir_lacks0 : (s : (Option (ℤ) × (Option (BTreeMap (ℕ) Dir Global) × Unit {0}))) → s.0 ≡ None → (fs : List (Option Msg)) (v : Dir) → DirHeld0 fs s
    → DirFields IsDir fs v → ⊥
dir_lacks0 s e fs v h q = slot_lacks DirSlot0 DirHeld1 None (DirFrom1 IsDir (out-Dir v)) s.1 (out-Dir v).size fs refl (subst (λ z. DirHeld0 fs (z, s.1)) e h) q

pub dir_tree1 : (fs : List (Option Msg)) (v : Dir) (m : Msg) → DirFields IsDir fs v → at 1 fs ≡ Some m → (DirSlot1 m (out-Dir v).dirs)
dir_tree1 fs v m h e = later_tree (λ k. IsSigned (negsuc 9223372036854775807) (pos 9223372036854775807) k (out-Dir v).size) (Absent None (out-Dir v).size)
    (DirFrom1 IsDir (out-Dir v)) (DirSlot1 m (out-Dir v).dirs) 0 fs m h e
    (λ g0 h0 e0. first_tree (λ k. ReadsEntries nat_cmp (λ j q. IsChar j q) IsDir (out-Dir v).dirs.entries k) (Absent None (out-Dir v).dirs)
    (DirFrom2 IsDir (out-Dir v)) g0 m h0 e0)

pub dir_step1 : (s : (Option (ℤ) × (Option (BTreeMap (ℕ) Dir Global) × Unit {0}))) (x : BTreeMap (ℕ) Dir Global) (fs : List (Option Msg)) (m : Msg)
    → DirHeld0 fs s → at 1 fs ≡ None → DirSlot1 m x
    → (gs : List (Option Msg)) × (put 1 m fs ≡ Some gs) × DirHeld0 gs (s.0, (Some x, tt))
dir_step1 s x fs m h e r = slot_later DirSlot0 DirHeld1 0 s.0 s.1 (Some x, tt) fs m h e (λ g0 h0 e0. slot_first DirSlot1 DirHeld2 s.1.0 s.1.1 x g0 m h0 e0 r)

pub dir_gap1 : (s : (Option (ℤ) × (Option (BTreeMap (ℕ) Dir Global) × Unit {0}))) → s.1.0 ≡ None → (ms : Msgs) → DirHeld0 (given_all ms) s → ⊥
dir_gap1 s e ms h = slot_gap_later DirSlot0 DirHeld1 s.0 s.1
    (λ m0 h0. slot_gap DirSlot1 DirHeld2 s.1.1 m0 (subst (λ z. DirHeld1 (given_all m0) (z, s.1.1)) e h0)) ms h

pub dir_lacks1 : (s : (Option (ℤ) × (Option (BTreeMap (ℕ) Dir Global) × Unit {0}))) → s.1.0 ≡ None → (fs : List (Option Msg)) (v : Dir) → DirHeld0 fs s
    → DirFields IsDir fs v → ⊥
dir_lacks1 s e fs v h q = later_lacks DirSlot0 DirHeld1 (λ k. IsSigned (negsuc 9223372036854775807) (pos 9223372036854775807) k (out-Dir v).size)
    (Absent None (out-Dir v).size) (DirFrom1 IsDir (out-Dir v)) s.0 s.1 fs h q
    (λ g0 h0 q0. slot_lacks DirSlot1 DirHeld2 None (DirFrom2 IsDir (out-Dir v)) s.1.1 (out-Dir v).dirs g0 refl (subst (λ z. DirHeld1 g0 (z, s.1.1)) e h0)
    q0)

pub dir_whole : (s : (Option (ℤ) × (Option (BTreeMap (ℕ) Dir Global) × Unit {0}))) (x : Dir-F Dir)
    → ((s.0 ≡ Some x.size) ⊎ ((s.0 ≡ None) × (None ≡ Some x.size)))
    → ((s.1.0 ≡ Some x.dirs) ⊎ ((s.1.0 ≡ None) × (None ≡ Some x.dirs)))
    → (fs : List (Option Msg)) → DirHeld0 fs s → DirFrom0 IsDir x fs
dir_whole s x c0 c1 fs h = slot_field DirSlot0 DirHeld1 None (DirFrom1 IsDir x) s.0 s.1 x.size fs h c0
    (λ g0 h0. slot_field DirSlot1 DirHeld2 None (DirFrom2 IsDir x) s.1.0 s.1.1 x.dirs g0 h0 c1 (λ g1 h1. h1))
