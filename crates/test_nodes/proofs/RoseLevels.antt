-- No Rose is written as a byte, and what is read of its fields. Written by tools/derive.py.
use Rattle.std.proofs.Common.{◌≡◌, ◌∙◌, refl, ap, subst, List, Option, None, Some, ◌⊎◌}
use Rattle.std.specs.Prelude.{Vec}
use Rattle.std.specs.declared.alloc.Global.{Global}
use Rattle.rmp_wire.specs.Msg.{Msg, Msgs}
use Rattle.rmp_decode.specs.Fields.{Absent, NoField, Slot, at, put, given_all}
use Rattle.rmp_encode.specs.Trees.{byte_of}
use Rattle.rmp_recursive.specs.Parts.{Row}
use Rattle.test_nodes.specs.declared.nodes.Rose.{Rose, out-Rose}
use Rattle.test_nodes.specs.declared.nodes.Rose.TheOpen.{Rose-F}
use Rattle.test_nodes.specs.RoseLevels.{IsRose, RoseFields, RoseFrom0, RoseFrom1, rose_data, rose_is}
use Rattle.rmp_encode.proofs.Fields.{structure_no_byte}
use Rattle.rmp_decode.proofs.StructRuns.{slot_first, slot_field, slot_gap, slot_lacks}
use Rattle.rmp_recursive.proofs.Fields.{first_tree}

pub rose_no_byte : (v : Rose) → byte_of (rose_data v) ≡ None
rose_no_byte v = ap byte_of (rose_is v) ∙ structure_no_byte _

-- ---- what was read so far

abbrev pub RoseHeld1 : List (Option Msg) → Unit {0} → Type 0
RoseHeld1 fs s = NoField fs

abbrev pub RoseSlot0 : Msg → Vec Rose Global → Type 0
RoseSlot0 m a = Row IsRose m a.items

abbrev pub RoseHeld0 : List (Option Msg) → (Option (Vec Rose Global) × Unit {0}) → Type 0
RoseHeld0 fs s = Slot RoseSlot0 RoseHeld1 fs s.0 s.1

pub rose_tree0 : (fs : List (Option Msg)) (v : Rose) (m : Msg) → RoseFields IsRose fs v → at 0 fs ≡ Some m → (RoseSlot0 m (out-Rose v).kids)
rose_tree0 fs v m h e = first_tree (λ k. Row IsRose k (out-Rose v).kids.items) (Absent None (out-Rose v).kids) (RoseFrom1 IsRose (out-Rose v)) fs m h e

pub rose_step0 : (s : (Option (Vec Rose Global) × Unit {0})) (x : Vec Rose Global) (fs : List (Option Msg)) (m : Msg) → RoseHeld0 fs s → at 0 fs ≡ None
    → RoseSlot0 m x
    → (gs : List (Option Msg)) × (put 0 m fs ≡ Some gs) × RoseHeld0 gs (Some x, tt)
rose_step0 s x fs m h e r = slot_first RoseSlot0 RoseHeld1 s.0 s.1 x fs m h e r

pub rose_gap0 : (s : (Option (Vec Rose Global) × Unit {0})) → s.0 ≡ None → (ms : Msgs) → RoseHeld0 (given_all ms) s → ⊥
rose_gap0 s e ms h = slot_gap RoseSlot0 RoseHeld1 s.1 ms (subst (λ z. RoseHeld0 (given_all ms) (z, s.1)) e h)

pub rose_lacks0 : (s : (Option (Vec Rose Global) × Unit {0})) → s.0 ≡ None → (fs : List (Option Msg)) (v : Rose) → RoseHeld0 fs s → RoseFields IsRose fs v → ⊥
rose_lacks0 s e fs v h q = slot_lacks RoseSlot0 RoseHeld1 None (RoseFrom1 IsRose (out-Rose v)) s.1 (out-Rose v).kids fs refl
    (subst (λ z. RoseHeld0 fs (z, s.1)) e h) q

pub rose_whole : (s : (Option (Vec Rose Global) × Unit {0})) (x : Rose-F Rose)
    → ((s.0 ≡ Some x.kids) ⊎ ((s.0 ≡ None) × (None ≡ Some x.kids)))
    → (fs : List (Option Msg)) → RoseHeld0 fs s → RoseFrom0 IsRose x fs
rose_whole s x c0 fs h = slot_field RoseSlot0 RoseHeld1 None (RoseFrom1 IsRose x) s.0 s.1 x.kids fs h c0 (λ g0 h0. h0)
