-- No OwnList is written as a byte, and what is read of its fields. Written by tools/derive.py.
use Rattle.std.proofs.Common.{◌≡◌, ◌∙◌, refl, ap, subst, ℕ, List, Option, None, Some, Box, ◌⊎◌}
use Rattle.std.specs.Prelude.{Vec}
use Rattle.std.specs.declared.alloc.Global.{Global}
use Rattle.rmp_wire.specs.Msg.{Msg, Msgs}
use Rattle.rmp_decode.specs.Fields.{Absent, NoField, Slot, at, put, given_all}
use Rattle.rmp_decode.specs.Options.{IsOption}
use Rattle.rmp_decode.specs.Read.{IsUnsigned}
use Rattle.rmp_encode.specs.Trees.{byte_of}
use Rattle.rmp_recursive.specs.Parts.{Row, Boxed}
use Rattle.test_nodes.specs.declared.lists.List.{List as OwnList, out-List as out-OwnList}
use Rattle.test_nodes.specs.declared.lists.List.TheOpen.{List-F as OwnList-F}
use Rattle.test_nodes.specs.OwnListLevels.{
  IsOwnList,
  OwnListFields,
  OwnListFrom0,
  OwnListFrom1,
  OwnListFrom2,
  OwnListFrom3,
  OwnListFrom4,
  own_list_data,
  own_list_is,
}
use Rattle.rmp_encode.proofs.Fields.{structure_no_byte}
use Rattle.rmp_decode.proofs.StructRuns.{slot_first, slot_later, slot_field, slot_gap, slot_gap_later, slot_lacks}
use Rattle.rmp_recursive.proofs.Fields.{first_tree, later_tree, later_lacks}

pub own_list_no_byte : (v : OwnList) → byte_of (own_list_data v) ≡ None
own_list_no_byte v = ap byte_of (own_list_is v) ∙ structure_no_byte _

-- ---- what was read so far

abbrev pub OwnListHeld4 : List (Option Msg) → Unit {0} → Type 0
OwnListHeld4 fs s = NoField fs

abbrev pub OwnListSlot3 : Msg → Vec (Option (Box OwnList Global)) Global → Type 0
OwnListSlot3 m a = Row (λ j q. IsOption (Boxed IsOwnList) j q) m a.items

abbrev pub OwnListHeld3 : List (Option Msg) → (Option (Vec (Option (Box OwnList Global)) Global) × Unit {0}) → Type 0
OwnListHeld3 fs s = Slot OwnListSlot3 OwnListHeld4 fs s.0 s.1

abbrev pub OwnListSlot2 : Msg → Option (Vec OwnList Global) → Type 0
OwnListSlot2 m a = IsOption (λ j q. Row IsOwnList j q.items) m a

abbrev pub OwnListHeld2 : List (Option Msg) → (Option (Option (Vec OwnList Global)) × (Option (Vec (Option (Box OwnList Global)) Global) × Unit {0})) → Type 0
OwnListHeld2 fs s = Slot OwnListSlot2 OwnListHeld3 fs s.0 s.1

abbrev pub OwnListSlot1 : Msg → Option (Box OwnList Global) → Type 0
OwnListSlot1 m a = IsOption (Boxed IsOwnList) m a

abbrev pub OwnListHeld1 : List (Option Msg) → (Option (Option (Box OwnList Global))
    × (Option (Option (Vec OwnList Global)) × (Option (Vec (Option (Box OwnList Global)) Global) × Unit {0}))) → Type 0
OwnListHeld1 fs s = Slot OwnListSlot1 OwnListHeld2 fs s.0 s.1

abbrev pub OwnListSlot0 : Msg → ℕ → Type 0
OwnListSlot0 m a = IsUnsigned 65535 m a

abbrev pub OwnListHeld0 : List (Option Msg) → (Option (ℕ)
    × (Option (Option (Box OwnList Global)) × (Option (Option (Vec OwnList Global)) × (Option (Vec (Option (Box OwnList Global)) Global) × Unit {0}))))
    → Type 0
OwnListHeld0 fs s = Slot OwnListSlot0 OwnListHeld1 fs s.0 s.1

pub own_list_tree0 : (fs : List (Option Msg)) (v : OwnList) (m : Msg) → OwnListFields IsOwnList fs v → at 0 fs ≡ Some m → (OwnListSlot0 m (out-OwnList v).times)
own_list_tree0 fs v m h e = first_tree (λ k. IsUnsigned 65535 k (out-OwnList v).times) (Absent (Some (1)) (out-OwnList v).times)
    (OwnListFrom1 IsOwnList (out-OwnList v)) fs m h e

pub own_list_step0 : (s : (Option (ℕ) × (Option (Option (Box OwnList Global))
    × (Option (Option (Vec OwnList Global)) × (Option (Vec (Option (Box OwnList Global)) Global) × Unit {0}))))) (x : ℕ) (fs : List (Option Msg)) (m : Msg)
    → OwnListHeld0 fs s → at 0 fs ≡ None → OwnListSlot0 m x
    → (gs : List (Option Msg)) × (put 0 m fs ≡ Some gs) × OwnListHeld0 gs (Some x, (s.1.0, (s.1.1.0, (s.1.1.1.0, tt))))
own_list_step0 s x fs m h e r = slot_first OwnListSlot0 OwnListHeld1 s.0 s.1 x fs m h e r

pub own_list_gap0 : (s : (Option (ℕ) × (Option (Option (Box OwnList Global))
    × (Option (Option (Vec OwnList Global)) × (Option (Vec (Option (Box OwnList Global)) Global) × Unit {0}))))) → s.0 ≡ None → (ms : Msgs)
    → OwnListHeld0 (given_all ms) s → ⊥
own_list_gap0 s e ms h = slot_gap OwnListSlot0 OwnListHeld1 s.1 ms (subst (λ z. OwnListHeld0 (given_all ms) (z, s.1)) e h)

pub own_list_tree1 : (fs : List (Option Msg)) (v : OwnList) (m : Msg) → OwnListFields IsOwnList fs v → at 1 fs ≡ Some m → (OwnListSlot1 m (out-OwnList v).next)
own_list_tree1 fs v m h e = later_tree (λ k. IsUnsigned 65535 k (out-OwnList v).times) (Absent (Some (1)) (out-OwnList v).times)
    (OwnListFrom1 IsOwnList (out-OwnList v)) (OwnListSlot1 m (out-OwnList v).next) 0 fs m h e
    (λ g0 h0 e0. first_tree (λ k. IsOption (Boxed IsOwnList) k (out-OwnList v).next) (Absent (Some None) (out-OwnList v).next)
    (OwnListFrom2 IsOwnList (out-OwnList v)) g0 m h0 e0)

pub own_list_step1 : (s : (Option (ℕ) × (Option (Option (Box OwnList Global))
    × (Option (Option (Vec OwnList Global)) × (Option (Vec (Option (Box OwnList Global)) Global) × Unit {0}))))) (x : Option (Box OwnList Global))
    (fs : List (Option Msg)) (m : Msg) → OwnListHeld0 fs s → at 1 fs ≡ None → OwnListSlot1 m x
    → (gs : List (Option Msg)) × (put 1 m fs ≡ Some gs) × OwnListHeld0 gs (s.0, (Some x, (s.1.1.0, (s.1.1.1.0, tt))))
own_list_step1 s x fs m h e r = slot_later OwnListSlot0 OwnListHeld1 0 s.0 s.1 (Some x, (s.1.1.0, (s.1.1.1.0, tt))) fs m h e
    (λ g0 h0 e0. slot_first OwnListSlot1 OwnListHeld2 s.1.0 s.1.1 x g0 m h0 e0 r)

pub own_list_gap1 : (s : (Option (ℕ) × (Option (Option (Box OwnList Global))
    × (Option (Option (Vec OwnList Global)) × (Option (Vec (Option (Box OwnList Global)) Global) × Unit {0}))))) → s.1.0 ≡ None → (ms : Msgs)
    → OwnListHeld0 (given_all ms) s → ⊥
own_list_gap1 s e ms h = slot_gap_later OwnListSlot0 OwnListHeld1 s.0 s.1
    (λ m0 h0. slot_gap OwnListSlot1 OwnListHeld2 s.1.1 m0 (subst (λ z. OwnListHeld1 (given_all m0) (z, s.1.1)) e h0)) ms h

pub own_list_tree2 : (fs : List (Option Msg)) (v : OwnList) (m : Msg) → OwnListFields IsOwnList fs v → at 2 fs ≡ Some m → (OwnListSlot2 m (out-OwnList v).below)
own_list_tree2 fs v m h e = later_tree (λ k. IsUnsigned 65535 k (out-OwnList v).times) (Absent (Some (1)) (out-OwnList v).times)
    (OwnListFrom1 IsOwnList (out-OwnList v)) (OwnListSlot2 m (out-OwnList v).below) 1 fs m h e
    (λ g0 h0 e0. later_tree (λ k. IsOption (Boxed IsOwnList) k (out-OwnList v).next) (Absent (Some None) (out-OwnList v).next)
    (OwnListFrom2 IsOwnList (out-OwnList v)) (OwnListSlot2 m (out-OwnList v).below) 0 g0 m h0 e0
    (λ g1 h1 e1. first_tree (λ k. IsOption (λ j q. Row IsOwnList j q.items) k (out-OwnList v).below) (Absent (Some None) (out-OwnList v).below)
    (OwnListFrom3 IsOwnList (out-OwnList v)) g1 m h1 e1))

pub own_list_step2 : (s : (Option (ℕ) × (Option (Option (Box OwnList Global))
    × (Option (Option (Vec OwnList Global)) × (Option (Vec (Option (Box OwnList Global)) Global) × Unit {0}))))) (x : Option (Vec OwnList Global))
    (fs : List (Option Msg)) (m : Msg) → OwnListHeld0 fs s → at 2 fs ≡ None → OwnListSlot2 m x
    → (gs : List (Option Msg)) × (put 2 m fs ≡ Some gs) × OwnListHeld0 gs (s.0, (s.1.0, (Some x, (s.1.1.1.0, tt))))
own_list_step2 s x fs m h e r = slot_later OwnListSlot0 OwnListHeld1 1 s.0 s.1 (s.1.0, (Some x, (s.1.1.1.0, tt))) fs m h e
    (λ g0 h0 e0. slot_later OwnListSlot1 OwnListHeld2 0 s.1.0 s.1.1 (Some x, (s.1.1.1.0, tt)) g0 m h0 e0
    (λ g1 h1 e1. slot_first OwnListSlot2 OwnListHeld3 s.1.1.0 s.1.1.1 x g1 m h1 e1 r))

pub own_list_gap2 : (s : (Option (ℕ) × (Option (Option (Box OwnList Global))
    × (Option (Option (Vec OwnList Global)) × (Option (Vec (Option (Box OwnList Global)) Global) × Unit {0}))))) → s.1.1.0 ≡ None → (ms : Msgs)
    → OwnListHeld0 (given_all ms) s → ⊥
own_list_gap2 s e ms h = slot_gap_later OwnListSlot0 OwnListHeld1 s.0 s.1
    (λ m0 h0. slot_gap_later OwnListSlot1 OwnListHeld2 s.1.0 s.1.1
    (λ m1 h1. slot_gap OwnListSlot2 OwnListHeld3 s.1.1.1 m1 (subst (λ z. OwnListHeld2 (given_all m1) (z, s.1.1.1)) e h1)) m0 h0) ms h

pub own_list_tree3 : (fs : List (Option Msg)) (v : OwnList) (m : Msg) → OwnListFields IsOwnList fs v → at 3 fs ≡ Some m
    → (OwnListSlot3 m (out-OwnList v).places)
own_list_tree3 fs v m h e = later_tree (λ k. IsUnsigned 65535 k (out-OwnList v).times) (Absent (Some (1)) (out-OwnList v).times)
    (OwnListFrom1 IsOwnList (out-OwnList v)) (OwnListSlot3 m (out-OwnList v).places) 2 fs m h e
    (λ g0 h0 e0. later_tree (λ k. IsOption (Boxed IsOwnList) k (out-OwnList v).next) (Absent (Some None) (out-OwnList v).next)
    (OwnListFrom2 IsOwnList (out-OwnList v)) (OwnListSlot3 m (out-OwnList v).places) 1 g0 m h0 e0
    (λ g1 h1 e1. later_tree (λ k. IsOption (λ j q. Row IsOwnList j q.items) k (out-OwnList v).below) (Absent (Some None) (out-OwnList v).below)
    (OwnListFrom3 IsOwnList (out-OwnList v)) (OwnListSlot3 m (out-OwnList v).places) 0 g1 m h1 e1
    (λ g2 h2 e2. first_tree (λ k. Row (λ j q. IsOption (Boxed IsOwnList) j q) k (out-OwnList v).places.items) (Absent None (out-OwnList v).places)
    (OwnListFrom4 IsOwnList (out-OwnList v)) g2 m h2 e2)))

pub own_list_step3 : (s : (Option (ℕ) × (Option (Option (Box OwnList Global))
    × (Option (Option (Vec OwnList Global)) × (Option (Vec (Option (Box OwnList Global)) Global) × Unit {0})))))
    (x : Vec (Option (Box OwnList Global)) Global) (fs : List (Option Msg)) (m : Msg) → OwnListHeld0 fs s → at 3 fs ≡ None → OwnListSlot3 m x
    → (gs : List (Option Msg)) × (put 3 m fs ≡ Some gs) × OwnListHeld0 gs (s.0, (s.1.0, (s.1.1.0, (Some x, tt))))
own_list_step3 s x fs m h e r = slot_later OwnListSlot0 OwnListHeld1 2 s.0 s.1 (s.1.0, (s.1.1.0, (Some x, tt))) fs m h e
    (λ g0 h0 e0. slot_later OwnListSlot1 OwnListHeld2 1 s.1.0 s.1.1 (s.1.1.0, (Some x, tt)) g0 m h0 e0
    (λ g1 h1 e1. slot_later OwnListSlot2 OwnListHeld3 0 s.1.1.0 s.1.1.1 (Some x, tt) g1 m h1 e1
    (λ g2 h2 e2. slot_first OwnListSlot3 OwnListHeld4 s.1.1.1.0 s.1.1.1.1 x g2 m h2 e2 r)))

pub own_list_gap3 : (s : (Option (ℕ) × (Option (Option (Box OwnList Global))
    × (Option (Option (Vec OwnList Global)) × (Option (Vec (Option (Box OwnList Global)) Global) × Unit {0}))))) → s.1.1.1.0 ≡ None → (ms : Msgs)
    → OwnListHeld0 (given_all ms) s → ⊥
own_list_gap3 s e ms h = slot_gap_later OwnListSlot0 OwnListHeld1 s.0 s.1
    (λ m0 h0. slot_gap_later OwnListSlot1 OwnListHeld2 s.1.0 s.1.1
    (λ m1 h1. slot_gap_later OwnListSlot2 OwnListHeld3 s.1.1.0 s.1.1.1
    (λ m2 h2. slot_gap OwnListSlot3 OwnListHeld4 s.1.1.1.1 m2 (subst (λ z. OwnListHeld3 (given_all m2) (z, s.1.1.1.1)) e h2)) m1 h1) m0 h0) ms h

pub own_list_lacks3 : (s : (Option (ℕ) × (Option (Option (Box OwnList Global))
    × (Option (Option (Vec OwnList Global)) × (Option (Vec (Option (Box OwnList Global)) Global) × Unit {0}))))) → s.1.1.1.0 ≡ None
    → (fs : List (Option Msg)) (v : OwnList) → OwnListHeld0 fs s → OwnListFields IsOwnList fs v → ⊥
own_list_lacks3 s e fs v h q = later_lacks OwnListSlot0 OwnListHeld1 (λ k. IsUnsigned 65535 k (out-OwnList v).times)
    (Absent (Some (1)) (out-OwnList v).times) (OwnListFrom1 IsOwnList (out-OwnList v)) s.0 s.1 fs h q
    (λ g0 h0 q0. later_lacks OwnListSlot1 OwnListHeld2 (λ k. IsOption (Boxed IsOwnList) k (out-OwnList v).next) (Absent (Some None) (out-OwnList v).next)
    (OwnListFrom2 IsOwnList (out-OwnList v)) s.1.0 s.1.1 g0 h0 q0
    (λ g1 h1 q1. later_lacks OwnListSlot2 OwnListHeld3 (λ k. IsOption (λ j q. Row IsOwnList j q.items) k (out-OwnList v).below)
    (Absent (Some None) (out-OwnList v).below) (OwnListFrom3 IsOwnList (out-OwnList v)) s.1.1.0 s.1.1.1 g1 h1 q1
    (λ g2 h2 q2. slot_lacks OwnListSlot3 OwnListHeld4 None (OwnListFrom4 IsOwnList (out-OwnList v)) s.1.1.1.1 (out-OwnList v).places g2 refl
    (subst (λ z. OwnListHeld3 g2 (z, s.1.1.1.1)) e h2) q2)))

pub own_list_whole : (s : (Option (ℕ) × (Option (Option (Box OwnList Global))
    × (Option (Option (Vec OwnList Global)) × (Option (Vec (Option (Box OwnList Global)) Global) × Unit {0}))))) (x : OwnList-F OwnList)
    → ((s.0 ≡ Some x.times) ⊎ ((s.0 ≡ None) × ((Some (1)) ≡ Some x.times)))
    → ((s.1.0 ≡ Some x.next) ⊎ ((s.1.0 ≡ None) × ((Some None) ≡ Some x.next)))
    → ((s.1.1.0 ≡ Some x.below) ⊎ ((s.1.1.0 ≡ None) × ((Some None) ≡ Some x.below)))
    → ((s.1.1.1.0 ≡ Some x.places) ⊎ ((s.1.1.1.0 ≡ None) × (None ≡ Some x.places)))
    → (fs : List (Option Msg)) → OwnListHeld0 fs s → OwnListFrom0 IsOwnList x fs
own_list_whole s x c0 c1 c2 c3 fs h = slot_field OwnListSlot0 OwnListHeld1 (Some (1)) (OwnListFrom1 IsOwnList x) s.0 s.1 x.times fs h c0
    (λ g0 h0. slot_field OwnListSlot1 OwnListHeld2 (Some None) (OwnListFrom2 IsOwnList x) s.1.0 s.1.1 x.next g0 h0 c1
    (λ g1 h1. slot_field OwnListSlot2 OwnListHeld3 (Some None) (OwnListFrom3 IsOwnList x) s.1.1.0 s.1.1.1 x.below g1 h1 c2
    (λ g2 h2. slot_field OwnListSlot3 OwnListHeld4 None (OwnListFrom4 IsOwnList x) s.1.1.1.0 s.1.1.1.1 x.places g2 h2 c3 (λ g3 h3. h3))))
