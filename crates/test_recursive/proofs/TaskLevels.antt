-- No Task is written as a byte, and what is read of the fields of its variants. Written by tools/derive.py.
use Rattle.std.proofs.Common.{◌≡◌, ◌∙◌, refl, ap, subst, List, Option, None, Some, Box, ◌⊎◌}
use Rattle.std.specs.Prelude.{Vec, ℤ, pos, negsuc}
use Rattle.std.specs.declared.alloc.Global.{Global}
use Rattle.rmp_wire.specs.Msg.{Msg, Msgs}
use Rattle.rmp_decode.specs.Fields.{Absent, NoField, Slot, at, put, given_all}
use Rattle.rmp_decode.specs.Options.{IsOption}
use Rattle.rmp_decode.specs.Read.{IsSigned}
use Rattle.rmp_encode.specs.Data.{Data}
use Rattle.rmp_encode.specs.Trees.{byte_of}
use Rattle.rmp_recursive.specs.Parts.{Row, Boxed}
use Rattle.test_recursive.specs.declared.tasks.Task.{Task}
use Rattle.test_recursive.specs.declared.tasks.TheConstants.{LEAST}
use Rattle.test_recursive.specs.declared.tasks.Task.TheOpen.{Task-F}
use Rattle.test_recursive.specs.TaskLevels.{
  IsTask,
  TaskRunFrom0,
  TaskRunFrom1,
  TaskRunFrom2,
  TaskRunFrom3,
  TaskRunFrom4,
  TaskRunFrom5,
  TaskRunFields,
  task_level,
  task_data,
  task_is,
}
use Rattle.test_recursive.specs.OrderLeaf.{IsOrder}
use Rattle.test_recursive.specs.SpanLeaf.{IsSpan}
use Rattle.test_recursive.specs.declared.tasks.Order.{Order}
use Rattle.test_recursive.specs.declared.tasks.Span.{Span}
use Rattle.rmp_decode.proofs.StructRuns.{slot_first, slot_later, slot_field, slot_gap, slot_gap_later, slot_lacks}
use Rattle.rmp_recursive.proofs.Fields.{first_tree, later_tree, later_lacks}
use Rattle.rmp_encode.proofs.Variants.{tuple_variant_no_byte, struct_variant_no_byte}

level_no_byte : (x : Task-F (Option Data)) → byte_of (task_level x) ≡ None
level_no_byte Task-F.Idle = refl
level_no_byte (Task-F.Move a0 a1) = tuple_variant_no_byte _ _
level_no_byte (Task-F.After a0 a1) = tuple_variant_no_byte _ _
level_no_byte (Task-F.Wait a0 a1) = struct_variant_no_byte _ _
level_no_byte (Task-F.Run a0 a1 a2 a3 a4) = struct_variant_no_byte _ _

pub task_no_byte : (v : Task) → byte_of (task_data v) ≡ None
task_no_byte v = ap byte_of (task_is v) ∙ level_no_byte _

-- ---- what was read so far of the fields of Run

abbrev pub TaskRunHeld5 : List (Option Msg) → Unit {0} → Type 0
TaskRunHeld5 fs s = NoField fs

abbrev pub TaskRunSlot4 : Msg → Option (Box Task Global) → Type 0
TaskRunSlot4 m a = IsOption (Boxed IsTask) m a

abbrev pub TaskRunHeld4 : List (Option Msg) → (Option (Option (Box Task Global)) × Unit {0}) → Type 0
TaskRunHeld4 fs s = Slot TaskRunSlot4 TaskRunHeld5 fs s.0 s.1

abbrev pub TaskRunSlot3 : Msg → Vec Task Global → Type 0
TaskRunSlot3 m a = Row IsTask m a.items

abbrev pub TaskRunHeld3 : List (Option Msg) → (Option (Vec Task Global) × (Option (Option (Box Task Global)) × Unit {0})) → Type 0
TaskRunHeld3 fs s = Slot TaskRunSlot3 TaskRunHeld4 fs s.0 s.1

abbrev pub TaskRunSlot2 : Msg → ℤ → Type 0
TaskRunSlot2 m a = IsSigned (negsuc 32767) (pos 32767) m a

abbrev pub TaskRunHeld2 : List (Option Msg) → (Option (ℤ) × (Option (Vec Task Global) × (Option (Option (Box Task Global)) × Unit {0}))) → Type 0
TaskRunHeld2 fs s = Slot TaskRunSlot2 TaskRunHeld3 fs s.0 s.1

abbrev pub TaskRunSlot1 : Msg → Span → Type 0
TaskRunSlot1 m a = IsSpan m a

abbrev pub TaskRunHeld1 : List (Option Msg) → (Option (Span) × (Option (ℤ) × (Option (Vec Task Global) × (Option (Option (Box Task Global)) × Unit {0}))))
    → Type 0
TaskRunHeld1 fs s = Slot TaskRunSlot1 TaskRunHeld2 fs s.0 s.1

abbrev pub TaskRunSlot0 : Msg → Order → Type 0
TaskRunSlot0 m a = IsOrder m a

abbrev pub TaskRunHeld0 : List (Option Msg) → (Option (Order)
    × (Option (Span) × (Option (ℤ) × (Option (Vec Task Global) × (Option (Option (Box Task Global)) × Unit {0}))))) → Type 0
TaskRunHeld0 fs s = Slot TaskRunSlot0 TaskRunHeld1 fs s.0 s.1

pub task_run_tree0 : (fs : List (Option Msg)) (v : Order × Span × ℤ × Vec Task Global × Option (Box Task Global)) (m : Msg) → TaskRunFields IsTask fs v
    → at 0 fs ≡ Some m → (TaskRunSlot0 m v.0)
task_run_tree0 fs v m h e = first_tree (λ k. IsOrder k v.0) (Absent None v.0) (TaskRunFrom1 IsTask v) fs m h e

pub task_run_step0 : (s : (Option (Order) × (Option (Span) × (Option (ℤ) × (Option (Vec Task Global) × (Option (Option (Box Task Global)) × Unit {0}))))))
    (x : Order) (fs : List (Option Msg)) (m : Msg) → TaskRunHeld0 fs s → at 0 fs ≡ None → TaskRunSlot0 m x
    → (gs : List (Option Msg)) × (put 0 m fs ≡ Some gs) × TaskRunHeld0 gs (Some x, (s.1.0, (s.1.1.0, (s.1.1.1.0, (s.1.1.1.1.0, tt)))))
task_run_step0 s x fs m h e r = slot_first TaskRunSlot0 TaskRunHeld1 s.0 s.1 x fs m h e r

pub task_run_gap0 : (s : (Option (Order) × (Option (Span) × (Option (ℤ) × (Option (Vec Task Global) × (Option (Option (Box Task Global)) × Unit {0}))))))
    → s.0 ≡ None → (ms : Msgs) → TaskRunHeld0 (given_all ms) s → ⊥
task_run_gap0 s e ms h = slot_gap TaskRunSlot0 TaskRunHeld1 s.1 ms (subst (λ z. TaskRunHeld0 (given_all ms) (z, s.1)) e h)

pub task_run_lacks0 : (s : (Option (Order) × (Option (Span) × (Option (ℤ) × (Option (Vec Task Global) × (Option (Option (Box Task Global)) × Unit {0}))))))
    → s.0 ≡ None → (fs : List (Option Msg)) (v : Order × Span × ℤ × Vec Task Global × Option (Box Task Global)) → TaskRunHeld0 fs s
    → TaskRunFields IsTask fs v → ⊥
task_run_lacks0 s e fs v h q = slot_lacks TaskRunSlot0 TaskRunHeld1 None (TaskRunFrom1 IsTask v) s.1 v.0 fs refl (subst (λ z. TaskRunHeld0 fs (z, s.1)) e h) q

pub task_run_tree1 : (fs : List (Option Msg)) (v : Order × Span × ℤ × Vec Task Global × Option (Box Task Global)) (m : Msg) → TaskRunFields IsTask fs v
    → at 1 fs ≡ Some m → (TaskRunSlot1 m v.1)
task_run_tree1 fs v m h e = later_tree (λ k. IsOrder k v.0) (Absent None v.0) (TaskRunFrom1 IsTask v) (TaskRunSlot1 m v.1) 0 fs m h e
    (λ g0 h0 e0. first_tree (λ k. IsSpan k v.1) (Absent None v.1) (TaskRunFrom2 IsTask v) g0 m h0 e0)

pub task_run_step1 : (s : (Option (Order) × (Option (Span) × (Option (ℤ) × (Option (Vec Task Global) × (Option (Option (Box Task Global)) × Unit {0}))))))
    (x : Span) (fs : List (Option Msg)) (m : Msg) → TaskRunHeld0 fs s → at 1 fs ≡ None → TaskRunSlot1 m x
    → (gs : List (Option Msg)) × (put 1 m fs ≡ Some gs) × TaskRunHeld0 gs (s.0, (Some x, (s.1.1.0, (s.1.1.1.0, (s.1.1.1.1.0, tt)))))
task_run_step1 s x fs m h e r = slot_later TaskRunSlot0 TaskRunHeld1 0 s.0 s.1 (Some x, (s.1.1.0, (s.1.1.1.0, (s.1.1.1.1.0, tt)))) fs m h e
    (λ g0 h0 e0. slot_first TaskRunSlot1 TaskRunHeld2 s.1.0 s.1.1 x g0 m h0 e0 r)

pub task_run_gap1 : (s : (Option (Order) × (Option (Span) × (Option (ℤ) × (Option (Vec Task Global) × (Option (Option (Box Task Global)) × Unit {0}))))))
    → s.1.0 ≡ None → (ms : Msgs) → TaskRunHeld0 (given_all ms) s → ⊥
task_run_gap1 s e ms h = slot_gap_later TaskRunSlot0 TaskRunHeld1 s.0 s.1
    (λ m0 h0. slot_gap TaskRunSlot1 TaskRunHeld2 s.1.1 m0 (subst (λ z. TaskRunHeld1 (given_all m0) (z, s.1.1)) e h0)) ms h

pub task_run_lacks1 : (s : (Option (Order) × (Option (Span) × (Option (ℤ) × (Option (Vec Task Global) × (Option (Option (Box Task Global)) × Unit {0}))))))
    → s.1.0 ≡ None → (fs : List (Option Msg)) (v : Order × Span × ℤ × Vec Task Global × Option (Box Task Global)) → TaskRunHeld0 fs s
    → TaskRunFields IsTask fs v → ⊥
task_run_lacks1 s e fs v h q = later_lacks TaskRunSlot0 TaskRunHeld1 (λ k. IsOrder k v.0) (Absent None v.0) (TaskRunFrom1 IsTask v) s.0 s.1 fs h q
    (λ g0 h0 q0. slot_lacks TaskRunSlot1 TaskRunHeld2 None (TaskRunFrom2 IsTask v) s.1.1 v.1 g0 refl (subst (λ z. TaskRunHeld1 g0 (z, s.1.1)) e h0) q0)

pub task_run_tree2 : (fs : List (Option Msg)) (v : Order × Span × ℤ × Vec Task Global × Option (Box Task Global)) (m : Msg) → TaskRunFields IsTask fs v
    → at 2 fs ≡ Some m → (TaskRunSlot2 m v.2)
task_run_tree2 fs v m h e = later_tree (λ k. IsOrder k v.0) (Absent None v.0) (TaskRunFrom1 IsTask v) (TaskRunSlot2 m v.2) 1 fs m h e
    (λ g0 h0 e0. later_tree (λ k. IsSpan k v.1) (Absent None v.1) (TaskRunFrom2 IsTask v) (TaskRunSlot2 m v.2) 0 g0 m h0 e0
    (λ g1 h1 e1. first_tree (λ k. IsSigned (negsuc 32767) (pos 32767) k v.2) (Absent (Some (LEAST)) v.2) (TaskRunFrom3 IsTask v) g1 m h1 e1))

pub task_run_step2 : (s : (Option (Order) × (Option (Span) × (Option (ℤ) × (Option (Vec Task Global) × (Option (Option (Box Task Global)) × Unit {0}))))))
    (x : ℤ) (fs : List (Option Msg)) (m : Msg) → TaskRunHeld0 fs s → at 2 fs ≡ None → TaskRunSlot2 m x
    → (gs : List (Option Msg)) × (put 2 m fs ≡ Some gs) × TaskRunHeld0 gs (s.0, (s.1.0, (Some x, (s.1.1.1.0, (s.1.1.1.1.0, tt)))))
task_run_step2 s x fs m h e r = slot_later TaskRunSlot0 TaskRunHeld1 1 s.0 s.1 (s.1.0, (Some x, (s.1.1.1.0, (s.1.1.1.1.0, tt)))) fs m h e
    (λ g0 h0 e0. slot_later TaskRunSlot1 TaskRunHeld2 0 s.1.0 s.1.1 (Some x, (s.1.1.1.0, (s.1.1.1.1.0, tt))) g0 m h0 e0
    (λ g1 h1 e1. slot_first TaskRunSlot2 TaskRunHeld3 s.1.1.0 s.1.1.1 x g1 m h1 e1 r))

pub task_run_gap2 : (s : (Option (Order) × (Option (Span) × (Option (ℤ) × (Option (Vec Task Global) × (Option (Option (Box Task Global)) × Unit {0}))))))
    → s.1.1.0 ≡ None → (ms : Msgs) → TaskRunHeld0 (given_all ms) s → ⊥
task_run_gap2 s e ms h = slot_gap_later TaskRunSlot0 TaskRunHeld1 s.0 s.1
    (λ m0 h0. slot_gap_later TaskRunSlot1 TaskRunHeld2 s.1.0 s.1.1
    (λ m1 h1. slot_gap TaskRunSlot2 TaskRunHeld3 s.1.1.1 m1 (subst (λ z. TaskRunHeld2 (given_all m1) (z, s.1.1.1)) e h1)) m0 h0) ms h

pub task_run_tree3 : (fs : List (Option Msg)) (v : Order × Span × ℤ × Vec Task Global × Option (Box Task Global)) (m : Msg) → TaskRunFields IsTask fs v
    → at 3 fs ≡ Some m → (TaskRunSlot3 m v.3)
task_run_tree3 fs v m h e = later_tree (λ k. IsOrder k v.0) (Absent None v.0) (TaskRunFrom1 IsTask v) (TaskRunSlot3 m v.3) 2 fs m h e
    (λ g0 h0 e0. later_tree (λ k. IsSpan k v.1) (Absent None v.1) (TaskRunFrom2 IsTask v) (TaskRunSlot3 m v.3) 1 g0 m h0 e0
    (λ g1 h1 e1. later_tree (λ k. IsSigned (negsuc 32767) (pos 32767) k v.2) (Absent (Some (LEAST)) v.2) (TaskRunFrom3 IsTask v) (TaskRunSlot3 m v.3) 0 g1 m
    h1 e1 (λ g2 h2 e2. first_tree (λ k. Row IsTask k v.3.items) (Absent None v.3) (TaskRunFrom4 IsTask v) g2 m h2 e2)))

pub task_run_step3 : (s : (Option (Order) × (Option (Span) × (Option (ℤ) × (Option (Vec Task Global) × (Option (Option (Box Task Global)) × Unit {0}))))))
    (x : Vec Task Global) (fs : List (Option Msg)) (m : Msg) → TaskRunHeld0 fs s → at 3 fs ≡ None → TaskRunSlot3 m x
    → (gs : List (Option Msg)) × (put 3 m fs ≡ Some gs) × TaskRunHeld0 gs (s.0, (s.1.0, (s.1.1.0, (Some x, (s.1.1.1.1.0, tt)))))
task_run_step3 s x fs m h e r = slot_later TaskRunSlot0 TaskRunHeld1 2 s.0 s.1 (s.1.0, (s.1.1.0, (Some x, (s.1.1.1.1.0, tt)))) fs m h e
    (λ g0 h0 e0. slot_later TaskRunSlot1 TaskRunHeld2 1 s.1.0 s.1.1 (s.1.1.0, (Some x, (s.1.1.1.1.0, tt))) g0 m h0 e0
    (λ g1 h1 e1. slot_later TaskRunSlot2 TaskRunHeld3 0 s.1.1.0 s.1.1.1 (Some x, (s.1.1.1.1.0, tt)) g1 m h1 e1
    (λ g2 h2 e2. slot_first TaskRunSlot3 TaskRunHeld4 s.1.1.1.0 s.1.1.1.1 x g2 m h2 e2 r)))

pub task_run_gap3 : (s : (Option (Order) × (Option (Span) × (Option (ℤ) × (Option (Vec Task Global) × (Option (Option (Box Task Global)) × Unit {0}))))))
    → s.1.1.1.0 ≡ None → (ms : Msgs) → TaskRunHeld0 (given_all ms) s → ⊥
task_run_gap3 s e ms h = slot_gap_later TaskRunSlot0 TaskRunHeld1 s.0 s.1
    (λ m0 h0. slot_gap_later TaskRunSlot1 TaskRunHeld2 s.1.0 s.1.1
    (λ m1 h1. slot_gap_later TaskRunSlot2 TaskRunHeld3 s.1.1.0 s.1.1.1
    (λ m2 h2. slot_gap TaskRunSlot3 TaskRunHeld4 s.1.1.1.1 m2 (subst (λ z. TaskRunHeld3 (given_all m2) (z, s.1.1.1.1)) e h2)) m1 h1) m0 h0) ms h

pub task_run_lacks3 : (s : (Option (Order) × (Option (Span) × (Option (ℤ) × (Option (Vec Task Global) × (Option (Option (Box Task Global)) × Unit {0}))))))
    → s.1.1.1.0 ≡ None → (fs : List (Option Msg)) (v : Order × Span × ℤ × Vec Task Global × Option (Box Task Global)) → TaskRunHeld0 fs s
    → TaskRunFields IsTask fs v → ⊥
task_run_lacks3 s e fs v h q = later_lacks TaskRunSlot0 TaskRunHeld1 (λ k. IsOrder k v.0) (Absent None v.0) (TaskRunFrom1 IsTask v) s.0 s.1 fs h q
    (λ g0 h0 q0. later_lacks TaskRunSlot1 TaskRunHeld2 (λ k. IsSpan k v.1) (Absent None v.1) (TaskRunFrom2 IsTask v) s.1.0 s.1.1 g0 h0 q0
    (λ g1 h1 q1. later_lacks TaskRunSlot2 TaskRunHeld3 (λ k. IsSigned (negsuc 32767) (pos 32767) k v.2) (Absent (Some (LEAST)) v.2) (TaskRunFrom3 IsTask v)
    s.1.1.0 s.1.1.1 g1 h1 q1 (λ g2 h2 q2. slot_lacks TaskRunSlot3 TaskRunHeld4 None (TaskRunFrom4 IsTask v) s.1.1.1.1 v.3 g2 refl
    (subst (λ z. TaskRunHeld3 g2 (z, s.1.1.1.1)) e h2) q2)))

pub task_run_tree4 : (fs : List (Option Msg)) (v : Order × Span × ℤ × Vec Task Global × Option (Box Task Global)) (m : Msg) → TaskRunFields IsTask fs v
    → at 4 fs ≡ Some m → (TaskRunSlot4 m v.4)
task_run_tree4 fs v m h e = later_tree (λ k. IsOrder k v.0) (Absent None v.0) (TaskRunFrom1 IsTask v) (TaskRunSlot4 m v.4) 3 fs m h e
    (λ g0 h0 e0. later_tree (λ k. IsSpan k v.1) (Absent None v.1) (TaskRunFrom2 IsTask v) (TaskRunSlot4 m v.4) 2 g0 m h0 e0
    (λ g1 h1 e1. later_tree (λ k. IsSigned (negsuc 32767) (pos 32767) k v.2) (Absent (Some (LEAST)) v.2) (TaskRunFrom3 IsTask v) (TaskRunSlot4 m v.4) 1 g1 m
    h1 e1 (λ g2 h2 e2. later_tree (λ k. Row IsTask k v.3.items) (Absent None v.3) (TaskRunFrom4 IsTask v) (TaskRunSlot4 m v.4) 0 g2 m h2 e2
    (λ g3 h3 e3. first_tree (λ k. IsOption (Boxed IsTask) k v.4) (Absent (Some None) v.4) (TaskRunFrom5 IsTask v) g3 m h3 e3))))

pub task_run_step4 : (s : (Option (Order) × (Option (Span) × (Option (ℤ) × (Option (Vec Task Global) × (Option (Option (Box Task Global)) × Unit {0}))))))
    (x : Option (Box Task Global)) (fs : List (Option Msg)) (m : Msg) → TaskRunHeld0 fs s → at 4 fs ≡ None → TaskRunSlot4 m x
    → (gs : List (Option Msg)) × (put 4 m fs ≡ Some gs) × TaskRunHeld0 gs (s.0, (s.1.0, (s.1.1.0, (s.1.1.1.0, (Some x, tt)))))
task_run_step4 s x fs m h e r = slot_later TaskRunSlot0 TaskRunHeld1 3 s.0 s.1 (s.1.0, (s.1.1.0, (s.1.1.1.0, (Some x, tt)))) fs m h e
    (λ g0 h0 e0. slot_later TaskRunSlot1 TaskRunHeld2 2 s.1.0 s.1.1 (s.1.1.0, (s.1.1.1.0, (Some x, tt))) g0 m h0 e0
    (λ g1 h1 e1. slot_later TaskRunSlot2 TaskRunHeld3 1 s.1.1.0 s.1.1.1 (s.1.1.1.0, (Some x, tt)) g1 m h1 e1
    (λ g2 h2 e2. slot_later TaskRunSlot3 TaskRunHeld4 0 s.1.1.1.0 s.1.1.1.1 (Some x, tt) g2 m h2 e2
    (λ g3 h3 e3. slot_first TaskRunSlot4 TaskRunHeld5 s.1.1.1.1.0 s.1.1.1.1.1 x g3 m h3 e3 r))))

pub task_run_gap4 : (s : (Option (Order) × (Option (Span) × (Option (ℤ) × (Option (Vec Task Global) × (Option (Option (Box Task Global)) × Unit {0}))))))
    → s.1.1.1.1.0 ≡ None → (ms : Msgs) → TaskRunHeld0 (given_all ms) s → ⊥
task_run_gap4 s e ms h = slot_gap_later TaskRunSlot0 TaskRunHeld1 s.0 s.1
    (λ m0 h0. slot_gap_later TaskRunSlot1 TaskRunHeld2 s.1.0 s.1.1
    (λ m1 h1. slot_gap_later TaskRunSlot2 TaskRunHeld3 s.1.1.0 s.1.1.1
    (λ m2 h2. slot_gap_later TaskRunSlot3 TaskRunHeld4 s.1.1.1.0 s.1.1.1.1
    (λ m3 h3. slot_gap TaskRunSlot4 TaskRunHeld5 s.1.1.1.1.1 m3 (subst (λ z. TaskRunHeld4 (given_all m3) (z, s.1.1.1.1.1)) e h3)) m2 h2) m1 h1) m0 h0) ms h

pub task_run_whole : (s : (Option (Order) × (Option (Span) × (Option (ℤ) × (Option (Vec Task Global) × (Option (Option (Box Task Global)) × Unit {0}))))))
    (x : Order × Span × ℤ × Vec Task Global × Option (Box Task Global))
    → ((s.0 ≡ Some x.0) ⊎ ((s.0 ≡ None) × (None ≡ Some x.0)))
    → ((s.1.0 ≡ Some x.1) ⊎ ((s.1.0 ≡ None) × (None ≡ Some x.1)))
    → ((s.1.1.0 ≡ Some x.2) ⊎ ((s.1.1.0 ≡ None) × ((Some (LEAST)) ≡ Some x.2)))
    → ((s.1.1.1.0 ≡ Some x.3) ⊎ ((s.1.1.1.0 ≡ None) × (None ≡ Some x.3)))
    → ((s.1.1.1.1.0 ≡ Some x.4) ⊎ ((s.1.1.1.1.0 ≡ None) × ((Some None) ≡ Some x.4)))
    → (fs : List (Option Msg)) → TaskRunHeld0 fs s → TaskRunFrom0 IsTask x fs
task_run_whole s x c0 c1 c2 c3 c4 fs h = slot_field TaskRunSlot0 TaskRunHeld1 None (TaskRunFrom1 IsTask x) s.0 s.1 x.0 fs h c0
    (λ g0 h0. slot_field TaskRunSlot1 TaskRunHeld2 None (TaskRunFrom2 IsTask x) s.1.0 s.1.1 x.1 g0 h0 c1
    (λ g1 h1. slot_field TaskRunSlot2 TaskRunHeld3 (Some (LEAST)) (TaskRunFrom3 IsTask x) s.1.1.0 s.1.1.1 x.2 g1 h1 c2
    (λ g2 h2. slot_field TaskRunSlot3 TaskRunHeld4 None (TaskRunFrom4 IsTask x) s.1.1.1.0 s.1.1.1.1 x.3 g2 h2 c3
    (λ g3 h3. slot_field TaskRunSlot4 TaskRunHeld5 (Some None) (TaskRunFrom5 IsTask x) s.1.1.1.1.0 s.1.1.1.1.1 x.4 g3 h3 c4 (λ g4 h4. h4)))))
