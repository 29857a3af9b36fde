-- No Frame is written as a byte, and what is read of its fields. Written by tools/derive.py.
use Rattle.std.proofs.Common.{◌≡◌, ◌∙◌, refl, ap, subst, ℕ, List, Option, None, Some, String, ◌⊎◌}
use Rattle.std.specs.declared.collections.BTreeMap.{BTreeMap}
use Rattle.std.specs.declared.collections.VecDeque.{VecDeque}
use Rattle.std.specs.declared.alloc.Global.{Global}
use Rattle.rmp_wire.specs.Msg.{Msg, Msgs}
use Rattle.rmp_decode.specs.Fields.{Absent, NoField, Slot, at, put, given_all}
use Rattle.rmp_encode.specs.Data.{Data}
use Rattle.rmp_encode.specs.Trees.{byte_of}
use Rattle.rmp_recursive.specs.Parts.{Row}
use Rattle.test_nodes.specs.declared.parts.Frame.{Frame, out-Frame}
use Rattle.test_nodes.specs.declared.parts.Frame.TheOpen.{Frame-F}
use Rattle.test_nodes.specs.FrameLevels.{
  IsFrame,
  FrameFields,
  FrameFrom0,
  FrameFrom1,
  FrameFrom2,
  FrameFrom3,
  FrameFrom4,
  FrameFrom5,
  FrameFrom6,
  frame_data,
  frame_is,
}
use Rattle.test_nodes.specs.declared.parts.Id.{Id as TheId}
use Rattle.test_nodes.specs.declared.parts.Width.{Width as TheWidth}
use Rattle.rmp_encode.proofs.Fields.{structure_no_byte}
use Rattle.rmp_decode.proofs.StructRuns.{slot_first, slot_later, slot_field, slot_gap, slot_gap_later, slot_lacks}
use Rattle.rmp_recursive.proofs.Fields.{first_tree, later_tree, later_lacks}

module _ (data_of : (TheId → Option Data) × (TheWidth → Option Data) × ((List (ℕ)) → Option Data) × ((BTreeMap (String Global) (ℕ) Global) → Option Data)
    × ((Option (TheWidth)) → Option Data)) where
  pub frame_no_byte : (v : Frame) → byte_of ((frame_data data_of) v) ≡ None
  frame_no_byte v = ap byte_of ((frame_is data_of) v) ∙ structure_no_byte _

module _ (reads_of : (Msg → TheId → Type 0) × (Msg → TheWidth → Type 0) × (Msg → (List (ℕ)) → Type 0) × (Msg → (BTreeMap (String Global) (ℕ) Global)
    → Type 0) × (Msg → (Option (TheWidth)) → Type 0)) where
  -- ---- what was read so far

  abbrev pub FrameHeld6 : List (Option Msg) → Unit {0} → Type 0
  FrameHeld6 fs s = NoField fs

  abbrev pub FrameSlot5 : Msg → VecDeque Frame Global → Type 0
  FrameSlot5 m a = Row (IsFrame reads_of) m a.items

  abbrev pub FrameHeld5 : List (Option Msg) → (Option (VecDeque Frame Global) × Unit {0}) → Type 0
  FrameHeld5 fs s = Slot FrameSlot5 FrameHeld6 fs s.0 s.1

  abbrev pub FrameSlot4 : Msg → Option (TheWidth) → Type 0
  FrameSlot4 m a = reads_of.4 m a

  abbrev pub FrameHeld4 : List (Option Msg) → (Option (Option (TheWidth)) × (Option (VecDeque Frame Global) × Unit {0})) → Type 0
  FrameHeld4 fs s = Slot FrameSlot4 FrameHeld5 fs s.0 s.1

  abbrev pub FrameSlot3 : Msg → BTreeMap (String Global) (ℕ) Global → Type 0
  FrameSlot3 m a = reads_of.3 m a

  abbrev pub FrameHeld3 : List (Option Msg) → (Option (BTreeMap (String Global) (ℕ) Global)
      × (Option (Option (TheWidth)) × (Option (VecDeque Frame Global) × Unit {0}))) → Type 0
  FrameHeld3 fs s = Slot FrameSlot3 FrameHeld4 fs s.0 s.1

  abbrev pub FrameSlot2 : Msg → List (ℕ) → Type 0
  FrameSlot2 m a = reads_of.2 m a

  abbrev pub FrameHeld2 : List (Option Msg) → (Option (List (ℕ))
      × (Option (BTreeMap (String Global) (ℕ) Global) × (Option (Option (TheWidth)) × (Option (VecDeque Frame Global) × Unit {0})))) → Type 0
  FrameHeld2 fs s = Slot FrameSlot2 FrameHeld3 fs s.0 s.1

  abbrev pub FrameSlot1 : Msg → TheWidth → Type 0
  FrameSlot1 m a = reads_of.1 m a

  abbrev pub FrameHeld1 : List (Option Msg) → (Option (TheWidth)
      × (Option (List (ℕ)) × (Option (BTreeMap (String Global) (ℕ) Global) × (Option (Option (TheWidth)) × (Option (VecDeque Frame Global) × Unit {0})))))
      → Type 0
  FrameHeld1 fs s = Slot FrameSlot1 FrameHeld2 fs s.0 s.1

  abbrev pub FrameSlot0 : Msg → TheId → Type 0
  FrameSlot0 m a = reads_of.0 m a

  abbrev pub FrameHeld0 : List (Option Msg) → (Option (TheId)
      × (Option (TheWidth) × (Option (List (ℕ)) × (Option (BTreeMap (String Global) (ℕ) Global)
      × (Option (Option (TheWidth)) × (Option (VecDeque Frame Global) × Unit {0})))))) → Type 0
  FrameHeld0 fs s = Slot FrameSlot0 FrameHeld1 fs s.0 s.1

  pub frame_tree0 : (fs : List (Option Msg)) (v : Frame) (m : Msg) → (FrameFields reads_of) (IsFrame reads_of) fs v → at 0 fs ≡ Some m
      → (FrameSlot0 m (out-Frame v).id)
  frame_tree0 fs v m h e = first_tree (λ k. reads_of.0 k (out-Frame v).id) (Absent None (out-Frame v).id)
      ((FrameFrom1 reads_of) (IsFrame reads_of) (out-Frame v)) fs m h e

  pub frame_step0 : (s : (Option (TheId) × (Option (TheWidth)
      × (Option (List (ℕ)) × (Option (BTreeMap (String Global) (ℕ) Global) × (Option (Option (TheWidth)) × (Option (VecDeque Frame Global) × Unit {0})))))))
      (x : TheId) (fs : List (Option Msg)) (m : Msg) → FrameHeld0 fs s → at 0 fs ≡ None → FrameSlot0 m x
      → (gs : List (Option Msg)) × (put 0 m fs ≡ Some gs) × FrameHeld0 gs (Some x, (s.1.0, (s.1.1.0, (s.1.1.1.0, (s.1.1.1.1.0, (s.1.1.1.1.1.0, tt))))))
  frame_step0 s x fs m h e r = slot_first FrameSlot0 FrameHeld1 s.0 s.1 x fs m h e r

  pub frame_gap0 : (s : (Option (TheId) × (Option (TheWidth)
      × (Option (List (ℕ)) × (Option (BTreeMap (String Global) (ℕ) Global) × (Option (Option (TheWidth)) × (Option (VecDeque Frame Global) × Unit {0})))))))
      → s.0 ≡ None → (ms : Msgs) → FrameHeld0 (given_all ms) s → ⊥
  frame_gap0 s e ms h = slot_gap FrameSlot0 FrameHeld1 s.1 ms (subst (λ z. FrameHeld0 (given_all ms) (z, s.1)) e h)

  pub frame_lacks0 : (s : (Option (TheId) × (Option (TheWidth)
      × (Option (List (ℕ)) × (Option (BTreeMap (String Global) (ℕ) Global) × (Option (Option (TheWidth)) × (Option (VecDeque Frame Global) × Unit {0})))))))
      → s.0 ≡ None → (fs : List (Option Msg)) (v : Frame) → FrameHeld0 fs s → (FrameFields reads_of) (IsFrame reads_of) fs v → ⊥
  frame_lacks0 s e fs v h q = slot_lacks FrameSlot0 FrameHeld1 None ((FrameFrom1 reads_of) (IsFrame reads_of) (out-Frame v)) s.1 (out-Frame v).id fs refl
      (subst (λ z. FrameHeld0 fs (z, s.1)) e h) q

  pub frame_tree1 : (fs : List (Option Msg)) (v : Frame) (m : Msg) → (FrameFields reads_of) (IsFrame reads_of) fs v → at 1 fs ≡ Some m
      → (FrameSlot1 m (out-Frame v).width)
  frame_tree1 fs v m h e = later_tree (λ k. reads_of.0 k (out-Frame v).id) (Absent None (out-Frame v).id)
      ((FrameFrom1 reads_of) (IsFrame reads_of) (out-Frame v)) (FrameSlot1 m (out-Frame v).width) 0 fs m h e
      (λ g0 h0 e0. first_tree (λ k. reads_of.1 k (out-Frame v).width) (Absent None (out-Frame v).width)
      ((FrameFrom2 reads_of) (IsFrame reads_of) (out-Frame v)) g0 m h0 e0)

  pub frame_step1 : (s : (Option (TheId) × (Option (TheWidth)
      × (Option (List (ℕ)) × (Option (BTreeMap (String Global) (ℕ) Global) × (Option (Option (TheWidth)) × (Option (VecDeque Frame Global) × Unit {0})))))))
      (x : TheWidth) (fs : List (Option Msg)) (m : Msg) → FrameHeld0 fs s → at 1 fs ≡ None → FrameSlot1 m x
      → (gs : List (Option Msg)) × (put 1 m fs ≡ Some gs) × FrameHeld0 gs (s.0, (Some x, (s.1.1.0, (s.1.1.1.0, (s.1.1.1.1.0, (s.1.1.1.1.1.0, tt))))))
  frame_step1 s x fs m h e r = slot_later FrameSlot0 FrameHeld1 0 s.0 s.1 (Some x, (s.1.1.0, (s.1.1.1.0, (s.1.1.1.1.0, (s.1.1.1.1.1.0, tt))))) fs m h e
      (λ g0 h0 e0. slot_first FrameSlot1 FrameHeld2 s.1.0 s.1.1 x g0 m h0 e0 r)

  pub frame_gap1 : (s : (Option (TheId) × (Option (TheWidth)
      × (Option (List (ℕ)) × (Option (BTreeMap (String Global) (ℕ) Global) × (Option (Option (TheWidth)) × (Option (VecDeque Frame Global) × Unit {0})))))))
      → s.1.0 ≡ None → (ms : Msgs) → FrameHeld0 (given_all ms) s → ⊥
  frame_gap1 s e ms h = slot_gap_later FrameSlot0 FrameHeld1 s.0 s.1
      (λ m0 h0. slot_gap FrameSlot1 FrameHeld2 s.1.1 m0 (subst (λ z. FrameHeld1 (given_all m0) (z, s.1.1)) e h0)) ms h

  pub frame_lacks1 : (s : (Option (TheId) × (Option (TheWidth)
      × (Option (List (ℕ)) × (Option (BTreeMap (String Global) (ℕ) Global) × (Option (Option (TheWidth)) × (Option (VecDeque Frame Global) × Unit {0})))))))
      → s.1.0 ≡ None → (fs : List (Option Msg)) (v : Frame) → FrameHeld0 fs s → (FrameFields reads_of) (IsFrame reads_of) fs v → ⊥
  frame_lacks1 s e fs v h q = later_lacks FrameSlot0 FrameHeld1 (λ k. reads_of.0 k (out-Frame v).id) (Absent None (out-Frame v).id)
      ((FrameFrom1 reads_of) (IsFrame reads_of) (out-Frame v)) s.0 s.1 fs h q
      (λ g0 h0 q0. slot_lacks FrameSlot1 FrameHeld2 None ((FrameFrom2 reads_of) (IsFrame reads_of) (out-Frame v)) s.1.1 (out-Frame v).width g0 refl
      (subst (λ z. FrameHeld1 g0 (z, s.1.1)) e h0) q0)

  pub frame_tree2 : (fs : List (Option Msg)) (v : Frame) (m : Msg) → (FrameFields reads_of) (IsFrame reads_of) fs v → at 2 fs ≡ Some m
      → (FrameSlot2 m (out-Frame v).hash)
  frame_tree2 fs v m h e = later_tree (λ k. reads_of.0 k (out-Frame v).id) (Absent None (out-Frame v).id)
      ((FrameFrom1 reads_of) (IsFrame reads_of) (out-Frame v)) (FrameSlot2 m (out-Frame v).hash) 1 fs m h e
      (λ g0 h0 e0. later_tree (λ k. reads_of.1 k (out-Frame v).width) (Absent None (out-Frame v).width)
      ((FrameFrom2 reads_of) (IsFrame reads_of) (out-Frame v)) (FrameSlot2 m (out-Frame v).hash) 0 g0 m h0 e0
      (λ g1 h1 e1. first_tree (λ k. reads_of.2 k (out-Frame v).hash) (Absent None (out-Frame v).hash)
      ((FrameFrom3 reads_of) (IsFrame reads_of) (out-Frame v)) g1 m h1 e1))

  pub frame_step2 : (s : (Option (TheId) × (Option (TheWidth)
      × (Option (List (ℕ)) × (Option (BTreeMap (String Global) (ℕ) Global) × (Option (Option (TheWidth)) × (Option (VecDeque Frame Global) × Unit {0})))))))
      (x : List (ℕ)) (fs : List (Option Msg)) (m : Msg) → FrameHeld0 fs s → at 2 fs ≡ None → FrameSlot2 m x
      → (gs : List (Option Msg)) × (put 2 m fs ≡ Some gs) × FrameHeld0 gs (s.0, (s.1.0, (Some x, (s.1.1.1.0, (s.1.1.1.1.0, (s.1.1.1.1.1.0, tt))))))
  frame_step2 s x fs m h e r = slot_later FrameSlot0 FrameHeld1 1 s.0 s.1 (s.1.0, (Some x, (s.1.1.1.0, (s.1.1.1.1.0, (s.1.1.1.1.1.0, tt))))) fs m h e
      (λ g0 h0 e0. slot_later FrameSlot1 FrameHeld2 0 s.1.0 s.1.1 (Some x, (s.1.1.1.0, (s.1.1.1.1.0, (s.1.1.1.1.1.0, tt)))) g0 m h0 e0
      (λ g1 h1 e1. slot_first FrameSlot2 FrameHeld3 s.1.1.0 s.1.1.1 x g1 m h1 e1 r))

  pub frame_gap2 : (s : (Option (TheId) × (Option (TheWidth)
      × (Option (List (ℕ)) × (Option (BTreeMap (String Global) (ℕ) Global) × (Option (Option (TheWidth)) × (Option (VecDeque Frame Global) × Unit {0})))))))
      → s.1.1.0 ≡ None → (ms : Msgs) → FrameHeld0 (given_all ms) s → ⊥
  frame_gap2 s e ms h = slot_gap_later FrameSlot0 FrameHeld1 s.0 s.1
      (λ m0 h0. slot_gap_later FrameSlot1 FrameHeld2 s.1.0 s.1.1
      (λ m1 h1. slot_gap FrameSlot2 FrameHeld3 s.1.1.1 m1 (subst (λ z. FrameHeld2 (given_all m1) (z, s.1.1.1)) e h1)) m0 h0) ms h

  pub frame_lacks2 : (s : (Option (TheId) × (Option (TheWidth)
      × (Option (List (ℕ)) × (Option (BTreeMap (String Global) (ℕ) Global) × (Option (Option (TheWidth)) × (Option (VecDeque Frame Global) × Unit {0})))))))
      → s.1.1.0 ≡ None → (fs : List (Option Msg)) (v : Frame) → FrameHeld0 fs s → (FrameFields reads_of) (IsFrame reads_of) fs v → ⊥
  frame_lacks2 s e fs v h q = later_lacks FrameSlot0 FrameHeld1 (λ k. reads_of.0 k (out-Frame v).id) (Absent None (out-Frame v).id)
      ((FrameFrom1 reads_of) (IsFrame reads_of) (out-Frame v)) s.0 s.1 fs h q
      (λ g0 h0 q0. later_lacks FrameSlot1 FrameHeld2 (λ k. reads_of.1 k (out-Frame v).width) (Absent None (out-Frame v).width)
      ((FrameFrom2 reads_of) (IsFrame reads_of) (out-Frame v)) s.1.0 s.1.1 g0 h0 q0
      (λ g1 h1 q1. slot_lacks FrameSlot2 FrameHeld3 None ((FrameFrom3 reads_of) (IsFrame reads_of) (out-Frame v)) s.1.1.1 (out-Frame v).hash g1 refl
      (subst (λ z. FrameHeld2 g1 (z, s.1.1.1)) e h1) q1))

  pub frame_tree3 : (fs : List (Option Msg)) (v : Frame) (m : Msg) → (FrameFields reads_of) (IsFrame reads_of) fs v → at 3 fs ≡ Some m
      → (FrameSlot3 m (out-Frame v).counts)
  frame_tree3 fs v m h e = later_tree (λ k. reads_of.0 k (out-Frame v).id) (Absent None (out-Frame v).id)
      ((FrameFrom1 reads_of) (IsFrame reads_of) (out-Frame v)) (FrameSlot3 m (out-Frame v).counts) 2 fs m h e
      (λ g0 h0 e0. later_tree (λ k. reads_of.1 k (out-Frame v).width) (Absent None (out-Frame v).width)
      ((FrameFrom2 reads_of) (IsFrame reads_of) (out-Frame v)) (FrameSlot3 m (out-Frame v).counts) 1 g0 m h0 e0
      (λ g1 h1 e1. later_tree (λ k. reads_of.2 k (out-Frame v).hash) (Absent None (out-Frame v).hash)
      ((FrameFrom3 reads_of) (IsFrame reads_of) (out-Frame v)) (FrameSlot3 m (out-Frame v).counts) 0 g1 m h1 e1
      (λ g2 h2 e2. first_tree (λ k. reads_of.3 k (out-Frame v).counts) (Absent None (out-Frame v).counts)
      ((FrameFrom4 reads_of) (IsFrame reads_of) (out-Frame v)) g2 m h2 e2)))

  pub frame_step3 : (s : (Option (TheId) × (Option (TheWidth)
      × (Option (List (ℕ)) × (Option (BTreeMap (String Global) (ℕ) Global) × (Option (Option (TheWidth)) × (Option (VecDeque Frame Global) × Unit {0})))))))
      (x : BTreeMap (String Global) (ℕ) Global) (fs : List (Option Msg)) (m : Msg) → FrameHeld0 fs s → at 3 fs ≡ None → FrameSlot3 m x
      → (gs : List (Option Msg)) × (put 3 m fs ≡ Some gs) × FrameHeld0 gs (s.0, (s.1.0, (s.1.1.0, (Some x, (s.1.1.1.1.0, (s.1.1.1.1.1.0, tt))))))
  frame_step3 s x fs m h e r = slot_later FrameSlot0 FrameHeld1 2 s.0 s.1 (s.1.0, (s.1.1.0, (Some x, (s.1.1.1.1.0, (s.1.1.1.1.1.0, tt))))) fs m h e
      (λ g0 h0 e0. slot_later FrameSlot1 FrameHeld2 1 s.1.0 s.1.1 (s.1.1.0, (Some x, (s.1.1.1.1.0, (s.1.1.1.1.1.0, tt)))) g0 m h0 e0
      (λ g1 h1 e1. slot_later FrameSlot2 FrameHeld3 0 s.1.1.0 s.1.1.1 (Some x, (s.1.1.1.1.0, (s.1.1.1.1.1.0, tt))) g1 m h1 e1
      (λ g2 h2 e2. slot_first FrameSlot3 FrameHeld4 s.1.1.1.0 s.1.1.1.1 x g2 m h2 e2 r)))

  pub frame_gap3 : (s : (Option (TheId) × (Option (TheWidth)
      × (Option (List (ℕ)) × (Option (BTreeMap (String Global) (ℕ) Global) × (Option (Option (TheWidth)) × (Option (VecDeque Frame Global) × Unit {0})))))))
      → s.1.1.1.0 ≡ None → (ms : Msgs) → FrameHeld0 (given_all ms) s → ⊥
  frame_gap3 s e ms h = slot_gap_later FrameSlot0 FrameHeld1 s.0 s.1
      (λ m0 h0. slot_gap_later FrameSlot1 FrameHeld2 s.1.0 s.1.1
      (λ m1 h1. slot_gap_later FrameSlot2 FrameHeld3 s.1.1.0 s.1.1.1
      (λ m2 h2. slot_gap FrameSlot3 FrameHeld4 s.1.1.1.1 m2 (subst (λ z. FrameHeld3 (given_all m2) (z, s.1.1.1.1)) e h2)) m1 h1) m0 h0) ms h

  pub frame_lacks3 : (s : (Option (TheId) × (Option (TheWidth)
      × (Option (List (ℕ)) × (Option (BTreeMap (String Global) (ℕ) Global) × (Option (Option (TheWidth)) × (Option (VecDeque Frame Global) × Unit {0})))))))
      → s.1.1.1.0 ≡ None → (fs : List (Option Msg)) (v : Frame) → FrameHeld0 fs s → (FrameFields reads_of) (IsFrame reads_of) fs v → ⊥
  frame_lacks3 s e fs v h q = later_lacks FrameSlot0 FrameHeld1 (λ k. reads_of.0 k (out-Frame v).id) (Absent None (out-Frame v).id)
      ((FrameFrom1 reads_of) (IsFrame reads_of) (out-Frame v)) s.0 s.1 fs h q
      (λ g0 h0 q0. later_lacks FrameSlot1 FrameHeld2 (λ k. reads_of.1 k (out-Frame v).width) (Absent None (out-Frame v).width)
      ((FrameFrom2 reads_of) (IsFrame reads_of) (out-Frame v)) s.1.0 s.1.1 g0 h0 q0
      (λ g1 h1 q1. later_lacks FrameSlot2 FrameHeld3 (λ k. reads_of.2 k (out-Frame v).hash) (Absent None (out-Frame v).hash)
      ((FrameFrom3 reads_of) (IsFrame reads_of) (out-Frame v)) s.1.1.0 s.1.1.1 g1 h1 q1
      (λ g2 h2 q2. slot_lacks FrameSlot3 FrameHeld4 None ((FrameFrom4 reads_of) (IsFrame reads_of) (out-Frame v)) s.1.1.1.1 (out-Frame v).counts g2 refl
      (subst (λ z. FrameHeld3 g2 (z, s.1.1.1.1)) e h2) q2)))

  pub frame_tree4 : (fs : List (Option Msg)) (v : Frame) (m : Msg) → (FrameFields reads_of) (IsFrame reads_of) fs v → at 4 fs ≡ Some m
      → (FrameSlot4 m (out-Frame v).least)
  frame_tree4 fs v m h e = later_tree (λ k. reads_of.0 k (out-Frame v).id) (Absent None (out-Frame v).id)
      ((FrameFrom1 reads_of) (IsFrame reads_of) (out-Frame v)) (FrameSlot4 m (out-Frame v).least) 3 fs m h e
      (λ g0 h0 e0. later_tree (λ k. reads_of.1 k (out-Frame v).width) (Absent None (out-Frame v).width)
      ((FrameFrom2 reads_of) (IsFrame reads_of) (out-Frame v)) (FrameSlot4 m (out-Frame v).least) 2 g0 m h0 e0
      (λ g1 h1 e1. later_tree (λ k. reads_of.2 k (out-Frame v).hash) (Absent None (out-Frame v).hash)
      ((FrameFrom3 reads_of) (IsFrame reads_of) (out-Frame v)) (FrameSlot4 m (out-Frame v).least) 1 g1 m h1 e1
      (λ g2 h2 e2. later_tree (λ k. reads_of.3 k (out-Frame v).counts) (Absent None (out-Frame v).counts)
      ((FrameFrom4 reads_of) (IsFrame reads_of) (out-Frame v)) (FrameSlot4 m (out-Frame v).least) 0 g2 m h2 e2
      (λ g3 h3 e3. first_tree (λ k. reads_of.4 k (out-Frame v).least) (Absent (Some None) (out-Frame v).least)
      ((FrameFrom5 reads_of) (IsFrame reads_of) (out-Frame v)) g3 m h3 e3))))

  pub frame_step4 : (s : (Option (TheId) × (Option (TheWidth)
      × (Option (List (ℕ)) × (Option (BTreeMap (String Global) (ℕ) Global) × (Option (Option (TheWidth)) × (Option (VecDeque Frame Global) × Unit {0})))))))
      (x : Option (TheWidth)) (fs : List (Option Msg)) (m : Msg) → FrameHeld0 fs s → at 4 fs ≡ None → FrameSlot4 m x
      → (gs : List (Option Msg)) × (put 4 m fs ≡ Some gs) × FrameHeld0 gs (s.0, (s.1.0, (s.1.1.0, (s.1.1.1.0, (Some x, (s.1.1.1.1.1.0, tt))))))
  frame_step4 s x fs m h e r = slot_later FrameSlot0 FrameHeld1 3 s.0 s.1 (s.1.0, (s.1.1.0, (s.1.1.1.0, (Some x, (s.1.1.1.1.1.0, tt))))) fs m h e
      (λ g0 h0 e0. slot_later FrameSlot1 FrameHeld2 2 s.1.0 s.1.1 (s.1.1.0, (s.1.1.1.0, (Some x, (s.1.1.1.1.1.0, tt)))) g0 m h0 e0
      (λ g1 h1 e1. slot_later FrameSlot2 FrameHeld3 1 s.1.1.0 s.1.1.1 (s.1.1.1.0, (Some x, (s.1.1.1.1.1.0, tt))) g1 m h1 e1
      (λ g2 h2 e2. slot_later FrameSlot3 FrameHeld4 0 s.1.1.1.0 s.1.1.1.1 (Some x, (s.1.1.1.1.1.0, tt)) g2 m h2 e2
      (λ g3 h3 e3. slot_first FrameSlot4 FrameHeld5 s.1.1.1.1.0 s.1.1.1.1.1 x g3 m h3 e3 r))))

  pub frame_gap4 : (s : (Option (TheId) × (Option (TheWidth)
      × (Option (List (ℕ)) × (Option (BTreeMap (String Global) (ℕ) Global) × (Option (Option (TheWidth)) × (Option (VecDeque Frame Global) × Unit {0})))))))
      → s.1.1.1.1.0 ≡ None → (ms : Msgs) → FrameHeld0 (given_all ms) s → ⊥
  frame_gap4 s e ms h = slot_gap_later FrameSlot0 FrameHeld1 s.0 s.1
      (λ m0 h0. slot_gap_later FrameSlot1 FrameHeld2 s.1.0 s.1.1
      (λ m1 h1. slot_gap_later FrameSlot2 FrameHeld3 s.1.1.0 s.1.1.1
      (λ m2 h2. slot_gap_later FrameSlot3 FrameHeld4 s.1.1.1.0 s.1.1.1.1
      (λ m3 h3. slot_gap FrameSlot4 FrameHeld5 s.1.1.1.1.1 m3 (subst (λ z. FrameHeld4 (given_all m3) (z, s.1.1.1.1.1)) e h3)) m2 h2) m1 h1) m0 h0) ms h

  pub frame_tree5 : (fs : List (Option Msg)) (v : Frame) (m : Msg) → (FrameFields reads_of) (IsFrame reads_of) fs v → at 5 fs ≡ Some m
      → (FrameSlot5 m (out-Frame v).frames)
  frame_tree5 fs v m h e = later_tree (λ k. reads_of.0 k (out-Frame v).id) (Absent None (out-Frame v).id)
      ((FrameFrom1 reads_of) (IsFrame reads_of) (out-Frame v)) (FrameSlot5 m (out-Frame v).frames) 4 fs m h e
      (λ g0 h0 e0. later_tree (λ k. reads_of.1 k (out-Frame v).width) (Absent None (out-Frame v).width)
      ((FrameFrom2 reads_of) (IsFrame reads_of) (out-Frame v)) (FrameSlot5 m (out-Frame v).frames) 3 g0 m h0 e0
      (λ g1 h1 e1. later_tree (λ k. reads_of.2 k (out-Frame v).hash) (Absent None (out-Frame v).hash)
      ((FrameFrom3 reads_of) (IsFrame reads_of) (out-Frame v)) (FrameSlot5 m (out-Frame v).frames) 2 g1 m h1 e1
      (λ g2 h2 e2. later_tree (λ k. reads_of.3 k (out-Frame v).counts) (Absent None (out-Frame v).counts)
      ((FrameFrom4 reads_of) (IsFrame reads_of) (out-Frame v)) (FrameSlot5 m (out-Frame v).frames) 1 g2 m h2 e2
      (λ g3 h3 e3. later_tree (λ k. reads_of.4 k (out-Frame v).least) (Absent (Some None) (out-Frame v).least)
      ((FrameFrom5 reads_of) (IsFrame reads_of) (out-Frame v)) (FrameSlot5 m (out-Frame v).frames) 0 g3 m h3 e3
      (λ g4 h4 e4. first_tree (λ k. Row (IsFrame reads_of) k (out-Frame v).frames.items) (Absent None (out-Frame v).frames)
      ((FrameFrom6 reads_of) (IsFrame reads_of) (out-Frame v)) g4 m h4 e4)))))

  pub frame_step5 : (s : (Option (TheId) × (Option (TheWidth)
      × (Option (List (ℕ)) × (Option (BTreeMap (String Global) (ℕ) Global) × (Option (Option (TheWidth)) × (Option (VecDeque Frame Global) × Unit {0})))))))
      (x : VecDeque Frame Global) (fs : List (Option Msg)) (m : Msg) → FrameHeld0 fs s → at 5 fs ≡ None → FrameSlot5 m x
      → (gs : List (Option Msg)) × (put 5 m fs ≡ Some gs) × FrameHeld0 gs (s.0, (s.1.0, (s.1.1.0, (s.1.1.1.0, (s.1.1.1.1.0, (Some x, tt))))))
  frame_step5 s x fs m h e r = slot_later FrameSlot0 FrameHeld1 4 s.0 s.1 (s.1.0, (s.1.1.0, (s.1.1.1.0, (s.1.1.1.1.0, (Some x, tt))))) fs m h e
      (λ g0 h0 e0. slot_later FrameSlot1 FrameHeld2 3 s.1.0 s.1.1 (s.1.1.0, (s.1.1.1.0, (s.1.1.1.1.0, (Some x, tt)))) g0 m h0 e0
      (λ g1 h1 e1. slot_later FrameSlot2 FrameHeld3 2 s.1.1.0 s.1.1.1 (s.1.1.1.0, (s.1.1.1.1.0, (Some x, tt))) g1 m h1 e1
      (λ g2 h2 e2. slot_later FrameSlot3 FrameHeld4 1 s.1.1.1.0 s.1.1.1.1 (s.1.1.1.1.0, (Some x, tt)) g2 m h2 e2
      (λ g3 h3 e3. slot_later FrameSlot4 FrameHeld5 0 s.1.1.1.1.0 s.1.1.1.1.1 (Some x, tt) g3 m h3 e3
      (λ g4 h4 e4. slot_first FrameSlot5 FrameHeld6 s.1.1.1.1.1.0 s.1.1.1.1.1.1 x g4 m h4 e4 r)))))

  pub frame_gap5 : (s : (Option (TheId) × (Option (TheWidth)
      × (Option (List (ℕ)) × (Option (BTreeMap (String Global) (ℕ) Global) × (Option (Option (TheWidth)) × (Option (VecDeque Frame Global) × Unit {0})))))))
      → s.1.1.1.1.1.0 ≡ None → (ms : Msgs) → FrameHeld0 (given_all ms) s → ⊥
  frame_gap5 s e ms h = slot_gap_later FrameSlot0 FrameHeld1 s.0 s.1
      (λ m0 h0. slot_gap_later FrameSlot1 FrameHeld2 s.1.0 s.1.1
      (λ m1 h1. slot_gap_later FrameSlot2 FrameHeld3 s.1.1.0 s.1.1.1
      (λ m2 h2. slot_gap_later FrameSlot3 FrameHeld4 s.1.1.1.0 s.1.1.1.1
      (λ m3 h3. slot_gap_later FrameSlot4 FrameHeld5 s.1.1.1.1.0 s.1.1.1.1.1
      (λ m4 h4. slot_gap FrameSlot5 FrameHeld6 s.1.1.1.1.1.1 m4 (subst (λ z. FrameHeld5 (given_all m4) (z, s.1.1.1.1.1.1)) e h4)) m3 h3) m2 h2) m1 h1) m0
      h0) ms h

  pub frame_lacks5 : (s : (Option (TheId) × (Option (TheWidth)
      × (Option (List (ℕ)) × (Option (BTreeMap (String Global) (ℕ) Global) × (Option (Option (TheWidth)) × (Option (VecDeque Frame Global) × Unit {0})))))))
      → s.1.1.1.1.1.0 ≡ None → (fs : List (Option Msg)) (v : Frame) → FrameHeld0 fs s → (FrameFields reads_of) (IsFrame reads_of) fs v → ⊥
  frame_lacks5 s e fs v h q = later_lacks FrameSlot0 FrameHeld1 (λ k. reads_of.0 k (out-Frame v).id) (Absent None (out-Frame v).id)
      ((FrameFrom1 reads_of) (IsFrame reads_of) (out-Frame v)) s.0 s.1 fs h q
      (λ g0 h0 q0. later_lacks FrameSlot1 FrameHeld2 (λ k. reads_of.1 k (out-Frame v).width) (Absent None (out-Frame v).width)
      ((FrameFrom2 reads_of) (IsFrame reads_of) (out-Frame v)) s.1.0 s.1.1 g0 h0 q0
      (λ g1 h1 q1. later_lacks FrameSlot2 FrameHeld3 (λ k. reads_of.2 k (out-Frame v).hash) (Absent None (out-Frame v).hash)
      ((FrameFrom3 reads_of) (IsFrame reads_of) (out-Frame v)) s.1.1.0 s.1.1.1 g1 h1 q1
      (λ g2 h2 q2. later_lacks FrameSlot3 FrameHeld4 (λ k. reads_of.3 k (out-Frame v).counts) (Absent None (out-Frame v).counts)
      ((FrameFrom4 reads_of) (IsFrame reads_of) (out-Frame v)) s.1.1.1.0 s.1.1.1.1 g2 h2 q2
      (λ g3 h3 q3. later_lacks FrameSlot4 FrameHeld5 (λ k. reads_of.4 k (out-Frame v).least) (Absent (Some None) (out-Frame v).least)
      ((FrameFrom5 reads_of) (IsFrame reads_of) (out-Frame v)) s.1.1.1.1.0 s.1.1.1.1.1 g3 h3 q3
      (λ g4 h4 q4. slot_lacks FrameSlot5 FrameHeld6 None ((FrameFrom6 reads_of) (IsFrame reads_of) (out-Frame v)) s.1.1.1.1.1.1 (out-Frame v).frames g4 refl
      (subst (λ z. FrameHeld5 g4 (z, s.1.1.1.1.1.1)) e h4) q4)))))

  pub frame_whole : (s : (Option (TheId) × (Option (TheWidth)
      × (Option (List (ℕ)) × (Option (BTreeMap (String Global) (ℕ) Global) × (Option (Option (TheWidth)) × (Option (VecDeque Frame Global) × Unit {0})))))))
      (x : Frame-F Frame)
      → ((s.0 ≡ Some x.id) ⊎ ((s.0 ≡ None) × (None ≡ Some x.id)))
      → ((s.1.0 ≡ Some x.width) ⊎ ((s.1.0 ≡ None) × (None ≡ Some x.width)))
      → ((s.1.1.0 ≡ Some x.hash) ⊎ ((s.1.1.0 ≡ None) × (None ≡ Some x.hash)))
      → ((s.1.1.1.0 ≡ Some x.counts) ⊎ ((s.1.1.1.0 ≡ None) × (None ≡ Some x.counts)))
      → ((s.1.1.1.1.0 ≡ Some x.least) ⊎ ((s.1.1.1.1.0 ≡ None) × ((Some None) ≡ Some x.least)))
      → ((s.1.1.1.1.1.0 ≡ Some x.frames) ⊎ ((s.1.1.1.1.1.0 ≡ None) × (None ≡ Some x.frames)))
      → (fs : List (Option Msg)) → FrameHeld0 fs s → (FrameFrom0 reads_of) (IsFrame reads_of) x fs
  frame_whole s x c0 c1 c2 c3 c4 c5 fs h = slot_field FrameSlot0 FrameHeld1 None ((FrameFrom1 reads_of) (IsFrame reads_of) x) s.0 s.1 x.id fs h c0
      (λ g0 h0. slot_field FrameSlot1 FrameHeld2 None ((FrameFrom2 reads_of) (IsFrame reads_of) x) s.1.0 s.1.1 x.width g0 h0 c1
      (λ g1 h1. slot_field FrameSlot2 FrameHeld3 None ((FrameFrom3 reads_of) (IsFrame reads_of) x) s.1.1.0 s.1.1.1 x.hash g1 h1 c2
      (λ g2 h2. slot_field FrameSlot3 FrameHeld4 None ((FrameFrom4 reads_of) (IsFrame reads_of) x) s.1.1.1.0 s.1.1.1.1 x.counts g2 h2 c3
      (λ g3 h3. slot_field FrameSlot4 FrameHeld5 (Some None) ((FrameFrom5 reads_of) (IsFrame reads_of) x) s.1.1.1.1.0 s.1.1.1.1.1 x.least g3 h3 c4
      (λ g4 h4. slot_field FrameSlot5 FrameHeld6 None ((FrameFrom6 reads_of) (IsFrame reads_of) x) s.1.1.1.1.1.0 s.1.1.1.1.1.1 x.frames g4 h4 c5
      (λ g5 h5. h5))))))
