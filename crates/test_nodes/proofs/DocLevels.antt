-- No Doc is written as a byte, and what is read of the fields of its variants. Written by tools/derive.py.
use Rattle.std.proofs.Common.{◌≡◌, ◌∙◌, refl, ap, subst, List, Option, None, Some, Box, ◌⊎◌}
use Rattle.std.specs.declared.alloc.Global.{Global}
use Rattle.rmp_wire.specs.Msg.{Msg, Msgs}
use Rattle.rmp_decode.specs.Fields.{Absent, NoField, Slot, at, put, given_all}
use Rattle.rmp_encode.specs.Data.{Data}
use Rattle.rmp_encode.specs.Trees.{byte_of}
use Rattle.test_nodes.specs.declared.parts.Doc.{Doc}
use Rattle.test_nodes.specs.declared.parts.Doc.TheOpen.{Doc-F}
use Rattle.test_nodes.specs.DocLevels.{IsDoc, DocFramedFrom0, DocFramedFrom1, DocFramedFrom2, DocFramedFields, doc_level, doc_data, doc_is}
use Rattle.test_nodes.specs.declared.parts.Id.{Id as TheId}
use Rattle.test_nodes.specs.declared.parts.Width.{Width as TheWidth}
use Rattle.rmp_decode.proofs.StructRuns.{slot_first, slot_later, slot_field, slot_gap, slot_gap_later, slot_lacks}
use Rattle.rmp_recursive.proofs.Fields.{first_tree, later_tree, later_lacks}
use Rattle.rmp_encode.proofs.Variants.{newtype_no_byte, struct_variant_no_byte}

module _ (data_of : (TheWidth → Option Data) × (TheId → Option Data)) where
  level_no_byte : (x : Doc-F (Option Data)) → byte_of ((doc_level data_of) x) ≡ None
  level_no_byte Doc-F.Null = refl
  level_no_byte (Doc-F.Wide a) = newtype_no_byte _ _
  level_no_byte (Doc-F.Framed a0 a1) = struct_variant_no_byte _ _
  level_no_byte (Doc-F.Array a) = newtype_no_byte _ _
  level_no_byte (Doc-F.Object a) = newtype_no_byte _ _

  pub doc_no_byte : (v : Doc) → byte_of ((doc_data data_of) v) ≡ None
  doc_no_byte v = ap byte_of ((doc_is data_of) v) ∙ level_no_byte _

module _ (reads_of : (Msg → TheWidth → Type 0) × (Msg → TheId → Type 0)) where
  -- ---- what was read so far of the fields of Framed

  abbrev pub DocFramedHeld2 : List (Option Msg) → Unit {0} → Type 0
  DocFramedHeld2 fs s = NoField fs

  abbrev pub DocFramedSlot1 : Msg → Box Doc Global → Type 0
  DocFramedSlot1 m a = (IsDoc reads_of) m a.value

  abbrev pub DocFramedHeld1 : List (Option Msg) → (Option (Box Doc Global) × Unit {0}) → Type 0
  DocFramedHeld1 fs s = Slot DocFramedSlot1 DocFramedHeld2 fs s.0 s.1

  abbrev pub DocFramedSlot0 : Msg → TheId → Type 0
  DocFramedSlot0 m a = reads_of.1 m a

  abbrev pub DocFramedHeld0 : List (Option Msg) → (Option (TheId) × (Option (Box Doc Global) × Unit {0})) → Type 0
  DocFramedHeld0 fs s = Slot DocFramedSlot0 DocFramedHeld1 fs s.0 s.1

  pub doc_framed_tree0 : (fs : List (Option Msg)) (v : TheId × Box Doc Global) (m : Msg) → (DocFramedFields reads_of) (IsDoc reads_of) fs v
      → at 0 fs ≡ Some m → (DocFramedSlot0 m v.0)
  doc_framed_tree0 fs v m h e = first_tree (λ k. reads_of.1 k v.0) (Absent None v.0) ((DocFramedFrom1 reads_of) (IsDoc reads_of) v) fs m h e

  pub doc_framed_step0 : (s : (Option (TheId) × (Option (Box Doc Global) × Unit {0}))) (x : TheId) (fs : List (Option Msg)) (m : Msg) → DocFramedHeld0 fs s
      → at 0 fs ≡ None → DocFramedSlot0 m x
      → (gs : List (Option Msg)) × (put 0 m fs ≡ Some gs) × DocFramedHeld0 gs (Some x, (s.1.0, tt))
  doc_framed_step0 s x fs m h e r = slot_first DocFramedSlot0 DocFramedHeld1 s.0 s.1 x fs m h e r

  pub doc_framed_gap0 : (s : (Option (TheId) × (Option (Box Doc Global) × Unit {0}))) → s.0 ≡ None → (ms : Msgs) → DocFramedHeld0 (given_all ms) s → ⊥
  doc_framed_gap0 s e ms h = slot_gap DocFramedSlot0 DocFramedHeld1 s.1 ms (subst (λ z. DocFramedHeld0 (given_all ms) (z, s.1)) e h)

  pub doc_framed_lacks0 : (s : (Option (TheId) × (Option (Box Doc Global) × Unit {0}))) → s.0 ≡ None → (fs : List (Option Msg)) (v : TheId × Box Doc Global)
      → DocFramedHeld0 fs s → (DocFramedFields reads_of) (IsDoc reads_of) fs v → ⊥
  doc_framed_lacks0 s e fs v h q = slot_lacks DocFramedSlot0 DocFramedHeld1 None ((DocFramedFrom1 reads_of) (IsDoc reads_of) v) s.1 v.0 fs refl
      (subst (λ z. DocFramedHeld0 fs (z, s.1)) e h) q

  pub doc_framed_tree1 : (fs : List (Option Msg)) (v : TheId × Box Doc Global) (m : Msg) → (DocFramedFields reads_of) (IsDoc reads_of) fs v
      → at 1 fs ≡ Some m → (DocFramedSlot1 m v.1)
  doc_framed_tree1 fs v m h e = later_tree (λ k. reads_of.1 k v.0) (Absent None v.0) ((DocFramedFrom1 reads_of) (IsDoc reads_of) v) (DocFramedSlot1 m v.1) 0
      fs m h e (λ g0 h0 e0. first_tree (λ k. (IsDoc reads_of) k v.1.value) (Absent None v.1) ((DocFramedFrom2 reads_of) (IsDoc reads_of) v) g0 m h0 e0)

  pub doc_framed_step1 : (s : (Option (TheId) × (Option (Box Doc Global) × Unit {0}))) (x : Box Doc Global) (fs : List (Option Msg)) (m : Msg)
      → DocFramedHeld0 fs s → at 1 fs ≡ None → DocFramedSlot1 m x
      → (gs : List (Option Msg)) × (put 1 m fs ≡ Some gs) × DocFramedHeld0 gs (s.0, (Some x, tt))
  doc_framed_step1 s x fs m h e r = slot_later DocFramedSlot0 DocFramedHeld1 0 s.0 s.1 (Some x, tt) fs m h e
      (λ g0 h0 e0. slot_first DocFramedSlot1 DocFramedHeld2 s.1.0 s.1.1 x g0 m h0 e0 r)

  pub doc_framed_gap1 : (s : (Option (TheId) × (Option (Box Doc Global) × Unit {0}))) → s.1.0 ≡ None → (ms : Msgs) → DocFramedHeld0 (given_all ms) s → ⊥
  doc_framed_gap1 s e ms h = slot_gap_later DocFramedSlot0 DocFramedHeld1 s.0 s.1
      (λ m0 h0. slot_gap DocFramedSlot1 DocFramedHeld2 s.1.1 m0 (subst (λ z. DocFramedHeld1 (given_all m0) (z, s.1.1)) e h0)) ms h

  pub doc_framed_lacks1 : (s : (Option (TheId) × (Option (Box Doc Global) × Unit {0}))) → s.1.0 ≡ None
      → (fs : List (Option Msg)) (v : TheId × Box Doc Global) → DocFramedHeld0 fs s → (DocFramedFields reads_of) (IsDoc reads_of) fs v → ⊥
  doc_framed_lacks1 s e fs v h q = later_lacks DocFramedSlot0 DocFramedHeld1 (λ k. reads_of.1 k v.0) (Absent None v.0)
      ((DocFramedFrom1 reads_of) (IsDoc reads_of) v) s.0 s.1 fs h q
      (λ g0 h0 q0. slot_lacks DocFramedSlot1 DocFramedHeld2 None ((DocFramedFrom2 reads_of) (IsDoc reads_of) v) s.1.1 v.1 g0 refl
      (subst (λ z. DocFramedHeld1 g0 (z, s.1.1)) e h0) q0)

  pub doc_framed_whole : (s : (Option (TheId) × (Option (Box Doc Global) × Unit {0}))) (x : TheId × Box Doc Global)
      → ((s.0 ≡ Some x.0) ⊎ ((s.0 ≡ None) × (None ≡ Some x.0)))
      → ((s.1.0 ≡ Some x.1) ⊎ ((s.1.0 ≡ None) × (None ≡ Some x.1)))
      → (fs : List (Option Msg)) → DocFramedHeld0 fs s → (DocFramedFrom0 reads_of) (IsDoc reads_of) x fs
  doc_framed_whole s x c0 c1 fs h = slot_field DocFramedSlot0 DocFramedHeld1 None ((DocFramedFrom1 reads_of) (IsDoc reads_of) x) s.0 s.1 x.0 fs h c0
      (λ g0 h0. slot_field DocFramedSlot1 DocFramedHeld2 None ((DocFramedFrom2 reads_of) (IsDoc reads_of) x) s.1.0 s.1.1 x.1 g0 h0 c1 (λ g1 h1. h1))
