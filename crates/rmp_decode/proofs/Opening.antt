-- When a list, bytes or a map can't be opened.
use Rattle.std.proofs.Common.{◌≡◌, ◌≢◌, ◌∙◌, sym, refl, ℕ, ◌<◌, ◌≤◌, arith, inl, inr, length, Bool, true, false, Ok, Err}
use Rattle.rmp_wire.specs.declared.head.Head.{Head}
use Rattle.rmp_wire.specs.declared.head.Head.TheVariants as head
use Rattle.rmp_wire.specs.declared.head.Head.TheVariants.{Array, Map}
use Rattle.rmp_wire.specs.declared.marker.Marker.{Marker}
use Rattle.rmp_wire.specs.declared.source.Source.{Ghosts}
use Rattle.rmp_wire.specs.Kinds.{parts_head}
use Rattle.rmp_wire.specs.Msg.{Msg, nil, truth, whole, float32, float64, text, bin, list, map, extension, count, count_pairs, depth}
use Rattle.rmp_wire.specs.Canonical.{SpellsAs}
use Rattle.rmp_wire.specs.Spelling.{head_of}
use Rattle.rmp_decode.specs.Law.{Lawful, Readable, ReadsHead, Refuses}
use Rattle.rmp_decode.specs.Maps.{IsMap, not_map, TakesMapHead}
use Rattle.rmp_decode.specs.Opening.{FailsAtHead, FailsToOpenAs, IsLevel, TakesOpening}
use Rattle.rmp_decode.specs.Seq.{IsSeq, seq_head, not_seq, TakesSeqHead}
use Rattle.rmp_decode.specs.State.{left, room_of}
use Rattle.rmp_decode.specs.declared.deserializer.Deserializer.{Deserializer}
use Rattle.rmp_decode.specs.declared.deserializer.heads.Levels.{Levels}
use Rattle.rmp_decode.specs.declared.deserializer.heads.Levels.TheVariants.{Lists, Maps, Pairs, Parts}
use Rattle.rmp_decode.specs.declared.error.Error.{Error}
use Rattle.rmp_decode.specs.declared.error.Error.TheVariants.{OutOfMemory, DepthLimitExceeded, Syntax}
use Rattle.rmp_decode.specs.declared.text.Text.TheVariants.{InvalidType}
use Rattle.rmp_decode.proofs.Exactness.{by_head, by_none}
use Rattle.rmp_decode.proofs.Laws.{refused}
use Rattle.rmp_decode.proofs.NothingAccepted.{refuses_none, refuses_head, refuses_by, same_head}

-- ---- what nests

-- a list nests
nests : (m : Msg) (n : ℕ) → head_of m ≡ Array n → 0 < depth m
nests nil n e = absurd (cc)
nests (truth t) n e = absurd (cc)
nests (whole z) n e = absurd (cc)
nests (float32 k) n e = absurd (cc)
nests (float64 k) n e = absurd (cc)
nests (text s) n e = absurd (cc)
nests (bin s) n e = absurd (cc)
nests (list ms) n e = omega arith
nests (map ps) n e = absurd (cc)
nests (extension tag s) n e = absurd (cc)

-- a map nests
map_nests : (m : Msg) (n : ℕ) → head_of m ≡ Map n → 0 < depth m
map_nests nil n e = absurd (cc)
map_nests (truth t) n e = absurd (cc)
map_nests (whole z) n e = absurd (cc)
map_nests (float32 k) n e = absurd (cc)
map_nests (float64 k) n e = absurd (cc)
map_nests (text s) n e = absurd (cc)
map_nests (bin s) n e = absurd (cc)
map_nests (list ms) n e = absurd (cc)
map_nests (map ps) n e = omega arith
map_nests (extension tag s) n e = absurd (cc)

-- a list or a map nests
parts_nest : (is_map : Bool) (m : Msg) (n : ℕ) → head_of m ≡ parts_head is_map n → 0 < depth m
parts_nest true = map_nests
parts_nest false = nests

level_nests : (levels : Levels) (h : Head) → IsLevel levels h → (m : Msg) → head_of m ≡ h → 0 < depth m
level_nests Lists h l m q = nests m l.0 (q ∙ l.1)
level_nests Maps h l m q = map_nests m l.0 (q ∙ l.1)
level_nests Pairs h l m q = map_nests m 1 (q ∙ l)
level_nests Parts h l m q = parts_nest l.0.0 m l.0.1 (q ∙ l.1)

module _ {R C : Type 0} (g : Ghosts R) (levels : Levels) (old new : Deserializer R C) (next : Marker × Head) (h : ReadsHead g old new (Ok next))
    (v : IsLevel levels next.1) (l : room_of old ≤ 1) where
  -- where no level is left, none fits
  pub deep_refuses : (Wants : Msg → Type 0) → Refuses (SpellsAs old.strict) Wants (room_of old) (left g old)
  deep_refuses Wants = refuses_by _ Wants (room_of old) (left g old) (left g new) h.ok.bytes h.ok.takes (λ ys q a.
      let u = same_head _ a.tree next.1 a.bytes h.ok.bytes a.rest ys a.spelled h.ok.is_head (sym a.front) in
      let d = level_nests levels next.1 v a.tree u.0 in
      let f = a.fits in
      omega (arith, l))

  pub deep_refused : {V : Type 0} (reads : Msg → V → Type 0) (e : Error) → Lawful g reads old new (Err e)
  deep_refused reads e = refused g reads old new e h.fresh h.failed h.stays (λ _ _. deep_refuses (Readable reads))

-- ---- openings

module _ {R C A : Type 0} (g : Ghosts R) (head : A → Head) (Nests : A → Type 0) (Wants : Msg → Type 0) (table : ℕ → Marker → Head → Error → Type 0)
    (old new : Deserializer R C) (e : Error) where
  fails : FailsToOpenAs g Wants table old new e → TakesOpening g head Nests Wants table old new (Err e)
  fails f = record { ok = tt; deep = tt; stays = f.stays; sound = tt; fresh = tt; clean = tt; failed = f.failed; err = f }

  -- no head was there
  opening_ends : ReadsHead g old new (Err e) → TakesOpening g head Nests Wants table old new (Err e)
  opening_ends h = fails (record {
    failed = h.failed;
    stays = h.stays;
    before = h.before;
    err = λ o n k. refuses_none _ _ _ _ (h.err o n k);
    memory = h.memory;
    exact = λ o. by_none _ (table (room_of old)) _ _ _ e (h.ends o);
  })

  module _ (p : Marker × Head) (h : ReadsHead g old new (Ok p)) (m : e ≢ OutOfMemory) (t : table (room_of old) p.0 p.1 e) where
    -- another kind was there
    pub opening_other : ((m : Msg) → Wants m → head_of m ≡ p.1 → ⊥) → TakesOpening g head Nests Wants table old new (Err e)
    opening_other n = fails (record {
      failed = h.failed;
      stays = h.stays;
      before = λ f. absurd (let o = h.fresh in cc);
      err = λ _ _ _. refuses_head _ Wants (room_of old) (left g old) (left g new) h.ok.bytes p.1 h.ok.takes h.ok.is_head n;
      memory = m;
      exact = λ _. by_head _ (table (room_of old)) _ _ _ p.0 p.1 e h.sound h.marked t;
    })

  -- no head was there, or it would nest too deep
  pub opening_fails : (levels : Levels) → FailsAtHead g levels old new e → ((m : Marker) (h : Head) → IsLevel levels h → table 1 m h DepthLimitExceeded)
      → TakesOpening g head Nests Wants table old new (Err e)
  opening_fails levels f t = elim f [
    | inl h ↦ opening_ends h
    | inr d ↦ fails (record {
      failed = d.begun.failed;
      stays = d.begun.stays;
      before = λ b. absurd (let o = d.begun.fresh in cc);
      err = λ _ _ _. deep_refuses g levels old new d.next d.begun d.level (omega (arith, d.deep)) Wants;
      memory = λ q. absurd (let l = d.limit in cc);
      exact = λ _. by_head _ (table (room_of old)) _ _ _ d.next.0 d.next.1 e d.begun.sound d.begun.marked
          (rw (d.deep, d.limit) (t d.next.0 d.next.1 d.level));
    })
  ]

-- ---- a list, or bytes

seq_head_of : (m : Msg) → IsSeq m → (p : Bool × ℕ) × (head_of m ≡ seq_head p.0 p.1)
seq_head_of nil i = absurd i
seq_head_of (truth t) i = absurd i
seq_head_of (whole z) i = absurd i
seq_head_of (float32 n) i = absurd i
seq_head_of (float64 n) i = absurd i
seq_head_of (text s) i = absurd i
seq_head_of (bin s) i = ((true, length s), refl)
seq_head_of (list ms) i = ((false, count ms), refl)
seq_head_of (map ps) i = absurd i
seq_head_of (extension tag s) i = absurd i

other_than_seq : (room : ℕ) (m : Marker) (h : Head) (e : Error) → ((p : Bool × ℕ) → h ≡ seq_head p.0 p.1 → ⊥) → e ≡ Syntax InvalidType → not_seq room m h e
other_than_seq room m head.Nil e f i = i
other_than_seq room m (head.Truth t) e f i = i
other_than_seq room m (head.Whole z) e f i = i
other_than_seq room m (head.F32Bits n) e f i = i
other_than_seq room m (head.F64Bits n) e f i = i
other_than_seq room m (head.Text n) e f i = i
other_than_seq room m (head.Bin n) e f i = absurd (f (true, n) refl)
other_than_seq room m (head.Array n) e f i = absurd (f (false, n) refl)
other_than_seq room m (head.Map n) e f i = i
other_than_seq room m (head.Ext n tag) e f i = i

module _ {R C : Type 0} (g : Ghosts R) (old new : Deserializer R C) (e : Error) (p : Marker × Head) (h : ReadsHead g old new (Ok p)) where
  -- another kind was there
  pub no_seq : ((a : Bool × ℕ) → p.1 ≡ seq_head a.0 a.1 → ⊥) → e ≡ Syntax InvalidType → TakesSeqHead g old new (Err e)
  no_seq n is = opening_other g _ _ IsSeq not_seq old new e p h (λ q. absurd (let q' = is in cc)) (other_than_seq (room_of old) p.0 p.1 e n is)
      (λ m i q. let a = seq_head_of m i in n a.0 (sym q ∙ a.1))

-- ---- a map

map_head_of : (m : Msg) → IsMap m → (n : ℕ) × (head_of m ≡ Map n)
map_head_of nil i = absurd i
map_head_of (truth t) i = absurd i
map_head_of (whole z) i = absurd i
map_head_of (float32 n) i = absurd i
map_head_of (float64 n) i = absurd i
map_head_of (text s) i = absurd i
map_head_of (bin s) i = absurd i
map_head_of (list ms) i = absurd i
map_head_of (map ps) i = (count_pairs ps, refl)
map_head_of (extension tag s) i = absurd i

other_than_map : (room : ℕ) (m : Marker) (h : Head) (e : Error) → ((n : ℕ) → h ≡ Map n → ⊥) → e ≡ Syntax InvalidType → not_map room m h e
other_than_map room m head.Nil e f i = i
other_than_map room m (head.Truth t) e f i = i
other_than_map room m (head.Whole z) e f i = i
other_than_map room m (head.F32Bits n) e f i = i
other_than_map room m (head.F64Bits n) e f i = i
other_than_map room m (head.Text n) e f i = i
other_than_map room m (head.Bin n) e f i = i
other_than_map room m (head.Array n) e f i = i
other_than_map room m (head.Map n) e f i = absurd (f n refl)
other_than_map room m (head.Ext n tag) e f i = i

module _ {R C : Type 0} (g : Ghosts R) (old new : Deserializer R C) (e : Error) (p : Marker × Head) (h : ReadsHead g old new (Ok p)) where
  -- another kind was there
  pub no_map : ((n : ℕ) → p.1 ≡ Map n → ⊥) → e ≡ Syntax InvalidType → TakesMapHead g old new (Err e)
  no_map f i = opening_other g _ _ IsMap not_map old new e p h (λ q. absurd (let q' = i in cc)) (other_than_map (room_of old) p.0 p.1 e f i)
      (λ m j q. let a = map_head_of m j in f a.0 (sym q ∙ a.1))
