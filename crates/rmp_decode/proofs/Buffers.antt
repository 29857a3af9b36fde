-- Bytes from a text, from bytes, or from a list of numbers.
use Rattle.std.proofs.Common.{◌≡◌, ◌∙◌, sym, ap, refl, ℕ, pos, arith, List, [], ◌∷◌, Option, None, Some, Bool, true, false, Result, Ok, Err, Vec, Global}
use Rattle.std.specs.Io.KnownBytes.{Consumes}
use Rattle.rmp_wire.specs.declared.head.Head.{Head}
use Rattle.rmp_wire.specs.declared.head.Head.TheVariants.{Array}
use Rattle.rmp_wire.specs.declared.marker.Marker.{Marker}
use Rattle.rmp_wire.specs.declared.source.Source.{Ghosts}
use Rattle.rmp_wire.specs.Canonical.{heads_of, SpellsAs}
use Rattle.rmp_wire.specs.Msg.{Msg, nil, truth, whole, float32, float64, text, bin, list, map, extension, Msgs}
use Rattle.rmp_wire.specs.Spelling.{head_of}
use Rattle.rmp_decode.specs.Buffers.{a_buffer, IsBuffer, ListAfterHead, ReadsBuffer, ReadsByteList}
use Rattle.rmp_decode.specs.Content.{IsBufferHead, not_raw, not_buffer}
use Rattle.rmp_decode.specs.Kinds.{raw_head, raw_msg}
use Rattle.rmp_decode.specs.Law.{Refuses, Readable, Lawful, ReadsHead}
use Rattle.rmp_decode.specs.Payloads.{ReadsMessage}
use Rattle.rmp_decode.specs.Read.{IsUnsigned}
use Rattle.rmp_decode.specs.Rows.{ReadsEach}
use Rattle.rmp_decode.specs.Seq.{numbers, OfRow, Opens, Run}
use Rattle.rmp_decode.specs.State.{left}
use Rattle.rmp_decode.specs.declared.deserializer.Deserializer.{Deserializer}
use Rattle.rmp_decode.specs.declared.access.seq.SeqAccess.{SeqAccess}
use Rattle.rmp_decode.specs.declared.error.Error.{Error}
use Rattle.rmp_decode.specs.declared.error.Error.TheVariants.{Syntax}
use Rattle.rmp_decode.specs.declared.text.Text.TheVariants.{InvalidType}
use Rattle.rmp_decode.proofs.BufferErrors.{list_none, list_other, list_after, raw_no_list, buffer_none, buffer_other, buffer_after}
use Rattle.rmp_decode.proofs.ContentErrors.{content_differ, no_buffer_head, no_raw_head}
use Rattle.rmp_decode.proofs.Faults.{tells_after}
use Rattle.rmp_decode.proofs.FieldRows.{if_err}
use Rattle.rmp_decode.proofs.Laws.{lawful_ok}
use Rattle.rmp_decode.proofs.Payloads.{message_none, message_other, syntax_memory}
use Rattle.rmp_decode.proofs.Seqs.{seq_done}
use Rattle.rmp_decode.proofs.NothingAccepted.{same_head}

-- a type that reads no more under this head than another refuses what that one does
refuses_at : (w : Bool) (P Q : Msg → Type 0) (room : ℕ) (known k : Option (List ℕ)) (b : List ℕ) (h : Head) → Consumes known k b → heads_of w h b
    → ((m : Msg) → Q m → head_of m ≡ h → P m) → Refuses (SpellsAs w) P room known → Refuses (SpellsAs w) Q room known
unfolding Refuses
refuses_at w P Q room None k b h t i f r = tt
refuses_at w P Q room (Some xs) None b h t i f r = absurd t
refuses_at w P Q room (Some xs) (Some ys) b h t i f r = λ a.
    let u = same_head _ a.tree h a.bytes b a.rest ys a.spelled i (sym a.front ∙ t) in
    r (record { bytes = a.bytes; rest = a.rest; tree = a.tree; front = a.front; spelled = a.spelled; fits = a.fits; holds = f a.tree a.holds u.0 })

pub lawful_err_at : {R C V W : Type 0} (g : Ghosts R) (reads : Msg → V → Type 0) (reads' : Msg → W
    → Type 0) (old mid new : Deserializer R C) (p : Marker × Head) (e : Error) → ReadsHead g old mid (Ok p)
    → ((m : Msg) → Readable reads' m → head_of m ≡ p.1 → Readable reads m)
    → Lawful g reads old new (Err e) → Lawful g reads' old new (Err e)
lawful_err_at g reads reads' old mid new p e h f l = record {
  ok = tt;
  ready = tt;
  clean = tt;
  sound = tt;
  err = λ o n k. refuses_at old.strict (Readable reads) (Readable reads') _ _ (left g mid) h.ok.bytes p.1 h.ok.takes h.ok.is_head f (l.err o n k);
  failed = l.failed;
  before = l.before;
  stays = l.stays;
}

-- the numbers of bytes are those bytes
number_row : (s b : List ℕ) → ReadsEach (IsUnsigned 255) (numbers s) b → b ≡ s
number_row [] [] r = refl
number_row [] (n ∷ b) r = absurd r
number_row (m ∷ s) [] r = absurd r
number_row (m ∷ s) (n ∷ b) r =
    let rest = number_row s b r.1 in
    let one : whole (pos m) ≡ whole (pos n) = r.0.0 in
    let same : m ≡ n = cc in
    cc

pub buffer_of_row : (m : Msg) (b : List ℕ) → OfRow (λ ms. ReadsEach (IsUnsigned 255) ms b) m → IsBuffer m b
buffer_of_row nil b r = r
buffer_of_row (truth t) b r = r
buffer_of_row (whole z) b r = r
buffer_of_row (float32 n) b r = r
buffer_of_row (float64 n) b r = r
buffer_of_row (text s) b r = absurd r
buffer_of_row (bin s) b r = number_row s b r
buffer_of_row (list ms) b r = r
buffer_of_row (map ps) b r = r
buffer_of_row (extension tag s) b r = r

pub row_of_buffer : (m : Msg) (b : List ℕ) (n : ℕ) → IsBuffer m b → head_of m ≡ Array n → OfRow (λ ms. ReadsEach (IsUnsigned 255) ms b) m
row_of_buffer nil b n r e = r
row_of_buffer (truth t) b n r e = r
row_of_buffer (whole z) b n r e = r
row_of_buffer (float32 k) b n r e = r
row_of_buffer (float64 k) b n r e = r
row_of_buffer (text s) b n r e = absurd (cc)
row_of_buffer (bin s) b n r e = absurd (cc)
row_of_buffer (list ms) b n r e = r
row_of_buffer (map ps) b n r e = r
row_of_buffer (extension tag s) b n r e = r

-- a buffer is a text or bytes, or a list
pub buffer_only : (m : Msg) (b : List ℕ) → IsBuffer m b → IsBufferHead (head_of m)
buffer_only nil b r = r
buffer_only (truth t) b r = r
buffer_only (whole z) b r = r
buffer_only (float32 k) b r = r
buffer_only (float64 k) b r = r
buffer_only (text s) b r = tt
buffer_only (bin s) b r = tt
buffer_only (list ms) b r = tt
buffer_only (map ps) b r = r
buffer_only (extension tag s) b r = r

-- the access to a list whose head was taken
pub opened_after : {R C : Type 0} (g : Ghosts R) (old mid : Deserializer R C) (m : Marker) (len : ℕ) (s : SeqAccess R C)
    → ReadsHead g old mid (Ok (m, Array len)) → ListAfterHead len mid s → Opens g old s
opened_after g old mid m len s h b =
    let room : mid.room ≡ old.room = h.stays.room in
    record {
      fresh = h.fresh;
      head = rw (b.lender, b.list, b.left) h.ok;
      count = b.count ∙ sym b.left;
      room = rw b.list (omega (arith, room, b.inner, b.deep));
      stays = rw b.lender h.stays;
      faults_same = rw b.lender h.sound;
      opened = record {
        sound = b.sound;
        marked = ap (λ (d : Deserializer _ _). d.failed) b.lender
            ∙ h.failed;
        clean = ap (λ (d : Deserializer _ _). d.kept) b.lender ∙ h.clean;
      };
    }

-- a list of numbers that was read
pub buffer_done : {R C : Type 0} (g : Ghosts R) (old : Deserializer R C) (start mid : SeqAccess R C) (ms : Msgs) (o : Opens g old start)
    (r : Run g start mid ms) (last : Deserializer R C) (v : Vec ℕ Global) → ReadsEach (IsUnsigned 255) ms v.items → mid.left ≡ 0
    → last ≡ record mid.de.now { failed = false }
    → Lawful g (λ m (v : Vec ℕ Global). IsBuffer m v.items) old last (Ok v)
buffer_done g old start mid ms o r last v q z e =
    lawful_ok g (λ m (v : Vec ℕ Global). OfRow (λ ms. ReadsEach (IsUnsigned 255) ms v.items) m) _ old last v v (λ m q. buffer_of_row m v.items q)
    (seq_done g (λ (v : Vec ℕ Global) ms. ReadsEach (IsUnsigned 255) ms v.items) old start mid ms o r last v q z e)

-- a text, or bytes
pub raw_buffer : (t : Bool) (b : List ℕ) → IsBuffer (raw_msg t b) b
raw_buffer true b = refl
raw_buffer false b = refl

-- ---- what happened at a read of bytes of its own, each once

module _ {R C : Type 0} (g : Ghosts R) (old mid new : Deserializer R C) where
  -- a text or bytes were there
  pub buffer_raw : (t : Bool) (n : ℕ) (m : Marker) (result : Result (Vec ℕ Global) Error) → ReadsHead g old mid (Ok (m, raw_head t n))
      → ReadsMessage g a_buffer old new result → ReadsBuffer g old new result
  buffer_raw t n m result h r = record {
    law = r.law;
    exact = r.exact;
    list = λ o. if_err result (λ e _. list_other g old e _ m (raw_head t n) h.marked (raw_no_list t n)) (r.exact o);
    taken = λ o. if_err result (λ e l. buffer_other g old new e m (raw_head t n) h.marked (raw_no_list t n) l) (r.taken o);
  }

  -- a list was there
  pub buffer_listed : (n : ℕ) (m : Marker) (result : Result (Vec ℕ Global) Error) → ReadsHead g old mid (Ok (m, Array n)) → ReadsByteList g n mid new result
      → ReadsBuffer g old new result
  buffer_listed n m result h r = record {
    law = r.law old m h;
    exact = λ _. if_err result (λ e f. content_differ _ IsBufferHead not_raw not_buffer _ _ _ m (Array n) (Array n) e h.marked refl refl tt (λ s. tt)
        (tells_after _ _ _ e h.sound f)) r.fault;
    list = λ _. list_after g old mid new m (Array n) n result h refl r.deep r.items;
    taken = λ _. buffer_after g old mid new m (Array n) n result h refl r.taken;
  }

module _ {R C : Type 0} (g : Ghosts R) (old mid : Deserializer R C) where
  -- no head was there, or a read had failed before
  pub buffer_unopened : (e : Error) → ReadsHead g old mid (Err e) → ReadsBuffer g old mid (Err e)
  buffer_unopened e h = let r = message_none g a_buffer old mid e h in record {
    law = r.law;
    exact = r.exact;
    list = λ o. list_none g old e _ (h.ends o);
    taken = λ o. buffer_none g old mid e (h.ends o) (r.taken o);
  }

  -- another kind was there
  pub buffer_of_other : (p : Marker × Head) → ReadsHead g old mid (Ok p) → ((q : Bool × ℕ) → p.1 ≡ raw_head q.0 q.1 → ⊥) → ((n : ℕ) → p.1 ≡ Array n → ⊥)
      → ReadsBuffer g old mid (Err (Syntax InvalidType))
  buffer_of_other p h f none =
      let r = message_other g a_buffer old mid p (Syntax InvalidType) h (no_buffer_head p.1 f none) (no_raw_head p.1 f) (λ m v q. buffer_only m v.items q) refl
      (syntax_memory InvalidType) in
      record {
        law = r.law;
        exact = r.exact;
        list = λ o. list_other g old (Syntax InvalidType) _ p.0 p.1 h.marked none;
        taken = λ o. buffer_other g old mid (Syntax InvalidType) p.0 p.1 h.marked none (r.taken o);
      }
