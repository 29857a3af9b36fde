-- A byte of bytes that is read as a number.
use Rattle.std.proofs.Common.{◌≡◌, ◌≢◌, ◌∙◌, sym, ap, subst, true, inl, inr, ℕ, pos, ◌<◌, Bool, List, [], ◌∷◌, ◌++◌, Option, None, Some}
use Rattle.std.proofs.lemmas.List.{append-nil, append_cancel_left}
use Rattle.std.specs.Io.KnownBytes.{Consumes, IsAtEnd, prepend_known}
use Rattle.rmp_wire.specs.declared.head.Head.TheVariants.{Whole}
use Rattle.rmp_wire.specs.declared.source.Source.{Ghosts}
use Rattle.rmp_wire.specs.Heads.{canon_head}
use Rattle.rmp_wire.specs.Msg.{Msg, whole}
use Rattle.rmp_wire.specs.Canonical.{SpellsAs}
use Rattle.rmp_wire.proofs.Strict.{canon_in, spelled_once_as}
use Rattle.rmp_decode.specs.Exact.{IsDataEnd, UnlessFault}
use Rattle.rmp_decode.specs.Law.{Refuses, Reads, Explains}
use Rattle.rmp_decode.specs.Refusing.{Refusals, RefusedByte, RefusedIn}
use Rattle.rmp_decode.specs.Seq.{SpellsByte, KeepsByte}
use Rattle.rmp_decode.specs.State.{left, faults_of, kept_bytes}
use Rattle.rmp_decode.specs.declared.deserializer.Deserializer.{Deserializer}
use Rattle.rmp_decode.specs.declared.deserializer.Kept.TheVariants.{Nothing}
use Rattle.rmp_decode.specs.declared.error.Error.{Error}
use Rattle.rmp_decode.specs.declared.error.Error.TheVariants.{OutOfMemory}
use Rattle.rmp_decode.proofs.Contents.{bare}
use Rattle.rmp_decode.proofs.Exactness.{fault_or}
use Rattle.rmp_decode.proofs.HeadTaken.{fits_byte}

one_number : (w : Bool) (n : ℕ) (bytes more : List ℕ) (tree : Msg) → n < 256 → bytes ≡ canon_head (Whole (pos n)) ++ more → SpellsAs w bytes tree
    → (bytes ≡ canon_head (Whole (pos n))) × (tree ≡ whole (pos n))
one_number w n bytes more tree l e s =
    let u = spelled_once_as w tree (whole (pos n)) bytes (canon_head (Whole (pos n))) [] more s (canon_in w (Whole (pos n)) (fits_byte n l))
    (append-nil bytes ∙ e) in
    (u.0, u.1)

byte_taken : (known k l : Option (List ℕ)) (n : ℕ) (c : List ℕ) → Consumes known k (n ∷ []) → Consumes (prepend_known c k) l c → Consumes known l (n ∷ [])
byte_taken None k l n c p q = tt
byte_taken (Some xs) None l n c p q = absurd p
byte_taken (Some xs) (Some ys) None n c p q = absurd q
byte_taken (Some xs) (Some ys) (Some zs) n c p q = p ∙ ap (λ z. n ∷ z) (append_cancel_left c ys zs q)

-- the number that was taken
pub record NumberTaken {R C V : Type 0} (g : Ghosts R) (reads : Msg → V → Type 0) (old last : Deserializer R C) (v : V) : Type 0 where
  pub byte : ℕ
  pub small : byte < 256
  pub takes : Consumes (left g old) (left g last) (byte ∷ [])
  pub value : reads (whole (pos byte)) v

module _ {R C : Type 0} (g : Ghosts R) (old mid part : Deserializer R C) (clean : old.kept ≡ Nothing) (k : KeepsByte g old mid)
    (reader : part.reader ≡ mid.reader) (kept : part.kept ≡ mid.kept) where
  part_left : left g part ≡ prepend_known (canon_head (Whole (pos k.byte))) (g.ahead mid.reader)
  part_left = ap (λ z. prepend_known (kept_bytes z) (g.ahead part.reader)) (kept ∙ k.kept)
      ∙ ap (λ z. prepend_known (canon_head (Whole (pos k.byte))) (g.ahead z)) reader

  pub number_taken : {V : Type 0} (reads : Msg → V → Type 0) (last : Deserializer R C) (v : V) → Reads g reads part last v → NumberTaken g reads old last v
  number_taken reads last v r =
      let goes : r.bytes ≡ canon_head (Whole (pos k.byte)) ++ r.goes_on.more = r.goes_on.whole ∙ ap (λ z. kept_bytes z ++ r.goes_on.more) (kept ∙ k.kept) in
      let u = one_number part.strict k.byte r.bytes r.goes_on.more r.tree k.small goes r.spelled in
      let taken : Consumes (prepend_known (canon_head (Whole (pos k.byte))) (g.ahead mid.reader)) (left g last) (canon_head (Whole (pos k.byte))) =
      subst (λ z. Consumes z (left g last) (canon_head (Whole (pos k.byte)))) part_left (subst (Consumes (left g part) (left g last)) u.0 r.takes) in
      record {
        byte = k.byte;
        small = k.small;
        takes = rw (bare g old clean) (byte_taken _ (g.ahead mid.reader) _ k.byte (canon_head (Whole (pos k.byte))) k.taken taken);
        value = subst (λ m. reads m v) u.1 r.value;
      }

  byte_refused : (w : Bool) (P : Msg → Type 0) (room : ℕ) (known l : Option (List ℕ)) (n : ℕ) → n < 256 → 0 < room → Consumes known l (n ∷ [])
      → Refuses (SpellsAs w) P room (prepend_known (canon_head (Whole (pos n))) l) → Refuses SpellsByte P room known
  unfolding Refuses
  byte_refused w P room None l n small some t r = tt
  byte_refused w P room (Some xs) None n small some t r = absurd t
  byte_refused w P room (Some xs) (Some ys) n small some t r = λ a.
      let s = a.spelled in
      let alone = s.alone in
      let same : n ∷ ys ≡ s.byte ∷ a.rest = sym t ∙ a.front ∙ ap (λ z. z ++ a.rest) alone in
      let first : s.byte ≡ n = cc in
      let following : ys ≡ a.rest = cc in
      r (record {
        bytes = canon_head (Whole (pos n));
        rest = a.rest;
        tree = whole (pos n);
        front = ap (λ z. canon_head (Whole (pos n)) ++ z) following;
        spelled = canon_in w (Whole (pos n)) (fits_byte n small);
        fits = some;
        holds = subst P (s.number ∙ ap (λ z. whole (pos z)) first) a.holds;
      })

  pub number_refused : (P : Msg → Type 0) (room : ℕ) → 0 < room → Refuses (SpellsAs part.strict) P room (left g part) → Refuses SpellsByte P room (left g old)
  number_refused P room some r = rw (bare g old clean)
      (byte_refused part.strict P room (g.ahead old.reader) (g.ahead mid.reader) k.byte k.small some k.taken
      (subst (Refuses (SpellsAs part.strict) P room) part_left r))

missing : (P : Msg → Type 0) (room : ℕ) (known : Option (List ℕ)) → IsAtEnd known → Refuses SpellsByte P room known
unfolding Refuses
missing P room None e = tt
missing P room (Some xs) e = λ a. let alone = a.spelled.alone
    in let u : ◌≡◌ {A = List ℕ} [] (a.spelled.byte ∷ a.rest) = sym e ∙ a.front ∙ ap (λ z. z ++ a.rest) alone in absurd (cc)

-- the bytes ended
pub number_missing : {R C : Type 0} (g : Ghosts R) (old : Deserializer R C) (P : Msg → Type 0) (room : ℕ) → old.kept ≡ Nothing
    → IsAtEnd (g.ahead old.reader) → Refuses SpellsByte P room (left g old)
number_missing g old P room clean e = rw (bare g old clean) (missing P room (g.ahead old.reader) e)

-- ---- which error it is

module _ (P : Refusals) (e : Error) (before after : ℕ) where
  byte_wrong : (known l : Option (List ℕ)) (n : ℕ) → Consumes known l (n ∷ []) → P before after (prepend_known (canon_head (Whole (pos n))) l) e
      → RefusedByte P before after known e
  byte_wrong None l n t p = inr (_, p)
  byte_wrong (Some xs) None n t p = absurd t
  byte_wrong (Some []) (Some ys) n t p = absurd (cc)
  byte_wrong (Some (b ∷ xs)) (Some ys) n t p =
      let first : n ≡ b = cc in
      let following : ys ≡ xs = cc in
      rw (first, following) at p

  byte_missing : (known : Option (List ℕ)) → IsDataEnd e → IsAtEnd known → RefusedByte P before after known e
  byte_missing None d n = inl d
  byte_missing (Some []) d n = d
  byte_missing (Some (b ∷ xs)) d n = absurd (cc)

data_end_no_memory : (e : Error) → IsDataEnd e → e ≢ OutOfMemory
data_end_no_memory e d q = subst IsDataEnd q d

module _ {R C : Type 0} (g : Ghosts R) (P : Refusals) (e : Error) (old : Deserializer R C) (clean : old.kept ≡ Nothing) where
  -- the bytes ended, or the source had a fault
  pub number_ended : (after : ℕ) → UnlessFault (faults_of g old) after e (IsDataEnd e) → Explains e (faults_of g old) after (IsAtEnd (g.ahead old.reader))
      → RefusedIn true P (faults_of g old) after (left g old) e
  number_ended after u n = rw (bare g old clean) (fault_or (faults_of g old) after e
      (λ k. let d = u.0 k in byte_missing P e (faults_of g old) after (g.ahead old.reader) d (n (data_end_no_memory e d) k), u.1))

  -- a byte was taken, and as a number it was refused
  pub number_wrong : (mid part : Deserializer R C) (k : KeepsByte g old mid) → part.reader ≡ mid.reader → part.kept ≡ mid.kept
      → faults_of g part ≡ faults_of g old → (after : ℕ) → P (faults_of g part) after (left g part) e
      → RefusedIn true P (faults_of g old) after (left g old) e
  number_wrong mid part k r q s after p =
      let p' = subst (λ z. P z after (prepend_known (canon_head (Whole (pos k.byte))) (g.ahead mid.reader)) e) s
      (subst (λ z. P (faults_of g part) after z e) (part_left g old mid part clean k r q) p) in
      rw (bare g old clean) (inr (byte_wrong P e (faults_of g old) after (g.ahead old.reader) (g.ahead mid.reader) k.byte k.taken p'))
