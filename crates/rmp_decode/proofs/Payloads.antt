-- What happened at a message with a payload, each once: all that the read promises follows from it.
use Rattle.std.proofs.Common.{◌≡◌, ◌≢◌, ◌∙◌, sym, ap, subst, refl, ℕ, ℤ, arith, Bool, true, false, List, ◌++◌, length, Option, None, Some, IfSome, Result, Ok, Err, is_err, append_assoc}
use Rattle.std.proofs.lemmas.List.{length-append}
use Rattle.std.specs.Prelude.{IsUtf8}
use Rattle.std.specs.Io.KnownBytes.{Consumes}
use Rattle.rmp_wire.specs.declared.head.Head.{Head}
use Rattle.rmp_wire.specs.declared.head.Head.TheVariants as head
use Rattle.rmp_wire.specs.declared.marker.Marker.{Marker}
use Rattle.rmp_wire.specs.declared.slice.SourceFault.{SourceFault}
use Rattle.rmp_wire.specs.declared.slice.SourceFault.TheVariants.{Io, Memory}
use Rattle.rmp_wire.specs.declared.source.Source.{Ghosts}
use Rattle.rmp_wire.specs.declared.types.Ext.{Ext}
use Rattle.rmp_wire.specs.Canonical.{SpellsAs}
use Rattle.rmp_wire.specs.Msg.{Msg, nil, truth, whole, float32, float64, text, bin, list, map, extension}
use Rattle.rmp_wire.specs.Slices.{Blames}
use Rattle.rmp_wire.specs.Sources.{IsShort}
use Rattle.rmp_wire.specs.Spelling.{head_of}
use Rattle.rmp_wire.proofs.Strict.{heads_differ_as}
use Rattle.rmp_decode.specs.Content.{IsRawHead, IsTextHead, IsExtHead, ByUtf8}
use Rattle.rmp_decode.specs.Exact.{IsUtf8Error}
use Rattle.rmp_decode.specs.Kinds.{content_len, raw_head, raw_msg}
use Rattle.rmp_decode.specs.Law.{Readable, ReadsHead}
use Rattle.rmp_decode.specs.Leaves.{IsAlone, HoldsAs}
use Rattle.rmp_decode.specs.Payloads.{Kind, HasPayload, message, NoPayload, ReadsPayload, TakesPayload, ReadsMessage, ReadsRest}
use Rattle.rmp_decode.specs.Pieces.{Blamed, PullsPayload}
use Rattle.rmp_decode.specs.Read.{IsChar, IsExt}
use Rattle.rmp_decode.specs.State.{left}
use Rattle.rmp_decode.specs.declared.deserializer.Deserializer.{Deserializer}
use Rattle.rmp_decode.specs.declared.error.Error.{Error}
use Rattle.rmp_decode.specs.declared.error.Error.TheVariants.{OutOfMemory, Syntax}
use Rattle.rmp_decode.specs.declared.text.Text.{Text}
use Rattle.rmp_decode.specs.declared.text.Text.TheVariants.{InvalidValue}
use Rattle.rmp_decode.proofs.Consumed.{leaves_head, leaves_none, leaves_payload, piece_taken, piece_short, piece_unsaid}
use Rattle.rmp_decode.proofs.ContentErrors.{content_error, content_other, content_none, piece_whole, piece_ended, blamed_short, blamed_end, blamed_tells, same_front}
use Rattle.rmp_decode.proofs.Contents.{Content, text_content, bin_content, ext_content, content_read, bare}
use Rattle.rmp_decode.proofs.Exactness.{none_told}
use Rattle.rmp_decode.proofs.Laws.{refused, refused_head, refused_none, stays_then}
use Rattle.rmp_decode.proofs.Leaves.{held_read}
use Rattle.rmp_decode.proofs.NothingAccepted.{refuses_by, same_head}
use Rattle.rmp_decode.proofs.Numbers.{raw_same}

-- ---- a payload

none_short : {V : Type 0} (reads : Msg → V → Type 0) (h : Head) (known : Option (List ℕ)) → IsShort (content_len h) known → IfSome known (NoPayload reads h)
none_short reads h None i = tt
none_short reads h (Some ys) i = λ s r e l _. absurd (let long = ap length e ∙ length-append s r in omega (arith, long, l, i))

none_such : {V : Type 0} (reads : Msg → V → Type 0) (h : Head) (known rest : Option (List ℕ)) (b : List ℕ) → Consumes known rest b
    → length b ≡ content_len h → (Readable reads (message h b) → ⊥) → IfSome known (NoPayload reads h)
none_such reads h None rest b c l f = tt
none_such reads h (Some xs) None b c l f = absurd c
none_such reads h (Some xs) (Some ys) b c l f = λ s r e m q.
    f (subst (λ z. Readable reads (message h z)) (sym (same_front b s ys r (l ∙ sym m) (sym c ∙ e))) q)

-- memory is refused only where the source's fault is want of it
blamed_memory : (fault : SourceFault) (e : Error) → Blamed fault e → fault ≢ Memory → e ≢ OutOfMemory
blamed_memory Memory e b n = absurd (n refl)
blamed_memory (Io cause) e b n = b.0

pub clash : {P : Type 0} {t : Bool} → t ≡ false → t ≡ true → P
clash n y = absurd (cc)

module _ {R V : Type 0} (g : Ghosts R) (n : ℕ) (lends : Bool) (gives : Option (List ℕ) → Option (List ℕ) → V → Type 0) (old new : R) where
  -- a piece was there
  pub pull_read : (v : V) → gives (g.ahead old) (g.ahead new) v → g.faults new ≡ g.faults old → g.place new ≡ g.place old → PullsPayload g n lends gives old new (Ok v)
  pull_read v r f p = record { ok = r; sound = f; err = tt; end = tt; fault = tt; memory = λ _. tt; place = p }

  -- it wasn't had, as the source had a fault, or no memory for it
  pub pull_blamed : (fault : SourceFault) (e : Error) → Blames fault (g.faults old) (g.faults new) (g.ahead old) n → Blamed fault e
      → (lends ≡ true → fault ≢ Memory) → g.place new ≡ g.place old → PullsPayload g n lends gives old new (Err e)
  pull_blamed fault e s b m p = record {
    ok = tt;
    sound = tt;
    err = blamed_short n fault _ _ _ e s b;
    end = blamed_end n fault _ _ _ e s b;
    fault = blamed_tells n fault _ _ _ e s b;
    memory = λ y. blamed_memory fault e b (m y);
    place = p;
  }

module _ {R V : Type 0} (g : Ghosts R) (k : Kind V) (h : Head) (old new : R) (n : ℕ) (i : content_len h ≡ n) where
  -- it wasn't had
  pub payload_short : {W : Type 0} {gives : Option (List ℕ) → Option (List ℕ) → W → Type 0} (e : Error) → PullsPayload g n k.lends gives old new (Err e)
      → TakesPayload g k h old new (Err e)
  payload_short e r = record {
    ok = tt;
    sound = tt;
    err = λ o q. none_short k.reads h (g.ahead old) (rw i (r.err o q));
    exact = piece_ended _ _ _ _ _ _ (rw i r.err) r.end;
    taken = piece_short _ _ _ _ _ _ (rw i r.err);
    fault = r.fault;
    memory = r.memory;
    place = r.place;
  }

  -- it was there, and is read
  pub payload_read : {W : Type 0} {lends : Bool} {gives : Option (List ℕ) → Option (List ℕ) → W → Type 0} (w : W) (v : V)
      → PullsPayload g n lends gives old new (Ok w) → ReadsPayload k.reads h (g.ahead old) (g.ahead new) v → TakesPayload g k h old new (Ok v)
  payload_read w v r p = record { ok = p; sound = r.sound; err = tt; exact = tt; taken = tt; fault = tt; memory = λ _. tt; place = r.place }

  -- the source had a fault, or no memory for it
  pub payload_blamed : (fault : SourceFault) (e : Error) → Blames fault (g.faults old) (g.faults new) (g.ahead old) n → Blamed fault e
      → (k.lends ≡ true → fault ≢ Memory) → g.place new ≡ g.place old → TakesPayload g k h old new (Err e)
  payload_blamed fault e s b m p = payload_short e (pull_blamed g n k.lends (λ _ _ (v : V). Unit {0}) old new fault e s b m p)

  -- it was there, and isn't read
  pub payload_refused : (s : List ℕ) (e : Error) → length s ≡ n → Consumes (g.ahead old) (g.ahead new) s → g.faults new ≡ g.faults old
      → g.place new ≡ g.place old → (Readable k.reads (message h s) → ⊥) → k.refused h s e → (k.lends ≡ true → e ≢ OutOfMemory)
      → TakesPayload g k h old new (Err e)
  payload_refused s e l c f p d q m = record {
    ok = tt;
    sound = tt;
    err = λ _ _. none_such k.reads h (g.ahead old) (g.ahead new) s c (l ∙ sym i) d;
    exact = λ _ _. piece_whole _ (k.refused h) (g.ahead old) (g.ahead new) s e c (l ∙ sym i) q;
    taken = piece_taken _ (g.ahead old) (g.ahead new) s _ _ e c (l ∙ sym i);
    fault = none_told _ _ e f;
    memory = m;
    place = p;
  }

  -- there was no memory for what is made of it
  pub payload_unkept : k.lends ≡ false → g.faults new ≡ g.faults old → g.place new ≡ g.place old → TakesPayload g k h old new (Err OutOfMemory)
  payload_unkept d f p = record {
    ok = tt;
    sound = tt;
    err = λ o _. absurd (o refl);
    exact = λ o _. absurd (o refl);
    taken = piece_unsaid _ _ _ _ _;
    fault = none_told _ _ _ f;
    memory = λ y. clash d y;
    place = p;
  }

-- ---- texts that aren't UTF-8

pub raw_message : (t : Bool) (n : ℕ) (s : List ℕ) → message (raw_head t n) s ≡ raw_msg t s
raw_message true n s = refl
raw_message false n s = refl

pub no_utf8 : (t : Bool) (n : ℕ) (s : List ℕ) → (IsUtf8 s → ⊥) → (u : Bool) (x : List ℕ) → message (raw_head t n) s ≡ raw_msg u x → IsUtf8 x → ⊥
no_utf8 t n s f u x e i = f (subst IsUtf8 (raw_same u t x s (sym e ∙ raw_message t n s)) i)

pub utf8_memory : (t : Bool) (e : Error) → (t ≡ true → IsUtf8Error e) → (t ≡ false → e ≡ Syntax InvalidValue) → e ≢ OutOfMemory
utf8_memory true e a b = λ m. subst IsUtf8Error m (a refl)
utf8_memory false e a b = λ m. let s = b refl in absurd (cc)

pub char_memory : (s : List ℕ) (e : Error) → ByUtf8 s (e ≡ Syntax InvalidValue) (IsUtf8Error e) → e ≢ OutOfMemory
char_memory s e b = λ m. subst IsUtf8Error m (b.1 (λ u. let q = b.0 u in absurd (cc)))

pub syntax_memory : (t : Text) → Syntax t ≢ OutOfMemory
syntax_memory t = λ m. absurd (cc)

-- ---- a message

abbrev resized : Head → ℕ → Head
resized (head.Text n) = head.Text
resized (head.Bin n) = head.Bin
resized (head.Ext n tag) = λ k. head.Ext k tag
resized h = λ k. h

content : (h : Head) → HasPayload h → Content (message h) (resized h)
content head.Nil w = absurd w
content (head.Truth t) w = absurd w
content (head.Whole z) w = absurd w
content (head.F32Bits n) w = absurd w
content (head.F64Bits n) w = absurd w
content (head.Text n) w = text_content
content (head.Bin n) w = bin_content
content (head.Array n) w = absurd w
content (head.Map n) w = absurd w
content (head.Ext n tag) w = ext_content tag

same_size : (h : Head) → HasPayload h → h ≡ resized h (content_len h)
same_size head.Nil w = absurd w
same_size (head.Truth t) w = absurd w
same_size (head.Whole z) w = absurd w
same_size (head.F32Bits n) w = absurd w
same_size (head.F64Bits n) w = absurd w
same_size (head.Text n) w = refl
same_size (head.Bin n) w = refl
same_size (head.Array n) w = absurd w
same_size (head.Map n) w = absurd w
same_size (head.Ext n tag) w = refl

-- the message that begins with the head
made : (h : Head) → HasPayload h → (m : Msg) → head_of m ≡ h → (s : List ℕ) × (m ≡ message h s)
made h w nil e = absurd (subst HasPayload (sym e) w)
made h w (truth t) e = absurd (subst HasPayload (sym e) w)
made h w (whole z) e = absurd (subst HasPayload (sym e) w)
made h w (float32 n) e = absurd (subst HasPayload (sym e) w)
made h w (float64 n) e = absurd (subst HasPayload (sym e) w)
made h w (text s) e = (s, subst (λ k. text s ≡ message k s) e refl)
made h w (bin s) e = (s, subst (λ k. bin s ≡ message k s) e refl)
made h w (list ms) e = absurd (subst HasPayload (sym e) w)
made h w (map ps) e = absurd (subst HasPayload (sym e) w)
made h w (extension tag s) e = (s, subst (λ k. extension tag s ≡ message k s) e refl)

-- a text or bytes are wanted, and have a payload
pub raw_has : (t : Bool) (n : ℕ) → HasPayload (raw_head t n)
raw_has true n = tt
raw_has false n = tt

raw_wants : (t : Bool) (s : List ℕ) → IsRawHead (head_of (raw_msg t s))
raw_wants true s = tt
raw_wants false s = tt

pub raw_only : (t : Bool) (s : List ℕ) (m : Msg) → m ≡ raw_msg t s → IsRawHead (head_of m)
raw_only t s m e = subst (λ k. IsRawHead (head_of k)) (sym e) (raw_wants t s)

pub char_only : (m : Msg) (c : ℕ) → IsChar m c → IsTextHead (head_of m)
char_only m c r = subst (λ k. IsTextHead (head_of k)) (sym r.0) tt

pub ext_only : (m : Msg) (e : Ext) → IsExt m e → IsExtHead (head_of m)
ext_only m e r = subst (λ k. IsExtHead (head_of k)) (sym r) tt

module _ {R C V : Type 0} (g : Ghosts R) (k : Kind V) (old mid : Deserializer R C) where
  -- no head was there, or a read had failed before
  pub message_none : (e : Error) → ReadsHead g old mid (Err e) → ReadsMessage g k old mid (Err e)
  message_none e h = record {
    law = refused_none g k.reads old mid e h;
    exact = λ o. content_none _ k.wanted k.other k.refused _ _ _ e (h.ends o);
    taken = λ o. leaves_none _ k.payload _ _ _ _ e (h.ends o) (h.leaves o);
    memory = λ _. h.memory;
  }

  -- the head isn't wanted
  pub message_other : (p : Marker × Head) (e : Error) → ReadsHead g old mid (Ok p) → (k.wanted p.1 → ⊥) → (k.payload p.1 → ⊥)
      → ((m : Msg) (v : V) → k.reads m v → k.wanted (head_of m)) → e ≡ k.other p.0 p.1 → e ≢ OutOfMemory → ReadsMessage g k old mid (Err e)
  message_other p e h n o only q y = record {
    law = refused_head g k.reads old mid p e h (λ m r i. n (subst k.wanted i (only m r.0 r.1)));
    exact = λ _. content_other _ k.wanted k.other k.refused _ _ _ p.0 p.1 e h.sound h.marked n q;
    taken = λ _. leaves_head g k.payload old mid p e h o;
    memory = λ _. y;
  }

  -- the head was the message
  pub message_alone : (p : Marker × Head) (v : V) → ReadsHead g old mid (Ok p) → HoldsAs k.reads p.1 v → ReadsMessage g k old (record mid { failed = false }) (Ok v)
  message_alone p v h a = record { law = held_read g k.reads old mid p h _ v a refl; exact = λ _. tt; taken = λ _. tt; memory = λ _. tt }

-- a whole number is its head
pub whole_alone : {V : Type 0} (reads : Msg → V → Type 0) (h : Head) (z : ℤ) (v : V) → h ≡ head.Whole z → reads (whole z) v → HoldsAs reads h v
whole_alone reads h z v e r = record { tree = whole z; alone = subst (λ k. IsAlone k (whole z)) (sym e) refl; value = r }

-- a head that was taken is the one that it was found to be
pub taken_as : {R C : Type 0} (g : Ghosts R) (old mid : Deserializer R C) (m : Marker) (h k : Head) → h ≡ k → ReadsHead g old mid (Ok (m, h))
    → ReadsHead g old mid (Ok (m, k))
taken_as g old mid m h k e r = subst (λ z. ReadsHead g old mid (Ok (m, z))) e r

module _ {R C V : Type 0} (g : Ghosts R) (k : Kind V) (mid : Deserializer R C) (h : Head) (has : HasPayload h) (last : R) where
  -- the head was taken, and the payload read
  pub message_read : (v : V) → TakesPayload g k h mid.reader last (Ok v) → ReadsRest g k h mid (record mid { reader = last; failed = false }) (Ok v)
  message_read v r = λ old m begun.
      let o = r.ok in
      record {
        law = content_read (content h has) g k.reads old mid (record mid { reader = last; failed = false }) (m, h) begun o.bytes (content_len h) v
            (same_size h has) o.long o.small o.taken refl refl r.sound
            (record { config = refl; room = refl; limit = refl; strict = refl; place = r.place }) o.value;
        exact = λ _. tt;
        taken = λ _. tt;
        memory = λ _. tt;
      }

  -- the head was taken, and the payload refused
  pub message_refused_as : (f : Bool) → (mid.failed ≡ true → f ≡ true) → k.wanted h → k.payload h → (e : Error) → TakesPayload g k h mid.reader last (Err e)
      → ReadsRest g k h mid (record mid { reader = last; failed = f }) (Err e)
  message_refused_as f still wants pays e r = λ old m begun. record {
    law = refused g k.reads old (record mid { reader = last; failed = f }) e begun.fresh (still begun.failed)
        (stays_then g old mid _ begun.stays (record { config = refl; room = refl; limit = refl; strict = refl; place = r.place }))
        (λ o q.
        let none : IfSome (left g mid) (NoPayload k.reads h) = rw (bare g mid begun.clean) (r.err o (q ∙ sym begun.sound)) in
        refuses_by _ (Readable k.reads) _ (left g old) (left g mid) begun.ok.bytes begun.ok.takes (λ ys p a.
        let u = same_head _ a.tree h a.bytes begun.ok.bytes a.rest ys a.spelled begun.ok.is_head (sym a.front) in
        let t = made h has a.tree u.0 in
        let t0 = t.0 in
        let is = t.1 in
        let j = (content h has).opens old.strict t0 a.bytes (subst (SpellsAs old.strict a.bytes) is a.spelled) in
        let split : j.first ++ (j.second ++ a.rest) ≡ begun.ok.bytes ++ ys = sym (append_assoc j.first j.second a.rest) ∙ ap (λ z. z ++ a.rest) (sym j.is_whole)
        ∙ sym a.front in
        let d = heads_differ_as old.strict (resized h (length t0)) h j.first begun.ok.bytes (j.second ++ a.rest) ys j.is_first begun.ok.is_head split in
        let at : NoPayload k.reads h ys = rw p at none in
        at t0 a.rest (sym d.2 ∙ ap (λ z. z ++ a.rest) j.is_second.0) ((content h has).same _ _ (d.0 ∙ same_size h has)) (subst (Readable k.reads) is a.holds)));
    exact = λ _. content_error g k.wanted k.other k.refused old mid (g.faults last) (m, h) h (content_len h) e begun refl refl wants r.exact r.fault;
    taken = λ _. leaves_payload g k.payload old mid last (m, h) h (content_len h) e begun refl refl pays r.taken;
    memory = r.memory;
  }

  pub message_refused : k.wanted h → k.payload h → (e : Error) → TakesPayload g k h mid.reader last (Err e) → ReadsRest g k h mid (record mid { reader = last }) (Err e)
  message_refused wants pays e r = message_refused_as mid.failed (λ f. f) wants pays e r

  -- the head was taken, and the payload read or refused, which is asked
  pub message_asked : k.wanted h → k.payload h → (r : Result V Error) → TakesPayload g k h mid.reader last r
      → ReadsRest g k h mid (record mid { reader = last; failed = is_err r }) r
  message_asked wants pays (Ok v) t = message_read v t
  message_asked wants pays (Err e) t = message_refused_as true (λ _. refl) wants pays e t
