-- Messages that are a head and bytes after it.
use Rattle.std.proofs.Common.{◌≡◌, ℕ, ℤ, ◌≤◌, List, [], ◌++◌, length, refl, sym, ◌∙◌, ap, subst, arith, Bool, true, false, Option, None, Some, IfSome, Ok, Err}
use Rattle.std.specs.Io.KnownBytes.{Consumes, prepend_known}
use Rattle.std.proofs.KnownBytes.{Consumes-trans}
use Rattle.std.proofs.lemmas.List.{append_assoc}
use Rattle.rmp_wire.specs.declared.head.Head.{Head}
use Rattle.rmp_wire.specs.declared.head.Head.TheVariants as head
use Rattle.rmp_wire.specs.declared.marker.Marker.{Marker}
use Rattle.rmp_wire.specs.declared.source.Source.{Ghosts}
use Rattle.rmp_wire.specs.Canonical.{heads_of, SpellsAs}
use Rattle.rmp_wire.specs.Msg.{Msg, nil, truth, whole, float32, float64, text, bin, list, map, extension, depth}
use Rattle.rmp_wire.specs.Sources.{IsShort}
use Rattle.rmp_wire.specs.Spelling.{head_of, Joined, IsContent, IsBytes}
use Rattle.rmp_decode.specs.Kinds.{raw_msg, raw_head}
use Rattle.rmp_decode.specs.Law.{Readable, Lawful, Explains, ReadsHead}
use Rattle.rmp_decode.specs.State.{left, faults_of, Stays, kept_bytes}
use Rattle.rmp_decode.specs.declared.deserializer.Deserializer.{Deserializer}
use Rattle.rmp_decode.specs.declared.deserializer.Kept.TheVariants.{Nothing}
use Rattle.rmp_decode.specs.declared.error.Error.{Error}
use Rattle.rmp_decode.proofs.Laws.{refused, stays_then}
use Rattle.rmp_wire.proofs.Strict.{heads_differ_as}
use Rattle.rmp_decode.proofs.NothingAccepted.{content_of, refuses_short, refuses_by}

-- with nothing kept back, what is left is what the source has ahead
bare_known : (known : Option (List ℕ)) → prepend_known [] known ≡ known
bare_known None = refl
bare_known (Some xs) = refl

pub bare : {R C : Type 0} (g : Ghosts R) (d : Deserializer R C) → d.kept ≡ Nothing → left g d ≡ g.ahead d.reader
bare g d e = ap (λ k. prepend_known (kept_bytes k) (g.ahead d.reader)) e ∙ bare_known (g.ahead d.reader)

-- a kind of message that is a head and bytes
pub record Content (make : List ℕ → Msg) (heads : ℕ → Head) : Type 0 where
  pub is : (s : List ℕ) → head_of (make s) ≡ heads (length s)
  pub spells : (w : Bool) (s b : List ℕ) → Joined (heads_of w (heads (length s))) (IsContent s) b → SpellsAs w b (make s)
  pub flat : (s : List ℕ) → depth (make s) ≡ 0
  pub opens : (w : Bool) (s b : List ℕ) → SpellsAs w b (make s) → Joined (heads_of w (heads (length s))) (IsContent s) b
  pub same : (n k : ℕ) → heads n ≡ heads k → n ≡ k
  pub fills : (m : Msg) (n : ℕ) → head_of m ≡ heads n → n ≤ length (content_of m)

text_fills : (m : Msg) (n : ℕ) → head_of m ≡ head.Text n → n ≤ length (content_of m)
text_fills nil n e = absurd (cc)
text_fills (truth t) n e = absurd (cc)
text_fills (whole z) n e = absurd (cc)
text_fills (float32 k) n e = absurd (cc)
text_fills (float64 k) n e = absurd (cc)
text_fills (text s) n e = let u : length s ≡ n = cc in omega arith
text_fills (bin s) n e = absurd (cc)
text_fills (list ms) n e = absurd (cc)
text_fills (map ps) n e = absurd (cc)
text_fills (extension tag s) n e = absurd (cc)

bin_fills : (m : Msg) (n : ℕ) → head_of m ≡ head.Bin n → n ≤ length (content_of m)
bin_fills nil n e = absurd (cc)
bin_fills (truth t) n e = absurd (cc)
bin_fills (whole z) n e = absurd (cc)
bin_fills (float32 k) n e = absurd (cc)
bin_fills (float64 k) n e = absurd (cc)
bin_fills (text s) n e = absurd (cc)
bin_fills (bin s) n e = let u : length s ≡ n = cc in omega arith
bin_fills (list ms) n e = absurd (cc)
bin_fills (map ps) n e = absurd (cc)
bin_fills (extension tag s) n e = absurd (cc)

ext_fills : (t : ℤ) (m : Msg) (n : ℕ) → head_of m ≡ head.Ext n t → n ≤ length (content_of m)
ext_fills t nil n e = absurd (cc)
ext_fills t (truth b) n e = absurd (cc)
ext_fills t (whole z) n e = absurd (cc)
ext_fills t (float32 k) n e = absurd (cc)
ext_fills t (float64 k) n e = absurd (cc)
ext_fills t (text s) n e = absurd (cc)
ext_fills t (bin s) n e = absurd (cc)
ext_fills t (list ms) n e = absurd (cc)
ext_fills t (map ps) n e = absurd (cc)
ext_fills t (extension tag s) n e = let u : length s ≡ n = cc in omega arith

pub text_content : Content text head.Text
text_content = record { is = λ s. refl; spells = λ w s b j. j; flat = λ s. refl; opens = λ w s b j. j; same = λ n k e. cc; fills = text_fills }

pub bin_content : Content bin head.Bin
bin_content = record { is = λ s. refl; spells = λ w s b j. j; flat = λ s. refl; opens = λ w s b j. j; same = λ n k e. cc; fills = bin_fills }

pub ext_content : (tag : ℤ) → Content (extension tag) (λ n. head.Ext n tag)
ext_content tag = record { is = λ s. refl; spells = λ w s b j. j; flat = λ s. refl; opens = λ w s b j. j; same = λ n k e. cc; fills = ext_fills tag }

pub raw_content : (t : Bool) → Content (raw_msg t) (raw_head t)
raw_content true = text_content
raw_content false = bin_content

module _ {R C V : Type 0} {make : List ℕ → Msg} {heads : ℕ → Head} (content : Content make heads) (g : Ghosts R) (reads : Msg → V
    → Type 0) (old mid new : Deserializer R C) (p : Marker × Head) (h : ReadsHead g old mid (Ok p)) where
  -- it was there, and is read so
  pub content_read : (s : List ℕ) (n : ℕ) (v : V) → p.1 ≡ heads n → length s ≡ n → IsBytes s → Consumes (g.ahead mid.reader) (g.ahead new.reader) s
      → new.kept ≡ mid.kept → new.failed ≡ false → faults_of g new ≡ faults_of g mid → Stays g mid new
      → reads (make s) v → Lawful g reads old new (Ok v)
  content_read s n v e l b c k f q st r =
      let clean : new.kept ≡ Nothing = k ∙ h.clean in
      let first : Consumes (left g old) (g.ahead mid.reader) h.ok.bytes = rw (← (bare g mid h.clean)) h.ok.takes in
      record {
        ok = record {
          bytes = h.ok.bytes ++ s;
          tree = make s;
          takes = rw (bare g new clean) (Consumes-trans _ _ _ _ _ first c);
          goes_on = record {
            more = h.ok.goes_on.more ++ s;
            whole = ap (λ z. z ++ s) h.ok.goes_on.whole
                ∙ append_assoc (kept_bytes old.kept) h.ok.goes_on.more s;
          };
          spelled = content.spells old.strict s (h.ok.bytes ++ s)
              (record {
                first = h.ok.bytes;
                second = s;
                is_first = subst (λ j. heads_of old.strict j h.ok.bytes) (e ∙ ap heads (sym l)) h.ok.is_head;
                is_second = (refl, b);
                is_whole = refl;
              });
          fits = omega (arith, content.flat s);
          value = r;
        };
        ready = f;
        clean = clean;
        sound = q ∙ h.sound;
        err = λ _. tt;
        failed = tt;
        before = λ b. absurd (let o = h.fresh in cc);
        stays = stays_then g old mid new h.stays st;
      }

  -- too few bytes are after the head
  pub content_short : (n : ℕ) (e : Error) → p.1 ≡ heads n → Explains e (g.faults mid.reader) (g.faults new.reader) (IsShort n (g.ahead mid.reader))
      → new.failed ≡ true → Stays g mid new → Lawful g reads old new (Err e)
  content_short n e i x f st = refused g reads old new e h.fresh f (stays_then g old mid new h.stays st) (λ o k.
      let s : IsShort n (left g mid) = rw (bare g mid h.clean) (x o (k ∙ sym h.sound)) in
      refuses_short _ (Readable reads) _ n (left g old) (left g mid) h.ok.bytes p.1 h.ok.takes h.ok.is_head s (λ m r q. content.fills m n (q ∙ i)))

  -- it was there, and no such content is read
  pub content_refused : (n : ℕ) (e : Error) → p.1 ≡ heads n → ((m : Msg) → Readable reads m → (s : List ℕ) × (m ≡ make s))
      → Explains e (g.faults mid.reader) (g.faults new.reader)
      (IfSome (g.ahead mid.reader) (λ ys. (s r : List ℕ) → ys ≡ s ++ r → length s ≡ n → Readable reads (make s) → ⊥)) → new.failed ≡ true
      → Stays g mid new → Lawful g reads old new (Err e)
  content_refused n e i f x d st = refused g reads old new e h.fresh d (stays_then g old mid new h.stays st) (λ o k.
      let none : IfSome (left g mid) (λ ys. (s r : List ℕ) → ys ≡ s ++ r → length s ≡ n → Readable reads (make s)
      → ⊥) = rw (bare g mid h.clean) (x o (k ∙ sym h.sound)) in
      refuses_by _ (Readable reads) _ (left g old) (left g mid) h.ok.bytes h.ok.takes (λ ys q a.
      let t = f a.tree a.holds in
      let t0 = t.0 in
      let same_tree = t.1 in
      let j = content.opens old.strict t0 a.bytes (subst (SpellsAs old.strict a.bytes) same_tree a.spelled) in
      let split : j.first ++ (j.second ++ a.rest) ≡ h.ok.bytes ++ ys = sym (append_assoc j.first j.second a.rest) ∙ ap (λ z. z ++ a.rest) (sym j.is_whole)
      ∙ sym a.front in
      let u = heads_differ_as old.strict (heads (length t0)) p.1 j.first h.ok.bytes (j.second ++ a.rest) ys j.is_first h.ok.is_head split in
      let at : (s r : List ℕ) → ys ≡ s ++ r → length s ≡ n → Readable reads (make s) → ⊥ = rw q at none in
      at t0 a.rest (sym u.2 ∙ ap (λ z. z ++ a.rest) j.is_second.0) (content.same _ _ (u.0 ∙ i)) (subst (Readable reads) same_tree a.holds)))
