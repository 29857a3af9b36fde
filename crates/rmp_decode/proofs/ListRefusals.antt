-- Where a list is refused, by where its elements are.
use Rattle.std.proofs.Common.{◌≡◌, ◌∙◌, refl, ap, subst, inl, inr, arith, ℕ, ◌+◌, ◌-◌, ◌<◌, length, Bool, List, [], ◌∷◌, ◌++◌, Option, None, Some}
use Rattle.std.proofs.lemmas.List.{append_assoc, append-nil}
use Rattle.std.specs.Io.KnownBytes.{Consumes}
use Rattle.rmp_wire.specs.declared.source.Source.{Ghosts}
use Rattle.rmp_wire.specs.Msg.{Msg, Msgs, no_items, item, count, depth_all}
use Rattle.rmp_decode.specs.Refusing.{Setting, setting_of, inside, Opened, Part, AfterElement, RefusesParts, PartsRefused, Excess, no_refusal}
use Rattle.rmp_decode.specs.Rows.{AndThen, NoMore}
use Rattle.rmp_decode.specs.Seq.{SpellsIn, SpellsRow, Opens, Run, inner_of}
use Rattle.rmp_decode.specs.State.{left, faults_of}
use Rattle.rmp_decode.specs.declared.deserializer.Deserializer.{Deserializer}
use Rattle.rmp_decode.specs.declared.access.seq.SeqAccess.{SeqAccess}
use Rattle.rmp_decode.specs.declared.error.Error.{Error}
use Rattle.rmp_decode.specs.declared.error.Error.TheVariants.{LengthMismatch}
use Rattle.rmp_decode.proofs.Settings.{after_opened}

-- ---- parts of several types

-- the items are here, of n in all, and after them so many are still to come
pub record Ahead (b : Bool) (s : Setting) (known : Option (List ℕ)) (n : ℕ) (ms : Msgs) (rest : Option (List ℕ)) (still : ℕ) : Type 0 where
  pub bytes : List ℕ
  pub takes : Consumes known rest bytes
  pub spelled : SpellsRow (SpellsIn s.strict b) bytes ms
  pub many : count ms + still ≡ n
  pub fits : depth_all ms < s.room

pub run_ahead : {R C : Type 0} (g : Ghosts R) (start mid : SeqAccess R C) (ms : Msgs) (s : Setting) → start.de.now.strict ≡ s.strict
    → inner_of start ≡ s.room → Run g start mid ms → Ahead start.bytes s (left g start.de.now) start.left ms (left g mid.de.now) mid.left
run_ahead g start mid ms s p q r = record {
  bytes = r.bytes;
  takes = r.takes;
  spelled = subst (λ z. SpellsRow (SpellsIn z start.bytes) r.bytes ms) p r.spelled;
  many = r.many;
  fits = subst (λ z. depth_all ms < z) q r.fits;
}

between : Option (List ℕ) → Option (List ℕ) → List ℕ → Option (List ℕ)
between None rest b = None
between (Some xs) None b = None
between (Some xs) (Some zs) b = Some (b ++ zs)

consumes_first : (known rest : Option (List ℕ)) (a b : List ℕ) → Consumes known rest (a ++ b) → Consumes known (between known rest b) a
unfolding between
consumes_first None rest a b c = tt
consumes_first (Some xs) None a b c = absurd c
consumes_first (Some xs) (Some zs) a b c = c ∙ append_assoc a b zs

consumes_second : (known rest : Option (List ℕ)) (a b : List ℕ) → Consumes known rest (a ++ b) → Consumes (between known rest b) rest b
unfolding between
consumes_second None rest a b c = tt
consumes_second (Some xs) None a b c = absurd c
consumes_second (Some xs) (Some zs) a b c = refl

module _ (b : Bool) (s : Setting) (P P' : Msg → Type 0) (f : (m : Msg) → P m → P' m) (next : ℕ → Option (List ℕ) → Error → Type 0) (e : Error) where
  -- the first of them was read
  pub then_read : (Q : Msgs → Type 0) (known : Option (List ℕ)) (n : ℕ) (ms : Msgs) (rest : Option (List ℕ)) (still : ℕ) → AndThen P Q ms
      → Ahead b s known n ms rest still
      → ((ks : Msgs) (mid : Option (List ℕ)) (k : ℕ) → Q ks → Ahead b s mid k ks rest still → next k mid e) → AfterElement b s P' next n known e
  then_read Q known n no_items rest still h a go = absurd h
  then_read Q known n (item m ks) rest still h a go =
      let j = a.spelled in
      let t = subst (Consumes known rest) j.is_whole a.takes in
      let mid = between known rest j.second in
      record {
        bytes = j.first;
        rest = mid;
        tree = m;
        still = count ks + still;
        takes = consumes_first known rest j.first j.second t;
        spelled = j.is_first;
        many = omega (arith, a.many);
        fits = omega (arith, a.fits);
        holds = f m h.0;
        refused = go ks mid (count ks + still) h.1 (record
            { bytes = j.second; takes = consumes_second known rest j.first j.second t; spelled = j.is_second; many = refl; fits = omega (arith, a.fits) });
      }

  -- the last of them was read
  pub then_last : (known : Option (List ℕ)) (n : ℕ) (ms : Msgs) (rest : Option (List ℕ)) (still : ℕ) → AndThen P NoMore ms → Ahead b s known n ms rest still
      → next still rest e → AfterElement b s P' next n known e
  then_last known n no_items rest still h a w = absurd h
  then_last known n (item m (item k ks)) rest still h a w = absurd h.1
  then_last known n (item m no_items) rest still h a w =
      let j = a.spelled in
      record {
        bytes = j.first;
        rest = rest;
        tree = m;
        still = still;
        takes = subst (Consumes known rest) (j.is_whole ∙ ap (λ z. j.first ++ z) j.is_second ∙ append-nil j.first) a.takes;
        spelled = j.is_first;
        many = omega (arith, a.many);
        fits = omega (arith, a.fits);
        holds = f m h.0;
        refused = w;
      }

module _ (s : Setting) where
  -- trees that these want
  abbrev pub Held : List Part → Msgs → Type 0
  Held [] ms = NoMore ms
  Held (p ∷ ps) ms = AndThen (p.holds s) (Held ps) ms

  module _ (b : Bool) (before after : ℕ) (e : Error) where
    -- all of them were read
    pub all_read : (p : Part) (ps : List Part) (last : ℕ → Option (List ℕ) → Error
        → Type 0) (known : Option (List ℕ)) (n : ℕ) (ms : Msgs) (rest : Option (List ℕ)) (still : ℕ) → Held (p ∷ ps) ms → Ahead b s known n ms rest still
        → last still rest e
        → RefusesParts b s before after (p ∷ ps) last n known e
    all_read p [] last known n ms rest still h a w = inr (then_last b s (p.holds s) (p.holds s) (λ m k. k) last e known n ms rest still h a w)
    all_read p (q ∷ ps) last known n ms rest still h a w =
        inr (then_read b s (p.holds s) (p.holds s) (λ m k. k) (RefusesParts b s before after (q ∷ ps) last) e (Held (q ∷ ps)) known n ms rest still h a
        (λ ks mid k g c. all_read q ps last mid k ks rest still g c w))

    -- one of them is refused, whatever comes after them
    pub whatever : (ps : List Part) (last : ℕ → Option (List ℕ) → Error → Type 0) (n : ℕ) (known : Option (List ℕ))
        → RefusesParts b s before after ps no_refusal n known e → RefusesParts b s before after ps last n known e
    whatever [] last n known h = absurd h
    whatever (p ∷ ps) last n known h = elim h [
      | inl w ↦ inl w
      | inr r ↦ inr (record {
        bytes = r.bytes;
        rest = r.rest;
        tree = r.tree;
        still = r.still;
        takes = r.takes;
        spelled = r.spelled;
        many = r.many;
        fits = r.fits;
        holds = r.holds;
        refused = whatever ps last r.still r.rest r.refused;
      })
    ]

module _ {R C : Type 0} (g : Ghosts R) (human : Bool) (lends : Bool) (old : Deserializer R C) (start : SeqAccess R C) (o : Opens g old start)
    (after : ℕ) (e : Error) where
  -- after the head that was taken
  pub after_head : (P : Bool → Setting → ℕ → Option (List ℕ) → Error → Type 0)
      → P start.bytes (inside (setting_of human lends old) (inner_of start)) start.left (left g start.de.now) e
      → Opened (setting_of human lends old) P (left g old) e
  after_head P p = record {
    is_bytes = start.bytes;
    inner = inner_of start;
    many = start.left;
    bytes = o.head.bytes;
    rest = left g start.de.now;
    takes = o.head.takes;
    is_head = o.head.is_head;
    room_of = o.room;
    refused = p;
  }

  -- one of the elements was refused
  pub parts_wrong : (ps : List Part) (now : SeqAccess R C) → after ≡ faults_of g now.de.now
      → PartsRefused g human lends ps start now e
      → Opened (setting_of human lends old) (λ b i. RefusesParts b i (faults_of g old) after ps (Excess (length ps))) (left g old) e
  parts_wrong ps now q h =
      let h' = after_opened g human lends old start now o after q
      (λ s a z. RefusesParts start.bytes s a z ps no_refusal start.left (left g start.de.now) e) h in
      after_head (λ b i. RefusesParts b i (faults_of g old) after ps (Excess (length ps)))
      (whatever (inside (setting_of human lends old) (inner_of start)) start.bytes (faults_of g old) after e ps (Excess (length ps)) start.left
      (left g start.de.now) h')

  after_all : (i : Setting) → start.de.now.strict ≡ i.strict → inner_of start ≡ i.room → (ps : List Part) (mid : SeqAccess R C) (ms : Msgs)
      → Run g start mid ms → Held i ps ms → count ms ≡ length ps → 0 < mid.left → e ≡ LengthMismatch (mid.count - mid.left)
      → RefusesParts start.bytes i (faults_of g old) after ps (Excess (length ps)) start.left (left g start.de.now) e
  after_all i a b [] mid ms r h c l q =
      let d : mid.count - mid.left ≡ 0 = omega (arith, r.many, r.count_same, o.count, c) in
      (omega (arith, l, c, r.many), q ∙ ap LengthMismatch d)
  after_all i a b (p ∷ ps) mid ms r h c l q =
      let d : mid.count - mid.left ≡ length (p ∷ ps) = omega (arith, r.many, r.count_same, o.count, c) in
      all_read i start.bytes (faults_of g old) after e p ps (Excess (length (p ∷ ps))) (left g start.de.now) start.left ms (left g mid.de.now) mid.left h
      (run_ahead g start mid ms i a b r) (l, q ∙ ap LengthMismatch d)

  -- all of them were read, and there are more
  pub parts_excess : (ps : List Part) (mid : SeqAccess R C) (ms : Msgs) → Run g start mid ms
      → Held (inside (setting_of human lends old) (inner_of start)) ps ms → count ms ≡ length ps → 0 < mid.left
      → e ≡ LengthMismatch (mid.count - mid.left)
      → Opened (setting_of human lends old) (λ b i. RefusesParts b i (faults_of g old) after ps (Excess (length ps))) (left g old) e
  parts_excess ps mid ms r h c l q =
      after_head (λ b i. RefusesParts b i (faults_of g old) after ps (Excess (length ps)))
      (after_all (inside (setting_of human lends old) (inner_of start)) o.stays.strict refl ps mid ms r h c l q)
