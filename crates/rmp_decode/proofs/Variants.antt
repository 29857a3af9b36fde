-- What the read of an enum says, from what the read of a variant says.
use Rattle.rmp_decode.specs.MapRefusing.{RefusesPart}
use Rattle.std.proofs.Common.{◌≡◌, sym, subst, refl, ap, ◌∙◌, inr, arith, ◌+◌, max, true, false, ℕ, List, Bool, Option, None, Some, MatchOption}
use Rattle.std.proofs.Common.{Result, Ok, Err, ◌<◌, ◌-◌, Bor}
use Rattle.std.specs.Borrow.{MutBor}
use Rattle.std.specs.Fn.{FnOnceReturnsAtMut}
use Rattle.rmp_wire.specs.declared.head.Head.TheVariants.{Map}
use Rattle.rmp_wire.specs.declared.marker.Marker.{Marker}
use Rattle.rmp_wire.specs.declared.source.Source.{Ghosts}
use Rattle.rmp_wire.specs.Canonical.{SpellsAs}
use Rattle.rmp_wire.specs.Spelling.{head_of}
use Rattle.rmp_wire.specs.Msg.{Msg, nil, truth, whole, float32, float64, text, bin, list, map, extension, Msgs, no_items, item, Pairs, no_pairs, pair, depth}
use Rattle.rmp_decode.specs.Law.{Refuses, Readable, Explains, Lawful, ReadsHead, TakesHead}
use Rattle.rmp_decode.specs.Maps.{OfMap, OpensMap, TakesKey, TakesValue}
use Rattle.rmp_decode.specs.Names.{name_of, bytes_of}
use Rattle.rmp_decode.specs.Parts.{TakesPart, FailsPart}
use Rattle.rmp_decode.specs.State.{left, faults_of, room_of, Stays}
use Rattle.rmp_decode.specs.Variants.{variant_of, variant_in, placed, OfVariant, IsVariant, IsAt, IfAt, Content, Bare, TakesKeyOf, TakesNameOf}
use Rattle.rmp_decode.specs.Variants.{OpensVariant, FailsToOpenVariant, ContentGiven, NamesVariant, NamesNone}
use Rattle.rmp_decode.specs.VariantNames.{IsPlace, RefusesName}
use Rattle.rmp_decode.specs.With.{Reading, part_reader}
use Rattle.rmp_decode.specs.declared.deserializer.Deserializer.{Deserializer}
use Rattle.rmp_decode.specs.declared.deserializer.Kept.TheVariants.{Nothing}
use Rattle.rmp_decode.specs.declared.access.map.MapAccess.{MapAccess}
use Rattle.rmp_decode.specs.declared.access.variant.Variant.{Variant}
use Rattle.rmp_decode.specs.declared.error.Error.{Error}
use Rattle.rmp_decode.specs.declared.error.Error.TheVariants.{Syntax}
use Rattle.rmp_decode.specs.declared.text.Text.TheVariants.{InvalidType}
use Rattle.rmp_decode.proofs.Laws.{lawful_ok, lawful_err, refused, stays_then}
use Rattle.rmp_decode.proofs.MapWiths.{part_taken, part_fails}
use Rattle.rmp_decode.proofs.Maps.{flat, map_start, map_key, map_value, map_done, map_take}
use Rattle.rmp_decode.proofs.NothingAccepted.{refuses_narrower, refuses_other}
use Rattle.rmp_decode.proofs.Rows.{push, append}
use Rattle.rmp_decode.proofs.VariantNames.{lawful_after, refuses_leaves, none_opened, place_below_names}

-- ---- the law of a type, from that of a variant

module _ {R C W : Type 0} (g : Ghosts R) (names : List (List ℕ)) (reads : W → ℕ × Option Msg
    → Type 0) (old new last : Deserializer R C) (same : last ≡ new) where
  -- the variant at a place was read
  pub variant_ok : {V : Type 0} (P : V → Option Msg → Type 0) (n : ℕ) (v : V) (w : W) → ((c : Option Msg) → P v c → reads w (n, c))
      → Lawful g (λ m y. OfVariant names (IsAt n (P y)) m) old new (Ok v) → Lawful g (λ m y. OfVariant names (reads y) m) old last (Ok w)
  unfolding OfVariant IsAt
  variant_ok P n v w f l = rw same (lawful_ok g (λ m y. OfVariant names (IsAt n (P y)) m) (λ m y. OfVariant names (reads y) m) old new v w
      (λ m h. go (variant_of names m) f h) l)
    where
      go : (x : Option (ℕ × Option Msg)) → ((c : Option Msg) → P v c → reads w (n, c)) → MatchOption x ⊥ (IsAt n (P v)) → MatchOption x ⊥ (reads w)
      go None f h = absurd h
      go (Some p) f h = subst (λ k. reads w (k, p.1)) (sym h.0) (f p.1 h.1)

  -- the variant at a place was refused
  pub variant_err : (P : Option Msg → Type 0) (n : ℕ) (e : Error) → ((w : W) (c : Option Msg) → reads w (n, c) → P c)
      → Lawful g (λ m (u : Unit {0}). OfVariant names (IfAt n P) m) old new (Err e) → Lawful g (λ m y. OfVariant names (reads y) m) old last (Err e)
  unfolding OfVariant IfAt
  variant_err P n e f l = rw same (lawful_err g (λ m (u : Unit {0}). OfVariant names (IfAt n P) m) (λ m y. OfVariant names (reads y) m) old new e
      (λ m h. (tt, go (variant_of names m) h.0 f h.1)) l)
    where
      go : (x : Option (ℕ × Option Msg)) (w : W) → ((w : W) (c : Option Msg) → reads w (n, c) → P c) → MatchOption x ⊥ (reads w) → MatchOption x ⊥ (IfAt n P)
      go None w f h = absurd h
      go (Some p) w f h = λ q. f w p.1 (subst (λ k. reads w (k, p.1)) q h)

  -- there was no variant
  pub variant_unopened : (e : Error) → FailsToOpenVariant g names old new e → Lawful g (λ m y. OfVariant names (reads y) m) old last (Err e)
  unfolding OfVariant
  variant_unopened e f = rw same (record {
    ok = tt;
    ready = tt;
    clean = tt;
    sound = tt;
    failed = f.failed;
    before = f.before;
    stays = f.stays;
    err = λ o n k. refuses_narrower (SpellsAs old.strict) (IsVariant names) (Readable (λ m y. OfVariant names (reads y) m)) _ _
        (λ m h. go (variant_of names m) h.0 h.1) (f.err o n k);
  })
    where
      go : (x : Option (ℕ × Option Msg)) (w : W) → MatchOption x ⊥ (reads w) → MatchOption x ⊥ (λ p. Unit {0})
      go None w h = h
      go (Some p) w h = tt

-- content that is read as some value
pub readable : {V : Type 0} (P : Msg → V → Type 0) (c : Option Msg) (v : V) → Content (λ m. P m v) c → Content (Readable P) c
readable P None v h = h
readable P (Some m) v h = (v, h)

-- ---- maps of one pair

-- pairs that are such a variant
abbrev pub Alone : {V : Type 0} → List (List ℕ) → (V → ℕ × Option Msg → Type 0) → V → Pairs → Type 0
Alone names Q v ps = MatchOption (variant_in names ps) ⊥ (Q v)

of_alone : {V : Type 0} (names : List (List ℕ)) (Q : V → ℕ × Option Msg → Type 0) (v : V) (m : Msg) → OfMap (Alone names Q v) m → OfVariant names (Q v) m
unfolding OfVariant
of_alone names Q v nil h = absurd h
of_alone names Q v (truth t) h = absurd h
of_alone names Q v (whole z) h = absurd h
of_alone names Q v (float32 n) h = absurd h
of_alone names Q v (float64 n) h = absurd h
of_alone names Q v (text s) h = absurd h
of_alone names Q v (bin s) h = absurd h
of_alone names Q v (list ms) h = absurd h
of_alone names Q v (map ps) h = h
of_alone names Q v (extension tag s) h = absurd h

is_alone : {V : Type 0} (names : List (List ℕ)) (Q : V → ℕ × Option Msg → Type 0) (n : ℕ) (m : Msg) → head_of m ≡ Map n → (v : V) × OfVariant names (Q v) m
    → (v : V) × OfMap (Alone names Q v) m
unfolding OfVariant
is_alone names Q n nil e h = absurd (cc)
is_alone names Q n (truth t) e h = absurd (cc)
is_alone names Q n (whole z) e h = absurd (cc)
is_alone names Q n (float32 k) e h = absurd (cc)
is_alone names Q n (float64 k) e h = absurd (cc)
is_alone names Q n (text s) e h = absurd (cc)
is_alone names Q n (bin s) e h = absurd (cc)
is_alone names Q n (list ms) e h = absurd (cc)
is_alone names Q n (map ps) e h = h
is_alone names Q n (extension tag s) e h = absurd (cc)

-- the access to the pair, of which so many haven't begun
abbrev pair_at : {R C : Type 0} → MutBor (Deserializer R C) → Deserializer R C → ℕ → Bool → ℕ → MapAccess R C
pair_at b d n owes inner = record { de = record b { now = d }; left = n; count = 1; inner = inner; owes = owes; sound = true }

pair_opens : {R C : Type 0} (g : Ghosts R) (b : MutBor (Deserializer R C)) (old between : Deserializer R C) (inner : ℕ) → old.failed ≡ false
    → TakesHead g (Map 1) old between → room_of old ≡ max 1 inner + 1 → Stays g old between → faults_of g between ≡ faults_of g old
    → between.failed ≡ true → between.kept ≡ Nothing → OpensMap g old (pair_at b between 1 false inner)
pair_opens g b old between inner o h r s q m k = record
    { fresh = o; head = h; count = refl; at_key = refl; room = r; stays = s; faults_same = q; opened = record { sound = refl; marked = m; clean = k } }

-- ---- the key of a pair

placed_named : (c : Msg) (x : Option (Option ℕ)) → MatchOption (placed (Some c) x) ⊥ (λ p. Unit {0}) → (n : ℕ) × (x ≡ Some (Some n))
placed_named c None h = absurd h
placed_named c (Some None) h = absurd h
placed_named c (Some (Some n)) h = (n, refl)

key_is_name : (names : List (List ℕ)) (m : Msg) (ks : Msgs) (u : Unit {0}) (ps : Pairs) → flat ps ≡ append no_items (item m ks)
    → Alone names (λ (u : Unit {0}) p. Unit {0}) u ps → Readable (IsPlace names) m
key_is_name names m ks u no_pairs e h = absurd h
key_is_name names m ks u (pair a b (pair c d ps)) e h = absurd h
key_is_name names m ks u (pair a b no_pairs) e h = let same : a ≡ m = cc in let x = placed_named b (name_of names a) h
    in (x.0, ap (name_of names) (sym same) ∙ x.1)

module _ {R C : Type 0} (g : Ghosts R) (names : List (Bor (List ℕ))) (old mid new : Deserializer R C) (m : Marker) (h : ReadsHead g old mid (Ok (m, Map 1)))
    (deep : 1 < old.room) where
  -- the key is a name
  pub pair_named : (n : ℕ) → TakesPart g (IsPlace (bytes_of names)) (max 1 (mid.room - 1)) mid new n → NamesVariant g names false old new (old.room - 1) n
  pair_named n t = record {
    fresh = h.fresh;
    name = record {
      between = mid;
      head = h.ok;
      room = omega (arith, deep);
      stays = h.stays;
      faults_same = h.sound;
      marked = h.failed;
      clean = h.clean;
      key = subst (λ z. TakesPart g (IsPlace (bytes_of names)) (max 1 (z - 1)) mid new n) h.stays.room t;
    };
    stays = stays_then g old mid new h.stays t.stays;
    faults_same = t.faults_same ∙ h.sound;
    marked = t.marked;
    clean = t.clean;
    below = place_below_names names t.tree n t.value;
  }

  -- it is none
  pub pair_refused : (b : MutBor (Deserializer R C)) (human lends : Bool) (e : Error)
      → RefusesPart g human lends (IsPlace (bytes_of names)) (λ s. RefusesName s.strict) (lends ≡ true) (max 1 (mid.room - 1)) mid new e
      → NamesNone g names lends old new e
  pair_refused b human lends e r =
      let inner = old.room - 1 in
      let f = subst (λ z. FailsPart g (IsPlace (bytes_of names)) (max 1 (z - 1)) mid new e) h.stays.room r.fails in
      let room : room_of old ≡ max 1 inner + 1 = omega (arith, deep) in
      let start = pair_at b mid 1 false inner in
      let o = pair_opens g b old mid inner h.fresh h.ok room h.stays h.sound h.failed h.clean in
      let Q : Unit {0} → ℕ × Option Msg → Type 0 = λ u p. Unit {0} in
      let l = map_take g (Alone (bytes_of names) Q) old start start o new no_items (map_start g start o.opened) (IsPlace (bytes_of names))
      (pair_at b new 1 false inner) e (omega arith) f refl (key_is_name (bytes_of names)) in
      let w = lawful_after g (λ m u. OfMap (Alone (bytes_of names) Q u) m) (λ m u. OfVariant (bytes_of names) (Q u) m) old mid new e (Map 1) h.ok
      (is_alone (bytes_of names) Q 1) l in
      none_opened g names lends old new e f.failed w.stays (λ b. absurd (let o = h.fresh in cc))
      (λ o n k. refuses_narrower (SpellsAs old.strict) (Readable (λ m (u : Unit {0}). OfVariant (bytes_of names) (Q u) m)) (IsVariant (bytes_of names)) _ _
      (λ m v. (tt, v)) (w.err o n k))
      (λ _ human lent. inr (record {
        inner = max 1 inner;
        many = 1;
        bytes = h.ok.bytes;
        rest = left g mid;
        takes = h.ok.takes;
        is_head = h.ok.is_head;
        room_of = room;
        refused = (
          refl,
          subst (λ z. RefusesName z (faults_of g old) (faults_of g new) (left g mid) e) h.stays.strict
              (subst (λ z. RefusesName mid.strict z (faults_of g new) (left g mid) e) h.sound r.named),
          subst (λ z. Explains e (faults_of g old) (faults_of g new) (Refuses (SpellsAs z) (Readable (IsPlace (bytes_of names))) (max 1 inner) (left g mid)))
              h.stays.strict (subst (λ z. Explains e z (faults_of g new)
              (Refuses (SpellsAs mid.strict) (Readable (IsPlace (bytes_of names))) (max 1 inner) (left g mid))) h.sound f.err),
        );
      }))
      r.memory

-- ---- content

module _ {R C V : Type 0} (g : Ghosts R) (names : List (List ℕ)) (n : ℕ) (old : Deserializer R C) (v : Variant R C) (o : OpensVariant g names n old v)
    (new last : Deserializer R C) (reads : Msg → V → Type 0) where
  pair_of : v.bare ≡ false → TakesKeyOf g names n old v.de.now v.inner
  pair_of b = subst (λ z. TakesNameOf g names n z old v.de.now v.inner) b o.name

  content_is : (k c : Msg) (Q : ℕ × Option Msg → Type 0) → name_of names k ≡ Some (Some n) → MatchOption (placed (Some c) (name_of names k)) ⊥ Q → Q (n, Some c)
  content_is k c Q e h = subst (λ z. MatchOption (placed (Some c) z) ⊥ Q) e h

  content_has : (k c : Msg) (Q : ℕ × Option Msg → Type 0) → name_of names k ≡ Some (Some n) → Q (n, Some c)
      → MatchOption (placed (Some c) (name_of names k)) ⊥ Q
  content_has k c Q e h = subst (λ z. MatchOption (placed (Some c) z) ⊥ Q) (sym e) h

  -- the content was read
  pub content_read : (x : V) → v.bare ≡ false → TakesPart g reads (max 1 v.inner) v.de.now new x → last ≡ record new { failed = false }
      → Lawful g (λ m y. OfVariant names (IsAt n (Content (λ k. reads k y))) m) old last (Ok x)
  unfolding IsAt
  content_read x b p q =
      let t = pair_of b in
      let start = pair_at v.de t.between 1 false v.inner in
      let key = pair_at v.de v.de.now 0 true v.inner in
      let after = pair_at v.de new 0 false v.inner in
      let opened = pair_opens g v.de old t.between v.inner o.fresh t.head t.room t.stays t.faults_same t.marked t.clean in
      let taken : TakesKey g (IsPlace names) start key n = record {
        part = t.key;
        fewer = refl;
        owes = refl;
        count = refl;
        inner = refl;
        still = record
            { sound = refl; marked = t.key.marked; clean = t.key.clean };
      } in
      let half = map_key g (IsPlace names) start start key no_items n (map_start g start opened.opened) refl taken refl in
      let took : TakesValue g reads key after x = record
      { part = p; same_left = refl; owes = refl; count = refl; inner = refl; still = record { sound = refl; marked = p.marked; clean = p.clean } } in
      let all = map_value g reads start key after (push no_items t.key.tree) x half refl took refl in
      lawful_ok g (λ m y. OfMap (Alone names (λ y. IsAt n (Content (λ k. reads k y))) y) m) (λ m y. OfVariant names (IsAt n (Content (λ k. reads k y))) m)
      old last x x (of_alone names (λ y. IsAt n (Content (λ k. reads k y))) x)
      (map_done g (Alone names (λ y. IsAt n (Content (λ k. reads k y)))) old start after opened last (pair t.key.tree p.tree no_pairs) all x
      (content_has t.key.tree p.tree (IsAt n (Content (λ k. reads k x))) t.key.value (refl, p.value)) refl refl q)

  -- the content was refused
  pub content_refused : (e : Error) → v.bare ≡ false → FailsPart g reads (max 1 v.inner) v.de.now new e → last ≡ new
      → Lawful g (λ m (u : Unit {0}). OfVariant names (IfAt n (Content (Readable reads))) m) old last (Err e)
  unfolding IfAt
  content_refused e b f q =
      let t = pair_of b in
      let start = pair_at v.de t.between 1 false v.inner in
      let key = pair_at v.de v.de.now 0 true v.inner in
      let after = pair_at v.de new 0 false v.inner in
      let opened = pair_opens g v.de old t.between v.inner o.fresh t.head t.room t.stays t.faults_same t.marked t.clean in
      let taken : TakesKey g (IsPlace names) start key n = record {
        part = t.key;
        fewer = refl;
        owes = refl;
        count = refl;
        inner = refl;
        still = record
            { sound = refl; marked = t.key.marked; clean = t.key.clean };
      } in
      let half = map_key g (IsPlace names) start start key no_items n (map_start g start opened.opened) refl taken refl in
      let Q : Unit {0} → ℕ × Option Msg → Type 0 = λ u. IfAt n (Content (Readable reads)) in
      lawful_after g (λ m u. OfMap (Alone names Q u) m) (λ m u. OfVariant names (Q u) m) old t.between last e (Map 1) t.head (is_alone names Q 1)
      (map_take g (Alone names Q) old start key opened last (push no_items t.key.tree) half reads after e (omega arith) f q (next t.key.tree t.key.value))
    where
      next : (k : Msg) → name_of names k ≡ Some (Some n) → (m : Msg) (ks : Msgs) (u : Unit {0}) (ps : Pairs)
          → flat ps ≡ append (item k no_items) (item m ks) → MatchOption (variant_in names ps) ⊥ (IfAt n (Content (Readable reads))) → Readable reads m
      next k e m ks u no_pairs i h = absurd h
      next k e m ks u (pair a b (pair c d ps)) i h = absurd h
      next k e m ks u (pair a b no_pairs) i h =
          let ak : a ≡ k = cc in
          let bm : b ≡ m = cc in
          let x = content_is a b (IfAt n (Content (Readable reads))) (ap (name_of names) ak ∙ e) h refl in
          subst (Readable reads) bm x

module _ {R C V : Type 0} (g : Ghosts R) (names : List (List ℕ)) (n : ℕ) (old : Deserializer R C) (v : Variant R C) (o : OpensVariant g names n old v)
    (last : Deserializer R C) (reads : Msg → V → Type 0) where
  -- the same by a read of its own from a reader that has the content's room
  pub content_by : (rest : Deserializer R C) (x : V) → v.bare ≡ false → Lawful g reads (part_reader v.de.now v.inner) rest (Ok x)
      → last ≡ record rest { room = v.de.now.room } → Lawful g (λ m y. OfVariant names (IsAt n (Content (λ k. reads k y))) m) old last (Ok x)
  content_by rest x b l q = let r = l.ok in
      content_read g names n old v o (record rest { room = v.de.now.room; failed = true }) last reads x b (record {
        bytes = r.bytes;
        tree = r.tree;
        takes = r.takes;
        goes_on = r.goes_on;
        spelled = r.spelled;
        fits = r.fits;
        value = r.value;
        stays = record { config = l.stays.config; room = refl; limit = l.stays.limit; strict = l.stays.strict; place = l.stays.place };
        faults_same = l.sound;
        clean = l.clean;
        marked = refl;
      }) (q ∙ ap (λ z. record rest { room = v.de.now.room; failed = z }) l.ready)

  pub content_not_by : (rest : Deserializer R C) (e : Error) → v.bare ≡ false → Lawful g reads (part_reader v.de.now v.inner) rest (Err e)
      → last ≡ record rest { room = v.de.now.room } → Lawful g (λ m (u : Unit {0}). OfVariant names (IfAt n (Content (Readable reads))) m) old last (Err e)
  content_not_by rest e b l q = content_refused g names n old v o (record rest { room = v.de.now.room }) last reads e b (record {
    stays = record { config = l.stays.config; room = refl; limit = l.stays.limit; strict = l.stays.strict; place = l.stays.place };
    failed = l.failed;
    err = λ x k. l.err refl x k;
  }) q

-- ---- a name that is alone

-- it is the variant at its place, without content
alone_is : (names : List (List ℕ)) (m : Msg) (n : ℕ) → name_of names m ≡ Some (Some n) → variant_of names m ≡ Some (n, None)
alone_is names nil n e = absurd (cc)
alone_is names (truth t) n e = absurd (cc)
alone_is names (whole z) n e = ap (placed None) e
alone_is names (float32 k) n e = absurd (cc)
alone_is names (float64 k) n e = absurd (cc)
alone_is names (text s) n e = ap (placed None) e
alone_is names (bin s) n e = ap (placed None) e
alone_is names (list ms) n e = absurd (cc)
alone_is names (map ps) n e = absurd (cc)
alone_is names (extension tag s) n e = absurd (cc)

module _ {R C : Type 0} (g : Ghosts R) (names : List (List ℕ)) (n : ℕ) (old : Deserializer R C) (v : Variant R C) (o : OpensVariant g names n old v)
    (last : Deserializer R C) where
  -- content is wanted, and there is none
  pub bare_refused : (P : Msg → Type 0) (e : Error) → v.bare ≡ true → last ≡ v.de.now
      → Lawful g (λ m (u : Unit {0}). OfVariant names (IfAt n (Content P)) m) old last (Err e)
  unfolding OfVariant IfAt
  bare_refused P e b q =
      let r = subst (λ z. TakesNameOf g names n z old v.de.now v.inner) b o.name in
      rw q (refused g (λ m (u : Unit {0}). OfVariant names (IfAt n (Content P)) m) old v.de.now e o.fresh o.marked o.stays
      (λ _ _. refuses_other _ _ _ _ _ r.bytes r.tree r.takes r.spelled (λ h. no r.tree (alone_is names r.tree n r.value) h.1)))
    where
      no : (m : Msg) → variant_of names m ≡ Some (n, None) → MatchOption (variant_of names m) ⊥ (IfAt n (Content P)) → ⊥
      no m is h = (subst (λ z. MatchOption z ⊥ (IfAt n (Content P))) is h) refl

  -- none is wanted
  pub bare_read : v.bare ≡ true → last ≡ record v.de.now { failed = false } → Lawful g (λ m (u : Unit {0}). OfVariant names (IsAt n Bare) m) old last (Ok tt)
  unfolding OfVariant IsAt
  bare_read b q =
      let r = subst (λ z. TakesNameOf g names n z old v.de.now v.inner) b o.name in
      rw q (record {
        ok = record {
          bytes = r.bytes;
          tree = r.tree;
          takes = r.takes;
          goes_on = r.goes_on;
          spelled = r.spelled;
          fits = r.fits;
          value = subst
              (λ z. MatchOption z ⊥ (IsAt n Bare)) (sym (alone_is names r.tree n r.value)) (refl, tt);
        };
        ready = refl;
        clean = o.clean;
        sound = o.faults_same;
        err = λ _. tt;
        failed = tt;
        before = λ f. absurd (let z = o.fresh in cc);
        stays = record { config = o.stays.config; room = o.stays.room; limit = o.stays.limit; strict = o.stays.strict; place = o.stays.place };
      })

  -- ---- nil as content

  nil_flat : (m : Msg) → Readable (λ k (u : Unit {0}). k ≡ nil) m → depth m ≡ 0
  nil_flat m r = ap depth r.1

  module _ (new : Deserializer R C) where
    pub nil_read : v.bare ≡ false → Lawful g (λ m (u : Unit {0}). m ≡ nil) (record v.de.now { failed = false }) new (Ok tt) → last ≡ new
        → Lawful g (λ m (u : Unit {0}). OfVariant names (IsAt n Bare) m) old last (Ok tt)
    unfolding OfVariant IsAt
    nil_read b l q = lawful_ok g (λ m (u : Unit {0}). OfVariant names (IsAt n (Content (λ k. k ≡ nil))) m)
        (λ m (u : Unit {0}). OfVariant names (IsAt n Bare) m) old last tt tt (λ m h. go (variant_of names m) h)
        (content_read g names n old v o (record new { failed = true }) last (λ k (u : Unit {0}). k ≡ nil) tt b (let r = l.ok in record {
          bytes = r.bytes;
          tree = r.tree;
          takes = r.takes;
          goes_on = r.goes_on;
          spelled = r.spelled;
          fits = omega (arith, ap depth r.value);
          value = r.value;
          stays = record { config = l.stays.config; room = l.stays.room; limit = l.stays.limit; strict = l.stays.strict; place = l.stays.place };
          faults_same = l.sound;
          clean = l.clean;
          marked = refl;
        }) (q ∙ ap (λ z. record new { failed = z }) l.ready))
      where
        side : (c : Option Msg) → Content (λ k. k ≡ nil) c → Bare c
        side None h = absurd h
        side (Some m) h = h

        go : (x : Option (ℕ × Option Msg)) → MatchOption x ⊥ (λ p. (p.0 ≡ n) × Content (λ k. k ≡ nil) p.1) → MatchOption x ⊥ (λ p. (p.0 ≡ n) × Bare p.1)
        go None h = h
        go (Some p) h = (h.0, side p.1 h.1)

    pub nil_refused : (e : Error) → v.bare ≡ false → Lawful g (λ m (u : Unit {0}). m ≡ nil) (record v.de.now { failed = false }) new (Err e) → last ≡ new
        → Lawful g (λ m (u : Unit {0}). OfVariant names (IfAt n Bare) m) old last (Err e)
    unfolding OfVariant IfAt
    nil_refused e b l q =
        let t = pair_of g names n old v o new last (λ k (u : Unit {0}). k ≡ nil) b in
        lawful_after g (λ m (u : Unit {0}). OfVariant names (IfAt n (Content (Readable (λ k (u : Unit {0}). k ≡ nil)))) m)
        (λ m (u : Unit {0}). OfVariant names (IfAt n Bare) m) old t.between last e (Map 1) t.head (λ m i h. (tt, pairs m 1 i h.1))
        (content_refused g names n old v o new last (λ k (u : Unit {0}). k ≡ nil) e b (record {
          stays = record { config = l.stays.config; room = l.stays.room; limit = l.stays.limit; strict = l.stays.strict; place = l.stays.place };
          failed = l.failed;
          err = λ x k. refuses_leaves v.de.now.strict (Readable (λ k (u : Unit {0}). k ≡ nil)) (max 1 v.inner) (room_of v.de.now) (left g v.de.now) nil_flat
              (omega arith) (l.err refl x k);
        }) q)
      where
        side : (m : Msg) (x : Option (Option ℕ)) → MatchOption (placed (Some m) x) ⊥ (λ p. p.0 ≡ n → Bare p.1)
            → MatchOption (placed (Some m) x) ⊥ (λ p. p.0 ≡ n → Content (Readable (λ k (u : Unit {0}). k ≡ nil)) p.1)
        side m None h = h
        side m (Some None) h = h
        side m (Some (Some k)) h = λ e. (tt, h e)

        pairs : (m : Msg) (k : ℕ) → head_of m ≡ Map k → MatchOption (variant_of names m) ⊥ (λ p. p.0 ≡ n → Bare p.1)
            → MatchOption (variant_of names m) ⊥ (λ p. p.0 ≡ n → Content (Readable (λ k (u : Unit {0}). k ≡ nil)) p.1)
        pairs nil k i h = absurd (cc)
        pairs (truth t) k i h = absurd (cc)
        pairs (whole z) k i h = absurd (cc)
        pairs (float32 b) k i h = absurd (cc)
        pairs (float64 b) k i h = absurd (cc)
        pairs (text s) k i h = absurd (cc)
        pairs (bin s) k i h = absurd (cc)
        pairs (list ms) k i h = absurd (cc)
        pairs (map no_pairs) k i h = h
        pairs (map (pair a b no_pairs)) k i h = side b (name_of names a) h
        pairs (map (pair a b (pair c d ps))) k i h = h
        pairs (extension tag s) k i h = absurd (cc)

-- ---- content by a function

module _ {F R C X : Type 0} (g : Ghosts R) (once : Reading F R C X) (f : F) (reads : Msg → X
    → Type 0) (names : List (List ℕ)) (n : ℕ) (old : Deserializer R C) (v : Variant R C) (o : OpensVariant g names n old v) (new last : Deserializer R C)
    (law : (rest : Deserializer R C) (gave : Result X Error) → FnOnceReturnsAtMut once f (part_reader v.de.now v.inner) gave rest
    → Lawful g reads (part_reader v.de.now v.inner) rest gave) where
  -- it read the content
  pub given_read : (x : X) → (v.bare ≡ true → (◌≡◌ {A = Result X Error} (Ok x) (Err (Syntax InvalidType))) × (new ≡ v.de.now))
      → (v.bare ≡ false → ContentGiven once f v.inner v.de.now new (Ok x)) → last ≡ new
      → Lawful g (λ m y. OfVariant names (IsAt n (Content (λ k. reads k y))) m) old last (Ok x)
  given_read x b p q = go v.bare refl
    where
      go : (z : Bool) → v.bare ≡ z → Lawful g (λ m y. OfVariant names (IsAt n (Content (λ k. reads k y))) m) old last (Ok x)
      go true z = absurd (let e = (b z).0 in cc)
      go false z = let c = p z in content_read g names n old v o c.after last reads x z (part_taken g once f reads v.inner v.de.now c.after x law c.part)
          (q ∙ c.ready)

  -- it refused the content, or there was none
  pub given_refused : (e : Error) → (v.bare ≡ true → (◌≡◌ {A = Result X Error} (Err e) (Err (Syntax InvalidType))) × (new ≡ v.de.now))
      → (v.bare ≡ false → ContentGiven once f v.inner v.de.now new (Err e)) → last ≡ new
      → Lawful g (λ m (u : Unit {0}). OfVariant names (IfAt n (Content (Readable reads))) m) old last (Err e)
  given_refused e b p q = go v.bare refl
    where
      go : (z : Bool) → v.bare ≡ z → Lawful g (λ m (u : Unit {0}). OfVariant names (IfAt n (Content (Readable reads))) m) old last (Err e)
      go true z = bare_refused g names n old v o last (Readable reads) e z (q ∙ (b z).1)
      go false z = let c = p z in content_refused g names n old v o c.after last reads e z (part_fails g once f reads v.inner v.de.now c.after e law c.part)
          (q ∙ c.failed)
