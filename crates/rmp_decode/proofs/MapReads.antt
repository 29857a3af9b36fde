-- What happened at the read of a map, each once: all that the read promises follows from it.
use Rattle.std.proofs.Common.{◌≡◌, ◌∙◌, sym, ap, subst, inl, inr, arith, ◌<◌, ◌++◌, ◌∷◌, [], Bool, true, false, List, Ok, Err}
use Rattle.rmp_wire.specs.declared.source.Source.{Ghosts}
use Rattle.rmp_wire.specs.Canonical.{SpellsAs}
use Rattle.rmp_wire.specs.Msg.{Msg, Pairs, no_pairs, pair, count_pairs}
use Rattle.rmp_decode.specs.Law.{Readable}
use Rattle.rmp_decode.specs.MapRefusing.{EntryRefused, KeyRefused, PairRefused, RefusesPairs}
use Rattle.rmp_decode.specs.Maps.{OfMap, FailsToOpenMap, map_inner, to_come, OpensMap, TakesKey, TakesValue, ReadsPairs}
use Rattle.rmp_decode.specs.Parts.{FailsPart}
use Rattle.rmp_decode.specs.Refusing.{Setting, Refusals, ReadsAs, setting_of, inside}
use Rattle.rmp_decode.specs.Seq.{SpellsRow}
use Rattle.rmp_decode.specs.State.{left, faults_of}
use Rattle.rmp_decode.specs.declared.deserializer.Deserializer.{Deserializer}
use Rattle.rmp_decode.specs.declared.access.map.MapAccess.{MapAccess}
use Rattle.rmp_decode.specs.declared.error.Error.{Error}
use Rattle.rmp_decode.specs.declared.error.Error.TheVariants.{OutOfMemory}
use Rattle.rmp_decode.proofs.Settings.{setting_same}
use Rattle.rmp_decode.proofs.Maps.{flat, in_pairs, count-flat, depth-flat, settled, Entries, entries_step, map_unopened, map_done, map_unkept}
use Rattle.rmp_decode.proofs.Maps.{map_take, map_key}
use Rattle.rmp_decode.proofs.Maps.{key_next, value_next}
use Rattle.rmp_decode.proofs.Rows.{push}

-- there is a pair
some_pair : {K V : Type 0} (keys : Msg → K → Type 0) (values : Msg → V → Type 0) (ps : Pairs) (es : List (K × V)) (e : K × V)
    → ReadsPairs keys values ps (es ++ e ∷ []) → 0 < count_pairs ps
some_pair keys values no_pairs [] e r = absurd r
some_pair keys values no_pairs (n ∷ es) e r = absurd r
some_pair keys values (pair k v ps) es e r = omega arith

owing : {R C : Type 0} (a : MapAccess R C) → a.owes ≡ true → 0 < to_come a
owing a e = rw e (omega arith)

-- what is read of pairs: entries that are collected into this
abbrev Made : {K V X : Type 0} → (Msg → K → Type 0) → (Msg → V → Type 0) → (X → List (K × V) → Type 0) → X → Pairs → Type 0
Made {K} {V} keys values collects x ps = (es : List (K × V)) × ReadsPairs keys values ps es × collects x es

module _ {R C K V X : Type 0} {g : Ghosts R} {human lends : Bool} (keys : Bool → Bool → Msg → K → Type 0) (values : Bool → Bool → Msg → V → Type 0)
    (key_refused value_refused : Setting → Refusals) (collects : X → List (K × V) → Type 0) {old : Deserializer R C} (last : Deserializer R C) where
  -- it can't be opened
  pub map_closed : {e : Error} → FailsToOpenMap g old last e
      → ReadsAs g human lends true (λ m x. OfMap (Made (keys human lends) (values human lends) collects x) m)
      (RefusesPairs keys values key_refused value_refused) old last (Err e)
  map_closed {e} f = record {
    law = map_unopened g (Made (keys human lends) (values human lends) collects) old last e f;
    refused = λ o. inl (f.exact o);
    memory = λ t. absurd (cc);
  }

  module _ {start mid : MapAccess R C} {es : List (K × V)} (o : OpensMap g old start)
      (r : Entries g (keys human lends) (values human lends) start mid es) where
    -- after the pairs that were read
    after_pairs : (e : Error) → PairRefused (inside (setting_of human lends old) (map_inner start)) (Readable (keys human lends)) key_refused value_refused
        (faults_of g old) (faults_of g last) mid.left (left g mid.de.now) e
        → RefusesPairs keys values key_refused value_refused (setting_of human lends old) (faults_of g old) (faults_of g last) (left g old) e
    after_pairs e w = inr (record {
      inner = map_inner start;
      many = start.left;
      bytes = o.head.bytes;
      rest = left g start.de.now;
      takes = o.head.takes;
      is_head = o.head.is_head;
      room_of = o.room;
      refused = inl (record {
        bytes = r.run.bytes;
        rest = left g mid.de.now;
        trees = r.trees;
        still = mid.left;
        takes = r.run.takes;
        spelled = in_pairs old.strict r.trees r.run.bytes (subst (λ z. SpellsRow (SpellsAs z) r.run.bytes (flat r.trees)) o.stays.strict r.run.spelled);
        many = omega (arith, r.run.many, count-flat r.trees, settled mid r.at_key, settled start o.at_key);
        fits = omega (arith, r.run.fits, depth-flat r.trees);
        holds = (es, r.reads);
        refused = w;
      });
    })

    mid_room : map_inner mid ≡ map_inner start
    mid_room = let q = r.run.inner in omega arith

    -- the pairs are all
    pub map_whole : (x : X) → collects x es → mid.left ≡ 0 → last ≡ record mid.de.now { failed = false }
        → ReadsAs g human lends true (λ m x. OfMap (Made (keys human lends) (values human lends) collects x) m)
        (RefusesPairs keys values key_refused value_refused) old last (Ok x)
    map_whole x h z q = record {
      law = map_done g (Made (keys human lends) (values human lends) collects) old start mid o last r.trees r.run x (es, r.reads, h) z r.at_key q;
      refused = λ _. tt;
      memory = λ _. tt;
    }

    -- the next key was refused
    pub key_refuses : {e : Error} (now : MapAccess R C) → FailsPart g (keys human lends) (map_inner mid) mid.de.now now.de.now e
        → KeyRefused g human lends key_refused mid now e → last ≡ now.de.now
        → ReadsAs g human lends true (λ m x. OfMap (Made (keys human lends) (values human lends) collects x) m)
        (RefusesPairs keys values key_refused value_refused) old last (Err e)
    key_refuses {e} now f h q =
        let i = inside (setting_of human lends old) (map_inner start) in
        let s = setting_same human lends mid.de.now old (map_inner mid) (map_inner start) (r.run.stays.strict ∙ o.stays.strict) mid_room in
        let w1 = subst (λ z. key_refused z (faults_of g mid.de.now) (faults_of g now.de.now) (left g mid.de.now) e) s h.1 in
        let w2 = subst (λ z. key_refused i z (faults_of g now.de.now) (left g mid.de.now) e) (r.run.faults_same ∙ o.faults_same) w1 in
        record {
          law = map_take g (Made (keys human lends) (values human lends) collects) old start mid o last (flat r.trees) r.run (keys human lends) now e
              (omega (arith, h.0)) f q (λ m ks x ps p k. key_next (keys human lends) (values human lends) r.trees ps m ks k.0 p k.1);
          refused = λ _. after_pairs e (h.0, inl (subst (λ z. key_refused i (faults_of g old) z (left g mid.de.now) e) (sym (ap (faults_of g) q)) w2));
          memory = λ t. absurd (cc);
        }

    module _ {key : MapAccess R C} {k : K} (t : TakesKey g (keys human lends) mid key k) (m : key.de.ghost_name ≡ mid.de.ghost_name) where
      -- the value of the key that was read last was refused
      pub value_refuses : {e : Error} (now : MapAccess R C) → FailsPart g (values human lends) (map_inner key) key.de.now now.de.now e
          → EntryRefused g human lends value_refused key now e → last ≡ now.de.now
          → ReadsAs g human lends true (λ m x. OfMap (Made (keys human lends) (values human lends) collects x) m)
          (RefusesPairs keys values key_refused value_refused) old last (Err e)
      value_refuses {e} now f h q =
          let i = inside (setting_of human lends old) (map_inner start) in
          let room : map_inner key ≡ map_inner start = let a = t.inner in let b = r.run.inner in omega arith in
          let s = setting_same human lends key.de.now old (map_inner key) (map_inner start) (t.part.stays.strict ∙ r.run.stays.strict ∙ o.stays.strict) room
          in
          let w1 = subst (λ z. value_refused z (faults_of g key.de.now) (faults_of g now.de.now) (left g key.de.now) e) s h in
          let w2 = subst (λ z. value_refused i z (faults_of g now.de.now) (left g key.de.now) e) (t.part.faults_same ∙ r.run.faults_same ∙ o.faults_same) w1
          in
          let w3 = subst (λ z. value_refused i (faults_of g old) z (left g key.de.now) e) (sym (ap (faults_of g) q)) w2 in
          record {
            law = map_take g (Made (keys human lends) (values human lends) collects) old start key o last (push (flat r.trees) t.part.tree)
                (map_key g (keys human lends) start mid key (flat r.trees) k r.run r.at_key t m) (values human lends) now e (owing key t.owes) f q
                (λ v ks x ps p n. value_next (keys human lends) (values human lends) r.trees ps t.part.tree v ks n.0 p n.1);
            refused = λ _. after_pairs e (
              omega (arith, t.fewer),
              inr (record {
                bytes = t.part.bytes;
                rest = left g key.de.now;
                tree = t.part.tree;
                takes = t.part.takes;
                spelled = subst (λ z. SpellsAs z t.part.bytes t.part.tree) (r.run.stays.strict ∙ o.stays.strict) t.part.spelled;
                fits = omega (arith, t.part.fits, mid_room);
                holds = (k, t.part.value);
                refused = w3;
              }),
            );
            memory = λ t. absurd (cc);
          }

      -- a pair was read for which memory was short
      pub pair_unkept : {now : MapAccess R C} {v : V} → TakesValue g (values human lends) key now v → now.de.ghost_name ≡ key.de.ghost_name
          → last ≡ now.de.now
          → ReadsAs g human lends true (λ m x. OfMap (Made (keys human lends) (values human lends) collects x) m)
          (RefusesPairs keys values key_refused value_refused) old last (Err OutOfMemory)
      pair_unkept {now} {v} u n q =
          let w = entries_step g (keys human lends) (values human lends) start mid key now es k v r t m u n in
          record {
            law = map_unkept g (Made (keys human lends) (values human lends) collects) old start now o last (flat w.trees) w.run q;
            refused = λ _. inr (record {
              inner = map_inner start;
              many = start.left;
              bytes = o.head.bytes;
              rest = left g start.de.now;
              takes = o.head.takes;
              is_head = o.head.is_head;
              room_of = o.room;
              refused = inr (record {
                bytes = w.run.bytes;
                rest = left g now.de.now;
                trees = w.trees;
                still = now.left;
                takes = w.run.takes;
                spelled = in_pairs old.strict w.trees w.run.bytes (subst (λ z. SpellsRow (SpellsAs z) w.run.bytes (flat w.trees)) o.stays.strict
                    w.run.spelled);
                many = omega (arith, w.run.many, count-flat w.trees, settled now w.at_key, settled start o.at_key);
                fits = omega (arith, w.run.fits, depth-flat w.trees);
                holds = (some_pair (keys human lends) (values human lends) w.trees es (k, v) w.reads, (es ++ (k, v) ∷ [], w.reads));
                refused = λ i. OutOfMemory;
              });
            });
            memory = λ t. absurd (cc);
          }
