-- What the read of a struct says, from what its opening, its keys, its values and its end say.
use Rattle.std.proofs.Common.{◌≡◌, ◌∙◌, sym, ap, subst, refl, inl, inr, ◌⊎◌, ℕ, suc, ◌<◌, arith, List, length, Bool, cond, nat_eq, true, false}
use Rattle.std.proofs.Common.{Option, None, Some, MatchOption, Ok, Err}
use Rattle.std.specs.Option.{option_and_then}
use Rattle.std.specs.Io.KnownBytes.{Consumes}
use Rattle.rmp_wire.specs.declared.head.Head.{Head}
use Rattle.rmp_wire.specs.declared.head.Head.TheVariants.{Map}
use Rattle.rmp_wire.specs.declared.source.Source.{Ghosts}
use Rattle.rmp_wire.specs.Canonical.{heads_of, SpellsAs}
use Rattle.rmp_wire.specs.Msg.{Msg, bin, list, map, Msgs, no_items, item, Pairs, no_pairs, count}
use Rattle.rmp_wire.specs.Spelling.{head_of}
use Rattle.rmp_decode.specs.Fields.{blank, put, put_named, met, given, given_all, OfFields, at, Fills, IsFull, HasFields, not_fields, FailsToOpenFields}
use Rattle.rmp_decode.specs.Law.{Refuses, Readable, Lawful, TakesHead}
use Rattle.rmp_decode.specs.Maps.{OfMap, map_inner, owed, to_come, IsMapOpen, OpensMap, TakesKey, TakesValue}
use Rattle.rmp_decode.specs.Names.{IsName}
use Rattle.rmp_decode.specs.Parts.{FailsPart}
use Rattle.rmp_decode.specs.Seq.{numbers, OfRow, seq_head}
use Rattle.rmp_decode.specs.Skip.{any_tree}
use Rattle.rmp_decode.specs.State.{left}
use Rattle.rmp_decode.specs.declared.deserializer.Deserializer.{Deserializer}
use Rattle.rmp_decode.specs.declared.access.map.MapAccess.{MapAccess}
use Rattle.rmp_decode.specs.declared.error.Error.{Error}
use Rattle.rmp_decode.proofs.Laws.{stays_refl, lawful_ok, unopened}
use Rattle.rmp_decode.proofs.Maps.{flat, push_pair, flat-push, Flat, MapRun, map_start, map_key, map_value, map_done, map_refused, map_take}
use Rattle.rmp_decode.proofs.Meeting.{met_push, none_met, key_named, value_put}
use Rattle.rmp_decode.proofs.NothingAccepted.{same_head}
use Rattle.rmp_decode.proofs.Rows.{push, append, count_refused}

-- what is refused after a head, of trees that begin with it
refuses_slow : (w : Bool) (P Q : Msg → Type 0) (room : ℕ) (known k : Option (List ℕ)) (b : List ℕ) (h : Head) → Consumes known k b → heads_of w h b
    → ((m : Msg) → head_of m ≡ h → Q m → P m) → Refuses (SpellsAs w) P room known → Refuses (SpellsAs w) Q room known
unfolding Refuses
refuses_slow w P Q room None k b h t i f r = tt
refuses_slow w P Q room (Some xs) None b h t i f r = absurd t
refuses_slow w P Q room (Some xs) (Some ys) b h t i f r = λ a. r
    (record {
      bytes = a.bytes;
      rest = a.rest;
      tree = a.tree;
      front = a.front;
      spelled = a.spelled;
      fits = a.fits;
      holds = f a.tree
          (same_head w a.tree h a.bytes b a.rest ys a.spelled i (sym a.front ∙ t)).0 a.holds;
    })

-- a refusal of a message whose head was taken
pub lawful_slow : {R C V W : Type 0} (g : Ghosts R) (reads : Msg → V → Type 0) (reads' : Msg → W
    → Type 0) (old mid new : Deserializer R C) (e : Error) (h : Head) → TakesHead g h old mid
    → ((m : Msg) → head_of m ≡ h → Readable reads' m → Readable reads m)
    → Lawful g reads old new (Err e) → Lawful g reads' old new (Err e)
lawful_slow g reads reads' old mid new e h t f l = record {
  ok = tt;
  ready = tt;
  clean = tt;
  sound = tt;
  err = λ o n k. refuses_slow old.strict (Readable reads) (Readable reads') _ _ (left g mid) t.bytes h t.takes t.is_head f (l.err o n k);
  failed = l.failed;
  before = l.before;
  stays = l.stays;
}

pub has_fields : (names : List (List ℕ)) (Q : List (Option Msg) → Type 0) (m : Msg) → OfFields names Q m → HasFields m
has_fields names Q (bin s) h = tt
has_fields names Q (list ms) h = tt
has_fields names Q (map ps) h = tt
has_fields names Q m h = h

-- nothing could be opened
pub fields_unopened : {R C V : Type 0} (g : Ghosts R) (names : List (List ℕ)) (Q : List (Option Msg) → V → Type 0) (old new : Deserializer R C) (e : Error)
    → FailsToOpenFields g old new e → Lawful g (λ m v. OfFields names (λ fs. Q fs v) m) old new (Err e)
fields_unopened g names Q old new e f = unopened g (λ m v. OfFields names (λ fs. Q fs v) m) HasFields not_fields old new e f
    (λ m h. has_fields names (λ fs. Q fs h.0) m h.1)

-- pairs whose fields are such
abbrev pub Meets : {V : Type 0} → List (List ℕ) → (List (Option Msg) → V → Type 0) → V → Pairs → Type 0
Meets names Q v ps = MatchOption (met names (blank names) ps) ⊥ (λ fs. Q fs v)

of_map : {V : Type 0} (names : List (List ℕ)) (Q : List (Option Msg) → V → Type 0) (v : V) (m : Msg) → OfMap (Meets names Q v) m
    → OfFields names (λ fs. Q fs v) m
of_map names Q v (map ps) h = h
of_map names Q v m h = absurd h

is_of_map : {V : Type 0} (names : List (List ℕ)) (Q : List (Option Msg) → V → Type 0) (n : ℕ) (m : Msg) → head_of m ≡ Map n
    → (v : V) × OfFields names (λ fs. Q fs v) m → (v : V) × OfMap (Meets names Q v) m
is_of_map names Q n (bin s) e h = absurd (cc)
is_of_map names Q n (list ms) e h = absurd (cc)
is_of_map names Q n (map ps) e h = h
is_of_map names Q n m e h = absurd h.1

-- ---- fields that were met so far

pub record FieldsRun {R C S : Type 0} (g : Ghosts R) (names : List (List ℕ)) (holds : List (Option Msg) → S
    → Type 0) (start now : MapAccess R C) (slots : S) : Type 0 where
  pub trees : Pairs
  pub met_trees : List (Option Msg)
  pub run : MapRun g start now (flat trees)
  pub is_met : met names (blank names) trees ≡ Some met_trees
  pub held : holds met_trees slots
  pub at_key : now.owes ≡ false

module _ {R C S : Type 0} (g : Ghosts R) (names : List (List ℕ)) (holds : List (Option Msg) → S → Type 0) where
  pub fields_start : (a : MapAccess R C) (s : S) → a.owes ≡ false → IsMapOpen a → holds (blank names) s → FieldsRun g names holds a a s
  fields_start a s w o h = record { trees = no_pairs; met_trees = blank names; run = map_start g a o; is_met = refl; held = h; at_key = w }

  module _ (start mid key now : MapAccess R C) (s : S) (r : FieldsRun g names holds start mid s) where
    -- a field more
    pub fields_step : (n : ℕ) (t : S) → TakesKey g (IsName names) mid key (Some n) → key.de.ghost_name ≡ mid.de.ghost_name → Fills g holds n key now s t
        → now.de.ghost_name ≡ key.de.ghost_name → FieldsRun g names holds start now t
    fields_step n t p m q o =
        let half = map_key g (IsName names) start mid key (flat r.trees) (Some n) r.run r.at_key p m in
        let x = q.filled r.met_trees r.held in
        record {
          trees = push_pair r.trees p.part.tree q.took.part.tree;
          met_trees = x.0;
          run = subst (MapRun g start now) (flat-push r.trees p.part.tree q.took.part.tree)
              (map_value g any_tree start key now (push (flat r.trees) p.part.tree) tt half p.owes q.took o);
          is_met = met_push names r.trees p.part.tree q.took.part.tree (blank names) r.met_trees r.is_met
              ∙ ap (option_and_then (λ o. put_named o q.took.part.tree r.met_trees)) p.part.value ∙ x.1;
          held = x.2;
          at_key = q.took.owes;
        }

    -- a pair that is passed over
    pub fields_pass : {V : Type 0} (reads : Msg → V → Type 0) (v : V) → TakesKey g (IsName names) mid key None → key.de.ghost_name ≡ mid.de.ghost_name
        → TakesValue g reads key now v → now.de.ghost_name ≡ key.de.ghost_name → FieldsRun g names holds start now s
    fields_pass reads v p m q o =
        let half = map_key g (IsName names) start mid key (flat r.trees) None r.run r.at_key p m in
        record {
          trees = push_pair r.trees p.part.tree q.part.tree;
          met_trees = r.met_trees;
          run = subst (MapRun g start now) (flat-push r.trees p.part.tree q.part.tree)
              (map_value g reads start key now (push (flat r.trees) p.part.tree) v half p.owes q o);
          is_met = met_push names r.trees p.part.tree q.part.tree (blank names) r.met_trees r.is_met
              ∙ ap (option_and_then (λ o. put_named o q.part.tree r.met_trees)) p.part.value;
          held = r.held;
          at_key = q.owes;
        }

-- ---- the law of the read

module _ {R C V S : Type 0} (g : Ghosts R) (names : List (List ℕ)) (holds : List (Option Msg) → S → Type 0) (Q : List (Option Msg) → V
    → Type 0) (old : Deserializer R C) (start mid : MapAccess R C) (o : OpensMap g old start) (s : S) (r : FieldsRun g names holds start mid s)
    (last : Deserializer R C) where
  widen : (e : Error) → Lawful g (λ m v. OfMap (Meets names Q v) m) old last (Err e) → Lawful g (λ m v. OfFields names (λ fs. Q fs v) m) old last (Err e)
  widen e l = lawful_slow g (λ m v. OfMap (Meets names Q v) m) (λ m v. OfFields names (λ fs. Q fs v) m) old start.de.now last e (Map start.left) o.head
      (is_of_map names Q start.left) l

  -- all are there
  pub fields_done : (v : V) → Q r.met_trees v → mid.left ≡ 0 → last ≡ record mid.de.now { failed = false }
      → Lawful g (λ m v. OfFields names (λ fs. Q fs v) m) old last (Ok v)
  fields_done v q z e = lawful_ok g (λ m v. OfMap (Meets names Q v) m) (λ m v. OfFields names (λ fs. Q fs v) m) old last v v (λ m h. of_map names Q v m h)
      (map_done g (Meets names Q) old start mid o last r.trees r.run v (subst (λ z. MatchOption z ⊥ (λ fs. Q fs v)) (sym r.is_met) q) z r.at_key e)

  -- a key was refused
  pub fields_key : (now : MapAccess R C) (e : Error) → 0 < mid.left → FailsPart g (IsName names) (map_inner mid) mid.de.now now.de.now e → last ≡ now.de.now
      → Lawful g (λ m v. OfFields names (λ fs. Q fs v) m) old last (Err e)
  fields_key now e l f q = widen e (map_take g (Meets names Q) old start mid o last (flat r.trees) r.run (IsName names) now e (omega (arith, l)) f q
      (λ m ks v qs p h. key_named names (λ fs. Q fs v) (blank names) r.met_trees r.trees r.is_met qs h m ks p))

  -- a field is missing
  pub fields_missing : (e : Error) → mid.left ≡ 0 → last ≡ mid.de.now → ((v : V) → Q r.met_trees v → ⊥)
      → Lawful g (λ m v. OfFields names (λ fs. Q fs v) m) old last (Err e)
  fields_missing e z q f = widen e (map_refused g (Meets names Q) old start mid o last (flat r.trees) r.run e (rw q (stays_refl g mid.de.now))
      (ap (λ (z : Deserializer R C). z.failed) q ∙ r.run.still.marked)
      (λ n k. count_refused (SpellsAs start.de.now.strict) _ (map_inner start) (to_come mid) (left g mid.de.now) none))
    where
      none : (ks : Msgs) → Flat (λ ps. (v : V) × Meets names Q v ps) (append (flat r.trees) ks) → count ks ≡ to_come mid → ⊥
      none no_items h c = f h.2.0 (none_met names (λ fs. Q fs h.2.0) (blank names) r.met_trees r.trees r.is_met h.0 h.2.1 h.1)
      none (item m ks) h c = omega (arith, z, ap owed r.at_key)

  module _ (key : MapAccess R C) (m : key.de.ghost_name ≡ mid.de.ghost_name) where
    -- a value of a field was refused, or the field was read before
    pub fields_value : (n : ℕ) (t : TakesKey g (IsName names) mid key (Some n)) (now : MapAccess R C) (e : Error) (takes : ℕ → Msg → Type 0)
        → ((fs : List (Option Msg)) (v : V) (n : ℕ) (m : Msg) → Q fs v → at n fs ≡ Some m → takes n m)
        → FailsPart g (λ m (u : Unit {0}). takes n m) (map_inner key) key.de.now now.de.now e ⊎ IsFull holds n key now s → last ≡ now.de.now
        → Lawful g (λ m v. OfFields names (λ fs. Q fs v) m) old last (Err e)
    fields_value n t now e takes law h q =
        let half = map_key g (IsName names) start mid key (flat r.trees) (Some n) r.run r.at_key t m in
        widen e (elim h [
          | inl f ↦ map_take g (Meets names Q) old start key o last (push (flat r.trees) t.part.tree) half (λ m (u : Unit {0}). takes n m) now e
              (omega (arith, ap owed t.owes)) f q
              (λ m ks v qs p h. let x = value_put names (λ fs. Q fs v) (blank names) r.met_trees r.trees r.is_met qs h t.part.tree n t.part.value m ks p
              in (tt, law x.1 v n m x.4 x.3))
          | inr f ↦ map_refused g (Meets names Q) old start key o last (push (flat r.trees) t.part.tree) half e
              (rw (q ∙ ap (λ (z : MapAccess R C). z.de.now) f.same) (stays_refl g key.de.now))
              (ap (λ (z : Deserializer R C). z.failed) (q ∙ ap (λ (z : MapAccess R C). z.de.now) f.same) ∙ half.still.marked)
              (λ n k. count_refused (SpellsAs start.de.now.strict) _ (map_inner start) (to_come key) (left g key.de.now) (none t f.full))
        ])
      where
        none : (t : TakesKey g (IsName names) mid key (Some n)) → ((fs : List (Option Msg)) → holds fs s → (m : Msg) → put n m fs ≡ None) → (ks : Msgs)
            → Flat (λ ps. (v : V) × Meets names Q v ps) (append (push (flat r.trees) t.part.tree) ks) → count ks ≡ to_come key → ⊥
        none t f no_items h c = omega (arith, ap owed t.owes)
        none t f (item m ks) h c =
            let x = value_put names (λ fs. Q fs h.2.0) (blank names) r.met_trees r.trees r.is_met h.0 h.2.1 t.part.tree n t.part.value m ks h.1 in
            let y = f r.met_trees r.held m in
            absurd (let z = x.2 in cc)

    -- a pair couldn't be passed over
    pub fields_passed : {W : Type 0} (reads : Msg → W → Type 0) → ((m : Msg) → Readable reads m)
        → (t : TakesKey g (IsName names) mid key None) (now : MapAccess R C) (e : Error) → FailsPart g reads (map_inner key) key.de.now now.de.now e
        → last ≡ now.de.now → Lawful g (λ m v. OfFields names (λ fs. Q fs v) m) old last (Err e)
    fields_passed reads all t now e f q =
        let half = map_key g (IsName names) start mid key (flat r.trees) None r.run r.at_key t m in
        widen e (map_take g (Meets names Q) old start key o last (push (flat r.trees) t.part.tree) half reads now e
        (omega (arith, ap owed t.owes)) f q (λ m ks v qs p h. all m))

-- ---- fields of a list

nat_eq_same : (n : ℕ) → nat_eq n n ≡ true
nat_eq_same n = grind (arith)

length_given : (ms : Msgs) → length (given_all ms) ≡ count ms
length_given no_items = refl
length_given (item m ms) = ap suc (length_given ms)

-- items whose fields are such
abbrev pub Gives : {V : Type 0} → (List (Option Msg) → V → Type 0) → V → Msgs → Type 0
Gives Q v ms = Q (given_all ms) v

pub gives_counted : {V : Type 0} (Q : List (Option Msg) → V → Type 0) (n : ℕ) → ((fs : List (Option Msg)) (v : V) → Q fs v → length fs ≡ n)
    → (v : V) (ms : Msgs)
    → Gives Q v ms → count ms ≡ n
gives_counted Q n counted v ms h = sym (length_given ms) ∙ counted (given_all ms) v h

module _ {V : Type 0} (names : List (List ℕ)) (Q : List (Option Msg) → V → Type 0) where
  when_given : (ms : Msgs) (v : V) → MatchOption (given names ms) ⊥ (λ fs. Q fs v) → Gives Q v ms
  when_given ms v h = go (nat_eq (count ms) (length names)) h
    where
      go : (b : Bool) → MatchOption (cond b (Some (given_all ms)) None) ⊥ (λ fs. Q fs v) → Gives Q v ms
      go true h = h
      go false h = absurd h

  pub is_of_row : (b : Bool) (n : ℕ) (m : Msg) → head_of m ≡ seq_head b n → (v : V) × OfFields names (λ fs. Q fs v) m → (v : V) × OfRow (Gives Q v) m
  is_of_row b n (bin s) e h = (h.0, when_given (numbers s) h.0 h.1)
  is_of_row b n (list ms) e h = (h.0, when_given ms h.0 h.1)
  is_of_row true n (map ps) e h = absurd (cc)
  is_of_row false n (map ps) e h = absurd (cc)
  is_of_row b n m e h = absurd h.1

  module _ (n : ℕ) (counted : (fs : List (Option Msg)) (v : V) → Q fs v → length fs ≡ n) (many : length names ≡ n) where
    are_given : (ms : Msgs) (v : V) → Gives Q v ms → MatchOption (given names ms) ⊥ (λ fs. Q fs v)
    are_given ms v h =
        let e : count ms ≡ length names = gives_counted Q n counted v ms h ∙ sym many in
        let t : nat_eq (count ms) (length names) ≡ true = ap (λ z. nat_eq z (length names)) e ∙ nat_eq_same (length names) in
        subst (λ b. MatchOption (cond b (Some (given_all ms)) None) ⊥ (λ fs. Q fs v)) (sym t) h

    pub of_row : (v : V) (m : Msg) → OfRow (Gives Q v) m → OfFields names (λ fs. Q fs v) m
    of_row v (bin s) h = are_given (numbers s) v h
    of_row v (list ms) h = are_given ms v h
    of_row v m h = absurd h
