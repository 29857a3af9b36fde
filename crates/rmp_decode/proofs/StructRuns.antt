-- What the read of a struct says whose fields are read one after another.
use Rattle.std.proofs.Common.{◌≡◌, ◌≢◌, ◌∙◌, sym, ap, subst, refl, inl, inr, ◌⊎◌, ℕ, zero, suc, ◌-◌, ◌<◌, ◌≤◌}
use Rattle.std.proofs.Common.{arith, List, [], ◌∷◌, length, Bool, cond, nat_eq, true, false, Option, None, Some, MatchOption, Ok, Err}
use Rattle.std.specs.Int.{bit_at}
use Rattle.std.specs.Option.{option_and_then}
use Rattle.std.proofs.lemmas.Nat.Bits.{bit_at-zero}
use Rattle.rmp_wire.specs.declared.source.Source.{Ghosts}
use Rattle.rmp_wire.specs.Canonical.{SpellsAs}
use Rattle.rmp_wire.specs.Msg.{Msg, nil, truth, whole, float32, float64, text, bin, list, map, extension, Msgs, no_items, item, no_pairs, count}
use Rattle.rmp_wire.specs.Spelling.{head_of}
use Rattle.rmp_decode.specs.FieldAccess.{begun, IsStructOpen, SameStruct, names_in, as_map, as_seq, OpensStruct, OpensAs, Passes, TakesName, Meets}
use Rattle.rmp_decode.specs.FieldAccess.{TakesPlace, TakesPlaceAs, NoPlace, NoPlaceAs, FailsPlace, FailsPlaceAs, TakesField, TakesFieldAs, FailsField}
use Rattle.rmp_decode.specs.FieldAccess.{FailsFieldAs}
use Rattle.rmp_decode.specs.Fields.{blank, put, put_named, given, given_all, OfFields, Field, Absent, Slot, at}
use Rattle.rmp_decode.specs.Law.{Lawful, Readable}
use Rattle.rmp_decode.specs.Maps.{OpensMap, TakesKey, TakesValue, map_inner}
use Rattle.rmp_decode.specs.Names.{bytes_of, IsName}
use Rattle.rmp_decode.specs.Parts.{FailsPart}
use Rattle.rmp_decode.specs.Seq.{OfRow, seq_head, Opens, Run, TakesElement, FailsToTake}
use Rattle.rmp_decode.specs.Skip.{any_tree}
use Rattle.rmp_decode.specs.declared.deserializer.Deserializer.{Deserializer}
use Rattle.rmp_decode.specs.declared.access.field_access.FieldAccess.{FieldAccess}
use Rattle.rmp_decode.specs.declared.access.map.MapAccess.{MapAccess}
use Rattle.rmp_decode.specs.declared.error.Error.{Error}
use Rattle.rmp_decode.proofs.Laws.{stays_refl, lawful_ok}
use Rattle.rmp_decode.proofs.Maps.{MapRun, map_start, flat, push_pair, flat-push, map_key, map_value}
use Rattle.rmp_decode.proofs.Meeting.{met_push, put_at}
use Rattle.rmp_decode.proofs.NothingAccepted.{refuses_narrower}
use Rattle.rmp_decode.proofs.Rows.{push, append, count-push}
use Rattle.rmp_decode.proofs.Seqs.{run_start, run_step, seq_done, seq_element, seq_take, seq_more, count-append}
use Rattle.rmp_decode.proofs.Structs.{FieldsRun, fields_done, fields_key, fields_missing, fields_value, fields_passed, lawful_slow}

-- ---- the fields of a list so far

-- these items are in the places of the first names
abbrev pub so_far : List (List ℕ) → Msgs → List (Option Msg)
so_far names no_items = blank names
so_far [] (item m ms) = []
so_far (s ∷ names) (item m ms) = Some m ∷ so_far names ms

so_far_put : (names : List (List ℕ)) (ms : Msgs) (k : Msg) → count ms < length names → put (count ms) k (so_far names ms) ≡ Some (so_far names (push ms k))
so_far_put [] ms k l = absurd (omega (arith, l))
so_far_put (s ∷ names) no_items k l = refl
so_far_put (s ∷ names) (item m ms) k l = ap (option_and_then (λ gs. Some (Some m ∷ gs))) (so_far_put names ms k (omega (arith, l)))

so_far_free : (names : List (List ℕ)) (ms : Msgs) → at (count ms) (so_far names ms) ≡ None
so_far_free [] no_items = refl
so_far_free [] (item m ms) = refl
so_far_free (s ∷ names) no_items = refl
so_far_free (s ∷ names) (item m ms) = so_far_free names ms

so_far_all : (names : List (List ℕ)) (ms : Msgs) → count ms ≡ length names → so_far names ms ≡ given_all ms
so_far_all [] no_items e = refl
so_far_all (s ∷ names) no_items e = absurd (omega (arith, e))
so_far_all [] (item m ms) e = absurd (omega (arith, e))
so_far_all (s ∷ names) (item m ms) e = ap (λ z. Some m ∷ z) (so_far_all names ms (omega (arith, e)))

at_blank : (names : List (List ℕ)) (n : ℕ) → at n (blank names) ≡ None
at_blank [] n = refl
at_blank (s ∷ names) zero = refl
at_blank (s ∷ names) (suc n) = at_blank names n

at_given : (ms : Msgs) (m : Msg) (ks : Msgs) → at (count ms) (given_all (append ms (item m ks))) ≡ Some m
at_given no_items m ks = refl
at_given (item k ms) m ks = at_given ms m ks

put_elsewhere : (i n : ℕ) (m : Msg) (fs gs : List (Option Msg)) → n ≢ i → put i m fs ≡ Some gs → at n gs ≡ at n fs
put_elsewhere i n m [] gs d e = absurd (cc)
put_elsewhere zero zero m (f ∷ fs) gs d e = absurd (d refl)
put_elsewhere zero (suc n) m (None ∷ fs) gs d e = let q : Some m ∷ fs ≡ gs = cc in ap (at (suc n)) (sym q)
put_elsewhere zero (suc n) m (Some k ∷ fs) gs d e = absurd (cc)
put_elsewhere (suc i) n m (f ∷ fs) gs d e = go (λ k r c p. put_elsewhere i k m fs r c p) (put i m fs) refl e
  where
    following : ((k : ℕ) (r : List (Option Msg)) → k ≢ i → put i m fs ≡ Some r → at k r ≡ at k fs) → (n : ℕ) → n ≢ suc i → (r : List (Option Msg))
        → put i m fs ≡ Some r → at n (f ∷ r) ≡ at n (f ∷ fs)
    following ih zero c r p = refl
    following ih (suc k) c r p = ih k r (λ z. c (ap suc z)) p

    go : ((k : ℕ) (r : List (Option Msg)) → k ≢ i → put i m fs ≡ Some r → at k r ≡ at k fs) → (x : Option (List (Option Msg))) → put i m fs ≡ x
        → option_and_then (λ r. Some (f ∷ r)) x ≡ Some gs → at n gs ≡ at n (f ∷ fs)
    go ih None p q = absurd (cc)
    go ih (Some r) p q = let s : f ∷ r ≡ gs = cc in ap (at n) (sym s) ∙ following ih n d r p

put_taken : (n : ℕ) (k m : Msg) (fs : List (Option Msg)) → at n fs ≡ Some k → put n m fs ≡ None
put_taken n k m [] e = refl
put_taken zero k m (None ∷ fs) e = absurd (cc)
put_taken zero k m (Some j ∷ fs) e = refl
put_taken (suc n) k m (f ∷ fs) e = ap (option_and_then (λ gs. Some (f ∷ gs))) (put_taken n k m fs e)

-- ---- fields that were met so far

-- a tree is in each place whose bit is set, and in no other
pub record Marks (bits : ℕ) (fs : List (Option Msg)) : Type 0 where
  pub free : (n : ℕ) → bit_at bits n ≡ 0 → at n fs ≡ None
  pub taken : (n : ℕ) → bit_at bits n ≡ 1 → (m : Msg) × (at n fs ≡ Some m)

pub record MetInMap {R C S : Type 0} (g : Ghosts R) (names : List (List ℕ)) (holds : List (Option Msg) → S
    → Type 0) (start now : FieldAccess R C) (slots : S) : Type 0 where
  pub fields : FieldsRun g names holds (as_map start) (as_map now) slots
  pub marks : Marks now.met fields.met_trees

pub record MetInList {R C S : Type 0} (g : Ghosts R) (names : List (List ℕ)) (holds : List (Option Msg) → S
    → Type 0) (start now : FieldAccess R C) (slots : S) : Type 0 where
  pub trees : Msgs
  pub run : Run g (as_seq start) (as_seq now) trees
  pub within : count trees ≤ length names
  pub all : start.count ≡ (as_seq start).left
  pub held : holds (so_far names trees) slots

abbrev pub MetSo : {R C S : Type 0} → Bool → Ghosts R → List (List ℕ) → (List (Option Msg) → S → Type 0) → FieldAccess R C → FieldAccess R C → S → Type 0
MetSo true g names holds start now s = MetInMap g names holds start now s
MetSo false g names holds start now s = MetInList g names holds start now s

pub record StructRun {R C S : Type 0} (g : Ghosts R) (names : List (List ℕ)) (holds : List (Option Msg) → S
    → Type 0) (start now : FieldAccess R C) (slots : S) : Type 0 where
  pub same : SameStruct start now
  pub names_same : names_in start ≡ names
  pub still : IsStructOpen now
  pub at_field : now.owes ≡ false
  pub so : MetSo start.is_map g names holds start now slots

-- in a map the pairs of no name don't count
record Named {R C S : Type 0} (g : Ghosts R) (names : List (List ℕ)) (holds : List (Option Msg) → S
    → Type 0) (start : MapAccess R C) (bits place : ℕ) (key : MapAccess R C) (slots : S) : Type 0 where
  pub mid : MapAccess R C
  pub run : FieldsRun g names holds start mid slots
  pub marks : Marks bits run.met_trees
  pub named : TakesKey g (IsName names) mid key (Some place)
  pub same_reference : key.de.ghost_name ≡ mid.de.ghost_name

marks_more : (bits more place : ℕ) (fs gs : List (Option Msg)) (m : Msg) → Marks bits fs → bit_at more place ≡ 1
    → ((n : ℕ) → n ≢ place → bit_at more n ≡ bit_at bits n) → put place m fs ≡ Some gs → Marks more gs
marks_more bits more place fs gs m k one others p = record {
  free = λ n e. free (nat_eq n place) n refl e;
  taken = λ n e. taken (nat_eq n place) n refl e;
}
  where
    free : (b : Bool) (n : ℕ) → nat_eq n place ≡ b → bit_at more n ≡ 0 → at n gs ≡ None
    free true n q e = let z : n ≡ place = grind (arith, q) in absurd (let w = ap (bit_at more) z in omega (arith, w, e, one))
    free false n q e =
        let d : n ≢ place = λ z. absurd (grind (arith, q, z)) in
        put_elsewhere place n m fs gs d p ∙ k.free n (sym (others n d) ∙ e)

    taken : (b : Bool) (n : ℕ) → nat_eq n place ≡ b → bit_at more n ≡ 1 → (t : Msg) × (at n gs ≡ Some t)
    taken true n q e = let z : n ≡ place = grind (arith, q) in (m, ap (λ i. at i gs) z ∙ put_at place m fs gs p)
    taken false n q e =
        let d : n ≢ place = λ z. absurd (grind (arith, q, z)) in
        let h = k.taken n (sym (others n d) ∙ e) in
        (h.0, put_elsewhere place n m fs gs d p ∙ h.1)

list_same : {R C : Type 0} (a b : FieldAccess R C) → a.owes ≡ false → 0 < a.left → b ≡ record a { left = a.left - 1; owes = true } → as_seq b ≡ as_seq a
list_same a b w l e = ap (λ z. as_seq z) e ∙ ap (λ z. record
    { de = a.de; left = z; count = a.count; inner = a.inner; bytes = a.bytes; sound = a.sound }) (omega (arith, l, ap begun w))

module _ {R C S : Type 0} (g : Ghosts R) (names : List (List ℕ)) (holds : List (Option Msg) → S → Type 0) where
  -- nothing was read yet
  pub struct_start : (old : Deserializer R C) (a : FieldAccess R C) (s : S) → OpensStruct g names old a → holds (blank names) s
      → StructRun g names holds a a s
  struct_start old a s o h = record {
    same = record { is_map = refl; bytes = refl; names = refl; count = refl; inner = refl };
    names_same = o.names_same;
    still = o.still;
    at_field = o.at_field;
    so = go a.is_map o.opens;
  }
    where
      go : (b : Bool) → OpensAs b g old a → MetSo b g names holds a a s
      go true p = record {
        fields = record { trees = no_pairs; met_trees = blank names; run = map_start g (as_map a) p.opened; is_met = refl; held = h; at_key = p.at_key };
        marks = record {
          free = λ n e. at_blank names n;
          taken = λ n e. absurd (let z = ap (λ z. bit_at z n) o.none_met ∙ bit_at-zero n in omega (arith, z, e));
        };
      }
      go false p = record { trees = no_items; run = run_start g (as_seq a) p.opened; within = omega arith; all = p.count; held = h }

  -- pairs of no name change no field
  passes_run : (start : MapAccess R C) (s : S) (n : ℕ) (a b : MapAccess R C) (r : FieldsRun g names holds start a s) → Passes g names n a b
      → (t : FieldsRun g names holds start b s) × (t.met_trees ≡ r.met_trees)
  passes_run start s zero a b r p = subst (λ z. (t : FieldsRun g names holds start z s) × (t.met_trees ≡ r.met_trees)) (sym p) (r, refl)
  passes_run start s (suc n) a b r p =
      let x = passes_run start s n a p.0 r p.1 in
      let q = p.2 in
      let half = map_key g (IsName names) start p.0 q.key (flat x.0.trees) None x.0.run x.0.at_key q.named q.key_same in (
        record {
          trees = push_pair x.0.trees q.named.part.tree q.value.part.tree;
          met_trees = x.0.met_trees;
          run = subst (MapRun g start b) (flat-push x.0.trees q.named.part.tree q.value.part.tree)
              (map_value g any_tree start q.key b (push (flat x.0.trees) q.named.part.tree) tt half q.named.owes q.value q.value_same);
          is_met = met_push names x.0.trees q.named.part.tree q.value.part.tree (blank names) x.0.met_trees x.0.is_met
              ∙ ap (option_and_then (λ o. put_named o q.value.part.tree x.0.met_trees)) q.named.part.value;
          held = x.0.held;
          at_key = q.value.owes;
        },
        x.1,
      )

  named_run : (start : MapAccess R C) (s : S) (bits place : ℕ) (a key : MapAccess R C) (r : FieldsRun g names holds start a s) → Marks bits r.met_trees
      → (there : List (List ℕ)) → there ≡ names → TakesName g there place a key → Named g names holds start bits place key s
  named_run start s bits place a key r k there e t =
      let u = subst (λ z. TakesName g z place a key) e t in
      let x = passes_run start s u.many a u.mid r u.passed in
      record { mid = u.mid; run = x.0; marks = subst (Marks bits) (sym x.1) k; named = u.named; same_reference = u.same_reference }

  -- a field more
  pub struct_step : (start mid key now : FieldAccess R C) (s t : S) (place : ℕ) {V : Type 0} (reads : Msg → V → Type 0) (v : V)
      → StructRun g names holds start mid s → TakesPlace g mid key place → SameStruct mid key → key.de.ghost_name ≡ mid.de.ghost_name
      → TakesField g reads key now v → SameStruct key now → now.de.ghost_name ≡ key.de.ghost_name
      → ((fs : List (Option Msg)) (m : Msg) → holds fs s → at place fs ≡ None → reads m v
      → (gs : List (Option Msg)) × (put place m fs ≡ Some gs) × holds gs t) → StructRun g names holds start now t
  struct_step start mid key now s t place reads v r p sp np q sq nq fill = record {
    same = record {
      is_map = sq.is_map ∙ sp.is_map ∙ r.same.is_map;
      bytes = sq.bytes ∙ sp.bytes ∙ r.same.bytes;
      names = sq.names ∙ sp.names ∙ r.same.names;
      count = sq.count ∙ sp.count ∙ r.same.count;
      inner = sq.inner ∙ sp.inner ∙ r.same.inner;
    };
    names_same = r.names_same;
    still = q.still;
    at_field = q.owes;
    so = go start.is_map r.so (subst (λ b. TakesPlaceAs b g place mid key) r.same.is_map p.by)
        (subst (λ b. TakesFieldAs b g reads key now v) (sp.is_map ∙ r.same.is_map) q.by);
  }
    where
      mid_names : names_in mid ≡ names
      mid_names = ap (λ z. bytes_of z.now) r.same.names ∙ r.names_same

      in_map : MetInMap g names holds start mid s → TakesName g (names_in mid) place (as_map mid) (as_map key) → Meets place mid key
          → TakesValue g reads (as_map key) (as_map now) v → MetInMap g names holds start now t
      in_map f k w u =
          let n = named_run (as_map start) s mid.met place (as_map mid) (as_map key) f.fields f.marks (names_in mid) mid_names k in
          let x = fill n.run.met_trees u.part.tree n.run.held (n.marks.free place w.first) u.part.value in
          let half = map_key g (IsName names) (as_map start) n.mid (as_map key) (flat n.run.trees) (Some place) n.run.run n.run.at_key n.named
          n.same_reference in
          record {
            fields = record {
              trees = push_pair n.run.trees n.named.part.tree u.part.tree;
              met_trees = x.0;
              run = subst (MapRun g (as_map start) (as_map now)) (flat-push n.run.trees n.named.part.tree u.part.tree)
                  (map_value g reads (as_map start) (as_map key) (as_map now) (push (flat n.run.trees) n.named.part.tree) v half n.named.owes u nq);
              is_met = met_push names n.run.trees n.named.part.tree u.part.tree (blank names) n.run.met_trees n.run.is_met
                  ∙ ap (option_and_then (λ o. put_named o u.part.tree n.run.met_trees)) n.named.part.value ∙ x.1;
              held = x.2;
              at_key = u.owes;
            };
            marks = subst (λ z. Marks z x.0) (sym q.met)
                (marks_more mid.met key.met place n.run.met_trees x.0 u.part.tree n.marks w.met w.others x.1);
          }

      in_list : MetInList g names holds start mid s → (place ≡ mid.count - mid.left) × (0 < mid.left) × (key ≡ record mid { left = mid.left - 1; owes = true })
          → TakesElement g reads (as_seq key) (as_seq now) v → MetInList g names holds start now t
      in_list f k u =
          let w = subst (λ z. TakesElement g reads z (as_seq now) v) (list_same mid key r.at_field k.1 k.2) u in
          let none = ap begun r.at_field in
          let here : place ≡ count f.trees = omega (arith, k.0, r.same.count, f.all, f.run.many, none, k.1) in
          let below : place < length names = subst (λ z. place < length z) mid_names p.below in
          let x = fill (so_far names f.trees) w.tree f.held (ap (λ z. at z (so_far names f.trees)) here ∙ so_far_free names f.trees) w.value in
          let y = so_far_put names f.trees w.tree (omega (arith, here, below)) in
          let same : Some x.0 ≡ Some (so_far names (push f.trees w.tree)) = sym x.1 ∙ ap (λ z. put z w.tree (so_far names f.trees)) here ∙ y in
          record {
            trees = push f.trees w.tree;
            run = run_step g reads (as_seq start) (as_seq mid) (as_seq now) f.trees v f.run w (nq ∙ np);
            within = omega (arith, count-push f.trees w.tree, here, below);
            all = f.all;
            held = subst (λ z. holds z t) (cc) x.2;
          }

      go : (b : Bool) → MetSo b g names holds start mid s → TakesPlaceAs b g place mid key → TakesFieldAs b g reads key now v
          → MetSo b g names holds start now t
      go true f k u = in_map f k.0 k.1 u
      go false f k u = in_list f k u

-- ---- no field is left

-- no pair of a map is left, and of a list there are as many items as names
abbrev pub AllMet : {R C S : Type 0} → (b : Bool) → (g : Ghosts R) (names : List (List ℕ)) (holds : List (Option Msg) → S
    → Type 0) (start now : FieldAccess R C) (s : S) → MetSo b g names holds start now s → Type 0
AllMet true g names holds start now s f = now.left ≡ 0
AllMet false g names holds start now s f = count f.trees ≡ length names

pub record StructMet {R C S : Type 0} (g : Ghosts R) (names : List (List ℕ)) (holds : List (Option Msg) → S
    → Type 0) (start now : FieldAccess R C) (slots : S) : Type 0 where
  pub run : StructRun g names holds start now slots
  pub all : AllMet start.is_map g names holds start now slots run.so

module _ {R C S : Type 0} (g : Ghosts R) (names : List (List ℕ)) (holds : List (Option Msg) → S → Type 0) where
  pub struct_met : (start mid now : FieldAccess R C) (s : S) → StructRun g names holds start mid s → NoPlace g mid now → SameStruct mid now
      → now.de.ghost_name ≡ mid.de.ghost_name → StructMet g names holds start now s
  struct_met start mid now s r p same n =
      let x = go start.is_map r.so (subst (λ b. NoPlaceAs b g mid now) r.same.is_map p.by) in
      record {
        run = record {
          same = record {
            is_map = same.is_map ∙ r.same.is_map;
            bytes = same.bytes ∙ r.same.bytes;
            names = same.names ∙ r.same.names;
            count = same.count ∙ r.same.count;
            inner = same.inner ∙ r.same.inner;
          };
          names_same = r.names_same;
          still = p.still;
          at_field = p.at_field;
          so = x.0;
        };
        all = x.1;
      }
    where
      mid_names : names_in mid ≡ names
      mid_names = ap (λ z. bytes_of z.now) r.same.names ∙ r.names_same

      go : (b : Bool) → MetSo b g names holds start mid s → NoPlaceAs b g mid now
          → (f : MetSo b g names holds start now s) × AllMet b g names holds start now s f
      go true f k =
          let u = subst (λ z. Passes g z k.0.many (as_map mid) (as_map now)) mid_names k.0.passed in
          let x = passes_run g names holds (as_map start) s k.0.many (as_map mid) (as_map now) f.fields u in
          (record { fields = x.0; marks = subst (Marks now.met) (sym x.1) (subst (λ z. Marks z f.fields.met_trees) (sym k.1) f.marks) }, k.0.none)
      go false f k =
          let none = ap begun r.at_field in
          let enough : length names ≤ mid.count - mid.left = subst (λ z. length z ≤ mid.count - mid.left) mid_names k.0 in
          let full : count f.trees ≡ length names = omega (arith, enough, r.same.count, f.all, f.run.many, f.within, none) in
          subst (λ z. (f : MetInList g names holds start z s) × (count f.trees ≡ length names)) (sym k.1) (f, full)

-- ---- the law of the read

-- a list of as many items as names, whose fields are such
abbrev pub Given : {V : Type 0} → List (List ℕ) → (List (Option Msg) → V → Type 0) → V → Msgs → Type 0
Given names Q v ms = MatchOption (given names ms) ⊥ (λ fs. Q fs v)

module _ {V : Type 0} (names : List (List ℕ)) (Q : List (Option Msg) → V → Type 0) where
  of_given : (v : V) (m : Msg) → OfRow (Given names Q v) m → OfFields names (λ fs. Q fs v) m
  of_given v nil h = h
  of_given v (truth t) h = h
  of_given v (whole z) h = h
  of_given v (float32 k) h = h
  of_given v (float64 k) h = h
  of_given v (text s) h = h
  of_given v (bin s) h = h
  of_given v (list ms) h = h
  of_given v (map ps) h = absurd h
  of_given v (extension tag s) h = h

  is_given : (b : Bool) (n : ℕ) (m : Msg) → head_of m ≡ seq_head b n → (v : V) × OfFields names (λ fs. Q fs v) m
      → (v : V) × OfRow (Given names Q v) m
  is_given b n nil e h = absurd h.1
  is_given b n (truth t) e h = absurd h.1
  is_given b n (whole z) e h = absurd h.1
  is_given b n (float32 k) e h = absurd h.1
  is_given b n (float64 k) e h = absurd h.1
  is_given b n (text s) e h = absurd h.1
  is_given b n (bin s) e h = h
  is_given b n (list ms) e h = h
  is_given true n (map ps) e h = absurd (cc)
  is_given false n (map ps) e h = absurd (cc)
  is_given b n (extension tag s) e h = absurd h.1

  -- given fields are as many as names
  given_here : (ms : Msgs) (v : V) → Given names Q v ms → (count ms ≡ length names) × Q (given_all ms) v
  given_here ms v h = go (nat_eq (count ms) (length names)) refl h
    where
      go : (b : Bool) → nat_eq (count ms) (length names) ≡ b → MatchOption (cond b (Some (given_all ms)) None) ⊥ (λ fs. Q fs v)
          → (count ms ≡ length names) × Q (given_all ms) v
      go true e h = (grind (arith, e), h)
      go false e h = absurd h

  given_so : (ms : Msgs) (v : V) → count ms ≡ length names → Q (given_all ms) v → Given names Q v ms
  given_so ms v e q =
      let t : nat_eq (count ms) (length names) ≡ true = grind (arith, e) in
      subst (λ b. MatchOption (cond b (Some (given_all ms)) None) ⊥ (λ fs. Q fs v)) (sym t) q

module _ {R C V S : Type 0} (g : Ghosts R) (names : List (List ℕ)) (holds : List (Option Msg) → S → Type 0) (Q : List (Option Msg) → V
    → Type 0) (old : Deserializer R C) (start : FieldAccess R C) (o : OpensStruct g names old start) (s : S) (last : Deserializer R C) where
  abbrev Law : (e : Error) → Type 0
  Law e = Lawful {V = V} g (λ m v. OfFields names (λ fs. Q fs v) m) old last (Err e)

  widen : (p : Opens g old (as_seq start)) (e : Error) → Lawful {V = V} g (λ m v. OfRow (Given names Q v) m) old last (Err e) → Law e
  widen p e l = lawful_slow g (λ m v. OfRow (Given names Q v) m) (λ m v. OfFields names (λ fs. Q fs v) m) old start.de.now last e
      (seq_head start.bytes (as_seq start).left) p.head (is_given names Q start.bytes (as_seq start).left) l

  module _ (now : FieldAccess R C) (d : StructMet g names holds start now s) where
    -- all are there, or they have defaults
    pub struct_done : (v : V) → ((fs : List (Option Msg)) → holds fs s → Q fs v) → now.left ≡ 0 → last ≡ record now.de.now { failed = false }
        → Lawful g (λ m v. OfFields names (λ fs. Q fs v) m) old last (Ok v)
    struct_done v q z e = go start.is_map o.opens d.run.so d.all
      where
        go : (b : Bool) → OpensAs b g old start → (f : MetSo b g names holds start now s) → AllMet b g names holds start now s f
            → Lawful g (λ m v. OfFields names (λ fs. Q fs v) m) old last (Ok v)
        go true p f a = fields_done g names holds Q old (as_map start) (as_map now) p s f.fields last v (q f.fields.met_trees f.fields.held) z e
        go false p f a =
            let none = ap begun d.run.at_field in
            let h = subst (λ fs. Q fs v) (so_far_all names f.trees a) (q (so_far names f.trees) f.held) in
            lawful_ok g (λ m v. OfRow (Given names Q v) m) (λ m v. OfFields names (λ fs. Q fs v) m) old last v v (of_given names Q v)
            (seq_done g (Given names Q) old (as_seq start) (as_seq now) f.trees p f.run last v (given_so names Q f.trees v a h) (omega (arith, z, none)) e)

    -- one is missing
    pub struct_missing : (e : Error) → last ≡ now.de.now → ((ms : Msgs) → holds (given_all ms) s → ⊥)
        → (start.is_map ≡ true → (fs : List (Option Msg)) (v : V) → holds fs s → Q fs v → ⊥) → Law e
    struct_missing e q gap lacks = go start.is_map refl o.opens d.run.so d.all
      where
        go : (b : Bool) → start.is_map ≡ b → OpensAs b g old start → (f : MetSo b g names holds start now s) → AllMet b g names holds start now s f → Law e
        go true m p f a = fields_missing g names holds Q old (as_map start) (as_map now) p s f.fields last e a q
            (λ v. lacks m f.fields.met_trees v f.fields.held)
        go false m p f a = absurd (gap f.trees (subst (λ fs. holds fs s) (so_far_all names f.trees a) f.held))

    -- there are more elements than names
    pub struct_over : (e : Error) → 0 < now.left → last ≡ now.de.now → Law e
    struct_over e l q = go start.is_map o.opens d.run.so d.all
      where
        go : (b : Bool) → OpensAs b g old start → (f : MetSo b g names holds start now s) → AllMet b g names holds start now s f → Law e
        go true p f a = absurd (omega (arith, a, l))
        go false p f a = widen p e (seq_more g (Given names Q) old (as_seq start) (as_seq now) f.trees p f.run last e (omega (arith, l)) q
            (λ m ks v h. let x = given_here names Q (append f.trees (item m ks)) v h in omega (arith, x.0, count-append f.trees (item m ks), a)))

  module _ (mid : FieldAccess R C) (r : StructRun g names holds start mid s) where
    mid_names : names_in mid ≡ names
    mid_names = ap (λ z. bytes_of z.now) r.same.names ∙ r.names_same

    -- the next place was refused
    pub struct_place : (human lends : Bool) (now : FieldAccess R C) (e : Error) → FailsPlace g human lends mid now e → last ≡ now.de.now → Law e
    struct_place human lends now e x q = go start.is_map o.opens r.so (subst (λ b. FailsPlaceAs b g human lends mid now e) r.same.is_map x)
      where
        again : (p : OpensMap g old (as_map start)) (f : MetInMap g names holds start mid s) (place : ℕ) (key : MapAccess R C)
            → TakesName g (names_in mid) place (as_map mid) key → bit_at mid.met place ≡ 1 → last ≡ key.de.now → Law e
        again p f place key t bit z =
            let n = named_run g names holds (as_map start) s mid.met place (as_map mid) key f.fields f.marks (names_in mid) mid_names t in
            let one = n.marks.taken place bit in
            let w : FieldsRun g names (λ fs u. holds fs u × (fs ≡ n.run.met_trees)) (as_map start) n.mid s = record {
              trees = n.run.trees;
              met_trees = n.run.met_trees;
              run = n.run.run;
              is_met = n.run.is_met;
              held = (n.run.held, refl);
              at_key = n.run.at_key;
            } in
            fields_value g names (λ fs u. holds fs u × (fs ≡ n.run.met_trees)) Q old (as_map start) n.mid p s w last key n.same_reference place n.named key e
            (λ n m. Unit {0}) (λ fs v n m h k. tt)
            (inr (record { full = λ fs h m. put_taken place one.0 m fs (ap (at place) h.1 ∙ one.1); same = refl })) z

        go : (b : Bool) → OpensAs b g old start → (f : MetSo b g names holds start mid s) → FailsPlaceAs b g human lends mid now e → Law e
        go true p f (inr t) = again p f t.place t.key t.named t.met (q ∙ t.same)
        go true p f (inl t) =
            let u = subst (λ z. Passes g z t.many (as_map mid) t.mid) mid_names t.passed in
            let y = passes_run g names holds (as_map start) s t.many (as_map mid) t.mid f.fields u in
            elim t.pair [
              | inl k ↦ fields_key g names holds Q old (as_map start) t.mid p s y.0 last (as_map now) e k.some
                  (subst (λ z. FailsPart g (IsName z) (map_inner t.mid) t.mid.de.now now.de.now e) mid_names k.part) q
              | inr k ↦ fields_passed g names holds Q old (as_map start) t.mid p s y.0 last k.key k.same_reference any_tree (λ m. (tt, tt))
                  (subst (λ z. TakesKey g (IsName z) t.mid k.key None) mid_names k.named) (as_map now) e k.value.part q
            ]
        go false p f t =
            let none = ap begun r.at_field in
            let short : mid.count < length names = subst (λ z. mid.count < length z) mid_names t.short in
            widen p e (seq_element g (Given names Q) old (as_seq start) (as_seq mid) f.trees p f.run last any_tree (as_seq mid) e
            (record { stays = stays_refl g mid.de.now; err = inl (omega (arith, t.none, none)) }) f.run.still.marked (q ∙ t.same) (λ m ks v h. (tt, tt))
            (λ v h. let y = given_here names Q (append f.trees no_items) v h
            in omega (arith, y.0, short, count-append f.trees no_items, r.same.count, f.all, f.run.many, t.none, none)))

    -- the value of a field was refused
    pub struct_value : (key now : FieldAccess R C) (place : ℕ) {W : Type 0} (reads : Msg → W → Type 0) (e : Error) → TakesPlace g mid key place
        → SameStruct mid key → key.de.ghost_name ≡ mid.de.ghost_name → FailsField g reads key now e → last ≡ now.de.now
        → ((fs : List (Option Msg)) (v : V) (m : Msg) → Q fs v → at place fs ≡ Some m → Readable reads m) → Law e
    struct_value key now place reads e t same n f q proj = go start.is_map o.opens r.so (subst (λ b. TakesPlaceAs b g place mid key) r.same.is_map t.by)
        (subst (λ b. FailsFieldAs b g reads key now e) (same.is_map ∙ r.same.is_map) f.0)
      where
        go : (b : Bool) → OpensAs b g old start → (h : MetSo b g names holds start mid s) → TakesPlaceAs b g place mid key → FailsFieldAs b g reads key now e
            → Law e
        go true p h k x =
            let w = named_run g names holds (as_map start) s mid.met place (as_map mid) (as_map key) h.fields h.marks (names_in mid) mid_names k.0 in
            fields_value g names holds Q old (as_map start) w.mid p s w.run last (as_map key) w.same_reference place w.named (as_map now) e
            (λ i m. i ≡ place → Readable reads m) (λ fs v i m y z is. proj fs v m y (subst (λ j. at j fs ≡ Some m) is z))
            (inl (record {
              stays = x.stays;
              failed = x.failed;
              err = λ a b. refuses_narrower (SpellsAs key.de.now.strict) (Readable reads) _ _ _ (λ m y. y.1 refl) (x.err a b);
            })) q
        go false p h k x =
            let w = subst (λ z. FailsToTake g reads z (as_seq now) e) (list_same mid key r.at_field k.1 k.2) x in
            let none = ap begun r.at_field in
            let here : place ≡ count h.trees = omega (arith, k.0, r.same.count, h.all, h.run.many, none, k.1) in
            widen p e (seq_take g (Given names Q) old (as_seq start) (as_seq mid) h.trees p h.run last reads (as_seq now) e w f.1 q
            (λ m ks v y. let z = given_here names Q (append h.trees (item m ks)) v y
            in proj (given_all (append h.trees (item m ks))) v m z.1 (ap (λ i. at i (given_all (append h.trees (item m ks)))) here ∙ at_given h.trees m ks)))

-- ---- what was read of each field, and what is read at last

module _ {V W : Type 0} (reads : Msg → V → Type 0) (rest : List (Option Msg) → W → Type 0) where
  -- the first field's value
  pub slot_first : (o : Option V) (w : W) (v : V) (fs : List (Option Msg)) (m : Msg) → Slot reads rest fs o w → at 0 fs ≡ None → reads m v
      → (gs : List (Option Msg)) × (put 0 m fs ≡ Some gs) × Slot reads rest gs (Some v) w
  slot_first o w v [] m h e r = absurd h
  slot_first o w v (None ∷ fs) m h e r = (Some m ∷ fs, refl, ((v, refl, r), h.1))
  slot_first o w v (Some k ∷ fs) m h e r = absurd (cc)

  -- a later one's
  pub slot_later : (n : ℕ) (o : Option V) (w x : W) (fs : List (Option Msg)) (m : Msg) → Slot reads rest fs o w → at (suc n) fs ≡ None
      → ((gs : List (Option Msg)) → rest gs w → at n gs ≡ None → (hs : List (Option Msg)) × (put n m gs ≡ Some hs) × rest hs x)
      → (gs : List (Option Msg)) × (put (suc n) m fs ≡ Some gs) × Slot reads rest gs o x
  slot_later n o w x [] m h e f = absurd h
  slot_later n o w x (None ∷ fs) m h e f =
      let y = f fs h.1 e in (None ∷ y.0, ap (option_and_then (λ gs. Some (None ∷ gs))) y.1, (h.0, y.2))
  slot_later n o w x (Some k ∷ fs) m h e f =
      let y = f fs h.1 e in (Some k ∷ y.0, ap (option_and_then (λ gs. Some (Some k ∷ gs))) y.1, (h.0, y.2))

  -- a field that was read, or that has a default
  pub slot_field : (absent : Option V) (Q : List (Option Msg) → Type 0) (o : Option V) (w : W) (v : V) (fs : List (Option Msg)) → Slot reads rest fs o w
      → (o ≡ Some v) ⊎ ((o ≡ None) × (absent ≡ Some v)) → ((gs : List (Option Msg)) → rest gs w → Q gs)
      → Field (λ m. reads m v) (Absent absent v) Q fs
  slot_field absent Q o w v [] h e f = absurd h
  slot_field absent Q o w v (None ∷ fs) h (inl e) f = absurd (let z = h.0 in cc)
  slot_field absent Q o w v (None ∷ fs) h (inr e) f = (e.1, f fs h.1)
  slot_field absent Q o w v (Some m ∷ fs) h (inl e) f = let z = h.0.1 in let same : h.0.0 ≡ v = cc in (subst (reads m) same h.0.2, f fs h.1)
  slot_field absent Q o w v (Some m ∷ fs) h (inr e) f = absurd (let z = h.0.1 in let y = e.0 in cc)

  -- it wasn't read, so that not all were given
  pub slot_gap : (w : W) (ms : Msgs) → Slot reads rest (given_all ms) None w → ⊥
  slot_gap w no_items h = h
  slot_gap w (item m ms) h = absurd (let z = h.0.1 in cc)

  pub slot_gap_later : (o : Option V) (w : W) → ((ms : Msgs) → rest (given_all ms) w → ⊥) → (ms : Msgs) → Slot reads rest (given_all ms) o w → ⊥
  slot_gap_later o w f no_items h = h
  slot_gap_later o w f (item m ms) h = f ms h.1

  -- and it has no default
  pub slot_lacks : (absent : Option V) (Q : List (Option Msg) → Type 0) (w : W) (v : V) (fs : List (Option Msg)) → absent ≡ None → Slot reads rest fs None w
      → Field (λ m. reads m v) (Absent absent v) Q fs → ⊥
  slot_lacks absent Q w v [] e h f = h
  slot_lacks absent Q w v (None ∷ fs) e h f = let z = f.0 in absurd (cc)
  slot_lacks absent Q w v (Some m ∷ fs) e h f = absurd (let z = h.0.1 in cc)
