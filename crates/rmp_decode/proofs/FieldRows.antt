-- What the read of a struct that is a list of as many elements says, from what the reads of its fields say.
use Rattle.std.proofs.Common.{◌≡◌, ◌∙◌, sym, ap, subst, refl, inr, ℕ, suc, max, arith}
use Rattle.std.proofs.Common.{List, [], ◌∷◌, Bool, false, Option, Some, Result, Ok, Err, ◌++◌}
use Rattle.std.specs.Prelude.{IfErr}
use Rattle.std.proofs.KnownBytes.{Consumes-nil, Consumes-trans}
use Rattle.rmp_wire.specs.declared.source.Source.{Ghosts}
use Rattle.rmp_wire.specs.Canonical.{SpellsAs}
use Rattle.rmp_wire.specs.Msg.{Msg, Msgs, no_items, item}
use Rattle.rmp_decode.specs.FieldRows.{TakesRow, FailsRow}
use Rattle.rmp_decode.specs.Fields.{Field, Absent, NoField, Slot, given_all}
use Rattle.rmp_decode.specs.Law.{Lawful, Readable}
use Rattle.rmp_decode.specs.Refusing.{Part, setting_of, RefusesParts, no_refusal}
use Rattle.rmp_decode.specs.Seq.{SpellsIn, SpellsRow, RefusesRow}
use Rattle.rmp_decode.specs.State.{left, faults_of, room_of}
use Rattle.rmp_decode.specs.declared.deserializer.Deserializer.{Deserializer}
use Rattle.rmp_decode.specs.declared.deserializer.Kept.TheVariants.{Nothing}
use Rattle.rmp_decode.specs.declared.error.Error.{Error}
use Rattle.rmp_decode.proofs.Laws.{stays_refl, stays_then}
use Rattle.rmp_decode.proofs.Rows.{row-push, rest_refused, element_refused}
use Rattle.rmp_decode.proofs.Settings.{setting_same}
use Rattle.rmp_decode.proofs.Tuples.{row_narrower}

-- ---- the first field, and then the others

-- there is none
pub no_field_row : {R C : Type 0} (g : Ghosts R) (d : Deserializer R C) → d.failed ≡ false → d.kept ≡ Nothing
    → TakesRow g (λ ms. NoField (given_all ms)) 0 d d
no_field_row g d r k = record {
  bytes = [];
  trees = no_items;
  takes = Consumes-nil (left g d);
  spelled = refl;
  many = refl;
  fits = omega arith;
  holds = tt;
  stays = stays_refl g d;
  faults_same = refl;
  ready = r;
  clean = k;
}

-- the first one is refused
pub row_first : {R C V : Type 0} {g : Ghosts R} {reads : Msg → V → Type 0} {old new : Deserializer R C} {e : Error} (P : Msgs → Type 0) (n : ℕ)
    → old.failed ≡ false → Lawful g reads old new (Err e) → ((m : Msg) (ks : Msgs) → P (item m ks) → Readable reads m) → FailsRow g P (suc n) old new e
row_first {g} {reads} {old} P n o law proj = record {
  stays = law.stays;
  failed = law.failed;
  err = λ x k. element_refused (SpellsAs old.strict) P (Readable reads) (room_of old) (suc n) (left g old) (omega arith) proj (law.err o x k);
}

-- it is read
module _ {R C V : Type 0} {g : Ghosts R} {reads : Msg → V → Type 0} {old mid : Deserializer R C} {v : V} (law : Lawful g reads old mid (Ok v)) where
  -- and the others
  pub row_read : {S : Type 0} {new : Deserializer R C} {n : ℕ} {s : S} (holds : List (Option Msg) → S → Type 0)
      → TakesRow g (λ ms. holds (given_all ms) s) n mid new → TakesRow g (λ ms. Slot reads holds (given_all ms) (Some v) s) (suc n) old new
  row_read {new} holds t =
      let room = law.stays.room in
      record {
        bytes = law.ok.bytes ++ t.bytes;
        trees = item law.ok.tree t.trees;
        takes = Consumes-trans _ _ _ law.ok.bytes t.bytes law.ok.takes t.takes;
        spelled = record {
          first = law.ok.bytes;
          second = t.bytes;
          is_first = law.ok.spelled;
          is_second = subst (λ z. SpellsRow (SpellsAs z) t.bytes t.trees) law.stays.strict t.spelled;
          is_whole = refl;
        };
        many = ap suc t.many;
        fits = omega (arith, law.ok.fits, t.fits, room);
        holds = ((v, refl, law.ok.value), t.holds);
        stays = stays_then g old mid new law.stays t.stays;
        faults_same = t.faults_same ∙ law.sound;
        ready = t.ready;
        clean = t.clean;
      }

  -- another is refused
  pub row_others : {W : Type 0} {new : Deserializer R C} {n : ℕ} (absent : Option V) (rest : List (Option Msg) → W → Type 0) (e : Error)
      → FailsRow g (λ ms. (w : W) × rest (given_all ms) w) n mid new e
      → FailsRow g (λ ms. (u : V × W) × Field (λ m. reads m u.0) (Absent absent u.0) (λ gs. rest gs u.1) (given_all ms)) (suc n) old new e
  row_others {W} {new} {n} absent rest e f = record {
    stays = stays_then g old mid new law.stays f.stays;
    failed = f.failed;
    err = λ x k.
        let r1 = subst (λ z. RefusesRow (SpellsIn z false) (λ ms. (w : W) × rest (given_all ms) w) (room_of mid) n (left g mid)) law.stays.strict
        (f.err x (k ∙ sym law.sound)) in
        let r2 = subst (λ z. RefusesRow (SpellsIn old.strict false) (λ ms. (w : W) × rest (given_all ms) w) (max 1 z) n (left g mid)) law.stays.room r1 in
        rest_refused old.strict false (λ ms. (u : V × W) × Field (λ m. reads m u.0) (Absent absent u.0) (λ gs. rest gs u.1) (given_all ms)) (room_of old) n
        (suc n) (left g old) (left g mid) (item law.ok.tree no_items) law.ok.bytes law.ok.takes
        (row-push (SpellsIn old.strict false) no_items law.ok.tree [] law.ok.bytes refl law.ok.spelled) (omega arith)
        (row_narrower (SpellsIn old.strict false) _ _ (room_of old) n (left g mid) (λ ms h. (h.0.1, h.1.1)) r2);
  }

  -- which error that is
  pub row_wrong : (new : Deserializer R C) (n : ℕ) (human lends : Bool) (p : Part) (ps : List Part) (e : Error)
      → p.holds (setting_of human lends old) law.ok.tree
      → RefusesParts false (setting_of human lends mid) (faults_of g mid) (faults_of g new) ps no_refusal n (left g mid) e
      → RefusesParts false (setting_of human lends old) (faults_of g old) (faults_of g new) (p ∷ ps) no_refusal (suc n) (left g old) e
  row_wrong new n human lends p ps e h w =
      let z = faults_of g new in
      let s = setting_same human lends mid old (room_of mid) (room_of old) law.stays.strict (ap (max 1) law.stays.room) in
      let w1 = subst (λ y. RefusesParts false y (faults_of g mid) z ps no_refusal n (left g mid) e) s w in
      inr (record {
        bytes = law.ok.bytes;
        rest = left g mid;
        tree = law.ok.tree;
        still = n;
        takes = law.ok.takes;
        spelled = law.ok.spelled;
        many = omega arith;
        fits = law.ok.fits;
        holds = h;
        refused = subst (λ y. RefusesParts false (setting_of human lends old) y z ps no_refusal n (left g mid) e) law.sound w1;
      })

pub if_err : {V : Type 0} {P Q : Error → Type 0} (r : Result V Error) → ((e : Error) → P e → Q e) → IfErr r P → IfErr r Q
if_err (Ok v) f h = tt
if_err (Err e) f h = f e h

-- what was read is read as the value
pub takes_as : {R C : Type 0} {g : Ghosts R} {P Q : Msgs → Type 0} {n : ℕ} {old new : Deserializer R C} → ((ms : Msgs) → P ms → Q ms)
    → TakesRow g P n old new → TakesRow g Q n old new
takes_as f t = record {
  bytes = t.bytes;
  trees = t.trees;
  takes = t.takes;
  spelled = t.spelled;
  many = t.many;
  fits = t.fits;
  holds = f t.trees t.holds;
  stays = t.stays;
  faults_same = t.faults_same;
  ready = t.ready;
  clean = t.clean;
}

-- none of these rows is there, and so none of others
pub row_fails_as : {R C : Type 0} {g : Ghosts R} {P Q : Msgs → Type 0} {n : ℕ} {old new : Deserializer R C} {e : Error} → ((ms : Msgs) → Q ms → P ms)
    → FailsRow g P n old new e → FailsRow g Q n old new e
row_fails_as f r = record { stays = r.stays; failed = r.failed; err = λ m k. row_narrower _ _ _ _ _ _ f (r.err m k) }
