-- What happens at an element of a list, or of bytes, that are read one after another with the room set once for all of them.
use Rattle.std.proofs.Common.{◌≡◌, ◌∙◌, sym, ap, subst, refl, inl, inr, max, arith, ℕ, ◌+◌, ◌-◌, ◌<◌, ◌≤◌, List, [], ◌∷◌, ◌++◌, Bool, true, false, Ok}
use Rattle.std.proofs.Common.{Err, length}
use Rattle.std.proofs.lemmas.List.{length-append}
use Rattle.std.specs.Io.KnownBytes.{IsAtEnd}
use Rattle.rmp_wire.specs.declared.source.Source.{Ghosts}
use Rattle.rmp_wire.specs.Canonical.{SpellsAs}
use Rattle.rmp_wire.specs.Msg.{Msg}
use Rattle.rmp_decode.specs.Exact.{IsDataEnd, UnlessFault}
use Rattle.rmp_decode.specs.Inside.{access_at, TakesValues, ReadsRow, StopsRow}
use Rattle.rmp_decode.specs.Law.{Lawful, Explains, Refuses, Readable}
use Rattle.rmp_decode.specs.Parts.{TakesPart, FailsPart}
use Rattle.rmp_decode.specs.Refusing.{Setting, Refusals, setting_of, element_setting, ElementRefused, RefusedIn}
use Rattle.rmp_decode.specs.Seq.{levels, SpellsIn, Opens, FailsToTake, TakesSeqHead}
use Rattle.rmp_decode.specs.State.{left, faults_of, Stays}
use Rattle.rmp_decode.specs.With.{OffersPart}
use Rattle.rmp_decode.specs.declared.deserializer.Deserializer.{Deserializer}
use Rattle.rmp_decode.specs.declared.deserializer.Kept.TheVariants.{Nothing}
use Rattle.rmp_decode.specs.declared.access.seq.SeqAccess.{SeqAccess}
use Rattle.rmp_decode.specs.declared.error.Error.{Error}
use Rattle.rmp_decode.specs.declared.error.Error.TheVariants.{OutOfMemory}
use Rattle.rmp_decode.proofs.ByteParts.{number_missing, number_ended}
use Rattle.rmp_decode.proofs.LeftParts.{lawful_levels}
use Rattle.rmp_decode.proofs.Offered.{element_taken, element_fails, offered}
use Rattle.rmp_decode.proofs.RowEnds.{count_each}
use Rattle.rmp_decode.proofs.Seqs.{Values, values_start, values_step}

-- a reader as it is seen from outside of the list: with the list's room, and failed until the list ends
abbrev pub outside : {R C : Type 0} → ℕ → Deserializer R C → Deserializer R C
outside room d = record d { room = room; failed = true }

-- these values were read so far from inside of the list, and the row holds them, of which so many of the elements aren't wanted
pub record RowSoFar {R C V W : Type 0} (g : Ghosts R) (human lends : Bool) (reads : Bool → Bool → Msg → V → Type 0) (holds : W → List V
    → Type 0) (most : ℕ → ℕ) (start : Deserializer R C) (b : Bool) (all rest : ℕ) (now : Deserializer R C) (still : ℕ) (row : W) : Type 0 where
  pub values : List V
  pub read : Values g (reads human lends) (access_at start b all all) (access_at (outside start.room now) b still all) values
  pub held : holds row values
  pub ready : now.failed ≡ false
  pub room : now.room ≡ start.room - levels b
  pub whole : rest + most all ≡ all
  pub more : rest ≤ still
  pub within : still ≤ all

-- the same as it is told
told : {R C V : Type 0} (g : Ghosts R) (reads : Msg → V → Type 0) (start now : SeqAccess R C) (vs : List V) → Values g reads start now vs
    → TakesValues g reads start now vs
told g reads start now vs v = record { trees = v.trees; run = v.run; value = v.values }

-- the head was taken
pub row_opens : {R C : Type 0} {g : Ghosts R} {old new : Deserializer R C} {b : Bool} {n : ℕ} → TakesSeqHead g old new (Ok (b, n))
    → Opens g old (access_at new b n n)
row_opens {old} {new} {b} t = record {
  fresh = t.fresh;
  head = record { bytes = t.ok.bytes; takes = t.ok.takes; goes_on = t.ok.goes_on; is_head = t.ok.is_head };
  count = refl;
  room = room_is b t.deep;
  stays = record { config = t.stays.config; room = t.stays.room; limit = t.stays.limit; strict = t.stays.strict; place = t.stays.place };
  faults_same = t.sound;
  opened = record { sound = refl; marked = refl; clean = t.clean };
}
  where
    room_is : (b : Bool) → (b ≡ false → 1 < old.room) → max 1 old.room ≡ max 1 (new.room - levels b) + levels b
    room_is true d = let r = t.stays.room in omega (arith, r)
    room_is false d = let r = t.stays.room in let l = d refl in omega (arith, r, l)

-- nothing was read yet
pub row_start : {R C V W : Type 0} {g : Ghosts R} {human lends : Bool} {reads : Bool → Bool → Msg → V → Type 0} {holds : W → List V → Type 0} {most : ℕ → ℕ}
    {start : Deserializer R C} {b : Bool} {n rest inner : ℕ} {row : W} → start.kept ≡ Nothing → inner ≡ start.room - levels b → holds row []
    → rest + most n ≡ n → RowSoFar g human lends reads holds most start b n rest (record start { room = inner; failed = false; kept = Nothing }) n row
row_start {g} {human} {lends} {reads} {holds} {most} {start} {b} {n} {rest} {inner} {row} k r h w =
    subst (λ z. RowSoFar g human lends reads holds most start b n rest (record start { room = inner; failed = false; kept = z }) n row) k
    (record {
      values = [];
      read = values_start g (reads human lends) (access_at start b n n) (record { sound = refl; marked = refl; clean = k });
      held = h;
      ready = refl;
      room = r;
      whole = w;
      more = omega (arith, w);
      within = omega arith;
    })

-- what a read leaves is set again
settled : {R C : Type 0} (d : Deserializer R C) → d.failed ≡ false → d.kept ≡ Nothing → record d { failed = false; kept = Nothing } ≡ d
settled d f k = ap (λ z. record d { failed = z; kept = Nothing }) (sym f) ∙ ap (λ z. record d { kept = z }) (sym k)

-- what was offered is so too as it is seen from outside
offers_outside : {R C : Type 0} (g : Ghosts R) (room : ℕ) (now from : Deserializer R C) (b : Bool) → OffersPart g b now from
    → OffersPart g b (outside room now) (outside room from)
offers_outside g room now from false o = ap (outside room) o
offers_outside g room now from true o = record {
  keeps = record { byte = o.keeps.byte; small = o.keeps.small; taken = o.keeps.taken; kept = o.keeps.kept };
  stays = record { config = o.stays.config; room = refl; limit = o.stays.limit; strict = o.stays.strict; place = o.stays.place };
  faults_same = o.faults_same;
}

module _ {R C V W : Type 0} {g : Ghosts R} {human lends : Bool} {reads : Bool → Bool → Msg → V → Type 0} {holds : W → List V → Type 0} {most : ℕ → ℕ}
    {start now : Deserializer R C} {b : Bool} {all rest still : ℕ} {row : W}
    (r : RowSoFar g human lends reads holds most start b all rest now still row) where
  -- how many were read
  pub row_many : length r.values + still ≡ all
  row_many = let m = r.read.run.many in let c = count_each (reads human lends) r.read.trees r.values r.read.values in omega arith

  -- no more are wanted, or to come
  pub row_whole : still ≤ rest → ReadsRow g human lends reads holds most start b all (record now { room = start.room }) row still
  row_whole l = record {
    values = r.values;
    held = r.held;
    read = told g (reads human lends) (access_at start b all all) (access_at (outside start.room now) b still all) r.values r.read;
    rest = omega (arith, r.more, l, r.whole);
    ready = r.ready;
  }

  module _ {from : Deserializer R C} (some : rest < still) (s : Stays g now from) where
    same_room : from.room ≡ start.room - levels b
    same_room = s.room ∙ r.room

    -- ---- an element was read
    module _ (new : Deserializer R C) (offers : OffersPart g b now from) (v : V) (fewer : ℕ) (one : still ≡ fewer + 1)
        (law : Lawful g (reads human lends) from new (Ok v)) where
      part_taken : TakesPart g (reads human lends) (max 1 (start.room - levels b)) (outside start.room from) (outside start.room new) v
      part_taken =
          let room = same_room in
          let fits = law.ok.fits in
          record {
            bytes = law.ok.bytes;
            tree = law.ok.tree;
            takes = law.ok.takes;
            goes_on = law.ok.goes_on;
            spelled = law.ok.spelled;
            fits = omega (arith, fits, room);
            value = law.ok.value;
            stays = record { config = law.stays.config; room = refl; limit = law.stays.limit; strict = law.stays.strict; place = law.stays.place };
            faults_same = law.sound;
            clean = law.clean;
            marked = refl;
          }

      taken : Values g (reads human lends) (access_at start b all all) (access_at (outside start.room new) b fewer all) (r.values ++ v ∷ [])
      taken = values_step g (reads human lends) (access_at start b all all) (access_at (outside start.room now) b still all)
          (access_at (outside start.room new) b fewer all) r.values v r.read
          (element_taken g (reads human lends) (access_at (outside start.room now) b still all)
          (access_at (outside start.room new) b fewer all) (outside start.room from) r.read.run.still (offers_outside g start.room now from b offers) v
          (record { count = refl; inner = refl; bytes = refl }) part_taken one refl) refl

      -- and the row has it
      pub row_step : (next : W) → holds next (r.values ++ v ∷ [])
          → RowSoFar g human lends reads holds most start b all rest (record new { failed = false; kept = Nothing }) fewer next
      row_step next h = subst (λ z. RowSoFar g human lends reads holds most start b all rest z fewer next) (sym (settled new law.ready law.clean))
          (record {
            values = r.values ++ v ∷ [];
            read = taken;
            held = h;
            ready = law.ready;
            room = law.stays.room ∙ same_room;
            whole = r.whole;
            more = omega (arith, some, one);
            within = omega (arith, r.within, one);
          })

      -- memory was short for it
      pub row_short : (grows : Bool) → grows ≡ true → (P : Setting → Refusals)
          → StopsRow g human lends reads P grows start b all (most all) (outside start.room (record new { failed = false; kept = Nothing })) OutOfMemory
      row_short grows q P = record {
        failed = refl;
        why = inr (
          q,
          record {
            values = r.values ++ v ∷ [];
            still = fewer;
            read = subst (λ z. TakesValues g (reads human lends) (access_at start b all all) (access_at (outside start.room z) b fewer all)
                (r.values ++ v ∷ []))
                (sym (settled new law.ready law.clean))
                (told g (reads human lends) (access_at start b all all) (access_at (outside start.room new) b fewer all) (r.values ++ v ∷ []) taken);
            some = omega (arith, length-append r.values (v ∷ []));
            memory = refl;
          },
        );
      }

    -- ---- one was refused
    stopped : (new last : Deserializer R C) (P : Setting → Refusals) (grows : Bool) (e : Error) → last ≡ record new { room = start.room; failed = true }
        → FailsToTake g (reads human lends) (access_at (outside start.room now) b still all) (access_at (outside start.room new) b still all) e
        → ElementRefused g human lends P (access_at (outside start.room now) b still all) (access_at (outside start.room new) b still all) (left g now) e
        → StopsRow g human lends reads P grows start b all (most all) last e
    stopped new last P grows e q f w = subst (λ z. StopsRow g human lends reads P grows start b all (most all) z e) (sym q)
        (record {
          failed = refl;
          why = inl (record {
            values = r.values;
            mid = outside start.room now;
            still = still;
            read = told g (reads human lends) (access_at start b all all) (access_at (outside start.room now) b still all) r.values r.read;
            fewer = omega (arith, row_many, some, r.whole);
            fails = f;
            refused = w;
          });
        })

    -- by its type, and the levels are counted that the refusal is passed outward
    pub row_refused : {new : Deserializer R C} {P : Setting → Refusals} {grows : Bool} {e : Error} (outward : ℕ) → OffersPart g b now from
        → from.failed ≡ false
        → Lawful g (reads human lends) from new (Err e) → P (setting_of human lends from) (faults_of g from) (faults_of g new) (left g from) e
        → StopsRow g human lends reads P grows start b all (most all) (record new { room = start.room; levels = outward }) e
    row_refused {new} {P} {grows} {e} outward offers ready law0 w =
        let counted = record new { levels = outward } in
        let law = lawful_levels g from new e outward (reads human lends) ready law0 in
        let fails : FailsPart g (reads human lends) (max 1 (start.room - levels b)) (outside start.room from) (outside start.room counted) e = record {
          stays = record { config = law.stays.config; room = refl; limit = law.stays.limit; strict = law.stays.strict; place = law.stays.place };
          failed = refl;
          err = λ n k. subst (λ z. Refuses (SpellsAs from.strict) (Readable (reads human lends)) (max 1 z) (left g from)) same_room (law.err ready n k);
        } in
        stopped counted (record counted { room = start.room }) P grows e (ap (λ f. record counted { room = start.room; failed = f }) law.failed)
        (element_fails g (reads human lends) (access_at (outside start.room now) b still all)
        (access_at (outside start.room counted) b still all) (outside start.room from) r.read.run.still (offers_outside g start.room now from b offers) e
        (omega (arith, some)) fails)
        (offered g human lends P (outside start.room now) (outside start.room from) (start.room - levels b) (faults_of g new) e
        r.read.run.still.clean b (offers_outside g start.room now from b offers)
        (subst (λ z. P (record { human = human; lends = lends; strict = from.strict; room = max 1 z }) (faults_of g from) (faults_of g new)
        (left g from) e) same_room w))

    -- the bytes ended before it
    pub row_ended : {P : Setting → Refusals} {grows : Bool} {e : Error} → b ≡ true
        → Explains e (faults_of g now) (faults_of g from) (IsAtEnd (g.ahead now.reader))
        → UnlessFault (faults_of g now) (faults_of g from) e (IsDataEnd e) → StopsRow g human lends reads P grows start b all (most all) (outside start.room from) e
    row_ended {P} {grows} {e} is_bytes err ends = stopped from (outside start.room from) P grows e refl
        (record {
          some = omega (arith, some);
          stays = record { config = s.config; room = refl; limit = s.limit; strict = s.strict; place = s.place };
          err = λ n k. subst (λ z. Refuses (SpellsIn now.strict z) (Readable (reads human lends)) (max 1 (start.room - levels b)) (left g now))
              (sym is_bytes) (number_missing g now (Readable (reads human lends)) (max 1 (start.room - levels b)) r.read.run.still.clean (err n k));
        })
        (subst (λ z. RefusedIn z (P (element_setting human lends (access_at (outside start.room now) b still all))) (faults_of g now)
        (faults_of g from) (left g now) e) (sym is_bytes)
        (number_ended g (P (element_setting human lends (access_at (outside start.room now) b still all))) e now r.read.run.still.clean
        (faults_of g from) ends err))
