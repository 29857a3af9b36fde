-- An element that an access offers: of a list as it was encoded, and of bytes as the number that a byte is.
use Rattle.std.proofs.Common.{◌≡◌, ◌∙◌, sym, ap, subst, refl, ℕ, pos, ◌<◌, ◌+◌, max, arith, List, [], ◌∷◌, Bool, true, false, Err}
use Rattle.std.specs.Io.KnownBytes.{Consumes}
use Rattle.rmp_wire.specs.declared.error.IoFault.{IoFault}
use Rattle.rmp_wire.specs.declared.source.Source.{Ghosts}
use Rattle.rmp_wire.specs.Canonical.{SpellsAs}
use Rattle.rmp_wire.specs.Msg.{Msg, whole, depth}
use Rattle.rmp_decode.specs.Law.{Refuses, Readable, Reads, Explains}
use Rattle.rmp_decode.specs.Parts.{TakesPart, FailsPart}
use Rattle.rmp_decode.specs.MapRefusing.{RefusesPart}
use Rattle.rmp_decode.specs.Refusing.{Setting, Refusals, setting_of, element_setting, RefusedIn, RefusesElement}
use Rattle.rmp_decode.specs.Seq.{SpellsIn, inner_of, IsOpen, TakesElement, FailsToTake}
use Rattle.rmp_decode.specs.State.{left, faults_of, Stays}
use Rattle.rmp_decode.specs.With.{Offers, OffersPart, SameList, part_reader}
use Rattle.rmp_decode.specs.declared.deserializer.Deserializer.{Deserializer}
use Rattle.rmp_decode.specs.declared.deserializer.Kept.TheVariants.{Nothing}
use Rattle.rmp_decode.specs.declared.access.seq.SeqAccess.{SeqAccess}
use Rattle.rmp_decode.specs.declared.error.Error.{Error}
use Rattle.rmp_decode.specs.declared.error.Error.TheVariants.{InvalidDataRead}
use Rattle.rmp_decode.proofs.ByteParts.{number_taken, number_refused, number_wrong, number_missing, number_ended}
use Rattle.rmp_decode.proofs.Laws.{stays_then}
use Rattle.rmp_decode.proofs.Settings.{setting_same}

-- ---- over the borrowed readers

-- a part was taken
record Taken {R C X : Type 0} (g : Ghosts R) (reads : Msg → X → Type 0) (in_bytes : Bool) (room : ℕ) (old new : Deserializer R C) (v : X) : Type 0 where
  pub bytes : List ℕ
  pub tree : Msg
  pub takes : Consumes (left g old) (left g new) bytes
  pub spelled : SpellsIn old.strict in_bytes bytes tree
  pub fits : depth tree < room
  pub value : reads tree v
  pub stays : Stays g old new
  pub faults_same : faults_of g new ≡ faults_of g old

module _ {R C X : Type 0} (g : Ghosts R) (reads : Msg → X → Type 0) (old from new : Deserializer R C) (inner : ℕ) (clean : old.kept ≡ Nothing) where
  taken_part : (in_bytes : Bool) (v : X) → OffersPart g in_bytes old from → TakesPart g reads (max 1 inner) from new v
      → Taken g reads in_bytes (max 1 inner) old new v
  taken_part true v o p =
      let r : Reads g reads (part_reader from inner) new v = record
      { bytes = p.bytes; tree = p.tree; takes = p.takes; goes_on = p.goes_on; spelled = p.spelled; fits = p.fits; value = p.value } in
      let t = number_taken g old from (part_reader from inner) clean o.keeps refl refl reads new v r in
      record {
        bytes = t.byte ∷ [];
        tree = whole (pos t.byte);
        takes = t.takes;
        spelled = record { byte = t.byte; small = t.small; alone = refl; number = refl };
        fits = omega arith;
        value = t.value;
        stays = stays_then g old from new o.stays p.stays;
        faults_same = p.faults_same ∙ o.faults_same;
      }
  taken_part false v o p =
      subst (λ (z : Deserializer R C). Taken g reads false (max 1 inner) z new v) o
      (record {
        bytes = p.bytes;
        tree = p.tree;
        takes = p.takes;
        spelled = p.spelled;
        fits = p.fits;
        value = p.value;
        stays = p.stays;
        faults_same = p.faults_same;
      })

  refused_part : (in_bytes : Bool) (e : Error) → OffersPart g in_bytes old from → FailsPart g reads (max 1 inner) from new e
      → Stays g old new × Explains e (faults_of g old) (faults_of g new) (Refuses (SpellsIn old.strict in_bytes) (Readable reads) (max 1 inner) (left g old))
  refused_part true e o f = (
    stays_then g old from new o.stays f.stays,
    λ n q. number_refused g old from (part_reader from inner) clean o.keeps refl refl (Readable reads)
        (max 1 inner) (omega arith) (f.err n (q ∙ sym o.faults_same)),
  )
  refused_part false e o f =
      subst (λ (z : Deserializer R C). Stays g z new × Explains e (faults_of g z) (faults_of g new)
      (Refuses (SpellsAs z.strict) (Readable reads) (max 1 inner) (left g z))) o (f.stays, f.err)

-- ---- over the accesses

module _ {R C X : Type 0} (g : Ghosts R) (reads : Msg → X
    → Type 0) (old new : SeqAccess R C) (from : Deserializer R C) (o : IsOpen old) (offers : OffersPart g old.bytes old.de.now from) where
  -- it was read
  pub element_taken : (v : X) → SameList old new → TakesPart g reads (inner_of old) from new.de.now v → old.left ≡ new.left + 1 → new.sound ≡ true
      → TakesElement g reads old new v
  element_taken v same p fewer s =
      let t = taken_part g reads old.de.now from new.de.now old.inner o.clean old.bytes v offers p in
      record {
        bytes = t.bytes;
        tree = t.tree;
        takes = t.takes;
        spelled = t.spelled;
        fits = t.fits;
        value = t.value;
        fewer = fewer;
        count = same.count;
        inner = same.inner;
        bytes_same = same.bytes;
        stays = t.stays;
        faults_same = t.faults_same;
        still = record { sound = s; marked = p.marked; clean = p.clean };
      }

  -- it was refused
  pub element_fails : (e : Error) → 0 < old.left → FailsPart g reads (inner_of old) from new.de.now e → FailsToTake g reads old new e
  element_fails e some f =
      let r = refused_part g reads old.de.now from new.de.now old.inner o.clean old.bytes e offers f in
      record { some = some; stays = r.0; err = r.1 }

-- ---- which error it is

module _ {R C : Type 0} (g : Ghosts R) (human : Bool) (lends : Bool) (P : Setting
    → Refusals) (old from : Deserializer R C) (inner after : ℕ) (e : Error) (clean : old.kept ≡ Nothing) where
  pub offered : (in_bytes : Bool) → OffersPart g in_bytes old from
      → P (setting_of human lends (part_reader from inner)) (faults_of g from) after (left g from) e
      → RefusedIn in_bytes (P (setting_of human lends (part_reader old inner))) (faults_of g old) after (left g old) e
  offered true o p =
      let s' : setting_of human lends (part_reader from inner) ≡ setting_of human lends (part_reader old inner) = setting_same
      human lends (part_reader from inner) (part_reader old inner) _ _ o.stays.strict refl in
      number_wrong g (P (setting_of human lends (part_reader old inner))) e old clean from (part_reader from inner) o.keeps refl refl
      o.faults_same after (subst (λ z. P z (faults_of g from) after (left g from) e) s' p)
  offered false o p = subst (λ (z : Deserializer R C). P (setting_of human lends (part_reader z inner)) (faults_of g z) after (left g z) e) o p

-- ---- all that a refusal says

module _ {R C X : Type 0} (g : Ghosts R) (human lends : Bool) (reads : Msg → X → Type 0) (P : Setting → Refusals) (old new : SeqAccess R C) (o : IsOpen old)
    (some : 0 < old.left) where
  -- it was offered, and refused
  pub element_refused : (spared : Type 0) (from : Deserializer R C) (e : Error) → OffersPart g old.bytes old.de.now from
      → RefusesPart g human lends reads P spared (inner_of old) from new.de.now e → RefusesElement g human lends reads P old new e
  element_refused spared from e offers r = record {
    fails = element_fails g reads old new from o offers e some r.fails;
    named = offered g human lends P old.de.now from old.inner (faults_of g new.de.now) e o.clean old.bytes offers r.named;
  }

  -- the bytes ended before it
  pub element_ended : (b : Bool) (f : IoFault) → old.bytes ≡ true → Offers g b old.de.now new.de.now (Err f)
      → RefusesElement g human lends reads P old new (InvalidDataRead f)
  element_ended b f y k = record {
    fails = record { some = some; stays = k.stays; err = λ n q. rw y (number_missing g old.de.now (Readable reads) (inner_of old) o.clean (k.err n q)) };
    named = rw y (number_ended g (P (element_setting human lends old)) (InvalidDataRead f) old.de.now o.clean (faults_of g new.de.now) k.end k.err);
  }

-- a read leaves nothing kept back
pub none_kept : {R C X : Type 0} (g : Ghosts R) (reads : Msg → X → Type 0) (inner : ℕ) (old new : Deserializer R C) (v : X) → TakesPart g reads inner old new v
    → TakesPart g reads inner old (record new { kept = Nothing }) v
none_kept g reads inner old new v t = subst (λ d. TakesPart g reads inner old d v) (ap (λ k. record new { kept = k }) t.clean) t
