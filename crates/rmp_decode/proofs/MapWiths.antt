-- What a function that an access calls makes of the next key or value.
use Rattle.std.proofs.Common.{◌≡◌, sym, subst, refl, ℕ, max, Option, Some, Bool, true, false, Result, Ok, Err, MatchResult, if◌then◌else◌}
use Rattle.std.specs.Fn.{FnOnceReturnsAtMut}
use Rattle.rmp_wire.specs.declared.source.Source.{Ghosts}
use Rattle.rmp_wire.specs.Msg.{Msg}
use Rattle.rmp_decode.specs.Law.{Lawful}
use Rattle.rmp_decode.specs.Maps.{map_inner, TakesKey, TakesValue}
use Rattle.rmp_decode.specs.Parts.{TakesPart, FailsPart}
use Rattle.rmp_decode.specs.With.{Reading, part_reader, PartGiven, KeyRead, ValueRead}
use Rattle.rmp_decode.specs.declared.deserializer.Deserializer.{Deserializer}
use Rattle.rmp_decode.specs.declared.access.map.MapAccess.{MapAccess}
use Rattle.rmp_decode.specs.declared.error.Error.{Error}
use Rattle.rmp_decode.specs.declared.error.Error.TheVariants.{Uncategorized}
use Rattle.rmp_decode.specs.declared.text.Text.TheVariants.{FailedBefore}

part_ok : {X : Type 0} (gave : Result X Error) (failed : Bool) (v : X)
    → MatchResult gave (λ x. ◌≡◌ {A = Result X Error} (Ok v) (if failed then Err (Uncategorized FailedBefore) else Ok x))
    (λ e. ◌≡◌ {A = Result X Error} (Ok v) (Err e)) → gave ≡ Ok v
part_ok (Ok x) true v m = absurd (cc)
part_ok (Ok x) false v m = cc
part_ok (Err e) failed v m = absurd (cc)

pub part_err : {X : Type 0} (gave : Result X Error) (failed : Bool) (e : Error)
    → MatchResult gave (λ x. ◌≡◌ {A = Result X Error} (Err e) (if failed then Err (Uncategorized FailedBefore) else Ok x))
    (λ d. ◌≡◌ {A = Result X Error} (Err e) (Err d)) → ((x : X) → gave ≡ Ok x → failed ≡ false)
    → gave ≡ Err e
part_err (Ok x) true e m f = let w : true ≡ false = f x refl in absurd (cc)
part_err (Ok x) false e m f = absurd (cc)
part_err (Err d) failed e m f = cc

pub key_ok : {X : Type 0} (given : Result X Error) (v : X)
    → MatchResult given (λ x. ◌≡◌ {A = Result (Option X) Error} (Ok (Some v)) (Ok (Some x))) (λ e. ◌≡◌ {A = Result (Option X) Error} (Ok (Some v)) (Err e))
    → given ≡ Ok v
key_ok (Ok x) v m = cc
key_ok (Err e) v m = absurd (cc)

pub key_err : {X : Type 0} (given : Result X Error) (e : Error)
    → MatchResult given (λ x. ◌≡◌ {A = Result (Option X) Error} (Err e) (Ok (Some x))) (λ d. ◌≡◌ {A = Result (Option X) Error} (Err e) (Err d))
    → given ≡ Err e
key_err (Ok x) e m = absurd (cc)
key_err (Err d) e m = cc

module _ {F R C X : Type 0} (g : Ghosts R) (once : Reading F R C X) (f : F) (reads : Msg → X → Type 0) where
  pub part_taken : (inner : ℕ) (old new : Deserializer R C) (v : X)
      → ((rest : Deserializer R C) (gave : Result X Error) → FnOnceReturnsAtMut once f (part_reader old inner) gave rest
      → Lawful g reads (part_reader old inner) rest gave)
      → PartGiven once f inner old new (Ok v) → TakesPart g reads (max 1 inner) old new v
  part_taken inner old new v law p =
      let given = part_ok p.gave p.rest.failed v p.answers in
      let l = subst (λ (z : Result X Error). Lawful g reads (part_reader old inner) p.rest z) given (law p.rest p.gave p.called) in
      let r = l.ok in
      subst (λ (z : Deserializer R C). TakesPart g reads (max 1 inner) old z v) (sym p.keeps) (record {
        bytes = r.bytes;
        tree = r.tree;
        takes = r.takes;
        goes_on = r.goes_on;
        spelled = r.spelled;
        fits = r.fits;
        value = r.value;
        stays = record { config = l.stays.config; room = refl; limit = refl; strict = l.stays.strict; place = l.stays.place };
        faults_same = l.sound;
        clean = l.clean;
        marked = refl;
      })

  pub part_fails : (inner : ℕ) (old new : Deserializer R C) (e : Error)
      → ((rest : Deserializer R C) (gave : Result X Error) → FnOnceReturnsAtMut once f (part_reader old inner) gave rest
      → Lawful g reads (part_reader old inner) rest gave)
      → PartGiven once f inner old new (Err e) → FailsPart g reads (max 1 inner) old new e
  part_fails inner old new e law p =
      let l0 = law p.rest p.gave p.called in
      let given = part_err p.gave p.rest.failed e p.answers
      (λ x is. let k = subst (λ (z : Result X Error). Lawful g reads (part_reader old inner) p.rest z) is l0 in k.ready) in
      let l = subst (λ (z : Result X Error). Lawful g reads (part_reader old inner) p.rest z) given l0 in
      subst (λ (z : Deserializer R C). FailsPart g reads (max 1 inner) old z e) (sym p.keeps) (record {
        stays = record { config = l.stays.config; room = refl; limit = refl; strict = l.stays.strict; place = l.stays.place };
        failed = refl;
        err = l.err refl;
      })

  module _ (old new : MapAccess R C) (law : (rest : Deserializer R C) (gave : Result X Error)
      → FnOnceReturnsAtMut once f (part_reader old.de.now old.inner) gave rest → Lawful g reads (part_reader old.de.now old.inner) rest gave) where
    pub key_taken : (v : X) → KeyRead once f old new (Ok (Some v)) → new.sound ≡ true → TakesKey g reads old new v
    key_taken v k s =
        let given = key_ok k.given v k.answers in
        let p = part_taken old.inner old.de.now new.de.now v law
        (subst (λ (z : Result X Error). PartGiven once f old.inner old.de.now new.de.now z) given k.part) in
        record { part = p; fewer = k.fewer; owes = k.owes; count = k.count; inner = k.inner; still = record { sound = s; marked = p.marked; clean = p.clean } }

    pub key_fails : (e : Error) → KeyRead once f old new (Err e) → FailsPart g reads (map_inner old) old.de.now new.de.now e
    key_fails e k = part_fails old.inner old.de.now new.de.now e law
        (subst (λ (z : Result X Error). PartGiven once f old.inner old.de.now new.de.now z) (key_err k.given e k.answers) k.part)

    pub value_taken : (v : X) → ValueRead once f old new (Ok v) → new.sound ≡ true → TakesValue g reads old new v
    value_taken v k s =
        let p = part_taken old.inner old.de.now new.de.now v law k.part in
        record {
          part = p;
          same_left = k.left;
          owes = k.owes;
          count = k.count;
          inner = k.inner;
          still = record
              { sound = s; marked = p.marked; clean = p.clean };
        }

    pub value_fails : (e : Error) → ValueRead once f old new (Err e) → FailsPart g reads (map_inner old) old.de.now new.de.now e
    value_fails e k = part_fails old.inner old.de.now new.de.now e law k.part
