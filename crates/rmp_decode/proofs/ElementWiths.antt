-- What a function that an access calls makes of the next element.
use Rattle.std.proofs.Common.{◌≡◌, ◌∙◌, sym, subst, refl, ◌<◌, ◌⊎◌, inl, inr, Some, true, Result, Ok, Err}
use Rattle.std.specs.Fn.{FnOnceReturnsAtMut}
use Rattle.rmp_wire.specs.declared.source.Source.{Ghosts}
use Rattle.rmp_wire.specs.Msg.{Msg}
use Rattle.rmp_decode.specs.Law.{Refuses, Readable, Lawful}
use Rattle.rmp_decode.specs.Seq.{SpellsIn, inner_of, IsOpen, TakesElement, FailsToTake}
use Rattle.rmp_decode.specs.State.{left}
use Rattle.rmp_decode.specs.With.{Reading, Lends, part_reader, PartGiven, PartRead, PartMissing, SameList}
use Rattle.rmp_decode.specs.declared.deserializer.Deserializer.{Deserializer}
use Rattle.rmp_decode.specs.declared.access.seq.SeqAccess.{SeqAccess}
use Rattle.rmp_decode.specs.declared.error.Error.{Error}
use Rattle.rmp_decode.proofs.ByteParts.{number_missing}
use Rattle.rmp_decode.proofs.MapWiths.{key_ok, key_err, part_taken, part_fails}
use Rattle.rmp_decode.proofs.Offered.{element_taken, element_fails}

module _ {F R C X : Type 0} (g : Ghosts R) (once : Reading F R C X) (f : F) (reads : Msg → X
    → Type 0) (old new : SeqAccess R C) (o : IsOpen old) (same : SameList old new)
    (law : (d rest : Deserializer R C) (gave : Result X Error) → Lends g old d → FnOnceReturnsAtMut once f d gave rest → Lawful g reads d rest gave) where
  -- f read it
  pub with_taken : (v : X) → PartRead g once f old new (Ok (Some v)) ⊎ PartMissing {X = X} g old new (Ok (Some v)) → new.sound ≡ true
      → TakesElement g reads old new v
  with_taken v (inr m) s = let w = m.answers in absurd (cc)
  with_taken v (inl p) s =
      let given = subst (λ (z : Result X Error). PartGiven once f old.inner p.from new.de.now z) (key_ok p.given v p.answers) p.part in
      let lent : Lends g old (part_reader p.from old.inner) = record { from = p.from; offers = p.offers; lent = refl } in
      let t = part_taken g once f reads old.inner p.from new.de.now v (λ rest gave c. law (part_reader p.from old.inner) rest gave lent c) given in
      element_taken g reads old new p.from o p.offers v same t p.fewer s

  -- f refused it
  pub with_refused : (e : Error) → 0 < old.left → PartRead g once f old new (Err e) ⊎ PartMissing {X = X} g old new (Err e) → FailsToTake g reads old new e
  with_refused e some (inr m) =
      let w = m.answers in
      let same_error : m.error ≡ e = cc in
      record {
        some = some;
        stays = m.stays;
        err = λ n q. subst (λ b. Refuses (SpellsIn old.de.now.strict b) (Readable reads) (inner_of old) (left g old.de.now)) (sym m.bytes)
            (number_missing g old.de.now (Readable reads) (inner_of old) o.clean (m.err (λ z. n (sym same_error ∙ z)) q));
      }
  with_refused e some (inl p) =
      let given = subst (λ (z : Result X Error). PartGiven once f old.inner p.from new.de.now z) (key_err p.given e p.answers) p.part in
      let lent : Lends g old (part_reader p.from old.inner) = record { from = p.from; offers = p.offers; lent = refl } in
      element_fails g reads old new p.from o p.offers e some
      (part_fails g once f reads old.inner p.from new.de.now e (λ rest gave c. law (part_reader p.from old.inner) rest gave lent c) given)
