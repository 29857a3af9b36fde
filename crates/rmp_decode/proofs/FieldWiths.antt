-- What a function that an access to the fields of a struct calls makes of a value.
use Rattle.std.proofs.Common.{◌≡◌, ◌∙◌, sym, ap, subst, refl, ◌≤◌, arith, inl, inr, Bool, true, false, length, Result, Ok, Err, Some, OnOk, MatchResult}
use Rattle.std.specs.Fn.{FnOnceReturnsAtMut}
use Rattle.rmp_wire.specs.declared.error.IoFault.{IoFault}
use Rattle.rmp_wire.specs.declared.source.Source.{Ghosts}
use Rattle.rmp_wire.specs.Msg.{Msg}
use Rattle.rmp_decode.specs.FieldAccess.{begun, IsStructOpen, SameStruct, as_map, as_seq, as_element, FieldRead, FieldReadAs}
use Rattle.rmp_decode.specs.FieldAccess.{TakesField, TakesFieldAs, FailsField, FailsFieldAs}
use Rattle.rmp_decode.specs.Law.{Lawful}
use Rattle.rmp_decode.specs.Maps.{TakesValue}
use Rattle.rmp_decode.specs.Names.{bytes_of}
use Rattle.rmp_decode.specs.Seq.{TakesElement}
use Rattle.rmp_decode.specs.With.{Reading, Lends, Offers, OffersPart, PartGiven, part_reader}
use Rattle.rmp_decode.specs.declared.deserializer.Deserializer.{Deserializer}
use Rattle.rmp_decode.specs.declared.access.field_access.FieldAccess.{FieldAccess}
use Rattle.rmp_decode.specs.declared.deserializer.Kept.TheVariants.{Nothing}
use Rattle.rmp_decode.specs.declared.error.Error.{Error}
use Rattle.rmp_decode.specs.declared.error.Error.TheVariants.{InvalidDataRead}
use Rattle.rmp_decode.proofs.FieldAccesses.{seq_open, some_owed}
use Rattle.rmp_decode.proofs.MapWiths.{value_taken, value_fails}
use Rattle.rmp_decode.proofs.ElementWiths.{with_taken, with_refused}

answered : {X : Type 0} (r : Result X Error) → MatchResult r (λ x. as_element r ≡ Ok (Some x)) (λ e. as_element r ≡ Err e)
answered (Ok x) = refl
answered (Err e) = refl

on_element : {X A B : Type 0} (r : Result X Error) → (A → B) → OnOk r A → OnOk (as_element r) B
on_element (Ok x) f a = f a
on_element (Err e) f a = tt

module _ {F R C X : Type 0} (g : Ghosts R) (once : Reading F R C X) (f : F) (old new : FieldAccess R C) (o : IsStructOpen old) where
  -- it was offered to f
  pub field_given : (from : Deserializer R C) → old.owes ≡ true → OffersPart g old.bytes old.de.now from → SameStruct old new → new.met ≡ old.met
      → new.left ≡ old.left → (r : Result X Error) → OnOk r (new.owes ≡ false) → PartGiven once f old.inner from new.de.now r → FieldRead g once f old new r
  field_given from w offers same n s r u t = record { by = go old.is_map refl; met = n }
    where
      go : (b : Bool) → old.is_map ≡ b → FieldReadAs b g once f old new r
      go true m = record {
        part = subst (λ z. PartGiven once f old.inner z new.de.now r) (subst (λ b. OffersPart g b old.de.now from) (o.pairs m) offers) t;
        left = s;
        owes = u;
        count = same.count;
        inner = same.inner;
      }
      go false m = inl (record {
        from = from;
        offers = offers;
        given = r;
        part = t;
        answers = answered r;
        fewer = on_element r (λ x. let a = ap begun w in let b = ap begun x in omega (arith, a, b, s)) u;
      })

  -- the bytes ended before it
  pub field_ended : (fault : IoFault) → Offers g old.bytes old.de.now new.de.now (Err fault) → new.met ≡ old.met
      → FieldRead g once f old new (Err (InvalidDataRead fault))
  field_ended fault k n = record { by = go old.is_map refl; met = n }
    where
      go : (b : Bool) → old.is_map ≡ b → FieldReadAs b g once f old new (Err (InvalidDataRead fault))
      go true m = absurd (let z = o.pairs m in let y = k.bytes in cc)
      go false m = inr (record { bytes = k.bytes; error = InvalidDataRead fault; answers = refl; stays = k.stays; err = k.err; end = k.end })

  -- a map's values are lent as they are
  pub lent_value : old.is_map ≡ true → Lends g (as_seq old) (part_reader old.de.now old.inner)
  lent_value m = record { from = old.de.now; offers = subst (λ b. OffersPart g b old.de.now old.de.now) (sym (o.pairs m)) refl; lent = refl }

  module _ (reads : Msg → X → Type 0) (same : SameStruct old new)
      (law : (d rest : Deserializer R C) (gave : Result X Error) → Lends g (as_seq old) d → FnOnceReturnsAtMut once f d gave rest
      → Lawful g reads d rest gave) where
    -- f read it
    pub field_taken : (v : X) → FieldRead g once f old new (Ok v) → new.owes ≡ false → new.sound ≡ true → TakesField g reads old new v
    field_taken v t w s = let k = go old.is_map refl t.by in record {
      by = k.0;
      met = t.met;
      owes = w;
      still = record {
        sound = s;
        marked = k.1;
        clean = k.2;
        few = subst (λ z. length (bytes_of z.now) ≤ 128) (sym same.names) o.few;
        pairs = λ h. same.bytes ∙ o.pairs (sym same.is_map ∙ h);
      };
    }
      where
        go : (b : Bool) → old.is_map ≡ b → FieldReadAs b g once f old new (Ok v)
            → TakesFieldAs b g reads old new v × (new.de.now.failed ≡ true) × (new.de.now.kept ≡ Nothing)
        go true m h = let t : TakesValue g reads (as_map old) (as_map new) v = value_taken g once f reads (as_map old) (as_map new)
            (λ rest gave c. law _ rest gave (lent_value m) c) v h s in (t, t.still.marked, t.still.clean)
        go false m h =
            let t : TakesElement g reads (as_seq old) (as_seq new) v = with_taken g once f reads (as_seq old) (as_seq new) (seq_open old o)
            (record { count = same.count; inner = same.inner; bytes = same.bytes }) law v h s in (t, t.still.marked, t.still.clean)

    module _ (e : Error) (t : FieldRead g once f old new (Err e)) where
      -- f refused it
      pub field_refused : old.owes ≡ true → new.de.now.failed ≡ true → FailsField g reads old new e
      field_refused w n = (go old.is_map refl t.by, n)
        where
          go : (b : Bool) → old.is_map ≡ b → FieldReadAs b g once f old new (Err e) → FailsFieldAs b g reads old new e
          go true m h = value_fails g once f reads (as_map old) (as_map new) (λ rest gave c. law _ rest gave (lent_value m) c) e h
          go false m h = with_refused g once f reads (as_seq old) (as_seq new) (seq_open old o)
              (record { count = same.count; inner = same.inner; bytes = same.bytes }) law e (some_owed old o w) h
