-- A refusal stays one where the levels are counted that it is passed outward.
use Rattle.std.proofs.Common.{◌≡◌, ◌∙◌, sym, ℕ, true, false, Err}
use Rattle.rmp_wire.specs.declared.source.Source.{Ghosts}
use Rattle.rmp_wire.specs.Msg.{Msg, Msgs}
use Rattle.rmp_decode.specs.FieldRows.{FailsRow}
use Rattle.rmp_decode.specs.Law.{Lawful}
use Rattle.rmp_decode.specs.declared.deserializer.Deserializer.{Deserializer}
use Rattle.rmp_decode.specs.declared.error.Error.{Error}

module _ {R C : Type 0} (g : Ghosts R) (old new : Deserializer R C) (e : Error) (levels : ℕ) where
  pub lawful_levels : {V : Type 0} (reads : Msg → V → Type 0) → old.failed ≡ false → Lawful g reads old new (Err e)
      → Lawful g reads old (record new { levels = levels }) (Err e)
  lawful_levels reads ready l = record {
    ok = l.ok;
    ready = l.ready;
    clean = l.clean;
    sound = l.sound;
    err = l.err;
    failed = l.failed;
    before = λ failed. let w : true ≡ false = sym failed ∙ ready in absurd (cc);
    stays = record { config = l.stays.config; room = l.stays.room; limit = l.stays.limit; strict = l.stays.strict; place = l.stays.place };
  }

  pub fails_levels : (P : Msgs → Type 0) (n : ℕ) → FailsRow g P n old new e → FailsRow g P n old (record new { levels = levels }) e
  fails_levels P n f = record {
    stays = record { config = f.stays.config; room = f.stays.room; limit = f.stays.limit; strict = f.stays.strict; place = f.stays.place };
    failed = f.failed;
    err = f.err;
  }
