use Rattle.std.proofs.Common.{rules, refl, subst, sym, false}
use Rattle.std.proofs.lemmas.Result.{err_from_is_err_and}
use Rattle.rmp_encode.specs.Going.{open_of, FailsToOpen}
use Rattle.rmp_encode.specs.Opens.{IsLong, MayOpen, head_items}
use Rattle.rmp_encode.proofs.Keeping.{keeping_opened}
use Rattle.rmp_encode.proofs.Promises.{not_opened}
use Rattle.rmp_encode.proofs.Lists.{made_list}
use Rattle.std.specs.Prelude.{Err, Some}
use Rattle.rmp_encode.specs.Trees.{sequence_of}
use Rattle.rmp_encode.proofs.Refusals.{long_past}
use Rattle.rmp_encode.proofs.serializer.Serializer.serialize_seq.Goals as goal

pub returns-in_default : goal.returns-in_default
unfolding open_of
returns-in_default g c = (
  (refl, λ _. refl, tt),
  record {
    refused = tt;
    same_reference = refl;
    kind = refl;
    owed = refl;
    sound = refl;
    fits = rw c.in_default.is tt;
    left = sym c.in_default.is;
    opened = λ all e. record {
      sound = refl;
      state = keeping_opened false g.W.Sink c.args.self.now _ c.buffer-buffer.ensures.settings
          c.buffer-buffer.ensures.empty _ all refl;
    };
    stays = rw c.in_default.is refl;
    keeps = record { settings = refl; place = refl };
  },
)

pub returns-in_err-put_len : goal.returns-in_err-put_len
returns-in_err-put_len g c =
    let p = err_from_is_err_and c.from_residual.result c.from_residual.ensures.1 in
    let n = c.in-Some.n in
    rw (p.1, p.2) (
      (
        refl,
        λ _. tt,
        subst (λ l. FailsToOpen g.W.Sink {A = _} (head_items false l) (MayOpen l) (IsLong l) sequence_of c.args.self.now (Err c.in_err-put_len.field-0.0) c.put_len.new.self)
            (sym c.in-Some.is) (not_opened g.W.Sink (IsLong (Some n)) sequence_of (λ all. all) (long_past n) (λ all e. made_list _ n all e) c.in_err-put_len.ensures),
      ),
      search rules,
    )

pub returns : goal.returns
returns g c = (
  (refl, λ _. refl, tt),
  record {
    refused = tt;
    same_reference = refl;
    kind = refl;
    owed = refl;
    sound = refl;
    fits = rw c.in-Some.is c.in_ok-put_len.ensures.fits;
    left = sym c.in-Some.is;
    opened = λ all e. record {
      sound = refl;
      state = (
        sym (subst (λ l. IsLong l all) c.in-Some.is e),
        c.in_ok-put_len.ensures.begins _ _
            (made_list _ _ all (subst (λ l. IsLong l all) c.in-Some.is e)),
      );
    };
    stays = rw c.in-Some.is tt;
    keeps = c.put_len.ensures.keeps;
  },
)
