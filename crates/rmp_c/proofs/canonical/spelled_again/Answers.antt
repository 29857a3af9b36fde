use Rattle.std.proofs.Common.{false, refl, ap, ◌∙◌, inl}
use Rattle.rmp_decode.proofs.Whole.{known_left, none_begins}
use Rattle.rmp_serde.proofs.Refusing.{first_wrong}
use Rattle.rmp_c.specs.Statuses.{status_of}
use Rattle.rmp_c.proofs.canonical.spelled_again.Goals as goal

pub returns-in-Err-clause-refused : goal.returns-in-Err-clause-refused
returns-in-Err-clause-refused c = λ other ne.
    let d = c.from_read_ref-de.ensures in
    none_begins _ false _ _ _ _ _ d.new.lenient d.new.room (known_left _ _ _ d.new.kept d.rest)
    (c.in-Err.ensures.law.err d.new.ready (λ is. ne (c.status_of.ensures.status ∙ ap status_of is)) refl)

pub returns-in-Err-clause-refusal : goal.returns-in-Err-clause-refusal
returns-in-Err-clause-refusal c = λ other.
    let d = c.from_read_ref-de.ensures in
    inl (record {
      error = c.in-Err.e;
      is = c.status_of.ensures.status;
      refusal = first_wrong _ 1024 _ c.in-Err.e _ c.args.bytes.now d.new.room d.new.lenient (known_left _ _ _ d.new.kept d.rest)
          (c.in-Err.ensures.refusal d.new.ready refl);
    })
