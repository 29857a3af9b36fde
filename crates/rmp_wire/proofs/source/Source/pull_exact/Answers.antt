use Rattle.std.proofs.Common.{◌-◌, ◌≡◌, ◌∙◌, rules, length, take}
use Rattle.std.proofs.lemmas.List.{length-take-le, take_all}
use Rattle.rmp_wire.proofs.Sources.{pulled_more, stopped_short, stopped_at_end}
use Rattle.rmp_wire.proofs.source.Source.pull_exact.Goals as goal

pub loop-at-preserved : goal.loop-at-preserved
loop-at-preserved g c = record {
  same_length = search rules;
  within = search rules;
  taken = pulled_more _ _ _ c.loop-at.at (length c.loop-at.buf - c.loop-at.at) c.in-Ok.n c.loop-at.buf c.pull.new.buf c.loop-at.invariant.within
      c.in-Ok.ensures.bound c.loop-at.invariant.taken c.in-Ok.ensures.bytes;
  faults = c.in-Ok.ensures.sound ∙ c.loop-at.invariant.faults;
  place = c.pull.ensures.place ∙ c.loop-at.invariant.place;
}

pub returns-in-Err-clause-bytes : goal.returns-in-Err-clause-bytes
returns-in-Err-clause-bytes g c =
    let taken : length (take c.loop-at.at c.loop-at.buf) ≡ c.loop-at.at = length-take-le c.loop-at.at c.loop-at.buf c.loop-at.invariant.within in record {
      ok = tt;
      sound = tt;
      err = stopped_short _ _ _ (take c.loop-at.at c.loop-at.buf) _ _ _ _ _ c.loop-at.invariant.taken (search rules) c.in-Err.ensures.kept
          c.loop-at.invariant.faults c.in-Err.ensures.fault;
    }

pub returns-in-Ok-eq0-clause-bytes : goal.returns-in-Ok-eq0-clause-bytes
returns-in-Ok-eq0-clause-bytes g c =
    let taken : length (take c.loop-at.at c.loop-at.buf) ≡ c.loop-at.at = length-take-le c.loop-at.at c.loop-at.buf c.loop-at.invariant.within in record {
      ok = tt;
      sound = tt;
      err = stopped_at_end _ _ _ (take c.loop-at.at c.loop-at.buf) _ _ _ _ c.loop-at.invariant.taken (search rules)
          (c.in-Ok-eq0.ensures.end c.in-Ok-eq0.field-0-test (search rules)) (rw c.in-Ok-eq0.field-0-test at c.in-Ok-eq0.ensures.bytes)
          (c.in-Ok-eq0.ensures.sound ∙ c.loop-at.invariant.faults) c.from.ensures.0;
    }

pub returns-clause-bytes : goal.returns-clause-bytes
returns-clause-bytes g c = record {
  ok = rw (take_all c.loop-at.at c.loop-at.buf c.loop-at-test.false) at c.loop-at.invariant.taken;
  sound = c.loop-at.invariant.faults;
  err = tt;
}
