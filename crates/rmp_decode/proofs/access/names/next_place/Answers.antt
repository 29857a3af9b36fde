use Rattle.std.proofs.Common.{◌∙◌, ap, sym, rules, ℕ, Option, Some}
use Rattle.rmp_decode.specs.Names.{bytes_of}
use Rattle.rmp_decode.proofs.ContentErrors.{raw_len}
use Rattle.rmp_decode.proofs.Payloads.{payload_blamed, raw_message}
use Rattle.rmp_decode.proofs.Names.{name_of_raw}
use Rattle.rmp_decode.proofs.access.names.next_place.Goals as goal

pub returns-in-Ok : goal.returns-in-Ok
returns-in-Ok g c = λ t. record {
  ok = record {
    bytes = c.as_bytes.result.now;
    long = rw (raw_len t c.args.len) (search rules);
    small = search rules;
    taken = search rules;
    value = rw (raw_message t c.args.len c.as_bytes.result.now)
        (name_of_raw (bytes_of c.args.names.now) t c.as_bytes.result.now ∙ ap (λ (z : Option ℕ). Some z) (sym c.place_of.ensures));
  };
  sound = search rules;
  err = tt;
  exact = tt;
  taken = tt;
  fault = tt;
  memory = λ _. tt;
  place = search rules;
}

pub returns-in-Err : goal.returns-in-Err
returns-in-Err g c = λ t.
    let h = rw c.in-Err.is at c.read_slice.follows.holds-at-none in
    payload_blamed g.R.Source _ _ _ _ _ (raw_len t c.args.len) c.in-Err.e _ h.0 c.error_of.ensures (λ y. c.in-Err.ensures.memory y) (search rules)
