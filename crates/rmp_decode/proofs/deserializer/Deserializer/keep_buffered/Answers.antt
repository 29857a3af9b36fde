use Rattle.std.proofs.Common.{refl, rules, [], ◌∷◌}
use Rattle.rmp_decode.proofs.BufferedHeads.{bytes_consumed}
use Rattle.rmp_decode.proofs.deserializer.Deserializer.keep_buffered.Goals as goal

pub returns-then-skip : goal.returns-then-skip
returns-then-skip g c = record {
  ok = λ _. record {
    keeps = record {
      byte = c.in-Some.byte;
      small = search rules;
      taken = bytes_consumed 1 (c.in-Some.byte ∷ []) c.front.result.now (g.R.Source.ahead c.args.self.now.reader) _ c.front.ensures.bytes
          c.in-Some.ensures refl (c.if-skip.ensures.bytes refl);
      kept = refl;
    };
    stays = record { config = refl; room = refl; limit = refl; strict = refl; place = search rules };
    faults_same = search rules;
  };
  failed = λ _. refl;
  none = λ e. absurd (cc);
}
