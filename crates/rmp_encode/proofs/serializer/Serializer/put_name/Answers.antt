use Rattle.std.proofs.Common.{refl, rules, sym, ◌∙◌}
use Rattle.rmp_encode.specs.Data.{text, lower}
use Rattle.std.proofs.Common.{Some}
use Rattle.rmp_encode.proofs.Fields.{no_name, with_name}
use Rattle.rmp_encode.proofs.Going.{goes}
use Rattle.rmp_encode.proofs.Markers.{name_none, name_written}
use Rattle.rmp_encode.proofs.serializer.Serializer.put_name.Goals as goal

pub returns-then-not-is_named-clause-parts : goal.returns-then-not-is_named-clause-parts
returns-then-not-is_named-clause-parts g c =
    let unnamed = sym c.is_named.ensures ∙ c.if-not-is_named.true in
    record {
      takes = record {
        writes = λ old t rest h. no_name g.W.Sink c.args.key.now rest unnamed h;
        keeps = record { settings = refl; place = refl };
        error = tt;
        value = tt;
      };
      order = name_none g.W.Sink c.args.key.now unnamed;
    }

pub returns-clause-parts : goal.returns-clause-parts
unfolding lower
returns-clause-parts g c =
    let w = c.put_word.ensures in
    let named = sym c.is_named.ensures ∙ c.if-not-is_named.false in
    record {
      takes = record {
        writes = λ old t rest h. goes g.W.Sink (λ _. g.W.Sink.takes_memory) (λ s. Some (text c.args.key.now)) c.args.self.now _ c.put_word.result w.keeps
            w.writes old t rest (with_name g.W.Sink c.args.key.now rest named h);
        keeps = w.keeps;
        error = w.error;
        value = search rules;
      };
      order = name_written g.W.Sink c.args.key.now c.args.self.now c.put_word.new.self c.put_word.result named w.writes w.marker w.long;
    }
