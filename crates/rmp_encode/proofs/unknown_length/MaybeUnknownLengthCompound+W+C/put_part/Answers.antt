use Rattle.std.proofs.Common.{◌≤◌, ◌+◌, Some, refl, sym, ◌∙◌, ap, arith, rules}
use Rattle.std.specs.Prelude.{◌||◌, Err, Ok}
use Rattle.rmp_encode.specs.Opens.{is_kept, left_of}
use Rattle.rmp_encode.specs.Sizes.{most}
use Rattle.rmp_encode.proofs.Going.{goes}
use Rattle.rmp_encode.proofs.Keeping.{too_many, keep_err, keep_ok}
use Rattle.rmp_encode.proofs.OpenSteps.{before, in_none, kept_takes, marked_here, marked_kept, none_state, some_state}
use Rattle.rmp_encode.proofs.Parts.{or_right, part_memory, part_takes}
use Rattle.rmp_encode.proofs.Markers.{long_no_fault, none_counted}
use Rattle.rmp_encode.specs.Ser.{sink_of}
use Rattle.rmp_encode.proofs.unknown_length.MaybeUnknownLengthCompound+W+C.put_part.Goals as goal

pub returns-then-full-clause-writes : goal.returns-then-full-clause-writes
returns-then-full-clause-writes g c = λ old t rest h.
    let full : most c.args.self.now.pairs ≤ c.args.self.now.count = search rules in
    too_many c.args.self.now.pairs g.W.Sink _ _ _ _ _ _ c.too_long.ensures (kept_takes _ c.in-Some.buffer c.args.self.now.count _ c.in-Some.is) full old t
    rest (some_state g.W.Sink c.in-Some.buffer c.in-Some.is h)

pub returns-in-Ok-clause-writes : goal.returns-in-Ok-clause-writes
returns-in-Ok-clause-writes g c = λ old t rest h.
    let state = none_state g.W.Sink c.in-None.is h in
    let lt = before c.args.self.now.buffer c.args.self.now.count c.in-None.is c.requires.room in
    in_none g.W.Sink h.sound c.in-None.is (omega (arith, lt, state.0))
    (goes g.W.Sink (λ s. g.T.Serialize.takes_memory s || g.W.Sink.takes_memory) (λ s. g.T.Serialize.data_of c.args.value.now s.human) c.args.self.now.se.now
    _ (Ok _) c.serialize.ensures.keeps c.in-Ok.ensures.writes old t rest state.1)

pub returns-in-Err-clause-writes : goal.returns-in-Err-clause-writes
returns-in-Err-clause-writes g c = λ old t rest h.
    let state = none_state g.W.Sink c.in-None.is h in
    part_takes g.W.Sink _ (or_right (is_kept (left_of c.args.self.now)) _)
    (goes g.W.Sink (λ s. g.T.Serialize.takes_memory s || g.W.Sink.takes_memory) (λ s. g.T.Serialize.data_of c.args.value.now s.human) c.args.self.now.se.now
    _ (Err c.in-Err.e) c.serialize.ensures.keeps c.in-Err.ensures.writes old t rest state.1)

pub returns-in-Ok-result-clause-writes : goal.returns-in-Ok-result-clause-writes
returns-in-Ok-result-clause-writes g c = λ old t rest h.
    let is = c.in-Some.is ∙ ap Some (sym c.replace-kept.ensures.value) in
    let room : c.args.self.now.count + 1 ≤ most c.args.self.now.pairs = search rules in
    record {
      sound = h.sound;
      state = keep_ok c.args.self.now.pairs g.W.Sink (λ s. g.T.Serialize.data_of c.args.value.now s.human) _ _ c.replace-kept.result
          c.serialize-result.new.se c.args.self.now.se.now refl room c.serialize-result.ensures.keeps.settings c.in-Ok-result.ensures.writes.may
          c.in-Ok-result.ensures.writes.whole old t rest (some_state g.W.Sink c.replace-kept.result is h);
    }

pub returns-in-Err-result-clause-writes : goal.returns-in-Err-result-clause-writes
returns-in-Err-result-clause-writes g c = λ old t rest h.
    let is = c.in-Some.is ∙ ap Some (sym c.replace-kept.ensures.value) in
    keep_err c.args.self.now.pairs g.W.Sink _ (λ s. g.T.Serialize.data_of c.args.value.now s.human) _ c.replace-kept.result c.args.self.now.se.now _
    (kept_takes _ c.in-Some.buffer c.args.self.now.count _ c.in-Some.is) (part_memory _ c.in-Err-result.ensures.writes).cause old t rest
    (some_state g.W.Sink c.replace-kept.result is h)

pub returns-in-Err-clause-marker : goal.returns-in-Err-clause-marker
returns-in-Err-clause-marker g c =
    marked_here g.W.Sink c.args.self.now.buffer c.args.self.now.count _ c.in-None.is (sink_of c.args.self.now.se.now) (sink_of c.serialize.new.se)
    (Err c.in-Err.e) c.in-Err.ensures.marker

pub returns-then-full-clause-marker : goal.returns-then-full-clause-marker
returns-then-full-clause-marker g c =
    marked_kept g.W.Sink c.args.self.now.buffer c.in-Some.buffer c.args.self.now.count _ c.in-Some.is (sink_of c.args.self.now.se.now)
    (sink_of c.args.self.now.se.now) _ (λ a b. long_no_fault a b _ c.too_long.ensures)

pub returns-in-Err-result-clause-marker : goal.returns-in-Err-result-clause-marker
returns-in-Err-result-clause-marker g c =
    marked_kept g.W.Sink c.args.self.now.buffer c.in-Some.buffer c.args.self.now.count _ c.in-Some.is (sink_of c.args.self.now.se.now)
    (sink_of c.args.self.now.se.now) c.in-Err-result.e (λ a b. none_counted _ _ _ a b c.in-Err-result.e c.in-Err-result.ensures.writes.cause)
