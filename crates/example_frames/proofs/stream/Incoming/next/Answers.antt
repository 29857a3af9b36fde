-- By what the scanner ends, and what is read of it.
use Rattle.std.proofs.Common.{arith, rules, ap, ◌≡◌, ◌∙◌, ◌++◌, take, drop, List, ℕ}
use Rattle.example_frames.specs.declared.stream.StreamRefusal.TheVariants as refusal
use Rattle.example_frames.proofs.Sent.{taken_from, is_other, is_uncut, sent_back, never_stops, stops_as}
use Rattle.example_frames.proofs.stream.Incoming.next.Goals as goal

pub returns-in-Ok-clause-taken : goal.returns-in-Ok-clause-taken
returns-in-Ok-clause-taken c = λ o.
    let old = c.args.self.now in
    let piece : List ℕ = c.args.piece.now in
    let used : ℕ = c.in-Ok-Whole.used in
    let s = rw c.in-Ok-Whole.field-0-is at (c.in-Ok-Whole.ensures.law old.bytes.items o.after) in
    let same : c.min.result ≡ used = omega (arith, s.within) in
    let items : c.extend_from_slice.new.self.items ≡ old.bytes.items ++ c.split_at.result.0.now = search rules in
    let front : c.split_at.result.0.now ≡ take used piece = c.split_at.ensures.front ∙ ap (λ z. take z piece) same in
    let back : c.split_at.result.1.now ≡ drop used piece = c.split_at.ensures.back ∙ ap (λ z. drop z piece) same in
    taken_from old.bytes.items piece c.as_slice.result.now used s.within s.ends
    (c.as_slice.ensures.value ∙ items ∙ ap (λ z. old.bytes.items ++ z) front) _ _ c.in-Ok.request c.in-Ok.field-0-1.now c.split_at.result.1.now s.short back
    c.in-Ok.ensures.ok

pub returns-in-Ok-clause-back : goal.returns-in-Ok-clause-back
returns-in-Ok-clause-back c = λ o asked bytes rest s e.
    let t = returns-in-Ok-clause-taken c o in
    let p = sent_back asked _ bytes rest c.split_at.result.1.now _ s e t.asks in
    (c.read_as.ensures.one asked c.in-Ok.request p.0, p.1)

pub returns-in-Err-first_request-clause-refused : goal.returns-in-Err-first_request-clause-refused
returns-in-Err-first_request-clause-refused c = λ o ne.
    let old = c.args.self.now in
    let piece : List ℕ = c.args.piece.now in
    let used : ℕ = c.in-Ok-Whole.used in
    let s = rw c.in-Ok-Whole.field-0-is at (c.in-Ok-Whole.ensures.law old.bytes.items o.after) in
    let same : c.min.result ≡ used = omega (arith, s.within) in
    let items : c.extend_from_slice.new.self.items ≡ old.bytes.items ++ c.split_at.result.0.now = search rules in
    let front : c.split_at.result.0.now ≡ take used piece = c.split_at.ensures.front ∙ ap (λ z. take z piece) same in
    is_other old.bytes.items piece c.as_slice.result.now used s.within s.ends
    (c.as_slice.ensures.value ∙ items ∙ ap (λ z. old.bytes.items ++ z) front) _ _ c.in-Err-first_request.e ne c.in-Err-first_request.ensures.err

pub returns-in-Err-first_request-clause-uncut : goal.returns-in-Err-first_request-clause-uncut
returns-in-Err-first_request-clause-uncut c = λ o end.
    let old = c.args.self.now in
    let piece : List ℕ = c.args.piece.now in
    let used : ℕ = c.in-Ok-Whole.used in
    let s = rw c.in-Ok-Whole.field-0-is at (c.in-Ok-Whole.ensures.law old.bytes.items o.after) in
    let same : c.min.result ≡ used = omega (arith, s.within) in
    let items : c.extend_from_slice.new.self.items ≡ old.bytes.items ++ c.split_at.result.0.now = search rules in
    let front : c.split_at.result.0.now ≡ take used piece = c.split_at.ensures.front ∙ ap (λ z. take z piece) same in
    is_uncut old.bytes.items piece c.as_slice.result.now used s.within s.ends
    (c.as_slice.ensures.value ∙ items ∙ ap (λ z. old.bytes.items ++ z) front) (c.in-Err-first_request.ensures.incomplete end)

pub returns-in-Err-first_request-clause-whole : goal.returns-in-Err-first_request-clause-whole
returns-in-Err-first_request-clause-whole c = λ o ne asked bytes rest later s e short deep.
    never_stops _ _ _ _ asked bytes rest later s e short deep (c.read_as.ensures.reads asked s.fits s.texts) (refusal.NotRequest c.in-Err-first_request.e) ne
    (returns-in-Err-first_request-clause-refused c o)

pub returns-in-Err-clause-refused : goal.returns-in-Err-clause-refused
returns-in-Err-clause-refused c = λ o.
    let old = c.args.self.now in
    stops_as _ _ old.bytes.items c.args.piece.now old.scanner.limit c.scan.new.self c.in-Err.e c.refusal_for.result c.refusal_for.ensures
    (c.in-Err.ensures.law old.bytes.items o.after)

pub returns-in-Err-clause-whole : goal.returns-in-Err-clause-whole
returns-in-Err-clause-whole c = λ o ne asked bytes rest later s e short deep.
    never_stops _ _ _ _ asked bytes rest later s e short deep (c.read_as.ensures.reads asked s.fits s.texts) c.refusal_for.result ne
    (returns-in-Err-clause-refused c o)
