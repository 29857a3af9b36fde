-- Lines, one after another, and how printing stops.
use Rattle.std.proofs.Common.{◌≡◌, ℕ, Bool, List, [], ◌∷◌, ◌++◌, inl, inr, refl, sym, ap, ◌∙◌, subst, append_assoc, append-nil}
use Rattle.std.specs.Prelude.{Option, None, Some, IfSome, Result, Ok, Err, IfOk, IfErr}
use Rattle.std.specs.Io.KnownBytes.{Appends, Consumes}
use Rattle.std.specs.declared.io.Error.{Error}
use Rattle.std.proofs.KnownBytes.{Appends-nil, Appends-trans}
use Rattle.rmp_wire.specs.declared.error.IoFault.{IoFault}
use Rattle.rmp_wire.specs.declared.error.ValueWriteError.{ValueWriteError}
use Rattle.rmp_wire.specs.declared.error.ValueWriteError.TheVariants.{InvalidMarkerWrite, InvalidDataWrite, OutOfMemory}
use Rattle.rmp_wire.specs.declared.sink.Sink.{Ghosts}
use Rattle.rmp_wire.specs.declared.source.Source.{Ghosts as Sources}
use Rattle.rmp_wire.specs.Sinks.{next_fault, PutsPart}
use Rattle.canon_lines.specs.declared.lines.RunFault.{RunFault}
use Rattle.canon_lines.specs.declared.lines.RunFault.TheVariants.{Input, Output, Memory}
use Rattle.canon_lines.specs.declared.lines.Stop.{Stop}
use Rattle.canon_lines.specs.declared.lines.Stop.TheVariants as stops
use Rattle.canon_lines.specs.Input.{StopsReading, CountsInput, ReadsInput}
use Rattle.canon_lines.specs.Output.{IsLines, PutsLines, PutsBeginning, FailsOutput, LacksMemory, StopsPrinting, StopsRun, PrintsLines, PrintsRun, answer_of}

lines_append : (a b : List ℕ) → IsLines a → IsLines b → IsLines (a ++ b)
lines_append a b (inl e) (inl f) = inl (rw (e, f) refl)
lines_append a b (inr h) (inl f) = inr (record { front = h.front; ended = ap (λ y. a ++ y) f ∙ append-nil a ∙ h.ended })
lines_append a b s (inr h) = inr (record { front = a ++ h.front; ended = ap (λ y. a ++ y) h.ended ∙ sym (append_assoc a h.front (10 ∷ [])) })

module _ {W : Type 0} (g : Ghosts W) where
  pub puts_none : (s : W) → PutsLines g s s
  puts_none s = record { lines = []; whole = inl refl; appended = Appends-nil (g.told s); sound = refl }

  -- the text of one line was put whole
  pub puts_line : (old new : W) (text : List ℕ) → Appends (g.told old) (g.told new) (text ++ 10 ∷ []) → g.faults new ≡ g.faults old → PutsLines g old new
  puts_line old new text p sound = record { lines = text ++ 10 ∷ []; whole = inr (record { front = text; ended = refl }); appended = p; sound = sound }

  pub puts_both : {old mid new : W} → PutsLines g old mid → PutsLines g mid new → PutsLines g old new
  puts_both p q = record {
    lines = p.lines ++ q.lines;
    whole = lines_append p.lines q.lines p.whole q.whole;
    appended = Appends-trans _ _ _ p.lines q.lines p.appended q.appended;
    sound = q.sound ∙ p.sound;
  }

  puts_beginning : {old mid new : W} → PutsLines g old mid → PutsBeginning g mid new → PutsBeginning g old new
  puts_beginning p q = record {
    part = p.lines ++ q.part;
    rest = q.rest;
    whole = subst IsLines (sym (append_assoc p.lines q.part q.rest)) (lines_append p.lines (q.part ++ q.rest) p.whole q.whole);
    appended = Appends-trans _ _ _ p.lines q.part p.appended q.appended;
  }

  -- printing stopped after whole lines
  pub stops_later : (old mid new : W) (e : Stop) → PutsLines g old mid → StopsPrinting g mid new e → StopsPrinting g old new e
  stops_later old mid new stops.Output p q = record { beginning = puts_beginning p q.beginning; fault = q.fault ∙ ap next_fault p.sound }
  stops_later old mid new stops.Memory p (inl q) = inl (puts_both p q)
  stops_later old mid new stops.Memory p (inr q) = inr (record { beginning = puts_beginning p q.beginning; sound = q.sound ∙ p.sound; takes = q.takes })

  -- a beginning of one line was put
  line_beginning : {old new : W} (text bytes : List ℕ) (e : ValueWriteError) → bytes ≡ text ++ 10 ∷ []
      → PutsPart g.takes_memory bytes (g.told old) (g.told new) (g.faults old) (g.faults new) e → PutsBeginning g old new
  line_beginning text bytes e is p = record {
    part = p.part;
    rest = p.rest;
    whole = inr (record { front = text; ended = sym p.split ∙ is });
    appended = p.appended;
  }

  pub line_stops_before : {old new : W} (text bytes : List ℕ) (e : IoFault) → bytes ≡ text ++ 10 ∷ []
      → PutsPart g.takes_memory bytes (g.told old) (g.told new) (g.faults old) (g.faults new) (InvalidMarkerWrite e) → FailsOutput g old new
  line_stops_before text bytes e is p = record { beginning = line_beginning text bytes (InvalidMarkerWrite e) is p; fault = p.cause.1 }

  pub line_stops_within : {old new : W} (text bytes : List ℕ) (e : IoFault) → bytes ≡ text ++ 10 ∷ []
      → PutsPart g.takes_memory bytes (g.told old) (g.told new) (g.faults old) (g.faults new) (InvalidDataWrite e) → FailsOutput g old new
  line_stops_within text bytes e is p = record { beginning = line_beginning text bytes (InvalidDataWrite e) is p; fault = p.cause.1 }

  pub line_lacks_memory : {old new : W} (text bytes : List ℕ) → bytes ≡ text ++ 10 ∷ []
      → PutsPart g.takes_memory bytes (g.told old) (g.told new) (g.faults old) (g.faults new) OutOfMemory → LacksMemory g old new
  line_lacks_memory text bytes is p = record { beginning = line_beginning text bytes OutOfMemory is p; sound = p.cause.0; takes = p.cause.1 }

  -- ---- how a call ends

  pub prints_ok : {A : Type 0} {old new : W} {x : A} → PutsLines g old new → g.place new ≡ g.place old → PrintsLines g old new (Ok x)
  prints_ok p place = record { whole = p; stops = tt; place = place }

  pub prints_err : {A : Type 0} {old new : W} {e : Stop} → StopsPrinting g old new e → g.place new ≡ g.place old → PrintsLines {A = A} g old new (Err e)
  prints_err p place = record { whole = tt; stops = p; place = place }

  -- memory ran out before anything was printed
  pub prints_none : {A : Type 0} (s : W) → PrintsLines {A = A} g s s (Err stops.Memory)
  prints_none s = prints_err (inl (puts_none s)) refl

  -- what followed whole lines
  pub prints_after : {A : Type 0} {old mid new : W} (r : Result A Stop) → PutsLines g old mid → g.place mid ≡ g.place old → PrintsLines g mid new r
      → PrintsLines g old new r
  prints_after (Ok x) p place q = prints_ok (puts_both p q.whole) (q.place ∙ place)
  prints_after (Err e) p place q = prints_err (stops_later _ _ _ e p q.stops) (q.place ∙ place)

  -- a run whose input was read prints as its lines do
  pub run_prints : {old new : W} (r : Result Bool Stop) (e : Error) → PrintsLines g old new r → PrintsRun g old new (answer_of r e)
  run_prints (Ok x) e p = record { whole = p.whole; stops = tt; place = p.place }
  run_prints (Err stops.Output) e p = record { whole = tt; stops = p.stops; place = p.place }
  run_prints (Err stops.Memory) e p = record { whole = tt; stops = p.stops; place = p.place }

  -- a run whose input could not be read prints nothing
  unread_stops : (s : W) (before after : ℕ) (e : RunFault) → StopsReading before after e → StopsRun g s s e
  unread_stops s before after (Input e) p = record { told = refl; sound = refl }
  unread_stops s before after (Output e) p = absurd p
  unread_stops s before after Memory p = inl (puts_none s)

  pub unread_prints : {A : Type 0} (s : W) (before after : ℕ) (e : RunFault) → StopsReading before after e → PrintsRun {A = A} g s s (Err e)
  unread_prints s before after e p = record { whole = tt; stops = unread_stops s before after e p; place = refl }

  -- printing leaves the source alone
  pub printing_reads : {S : Type 0} (h : Sources S) {from to : S} (r : Result Bool Stop) (e : Error)
      → IfSome (h.ahead from) (Consumes (h.ahead from) (h.ahead to)) → h.faults to ≡ h.faults from → h.place to ≡ h.place from
      → ReadsInput h from to (answer_of r e)
  printing_reads h (Ok x) e whole sound place = record { whole = whole; sound = sound; stops = tt; place = place }
  printing_reads h (Err stops.Output) e whole sound place = record { whole = tt; sound = tt; stops = sound; place = place }
  printing_reads h (Err stops.Memory) e whole sound place = record { whole = tt; sound = tt; stops = sound; place = place }

-- what holds of the answer of the lines holds of that of the run
pub run_ok : (r : Result Bool Stop) (e : Error) (P : Bool → Type 0) → IfOk r P → IfOk (answer_of r e) P
run_ok (Ok x) e P p = p
run_ok (Err stops.Output) e P p = tt
run_ok (Err stops.Memory) e P p = tt

pub run_err : (r : Result Bool Stop) (e : Error) (P : Type 0) → IfErr r (λ s. P) → IfErr (answer_of r e) (λ f. P)
run_err (Ok x) e P p = tt
run_err (Err stops.Output) e P p = p
run_err (Err stops.Memory) e P p = p

reading_counts : (before after : ℕ) (e : RunFault) → StopsReading before after e → CountsInput before after e
reading_counts before after (Input e) p = p
reading_counts before after (Output e) p = absurd p
reading_counts before after Memory p = p

pub unread_reads : {A S : Type 0} (h : Sources S) {from to : S} (e : RunFault) → StopsReading (h.faults from) (h.faults to) e → h.place to ≡ h.place from
    → ReadsInput {A = A} h from to (Err e)
unread_reads h {from} {to} e p place = record { whole = tt; sound = tt; stops = reading_counts (h.faults from) (h.faults to) e p; place = place }

-- what holds of the bytes that were read holds of the input
pub on_input : (ahead : Option (List ℕ)) (bytes : List ℕ) (P : List ℕ → Type 0) → IfSome ahead (λ input. bytes ≡ input) → P bytes → IfSome ahead P
on_input None bytes P e h = tt
on_input (Some input) bytes P e h = subst P e h
