-- What happens at a write, each once: all that the write promises follows from it.
use Rattle.std.proofs.Common.{◌≡◌, ℕ, suc, ◌+◌, ◌-◌, ◌<◌, ◌≤◌, ◌^◌, List, [], ◌∷◌, ◌++◌, drop, get_or, length, take, Bool, true, false, Option, Some}
use Rattle.std.proofs.Common.{inl, inr, refl, sym, ◌∙◌, subst, append_assoc, append-nil, arith}
use Rattle.std.proofs.Math.Seq.{take-length}
use Rattle.std.specs.Prelude.{Result, Ok, Err, IsTrue, ℤ, OnOk, IfErr, ◌||◌, ◌⊎◌}
use Rattle.std.specs.Borrow.{Bor}
use Rattle.std.specs.List.{flat_map}
use Rattle.rmp_wire.specs.Msg.{Msg}
use Rattle.rmp_wire.specs.Spelling.{canon, Fits}
use Rattle.rmp_wire.specs.Writing.{Writes}
use Rattle.rmp_wire.specs.declared.error.ValueWriteError.{ValueWriteError}
use Rattle.rmp_wire.specs.declared.sink.Sink.{Ghosts}
use Rattle.rmp_encode.specs.declared.error.Error.{Error}
use Rattle.rmp_encode.specs.declared.serializer.Serializer.{Serializer}
use Rattle.rmp_encode.specs.declared.settings.Settings.{Settings}
use Rattle.rmp_encode.specs.Data.{Data}
use Rattle.rmp_encode.specs.Errors.{answer_of, IsTooLong}
use Rattle.rmp_encode.specs.Going.{FailsToOpen, Goes, IsMadeOf, IsWriting, States}
use Rattle.rmp_encode.specs.Markers.{field_pieces, item, items_of, pieces_by, value_of, InOrder, Piece}
use Rattle.rmp_encode.specs.Promises.{OpensParts, TakesElements, TakesParts, WritesHead, WritesItems, WritesMessage, WritesParts, WritesValue}
use Rattle.rmp_encode.specs.Refusals.{lengths, AnyLong, Errors, OfLength, OfParts, OfSink, RefusesLength}
use Rattle.rmp_encode.specs.Ser.{settings_of, sink_of}
use Rattle.rmp_encode.specs.Sizes.{one_of}
use Rattle.rmp_encode.specs.Trees.{ext_head, field_parts, fields_by, forces_all, spell, tree_of, HasTree}
use Rattle.rmp_encode.specs.Tuples.{inside, is_sound, left_of, reference, IsTupling, OpenTuple}
use Rattle.rmp_encode.specs.Writes.{Keeps, MarkedBy, Marks, WritesTree}
use Rattle.rmp_encode.proofs.Going.{all_written, begins, begins_not, goes, going_more, keeps_then, never_refused_by, on_ok, stays_refused}
use Rattle.rmp_encode.proofs.Leaves.{wire_head, wire_marker}
use Rattle.rmp_encode.proofs.Markers.{items_append, no_more, one_piece, order_first, pieces_as, pieces_long, pieces_stop, pieces_then, value_piece}
use Rattle.rmp_encode.proofs.OpenSteps.{on_ok_as}
use Rattle.rmp_encode.proofs.Parts.{or_first, or_second, part_as, part_or, part_stops, part_then}
use Rattle.rmp_encode.proofs.Refusals.{long_after, long_first, none_too_long, of_front, of_long, of_no_part, of_weaker, on_back, on_fits, on_part}
use Rattle.rmp_encode.proofs.Refusals.{on_parts_weaker, on_sink, refuses_length}

-- ---- an item

module _ {W C : Type 0} (g : Ghosts W) where
  -- the wire wrote it, or failed
  pub head_by_wire : {bytes : List ℕ} {old new : Serializer W C} (r : Result (Unit {0}) ValueWriteError) {answer : Result (Unit {0}) Error}
      → answer ≡ answer_of r → IfErr answer OfSink → Writes g bytes (sink_of old) (sink_of new) r → Keeps g old new → WritesHead g bytes old new answer
  head_by_wire {bytes} r is e w k = record { writes = wire_head g bytes r is w; marker = wire_marker g bytes r is w; error = e; keeps = k }

  pub ext_head_as : (n : ℕ) (z z' : ℤ) {old new : Serializer W C} {r : Result (Unit {0}) Error} → z ≡ z' → WritesHead g (ext_head n z) old new r
      → WritesHead g (ext_head n z') old new r
  ext_head_as n z z' {old} {new} {r} e h = subst (λ t. WritesHead g (ext_head n t) old new r) e h

  -- it is a whole message
  pub message_by_head : (m : Msg) (n : ℕ) {old new : Serializer W C} (r : Result (Unit {0}) Error) → Fits m → n < 2 ^ 32 → WritesHead g (canon m) old new r
      → WritesMessage g m n old new r
  unfolding HasTree spell
  message_by_head m n r fits lt h = record {
    writes = part_as g (λ t. t) (λ _. fits) (λ _. tt) (λ _. refl) h.writes;
    marker = h.marker;
    error = on_sink (2 ^ 32 ≤ n) r h.error;
    keeps = h.keeps;
    refused = never_refused_by g.takes_memory _ _ _ _ r h.writes.cause;
    long = λ le. absurd (omega (arith, le, lt));
  }

  -- a length was refused
  pub message_long : (m : Msg) (n : ℕ) (old : Serializer W C) (e : Error) → IsTooLong e → 2 ^ 32 ≤ n
      → WritesTree g {A = Unit {0}} g.takes_memory (Some m) (sink_of old) (sink_of old) (Err e) → WritesMessage g m n old old (Err e)
  message_long m n old e is le w = record {
    writes = w;
    marker = none_too_long g _ _ e is;
    error = of_long e is le;
    keeps = record { settings = refl; place = refl };
    refused = stays_refused old e is;
    long = λ _. refuses_length old e is;
  }

  -- ---- several items

  pub one_item : {bytes : List ℕ} {old new : Serializer W C} (r : Result (Unit {0}) Error) → WritesHead g bytes old new r
      → WritesItems g (bytes ∷ []) bytes old new r
  one_item {bytes} r h = record { writes = h.writes; order = one_piece g (item bytes) r h.writes h.marker (on_ok r tt); error = h.error; keeps = h.keeps }

  -- a message that fits
  pub one_message : (m : Msg) (n : ℕ) {old new : Serializer W C} (r : Result (Unit {0}) Error) → Fits m → n < 2 ^ 32 → WritesMessage g m n old new r
      → WritesItems g (canon m ∷ []) (canon m) old new r
  unfolding HasTree spell
  one_message m n r fits lt h = record {
    writes = part_as g (λ t. t) (λ _. tt) (λ _. fits) (λ _. refl) h.writes;
    order = one_piece g (item (canon m)) r h.writes h.marker (on_ok r tt);
    error = on_fits n r lt h.error;
    keeps = h.keeps;
  }

  pub items_then : {is js : List (List ℕ)} {a b : List ℕ} {old mid new : Serializer W C} {u : Unit {0}} (r : Result (Unit {0}) Error)
      → WritesItems g is a old mid (Ok u) → WritesItems g js b mid new r → WritesItems g (is ++ js) (a ++ b) old new r
  items_then {is} {js} {old = old} {new = new} r p h = record {
    writes = part_as g (λ x. x) (λ _. tt) (λ _. (tt, tt)) (λ _. refl) (part_then g p.writes h.writes);
    order = subst (λ l. InOrder g l (sink_of old) (sink_of new) r) (sym (items_append is js)) (pieces_then g r p.order h.order);
    error = h.error;
    keeps = keeps_then g p.keeps h.keeps;
  }

  pub items_stop : {is : List (List ℕ)} (js : List (List ℕ)) {a : List ℕ} (b : List ℕ) {old new : Serializer W C} {e : Error}
      → WritesItems g is a old new (Err e) → WritesItems g (is ++ js) (a ++ b) old new (Err e)
  items_stop {is} js b {old} {new} {e} h = record {
    writes = part_as g (λ x. x) (λ _. tt) (λ _. (tt, tt)) (λ _. refl) (part_stops g {B = Unit {0}} {Q = Unit {0}} b h.writes);
    order = subst (λ l. InOrder g {A = Unit {0}} l (sink_of old) (sink_of new) (Err e)) (sym (items_append is js)) (pieces_stop g (items_of js) h.order);
    error = h.error;
    keeps = h.keeps;
  }

  -- ---- what comes before parts

  pub opened : {P : Type 0} (numbers : List ℕ) {items : List (List ℕ)} {bytes : List ℕ} {old new : Serializer W C} (r : Result (Unit {0}) Error) → P
      → WritesItems g items bytes old new r → OpensParts g P numbers items bytes old new r
  opened numbers {bytes = bytes} {old = old} {new = new} r p h = record {
    begins = begins g bytes old new r p h.keeps h.writes;
    order = h.order;
    error = on_sink (AnyLong numbers) r h.error;
    keeps = h.keeps;
    refused = never_refused_by g.takes_memory _ _ _ _ r h.writes.cause;
    long = λ not. absurd (not p);
    fits = on_ok r p;
  }

  -- a number was refused
  pub opening_long : {P : Type 0} {numbers : List ℕ} {first : List ℕ} {items : List (List ℕ)} {bytes : List ℕ} (old : Serializer W C) (e : Error) → IsTooLong e
      → AnyLong numbers → ¬ P → OpensParts g P numbers (first ∷ items) bytes old old (Err e)
  opening_long {first = first} {items = items} {bytes = bytes} old e is long not = record {
    begins = begins_not g bytes old e is not;
    order = pieces_long g first (items_of items) (sink_of old) e is;
    error = of_long e is long;
    keeps = record { settings = refl; place = refl };
    refused = stays_refused old e is;
    long = λ _. refuses_length old e is;
    fits = tt;
  }

  -- nothing was opened
  pub not_opened : {A X : Type 0} {P : Type 0} {numbers : List ℕ} {items : List (List ℕ)} {bytes : List ℕ} (may : X → Type 0) (value : X
      → Option Data) (parts : X → List (Option Data)) {old last : Serializer W C} {e : Error} → (AnyLong numbers → ¬ P)
      → ((all : X) → may all → IsMadeOf (settings_of old) (tree_of (settings_of old) (value all)) P bytes (parts all))
      → OpensParts g P numbers items bytes old last (Err e) → FailsToOpen g {A = A} items P may value old (Err e) last
  not_opened {items = items} may value parts {old} {last} {e} not made h = record {
    keeps = h.keeps;
    refused = h.refused;
    error = of_weaker not e h.error;
    long = h.long;
    marker = order_first g items (sink_of old) (sink_of last) e h.order;
    writes = λ all m. h.begins _ _ (made all m);
  }

-- ---- parts of what is open

module _ {W C Q : Type 0} (g : Ghosts W) (state : States W C Q) (inside : Q → Serializer W C) where
  -- where memory may be taken, and a length is refused, if they may here
  pub taken_as : {m n : Settings → Bool} {ds : Settings → List (Option Data)} {L M : Type 0} {a : List Errors} {U V : Type 0} {q q' : Q}
      {r : Result (Unit {0}) Error} → ((s : Settings) → IsTrue (m s) → IsTrue (n s)) → (L → M) → (U → V) → TakesParts g state inside m ds L a U q q' r
      → TakesParts g state inside n ds M a V q q' r
  taken_as {a = a} {q' = q'} {r = r} f h v p = record {
    writes = λ old t rest k. going_more g (state old t rest q') t (sink_of old) (sink_of (inside q')) r (f (settings_of old)) (p.writes old t rest k);
    keeps = p.keeps;
    error = on_parts_weaker h a r p.error;
    value = on_ok_as r v p.value;
  }

  -- the first were taken, and then others
  pub taken_then : {m : Settings → Bool} {ds es : Settings → List (Option Data)} {L : Type 0} {a b : List Errors} {U V : Type 0} {q mid q' : Q} {u : Unit {0}}
      (r : Result (Unit {0}) Error) → TakesParts g state inside m ds L a U q mid (Ok u) → TakesParts g state inside m es L b V mid q' r
      → TakesParts g state inside m (λ s. ds s ++ es s) L (a ++ b) (U × V) q q' r
  taken_then {ds = ds} {es = es} {L = L} {a = a} {b = b} {q = q} (Ok u) p h = record {
    writes = λ old t rest k. h.writes old t rest (p.writes old t (es (settings_of old) ++ rest)
        (subst (λ l. state old t l q) (append_assoc (ds (settings_of old)) (es (settings_of old)) rest) k));
    keeps = keeps_then g p.keeps h.keeps;
    error = tt;
    value = (p.value, h.value);
  }
  taken_then {ds = ds} {es = es} {L = L} {a = a} {b = b} {q = q} (Err e) p h = record {
    writes = λ old t rest k. h.writes old t rest (p.writes old t (es (settings_of old) ++ rest)
        (subst (λ l. state old t l q) (append_assoc (ds (settings_of old)) (es (settings_of old)) rest) k));
    keeps = keeps_then g p.keeps h.keeps;
    error = on_back L a b (Err e) h.error;
    value = tt;
  }

  -- one of the first failed
  pub taken_stop : {m : Settings → Bool} {ds : Settings → List (Option Data)} (es : Settings → List (Option Data)) {L : Type 0} {a : List Errors}
      (b : List Errors) {U : Type 0} (V : Type 0) {q q' : Q} {e : Error} → TakesParts g state inside m ds L a U q q' (Err e)
      → TakesParts g state inside m (λ s. ds s ++ es s) L (a ++ b) (U × V) q q' (Err e)
  taken_stop {ds = ds} es {L} {a} b V {q} {q'} {e} p = record {
    writes = λ old t rest k. p.writes old t (es (settings_of old) ++ rest)
        (subst (λ l. state old t l q) (append_assoc (ds (settings_of old)) (es (settings_of old)) rest) k);
    keeps = p.keeps;
    error = of_front L a b e p.error;
    value = tt;
  }

-- ---- parts that are written at once

module _ {W C : Type 0} (g : Ghosts W) where
  pub written_as : {m n : Settings → Bool} {ds : Settings → List (Option Data)} {ps : Settings → List Piece} {L M : Type 0} {a : List Errors} {U V : Type 0}
      {old new : Serializer W C} {r : Result (Unit {0}) Error} → ((s : Settings) → IsTrue (m s) → IsTrue (n s)) → (L → M) → (U → V)
      → WritesParts g m ds ps L a U old new r → WritesParts g n ds ps M a V old new r
  written_as f h v p = record { takes = taken_as g (IsWriting g) (λ se. se) f h v p.takes; order = p.order }

  pub written_then : {m : Settings → Bool} {ds es : Settings → List (Option Data)} {ps qs : Settings → List Piece} {L : Type 0} {a b : List Errors}
      {U V : Type 0} {old mid new : Serializer W C} {u : Unit {0}} (r : Result (Unit {0}) Error) → WritesParts g m ds ps L a U old mid (Ok u)
      → WritesParts g m es qs L b V mid new r → WritesParts g m (λ s. ds s ++ es s) (λ s. ps s ++ qs s) L (a ++ b) (U × V) old new r
  written_then {qs = qs} r p h = record {
    takes = taken_then g (IsWriting g) (λ se. se) r p.takes h.takes;
    order = pieces_then g r p.order (pieces_as g qs p.takes.keeps.settings h.order);
  }

  pub written_stop : {m : Settings → Bool} {ds : Settings → List (Option Data)} (es : Settings → List (Option Data)) {ps : Settings → List Piece}
      (qs : Settings → List Piece) {L : Type 0} {a : List Errors} (b : List Errors) {U : Type 0} (V : Type 0) {old new : Serializer W C} {e : Error}
      → WritesParts g m ds ps L a U old new (Err e) → WritesParts g m (λ s. ds s ++ es s) (λ s. ps s ++ qs s) L (a ++ b) (U × V) old new (Err e)
  written_stop es qs b V {old} p = record {
    takes = taken_stop g (IsWriting g) (λ se. se) es b V p.takes;
    order = pieces_stop g (qs (settings_of old)) p.order;
  }

  -- what `Elements` promises of its parts
  pub as_parts : {m : Settings → Bool} (ds : Settings → List (Option Data)) (ps : Settings → List Piece) {L : Type 0} {a : List Errors} {V : Type 0}
      {old new : Serializer W C} {r : Result (Unit {0}) Error} → Goes g (IsWriting g) (λ se. se) m ds old new r → Keeps g old new
      → InOrder g (ps (settings_of old)) (sink_of old) (sink_of new) r → IfErr r (OfParts L a) → OnOk r V → WritesParts g m ds ps L a V old new r
  as_parts ds ps w k o e v = record { takes = record { writes = w; keeps = k; error = e; value = v }; order = o }

  pub value_taken : (m : Settings → Bool) (d : Settings → Option Data) (refuses : Errors) (V : Type 0) (old new : Serializer W C)
      (r : Result (Unit {0}) Error)
      → WritesTree g (m (settings_of old) || g.takes_memory) (tree_of (settings_of old) (d (settings_of old))) (sink_of old) (sink_of new) r → Keeps g old new
      → IfErr r refuses → OnOk r V
      → TakesParts g (IsWriting g) (λ se. se) (λ s. m s || g.takes_memory) (λ s. d s ∷ []) ⊥ (refuses ∷ []) V old new r
  value_taken m d refuses V old new r w k e v =
      record { writes = goes g (λ s. m s || g.takes_memory) d old new r k w; keeps = k; error = on_part ⊥ refuses r e; value = v }

  -- one value was written, or failed
  pub value_written : {m : Settings → Bool} (d : Settings → Option Data) (marks : Settings → Marks) {L : Type 0} {refuses : Errors} {V : Type 0}
      (old new : Serializer W C) (r : Result (Unit {0}) Error)
      → WritesTree g (m (settings_of old)) (tree_of (settings_of old) (d (settings_of old))) (sink_of old) (sink_of new) r → Keeps g old new
      → MarkedBy g (marks (settings_of old)) (sink_of old) (sink_of new) r → IfErr r refuses → OnOk r V
      → WritesParts g m (λ s. d s ∷ []) (λ s. value_of s (d s) (marks s) ∷ []) L (refuses ∷ []) V old new r
  value_written {m} d marks {L} {refuses} old new r w k h e v = record {
    takes = record { writes = goes g m d old new r k w; keeps = k; error = on_part L refuses r e; value = v };
    order = value_piece g d marks old r refl w h;
  }

-- ---- one of a row, and the others

-- the names of the others
abbrev others : List (Bor (List ℕ)) → List (Bor (List ℕ))
others names = take (length names - 1) (drop 1 names)

others_are : (name : Bor (List ℕ)) (names : List (Bor (List ℕ))) → names ≡ others (name ∷ names)
others_are name names = subst (λ n. names ≡ take n names) (omega arith) (sym (take-length names))

module _ {W C : Type 0} (g : Ghosts W) where
  pub row_last : (a : Settings → Bool) {ds : Settings → List (Option Data)} {ps : Settings → List Piece} {L M : Type 0} {e : List Errors} {U : Type 0}
      {old new : Serializer W C} {r : Result (Unit {0}) Error} → (L → M) → WritesParts g (λ s. a s || g.takes_memory) ds ps L e U old new r
      → WritesParts g (λ s. one_of (a s ∷ []) || g.takes_memory) ds ps M e U old new r
  row_last a long p = written_as g (λ s h. or_first (a s) _ g.takes_memory h) long (λ v. v) p

  pub row_then : (a b : Settings → Bool) {ds es : Settings → List (Option Data)} {ps qs : Settings → List Piece} {L M : Type 0} {e f : List Errors}
      {U V : Type 0} {old mid new : Serializer W C} {u : Unit {0}} (r : Result (Unit {0}) Error) → (L → M)
      → WritesParts g (λ s. a s || g.takes_memory) ds ps L e U old mid (Ok u) → WritesParts g (λ s. b s || g.takes_memory) es qs M f V mid new r
      → WritesParts g (λ s. (a s || b s) || g.takes_memory) (λ s. ds s ++ es s) (λ s. ps s ++ qs s) M (e ++ f) (U × V) old new r
  row_then a b r long p h = written_then g r (written_as g (λ s k. or_first (a s) (b s) g.takes_memory k) long (λ v. v) p)
      (written_as g (λ s k. or_second (a s) (b s) g.takes_memory k) (λ l. l) (λ v. v) h)

  pub row_stop : (a b : Settings → Bool) {ds : Settings → List (Option Data)} (es : Settings → List (Option Data)) {ps : Settings → List Piece}
      (qs : Settings → List Piece) {L M : Type 0} {e : List Errors} (f : List Errors) {U : Type 0} (V : Type 0) {old new : Serializer W C} {x : Error}
      → (L → M) → WritesParts g (λ s. a s || g.takes_memory) ds ps L e U old new (Err x)
      → WritesParts g (λ s. (a s || b s) || g.takes_memory) (λ s. ds s ++ es s) (λ s. ps s ++ qs s) M (e ++ f) (U × V) old new (Err x)
  row_stop a b es qs f V long p = written_stop g es qs f V (written_as g (λ s k. or_first (a s) (b s) g.takes_memory k) long (λ v. v) p)

  no_others : {m : Settings → Bool} {ds : Settings → List (Option Data)} {ps : Settings → List Piece} {L : Type 0} {e : List Errors} {U : Type 0}
      {old new : Serializer W C} (r : Result (Unit {0}) Error) → WritesParts g m ds ps L e U old new r
      → WritesParts g m (λ s. ds s ++ []) (λ s. ps s ++ []) L e U old new r
  no_others {ds = ds} {old = old} r h = record {
    takes = record {
      writes = λ first t rest k. h.takes.writes first t rest
          (subst (λ l. IsWriting g first t (l ++ rest) old) (append-nil (ds (settings_of first))) k);
      keeps = h.takes.keeps;
      error = h.takes.error;
      value = h.takes.value;
    };
    order = no_more g r h.order;
  }

-- the same of fields, by their names
module _ {W C : Type 0} (g : Ghosts W) (a b : Settings → Bool) (d : Settings → Option Data) (p : Settings → Piece) where
  pub named_last : (names : List (Bor (List ℕ))) (z : Bor (List ℕ)) {e : List Errors} {U : Type 0} {old new : Serializer W C} (r : Result (Unit {0}) Error)
      → length names ≡ 1 → WritesParts g (λ s. a s || g.takes_memory) (λ s. field_parts s.named ((get_or names 0 z).now, d s))
      (λ s. field_pieces s.named (get_or names 0 z).now (p s)) (2 ^ 32 ≤ length (get_or names 0 z).now) e U old new r
      → WritesParts g (λ s. one_of (a s ∷ []) || g.takes_memory) (λ s. flat_map (field_parts s.named) (fields_by names (d s ∷ [])))
      (λ s. pieces_by s.named names (p s ∷ [])) (AnyLong (lengths names)) e U old new r
  named_last [] z r one h = absurd (omega (arith, one))
  named_last (name ∷ []) z r one h = no_others g r (row_last g a (long_first (length name.now) []) h)
  named_last (name ∷ (other ∷ names)) z r one h = absurd (omega (arith, one))

  pub named_then : (es : Settings → List (Option Data)) (qs : Settings → List Piece) {e f : List Errors} {U V : Type 0} {old mid new : Serializer W C}
      {u : Unit {0}} (names : List (Bor (List ℕ))) (z : Bor (List ℕ)) (r : Result (Unit {0}) Error) → 0 < length names
      → WritesParts g (λ s. a s || g.takes_memory) (λ s. field_parts s.named ((get_or names 0 z).now, d s))
      (λ s. field_pieces s.named (get_or names 0 z).now (p s)) (2 ^ 32 ≤ length (get_or names 0 z).now) e U old mid (Ok u)
      → WritesParts g (λ s. b s || g.takes_memory) (λ s. flat_map (field_parts s.named) (fields_by (others names) (es s)))
      (λ s. pieces_by s.named (others names) (qs s)) (AnyLong (lengths (others names))) f V mid new r
      → WritesParts g (λ s. (a s || b s) || g.takes_memory) (λ s. flat_map (field_parts s.named) (fields_by names (d s ∷ es s)))
      (λ s. pieces_by s.named names (p s ∷ qs s)) (AnyLong (lengths names)) (e ++ f) (U × V) old new r
  named_then es qs [] z r some h k = absurd (omega (arith, some))
  named_then es qs {f = f} {V = V} {mid = mid} {new = new} (name ∷ names) z r some h k =
      row_then g a b r (long_first (length name.now) (lengths names)) h (written_as g (λ s m. m) (long_after (length name.now) (lengths names)) (λ v. v)
      (subst (λ ns. WritesParts g (λ s. b s || g.takes_memory) (λ s. flat_map (field_parts s.named) (fields_by ns (es s)))
      (λ s. pieces_by s.named ns (qs s)) (AnyLong (lengths ns)) f V mid new r) (sym (others_are name names)) k))

  pub named_stop : (es : Settings → List (Option Data)) (qs : Settings → List Piece) {e : List Errors} (f : List Errors) {U : Type 0} (V : Type 0)
      {old new : Serializer W C} {x : Error} (names : List (Bor (List ℕ))) (z : Bor (List ℕ)) → 0 < length names
      → WritesParts g (λ s. a s || g.takes_memory) (λ s. field_parts s.named ((get_or names 0 z).now, d s))
      (λ s. field_pieces s.named (get_or names 0 z).now (p s)) (2 ^ 32 ≤ length (get_or names 0 z).now) e U old new (Err x)
      → WritesParts g (λ s. (a s || b s) || g.takes_memory) (λ s. flat_map (field_parts s.named) (fields_by names (d s ∷ es s)))
      (λ s. pieces_by s.named names (p s ∷ qs s)) (AnyLong (lengths names)) (e ++ f) (U × V) old new (Err x)
  named_stop es qs f V [] z some h = absurd (omega (arith, some))
  named_stop es qs f V (name ∷ names) z some h =
      row_stop g a b (λ s. flat_map (field_parts s.named) (fields_by names (es s))) (λ s. pieces_by s.named names (qs s)) f V
      (long_first (length name.now) (lengths names)) h

-- ---- an entry of a map

module _ {W C : Type 0} (g : Ghosts W) (a b : Settings → Bool) (d e : Settings → Option Data) where
  -- its key failed
  pub entry_stop : {L : Type 0} {x : Errors} (y : Errors) {U : Type 0} (V : Type 0) {old new : Serializer W C} {f : Error}
      → TakesParts g (IsWriting g) (λ se. se) (λ s. a s || g.takes_memory) (λ s. d s ∷ []) L (x ∷ []) U old new (Err f)
      → TakesParts g (IsWriting g) (λ se. se) (λ s. (a s || b s) || g.takes_memory) (λ s. d s ∷ (e s ∷ [])) L (x ∷ (y ∷ [])) (U × V) old new (Err f)
  entry_stop y V k = taken_stop g (IsWriting g) (λ se. se) (λ s. e s ∷ []) (y ∷ []) V
      (taken_as g (IsWriting g) (λ se. se) (λ s h. or_first (a s) (b s) g.takes_memory h) (λ l. l) (λ v. v) k)

  -- its key was written, and its value was or failed
  pub entry_then : {L : Type 0} {x y : Errors} {U V : Type 0} {old mid new : Serializer W C} {u : Unit {0}} (r : Result (Unit {0}) Error)
      → TakesParts g (IsWriting g) (λ se. se) (λ s. a s || g.takes_memory) (λ s. d s ∷ []) L (x ∷ []) U old mid (Ok u)
      → TakesParts g (IsWriting g) (λ se. se) (λ s. b s || g.takes_memory) (λ s. e s ∷ []) L (y ∷ []) V mid new r
      → TakesParts g (IsWriting g) (λ se. se) (λ s. (a s || b s) || g.takes_memory) (λ s. d s ∷ (e s ∷ [])) L (x ∷ (y ∷ [])) (U × V) old new r
  entry_then r k v = taken_then g (IsWriting g) (λ se. se) r
      (taken_as g (IsWriting g) (λ se. se) (λ s h. or_first (a s) (b s) g.takes_memory h) (λ l. l) (λ z. z) k)
      (taken_as g (IsWriting g) (λ se. se) (λ s h. or_second (a s) (b s) g.takes_memory h) (λ l. l) (λ z. z) v)

-- of its two values, one refused, or it was the sink
pub entry_refused : (x y : Errors) (f : Error) → OfParts ⊥ (x ∷ (y ∷ [])) f → (x f ⊎ y f) ⊎ OfSink f
entry_refused x y f (inl h) = inl (inl h)
entry_refused x y f (inr (inl h)) = inl (inr h)
entry_refused x y f (inr (inr h)) = inr h

-- ---- elements of a tuple

module _ {W C : Type 0} (g : Ghosts W) where
  -- one was taken, or failed
  pub one_element : (m : Settings → Bool) (d : Settings → Option Data) (refuses : Errors) (V : Type 0) {old new : OpenTuple W C}
      {r : Result (Unit {0}) Error} → Goes g (IsTupling g) inside (λ s. (forces_all s.bytes || m s) || g.takes_memory) (λ s. d s ∷ []) old new r
      → Keeps g (inside old) (inside new) → IfErr r (OfParts ⊥ (refuses ∷ [])) → OnOk r V → reference new ≡ reference old
      → left_of new + 1 ≡ left_of old → OnOk r (is_sound new ≡ true) → TakesElements g 1 m (λ s. d s ∷ []) (refuses ∷ []) V old new r
  one_element m d refuses V {r = r} w k e v f l s =
      record { takes = record { writes = w; keeps = k; error = e; value = v }; same_reference = f; left = on_ok r l; sound = s }

  -- where memory may be taken, if it may here
  pub elements_as : {n : ℕ} {a b : Settings → Bool} {ds : Settings → List (Option Data)} {e : List Errors} {U : Type 0} {old new : OpenTuple W C}
      {r : Result (Unit {0}) Error}
      → ((s : Settings) → IsTrue ((forces_all s.bytes || a s) || g.takes_memory) → IsTrue ((forces_all s.bytes || b s) || g.takes_memory))
      → TakesElements g n a ds e U old new r → TakesElements g n b ds e U old new r
  elements_as f h = record {
    takes = taken_as g (IsTupling g) inside f (λ l. l) (λ v. v) h.takes;
    same_reference = h.same_reference;
    left = h.left;
    sound = h.sound;
  }

  pub elements_then : {n : ℕ} {a : Settings → Bool} {ds es : Settings → List (Option Data)} {e f : List Errors} {U V : Type 0}
      {old mid new : OpenTuple W C} {u : Unit {0}} (r : Result (Unit {0}) Error) → TakesElements g 1 a ds e U old mid (Ok u)
      → TakesElements g n a es f V mid new r → TakesElements g (suc n) a (λ s. ds s ++ es s) (e ++ f) (U × V) old new r
  elements_then r p h = record {
    takes = taken_then g (IsTupling g) inside r p.takes h.takes;
    same_reference = h.same_reference ∙ p.same_reference;
    left = on_ok_as r (λ l. omega (arith, l, p.left)) h.left;
    sound = h.sound;
  }

  pub elements_stop : {n : ℕ} {a : Settings → Bool} {ds : Settings → List (Option Data)} (es : Settings → List (Option Data)) {e : List Errors}
      (f : List Errors) {U : Type 0} (V : Type 0) {old new : OpenTuple W C} {x : Error} → TakesElements g 1 a ds e U old new (Err x)
      → TakesElements g (suc n) a (λ s. ds s ++ es s) (e ++ f) (U × V) old new (Err x)
  elements_stop es f V p =
      record { takes = taken_stop g (IsTupling g) inside es f V p.takes; same_reference = p.same_reference; left = tt; sound = tt }

-- memory may be taken, where one of a row takes some, and where the others do
pub tuple_first : (f a b m : Bool) → IsTrue ((f || a) || m) → IsTrue ((f || (a || b)) || m)
tuple_first true a b m h = refl
tuple_first false a b m h = or_first a b m h

pub tuple_others : (f a b m : Bool) → IsTrue ((f || b) || m) → IsTrue ((f || (a || b)) || m)
tuple_others true a b m h = refl
tuple_others false a b m h = or_second a b m h

-- ---- a value whose parts are written at once

module _ {W C : Type 0} (g : Ghosts W) where
  -- All that is promised of it.
  pub record WritesAll (m : Bool) (t : Option Msg) (P : Type 0) (pieces : List Piece) (long : Type 0) (refusals : List Errors) (values : Type 0)
      (old new : Serializer W C) (r : Result (Unit {0}) Error) : Type 0 where
    pub writes : WritesTree g m t (sink_of old) (sink_of new) r
    pub keeps : Keeps g old new
    pub marker : InOrder g pieces (sink_of old) (sink_of new) r
    pub error : IfErr r (OfParts long refusals)
    pub value : OnOk r values
    pub refused : ¬ P → RefusesLength old new r

  -- nothing was opened
  pub none_begun : (m : Settings → Bool) {t : Option Msg} {P L : Type 0} {numbers : List ℕ} {items : List (List ℕ)} {bytes : List ℕ}
      (parts : Settings → List (Option Data)) (ps : Settings → List Piece) (refusals : List Errors) (V : Type 0) {old last : Serializer W C} {e : Error}
      → IsMadeOf (settings_of old) t P bytes (parts (settings_of old)) → (AnyLong numbers → L) → OpensParts g P numbers items bytes old last (Err e)
      → WritesAll (m (settings_of old) || g.takes_memory) t P (items_of items ++ ps (settings_of old)) L refusals V old last (Err e)
  none_begun m parts ps refusals V {old} {last} {e} made long h = record {
    writes = part_or g _ (h.begins _ _ made);
    keeps = h.keeps;
    marker = pieces_stop g (ps (settings_of old)) h.order;
    error = of_no_part _ refusals e (of_weaker long e h.error);
    value = tt;
    refused = h.long;
  }

  -- its parts were written, or one of them failed
  pub all_begun : (m : Settings → Bool) {t : Option Msg} {P L M : Type 0} {numbers : List ℕ} {items : List (List ℕ)} {bytes : List ℕ}
      {parts : Settings → List (Option Data)} {ps : Settings → List Piece} {refusals : List Errors} {V : Type 0} {old mid new : Serializer W C} {u : Unit {0}}
      (r : Result (Unit {0}) Error) → IsMadeOf (settings_of old) t P bytes (parts (settings_of old)) → (L → M)
      → OpensParts g P numbers items bytes old mid (Ok u) → WritesParts g (λ s. m s || g.takes_memory) parts ps L refusals V mid new r
      → WritesAll (m (settings_of old) || g.takes_memory) t P (items_of items ++ ps (settings_of old)) M refusals V old new r
  all_begun m {parts = parts} {ps = ps} {refusals = refusals} {old = old} {mid = mid} {new = new} r made long h p = record {
    writes = all_written g (λ s. m s || g.takes_memory) parts mid new r p.takes.writes old _ (h.begins _ _ made);
    keeps = keeps_then g h.keeps p.takes.keeps;
    marker = pieces_then g r h.order (pieces_as g ps h.keeps.settings p.order);
    error = on_parts_weaker long refusals r p.takes.error;
    value = p.takes.value;
    refused = λ not. absurd (not h.fits);
  }

  -- ---- a value that is bytes

  -- its number fits
  pub value_whole : {m : Bool} {t : Option Msg} (n : ℕ) {old new : Serializer W C} (r : Result (Unit {0}) Error) → n < 2 ^ 32
      → WritesTree g m t (sink_of old) (sink_of new) r → Keeps g old new → IfErr r OfSink → WritesValue g m t n (OfLength (2 ^ 32 ≤ n)) (Unit {0}) old new r
  value_whole n r lt w k e = record { writes = w; keeps = k; error = on_sink (2 ^ 32 ≤ n) r e; value = on_ok r tt; long = λ le. absurd (omega (arith, le, lt)) }

  -- its number was refused
  pub value_long : {m : Bool} {t : Option Msg} (n : ℕ) (old : Serializer W C) (e : Error) → IsTooLong e → 2 ^ 32 ≤ n
      → WritesTree g {A = Unit {0}} m t (sink_of old) (sink_of old) (Err e) → WritesValue g m t n (OfLength (2 ^ 32 ≤ n)) (Unit {0}) old old (Err e)
  value_long n old e is le w = record {
    writes = w;
    keeps = record { settings = refl; place = refl };
    error = of_long e is le;
    value = tt;
    long = λ _. refuses_length old e is;
  }
