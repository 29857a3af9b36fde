-- Of several items and values that are written in order: at which of them a write failed.
use Rattle.std.proofs.Common.{◌≡◌, ◌-◌, ◌<◌, ◌≤◌, ◌^◌, Bool, true, false, Option, Some, List, ℕ, [], ◌∷◌, ◌++◌, inl, inr, refl, sym, ◌∙◌, ap, subst, arith}
use Rattle.std.proofs.Common.{append_assoc, drop, length, take}
use Rattle.std.specs.Prelude.{Result, Ok, Err, OnOk}
use Rattle.std.specs.Borrow.{Bor}
use Rattle.std.proofs.KnownBytes.{Appends-nil, Appends-trans}
use Rattle.std.proofs.lemmas.List.{length-drop}
use Rattle.std.proofs.Math.Seq.{take-length}
use Rattle.std.specs.List.{flat_map}
use Rattle.std.specs.Io.KnownBytes.{Appends}
use Rattle.rmp_wire.specs.declared.sink.Sink.{Ghosts}
use Rattle.rmp_wire.specs.declared.error.ValueWriteError.TheVariants as wire
use Rattle.rmp_encode.specs.declared.error.Error.{Error}
use Rattle.rmp_encode.specs.declared.error.Error.TheVariants as errors
use Rattle.rmp_encode.specs.declared.settings.Settings.{Settings}
use Rattle.rmp_encode.specs.Errors.{IsTooLong}
use Rattle.rmp_wire.specs.Heads.{fits_head}
use Rattle.rmp_wire.specs.Msg.{text}
use Rattle.rmp_wire.specs.Spelling.{canon}
use Rattle.rmp_encode.specs.declared.serializer.Serializer.{Serializer}
use Rattle.rmp_encode.specs.Data.{Data}
use Rattle.rmp_encode.specs.Refusals.{RefusesLength}
use Rattle.rmp_encode.specs.Ser.{settings_of, sink_of}
use Rattle.rmp_encode.specs.Trees.{spell, tree_of, HasTree}
use Rattle.rmp_encode.specs.Markers.{field_pieces, item, items_of, name_pieces, no_fault, pieces_by, refusal, value_of, AllPieces, AtName, AtPieces, AtRefusal, FaultAt, InOrder, Piece}
use Rattle.rmp_encode.specs.Writes.{AppendsFirst, FailsBy, FirstAtMarker, MarkedBy, Marks, NoneAtMarker, WritesPart, WritesTree}
use Rattle.rmp_encode.proofs.Going.{on_ok}
use Rattle.rmp_encode.proofs.OpenSteps.{on_ok_as}

all_then : (ps qs : List Piece) (old mid new : Option (List ℕ)) → AllPieces ps old mid → AllPieces qs mid new → AllPieces (ps ++ qs) old new
all_then [] qs old mid new a h = subst (λ x. AllPieces qs x new) (sym a) h
all_then (p ∷ ps) qs old mid new a h = (a.0, a.1, a.2, all_then ps qs a.0 mid new a.3 h)

at_back : (ps qs : List Piece) (old mid new : Option (List ℕ)) (e : Error) → AllPieces ps old mid → AtPieces qs mid new e → AtPieces (ps ++ qs) old new e
at_back [] qs old mid new e a h = subst (λ x. AtPieces qs x new e) (sym a) h
at_back (p ∷ ps) qs old mid new e a h = inr (a.0, a.1, a.2, at_back ps qs a.0 mid new e a.3 h)

at_front : (ps qs : List Piece) (old new : Option (List ℕ)) (e : Error) → AtPieces ps old new e → AtPieces (ps ++ qs) old new e
at_front [] qs old new e h = absurd h
at_front (p ∷ ps) qs old new e (inl h) = inl h
at_front (p ∷ ps) qs old new e (inr h) = inr (h.0, h.1, h.2, at_front ps qs h.0 new e h.3)

-- a length was refused before anything was written
at_long : (bytes : List ℕ) (ps : List Piece) (told : Option (List ℕ)) (e : Error) → IsTooLong e → AtPieces (item bytes ∷ ps) told told e
at_long bytes ps told (errors.InvalidDataModel t) is = inl (record { part = []; appended = Appends-nil told; begun = tt }, tt)
at_long bytes ps told (errors.InvalidValueWrite fault) is = absurd is
at_long bytes ps told errors.UnknownLength is = absurd is
at_long bytes ps told errors.DepthLimitExceeded is = absurd is
at_long bytes ps told (errors.Syntax t) is = absurd is
at_long bytes ps told errors.OutOfMemory is = absurd is

-- the first of the items are whole
first_items : (items : List (List ℕ)) (old new : Option (List ℕ)) (fault : _)
    → AtPieces (items_of items) old new (errors.InvalidValueWrite (wire.InvalidMarkerWrite fault)) → AppendsFirst items old new
first_items [] old new fault h = absurd h
first_items (bytes ∷ items) old new fault (inl h) = record { front = []; next = bytes; rest = items; split = refl; appended = h.1 }
first_items (bytes ∷ items) old new fault (inr h) =
    let later = first_items items h.0 new fault h.3 in
    record {
      front = bytes ∷ later.front;
      next = later.next;
      rest = later.rest;
      split = ap (λ l. bytes ∷ l) later.split;
      appended = Appends-trans old h.0 new bytes (flat_map (λ x. x) later.front) h.1 later.appended;
    }

pub items_append : (is js : List (List ℕ)) → items_of (is ++ js) ≡ items_of is ++ items_of js
items_append [] js = refl
items_append (i ∷ is) js = ap (λ l. item i ∷ l) (items_append is js)

pieces_split : (named : Bool) (ns : List (Bor (List ℕ))) (ps qs : List Piece) → length ps ≤ length ns
    → pieces_by named ns (ps ++ qs) ≡ pieces_by named (take (length ps) ns) ps ++ pieces_by named (drop (length ps) ns) qs
pieces_split named ns [] qs l = refl
pieces_split named [] (p ∷ ps) qs l = absurd (omega (arith, l))
pieces_split named (n ∷ ns) (p ∷ ps) qs l =
    ap (λ fs. field_pieces named n.now p ++ fs) (pieces_split named ns ps qs (omega (arith, l)))
    ∙ sym (append_assoc (field_pieces named n.now p) (pieces_by named (take (length ps) ns) ps) (pieces_by named (drop (length ps) ns) qs))

-- a text that is in a message has fewer than 2 ^ 32 bytes
pub text_fits : (name : List ℕ) → HasTree (Some (text name)) → length name < 2 ^ 32
unfolding HasTree fits_head
text_fits name h = h.0

-- of what comes later
pub at_after : (first ps qs : List Piece) (new : Option (List ℕ)) (e : Error)
    → ((mid : Option (List ℕ)) → AtPieces ps mid new e → AtPieces qs mid new e) → (old : Option (List ℕ)) → AtPieces (first ++ ps) old new e
    → AtPieces (first ++ qs) old new e
at_after [] ps qs new e f old h = f old h
at_after (p ∷ first) ps qs new e f old (inl h) = inl h
at_after (p ∷ first) ps qs new e f old (inr h) = inr (h.0, h.1, h.2, at_after first ps qs new e f h.0 h.3)

-- a name past 32 bits is never whole: it is refused, or something before it failed
pub at_long_name : (before : List (Bor (List ℕ))) (name : Bor (List ℕ)) (after : List (Bor (List ℕ))) (ps : List Piece) (new : Option (List ℕ)) (e : Error)
    → 2 ^ 32 ≤ length name.now → (old : Option (List ℕ)) → AtPieces (pieces_by true (before ++ name ∷ after) ps) old new e
    → AtPieces (pieces_by true before ps ++ refusal ∷ []) old new e
at_long_name before name after [] new e le old h = absurd h
at_long_name [] name after (p ∷ ps) new e le old (inl h) = inl (h.0, (h.1).1 le)
at_long_name [] name after (p ∷ ps) new e le old (inr h) = let lt = h.2 in absurd (omega (arith, lt, le))
at_long_name (b ∷ before) name after (p ∷ ps) new e le old h = at_after (field_pieces true b.now p) (pieces_by true (before ++ name ∷ after) ps)
    (pieces_by true before ps ++ refusal ∷ []) new e (at_long_name before name after ps new e le) old h

-- where no fault was counted, there was none
pub none_counted : (m : Bool) (P : Type 0) (n : ℕ) (old new : Option (List ℕ)) (e : Error) → FailsBy m P n n e → no_fault old new e
none_counted m P n old new (errors.InvalidValueWrite (wire.InvalidMarkerWrite fault)) h = h refl
none_counted m P n old new (errors.InvalidValueWrite (wire.InvalidDataWrite fault)) h = h refl
none_counted m P n old new (errors.InvalidValueWrite wire.OutOfMemory) h = h
none_counted m P n old new errors.UnknownLength h = tt
none_counted m P n old new (errors.InvalidDataModel t) h = tt
none_counted m P n old new errors.DepthLimitExceeded h = tt
none_counted m P n old new (errors.Syntax t) h = tt
none_counted m P n old new errors.OutOfMemory h = tt

pub long_no_fault : (old new : Option (List ℕ)) (e : Error) → IsTooLong e → no_fault old new e
long_no_fault old new (errors.InvalidDataModel t) is = tt
long_no_fault old new (errors.InvalidValueWrite fault) is = is
long_no_fault old new errors.UnknownLength is = tt
long_no_fault old new errors.DepthLimitExceeded is = tt
long_no_fault old new (errors.Syntax t) is = tt
long_no_fault old new errors.OutOfMemory is = tt

module _ {W : Type 0} (g : Ghosts W) where
  -- one piece
  pub one_piece : {m : Bool} {P : Type 0} (p : Piece) {old new : W} (r : Result (Unit {0}) Error) → WritesPart g m P p.0 old new r
      → MarkedBy g p.1 old new r → OnOk r p.2 → InOrder g (p ∷ []) old new r
  one_piece p {old} {new} (Ok u) w h may = record { whole = (g.told new, w.whole, may, refl); stops = tt }
  one_piece p (Err e) w h may = record { whole = tt; stops = inl (w.front, h) }

  pub nothing_written : (w : W) (u : Unit {0}) → InOrder g [] w w (Ok u)
  nothing_written w u = record { whole = refl; stops = tt }

  -- some were written, and then others
  pub pieces_then : {ps qs : List Piece} {old mid new : W} {u : Unit {0}} (r : Result (Unit {0}) Error) → InOrder g ps old mid (Ok u)
      → InOrder g qs mid new r → InOrder g (ps ++ qs) old new r
  pieces_then {ps} {qs} {old} {mid} {new} (Ok u) a h =
      record { whole = all_then ps qs (g.told old) (g.told mid) (g.told new) a.whole h.whole; stops = tt }
  pieces_then {ps} {qs} {old} {mid} {new} (Err e) a h =
      record { whole = tt; stops = at_back ps qs (g.told old) (g.told mid) (g.told new) e a.whole h.stops }

  -- one of the first failed
  pub pieces_stop : {ps : List Piece} (qs : List Piece) {old new : W} {e : Error} → InOrder g {A = Unit {0}} ps old new (Err e)
      → InOrder g {A = Unit {0}} (ps ++ qs) old new (Err e)
  pieces_stop {ps} qs {old} {new} {e} h = record { whole = tt; stops = at_front ps qs (g.told old) (g.told new) e h.stops }

  pub no_more : {ps : List Piece} {old new : W} (r : Result (Unit {0}) Error) → InOrder g ps old new r → InOrder g (ps ++ []) old new r
  no_more {ps} {old} {new} (Ok u) h = pieces_then (Ok u) h (nothing_written new u)
  no_more {ps} {old} {new} (Err e) h = pieces_stop [] h

  -- a length was refused
  pub pieces_long : (bytes : List ℕ) (ps : List Piece) (old : W) (e : Error) → IsTooLong e → InOrder g {A = Unit {0}} (item bytes ∷ ps) old old (Err e)
  pieces_long bytes ps old e is = record { whole = tt; stops = at_long bytes ps (g.told old) e is }

  -- under the settings that it began with
  pub pieces_as : (f : Settings → List Piece) {s s' : Settings} {old new : W} {r : Result (Unit {0}) Error} → s ≡ s' → InOrder g (f s) old new r
      → InOrder g (f s') old new r
  pieces_as f {s} {s'} {old} {new} {r} e h = subst (λ z. InOrder g (f z) old new r) e h

  pub value_piece : {C : Type 0} (d : Settings → Option Data) (marks : Settings → Marks) (now : Serializer W C) {m : Bool} {s : Settings} {new : W}
      (r : Result (Unit {0}) Error) → settings_of now ≡ s → WritesTree g m (tree_of (settings_of now) (d (settings_of now))) (sink_of now) new r
      → MarkedBy g (marks (settings_of now)) (sink_of now) new r → InOrder g (value_of s (d s) (marks s) ∷ []) (sink_of now) new r
  value_piece d marks now r e w h = pieces_as (λ z. value_of z (d z) (marks z) ∷ []) e
      (one_piece (value_of (settings_of now) (d (settings_of now)) (marks (settings_of now))) r w h (on_ok r tt))

  -- the name of a field, where structs are written without names, and with them
  pub name_none : (name : List ℕ) {named : Bool} {w : W} {u : Unit {0}} → named ≡ false → InOrder g (name_pieces named name) w w (Ok u)
  name_none name {named} {w} {u} is = subst (λ b. InOrder g (name_pieces b name) w w (Ok u)) (sym is) (nothing_written w u)

  refused_name : {C : Type 0} (old new : Serializer W C) (e : Error) → RefusesLength {A = Unit {0}} old new (Err e)
      → AtRefusal (g.told (sink_of old)) (g.told (sink_of new)) e
  refused_name old new (errors.InvalidDataModel t) h =
      (h.0, subst (λ se. Appends (g.told (sink_of old)) (g.told (sink_of se)) []) (sym h.1) (Appends-nil (g.told (sink_of old))))
  refused_name old new (errors.InvalidValueWrite fault) h = absurd h
  refused_name old new errors.UnknownLength h = absurd h
  refused_name old new errors.DepthLimitExceeded h = absurd h
  refused_name old new (errors.Syntax t) h = absurd h
  refused_name old new errors.OutOfMemory h = absurd h

  name_marked : {C : Type 0} (name : List ℕ) (old new : Serializer W C) (r : Result (Unit {0}) Error) → NoneAtMarker g (sink_of old) (sink_of new) r
      → (2 ^ 32 ≤ length name → RefusesLength old new r) → MarkedBy g (AtName name) (sink_of old) (sink_of new) r
  name_marked name old new (Ok u) h long = tt
  name_marked name old new (Err e) h long = (h, λ le. refused_name old new e (long le))

  pub name_written : {C : Type 0} (name : List ℕ) {m named : Bool} (old new : Serializer W C) (r : Result (Unit {0}) Error) → named ≡ true
      → WritesTree g m (Some (text name)) (sink_of old) (sink_of new) r → NoneAtMarker g (sink_of old) (sink_of new) r
      → (2 ^ 32 ≤ length name → RefusesLength old new r) → InOrder g (name_pieces named name) (sink_of old) (sink_of new) r
  unfolding spell
  name_written name {m} {named} old new r is w h long = subst (λ b. InOrder g (name_pieces b name) (sink_of old) (sink_of new) r) (sym is)
      (one_piece (canon (text name), AtName name, length name < 2 ^ 32) r w (name_marked name old new r h long) (on_ok_as r (text_fits name) w.may))

  -- at which of several items the sink failed
  pub order_first : (items : List (List ℕ)) (old new : W) (e : Error) → InOrder g {A = Unit {0}} (items_of items) old new (Err e)
      → FirstAtMarker g {A = Unit {0}} items old new (Err e)
  order_first items old new (errors.InvalidValueWrite (wire.InvalidMarkerWrite fault)) h = first_items items (g.told old) (g.told new) fault h.stops
  order_first items old new (errors.InvalidValueWrite (wire.InvalidDataWrite fault)) h = tt
  order_first items old new (errors.InvalidValueWrite wire.OutOfMemory) h = tt
  order_first items old new errors.UnknownLength h = tt
  order_first items old new (errors.InvalidDataModel t) h = tt
  order_first items old new errors.DepthLimitExceeded h = tt
  order_first items old new (errors.Syntax t) h = tt
  order_first items old new errors.OutOfMemory h = tt

  pub fault_at : {ps : List Piece} {old new : W} (r : Result (Unit {0}) Error) → InOrder g ps old new r → MarkedBy g (FaultAt ps) old new r
  fault_at (Ok u) h = tt
  fault_at (Err e) h = inr h.stops

  -- the first fields, and then the others
  pub pieces_halves : (named : Bool) (ns : List (Bor (List ℕ))) (k : ℕ) (ps qs : List Piece) {old new : W} {r : Result (Unit {0}) Error}
      → length ps ≡ k → k ≤ length ns
      → InOrder g (pieces_by named (take k ns) ps ++ pieces_by named (take (length ns - k) (drop k ns)) qs) old new r
      → InOrder g (pieces_by named ns (ps ++ qs)) old new r
  pieces_halves named ns k ps qs {old} {new} {r} e l h =
      let all : take (length ns - k) (drop k ns) ≡ drop k ns = subst (λ i. take i (drop k ns) ≡ drop k ns) (length-drop k ns) (take-length (drop k ns)) in
      let split : pieces_by named ns (ps ++ qs) ≡ pieces_by named (take k ns) ps ++ pieces_by named (drop k ns) qs =
      subst (λ i. i ≤ length ns → pieces_by named ns (ps ++ qs) ≡ pieces_by named (take i ns) ps
      ++ pieces_by named (drop i ns) qs) e (pieces_split named ns ps qs) l in
      subst (λ x. InOrder g x old new r) (sym split)
      (subst (λ x. InOrder g (pieces_by named (take k ns) ps ++ pieces_by named x qs) old new r) all h)
