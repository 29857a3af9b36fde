-- What reading a value from a slice says of the bytes that were left.
use Rattle.std.proofs.Common.{arith, ◌≡◌, ◌≢◌, ◌∙◌, ℕ, ◌<◌, List, [], ◌∷◌, ◌++◌, length, take, refl, sym, ap, subst, append_assoc, Bool, true, false, ◌-◌}
use Rattle.std.specs.Prelude.{Some, IfSome, Result, Ok, Err, OnOk, IfOk}
use Rattle.std.specs.Io.KnownBytes.{Appends, Consumes}
use Rattle.std.proofs.lemmas.List.{length-append, take_at}
use Rattle.hex.specs.Hex.{encode_lower}
use Rattle.rmp_wire.specs.declared.sink.Sink.{Ghosts as Sinks}
use Rattle.rmp_wire.specs.declared.source.Source.{Ghosts}
use Rattle.rmp_wire.specs.declared.slice.ReadRefReader.{ReadRefReader}
use Rattle.rmp_wire.specs.Canonical.{IsCanonical, SpellsAs}
use Rattle.rmp_wire.specs.Heads.{IsHead}
use Rattle.rmp_wire.specs.RefReader.{rest_of, place_of}
use Rattle.rmp_wire.specs.Spelling.{Spells, canon}
use Rattle.rmp_wire.proofs.Canonical.{canonical_iff}
use Rattle.rmp_wire.proofs.Strict.{spells_any}
use Rattle.rmp_wire.proofs.Unique.{spelled_once}
use Rattle.rmp_decode.specs.Law.{Begins, Readable, Reads, Refuses, Explains}
use Rattle.rmp_decode.specs.Refuse.{Refusal, RefusedFor}
use Rattle.rmp_decode.specs.State.{left, faults_of, room_of}
use Rattle.rmp_decode.specs.declared.deserializer.Deserializer.{Deserializer}
use Rattle.rmp_decode.specs.declared.deserializer.Kept.TheVariants.{Nothing}
use Rattle.rmp_decode.specs.declared.error.Error.{Error}
use Rattle.rmp_decode.specs.declared.error.Error.TheVariants.{OutOfMemory}
use Rattle.rmp_decode.proofs.Contents.{bare}
use Rattle.rmp_serde.specs.Msg.{Msg, nil, depth}
use Rattle.rmp_serde.specs.Read.{reads_value, ItemsUtf8}
use Rattle.rmp_serde.specs.Refuse.{UnreadFor, RefusesValue}
use Rattle.rmp_serde.specs.TreeText.{tree_text}
use Rattle.canon_lines.specs.Messages.{message_text, refused_text}
use Rattle.canon_lines.specs.Output.{PrintsLines}
use Rattle.canon_lines.specs.declared.lines.Stop.{Stop}
use Rattle.canon_lines.specs.Firsts.{TellsFirst}
use Rattle.canon_lines.specs.Prints.{line, NoneBegins, PrintsMessages, Puts}
use Rattle.canon_lines.proofs.Shown.{SoFar, then_refused}

-- a message has a byte
spells_some : (m : Msg) → Spells [] m → ⊥
unfolding IsHead
spells_some m s = let e : ◌≡◌ {A = List ℕ} [] (0xc0 ∷ []) = (spelled_once m nil [] (0xc0 ∷ []) (0xc0 ∷ []) [] s refl refl).0 in absurd (cc)

pub shorter : (m : Msg) (b xs ys : List ℕ) → Spells b m → xs ≡ b ++ ys → length ys < length xs
shorter m [] xs ys s e = absurd (spells_some m s)
shorter m (x ∷ b) xs ys s e = omega (arith, ap length e, length-append b ys)

-- a source that tells what a reader over a slice has left, and that has no faults
pub record TellsRest (h : Ghosts ReadRefReader) : Type 0 where
  pub ahead : (r : ReadRefReader) → h.ahead r ≡ Some (rest_of r)
  pub sound : (r s : ReadRefReader) → h.faults r ≡ h.faults s

-- what a reader over a slice tells
abbrev pub slice_source : Ghosts ReadRefReader
slice_source = record { ahead = λ r. Some (rest_of r); faults = λ r. 0; place = place_of }

module _ {C : Type 0} (h : Ghosts ReadRefReader) (tells : TellsRest h) (old new : Deserializer ReadRefReader C) (kept : old.kept ≡ Nothing)
    (room : room_of old ≡ 1024) where
  ahead_is : (d : Deserializer ReadRefReader C) → d.kept ≡ Nothing → left h d ≡ Some (rest_of d.reader)
  ahead_is d k = bare h d k ∙ tells.ahead d.reader

  -- what was taken
  pub taken : (b : List ℕ) → new.kept ≡ Nothing → Consumes (left h old) (left h new) b → rest_of old.reader ≡ b ++ rest_of new.reader
  taken b k p = subst (λ o. Consumes (Some (rest_of old.reader)) o b) (ahead_is new k) (subst (λ o. Consumes o (left h new) b) (ahead_is old kept) p)

  -- a message was read, and these are its tree and its canonical spelling
  pub first_read : (v : Msg) (n : ℕ) (text : List ℕ) → new.kept ≡ Nothing → Reads h reads_value old new v → text ≡ message_text v
      → n ≡ length (rest_of old.reader) - length (rest_of new.reader) → TellsFirst n (rest_of old.reader) text
  first_read v n text k r told long =
      let nested : depth r.tree < 1024 = subst (λ n. depth r.tree < n) room r.fits in
      let split = taken r.bytes k r.takes in
      record {
        message = r.tree;
        front = r.bytes;
        rest = rest_of new.reader;
        split = split;
        long = omega (arith, long, ap length split, length-append r.bytes (rest_of new.reader));
        spelled = spells_any old.strict r.tree r.bytes r.spelled;
        accepted = record { nested = nested; utf8 = r.value.1 };
        told = told ∙ ap message_text r.value.0;
      }

  -- the same, where it was read strictly: its bytes are its canonical spelling
  pub first_canonical : (v : Msg) (n : ℕ) (text : List ℕ) → old.strict ≡ true → new.kept ≡ Nothing → Reads h reads_value old new v
      → text ≡ tree_text v ++ 32 ∷ encode_lower (take n (rest_of old.reader)) → n ≡ length (rest_of old.reader) - length (rest_of new.reader)
      → TellsFirst n (rest_of old.reader) text
  first_canonical v n text strict k r told long =
      let split = taken r.bytes k r.takes in
      let canonical : IsCanonical r.bytes r.tree = subst (λ w. SpellsAs w r.bytes r.tree) strict r.spelled in
      let count : n ≡ length r.bytes = omega (arith, long, ap length split, length-append r.bytes (rest_of new.reader)) in
      let front : take n (rest_of old.reader) ≡ r.bytes = ap (take n) split ∙ ap (λ i. take i (r.bytes ++ rest_of new.reader)) count
      ∙ take_at r.bytes (rest_of new.reader) (length r.bytes) refl in
      let spelled : take n (rest_of old.reader) ≡ canon v = front ∙ ((canonical_iff r.bytes r.tree).0 canonical).1 ∙ ap canon (sym r.value.0) in
      first_read v n text k r (told ∙ ap (λ b. tree_text v ++ 32 ∷ encode_lower b) spelled
      ∙ sym (append_assoc (tree_text v) (32 ∷ []) (encode_lower (canon v)))) long

  -- none was there
  pub none_begins : old.strict ≡ false → (e : Error) → e ≢ OutOfMemory → Explains e (faults_of h old) (faults_of h new)
      (Refuses (SpellsAs old.strict) (Readable reads_value) (room_of old) (left h old)) → NoneBegins (rest_of old.reader)
  unfolding Refuses
  none_begins lenient e n x b rest m is s acc =
      let told = subst (λ o. IfSome o (λ xs. Begins (SpellsAs old.strict) (Readable reads_value) (room_of old) xs → ⊥)) (ahead_is old kept)
      (x n (tells.sound new.reader old.reader)) in
      let refuses = subst (λ w. Begins (SpellsAs w) (Readable reads_value) (room_of old) (rest_of old.reader) → ⊥) lenient told in
      refuses (record {
        bytes = b;
        rest = rest;
        tree = m;
        front = is;
        spelled = s;
        fits = subst (λ n. depth m < n) (sym room) acc.nested;
        holds = (m, (refl, acc.utf8));
      })

  -- and the error names what is wrong
  pub names_wrong : old.strict ≡ false → (e : Error) → RefusesValue h old new e → old.failed ≡ false → Refusal false (UnreadFor false) ItemsUtf8 1024 e (rest_of old.reader)
  unfolding RefusedFor
  names_wrong lenient e x ready =
      let told = subst (λ o. RefusedFor old.strict (UnreadFor old.strict) ItemsUtf8 (room_of old) e o) (ahead_is old kept)
      (x ready (tells.sound new.reader old.reader)) in
      let refused = subst (λ w. Refusal w (UnreadFor w) ItemsUtf8 (room_of old) e (rest_of old.reader)) lenient told in
      subst (λ n. Refusal false (UnreadFor false) ItemsUtf8 n e (rest_of old.reader)) room refused

-- a failure says the same whatever the answer would have been
pub prints_failed : {A B W : Type 0} (g : Sinks W) {old new : W} {e : Stop} → PrintsLines {A = A} g old new (Err e) → PrintsLines {A = B} g old new (Err e)
prints_failed g p = record { whole = tt; stops = p.stops; place = p.place }

pub message_refused : {W : Type 0} (g : Sinks W) (bytes rest : List ℕ) (place : ℕ) (e : Error) (r : Result Bool Stop) {old mid : W} (new : W)
    → SoFar g bytes rest old mid → place ≡ length bytes - length rest → 0 < length rest → (e ≢ OutOfMemory → NoneBegins rest)
    → (e ≢ OutOfMemory → Refusal false (UnreadFor false) ItemsUtf8 1024 e rest) → OnOk r (e ≢ OutOfMemory) → IfOk r (λ a. a ≡ false)
    → OnOk r (Appends (g.told mid) (g.told new) (line (refused_text place e))) → IfOk r (λ a. Puts g (λ out. PrintsMessages bytes out a) old new)
message_refused g bytes rest place e (Ok a) {old} new p at more none wrong n f appended = subst (λ x. Puts g (λ out. PrintsMessages bytes out x) old new)
    (sym f) (then_refused g bytes rest place e p at more n (none n) (wrong n) appended)
message_refused g bytes rest place e (Err x) new p at more none wrong n f appended = tt
