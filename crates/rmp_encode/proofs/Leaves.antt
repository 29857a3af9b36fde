-- What a writer of the wire wrote, as the law of a write says it.
use Rattle.std.proofs.Common.{◌≡◌, ℕ, ◌<◌, ◌≤◌, ◌^◌, ◌/◌, ◌%◌, List, [], ◌∷◌, ◌++◌}
use Rattle.std.proofs.Common.{ap, length, take, drop, Bool, Some, suc, sym, ◌∙◌, subst, arith, get_or, refl}
use Rattle.std.specs.Prelude.{Result, Ok, Err, ℤ, pos, negsuc, FitsSigned}
use Rattle.std.specs.Int.{w8, w64, w128, to_be_bytes}
use Rattle.std.specs.Io.KnownBytes.{Appends}
use Rattle.std.proofs.lemmas.Int.{to_z-of_z}
use mir.Val.{to_z, of_z}
use mir.Syntax.{Width}
use Rattle.rmp_wire.specs.declared.sink.Sink.{Ghosts}
use Rattle.rmp_wire.specs.declared.error.ValueWriteError.{ValueWriteError}
use Rattle.rmp_wire.specs.declared.error.ValueWriteError.TheVariants as wire
use Rattle.rmp_wire.specs.Msg.{Msg, whole, text, bin, extension}
use Rattle.rmp_wire.specs.declared.head.Head.TheVariants.{Text, Whole}
use Rattle.rmp_wire.specs.Heads.{canon_head, fits_head}
use Rattle.rmp_wire.specs.Sinks.{StopsAfter}
use Rattle.rmp_wire.specs.Spelling.{canon, Fits, IsBytes}
use Rattle.rmp_wire.specs.Writing.{Writes}
use Rattle.rmp_wire.proofs.Told.{next_differs}
use Rattle.rmp_wire.proofs.Writing.{puts_both, puts_then_stop}
use Rattle.rmp_wire.specs.Faults.{past_first}
use Rattle.rmp_encode.specs.declared.error.Error.{Error}
use Rattle.rmp_encode.specs.declared.error.Error.TheVariants as errors
use Rattle.rmp_encode.specs.Errors.{IsTooLong, error_of, answer_of}
use Rattle.rmp_encode.specs.Trees.{HasTree, spell, ext_head}
use Rattle.rmp_encode.specs.Writes.{FailsBy, HasBegun, NeverMarker, NoneAtMarker, WritesAfter, WritesPart, WritesTree}
use Rattle.rmp_encode.proofs.Parts.{part_as, part_done, part_failed, part_refused}

-- why a write stopped, as an error of this crate
fails_by : (m : Bool) (P : Type 0) (old new : ℕ) (part : List ℕ) (e : ValueWriteError) → StopsAfter m old new part e → FailsBy m P old new (error_of e)
fails_by m P old new part (wire.InvalidMarkerWrite fault) c = next_differs old new c.1
fails_by m P old new part (wire.InvalidDataWrite fault) c = next_differs old new c.1
fails_by m P old new part wire.OutOfMemory c = (c.1, c.0)

-- how far an item got, by the error's name
begun_by : (m : Bool) (old new : ℕ) (part : List ℕ) (e : ValueWriteError) → StopsAfter m old new part e → HasBegun (error_of e) part
begun_by m old new part (wire.InvalidMarkerWrite fault) c = tt
begun_by m old new part (wire.InvalidDataWrite fault) c = c.0
begun_by m old new part wire.OutOfMemory c = tt

-- a fault after an item's first byte
pub past_marker : (e : ValueWriteError) → NeverMarker {A = Unit {0}} (Err (error_of (past_first e)))
past_marker (wire.InvalidMarkerWrite fault) = tt
past_marker (wire.InvalidDataWrite fault) = tt
past_marker wire.OutOfMemory = tt

module _ {W : Type 0} (g : Ghosts W) where
  none_by : (e : ValueWriteError) (bs : List ℕ) {old new : W} → Writes {A = Unit {0}} g bs old new (Err e)
      → NoneAtMarker g {A = Unit {0}} old new (Err (error_of e))
  none_by (wire.InvalidMarkerWrite fault) bs {old} {new} w = subst (Appends (g.told old) (g.told new)) w.stops.cause.0 w.stops.appended
  none_by (wire.InvalidDataWrite fault) bs w = tt
  none_by wire.OutOfMemory bs w = tt

  none_at : (bs : List ℕ) {old new : W} (r : Result (Unit {0}) ValueWriteError) → Writes g bs old new r → NoneAtMarker g old new (answer_of r)
  none_at bs (Ok u) w = tt
  none_at bs (Err e) w = none_by e bs w

  -- one item that the wire wrote: what its error says of the first byte
  pub wire_marker : (bs : List ℕ) {old new : W} (r : Result (Unit {0}) ValueWriteError) {answer : Result (Unit {0}) Error} → answer ≡ answer_of r
      → Writes g bs old new r → NoneAtMarker g old new answer
  wire_marker bs {old} {new} r {answer} is w = subst (NoneAtMarker g old new) (sym is) (none_at bs r w)

  -- what is never said of an item isn't said wrongly
  pub none_by_never : {A : Type 0} (old new : W) (r : Result A Error) → NeverMarker r → NoneAtMarker g old new r
  none_by_never old new (Ok u) h = tt
  none_by_never old new (Err (errors.InvalidValueWrite (wire.InvalidMarkerWrite fault))) h = absurd h
  none_by_never old new (Err (errors.InvalidValueWrite (wire.InvalidDataWrite fault))) h = tt
  none_by_never old new (Err (errors.InvalidValueWrite wire.OutOfMemory)) h = tt
  none_by_never old new (Err errors.UnknownLength) h = tt
  none_by_never old new (Err (errors.InvalidDataModel t)) h = tt
  none_by_never old new (Err errors.DepthLimitExceeded) h = tt
  none_by_never old new (Err (errors.Syntax t)) h = tt
  none_by_never old new (Err errors.OutOfMemory) h = tt

  -- bytes that the wire wrote
  pub wire_part : (P : Type 0) (bs : List ℕ) {old new : W} (r : Result (Unit {0}) ValueWriteError) → P → Writes g bs old new r
      → WritesPart g g.takes_memory P bs old new (answer_of r)
  wire_part P bs {old} {new} (Ok u) p w = part_done g g.takes_memory P bs old new u p w.whole w.sound
  wire_part P bs {old} {new} (Err e) p w =
      part_failed g g.takes_memory P bs old new (error_of e)
      (λ _. record { part = w.stops.part; rest = w.stops.rest; split = w.stops.split; appended = w.stops.appended })
      (record { part = w.stops.part; appended = w.stops.appended; begun = begun_by g.takes_memory _ _ w.stops.part e w.stops.cause })
      (fails_by g.takes_memory P _ _ w.stops.part e w.stops.cause)

  -- a piece after a head
  pub piece_ok : (piece : List ℕ) {mid new : W} (u : Unit {0}) → Writes {A = Unit {0}} g piece mid new (Ok u) → WritesAfter g piece mid new (Ok tt)
  piece_ok piece {mid} {new} u w = λ front old some p. wire_part (Unit {0}) (front ++ piece) (Ok tt) tt
      (puts_both {B = Unit {0}} {u = tt} (record { whole = p.whole; sound = p.no_fault; stops = tt }) w)

  pub piece_err : (piece : List ℕ) {mid new : W} (e : ValueWriteError) → Writes {A = Unit {0}} g piece mid new (Err e)
      → WritesAfter g piece mid new (Err (error_of (past_first e)))
  piece_err piece {mid} {new} e w = λ front old some p. wire_part (Unit {0}) (front ++ piece) (Err (past_first e)) tt
      (puts_then_stop {B = Unit {0}} {u = tt} some (record { whole = p.whole; sound = p.no_fault; stops = tt }) w)

  -- a head
  pub wire_head : (bs : List ℕ) {old new : W} (r : Result (Unit {0}) ValueWriteError) {answer : Result (Unit {0}) Error} → answer ≡ answer_of r
      → Writes g bs old new r → WritesPart g g.takes_memory (Unit {0}) bs old new answer
  wire_head bs {old} {new} r {answer} is w = subst (WritesPart g g.takes_memory (Unit {0}) bs old new) (sym is) (wire_part (Unit {0}) bs r tt w)

  -- a message that fits, of which the wire wrote the canonical spelling
  pub wire_tree : (m : Msg) {old new : W} (r : Result (Unit {0}) ValueWriteError) {answer : Result (Unit {0}) Error} → answer ≡ answer_of r → Fits m
      → Writes g (canon m) old new r → WritesTree g g.takes_memory (Some m) old new answer
  unfolding HasTree spell
  wire_tree m {old} {new} r {answer} is fits w = subst (WritesTree g g.takes_memory (Some m) old new) (sym is) (wire_part (Fits m) (canon m) r fits w)

  -- a text and bytes that are too long
  pub text_too_long : (m : Bool) (s : List ℕ) (w : W) (e : Error) → IsTooLong e → 2 ^ 32 ≤ length s → WritesTree g {A = Unit {0}} m (Some (text s)) w w (Err e)
  unfolding HasTree fits_head
  text_too_long m s w e is le = part_refused g m (HasTree (Some (text s))) (spell (Some (text s))) w e is (λ h. let k = h.0 in omega (arith, k, le))

  pub bin_too_long : (m : Bool) (s : List ℕ) (w : W) (e : Error) → IsTooLong e → 2 ^ 32 ≤ length s → WritesTree g {A = Unit {0}} m (Some (bin s)) w w (Err e)
  unfolding HasTree fits_head
  bin_too_long m s w e is le = part_refused g m (HasTree (Some (bin s))) (spell (Some (bin s))) w e is (λ h. let k = h.0 in omega (arith, k, le))

-- a signed number of up to 64 bits fits
pub signed_fits : (z : ℤ) → FitsSigned w64 z → Fits (whole z)
unfolding fits_head
signed_fits (pos n) h = omega (arith, h)
signed_fits (negsuc n) h = omega (arith, h)

-- bytes, from what is known of each
pub bytes_from : (s : List ℕ) → ((i : ℕ) → get_or s i 0 < 256) → IsBytes s
bytes_from [] h = tt
bytes_from (b ∷ s) h = (h 0, bytes_from s (λ i. h (suc i)))

-- a number, after a conversion to 64 bits
pub narrowed : (w : Width) (z r : ℤ) → FitsSigned w z → FitsSigned w64 r → r ≡ to_z w (of_z w z) → to_z w64 (of_z w64 r) ≡ z
narrowed w z r f h e = to_z-of_z w64 r h ∙ e ∙ to_z-of_z w z f

module _ {W : Type 0} (g : Ghosts W) where
  pub number_as : {m : Bool} {old new : W} {r : Result (Unit {0}) Error} (z z' : ℤ) → z ≡ z' → WritesTree g m (Some (whole z)) old new r
      → WritesTree g m (Some (whole z')) old new r
  number_as {m} {old} {new} {r} z z' e w = subst (λ n. WritesTree g m (Some (whole n)) old new r) e w

  -- a signed number that the wire wrote, from its bits
  pub signed_tree : (z z' : ℤ) {old new : W} (r : Result (Unit {0}) ValueWriteError) {answer : Result (Unit {0}) Error} → z ≡ z' → FitsSigned w64 z'
      → answer ≡ answer_of r → Writes g (canon_head (Whole z)) old new r → WritesTree g g.takes_memory (Some (whole z')) old new answer
  signed_tree z z' {old} {new} r e f is w = wire_tree g (whole z') r is (signed_fits z' f) (subst (λ n. Writes g (canon_head (Whole n)) old new r) e w)

  -- a text, from its head and its bytes
  pub text_after : {m : Bool} {P : Type 0} {old new : W} {r : Result (Unit {0}) Error} → P → (s : List ℕ) → length s < 2 ^ 32 → IsBytes s
      → WritesPart g m P (canon_head (Text (length s)) ++ s) old new r → WritesTree g m (Some (text s)) old new r
  unfolding HasTree spell fits_head
  text_after p s lt b w = part_as g (λ t. t) (λ _. (lt, b)) (λ _. p) (λ _. refl) w

  -- an extension, from its head and its bytes
  pub ext_as : {m : Bool} {P : Type 0} {old new : W} {r : Result (Unit {0}) Error} (n : ℕ) (z z' : ℤ) → z ≡ z' → WritesPart g m P (ext_head n z) old new r
      → WritesPart g m P (ext_head n z') old new r
  ext_as {m} {P} {old} {new} {r} n z z' e w = subst (λ t. WritesPart g m P (ext_head n t) old new r) e w

  pub ext_tree : {m : Bool} {P : Type 0} {old new : W} {r : Result (Unit {0}) Error} → P → (tag : ℤ) (s : List ℕ) (n : ℕ) → n ≡ length s → n < 2 ^ 32
      → FitsSigned w8 tag → IsBytes s → WritesPart g m P (ext_head n tag ++ s) old new r → WritesTree g m (Some (extension tag s)) old new r
  unfolding HasTree spell fits_head
  ext_tree p tag s n e lt f b w = part_as g (λ t. t) (λ _. ((subst (λ k. k < 2 ^ 32) e lt, f), b)) (λ _. p) (λ _. ap (λ k. ext_head k tag ++ s) e) w

  pub ext_too_long : (m : Bool) (tag : ℤ) (s : List ℕ) (w : W) (e : Error) → IsTooLong e → 2 ^ 32 ≤ length s
      → WritesTree g {A = Unit {0}} m (Some (extension tag s)) w w (Err e)
  unfolding HasTree fits_head
  ext_too_long m tag s w e is le = part_refused g m (HasTree (Some (extension tag s))) (spell (Some (extension tag s))) w e is (λ h. let k = h.0.0
      in omega (arith, k, le))

-- ---- a number of 128 bits as two of 64

same_cons : {x y : ℕ} {xs ys : List ℕ} → x ≡ y → xs ≡ ys → x ∷ xs ≡ y ∷ ys
same_cons p q = rw (p, q) refl

high_half : (n : ℕ) (xs ys : List ℕ) → xs ≡ ys
    → to_be_bytes w64 (n / 2 ^ 64) ++ xs ≡ take 8 (to_be_bytes w128 n) ++ ys
high_half n xs ys rest =
    same_cons (omega arith) (same_cons (omega arith) (same_cons (omega arith) (same_cons (omega arith)
    (same_cons (omega arith) (same_cons (omega arith) (same_cons (omega arith) (same_cons (omega arith) rest)))))))

low_half : (n : ℕ) → to_be_bytes w64 (n % 2 ^ 64) ≡ drop 8 (to_be_bytes w128 n)
low_half n =
    same_cons (omega arith) (same_cons (omega arith) (same_cons (omega arith) (same_cons (omega arith)
    (same_cons (omega arith) (same_cons (omega arith) (same_cons (omega arith) (same_cons (omega arith) refl)))))))

-- the head of sixteen bytes, and the halves after it
pub wide_piece : (n : ℕ) → 0xc4 ∷ 16 ∷ (to_be_bytes w64 (n / 2 ^ 64) ++ to_be_bytes w64 (n % 2 ^ 64)) ≡ canon (bin (to_be_bytes w128 n))
unfolding canon_head
wide_piece n = ap (λ l. 0xc4 ∷ 16 ∷ l) (high_half n _ _ (low_half n))
