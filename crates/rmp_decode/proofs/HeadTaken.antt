-- What the beginning of a read takes, with or without something kept back.
use Rattle.std.proofs.Common.{◌≡◌, ◌∙◌, sym, ap, subst, refl, ℕ, ℤ, pos, ◌<◌, ◌≤◌, arith, inl, inr, List, [], ◌∷◌, Option, None, Some, true, false, Ok, Err}
use Rattle.std.specs.Io.KnownBytes.{Consumes, prepend_known}
use Rattle.std.proofs.KnownBytes.{Consumes-trans}
use Rattle.std.proofs.lemmas.Bool.{cases_lt}
use Rattle.std.proofs.lemmas.List.{append-nil}
use Rattle.rmp_wire.specs.declared.error.ValueReadError.{ValueReadError}
use Rattle.rmp_wire.specs.declared.error.ValueReadError.TheVariants as wire
use Rattle.rmp_wire.specs.declared.head.Head.{Head}
use Rattle.rmp_wire.specs.declared.head.Head.TheVariants.{Whole}
use Rattle.rmp_wire.specs.declared.marker.Marker.{Marker}
use Rattle.rmp_wire.specs.declared.source.Source.{Ghosts}
use Rattle.rmp_wire.specs.Canonical.{heads_of}
use Rattle.rmp_wire.specs.Heads.{IsHead, canon_head, fits_head}
use Rattle.rmp_wire.specs.declared.marker.Marker.TheVariants.{FixPos, U8}
use Rattle.rmp_wire.specs.Reading.{ReadsHead as WireHead, ReadsNext, FailsNext}
use Rattle.rmp_wire.specs.Taking.{byte_of, marker_of}
use Rattle.rmp_wire.proofs.Strict.{canon_in}
use Rattle.rmp_wire.proofs.NextReads.{fails_after}
use Rattle.rmp_decode.specs.Allowed.{FailsNextAllowed, FailsAfter}
use Rattle.rmp_decode.specs.BufferedHeads.{ConsumesHead}
use Rattle.rmp_decode.specs.Law.{ReadsHead}
use Rattle.rmp_decode.specs.ReadErrors.{error_of, head_error_of}
use Rattle.rmp_decode.specs.State.{left}
use Rattle.rmp_decode.specs.declared.deserializer.Deserializer.{Deserializer}
use Rattle.rmp_decode.specs.declared.deserializer.Kept.TheVariants.{Nothing, First, Number}
use Rattle.rmp_decode.specs.declared.deserializer.heads.HeadError.{HeadError}
use Rattle.rmp_decode.specs.declared.deserializer.heads.HeadError.TheVariants as heads
use Rattle.rmp_decode.specs.declared.error.Error.{Error}
use Rattle.rmp_decode.specs.declared.error.Error.TheVariants.{OutOfMemory, NotCanonical}
use Rattle.rmp_decode.proofs.Contents.{bare}
use Rattle.rmp_decode.proofs.Exactness.{starts_known, number_starts, ends_none, ends_wide, leaves_where_none, leaves_wide}
use Rattle.rmp_decode.proofs.NothingAccepted.{no_head, no_wide}

pub kept_first : (bs : List ℕ) (known : Option (List ℕ)) → Consumes (prepend_known bs known) known bs
kept_first bs None = tt
kept_first bs (Some xs) = refl

pub fits_byte : (n : ℕ) → n < 256 → fits_head (Whole (pos n))
unfolding fits_head
fits_byte n h = omega arith

-- no error of the wire is want of memory
no_memory : (e : ValueReadError) → error_of e ≡ OutOfMemory → ⊥
no_memory (wire.InvalidMarkerRead fault) q = absurd cc
no_memory (wire.InvalidDataRead fault) q = absurd cc
no_memory (wire.TypeMismatch marker) q = absurd cc

module _ {R C : Type 0} (g : Ghosts R) (old new : Deserializer R C) (fresh : old.failed ≡ false) (failed : new.failed ≡ true) (clean : new.kept ≡ Nothing)
    (config : new.config ≡ old.config) (room : new.room ≡ old.room) (limit : new.limit ≡ old.limit) (strict : new.strict ≡ old.strict) where
  -- nothing was kept back, and a head was taken
  pub head_next : (p : Marker × Head) → old.kept ≡ Nothing → (r : ReadsNext g old.reader new.reader (Ok p))
      → heads_of old.strict p.1 (byte_of p.0 ∷ r.ok.rest) → ReadsHead g old new (Ok p)
  head_next p k r i = record {
    ok = record {
      bytes = byte_of p.0 ∷ r.ok.rest;
      takes = rw (bare g old k, bare g new clean) r.ok.taken;
      goes_on = record
          { more = byte_of p.0 ∷ r.ok.rest; whole = rw k refl };
      is_head = i;
    };
    marked = rw (bare g old k) (starts_known _ p.0 p.1 (byte_of p.0) r.ok.rest (g.ahead old.reader) (g.ahead new.reader) r.ok.taken (sym r.ok.is_marker) i);
    clean = clean;
    fresh = fresh;
    sound = r.sound;
    err = λ _. tt;
    ends = λ _. tt;
    leaves = λ _. tt;
    memory = tt;
    failed = failed;
    before = λ f. absurd cc;
    stays = record { config = config; room = room; limit = limit; strict = strict; place = r.place };
  }

  no_head_next : (e : ValueReadError) (f : Error) → f ≡ error_of e → old.kept ≡ Nothing → ReadsNext g old.reader new.reader (Err e)
      → ReadsHead g old new (Err f)
  no_head_next e f i k r = record {
    ok = tt;
    marked = tt;
    clean = tt;
    fresh = tt;
    sound = tt;
    err = λ o n q. no_head _ (left g old) (rw (bare g old k) (r.err.none q));
    ends = λ o. rw (bare g old k, i) (ends_none _ (g.ahead old.reader) (g.ahead new.reader) _ _ e r.err);
    leaves = λ o q. rw (bare g old k, bare g new clean) (leaves_where_none (g.ahead old.reader) (g.ahead new.reader) _ _ e r.err q);
    memory = λ m. no_memory e (sym i ∙ m);
    failed = failed;
    before = λ f. absurd cc;
    stays = record { config = config; room = room; limit = limit; strict = strict; place = r.place };
  }

  -- a head's first byte was kept back
  pub head_after : (b : ℕ) (m : Marker) (h : Head) → m ≡ marker_of b → byte_of m ≡ b → old.kept ≡ First b → (r : WireHead g m old.reader new.reader (Ok h))
      → heads_of old.strict h (byte_of m ∷ r.ok.rest) → ReadsHead g old new (Ok (m, h))
  head_after b m h i w k r j = record {
    ok = record {
      bytes = byte_of m ∷ r.ok.rest;
      takes = rw (k, bare g new clean, w) (Consumes-trans _ (g.ahead old.reader) _ (b ∷ []) r.ok.rest (kept_first (b ∷ []) (g.ahead old.reader)) r.ok.taken);
      goes_on = record { more = r.ok.rest; whole = rw (k, w) refl };
      is_head = j;
    };
    marked = rw k (starts_known _ m h b r.ok.rest (prepend_known (b ∷ []) (g.ahead old.reader)) (g.ahead new.reader)
        (Consumes-trans _ (g.ahead old.reader) _ (b ∷ []) r.ok.rest (kept_first (b ∷ []) (g.ahead old.reader)) r.ok.taken) i
        (subst (λ z. heads_of old.strict h (z ∷ r.ok.rest)) w j));
    clean = clean;
    fresh = fresh;
    sound = r.sound;
    err = λ _. tt;
    ends = λ _. tt;
    leaves = λ _. tt;
    memory = tt;
    failed = failed;
    before = λ f. absurd cc;
    stays = record { config = config; room = room; limit = limit; strict = strict; place = r.place };
  }

  no_head_after : (b : ℕ) (m : Marker) (e : ValueReadError) (f : Error) → byte_of m ≡ b → f ≡ error_of e → old.kept ≡ First b
      → WireHead g m old.reader new.reader (Err e) → ReadsHead g old new (Err f)
  no_head_after b m e f w i k r = record {
    ok = tt;
    marked = tt;
    clean = tt;
    fresh = tt;
    sound = tt;
    err = λ o n q. no_head _ (left g old) (rw k (fails.none q));
    ends = λ o. rw (k, i) (ends_none _ (prepend_known (b ∷ []) (g.ahead old.reader)) (g.ahead new.reader) _ _ e fails);
    leaves = λ o q. rw (k, bare g new clean) (leaves_where_none (prepend_known (b ∷ []) (g.ahead old.reader)) (g.ahead new.reader) _ _ e fails q);
    memory = λ m. no_memory e (sym i ∙ m);
    failed = failed;
    before = λ f. absurd cc;
    stays = record { config = config; room = room; limit = limit; strict = strict; place = r.place };
  }
    where
      fails : FailsNext (prepend_known (b ∷ []) (g.ahead old.reader)) (g.ahead new.reader) (g.faults old.reader) (g.faults new.reader) e
      fails = fails_after m _ (g.ahead old.reader) _ _ (g.faults old.reader) _ e
          (subst (λ z. Consumes (prepend_known (b ∷ []) (g.ahead old.reader)) (g.ahead old.reader) (z ∷ [])) (sym w)
          (kept_first (b ∷ []) (g.ahead old.reader))) refl r.reserved r.err

  -- a head was taken that isn't allowed
  wide : (b : ℕ) (following : List ℕ) (h : Head) → Consumes (left g old) (g.ahead new.reader) (b ∷ following) → IsHead h (b ∷ following)
      → (heads_of old.strict h (b ∷ following) → ⊥) → g.faults new.reader ≡ g.faults old.reader → g.place new.reader ≡ g.place old.reader
      → ReadsHead g old new (Err NotCanonical)
  wide b following h t i n same place = record {
    ok = tt;
    marked = tt;
    clean = tt;
    fresh = tt;
    sound = tt;
    err = λ _ _ _. no_wide _ (left g old) (g.ahead new.reader) (b ∷ following) h t i n;
    ends = λ _. ends_wide _ _ _ (left g old) (g.ahead new.reader) h b following t i n same;
    leaves = λ _ _. rw (bare g new clean) (leaves_wide (left g old) (g.ahead new.reader) h b following t i);
    memory = λ m. absurd cc;
    failed = failed;
    before = λ f. absurd cc;
    stays = record { config = config; room = room; limit = limit; strict = strict; place = place };
  }

  head_wide : (p : Marker × Head) → old.kept ≡ Nothing → ReadsNext g old.reader new.reader (Ok p)
      → ((rest : List ℕ) → heads_of old.strict p.1 (byte_of p.0 ∷ rest) → ⊥) → ReadsHead g old new (Err NotCanonical)
  head_wide p k r n = wide (byte_of p.0) r.ok.rest p.1 (rw (bare g old k) r.ok.taken) r.ok.is_head (n r.ok.rest) r.sound r.place

  wide_after : (b : ℕ) (m : Marker) (h : Head) → byte_of m ≡ b → old.kept ≡ First b → WireHead g m old.reader new.reader (Ok h)
      → ((rest : List ℕ) → heads_of old.strict h (byte_of m ∷ rest) → ⊥) → ReadsHead g old new (Err NotCanonical)
  wide_after b m h w k r n =
      wide (byte_of m) r.ok.rest h (rw (k, w) (Consumes-trans _ (g.ahead old.reader) _ (b ∷ []) r.ok.rest (kept_first (b ∷ []) (g.ahead old.reader))
      r.ok.taken)) r.ok.is_head (n r.ok.rest) r.sound r.place

  -- nothing was kept back, and no head was taken that may be read
  pub next_refused : (e : HeadError) (f : Error) → f ≡ head_error_of e → old.kept ≡ Nothing → FailsNextAllowed g old.strict old.reader new.reader e
      → ReadsHead g old new (Err f)
  next_refused (heads.InvalidMarkerRead fault) f i k r = no_head_next (wire.InvalidMarkerRead fault) f i k r
  next_refused (heads.InvalidDataRead fault) f i k r = no_head_next (wire.InvalidDataRead fault) f i k r
  next_refused (heads.TypeMismatch marker) f i k r = no_head_next (wire.TypeMismatch marker) f i k r
  next_refused heads.NotCanonical f i k r = subst (λ z. ReadsHead g old new (Err z)) (sym i) (head_wide r.0 k r.1 r.2)

  -- a head's first byte was kept back, and its rest may not be read
  pub rest_refused : (b : ℕ) (m : Marker) (e : HeadError) (f : Error) → byte_of m ≡ b → f ≡ head_error_of e → old.kept ≡ First b
      → FailsAfter g old.strict m old.reader new.reader e → ReadsHead g old new (Err f)
  rest_refused b m (heads.InvalidMarkerRead fault) f w i k r = no_head_after b m (wire.InvalidMarkerRead fault) f w i k r
  rest_refused b m (heads.InvalidDataRead fault) f w i k r = no_head_after b m (wire.InvalidDataRead fault) f w i k r
  rest_refused b m (heads.TypeMismatch marker) f w i k r = no_head_after b m (wire.TypeMismatch marker) f w i k r
  rest_refused b m heads.NotCanonical f w i k r = subst (λ z. ReadsHead g old new (Err z)) (sym i) (wide_after b m r.0 w k r.1 r.2)

  -- a number was kept back, which is a message
  pub head_number : (m : Marker) (z : ℤ) (n : ℕ) → z ≡ pos n → n < 256 → (n < 128 → m ≡ FixPos n) → (128 ≤ n → m ≡ U8) → old.kept ≡ Number n
      → new.reader ≡ old.reader → ReadsHead g old new (Ok (m, Whole z))
  head_number m z n e l small wide k q = rw e (record {
    ok = record {
      bytes = canon_head (Whole (pos n));
      takes = rw (k, bare g new clean, q) (kept_first (canon_head (Whole (pos n))) (g.ahead old.reader));
      goes_on = record { more = []; whole = rw k (sym (append-nil (canon_head (Whole (pos n))))) };
      is_head = canon_in old.strict (Whole (pos n)) (fits_byte n l);
    };
    marked = rw k (number_starts _ n l (fits_byte n l) m small wide (g.ahead old.reader));
    clean = clean;
    fresh = fresh;
    sound = ap g.faults q;
    err = λ _. tt;
    ends = λ _. tt;
    leaves = λ _. tt;
    memory = tt;
    failed = failed;
    before = λ f. absurd cc;
    stays = record { config = config; room = room; limit = limit; strict = strict; place = ap g.place q };
  })

  -- the same under its marker
  pub number_taken : (n : ℕ) → n < 256 → old.kept ≡ Number n → new.reader ≡ old.reader → ConsumesHead g (Whole (pos n)) old new
  number_taken n l k q = elim (cases_lt n 128) [
    | inl lt ↦ record { marker = FixPos n; begun = head_number (FixPos n) (pos n) n refl l (λ _. refl) (λ ge. absurd (omega (arith, lt, ge))) k q }
    | inr ge ↦ record { marker = U8; begun = head_number U8 (pos n) n refl l (λ lt. absurd (omega (arith, lt, ge))) (λ _. refl) k q }
  ]
