-- The next message of a source, or its end.
use Rattle.std.proofs.Common.{◌≡◌, ◌≢◌, ◌∙◌, ◌<◌, ◌≤◌, max, sym, ap, subst, refl, ℕ, arith, List, [], ◌∷◌, ◌++◌, length, take, slice_index_or, append-nil}
use Rattle.std.proofs.Common.{Option, None, Some, Bool, false, Result, Ok, Err}
use Rattle.std.specs.Iterator.{IsFinite, MakesProgress, count_unless, size}
use Rattle.std.specs.Io.KnownBytes.{Consumes, prepend_known}
use Rattle.std.proofs.KnownBytes.{Keeps-refl}
use Rattle.std.proofs.lemmas.List.{length-append}
use Rattle.rmp_wire.specs.declared.source.Source.{Ghosts}
use Rattle.rmp_wire.specs.Canonical.{SpellsAs}
use Rattle.rmp_wire.specs.Msg.{Msg}
use Rattle.rmp_wire.specs.Sources.{IsFront}
use Rattle.rmp_wire.specs.Spelling.{head_of}
use Rattle.rmp_decode.specs.Law.{Lawful, Readable, Refuses}
use Rattle.rmp_decode.specs.Messages.{messages_left, most_messages}
use Rattle.rmp_decode.specs.Next.{IsThere, SeesNext}
use Rattle.rmp_decode.specs.State.{faults_of, kept_bytes, left, room_of, Stays}
use Rattle.rmp_decode.specs.declared.deserializer.Deserializer.{Deserializer}
use Rattle.rmp_decode.specs.declared.deserializer.Kept.TheVariants.{Nothing, First, Number}
use Rattle.rmp_decode.specs.declared.deserializer.messages.Messages.{Messages}
use Rattle.rmp_decode.specs.declared.error.Error.{Error}
use Rattle.rmp_decode.proofs.ContentErrors.{head_byte}
use Rattle.rmp_decode.proofs.Contents.{bare}
use Rattle.rmp_decode.proofs.Laws.{stays_refl, stays_then}
use Rattle.rmp_decode.proofs.NothingAccepted.{opened}
use Rattle.rmp_decode.proofs.Options.{kept_byte, kept_refuses, number_other}

-- buffered bytes are left
front_there : (front : List ℕ) (known : Option (List ℕ)) → IsFront front known → front ≢ [] → IsThere known
front_there front None f n = tt
front_there [] (Some xs) f n = absurd (n refl)
front_there (b ∷ front) (Some xs) f n = λ e. absurd (let q : ◌≡◌ {A = List ℕ} [] (b ∷ (front ++ f.0)) = sym e ∙ f.1 in cc)

-- what was kept back is left
kept_there : (b : ℕ) (following kept : List ℕ) (known : Option (List ℕ)) → kept ≡ b ∷ following → IsThere (prepend_known kept known)
kept_there b following kept None k = tt
kept_there b following kept (Some xs) k = λ e. absurd (let q : ◌≡◌ {A = List ℕ} [] (b ∷ (following ++ xs)) = sym e ∙ ap (λ z. z ++ xs) k in cc)

-- a byte that was taken was left
taken_there : (b : ℕ) (known k : Option (List ℕ)) → Consumes known k (b ∷ []) → IsThere known
taken_there b None k c = tt
taken_there b (Some xs) None c = absurd c
taken_there b (Some xs) (Some ys) c = λ e. absurd (let q : ◌≡◌ {A = List ℕ} [] (b ∷ ys) = sym e ∙ c in cc)

-- the byte that was pulled into room for one
pub pulled_byte : (n : ℕ) (buf : List ℕ) (known k : Option (List ℕ)) → length buf ≡ 1 → n ≤ length buf → n ≢ 0 → Consumes known k (take n buf)
    → Consumes known k (slice_index_or buf 0 0 ∷ [])
pulled_byte n [] known k l b z c = absurd (omega (arith, l))
pulled_byte n (x ∷ []) known k l b z c = let one : n ≡ 1 = omega (arith, b, z) in subst (λ i. Consumes known k (take i (x ∷ []))) one c
pulled_byte n (x ∷ (y ∷ ys)) known k l b z c = absurd (omega (arith, l))

module _ {R C : Type 0} (g : Ghosts R) (old : Deserializer R C) (fresh : old.failed ≡ false) where
  -- the reader stays where the first byte is there
  sees_there : IsThere (left g old) → SeesNext g old old
  sees_there t = record {
    there = t;
    same = Keeps-refl _;
    goes_on = record { more = []; whole = sym (append-nil _) };
    fresh = fresh;
    ready = fresh;
    sound = refl;
    stays = stays_refl g old;
  }

  pub sees_front : (front : List ℕ) → old.kept ≡ Nothing → IsFront front (g.ahead old.reader) → front ≢ [] → SeesNext g old old
  sees_front front k f n = sees_there (rw (bare g old k) (front_there front _ f n))

  pub sees_number : (n : ℕ) → old.kept ≡ Number n → SeesNext g old old
  sees_number n k =
      let o = number_other old.kept n k in
      sees_there (kept_there o.byte o.following (kept_bytes old.kept) (g.ahead old.reader) o.is)

  -- a byte was pulled, and is kept back
  pub sees_pulled : (new : Deserializer R C) (b : ℕ) → old.kept ≡ Nothing → new.kept ≡ First b → new.failed ≡ false
      → Consumes (g.ahead old.reader) (g.ahead new.reader) (b ∷ []) → faults_of g new ≡ faults_of g old → Stays g old new → SeesNext g old new
  sees_pulled new b k q r c s t = record {
    there = rw (bare g old k) (taken_there b _ _ c);
    same = rw (bare g old k, q) (kept_byte b _ _ c);
    goes_on = record { more = kept_bytes new.kept; whole = rw k refl };
    fresh = fresh;
    ready = r;
    sound = s;
    stays = t;
  }

-- where a message's first byte is there, the read of the message is that of the reader which found it
module _ {R C V : Type 0} (g : Ghosts R) (reads : Msg → V → Type 0) (old mid new : Deserializer R C) (s : SeesNext g old mid) where
  pub next_refused : (e : Error) → Lawful g reads mid new (Err e) → Lawful g reads old new (Err e)
  next_refused e l = record {
    ok = tt;
    ready = tt;
    clean = tt;
    sound = tt;
    err = λ _ n k.
        let r : Refuses (SpellsAs mid.strict) (Readable reads) (room_of mid) (left g mid) = l.err s.ready n (k ∙ sym s.sound) in
        kept_refuses _ (Readable reads) (room_of old) _ _ s.same
        (subst (λ t. Refuses (SpellsAs old.strict) (Readable reads) (max 1 t) (left g mid)) s.stays.room
        (subst (λ t. Refuses (SpellsAs t) (Readable reads) (room_of mid) (left g mid)) s.stays.strict r));
    failed = l.failed;
    before = λ f. absurd (let o = s.fresh in cc);
    stays = stays_then g old mid new s.stays l.stays;
  }

-- a spelling is at least one byte
spelled_some : (s : Bool) (b : List ℕ) (m : Msg) → SpellsAs s b m → 0 < length b
spelled_some s b m i =
    let o = opened m b i in
    let h = head_byte s (head_of m) o.head o.is_head in
    let whole : b ≡ h.0 ∷ (h.1 ++ o.rest) = o.split ∙ ap (λ z. z ++ o.rest) h.2 in
    subst (λ z. 0 < length z) (sym whole) (omega arith)

-- fewer messages are to come after bytes that were taken
fewer_messages : (known k : Option (List ℕ)) (bytes : List ℕ) → Consumes known k bytes → 0 < length bytes → IsFinite (most_messages known)
    → IsFinite (most_messages k) × (size (most_messages k) < size (most_messages known))
fewer_messages None k bytes c l f = absurd f
fewer_messages (Some xs) None bytes c l f = absurd c
fewer_messages (Some xs) (Some ys) bytes c l f = (tt, let n = ap length c ∙ length-append bytes ys in omega (arith, n, l))

-- a message that was read brings the iterator nearer to its end
pub message_taken : {R C V : Type 0} (g : Ghosts R) (reads : Msg → V → Type 0) (s t : Messages V R C) (v : V) (can : Messages V R C → Type 0) → can t
    → s.done ≡ false → t.done ≡ false → Lawful g reads s.de.now t.de.now (Ok v)
    → MakesProgress {A = Result V Error} can (messages_left g) s (Some (Ok v)) t
message_taken g reads s t v can may going on l = record {
  on = λ f.
      let before = most_messages (left g s.de.now) in
      let after = most_messages (left g t.de.now) in
      let less = fewer_messages _ _ l.ok.bytes l.ok.takes (spelled_some _ l.ok.bytes l.ok.tree l.ok.spelled)
      (subst (λ z. IsFinite (count_unless z before)) going f) in (
        may,
        subst (λ z. IsFinite (count_unless z after)) (sym on) less.0,
        subst (λ z. size (count_unless z after) < size (count_unless s.done before)) (sym on)
            (subst (λ z. size after < size (count_unless z before)) (sym going) less.1),
      );
  keeps = may;
  rests = λ _. tt;
}
