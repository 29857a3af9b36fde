-- Options.
use Rattle.std.proofs.Common.{◌≡◌, ◌≢◌, ◌⊎◌, ◌∙◌, ◌<◌, max, sym, ap, subst, refl, ℕ, pos, nat_lt, arith, List, [], ◌∷◌, ◌++◌}
use Rattle.std.proofs.Common.{append_assoc, append-nil, Option, None, Some, IfSome, Bool, true, false, Ok, Err, inl, inr}
use Rattle.std.specs.Prelude.{if◌then◌else◌}
use Rattle.std.specs.Io.KnownBytes.{Consumes, IsAtEnd, Keeps, prepend_known}
use Rattle.std.specs.declared.io.ErrorKind.TheVariants.{UnexpectedEof}
use Rattle.rmp_wire.specs.declared.error.IoFault.{IoFault}
use Rattle.rmp_wire.specs.declared.marker.Marker.{Marker}
use Rattle.rmp_wire.specs.Faults.{fault_kind}
use Rattle.rmp_wire.specs.Reading.{FailsMarker, TakesMarker}
use Rattle.rmp_wire.specs.Sources.{IsFront, Skips}
use Rattle.rmp_wire.specs.Spelling.{head_of}
use Rattle.rmp_wire.specs.Taking.{byte_of}
use Rattle.rmp_wire.proofs.Markers.{byte_of-marker_of}
use Rattle.rmp_decode.specs.Exact.{IsMarkerEnd}
use Rattle.rmp_decode.specs.declared.deserializer.Kept.{Kept}
use Rattle.rmp_decode.specs.declared.deserializer.Kept.TheVariants.{Nothing, First, Number}
use Rattle.rmp_decode.specs.declared.error.Error.TheVariants.{InvalidMarkerRead}
use Rattle.rmp_decode.proofs.BufferedHeads.{bytes_consumed}
use Rattle.rmp_decode.proofs.ContentErrors.{head_byte}
use Rattle.rmp_decode.proofs.Contents.{bare}
use Rattle.rmp_decode.proofs.HeadTaken.{kept_first}
use Rattle.rmp_wire.specs.declared.head.Head.TheVariants.{Nil, Whole}
use Rattle.rmp_wire.specs.declared.source.Source.{Ghosts}
use Rattle.rmp_wire.specs.Canonical.{SpellsAs}
use Rattle.rmp_wire.specs.Heads.{IsHead, canon_head, fits_head}
use Rattle.rmp_wire.specs.Msg.{Msg, nil, depth}
use Rattle.rmp_wire.proofs.Strict.{any_width, canon_in}
use Rattle.rmp_decode.specs.Law.{Begins, GoesOn, Lawful, NoMessage, Readable, Refuses}
use Rattle.rmp_decode.specs.Options.{BeginsOther, FailsToSee, IsNil, IsOption, SeesOther, ToldOther}
use Rattle.rmp_decode.specs.State.{faults_of, kept_bytes, left, room_of, Stays}
use Rattle.rmp_decode.specs.declared.deserializer.Deserializer.{Deserializer}
use Rattle.rmp_decode.specs.declared.error.Error.{Error}
use Rattle.rmp_decode.proofs.Laws.{stays_refl, stays_then}
use Rattle.rmp_decode.proofs.NothingAccepted.{opened, refuses_narrower, refuses_none}

-- nil is one byte
nil_byte : (s : Bool) (b : List ℕ) → SpellsAs s b nil → b ≡ 0xc0 ∷ []
unfolding IsHead
nil_byte s b i = any_width s Nil b i

-- bytes that begin otherwise aren't nil
other_byte : (s : Bool) (kept bytes more x rest : List ℕ) (tree : Msg) → BeginsOther kept → bytes ++ rest ≡ (kept ++ more) ++ x → SpellsAs s bytes tree
    → tree ≢ nil
other_byte s kept bytes more x rest tree b e i n =
    let is = nil_byte s bytes (subst (SpellsAs s bytes) n i) in
    let front : 0xc0 ∷ rest ≡ b.byte ∷ ((b.following ++ more) ++ x) = ap (λ z. z ++ rest) (sym is) ∙ e ∙ ap (λ z. (z ++ more) ++ x) b.is in
    b.other (let first : 0xc0 ≡ b.byte = cc in sym first)

-- none of the bytes that are left spells nil at the front
none_nil : (s : Bool) (kept : List ℕ) (known : Option (List ℕ)) (room : ℕ) (P : Msg → Type 0) → BeginsOther kept
    → Refuses (SpellsAs s) P room (prepend_known kept known) → Refuses (SpellsAs s) (λ m. (m ≡ nil) ⊎ P m) room (prepend_known kept known)
unfolding Refuses
none_nil s kept None room P b r = tt
none_nil s kept (Some xs) room P b r = λ a. elim a.holds [
  | inl n ↦ other_byte s kept a.bytes [] xs a.rest a.tree b (sym a.front ∙ ap (λ z. z ++ xs) (sym (append-nil kept))) a.spelled n
  | inr p ↦ r (record { bytes = a.bytes; rest = a.rest; tree = a.tree; front = a.front; spelled = a.spelled; fits = a.fits; holds = p })
]

-- the same where the bytes are told
told_byte : (s : Bool) (xs bytes rest : List ℕ) (tree : Msg) → BeginsOther xs → xs ≡ bytes ++ rest → SpellsAs s bytes tree → tree ≢ nil
told_byte s xs bytes rest tree b e i = other_byte s xs bytes [] [] rest tree b (sym e ∙ sym (append-nil xs) ∙ sym (append-nil (xs ++ []))) i

told_tree : (s : Bool) (known k : Option (List ℕ)) (bytes : List ℕ) (tree : Msg) → ToldOther known → Consumes known k bytes → SpellsAs s bytes tree
    → tree ≢ nil
told_tree s None k bytes tree b c i = absurd b
told_tree s (Some xs) None bytes tree b c i = absurd c
told_tree s (Some xs) (Some ys) bytes tree b c i = told_byte s xs bytes ys tree b c i

told_none_nil : (s : Bool) (known : Option (List ℕ)) (room : ℕ) (P : Msg → Type 0) → ToldOther known → Refuses (SpellsAs s) P room known
    → Refuses (SpellsAs s) (λ m. (m ≡ nil) ⊎ P m) room known
unfolding Refuses
told_none_nil s None room P b r = absurd b
told_none_nil s (Some xs) room P b r = λ a. elim a.holds [
  | inl n ↦ told_byte s xs a.bytes a.rest a.tree b a.front a.spelled n
  | inr p ↦ r (record { bytes = a.bytes; rest = a.rest; tree = a.tree; front = a.front; spelled = a.spelled; fits = a.fits; holds = p })
]

-- a tree of an option is nil, or one of its values
option_trees : {V : Type 0} (reads : Msg → V → Type 0) (m : Msg) → Readable (IsOption reads) m → (m ≡ nil) ⊎ Readable reads m
option_trees reads m (None, r) = inl r
option_trees reads m (Some v, r) = inr (v, r.1)

-- the canonical head of a number from 0 on begins with no c0
either_begins : (b : Bool) (x y : List ℕ) → (b ≡ true → BeginsOther x) → (b ≡ false → BeginsOther y) → BeginsOther (if b then x else y)
either_begins true x y f g = f refl
either_begins false x y f g = g refl

begins_with : (b : ℕ) (following : List ℕ) → b ≢ 0xc0 → BeginsOther (b ∷ following)
begins_with b following n = record { byte = b; following = following; is = refl; other = n }

number_begins : (n : ℕ) → BeginsOther (canon_head (Whole (pos n)))
unfolding canon_head
number_begins n =
    either_begins (nat_lt n 128) _ _ (λ t. begins_with n [] (λ e. absurd (let u : nat_lt 0xc0 128 ≡ true = subst (λ k. nat_lt k 128 ≡ true) e t in cc)))
    (λ _. either_begins (nat_lt n 256) _ _ (λ _. begins_with 0xcc _ (λ e. absurd (omega (arith, e))))
    (λ _. either_begins (nat_lt n 65536) _ _ (λ _. begins_with 0xcd _ (λ e. absurd (omega (arith, e))))
    (λ _. either_begins (nat_lt n 4294967296) _ _ (λ _. begins_with 0xce _ (λ e. absurd (omega (arith, e))))
    (λ _. begins_with 0xcf _ (λ e. absurd (omega (arith, e)))))))

-- at the end no message begins
at_end_none : (s : Bool) (known : Option (List ℕ)) → IsAtEnd known → NoMessage s known
unfolding NoMessage
at_end_none s None e = tt
at_end_none s (Some xs) e = λ m b r q i.
    let o = opened m b i in
    let h = head_byte s (head_of m) o.head o.is_head in
    let front = h.2 in
    let split = o.split in
    let empty : ◌≡◌ {A = List ℕ} [] (h.0 ∷ (h.1 ++ (o.rest ++ r))) = sym e ∙ q ∙ ap (λ z. z ++ r) (split ∙ ap (λ z. z ++ o.rest) front)
    ∙ ap (λ z. h.0 ∷ z) (append_assoc h.1 o.rest r) in
    absurd cc

at_end_is : (fault : IoFault) (known : Option (List ℕ)) → IsAtEnd known → fault_kind fault ≡ UnexpectedEof
    → IfSome known (λ xs. (xs ≡ []) × IsMarkerEnd (InvalidMarkerRead fault))
at_end_is fault None e k = tt
at_end_is fault (Some xs) e k = (e, k)

-- what was left is still left
pub kept_consumes : (a b c : Option (List ℕ)) (bs : List ℕ) → Keeps a b → Consumes b c bs → Consumes a c bs
kept_consumes None b c bs p q = tt
kept_consumes (Some x) None c bs p q = absurd p
kept_consumes (Some x) (Some y) None bs p q = absurd q
kept_consumes (Some x) (Some y) (Some z) bs p q = sym p ∙ q

pub kept_refuses : (spells : List ℕ → Msg → Type 0) (P : Msg → Type 0) (room : ℕ) (a b : Option (List ℕ)) → Keeps a b → Refuses spells P room b
    → Refuses spells P room a
unfolding Refuses
kept_refuses spells P room None b p r = tt
kept_refuses spells P room (Some x) None p r = absurd p
kept_refuses spells P room (Some x) (Some y) p r = subst (λ z. Begins spells P room z → ⊥) p r

kept_same : (a : Option (List ℕ)) → Keeps a a
kept_same None = tt
kept_same (Some x) = refl

-- a byte that was taken is kept back
pub kept_byte : (n : ℕ) (a b : Option (List ℕ)) → Consumes a b (n ∷ []) → Keeps a (prepend_known (n ∷ []) b)
kept_byte n None b c = tt
kept_byte n (Some x) None c = absurd c
kept_byte n (Some x) (Some y) c = sym c

-- the byte that was taken, from its marker
marker_byte : (m : Marker) (n : ℕ) (a b : Option (List ℕ)) → TakesMarker m a b → n ≡ byte_of m → Consumes a b (n ∷ [])
marker_byte m n a b t e = subst (λ k. Consumes a b (k ∷ [])) (sym (e ∙ ap byte_of t.is_marker ∙ byte_of-marker_of t.byte t.is_byte)) t.taken

-- the next byte is told
front_told : (b : ℕ) (front rest : List ℕ) (known : Option (List ℕ)) → IsFront front known → front ≡ b ∷ rest → b ≢ 0xc0 → known ≢ None → ToldOther known
front_told b front rest None f e n t = absurd (t refl)
front_told b front rest (Some xs) f e n t = record { byte = b; following = rest ++ f.0; is = f.1 ∙ ap (λ t. t ++ f.0) e; other = n }

module _ {R C : Type 0} (g : Ghosts R) (old new : Deserializer R C) (fresh : old.failed ≡ false) (ready : new.failed ≡ false) (stays : Stays g old new)
    (sound : faults_of g new ≡ faults_of g old) where
  nil_taken : new.kept ≡ Nothing → Consumes (left g old) (left g new) (0xc0 ∷ []) → GoesOn (kept_bytes old.kept) (0xc0 ∷ []) → Lawful g IsNil old new (Ok tt)
  unfolding canon_head fits_head
  nil_taken k c o = record {
    ok = record { bytes = 0xc0 ∷ []; tree = nil; takes = c; goes_on = o; spelled = canon_in old.strict Nil tt; fits = omega arith; value = refl };
    ready = ready;
    clean = k;
    sound = sound;
    err = λ _. tt;
    failed = tt;
    before = λ f. absurd cc;
    stays = stays;
  }

  -- nil was taken, from the source or where it had been kept back
  pub nil_next : (m : Marker) (n : ℕ) → old.kept ≡ Nothing → new.kept ≡ Nothing → TakesMarker m (g.ahead old.reader) (g.ahead new.reader) → n ≡ byte_of m
      → n ≡ 0xc0 → Lawful g IsNil old new (Ok tt)
  nil_next m n k q t e z = nil_taken q (rw (bare g old k, bare g new q)
      (subst (λ b. Consumes (g.ahead old.reader) (g.ahead new.reader) (b ∷ [])) z (marker_byte m n _ _ t e)))
      (record { more = 0xc0 ∷ []; whole = rw k refl })

  pub nil_front : (b : ℕ) (front : List ℕ) → old.kept ≡ Nothing → new.kept ≡ Nothing → IsFront front (g.ahead old.reader)
      → (rest : List ℕ) × (front ≡ b ∷ rest) → b ≡ 0xc0 → Skips 1 (g.ahead old.reader) (g.ahead new.reader) → Lawful g IsNil old new (Ok tt)
  nil_front b front k q f e z c = nil_taken q (rw (bare g old k, bare g new q)
      (subst (λ t. Consumes (g.ahead old.reader) (g.ahead new.reader) (t ∷ [])) z (bytes_consumed 1 (b ∷ []) front _ _ f e refl c)))
      (record { more = 0xc0 ∷ []; whole = rw k refl })

  pub nil_kept : (b : ℕ) → old.kept ≡ First b → b ≡ 0xc0 → new.kept ≡ Nothing → new.reader ≡ old.reader → Lawful g IsNil old new (Ok tt)
  nil_kept b k z q r = nil_taken q (rw (bare g new q, r, k, z) (kept_first (0xc0 ∷ []) (g.ahead old.reader))) (record { more = []; whole = rw (k, z) refl })

  -- another message is there, whose first byte is kept back now, or was before
  pub sees_next : (m : Marker) (n : ℕ) → old.kept ≡ Nothing → new.kept ≡ First n → TakesMarker m (g.ahead old.reader) (g.ahead new.reader) → n ≡ byte_of m
      → n ≢ 0xc0 → SeesOther g old new
  sees_next m n k q t e z = record {
    ready = ready;
    same = rw (bare g old k, q) (kept_byte n _ _ (marker_byte m n _ _ t e));
    goes_on = record { more = kept_bytes new.kept; whole = rw k refl };
    begins = record { byte = n; following = []; is = rw q refl; other = z };
    sound = sound;
    stays = stays;
  }

-- the next message is another
pub other_front : {R C : Type 0} (g : Ghosts R) (d : Deserializer R C) (b : ℕ) (front : List ℕ) → d.kept ≡ Nothing → IsFront front (g.ahead d.reader)
    → (rest : List ℕ) × (front ≡ b ∷ rest) → b ≢ 0xc0 → g.ahead d.reader ≢ None → ToldOther (left g d)
other_front g d b front k f e n t = rw (bare g d k) (front_told b front e.0 _ f e.1 n t)

-- what was kept back stays
pub sees_kept : {R C : Type 0} (g : Ghosts R) (old : Deserializer R C) → old.failed ≡ false → BeginsOther (kept_bytes old.kept) → SeesOther g old old
sees_kept g old f b = record {
  ready = f;
  same = kept_same _;
  goes_on = record { more = []; whole = sym (append-nil _) };
  begins = b;
  sound = refl;
  stays = stays_refl g old;
}

pub number_other : (k : Kept) (n : ℕ) → k ≡ Number n → BeginsOther (kept_bytes k)
number_other k n e = rw e (number_begins n)

-- there is no first byte
pub sees_none : {R C : Type 0} (g : Ghosts R) (old new : Deserializer R C) (fault : IoFault) → old.failed ≡ false → new.failed ≡ true → old.kept ≡ Nothing
    → Stays g old new → FailsMarker (g.ahead old.reader) (g.ahead new.reader) (faults_of g old) (faults_of g new) fault
    → FailsToSee g old new (InvalidMarkerRead fault)
sees_none g old new fault o f k s m = record {
  failed = f;
  before = λ h. absurd cc;
  err = λ _ _ q. at_end_none old.strict _ (rw (bare g old k) (m.none_ahead q));
  ends = λ _. rw (bare g old k) (λ q. at_end_is fault _ (m.none_ahead q) (m.end q), record { counts = m.counts; told = λ _. tt });
  memory = λ h. absurd cc;
  stays = s;
}

module _ {R C V : Type 0} (g : Ghosts R) (reads : Msg → V → Type 0) (old : Deserializer R C) where
  -- there is nothing to look at
  pub option_missing : (new : Deserializer R C) (e : Error) → FailsToSee g old new e → Lawful g (IsOption reads) old new (Err e)
  option_missing new e f = record {
    ok = tt;
    ready = tt;
    clean = tt;
    sound = tt;
    err = λ o n k. refuses_none _ _ _ _ (f.err o n k);
    failed = f.failed;
    before = f.before;
    stays = f.stays;
  }

  -- the bytes are told and show that nil isn't there, and a value was read or refused
  pub told_some : (new : Deserializer R C) (v : V) → ToldOther (left g old) → old.failed ≡ false → Lawful g reads old new (Ok v)
      → Lawful g (IsOption reads) old new (Ok (Some v))
  told_some new v b o l =
      let r = l.ok in
      record {
        ok = record {
          bytes = r.bytes;
          tree = r.tree;
          takes = r.takes;
          goes_on = r.goes_on;
          spelled = r.spelled;
          fits = r.fits;
          value = (told_tree old.strict (left g old) (left g new) r.bytes r.tree b r.takes r.spelled, r.value);
        };
        ready = l.ready;
        clean = l.clean;
        sound = l.sound;
        err = λ _. tt;
        failed = tt;
        before = λ f. absurd cc;
        stays = l.stays;
      }

  pub told_refused : (new : Deserializer R C) (e : Error) → ToldOther (left g old) → old.failed ≡ false → Lawful g reads old new (Err e)
      → Lawful g (IsOption reads) old new (Err e)
  told_refused new e b o l = record {
    ok = tt;
    ready = tt;
    clean = tt;
    sound = tt;
    err = λ f n k. refuses_narrower (SpellsAs old.strict) (λ m. (m ≡ nil) ⊎ Readable reads m) (Readable (IsOption reads)) (room_of old) (left g old)
        (option_trees reads) (told_none_nil old.strict (left g old) (room_of old) (Readable reads) b (l.err f n k));
    failed = l.failed;
    before = λ f. absurd cc;
    stays = l.stays;
  }

  module _ (mid new : Deserializer R C) (fresh : old.failed ≡ false) (s : SeesOther g old mid) where
    -- a value was read
    pub option_some : (v : V) → Lawful g reads mid new (Ok v) → Lawful g (IsOption reads) old new (Ok (Some v))
    option_some v l =
        let r = l.ok in
        record {
          ok = record {
            bytes = r.bytes;
            tree = r.tree;
            takes = kept_consumes _ _ _ r.bytes s.same r.takes;
            goes_on = record {
              more = s.goes_on.more ++ r.goes_on.more;
              whole = r.goes_on.whole ∙ ap (λ z. z ++ r.goes_on.more) s.goes_on.whole
                  ∙ append_assoc (kept_bytes old.kept) s.goes_on.more r.goes_on.more;
            };
            spelled = subst (λ t. SpellsAs t r.bytes r.tree) s.stays.strict r.spelled;
            fits = subst (λ t. depth r.tree < max 1 t) s.stays.room r.fits;
            value = (
              other_byte mid.strict (kept_bytes mid.kept) r.bytes r.goes_on.more [] [] r.tree s.begins (ap (λ z. z ++ []) r.goes_on.whole) r.spelled,
              r.value,
            );
          };
          ready = l.ready;
          clean = l.clean;
          sound = l.sound ∙ s.sound;
          err = λ _. tt;
          failed = tt;
          before = λ f. absurd cc;
          stays = stays_then g old mid new s.stays l.stays;
        }

    -- the value was refused
    pub option_refused : (e : Error) → Lawful g reads mid new (Err e) → Lawful g (IsOption reads) old new (Err e)
    option_refused e l = record {
      ok = tt;
      ready = tt;
      clean = tt;
      sound = tt;
      err = λ _ n k.
          let r : Refuses (SpellsAs mid.strict) (Readable reads) (room_of mid) (left g mid) = l.err s.ready n (k ∙ sym s.sound) in
          let wide = refuses_narrower (SpellsAs mid.strict) (λ m. (m ≡ nil) ⊎ Readable reads m) (Readable (IsOption reads)) (room_of mid) (left g mid)
          (option_trees reads) (none_nil mid.strict (kept_bytes mid.kept) (g.ahead mid.reader) (room_of mid) (Readable reads) s.begins r) in
          kept_refuses _ (Readable (IsOption reads)) (room_of old) _ _ s.same
          (subst (λ t. Refuses (SpellsAs old.strict) (Readable (IsOption reads)) (max 1 t) (left g mid)) s.stays.room
          (subst (λ t. Refuses (SpellsAs t) (Readable (IsOption reads)) (room_of mid) (left g mid)) s.stays.strict wide));
      failed = l.failed;
      before = λ f. absurd cc;
      stays = stays_then g old mid new s.stays l.stays;
    }
