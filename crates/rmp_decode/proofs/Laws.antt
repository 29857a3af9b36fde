-- What a read's result says, put together from what its steps say.
use Rattle.std.proofs.Common.{◌≡◌, ℕ, List, refl, ◌∙◌, arith, true, false, Ok, Err}
use Rattle.rmp_wire.specs.declared.head.Head.{Head}
use Rattle.rmp_wire.specs.declared.marker.Marker.{Marker}
use Rattle.rmp_wire.specs.declared.source.Source.{Ghosts}
use Rattle.rmp_wire.specs.Canonical.{heads_of, SpellsAs}
use Rattle.rmp_wire.specs.Msg.{Msg, depth}
use Rattle.rmp_wire.specs.Spelling.{head_of}
use Rattle.rmp_decode.specs.State.{left, faults_of, room_of, Stays}
use Rattle.rmp_decode.specs.Law.{Refuses, Readable, Lawful, Explains, ReadsHead}
use Rattle.rmp_decode.specs.Opening.{FailsToOpenAs}
use Rattle.rmp_decode.specs.declared.deserializer.Deserializer.{Deserializer}
use Rattle.rmp_decode.specs.declared.error.Error.{Error}
use Rattle.rmp_decode.proofs.NothingAccepted.{refuses_none, refuses_other, refuses_head, refuses_narrower}

pub stays_refl : {R C : Type 0} (g : Ghosts R) (d : Deserializer R C) → Stays g d d
stays_refl g d = record { config = refl; room = refl; limit = refl; strict = refl; place = refl }

pub stays_then : {R C : Type 0} (g : Ghosts R) (a b c : Deserializer R C) → Stays g a b → Stays g b c → Stays g a c
stays_then g a b c p q = record {
  config = q.config ∙ p.config;
  room = q.room ∙ p.room;
  limit = q.limit ∙ p.limit;
  strict = q.strict
      ∙ p.strict;
  place = q.place ∙ p.place;
}

module _ {R C V : Type 0} (g : Ghosts R) (reads : Msg → V → Type 0) (old new : Deserializer R C) where
  -- a refusal of what was there
  pub refused : (e : Error) → old.failed ≡ false → new.failed ≡ true → Stays g old new
      → Explains e (faults_of g old) (faults_of g new) (Refuses (SpellsAs old.strict) (Readable reads) (room_of old) (left g old))
      → Lawful g reads old new (Err e)
  refused e o f s r = record { ok = tt; ready = tt; clean = tt; sound = tt; err = λ _. r; failed = f; before = λ h. absurd cc; stays = s }

  -- no message was there, or a read had failed before
  pub refused_none : (e : Error) → ReadsHead g old new (Err e) → Lawful g reads old new (Err e)
  refused_none e h = record {
    ok = tt;
    ready = tt;
    clean = tt;
    sound = tt;
    err = λ o n k. refuses_none _ _ _ _ (h.err o n k);
    failed = h.failed;
    before = h.before;
    stays = h.stays;
  }

  -- the head opens no message that is wanted
  pub refused_head : (p : Marker × Head) (e : Error) → ReadsHead g old new (Ok p) → ((m : Msg) → Readable reads m → head_of m ≡ p.1 → ⊥)
      → Lawful g reads old new (Err e)
  refused_head p e h n = refused e h.fresh h.failed h.stays (λ _ _. refuses_head _ _ _ _ (left g new) h.ok.bytes p.1 h.ok.takes h.ok.is_head n)

-- no message could be opened that is wanted
pub unopened : {R C V : Type 0} (g : Ghosts R) (reads : Msg → V → Type 0) (Wants : Msg → Type 0) (table : ℕ → Marker → Head → Error → Type 0)
    (old new : Deserializer R C) (e : Error) → FailsToOpenAs g Wants table old new e → ((m : Msg) → Readable reads m → Wants m)
    → Lawful g reads old new (Err e)
unopened g reads Wants table old new e f w = record {
  ok = tt;
  ready = tt;
  clean = tt;
  sound = tt;
  failed = f.failed;
  before = f.before;
  stays = f.stays;
  err = λ o n k. refuses_narrower (SpellsAs old.strict) Wants _ _ _ w (f.err o n k);
}

-- the head is the whole message
pub answered_leaf : {R C V : Type 0} (g : Ghosts R) (reads : Msg → V → Type 0) (old mid new : Deserializer R C) (p : Marker × Head) (m : Msg) (v : V)
    → ReadsHead g old mid (Ok p) → new ≡ record mid { failed = false }
    → ((b : List ℕ) → heads_of old.strict p.1 b → SpellsAs old.strict b m) → depth m ≡ 0 → reads m v → Lawful g reads old new (Ok v)
answered_leaf g reads old mid new p m v h q s d r = rw q (record {
  ok = record {
    bytes = h.ok.bytes;
    tree = m;
    takes = h.ok.takes;
    goes_on = h.ok.goes_on;
    spelled = s h.ok.bytes h.ok.is_head;
    fits = omega (arith, d);
    value = r;
  };
  ready = refl;
  clean = h.clean;
  sound = h.sound;
  err = λ _. tt;
  failed = tt;
  before = λ f. absurd (let o = h.fresh in cc);
  stays = record { config = h.stays.config; room = h.stays.room; limit = h.stays.limit; strict = h.stays.strict; place = h.stays.place };
})

-- a reading that says no less of an answer
pub lawful_ok : {R C V W : Type 0} (g : Ghosts R) (reads : Msg → V → Type 0) (reads' : Msg → W → Type 0) (old new : Deserializer R C) (v : V) (w : W)
    → ((m : Msg) → reads m v → reads' m w) → Lawful g reads old new (Ok v) → Lawful g reads' old new (Ok w)
lawful_ok g reads reads' old new v w f l = record {
  ok = let r = l.ok in record {
    bytes = r.bytes;
    tree = r.tree;
    takes = r.takes;
    goes_on = r.goes_on;
    spelled = r.spelled;
    fits = r.fits;
    value = f r.tree
        r.value;
  };
  ready = l.ready;
  clean = l.clean;
  sound = l.sound;
  err = λ _. tt;
  failed = tt;
  before = λ h. absurd (l.before h).0;
  stays = l.stays;
}

-- a reading that has no tree which the other lacks
pub lawful_err : {R C V W : Type 0} (g : Ghosts R) (reads : Msg → V → Type 0) (reads' : Msg → W → Type 0) (old new : Deserializer R C) (e : Error)
    → ((m : Msg) → Readable reads' m → Readable reads m) → Lawful g reads old new (Err e) → Lawful g reads' old new (Err e)
lawful_err g reads reads' old new e f l = record {
  ok = tt;
  ready = tt;
  clean = tt;
  sound = tt;
  err = λ o n k. refuses_narrower (SpellsAs old.strict) (Readable reads) (Readable reads') _ _ f (l.err o n k);
  failed = l.failed;
  before = l.before;
  stays = l.stays;
}

-- a type's own refusal of what was read
pub lawful_not : {R C V W : Type 0} (g : Ghosts R) (reads : Msg → V → Type 0) (reads' : Msg → W
    → Type 0) (old mid new : Deserializer R C) (v : V) (e : Error) → ((m : Msg) → reads m v → Readable reads' m → ⊥)
    → new.failed ≡ true → Stays g mid new → Lawful g reads old mid (Ok v) → Lawful g reads' old new (Err e)
lawful_not g reads reads' old mid new v e f d s l = record {
  ok = tt;
  ready = tt;
  clean = tt;
  sound = tt;
  err = λ o n k. let r = l.ok in refuses_other _ (Readable reads') _ _ _ r.bytes r.tree r.takes r.spelled (f r.tree r.value);
  failed = d;
  before = λ h. absurd (l.before h).0;
  stays = stays_then g old mid new l.stays s;
}

-- the same, where the reader is made to fail
pub lawful_refuse : {R C V W : Type 0} (g : Ghosts R) (reads : Msg → V → Type 0) (reads' : Msg → W
    → Type 0) (old mid new : Deserializer R C) (v : V) (e : Error) → ((m : Msg) → reads m v → Readable reads' m → ⊥)
    → new ≡ record mid { failed = true } → Lawful g reads old mid (Ok v) → Lawful g reads' old new (Err e)
lawful_refuse g reads reads' old mid new v e f q l = rw q
    (lawful_not g reads reads' old mid (record mid { failed = true }) v e f refl
    (record { config = refl; room = refl; limit = refl; strict = refl; place = refl }) l)
