-- The opening of a list or of fields, by a read of its own or as the content of a variant.
use Rattle.std.proofs.Common.{◌≡◌, refl, ap, subst, arith, ℕ, ◌+◌, ◌-◌, ◌<◌, ◌≤◌, length, List, max, Bool, true, false, Option, None, Some, Ok, Bor}
use Rattle.std.proofs.Common.{MutBor, unwrap_or}
use Rattle.std.specs.Option.{is_none}
use Rattle.std.specs.Prelude.{is_some, not}
use Rattle.rmp_wire.specs.declared.head.Head.{Head}
use Rattle.rmp_wire.specs.declared.marker.Marker.{Marker}
use Rattle.rmp_wire.specs.declared.source.Source.{Ghosts}
use Rattle.rmp_wire.specs.Msg.{Msg}
use Rattle.rmp_decode.specs.FieldAccess.{OpensStruct, OpensStructIn, FailsToOpenStructOf}
use Rattle.rmp_decode.specs.Fields.{HasFields, TakesFieldsHead, FailsToOpenFields}
use Rattle.rmp_decode.specs.Law.{Readable, TakesHead}
use Rattle.rmp_decode.specs.Names.{bytes_of}
use Rattle.rmp_decode.specs.Opening.{FailsToOpenAs}
use Rattle.rmp_decode.specs.Parts.{FailsPart}
use Rattle.rmp_decode.specs.Seq.{IsSeq, FailsToOpen, TakesSeqHead, levels, seq_head}
use Rattle.rmp_decode.specs.Variants.{OpensSeqIn, FailsToOpenSeqOf}
use Rattle.rmp_decode.specs.With.{part_reader}
use Rattle.rmp_decode.specs.declared.access.field_access.FieldAccess.{FieldAccess}
use Rattle.rmp_decode.specs.declared.access.variant.Variant.{Variant}
use Rattle.rmp_decode.specs.declared.deserializer.Deserializer.{Deserializer}
use Rattle.rmp_decode.specs.declared.error.Error.{Error}
use Rattle.rmp_decode.specs.declared.error.Error.TheVariants.{Syntax}
use Rattle.rmp_decode.specs.declared.text.Text.TheVariants.{InvalidType}
use Rattle.rmp_decode.proofs.Names.{length_bytes}
use Rattle.rmp_decode.proofs.NothingAccepted.{refuses_narrower}
use Rattle.rmp_decode.proofs.Variants.{bare_refused, content_refused}

-- the room for a list's elements, or for the numbers of bytes
listed_room : (b : Bool) (outer inner : ℕ) → (b ≡ true → inner ≡ outer) → (b ≡ false → inner ≡ outer - 1) → (b ≡ false → 1 < outer)
    → max 1 outer ≡ max 1 inner + levels b
listed_room true outer inner f h d = let e = f refl in omega (arith, e)
listed_room false outer inner f h d =
    let e = h refl in
    let l = d refl in
    omega (arith, e, l)

-- ---- fields

-- what the test of a head's kind says
pub none_is : (k : Option Bool) (m : Bool) → is_some k ≡ not m → m ≡ is_none k
none_is None true e = refl
none_is None false e = absurd (cc)
none_is (Some y) true e = absurd (cc)
none_is (Some y) false e = refl

-- the access that is made after the head
abbrev access : {R C : Type 0} → MutBor (Deserializer R C) → Bor (List (Bor (List ℕ))) → ℕ → ℕ → Option Bool → FieldAccess R C
access b names left inner k = record {
  de = b;
  names = names;
  left = left;
  count = left;
  inner = inner;
  is_map = is_none k;
  bytes = unwrap_or k false;
  owes = false;
  sound = true;
  met = 0;
}

module _ {R C : Type 0} (g : Ghosts R) (old : Deserializer R C) (b : MutBor (Deserializer R C)) (names : Bor (List (Bor (List ℕ)))) (left inner : ℕ)
    (few : length names.now ≤ 128) where
  pub opens_fields : (k : Option Bool) → (unwrap_or k false ≡ true → inner ≡ old.room) → (unwrap_or k false ≡ false → inner ≡ old.room - 1)
      → TakesFieldsHead g old b.now (Ok (k, left)) → OpensStruct g (bytes_of names.now) old (access b names left inner k)
  opens_fields None f h t = record {
    opens = record {
      fresh = t.fresh;
      head = t.ok;
      count = refl;
      at_key = refl;
      room = let e = h refl in let l = t.deep (λ q. absurd (cc)) in omega (arith, e, l);
      stays = t.stays;
      faults_same = t.sound;
      opened = record { sound = refl; marked = t.failed; clean = t.clean };
    };
    names_same = refl;
    none_met = refl;
    at_field = refl;
    still = record { sound = refl; marked = t.failed; clean = t.clean; few = rw (length_bytes names.now) few; pairs = λ _. refl };
  }
  opens_fields (Some y) f h t = record {
    opens = record {
      fresh = t.fresh;
      head = subst (λ n. TakesHead g (seq_head y n) old b.now) (omega arith) t.ok;
      count = omega arith;
      room = listed_room y old.room inner f h (λ e. t.deep (λ q. absurd (cc)));
      stays = t.stays;
      faults_same = t.sound;
      opened = record { sound = refl; marked = t.failed; clean = t.clean };
    };
    names_same = refl;
    none_met = refl;
    at_field = refl;
    still = record { sound = refl; marked = t.failed; clean = t.clean; few = rw (length_bytes names.now) few; pairs = λ m. absurd (cc) };
  }

-- ---- the content of a variant

module _ {R C : Type 0} (g : Ghosts R) (old mid : Deserializer R C) (inner : ℕ) where
  -- the head of a list or of bytes was consumed in the room of the content
  pub seq_opens_in : (b : MutBor (Deserializer R C)) (y : Bool) (left i : ℕ) → (y ≡ true → i ≡ inner) → (y ≡ false → i ≡ inner - 1)
      → TakesSeqHead g (part_reader old inner) mid (Ok (y, left))
      → OpensSeqIn g inner old (record { de = record b { now = record mid { room = old.room } }; left = left; count = left; inner = i; bytes = y; sound = true })
  seq_opens_in b y left i f h t = record {
    head = record { bytes = t.ok.bytes; takes = t.ok.takes; goes_on = t.ok.goes_on; is_head = t.ok.is_head };
    count = refl;
    room = listed_room y inner i f h t.deep;
    stays = record { config = t.stays.config; room = refl; limit = t.stays.limit; strict = t.stays.strict; place = t.stays.place };
    faults_same = t.sound;
    opened = record { sound = refl; marked = t.failed; clean = t.clean };
  }

  -- that of fields was
  pub fields_open_in : (b : MutBor (Deserializer R C)) (names : Bor (List (Bor (List ℕ)))) (left i : ℕ) → length names.now ≤ 128 → (k : Option Bool)
      → (unwrap_or k false ≡ true → i ≡ inner) → (unwrap_or k false ≡ false → i ≡ inner - 1) → TakesFieldsHead g (part_reader old inner) mid (Ok (k, left))
      → OpensStructIn g (bytes_of names.now) inner old (access (record b { now = record mid { room = old.room } }) names left i k)
  fields_open_in b names left i few k f h t =
      let t' = subst (λ d. TakesFieldsHead g (part_reader old inner) d (Ok (k, left))) (ap (λ z. record mid { room = z }) t.stays.room) t in
      record {
        opens = opens_fields g (part_reader old inner) (record b { now = record mid { room = inner } }) names left i few k f h t';
        stays = record { config = t.stays.config; room = refl; limit = t.stays.limit; strict = t.stays.strict; place = t.stays.place };
      }

  -- nothing could be opened there
  unopened : (Wants : Msg → Type 0) (table : ℕ → Marker → Head → Error → Type 0) (n : ℕ) (e : Error) → FailsToOpenAs g Wants table (part_reader old inner) mid e
      → FailsPart g (λ m (u : Unit {0}). Wants m) (max 1 inner) old (record mid { room = old.room; levels = n }) e
  unopened Wants table n e f = record {
    stays = record { config = f.stays.config; room = refl; limit = f.stays.limit; strict = f.stays.strict; place = f.stays.place };
    failed = f.failed;
    err = λ y q. refuses_narrower _ Wants (Readable (λ m (u : Unit {0}). Wants m)) _ _ (λ m r. r.1) (f.err refl y q);
  }

module _ {R C : Type 0} (g : Ghosts R) (v : Variant R C) where
  -- the name is alone
  pub no_seq_alone : v.bare ≡ true → FailsToOpenSeqOf g v v.de.now (Syntax InvalidType)
  no_seq_alone b = record {
    err = λ names n old o. bare_refused g names n old v o v.de.now (Readable (λ m (u : Unit {0}). IsSeq m)) (Syntax InvalidType) b refl;
    bare = λ _. (refl, refl);
    exact = λ f. absurd (cc);
  }

  pub no_fields_alone : v.bare ≡ true → FailsToOpenStructOf g v v.de.now (Syntax InvalidType)
  no_fields_alone b = record {
    err = λ names n old o. bare_refused g names n old v o v.de.now (Readable (λ m (u : Unit {0}). HasFields m)) (Syntax InvalidType) b refl;
    bare = λ _. (refl, refl);
    exact = λ f. absurd (cc);
  }

  -- the content is another
  module _ (mid : Deserializer R C) (e : Error) (levels : ℕ) (b : v.bare ≡ false) where
    abbrev last : Deserializer R C
    last = record mid { room = v.de.now.room; levels = levels }

    pub no_seq_content : FailsToOpen g (part_reader v.de.now v.inner) mid e → FailsToOpenSeqOf g v (record mid { room = v.de.now.room; levels = levels }) e
    no_seq_content f = record {
      err = λ names n old o. content_refused g names n old v o last last (λ m (u : Unit {0}). IsSeq m) e b (unopened g v.de.now mid v.inner IsSeq _ levels e f) refl;
      bare = λ t. absurd (cc);
      exact = λ _. f.exact refl;
    }

    pub no_fields_content : FailsToOpenFields g (part_reader v.de.now v.inner) mid e → FailsToOpenStructOf g v (record mid { room = v.de.now.room; levels = levels }) e
    no_fields_content f = record {
      err = λ names n old o. content_refused g names n old v o last last (λ m (u : Unit {0}). HasFields m) e b
          (unopened g v.de.now mid v.inner HasFields _ levels e f) refl;
      bare = λ t. absurd (cc);
      exact = λ _. f.exact refl;
    }
