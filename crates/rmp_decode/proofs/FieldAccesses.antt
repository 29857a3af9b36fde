-- What an access to the fields of a struct does, step by step.
use Rattle.std.proofs.Common.{◌≡◌, ◌≢◌, ◌≤◌, ◌∙◌, sym, ap, subst, refl, ℕ, zero, suc, ◌*◌, ◌^◌, ◌<◌, max, arith, bit_and, bit_or}
use Rattle.std.proofs.Common.{length, inl, inr, Bool, true, false, Option, None, Some, Err, MutBor, ◌-◌}
use Rattle.std.specs.Int.{bit_at}
use Rattle.std.proofs.lemmas.Nat.{pow_pos}
use Rattle.std.proofs.lemmas.Nat.Bits.{and_pow, bit_at-lt, bit_at_or, bit_at-pow_same, bit_at-pow_other}
use Rattle.rmp_wire.specs.declared.error.IoFault.{IoFault}
use Rattle.rmp_wire.specs.declared.source.Source.{Ghosts}
use Rattle.rmp_wire.specs.Msg.{Msg}
use Rattle.rmp_decode.specs.FieldAccess.{begun, IsStructOpen, SameStruct, names_in, as_map, as_seq, Passes, TakesName}
use Rattle.rmp_decode.specs.FieldAccess.{FailsName, TakesPlace, TakesPlaceAs, FailsPlace}
use Rattle.rmp_decode.specs.FieldAccess.{FailsPlaceAs, TakesField, TakesFieldAs, FailsField, FailsFieldAs}
use Rattle.rmp_wire.specs.Canonical.{SpellsAs}
use Rattle.rmp_decode.specs.Fields.{name_refusal, pass_refusal}
use Rattle.rmp_decode.specs.Law.{Readable}
use Rattle.rmp_decode.specs.MapRefusing.{PartRefused, RefusesPart}
use Rattle.rmp_decode.specs.Maps.{IsMapOpen, TakesKey}
use Rattle.rmp_decode.specs.Names.{bytes_of, IsName}
use Rattle.rmp_decode.specs.Parts.{TakesPart, FailsPart}
use Rattle.rmp_decode.specs.Seq.{IsOpen}
use Rattle.rmp_decode.specs.Skip.{any_tree}
use Rattle.rmp_decode.specs.State.{Stays}
use Rattle.rmp_decode.specs.With.{Offers, OffersPart}
use Rattle.rmp_decode.specs.declared.error.Error.{Error}
use Rattle.rmp_decode.specs.declared.deserializer.Deserializer.{Deserializer}
use Rattle.rmp_decode.specs.declared.error.Error.TheVariants.{InvalidDataRead, Syntax}
use Rattle.rmp_decode.specs.declared.text.Text.TheVariants.{DuplicateField}
use Rattle.rmp_decode.proofs.ByteParts.{number_missing}
use Rattle.rmp_decode.proofs.Offered.{element_taken, element_fails}
use Rattle.rmp_decode.specs.declared.access.field_access.FieldAccess.{FieldAccess}
use Rattle.rmp_decode.specs.declared.access.map.MapAccess.{MapAccess}
use Rattle.rmp_decode.proofs.Laws.{stays_then}
use Rattle.rmp_decode.proofs.NamesAhead.{part_read}
use Rattle.rmp_decode.proofs.Nexts.{key_taken}
use Rattle.rmp_decode.proofs.NothingAccepted.{refuses_narrower}
use Rattle.rmp_decode.proofs.VariantNames.{place_is_below}

-- ---- the bits of the fields that were met

scaled : (k x : ℕ) → x < 2 → x * 2 ^ k ≡ 0 → x ≡ 0
scaled k zero l e = refl
scaled k (suc zero) l e = let p = pow_pos k in omega (arith, p, e)
scaled k (suc (suc x)) l e = omega (arith, l)

pub bit_clear : (n k b : ℕ) → b ≡ 2 ^ k → bit_and n b ≡ 0 → bit_at n k ≡ 0
bit_clear n k b e z = scaled k (bit_at n k) (bit_at-lt n k) (sym (and_pow n k) ∙ ap (bit_and n) (sym e) ∙ z)

unscaled : (k x : ℕ) → x < 2 → (x * 2 ^ k ≡ 0 → ⊥) → x ≡ 1
unscaled k zero l e = absurd (e (omega arith))
unscaled k (suc zero) l e = refl
unscaled k (suc (suc x)) l e = omega (arith, l)

pub bit_set : (n k b : ℕ) → b ≡ 2 ^ k → (bit_and n b ≡ 0 → ⊥) → bit_at n k ≡ 1
bit_set n k b e z = unscaled k (bit_at n k) (bit_at-lt n k) (λ p. z (ap (bit_and n) e ∙ and_pow n k ∙ p))

pub bit_met : (n k b : ℕ) → b ≡ 2 ^ k → bit_at (bit_or n b) k ≡ 1
bit_met n k b e = let l = bit_at-lt n k in let m : bit_at b k ≡ 1 = ap (λ z. bit_at z k) e ∙ bit_at-pow_same k
    in bit_at_or n b k ∙ omega (arith, l, m)

pub bit_other : (n k b i : ℕ) → b ≡ 2 ^ k → i ≢ k → bit_at (bit_or n b) i ≡ bit_at n i
bit_other n k b i e d = let m : bit_at b i ≡ 0 = ap (λ z. bit_at z i) e ∙ bit_at-pow_other k i d
    in bit_at_or n b i ∙ omega (arith, m)

-- ---- pairs of no name

pub record PassedSo {R C : Type 0} (g : Ghosts R) (start now : FieldAccess R C) : Type 0 where
  pub many : ℕ
  pub passed : Passes g (names_in start) many (as_map start) (as_map now)
  pub stays : Stays g start.de.now now.de.now
  pub at_key : now.owes ≡ false
  pub still : IsMapOpen (as_map now)

-- what the loop that passes over them keeps
pub record Passing {R C : Type 0} (g : Ghosts R) (start now : FieldAccess R C) : Type 0 where
  pub same : SameStruct start now
  pub same_reference : now.de.ghost_name ≡ start.de.ghost_name
  pub met : now.met ≡ start.met
  pub fewer : now.left ≤ start.left
  pub passed : IsMapOpen (as_map start) → PassedSo g start now

module _ {R C : Type 0} (g : Ghosts R) (start mid : FieldAccess R C) (p : PassedSo g start mid) (n : mid.names ≡ start.names) (some : 0 < mid.left) where
  -- the access after a key
  abbrev key_at : Deserializer R C → MapAccess R C
  key_at d = record (as_map mid) { de = record mid.de { now = d }; left = mid.left - 1; owes = true; sound = true }

  named : (d : Deserializer R C) (x : Option ℕ) → TakesPart g (IsName (names_in mid)) (max 1 mid.inner) mid.de.now d x
      → TakesKey g (IsName (names_in start)) (as_map mid) (key_at d) x
  named d x t = subst (λ z. TakesKey g (IsName z) (as_map mid) (key_at d) x) (ap (λ z. bytes_of z.now) n)
      (key_taken g (IsName (names_in mid)) (as_map mid) (record mid.de { now = d }) true x refl some t)

  -- a key was read that is a name
  pub name_taken : (d : Deserializer R C) (place : ℕ) → TakesPart g (IsName (names_in mid)) (max 1 mid.inner) mid.de.now d (Some place)
      → TakesName g (names_in start) place (as_map start) (key_at d)
  name_taken d place t = record { many = p.many; mid = as_map mid; passed = p.passed; named = named d (Some place) t; same_reference = refl }

  -- one was refused
  pub key_fails : (human lends : Bool) (now : MapAccess R C) (e : Error) → FailsPart g (IsName (names_in mid)) (max 1 mid.inner) mid.de.now now.de.now e
      → PartRefused g human lends name_refusal (max 1 mid.inner) mid.de.now now.de.now e
      → FailsName g human lends (names_in start) (as_map start) now e
  key_fails human lends now e f r = record {
    many = p.many;
    mid = as_map mid;
    passed = p.passed;
    pair = inl (record {
      some = some;
      part = subst (λ z. FailsPart g (IsName z) (max 1 mid.inner) mid.de.now now.de.now e) (ap (λ z. bytes_of z.now) n) f;
      refused = r;
    });
  }

  module _ {V : Type 0} (d : Deserializer R C) (t : TakesPart g (IsName (names_in mid)) (max 1 mid.inner) mid.de.now d None) where
    -- one that is no name, and its value was passed over
    pub pair_passed : (last : Deserializer R C) (v : V) → TakesPart g (λ m (x : V). Unit {0}) (max 1 mid.inner) d last v
        → PassedSo g start (record mid { de = record mid.de { now = last }; left = mid.left - 1; sound = true })
    pair_passed last v k = record {
      many = suc p.many;
      passed = (
        as_map mid,
        p.passed,
        record {
          key = key_at d;
          named = named d None t;
          value = record {
            part = part_read g (λ m (x : V). Unit {0}) any_tree (max 1 mid.inner) d last v tt (λ m h. tt) k;
            same_left = refl;
            owes = p.at_key;
            count = refl;
            inner = refl;
            still = record { sound = refl; marked = k.marked; clean = k.clean };
          };
          key_same = refl;
          value_same = refl;
        },
      );
      stays = stays_then g start.de.now mid.de.now last p.stays (stays_then g mid.de.now d last t.stays k.stays);
      at_key = p.at_key;
      still = record { sound = refl; marked = k.marked; clean = k.clean };
    }

    -- its value couldn't be
    pub pass_fails : (human lends : Bool) (spared : Type 0) (now : MapAccess R C) (e : Error)
        → RefusesPart g human lends (λ m (x : V). Unit {0}) pass_refusal spared (max 1 mid.inner) d now.de.now e → V
        → FailsName g human lends (names_in start) (as_map start) now e
    pass_fails human lends spared now e r v = record {
      many = p.many;
      mid = as_map mid;
      passed = p.passed;
      pair = inr (record {
        key = key_at d;
        named = named d None t;
        same_reference = refl;
        value = record {
          part = record {
            stays = r.fails.stays;
            failed = r.fails.failed;
            err = λ y q. refuses_narrower (SpellsAs d.strict) _ (Readable any_tree) _ _ (λ m h. (v, tt)) (r.fails.err y q);
          };
          refused = r.named;
        };
      });
    }

-- ---- the place of the next field

module _ {R C : Type 0} (g : Ghosts R) (old mid : FieldAccess R C) (o : IsStructOpen old) (m : old.is_map ≡ true) (same : SameStruct old mid)
    (w : mid.met ≡ old.met) (place : ℕ) (t : TakesName g (names_in old) place (as_map old) (as_map mid)) (b : ℕ) (e : place < 128 → b ≡ 2 ^ place) where
  within : place < length (names_in old)
  within = place_is_below (names_in old) t.named.part.tree place t.named.part.value

  is_bit : b ≡ 2 ^ place
  is_bit = let l = within in e (omega (arith, l, o.few))

  -- it wasn't met before
  pub place_taken : bit_and mid.met b ≡ 0 → TakesPlace g old (record mid { met = bit_or mid.met b }) place
  place_taken z = record {
    below = within;
    by = subst (λ h. TakesPlaceAs h g place old (record mid { met = bit_or mid.met b })) (sym m) (
      t,
      record {
        first = ap (λ z. bit_at z place) (sym w) ∙ bit_clear mid.met place b is_bit z;
        met = bit_met mid.met place b is_bit;
        others = λ n d. bit_other mid.met place b n is_bit d ∙ ap (λ z. bit_at z n) w;
      },
    );
    owes = t.named.owes;
    still = record {
      sound = t.named.still.sound;
      marked = t.named.still.marked;
      clean = t.named.still.clean;
      few = subst (λ z. length (bytes_of z.now) ≤ 128) (sym same.names) o.few;
      pairs = λ h. same.bytes ∙ o.pairs m;
    };
  }

  -- it was
  pub place_again : (bit_and mid.met b ≡ 0 → ⊥) → (human lends : Bool)
      → FailsPlace g human lends old (record mid { sound = false }) (Syntax DuplicateField)
  place_again z human lends = subst (λ h. FailsPlaceAs h g human lends old (record mid { sound = false }) (Syntax DuplicateField)) (sym m)
      (inr (record {
        place = place;
        key = as_map mid;
        named = t;
        met = ap (λ z. bit_at z place) (sym w) ∙ bit_set mid.met place b is_bit z;
        error = refl;
        same = refl;
      }))

-- ---- the value of a field

module _ {R C : Type 0} (old : FieldAccess R C) (o : IsStructOpen old) where
  pub seq_open : IsOpen (as_seq old)
  seq_open = record { sound = o.sound; marked = o.marked; clean = o.clean }

  pub some_owed : old.owes ≡ true → 0 < (as_seq old).left
  some_owed w = let q = ap begun w in omega (arith, q)

module _ {R C V : Type 0} (g : Ghosts R) (reads : Msg → V → Type 0) (old : FieldAccess R C) (o : IsStructOpen old) (w : old.owes ≡ true)
    (from : Deserializer R C) (offers : OffersPart g old.bytes old.de.now from) where
  lent_whole : old.is_map ≡ true → from ≡ old.de.now
  lent_whole m = subst (λ b. OffersPart g b old.de.now from) (o.pairs m) offers

  -- it was read
  pub value_taken : (de : MutBor (Deserializer R C)) (v : V) → TakesPart g reads (max 1 old.inner) from de.now v
      → TakesField g reads old (record old { de = de; owes = false; sound = true }) v
  value_taken de v t = record {
    by = go old.is_map refl;
    met = refl;
    owes = refl;
    still = record { sound = refl; marked = t.marked; clean = t.clean; few = o.few; pairs = o.pairs };
  }
    where
      go : (b : Bool) → old.is_map ≡ b → TakesFieldAs b g reads old (record old { de = de; owes = false; sound = true }) v
      go true m = record {
        part = subst (λ z. TakesPart g reads (max 1 old.inner) z de.now v) (lent_whole m) t;
        same_left = refl;
        owes = refl;
        count = refl;
        inner = refl;
        still = record { sound = refl; marked = t.marked; clean = t.clean };
      }
      go false m = element_taken g reads (as_seq old) (as_seq (record old { de = de; owes = false; sound = true })) from (seq_open old o) offers v
          (record { count = refl; inner = refl; bytes = refl }) t (let a = ap begun w in omega (arith, a)) refl

  -- it was refused
  pub value_fails : (new : FieldAccess R C) (e : Error) → FailsPart g reads (max 1 old.inner) from new.de.now e → FailsField g reads old new e
  value_fails new e f = (go old.is_map refl, f.failed)
    where
      go : (b : Bool) → old.is_map ≡ b → FailsFieldAs b g reads old new e
      go true m = subst (λ z. FailsPart g reads (max 1 old.inner) z new.de.now e) (lent_whole m) f
      go false m = element_fails g reads (as_seq old) (as_seq new) from (seq_open old o) offers e (some_owed old o w) f

-- the bytes ended
pub value_ended : {R C V : Type 0} (g : Ghosts R) (reads : Msg → V → Type 0) (old new : FieldAccess R C) (o : IsStructOpen old) → old.owes ≡ true
    → (f : IoFault) → Offers g old.bytes old.de.now new.de.now (Err f) → FailsField g reads old new (InvalidDataRead f)
value_ended g reads old new o w f k = (go old.is_map refl, k.failed ∙ o.marked)
  where
    go : (b : Bool) → old.is_map ≡ b → FailsFieldAs b g reads old new (InvalidDataRead f)
    go true m = absurd (let z = o.pairs m in let y = k.bytes in cc)
    go false m = record {
      some = some_owed old o w;
      stays = k.stays;
      err = λ n q. rw k.bytes (number_missing g old.de.now (Readable reads) _ o.clean (k.err n q));
    }
