-- Structs without fields.
use Rattle.std.proofs.Common.{◌≡◌, ◌∙◌, sym, ap, subst, refl, append-nil, [], List, Result, ℕ, ◌<◌, ◌≤◌, arith, inl, inr, nat_le, true, false, Ok, Err}
use Rattle.std.proofs.lemmas.Bool.Decides.{nat_tests}
use Rattle.rmp_wire.specs.declared.head.Head.{Head}
use Rattle.rmp_wire.specs.declared.head.Head.TheVariants as head
use Rattle.rmp_wire.specs.declared.marker.Marker.{Marker}
use Rattle.rmp_wire.specs.declared.source.Source.{Ghosts}
use Rattle.rmp_wire.specs.Canonical.{heads_of, SpellsAs}
use Rattle.rmp_wire.specs.Msg.{Msg, nil, list, map, no_items, no_pairs, depth}
use Rattle.rmp_wire.specs.Spelling.{head_of}
use Rattle.rmp_decode.specs.Law.{Lawful, Readable, ReadsHead}
use Rattle.rmp_decode.specs.Consumed.{no_payload}
use Rattle.rmp_decode.specs.Leaves.{HoldsNone, ReadsLeaf}
use Rattle.rmp_decode.specs.Opening.{NestsTooDeep}
use Rattle.rmp_decode.specs.State.{room_of, Stays}
use Rattle.rmp_decode.specs.Units.{IsExtName, IsNewtype, IsNothing, not_nothing}
use Rattle.rmp_decode.specs.declared.deserializer.Deserializer.{Deserializer}
use Rattle.rmp_decode.specs.declared.deserializer.heads.Levels.TheVariants.{Lists}
use Rattle.rmp_decode.specs.declared.error.Error.{Error}
use Rattle.rmp_decode.specs.declared.error.Error.TheVariants.{DepthLimitExceeded, Syntax}
use Rattle.rmp_decode.specs.declared.text.Text.TheVariants.{InvalidType}
use Rattle.rmp_decode.proofs.Consumed.{leaves_head}
use Rattle.rmp_decode.proofs.Exactness.{exact_head}
use Rattle.rmp_decode.proofs.Laws.{lawful_err, lawful_ok, refused}
use Rattle.rmp_decode.proofs.NothingAccepted.{refuses_all}
use Rattle.rmp_decode.proofs.Opening.{deep_refused}

abbrev pub NothingIs : Msg → Unit {0} → Type 0
NothingIs m u = IsNothing m

-- a head that isn't nil's begins no nil
pub not_nil : (h : Head) → ((u : Unit {0}) → h ≡ head.Nil → ⊥) → HoldsNone (λ m (u : Unit {0}). m ≡ nil) h
not_nil h f m r e = f tt (sym e ∙ ap head_of r.1)

-- a list that isn't empty is another
pub not_empty : (h : Head) (n : ℕ) → h ≡ head.Array n → 0 < n → (m : Msg) → Readable NothingIs m → head_of m ≡ h → ⊥
not_empty h n i l m r e = elim r.1 [
  | inl w ↦ absurd (let a : head.Nil ≡ head.Array n = sym (ap head_of w) ∙ e ∙ i in cc)
  | inr w ↦ let a : head.Array 0 ≡ head.Array n = sym (ap head_of w) ∙ e ∙ i in let same : 0 ≡ n = cc in absurd (omega (arith, same, l))
]

-- another kind
pub not_nil_or_list : (h : Head) → ((u : Unit {0}) → h ≡ head.Nil → ⊥) → ((n : ℕ) → h ≡ head.Array n → ⊥) → (m : Msg) → Readable NothingIs m → head_of m ≡ h → ⊥
not_nil_or_list h f g m r e = elim r.1 [
  | inl w ↦ f tt (sym e ∙ ap head_of w)
  | inr w ↦ g 0 (sym e ∙ ap head_of w)
]

pub other_is : (room : ℕ) (m : Marker) (h : Head) → ((n : ℕ) → h ≡ head.Array n → ⊥) → Syntax InvalidType ≡ not_nothing room m h
other_is room m head.Nil f = refl
other_is room m (head.Truth t) f = refl
other_is room m (head.Whole z) f = refl
other_is room m (head.F32Bits n) f = refl
other_is room m (head.F64Bits n) f = refl
other_is room m (head.Text n) f = refl
other_is room m (head.Bin n) f = refl
other_is room m (head.Array n) f = absurd (f n refl)
other_is room m (head.Map n) f = refl
other_is room m (head.Ext n tag) f = refl

pub deep_is : (room : ℕ) (m : Marker) (h : Head) (n : ℕ) → h ≡ head.Array n → room ≤ 1 → DepthLimitExceeded ≡ not_nothing room m h
deep_is room m h n i l = let t : nat_le room 1 ≡ true = grind (arith, nat_tests) in rw (i, t) refl

pub some_is : (room : ℕ) (m : Marker) (h : Head) (n : ℕ) → h ≡ head.Array n → 1 < room → Syntax InvalidType ≡ not_nothing room m h
some_is room m h n i l = let t : nat_le room 1 ≡ false = grind (arith, nat_tests) in rw (i, t) refl

module _ {R C : Type 0} (g : Ghosts R) (old mid : Deserializer R C) (p : Marker × Head) (h : ReadsHead g old mid (Ok p)) where
  -- a message that is its head
  pub alone_read : {V : Type 0} (reads : Msg → V → Type 0) (new : Deserializer R C) (v : V) (tree : Msg) → SpellsAs old.strict h.ok.bytes tree
      → depth tree < room_of old → new ≡ record mid { failed = false } → reads tree v → Lawful g reads old new (Ok v)
  alone_read reads new v tree s l q r = rw q (record {
    ok = record { bytes = h.ok.bytes; tree = tree; takes = h.ok.takes; goes_on = h.ok.goes_on; spelled = s; fits = l; value = r };
    ready = refl;
    clean = h.clean;
    sound = h.sound;
    err = λ _. tt;
    failed = tt;
    before = λ f. absurd (let o = h.fresh in cc);
    stays = record { config = h.stays.config; room = h.stays.room; limit = h.stays.limit; strict = h.stays.strict; place = h.stays.place };
  })

  -- the empty list
  pub empty_read : {V : Type 0} (reads : Msg → V → Type 0) (new : Deserializer R C) (n : ℕ) (v : V) → p.1 ≡ head.Array n → n ≡ 0 → 1 < room_of old
      → new ≡ record mid { failed = false } → reads (list no_items) v → Lawful g reads old new (Ok v)
  empty_read reads new n v i z l q r = alone_read reads new v (list no_items) (record {
    first = h.ok.bytes;
    second = [];
    is_first = subst (λ k. heads_of old.strict k h.ok.bytes) (i ∙ ap head.Array z) h.ok.is_head;
    is_second = refl;
    is_whole = sym (append-nil h.ok.bytes);
  }) l q r

  -- the empty map
  pub empty_map_read : {V : Type 0} (reads : Msg → V → Type 0) (new : Deserializer R C) (v : V) → p.1 ≡ head.Map 0 → 1 < room_of old
      → new ≡ record mid { failed = false } → reads (map no_pairs) v → Lawful g reads old new (Ok v)
  empty_map_read reads new v i l q r = alone_read reads new v (map no_pairs) (record {
    first = h.ok.bytes;
    second = [];
    is_first = subst (λ k. heads_of old.strict k h.ok.bytes) i h.ok.is_head;
    is_second = refl;
    is_whole = sym (append-nil h.ok.bytes);
  }) l q r

-- a list would nest too deep
pub deep_list : {R C : Type 0} (g : Ghosts R) (old new : Deserializer R C) (e : Error) → NestsTooDeep g Lists old new e
    → ReadsLeaf g NothingIs (not_nothing (room_of old)) old new (Err e)
deep_list g old new e d =
    let h = d.begun in
    record {
      law = deep_refused g Lists old new d.next h d.level (omega (arith, d.deep)) NothingIs e;
      exact = λ _. exact_head _ (not_nothing (room_of old)) _ _ _ d.next.0 d.next.1 _ h.sound h.marked
          (d.limit ∙ deep_is _ d.next.0 _ d.level.0 d.level.1 (omega (arith, d.deep)));
      taken = λ _. leaves_head g no_payload old new d.next e h (λ w. w);
      memory = λ q. absurd (let l = d.limit in cc);
    }

-- ---- newtype structs

module _ {R C V : Type 0} (g : Ghosts R) (reads : Msg → V → Type 0) (name : List ℕ) (old new : Deserializer R C) where
  -- the name means an extension
  pub newtype_named : (e : Error) → IsExtName name → old.failed ≡ false → new.failed ≡ true → Stays g old new → Lawful g (IsNewtype name reads) old new (Err e)
  newtype_named e is o f s = refused g (IsNewtype name reads) old new e o f s (λ _ _. refuses_all _ (Readable (IsNewtype name reads)) _ _ (λ m r. r.1.0 is))

  -- it is another
  pub newtype_law : (r : Result V Error) → (IsExtName name → ⊥) → Lawful g reads old new r → Lawful g (IsNewtype name reads) old new r
  newtype_law (Ok v) other l = lawful_ok g reads (IsNewtype name reads) old new v v (λ m r. (other, r)) l
  newtype_law (Err e) other l = lawful_err g reads (IsNewtype name reads) old new e (λ m r. (r.0, r.1.1)) l
