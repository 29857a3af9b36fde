-- A tuple, from what its state says.
use Rattle.std.proofs.Common.{◌≡◌, ℕ, ◌+◌, ◌<◌, ◌≤◌, ◌^◌, List, [], ◌∷◌, ◌++◌, length, map, Bool, true, false, Option, None, Some, refl, sym, ◌∙◌, ap}
use Rattle.std.proofs.Common.{subst, arith, append_assoc, append-nil, length-append}
use Rattle.std.specs.Prelude.{if◌then◌else◌, Result, Ok, Err, MatchResult, nat_le, ◌&&◌, ◌||◌, OnOk}
use Rattle.std.specs.List.{flat_map, list_any, AllByRecursion}
use Rattle.std.proofs.lemmas.Bool.{true≢false}
use Rattle.std.proofs.lemmas.Bool.Decides.{nat_tests}
use Rattle.std.specs.declared.vec.Vec.{Vec}
use Rattle.std.specs.declared.alloc.Global.{Global}
use Rattle.std.proofs.lemmas.List.{length-map, map-append}
use Rattle.rmp_encode.specs.declared.settings.Settings.{Settings}
use Rattle.rmp_wire.specs.declared.config.BytesMode.TheVariants.{ForceAll}
use Rattle.rmp_wire.specs.declared.sink.Sink.{Ghosts}
use Rattle.rmp_encode.specs.declared.serializer.Serializer.{Serializer}
use Rattle.rmp_encode.specs.declared.error.Error.{Error}
use Rattle.rmp_encode.specs.Data.{Data, lower, packs_tuple}
use Rattle.rmp_encode.specs.Trees.{Has, HasTree, a_byte, array_head, byte_of, forces_all, number_head, sequence_of, spell, spelling, tree_of, tuple_of}
use Rattle.rmp_wire.specs.Msg.{Msg, bin}
use Rattle.rmp_wire.specs.Heads.{canon_head, fits_head}
use Rattle.rmp_wire.specs.Spelling.{canon}
use Rattle.rmp_encode.specs.Ser.{sink_of, settings_of}
use Rattle.rmp_encode.specs.Markers.{FaultAt, InOrder, item, items_of, Piece}
use Rattle.rmp_encode.specs.Writes.{Keeps, MarkedBy, NoneAtMarker, WritesPart, WritesTree}
use Rattle.rmp_encode.specs.Going.{head_at, IsMadeOf, IsWriting}
use Rattle.rmp_encode.specs.Errors.{IsTooLong}
use Rattle.rmp_encode.specs.Tuples.{items_kept, kept_item, spilled_items, OpenTuple, IsProbing, IsTupling, IsTuplingAt, kept_at, kept_of}
use Rattle.rmp_encode.proofs.Parts.{or_second, part_any, part_as, part_refused, part_takes}
use Rattle.rmp_encode.proofs.Lists.{made_list}
use Rattle.rmp_encode.proofs.Going.{all_append, made_as, made_of, made_sure, made_ended, made_stopped, goes, on_ok}
use Rattle.rmp_encode.proofs.Markers.{fault_at, nothing_written, one_piece}
use Rattle.rmp_encode.proofs.Packing.{byte_from, tuple_can, plain_by, plain_mode, is_force_all, bytes_tree, list_tree}

has_byte : (s : Settings) (b : ℕ) → b < 256 → Has s (a_byte b)
unfolding lower HasTree fits_head
has_byte s b lt = omega (arith, lt)

-- the spelling of bytes as a list
numbers_text : (s : Settings) (bs : List ℕ) → flat_map (spelling s) (map a_byte bs) ≡ flat_map number_head bs
unfolding spell lower
numbers_text s [] = refl
numbers_text s (b ∷ bs) = ap (λ l. number_head b ++ l) (numbers_text s bs)

none_of : (a b : Bool) → a || b ≡ false → (a ≡ false) × (b ≡ false)
none_of true b e = absurd (true≢false e)
none_of false b e = (refl, e)

not_last : (a b c : Bool) → a ≡ true → a && (b || c) ≡ false → c ≡ false
not_last true b c is e = (none_of b c e).1
not_last false b c is e = absurd (true≢false (sym is))

-- numbers below 128 are a byte each
small_number : (b : ℕ) → nat_le 128 b ≡ false → number_head b ≡ b ∷ []
unfolding canon_head
small_number b low = grind (arith, nat_tests)

small_numbers : (bs : List ℕ) → list_any (nat_le 128) bs ≡ false → flat_map number_head bs ≡ bs
small_numbers [] low = refl
small_numbers (b ∷ bs) low =
    let each = none_of (nat_le 128 b) (list_any (nat_le 128) bs) low in
    rw (small_number b each.0) (ap (λ l. b ∷ l) (small_numbers bs each.1))

-- and so are those of a list in place of which bytes aren't written
pub listed_numbers : (bs : List ℕ) → packs_tuple ForceAll bs ≡ false → flat_map number_head bs ≡ bs
unfolding packs_tuple
listed_numbers [] listed = refl
listed_numbers (b ∷ bs) listed = small_numbers (b ∷ bs) (not_last (nat_le 1 (length (b ∷ bs))) (nat_le 16 (length (b ∷ bs))) _ (grind arith) listed)

module _ {W : Type 0} (g : Ghosts W) where
  -- from the tree of the list to that of the tuple
  pub as_tree : {A : Type 0} {m : Bool} {old new : W} {r : Result A Error} {s t : Option Msg} → s ≡ t → WritesTree g m t old new r → WritesTree g m s old new r
  as_tree {A} {m} {old} {new} {r} e w = subst (λ x. WritesTree g m x old new r) (sym e) w

-- what is kept, from the fields
pub kept_none : {B : Type 0} (k : Option B) (probing : Bool) → k ≡ None → kept_at k probing ≡ None
kept_none k probing is = ap (λ b. kept_at b probing) is

pub kept_no_more : {B : Type 0} {k : Option B} {probing : Bool} (v : B) → k ≡ Some v → probing ≡ false → kept_at k probing ≡ None
kept_no_more {B} {k} {probing} v is ended = ap (λ b. kept_at b probing) is ∙ ap (kept_at (Some v)) ended

pub kept_some : {B : Type 0} {k : Option B} {probing : Bool} (v : B) → k ≡ Some v → probing ≡ true → kept_at k probing ≡ Some v
kept_some {B} {k} {probing} v is goes = ap (λ b. kept_at b probing) is ∙ ap (kept_at (Some v)) goes

-- the head was written, where no elements are kept
pub made_tuple : (s : Settings) (all : List (Option Data)) (n : ℕ) → forces_all s.bytes ≡ false → length all ≡ n
    → IsMadeOf s (tree_of s (tuple_of all)) (n < 2 ^ 32) (head_at false n) all
made_tuple s all n m e = made_as (plain_mode s all m) (made_list s n all e)

module _ {W C : Type 0} (g : Ghosts W) where
  pub tuple_too_long : (old : Serializer W C) (n : ℕ) (e : Error) → IsTooLong e → 2 ^ 32 ≤ n → (all : List (Option Data)) → length all ≡ n
      → WritesTree g {A = Unit {0}} g.takes_memory (tree_of (settings_of old) (tuple_of all)) (sink_of old) (sink_of old) (Err e)
  tuple_too_long old n x is le all e = part_refused g g.takes_memory _ _ (sink_of old) x is (λ h. let k = tuple_can (settings_of old) all h
      in omega (arith, k, e, le))

  pub probing_opened : (old : Serializer W C) (n : ℕ) (kept : List ℕ) → kept ≡ [] → forces_all (settings_of old).bytes ≡ true → n < 2 ^ 32
      → (all : List (Option Data)) → length all ≡ n → IsProbing g old (tree_of (settings_of old) (tuple_of all)) all kept n old
  probing_opened old n kept e m lt all l =
      let none : all ≡ map a_byte kept ++ all = ap (λ k. map a_byte k ++ all) (sym e) in
      record {
        tree = ap (λ x. tree_of (settings_of old) (tuple_of x)) none;
        len_is = sym l ∙ ap length none;
        fits = lt;
        mode = is_force_all (settings_of old).bytes m;
        same = refl;
        have = subst (λ k. AllByRecursion (Has (settings_of old)) (map a_byte k)) (sym e) tt;
      }

  -- one more byte was kept
  pub probe_more : (d : Settings → Option Data) (kept kept' : List ℕ) (len : ℕ) (now : Serializer W C) (b : ℕ) → kept' ≡ kept ++ b ∷ []
      → byte_of (d (settings_of now)) ≡ Some b → b < 256
      → (old : Serializer W C) (t : Option Msg) (rest : List (Option Data)) → IsProbing g old t (d (settings_of old) ∷ rest) kept len now
      → IsProbing g old t rest kept' len now
  probe_more d kept kept' len now b more is lt old t rest h =
      let s = settings_of old in
      let is' : d s ≡ a_byte b = byte_from (d s) b (subst (λ x. byte_of (d (settings_of x)) ≡ Some b) h.same is) in
      let front : map a_byte kept' ≡ map a_byte kept ++ a_byte b ∷ [] = ap (map a_byte) more ∙ map-append a_byte kept (b ∷ []) in
      let all : map a_byte kept ++ d s ∷ rest ≡ map a_byte kept' ++ rest =
      ap (λ x. map a_byte kept ++ x ∷ rest) is' ∙ sym (append_assoc (map a_byte kept) (a_byte b ∷ []) rest) ∙ ap (λ l. l ++ rest) (sym front) in
      record {
        tree = h.tree ∙ ap (λ x. tree_of s (tuple_of x)) all;
        len_is = h.len_is ∙ ap length all;
        fits = h.fits;
        mode = h.mode;
        same = h.same;
        have = subst (AllByRecursion (Has s)) (sym front) (all_append (Has s) (map a_byte kept) (a_byte b ∷ []) h.have (has_byte s b lt, tt));
      }

  -- keeping bytes allocates, in the mode `ForceAll`
  pub probe_takes : {old : Serializer W C} {t : Option Msg} {rest : List (Option Data)} {kept : List ℕ} {len : ℕ} {now : Serializer W C} (m n : Bool)
      → IsProbing g old t rest kept len now → (forces_all (settings_of old).bytes || m) || n ≡ true
  probe_takes m n h = ap (λ b. (forces_all b || m) || n) h.mode

  -- no more is kept than a head can count
  pub probing_fits : {old : Serializer W C} {t : Option Msg} {rest : List (Option Data)} {kept : List ℕ} {len : ℕ} {now : Serializer W C}
      → IsProbing g old t rest kept len now → length kept < 2 ^ 32
  probing_fits {rest = rest} {kept = kept} h = omega (arith, h.fits, h.len_is, length-append (map a_byte kept) rest, length-map kept a_byte)

  -- what is kept is the beginning of a list
  made_kept : {old : Serializer W C} {t : Option Msg} {rest : List (Option Data)} {kept : List ℕ} {len : ℕ} {now : Serializer W C}
      (h : IsProbing g old t rest kept len now)
      → tree_of (settings_of old) (tuple_of (map a_byte kept ++ rest)) ≡ tree_of (settings_of old) (sequence_of (map a_byte kept ++ rest))
      → IsMadeOf (settings_of old) t (Unit {0}) (head_at false len) (map a_byte kept ++ rest)
  made_kept {old} {t} {rest} {kept} {len} h plain = made_as (h.tree ∙ plain)
      (made_sure h.fits (made_list (settings_of old) len (map a_byte kept ++ rest) (sym h.len_is)))

  -- and so it is written
  kept_writes : {m : Bool} {old : Serializer W C} {t : Option Msg} {rest : List (Option Data)} {kept : List ℕ} {len : ℕ} {now : Serializer W C} {last : W}
      {r : Result (Unit {0}) Error} (h : IsProbing g old t rest kept len now)
      → WritesPart g m (Unit {0} × Unit {0}) (head_at false len ++ flat_map number_head kept) (sink_of now) last r
      → WritesPart g m (AllByRecursion (Has (settings_of old)) (map a_byte kept))
      (head_at false len ++ flat_map (spelling (settings_of old)) (map a_byte kept)) (sink_of old) last r
  kept_writes {m} {old} {kept = kept} {len = len} {last = last} {r = r} h w =
      part_as g (λ x. x) (λ _. h.have) (λ _. (tt, tt)) (λ _. ap (λ l. head_at false len ++ l) (sym (numbers_text (settings_of old) kept)))
      (subst (λ x. WritesPart g m (Unit {0} × Unit {0}) (head_at false len ++ flat_map number_head kept) (sink_of x) last r) h.same w)

  not_bytes : (d : Settings → Option Data) {kept : List ℕ} {len : ℕ} {now old : Serializer W C} {t : Option Msg} {rest : List (Option Data)}
      → byte_of (d (settings_of now)) ≡ None → IsProbing g old t (d (settings_of old) ∷ rest) kept len now
      → IsMadeOf (settings_of old) t (Unit {0}) (head_at false len) (map a_byte kept ++ d (settings_of old) ∷ rest)
  not_bytes d {kept} {old = old} {rest = rest} isnt h =
      let s = settings_of old in
      made_kept h (plain_by s (map a_byte kept) (d s) rest (subst (λ x. byte_of (d (settings_of x)) ≡ None) h.same isnt))

  -- what was kept was written as a list, since an element is no byte
  pub spilled : (d : Settings → Option Data) (kept : List ℕ) (len : ℕ) (now mid : Serializer W C) (u : Unit {0}) → byte_of (d (settings_of now)) ≡ None
      → Keeps g now mid → WritesPart g g.takes_memory (Unit {0} × Unit {0}) (head_at false len ++ flat_map number_head kept) (sink_of now) (sink_of mid)
      (Ok u)
      → (old : Serializer W C) (t : Option Msg) (rest : List (Option Data)) → IsProbing g old t (d (settings_of old) ∷ rest) kept len now
      → IsWriting g old t (d (settings_of old) ∷ rest) mid
  spilled d kept len now mid u isnt k w old t rest h = record {
    head = head_at false len;
    front = map a_byte kept;
    made = not_bytes d isnt h;
    keeps = subst (λ x. Keeps g x mid) h.same k;
    writes = part_any g true tt (kept_writes h w);
  }

  -- the same, where that failed
  pub not_spilled : (m : Bool) (d : Settings → Option Data) (kept : List ℕ) (len : ℕ) (now last : Serializer W C) (e : Error)
      → byte_of (d (settings_of now)) ≡ None → WritesPart g {A = Unit {0}} g.takes_memory (Unit {0} × Unit {0})
      (head_at false len ++ flat_map number_head kept) (sink_of now) (sink_of last) (Err e)
      → (old : Serializer W C) (t : Option Msg) (rest : List (Option Data)) → m ≡ true → IsProbing g old t (d (settings_of old) ∷ rest) kept len now
      → WritesTree g {A = Unit {0}} m t (sink_of old) (sink_of last) (Err e)
  not_spilled m d kept len now last e isnt w old t rest is h =
      made_stopped g (settings_of old) t (map a_byte kept) (d (settings_of old) ∷ rest) (not_bytes d isnt h) (part_takes g m (λ _. is) (kept_writes h w))

  -- what was kept is written as bytes
  pub probing_packs : (kept : List ℕ) (len : ℕ) (now : Serializer W C) {last : W} {r : Result (Unit {0}) Error} → packs_tuple ForceAll kept ≡ true
      → WritesTree g g.takes_memory (Some (bin kept)) (sink_of now) last r
      → (old : Serializer W C) (t : Option Msg) → IsProbing g old t [] kept len now → WritesTree g g.takes_memory t (sink_of old) last r
  probing_packs kept len now {last} {r} p w old t h =
      let s = settings_of old in
      let tree : t ≡ Some (bin kept) = h.tree ∙ ap (λ l. tree_of s (tuple_of l)) (append-nil (map a_byte kept))
      ∙ bytes_tree s kept (ap (λ m. packs_tuple m kept) h.mode ∙ p) in
      as_tree g tree (subst (λ x. WritesTree g g.takes_memory (Some (bin kept)) (sink_of x) last r) h.same w)

  -- what was kept is written as a list
  pub probing_lists : {P : Type 0} → P → (kept : List ℕ) (len : ℕ) (now : Serializer W C) {last : W} {r : Result (Unit {0}) Error}
      → packs_tuple ForceAll kept ≡ false → WritesPart g g.takes_memory P (head_at false len ++ kept) (sink_of now) last r
      → (old : Serializer W C) (t : Option Msg) → IsProbing g old t [] kept len now → WritesTree g g.takes_memory t (sink_of old) last r
  probing_lists sure kept len now p w old t h =
      let s = settings_of old in
      let all = append-nil (map a_byte kept) in
      let plain : tree_of s (tuple_of (map a_byte kept ++ [])) ≡ tree_of s (sequence_of (map a_byte kept ++ [])) =
      ap (λ l. tree_of s (tuple_of l)) all ∙ list_tree s kept (ap (λ m. packs_tuple m kept) h.mode ∙ p) ∙ ap (λ l. tree_of s (sequence_of l)) (sym all) in
      made_ended g s t (made_of all (made_kept h plain)) (kept_writes h (part_as g (λ x. x) (λ _. (tt, tt)) (λ _. sure)
      (λ _. ap (λ l. head_at false len ++ l) (sym (listed_numbers kept p))) w))

  -- the state, where nothing is kept, and where something may be
  pub list_state : {old : Serializer W C} {t : Option Msg} {rest : List (Option Data)} {q : OpenTuple W C} → kept_of q ≡ None → IsTupling g old t rest q
      → IsWriting g old t rest q.se.now
  list_state {old} {t} {rest} {q} e h = subst (λ b. IsTuplingAt g old t rest b q.len q.se.now) e h.state

  pub probe_state : {old : Serializer W C} {t : Option Msg} {rest : List (Option Data)} {q : OpenTuple W C} (v : Vec ℕ Global) → kept_of q ≡ Some v
      → IsTupling g old t rest q → IsProbing g old t rest v.items q.len q.se.now
  probe_state {old} {t} {rest} {q} v e h = subst (λ b. IsTuplingAt g old t rest b q.len q.se.now) e h.state

  -- the same elements remain
  pub still_tupling : {old : Serializer W C} {t : Option Msg} {some rest : List (Option Data)} {q : OpenTuple W C} → some ≡ rest → IsTupling g old t some q
      → IsTupling g old t rest q
  still_tupling {old} {t} {some} {rest} {q} e h = subst (λ l. IsTupling g old t l q) e h

  in_list : {old : Serializer W C} {t : Option Msg} {rest : List (Option Data)} {q : OpenTuple W C} → q.sound ≡ true → q.left ≡ length rest
      → kept_of q ≡ None → IsWriting g old t rest q.se.now → IsTupling g old t rest q
  in_list {old} {t} {rest} {q} s l e h = record { sound = s; left_is = l; state = subst (λ b. IsTuplingAt g old t rest b q.len q.se.now) (sym e) h }

  pub in_probe : {old : Serializer W C} {t : Option Msg} {rest : List (Option Data)} {q : OpenTuple W C} (v : Vec ℕ Global) → q.sound ≡ true
      → q.left ≡ length rest → kept_of q ≡ Some v → IsProbing g old t rest v.items q.len q.se.now → IsTupling g old t rest q
  in_probe {old} {t} {rest} {q} v s l e h = record { sound = s; left_is = l; state = subst (λ b. IsTuplingAt g old t rest b q.len q.se.now) (sym e) h }

  -- an element was written to the sink, as the tuple's state says
  pub tuple_goes : (m : Settings → Bool) (d : Settings → Option Data) (left : ℕ) (now : Serializer W C) (q' : OpenTuple W C) (r : Result (Unit {0}) Error)
      → q'.sound ≡ true → kept_of q' ≡ None → q'.left + 1 ≡ left → Keeps g now q'.se.now
      → WritesTree g (m (settings_of now) || g.takes_memory) (tree_of (settings_of now) (d (settings_of now))) (sink_of now) (sink_of q'.se.now) r
      → (old : Serializer W C) (t : Option Msg) (rest : List (Option Data)) → left ≡ length (d (settings_of old) ∷ rest)
      → IsWriting g old t (d (settings_of old) ∷ rest) now
      → MatchResult r (λ _. IsTupling g old t rest q') (λ e. WritesTree g {A = Unit {0}}
      ((forces_all (settings_of old).bytes || m (settings_of old)) || g.takes_memory) t (sink_of old) (sink_of q'.se.now) (Err e))
  tuple_goes m d left now q' (Ok u) s e l k w old t rest n h = in_list s (omega (arith, l, n)) e
      (goes g (λ z. m z || g.takes_memory) d now q'.se.now (Ok u) k w old t rest h)
  tuple_goes m d left now q' (Err x) s e l k w old t rest n h =
      part_takes g _ (or_second (forces_all (settings_of old).bytes) (m (settings_of old)) g.takes_memory)
      (goes g (λ z. m z || g.takes_memory) d now q'.se.now (Err x) k w old t rest h)

-- what the end writes of what is kept
item_packed : (v : Vec ℕ Global) (len : ℕ) → packs_tuple ForceAll v.items ≡ true → kept_item v len ≡ canon (bin v.items)
unfolding kept_item
item_packed v len e = ap (λ b. if b then canon (bin v.items) else array_head len ++ v.items) e

item_listed : (v : Vec ℕ Global) (len : ℕ) → packs_tuple ForceAll v.items ≡ false → kept_item v len ≡ head_at false len ++ v.items
unfolding kept_item head_at
item_listed v len e = ap (λ b. if b then canon (bin v.items) else array_head len ++ v.items) e

module _ {W : Type 0} (g : Ghosts W) where
  -- nothing
  pub none_ended : (len : ℕ) {k : Option (Vec ℕ Global)} → k ≡ None → (w : W) → InOrder g {A = Unit {0}} (items_kept k len) w w (Ok tt)
  none_ended len is w = subst (λ x. InOrder g {A = Unit {0}} (items_kept x len) w w (Ok tt)) (sym is) (nothing_written g w tt)

  -- as one item
  item_ended : {m : Bool} {P : Type 0} (v : Vec ℕ Global) (len : ℕ) {k : Option (Vec ℕ Global)} (bytes : List ℕ) → kept_item v len ≡ bytes → k ≡ Some v
      → {old new : W} (r : Result (Unit {0}) Error) → WritesPart g m P bytes old new r → NoneAtMarker g old new r → InOrder g (items_kept k len) old new r
  item_ended v len bytes e is {old} {new} r w none = subst (λ x. InOrder g (items_kept x len) old new r) (sym is)
      (subst (λ l. InOrder g (item l ∷ []) old new r) (sym e) (one_piece g (item bytes) r w none (on_ok r tt)))

  pub ended_packed : {m : Bool} (v : Vec ℕ Global) (len : ℕ) {k : Option (Vec ℕ Global)} → packs_tuple ForceAll v.items ≡ true → k ≡ Some v → {old new : W}
      (r : Result (Unit {0}) Error) → WritesTree g m (Some (bin v.items)) old new r → NoneAtMarker g old new r → InOrder g (items_kept k len) old new r
  unfolding spell
  ended_packed v len packed is r w none = item_ended v len (canon (bin v.items)) (item_packed v len packed) is r w none

  pub ended_listed : {m : Bool} {P : Type 0} (v : Vec ℕ Global) (len : ℕ) {k : Option (Vec ℕ Global)} → packs_tuple ForceAll v.items ≡ false → k ≡ Some v
      → {old new : W} (r : Result (Unit {0}) Error) → WritesPart g m P (head_at false len ++ v.items) old new r → NoneAtMarker g old new r
      → InOrder g (items_kept k len) old new r
  ended_listed v len listed is r w none = item_ended v len (head_at false len ++ v.items) (item_listed v len listed) is r w none

  -- an element that is written, alone or after what is kept
  pub element_alone : {m : Bool} {P : Type 0} (p : Piece) (len : ℕ) {k : Option (Vec ℕ Global)} → k ≡ None → {old new : W} (r : Result (Unit {0}) Error)
      → WritesPart g m P p.0 old new r → MarkedBy g p.1 old new r → OnOk r p.2 → MarkedBy g (FaultAt (spilled_items k len ++ p ∷ [])) old new r
  element_alone p len is {old} {new} r w h may = subst (λ x. MarkedBy g (FaultAt (spilled_items x len ++ p ∷ [])) old new r) (sym is)
      (fault_at g r (one_piece g p r w h may))

  pub element_spilled : (p : Piece) (v : Vec ℕ Global) (len : ℕ) {k : Option (Vec ℕ Global)} → k ≡ Some v → {old new : W} (r : Result (Unit {0}) Error)
      → InOrder g (items_of (array_head len ∷ map number_head v.items) ++ p ∷ []) old new r
      → MarkedBy g (FaultAt (spilled_items k len ++ p ∷ [])) old new r
  element_spilled p v len is {old} {new} r h = subst (λ x. MarkedBy g (FaultAt (spilled_items x len ++ p ∷ [])) old new r) (sym is) (fault_at g r h)
