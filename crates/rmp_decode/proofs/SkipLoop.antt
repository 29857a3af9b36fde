-- Passing over all that open lists and maps want.
use Rattle.std.proofs.Common.{◌≡◌, ◌∙◌, sym, ap, subst, refl, ℕ, zero, suc, ◌+◌, ◌-◌, ◌*◌, ◌<◌, ◌≤◌, arith, inl, inr, List, [], ◌∷◌, ◌++◌}
use Rattle.std.proofs.Common.{length, reverse, Option, None, Some, Bool, true, false, Ok, Err, append_assoc}
use Rattle.std.proofs.Math.Nat.{mul-le-mul_right}
use Rattle.std.proofs.lemmas.List.{append-nil, reverse-append, length-append}
use Rattle.std.specs.Io.KnownBytes.{Consumes}
use Rattle.std.proofs.KnownBytes.{Consumes-nil, Consumes-trans}
use Rattle.rmp_wire.specs.declared.head.Head.{Head}
use Rattle.rmp_wire.specs.declared.marker.Marker.{Marker}
use Rattle.rmp_wire.specs.declared.source.Source.{Ghosts}
use Rattle.rmp_wire.specs.Canonical.{heads_of, SpellsAs}
use Rattle.rmp_wire.specs.Msg.{Msgs, no_items, item, count, depth_all}
use Rattle.rmp_wire.specs.Sources.{IsShort}
use Rattle.rmp_decode.specs.Exact.{EndsExactly, TellsFault}
use Rattle.rmp_decode.specs.Ahead.{IsLeafHead}
use Rattle.rmp_decode.specs.Kinds.{content_len}
use Rattle.rmp_decode.specs.Law.{Begins, Refuses, Readable, NoMessage, Explains, ReadsHead}
use Rattle.rmp_decode.specs.LeafTable.{PassesLeaves, SkipsLeaves}
use Rattle.rmp_decode.specs.Open.{SpellsOpen, SpellsThen, Leads, place, digits}
use Rattle.rmp_decode.specs.Refuse.{UnpassedFor, RowRefusal, RefusedFor, RowRefusedFor, SkipsParts}
use Rattle.rmp_decode.specs.Seq.{SpellsRow, RefusesRow}
use Rattle.rmp_decode.specs.Skip.{any_tree, any_row, parts_head, parts_count, PassesPayload, SkipsRow}
use Rattle.rmp_decode.specs.State.{left, faults_of, room_of, Stays}
use Rattle.rmp_decode.specs.declared.deserializer.Deserializer.{Deserializer}
use Rattle.rmp_decode.specs.declared.deserializer.Kept.TheVariants.{Nothing}
use Rattle.rmp_decode.specs.declared.error.Error.{Error}
use Rattle.rmp_decode.specs.declared.error.Error.TheVariants as errors
use Rattle.rmp_decode.proofs.Contents.{bare}
use Rattle.rmp_decode.proofs.Exactness.{none_told}
use Rattle.rmp_decode.proofs.Faults.{head_tells, tells_after}
use Rattle.rmp_decode.proofs.Laws.{stays_then, stays_refl}
use Rattle.rmp_decode.proofs.WantedNext.{leads_then, leads_message, leads_in, leads_out, no_row}
use Rattle.rmp_decode.proofs.NothingAccepted.{content_of, refuses_short, refuses_none}
use Rattle.rmp_decode.proofs.SkipErrors.{unpassed, unlent, some_parts}
use Rattle.rmp_decode.proofs.SkipLaws.{leaf_of, leaf_flat, leaf_spelled, content_fills, parts_refused}
use Rattle.rmp_decode.proofs.FirstFault.{is_memory, wrong_none, wrong_content, wrong_memory, wrong_deep}

-- ---- it ends

place_some : (room : ℕ) → 0 < place room
place_some zero = omega arith
place_some (suc room) = let i = place_some room in omega arith

suc_times : (n x : ℕ) → suc n * x ≡ x + n * x
suc_times n x = omega arith

-- one fewer, and a count that a head may say a place below
digits_in : (room n k : ℕ) (counts : List ℕ) → k < 8589934592 → digits room (k ∷ n ∷ counts) + place room ≤ digits (suc room) (suc n ∷ counts)
digits_in room n k counts l =
    let m : suc k * place room ≤ 8589934592 * place room = mul-le-mul_right (place room) l in
    let a : suc k * place room ≡ place room + k * place room = suc_times k (place room) in
    let b : suc n * place (suc room) ≡ place (suc room) + n * place (suc room) = suc_times n (place (suc room)) in
    omega (arith, m, a, b)

digits_less : (room n : ℕ) (counts : List ℕ) → digits room (n ∷ counts) < digits room (suc n ∷ counts)
digits_less room n counts =
    let a : suc n * place room ≡ place room + n * place room = suc_times n (place room) in
    omega (arith, a, place_some room)

none : (x y : ℕ) → 0 * x + y ≡ y
none x y = omega arith

-- the measure of the loop
abbrev pub to_do : ℕ → ℕ → List ℕ → ℕ
to_do room wanted outer = 2 * digits room (wanted ∷ reverse outer) + length outer

pub falls_out : (room wanted n room' : ℕ) (outer outer' : List ℕ) → wanted ≡ 0 → outer ≡ outer' ++ (n ∷ []) → room' ≡ room + 1
    → to_do room' n outer' < to_do room wanted outer
falls_out room wanted n room' outer outer' z o r =
    let turned : reverse outer ≡ n ∷ reverse outer' = ap reverse o ∙ reverse-append outer' (n ∷ []) in
    let long : length outer ≡ length outer' + 1 = ap length o ∙ length-append outer' (n ∷ []) in
    let up : room' ≡ suc room = omega (arith, r) in
    let same : digits room (wanted ∷ reverse outer) ≡ digits (suc room) (n ∷ reverse outer') = ap (λ t. digits room (wanted ∷ t)) turned
    ∙ ap (λ t. digits room (t ∷ n ∷ reverse outer')) z ∙ none (place room) (digits (suc room) (n ∷ reverse outer')) in
    let then : digits room' (n ∷ reverse outer') ≡ digits (suc room) (n ∷ reverse outer') = ap (λ t. digits t (n ∷ reverse outer')) up in
    omega (arith, same, then, long)

pub falls_leaf : (room wanted wanted' : ℕ) (outer : List ℕ) → 0 < wanted → wanted' ≡ wanted - 1 → to_do room wanted' outer < to_do room wanted outer
falls_leaf room wanted wanted' outer s q =
    let one : wanted ≡ suc wanted' = omega (arith, s, q) in
    let l = digits_less room wanted' (reverse outer) in
    let same : digits room (wanted ∷ reverse outer) ≡ digits room (suc wanted' ∷ reverse outer) = ap (λ t. digits room (t ∷ reverse outer)) one in
    omega (arith, l, same)

-- where no more were wanted before
pub falls_then : (less room j wanted : ℕ) (outer : List ℕ) → j ≤ wanted → less < to_do room j outer → less < to_do room wanted outer
falls_then less room j wanted outer l f = let m : j * place room ≤ wanted * place room = mul-le-mul_right (place room) l in omega (arith, m, f)

pub falls_in : (room wanted n room' wanted' : ℕ) (outer outer' : List ℕ) → 0 < wanted → n ≡ wanted - 1 → room' ≡ room - 1 → wanted' < 8589934592
    → outer' ≡ outer ++ (n ∷ []) → 1 < room → to_do room' wanted' outer' < to_do room wanted outer
falls_in room wanted n room' wanted' outer outer' s q d k o r =
    let turned : reverse outer' ≡ n ∷ reverse outer = ap reverse o ∙ reverse-append outer (n ∷ []) in
    let long : length outer' ≡ length outer + 1 = ap length o ∙ length-append outer (n ∷ []) in
    let up : room ≡ suc room' = omega (arith, d, r) in
    let one : wanted ≡ suc n = omega (arith, s, q) in
    let l = digits_in room' n wanted' (reverse outer) k in
    let before : digits room (wanted ∷ reverse outer) ≡ digits (suc room') (suc n ∷ reverse outer) = ap (λ t. digits t (wanted ∷ reverse outer)) up
    ∙ ap (λ t. digits (suc room') (t ∷ reverse outer)) one in
    let then : digits room' (wanted' ∷ reverse outer') ≡ digits room' (wanted' ∷ n ∷ reverse outer) = ap (λ t. digits room' (wanted' ∷ t)) turned in
    omega (arith, l, before, then, long, place_some room')

-- ---- a row of no room

none_fits : (w : Bool) (room n : ℕ) → room ≤ 1 → (known : Option (List ℕ)) → RefusesRow (SpellsAs w) any_row (room - 1) n known
unfolding RefusesRow
none_fits w room n l None = tt
none_fits w room n l (Some xs) = λ a. let b = a.fits in omega (arith, b, l)

-- ---- what is still wanted

pub none_of : (xs : List ℕ) → length xs ≡ 0 → xs ≡ []
none_of [] e = refl
none_of (x ∷ xs) e = absurd (omega arith)

-- what taking bytes leads to
abbrev LeadsBy : Bool → ℕ → Bool → ℕ → List ℕ → ℕ → List ℕ → List ℕ → Type 0
LeadsBy lends top strict = Leads strict (UnpassedFor lends top strict)

-- what was taken leads from so many messages to what is wanted now: by the innermost, and by those that are open around it, the outermost first
pub record Wants {R C : Type 0} (g : Ghosts R) (lends : Bool) (all : ℕ) (start now : Deserializer R C) (room wanted : ℕ) (outer : List ℕ) : Type 0 where
  pub taken : List ℕ
  pub takes : Consumes (left g start) (left g now) taken
  pub leads : LeadsBy lends (room_of start) start.strict (room_of start - 1) (all ∷ []) room (wanted ∷ reverse outer) taken
  pub some : 0 < room
  pub deep : room + length outer ≡ room_of start - 1
  pub asked : 0 < wanted + length outer → 0 < all
  pub marked : now.failed ≡ true
  pub clean : now.kept ≡ Nothing
  pub sound : faults_of g now ≡ faults_of g start
  pub stays : Stays g start now

module _ {R C : Type 0} (g : Ghosts R) (lends : Bool) (all : ℕ) (start now : Deserializer R C) (room wanted : ℕ) (outer : List ℕ)
    (w : Wants g lends all start now room wanted outer) where
  -- some more was taken
  step : (new : Deserializer R C) (b : List ℕ) (room' wanted' : ℕ) (outer' : List ℕ) → Consumes (left g now) (left g new) b
      → LeadsBy lends (room_of start) start.strict room (wanted ∷ reverse outer) room' (wanted' ∷ reverse outer') b
      → 0 < room' → room' + length outer' ≡ room + length outer → (0 < wanted' + length outer' → 0 < wanted + length outer) → new.failed ≡ true
      → new.kept ≡ Nothing → faults_of g new ≡ faults_of g now → Stays g now new → Wants g lends all start new room' wanted' outer'
  step new b room' wanted' outer' c l s d a f k q st = record {
    taken = w.taken ++ b;
    takes = Consumes-trans _ _ _ _ _ w.takes c;
    leads = leads_then start.strict (UnpassedFor lends (room_of start) start.strict) (room_of start - 1) (all ∷ []) room (wanted ∷ reverse outer) room'
        (wanted' ∷ reverse outer') w.taken b w.leads l;
    some = s;
    deep = d ∙ w.deep;
    asked = λ z. w.asked (a z);
    marked = f;
    clean = k;
    sound = q ∙ w.sound;
    stays = stays_then g start now new w.stays st;
  }

  -- leaves were skipped
  pub wants_leaves : (new : Deserializer R C) (j : ℕ) → SkipsLeaves g wanted j now new → Wants g lends all start new room j outer
  wants_leaves new j k =
      let passes : PassesLeaves start.strict wanted j k.bytes = subst (λ z. PassesLeaves z wanted j k.bytes) w.stays.strict k.passes in
      let few = k.fewer in
      step new k.bytes room j outer k.takes (passes lends (room_of start) room (reverse outer) w.some) w.some refl (λ z. omega (arith, z, few)) (k.failed ∙ w.marked)
      (k.kept ∙ w.clean) k.sound k.stays

  -- a list or a map ended
  pub wants_out : (n room' : ℕ) (outer' : List ℕ) → wanted ≡ 0 → outer ≡ outer' ++ (n ∷ []) → room' ≡ room + 1 → Wants g lends all start now room' n outer'
  wants_out n room' outer' z o r =
      let turned : reverse outer ≡ n ∷ reverse outer' = ap reverse o ∙ reverse-append outer' (n ∷ []) in
      let long : length outer ≡ length outer' + 1 = ap length o ∙ length-append outer' (n ∷ []) in
      let up : suc room ≡ room' = omega (arith, r) in
      let l = leads_out start.strict (UnpassedFor lends (room_of start) start.strict) room (n ∷ reverse outer') w.some in
      step now [] room' n outer' (Consumes-nil (left g now))
      (subst (λ z. LeadsBy lends (room_of start) start.strict room z room' (n ∷ reverse outer') []) (sym (ap (λ z. z ∷ reverse outer) z ∙ ap (λ t. 0 ∷ t) turned))
      (subst (λ z. LeadsBy lends (room_of start) start.strict room (0 ∷ n ∷ reverse outer') z (n ∷ reverse outer') []) up l))
      (omega (arith, r)) (omega (arith, r, long)) (λ s. omega (arith, long)) w.marked w.clean refl (stays_refl g now)

  all_passed : (new : Deserializer R C) → wanted ≡ 0 → outer ≡ [] → new ≡ record now { failed = false } → SkipsRow g (room_of start - 1) all start new (Ok tt)
  all_passed new z o q = rw q (
      let l = leads_then start.strict (UnpassedFor lends (room_of start) start.strict) (room_of start - 1) (all ∷ []) room (0 ∷ []) (suc room) [] w.taken []
      (subst (λ t. LeadsBy lends (room_of start) start.strict (room_of start - 1) (all ∷ []) room t w.taken) (ap (λ t. t ∷ reverse outer) z ∙ ap (λ t. 0 ∷ reverse t) o)
      w.leads)
      (leads_out start.strict (UnpassedFor lends (room_of start) start.strict) room [] w.some) in
      let s : SpellsOpen start.strict (room_of start - 1) (all ∷ []) ((w.taken ++ []) ++ []) = l.closes [] refl in
      let m = s.is_first in
      let whole : w.taken ≡ s.first = sym (append-nil w.taken) ∙ sym (append-nil (w.taken ++ [])) ∙ s.is_whole ∙ ap (λ t. s.first ++ t) s.is_second
      ∙ append-nil s.first in
      record {
        ok = record {
          bytes = w.taken;
          trees = m.trees;
          takes = w.takes;
          spelled = subst (λ t. SpellsRow (SpellsAs start.strict) t m.trees) (sym whole)
              m.spelled;
          many = m.many;
          fits = m.fits;
        };
        ready = refl;
        clean = w.clean;
        sound = w.sound;
        err = tt;
        failed = tt;
        stays = record { config = w.stays.config; room = w.stays.room; limit = w.stays.limit; strict = w.stays.strict; place = w.stays.place };
      })

  -- all of them ended
  pub wants_none : (new : Deserializer R C) → wanted ≡ 0 → outer ≡ [] → new ≡ record now { failed = false } → SkipsParts g lends all start new (Ok tt)
  wants_none new z o q = record { law = all_passed new z o q; deep = tt; exact = tt; fault = tt; memory = λ _. tt }

  -- ---- a message is refused

  more : 0 < wanted → LeadsBy lends (room_of start) start.strict (room_of start - 1) (all ∷ []) room (suc (wanted - 1) ∷ reverse outer) w.taken
  more s = let same : wanted ≡ suc (wanted - 1) = omega (arith, s)
      in subst (λ t. LeadsBy lends (room_of start) start.strict (room_of start - 1) (all ∷ []) room (t ∷ reverse outer) w.taken) same w.leads

  front_of_row : (n : ℕ) (ts : Msgs) (c more x ys : List ℕ) → SpellsRow (SpellsAs start.strict) c ts → count ts ≡ suc n → depth_all ts < room
      → ys ≡ (c ++ more) ++ x → Begins (SpellsAs start.strict) (Readable any_tree) room ys
  front_of_row n no_items c more x ys t l d e = absurd (omega (arith, l))
  front_of_row n (item k ks) c more x ys t l d e = record {
    bytes = t.first;
    rest = t.second ++ (more ++ x);
    tree = k;
    front = e ∙ append_assoc c more x ∙ ap (λ z. z ++ (more ++ x)) t.is_whole ∙ append_assoc t.first t.second (more ++ x);
    spelled = t.is_first;
    fits = omega (arith, d);
    holds = (tt, tt);
  }

  none_begins : 0 < wanted → (known k : Option (List ℕ)) → Consumes known k w.taken → Refuses (SpellsAs start.strict) (Readable any_tree) room k
      → RefusesRow (SpellsAs start.strict) any_row (room_of start - 1) all known
  unfolding Refuses RefusesRow
  none_begins s None k t r = tt
  none_begins s (Some xs) None t r = absurd t
  none_begins s (Some xs) (Some ys) t r = λ a.
      let l = more s in
      let whole : SpellsOpen start.strict (room_of start - 1) (all ∷ []) a.bytes = record {
        first = a.bytes;
        second = [];
        is_first = record { trees = a.trees; spelled = a.spelled; many = a.many; fits = a.fits };
        is_second = refl;
        is_whole = sym (append-nil a.bytes);
      } in
      let b : SpellsThen start.strict room (suc (wanted - 1) ∷ reverse outer) a.rest ys = l.opens a.bytes a.rest ys whole (sym a.front ∙ t) in
      let h = b.spelled in
      r (front_of_row (wanted - 1) h.is_first.trees h.first h.second a.rest ys h.is_first.spelled h.is_first.many h.is_first.fits
      (b.front ∙ ap (λ z. z ++ a.rest) h.is_whole))

  first_wrong : 0 < wanted → (e : Error) (known k : Option (List ℕ)) → Consumes known k w.taken
      → RefusedFor start.strict (UnpassedFor lends (room_of start) start.strict) any_row room e k
      → RowRefusedFor start.strict (UnpassedFor lends (room_of start) start.strict) any_row (room_of start - 1) all e known
  unfolding RefusedFor RowRefusedFor
  first_wrong s e None k t r = tt
  first_wrong s e (Some xs) None t r = absurd t
  first_wrong s e (Some xs) (Some ys) t r =
      let o = (more s).refuses e ys (inl (record { many = 0; before = no_row start.strict room ys w.some; fewer = omega arith; next = r })) in
      elim o [
        | inl p ↦ subst (λ z. RowRefusal start.strict (UnpassedFor lends (room_of start) start.strict) any_row (room_of start - 1) all e z) (sym t) p
        | inr p ↦ absurd p.1
      ]

  -- what is refused in the place of the next message
  fails : (new : Deserializer R C) (e : Error) → 0 < wanted → new.failed ≡ true → Stays g now new
      → Explains e (faults_of g now) (faults_of g new) (Refuses (SpellsAs start.strict) (Readable any_tree) room (left g now))
      → (faults_of g new ≡ faults_of g now → RefusedFor start.strict (UnpassedFor lends (room_of start) start.strict) any_row room e (left g now))
      → TellsFault (faults_of g now) (faults_of g new) e → SkipsParts g lends all start new (Err e)
  fails new e s f st x q t = record {
    law = record {
      ok = tt;
      ready = tt;
      clean = tt;
      sound = tt;
      err = λ o k. none_begins s (left g start) (left g now) w.takes (x o (k ∙ sym w.sound));
      failed = f;
      stays = stays_then g start now new w.stays st;
    };
    deep = λ one. absurd (let d = w.deep in let some = w.some in omega (arith, one, d, some));
    exact = λ _ k. first_wrong s e (left g start) (left g now) w.takes (q (k ∙ sym w.sound));
    fault = tells_after _ _ _ e w.sound t;
    memory = λ _ _. w.asked (omega (arith, s));
  }

  -- ---- a head was taken

  module _ (ready mid : Deserializer R C) (same : ready ≡ record now { failed = false }) (some : 0 < wanted) (p : Marker × Head)
      (h : ReadsHead g ready mid (Ok p)) where
    heads : Consumes (left g now) (left g mid) h.ok.bytes
    heads = subst (λ d. Consumes (left g d) (left g mid) h.ok.bytes) same h.ok.takes

    stays_mid : Stays g now mid
    stays_mid = let s = subst (λ d. Stays g d mid) same h.stays
        in record { config = s.config; room = s.room; limit = s.limit; strict = s.strict; place = s.place }

    sound_mid : faults_of g mid ≡ faults_of g now
    sound_mid = subst (λ d. faults_of g mid ≡ faults_of g d) same h.sound

    leads_to : {room' : ℕ} {counts b : List ℕ} → LeadsBy lends (room_of start) start.strict room (suc (wanted - 1) ∷ reverse outer) room' counts b
        → LeadsBy lends (room_of start) start.strict room (wanted ∷ reverse outer) room' counts b
    leads_to {room'} {counts} {b} l = let one : suc (wanted - 1) ≡ wanted = omega (arith, some)
        in subst (λ t. LeadsBy lends (room_of start) start.strict room (t ∷ reverse outer) room' counts b) one l

    -- reading is as strict as it was at first
    as_strict : ready.strict ≡ start.strict
    as_strict = ap (λ d. d.strict) same ∙ w.stays.strict

    is_head : heads_of start.strict p.1 h.ok.bytes
    is_head = subst (λ z. heads_of z p.1 h.ok.bytes) as_strict h.ok.is_head

    stays_last : (last : R) → g.place last ≡ g.place mid.reader → Stays g now (record mid { reader = last })
    stays_last last l = stays_then g now mid _ stays_mid (record { config = refl; room = refl; limit = refl; strict = refl; place = l })

    -- a leaf was passed over
    pub wants_leaf : (n wanted' : ℕ) (last : R) → IsLeafHead p.1 n → PassesPayload g lends n mid.reader last (Ok tt) → wanted' ≡ wanted - 1
        → Wants g lends all start (record mid { reader = last }) room wanted' outer
    wants_leaf n wanted' last leaf r q =
        let c = r.ok in
        let first : Consumes (left g now) (g.ahead mid.reader) h.ok.bytes = rw (← (bare g mid h.clean)) heads in
        let l = leads_message start.strict (UnpassedFor lends (room_of start) start.strict) room (wanted - 1) (reverse outer) (leaf_of p.1 c.bytes) (h.ok.bytes ++ c.bytes)
        (leaf_spelled start.strict p.1 h.ok.bytes c.bytes leaf.leaf is_head (c.long ∙ sym leaf.long) c.are_bytes)
        (omega (arith, leaf_flat p.1 c.bytes, w.some)) in
        rw q (step (record mid { reader = last }) (h.ok.bytes ++ c.bytes) room (wanted - 1) outer
        (rw (bare g (record mid { reader = last }) h.clean) (Consumes-trans _ _ _ _ _ first c.taken)) (leads_to l) w.some refl (λ z. omega (arith, some)) h.failed
        h.clean (r.sound ∙ sound_mid) (stays_last last r.place))

    -- an empty list or map
    pub wants_empty : (is_map : Bool) (len wanted' : ℕ) → wanted' ≡ wanted - 1 → p.1 ≡ parts_head is_map len → parts_count is_map len ≡ 0 → 1 < room
        → Wants g lends all start mid room wanted' outer
    wants_empty is_map len wanted' q i z r =
        let down : suc (room - 1) ≡ room = omega (arith, r) in
        let head = subst (λ t. heads_of start.strict t h.ok.bytes) i is_head in
        let l = leads_in start.strict (UnpassedFor lends (room_of start) start.strict) is_map len (room - 1) (wanted - 1) (reverse outer) h.ok.bytes head in
        let o = leads_out start.strict (UnpassedFor lends (room_of start) start.strict) (room - 1) ((wanted - 1) ∷ reverse outer) (omega (arith, r)) in
        let l0 = subst (λ t. LeadsBy lends (room_of start) start.strict (suc (room - 1)) (suc (wanted - 1) ∷ reverse outer) (room - 1) (t ∷ (wanted - 1) ∷ reverse outer)
        h.ok.bytes) z l in
        let both = leads_then start.strict (UnpassedFor lends (room_of start) start.strict) (suc (room - 1)) (suc (wanted - 1) ∷ reverse outer) (room - 1)
        (0 ∷ (wanted - 1) ∷ reverse outer) (suc (room - 1)) ((wanted - 1) ∷ reverse outer) h.ok.bytes [] l0 o in
        let l1 = subst (λ t. LeadsBy lends (room_of start) start.strict t (suc (wanted - 1) ∷ reverse outer) t ((wanted - 1) ∷ reverse outer) (h.ok.bytes ++ [])) down both in
        let l2 = subst (λ t. LeadsBy lends (room_of start) start.strict room (suc (wanted - 1) ∷ reverse outer) room ((wanted - 1) ∷ reverse outer) t)
        (append-nil h.ok.bytes) l1 in
        rw q (step mid h.ok.bytes room (wanted - 1) outer heads (leads_to l2) w.some refl (λ z. omega (arith, some)) h.failed h.clean sound_mid stays_mid)

    -- a list or a map that isn't empty
    pub wants_in : (is_map : Bool) (len n room' wanted' : ℕ) (outer' : List ℕ) → n ≡ wanted - 1 → room' ≡ room - 1 → p.1 ≡ parts_head is_map len
        → wanted' ≡ parts_count is_map len → outer' ≡ outer ++ (n ∷ []) → 1 < room → Wants g lends all start mid room' wanted' outer'
    wants_in is_map len n room' wanted' outer' q d i c o r =
        let down : suc (room - 1) ≡ room = omega (arith, r) in
        let turned : reverse outer' ≡ (wanted - 1) ∷ reverse outer = ap reverse o ∙ reverse-append outer (n ∷ []) ∙ ap (λ t. t ∷ reverse outer) q in
        let long : length outer' ≡ length outer + 1 = ap length o ∙ length-append outer (n ∷ []) in
        let head = subst (λ t. heads_of start.strict t h.ok.bytes) i is_head in
        let l = leads_in start.strict (UnpassedFor lends (room_of start) start.strict) is_map len (room - 1) (wanted - 1) (reverse outer) h.ok.bytes head in
        let l1 = subst (λ t. LeadsBy lends (room_of start) start.strict t (suc (wanted - 1) ∷ reverse outer) (room - 1)
        (parts_count is_map len ∷ (wanted - 1) ∷ reverse outer) h.ok.bytes) down l in
        let l2 = subst (λ t. LeadsBy lends (room_of start) start.strict room (suc (wanted - 1) ∷ reverse outer) t (parts_count is_map len ∷ (wanted - 1) ∷ reverse outer)
        h.ok.bytes) (sym d) l1 in
        let l3 = subst (λ t. LeadsBy lends (room_of start) start.strict room (suc (wanted - 1) ∷ reverse outer) room' (t ∷ (wanted - 1) ∷ reverse outer) h.ok.bytes) (sym c)
        l2 in
        let l4 = subst (λ t. LeadsBy lends (room_of start) start.strict room (suc (wanted - 1) ∷ reverse outer) room' (wanted' ∷ t) h.ok.bytes) (sym turned) l3 in
        step mid h.ok.bytes room' wanted' outer' heads (leads_to l4) (omega (arith, d, r)) (omega (arith, d, r, long)) (λ z. omega (arith, some)) h.failed
        h.clean sound_mid stays_mid

    -- ---- what it opens is refused

    head_is : (is_map : Bool) (len : ℕ) → p.1 ≡ parts_head is_map len → heads_of start.strict (parts_head is_map len) h.ok.bytes
    head_is is_map len i = subst (λ t. heads_of start.strict t h.ok.bytes) i is_head

    -- there is no room for it
    pub wants_deep : (is_map : Bool) (len : ℕ) → p.1 ≡ parts_head is_map len → room ≤ 1 → SkipsParts g lends all start mid (Err errors.DepthLimitExceeded)
    wants_deep is_map len i r = fails mid errors.DepthLimitExceeded some h.failed stays_mid
        (λ _ _. parts_refused start.strict is_map (Readable any_tree) len room (left g now) (left g mid) h.ok.bytes heads (head_is is_map len i)
        (none_fits start.strict room (parts_count is_map len) r (left g mid)))
        (λ _. wrong_deep start.strict (UnpassedFor lends (room_of start) start.strict) any_row (unpassed lends (room_of start) start.strict) room is_map len (left g now) (left g mid)
        h.ok.bytes heads (head_is is_map len i) (omega (arith, r, w.some))) (none_told _ _ errors.DepthLimitExceeded sound_mid)

    -- there is no memory for how many are still wanted outside of it
    pub wants_memory : (is_map : Bool) (len : ℕ) → p.1 ≡ parts_head is_map len → 0 < parts_count is_map len
        → SkipsParts g lends all start mid (Err errors.OutOfMemory)
    wants_memory is_map len i s =
        let below = w.deep in
        let least = w.some in
        let inner : room < room_of start = omega (arith, below, least) in
        fails mid errors.OutOfMemory some h.failed stays_mid (λ o. absurd (o refl))
        (λ _. wrong_memory start.strict (UnpassedFor lends (room_of start) start.strict) any_row room (left g now) (left g mid) h.ok.bytes (parts_head is_map len) heads
        (head_is is_map len i)
        (λ xs m t. inr (inner, record { parts = record { is_map = is_map; len = len; marker = m; starts = t }; some = some_parts is_map len s })))
        (none_told _ _ errors.OutOfMemory sound_mid)

    -- the payload of a leaf couldn't be passed over
    pub wants_cut : (n : ℕ) (last : R) (e : Error) → IsLeafHead p.1 n → 0 < n → PassesPayload g lends n mid.reader last (Err e)
        → SkipsParts g lends all start (record mid { reader = last }) (Err e)
    wants_cut n last e leaf l r =
        let short : Explains e (faults_of g now) (g.faults last) (IsShort (content_len p.1) (left g mid))
        = λ o k. rw (bare g mid h.clean) (subst (λ z. IsShort z (g.ahead mid.reader)) (sym leaf.long) (r.err o (k ∙ sym sound_mid))) in
        fails (record mid { reader = last }) e some h.failed (stays_last last r.place)
        (λ o k. refuses_short start.strict (Readable any_tree) room (content_len p.1) (left g now) (left g mid) h.ok.bytes p.1 heads is_head (short o k)
        (λ m r q. subst (λ z. content_len z ≤ length (content_of m)) q (content_fills m))) (λ k. elim (is_memory e) [
          | inl m ↦ subst (λ z. RefusedFor start.strict (UnpassedFor lends (room_of start) start.strict) any_row room z (left g now)) (sym m)
              (wrong_memory start.strict (UnpassedFor lends (room_of start) start.strict) any_row room (left g now) (left g mid) h.ok.bytes p.1 heads is_head
              (λ xs k t. inl (unlent lends (λ q. r.memory q m), record { head = p.1; marker = k; starts = t; no_parts = leaf.leaf; some = subst (λ z. 0 < z) (sym leaf.long) l })))
          | inr o ↦ wrong_content start.strict (UnpassedFor lends (room_of start) start.strict) any_row (unpassed lends (room_of start) start.strict) room (left g now) (left g mid)
              h.ok.bytes p.1 e heads is_head (short o k) (r.end o (k ∙ sym sound_mid))
        ]) (tells_after _ _ _ e sound_mid r.fault)

  -- ---- no head could be taken

  module _ (ready mid : Deserializer R C) (e : Error) (same : ready ≡ record now { failed = false }) (some : 0 < wanted)
      (h : ReadsHead g ready mid (Err e)) where
    is_ready : ready.failed ≡ false
    is_ready = ap (λ d. d.failed) same

    pub wants_unread : SkipsParts g lends all start mid (Err e)
    wants_unread =
        let s = subst (λ d. Stays g d mid) same h.stays in
        let x = subst (λ z. Explains e (faults_of g now) (faults_of g mid) (NoMessage z (left g now))) w.stays.strict
        (subst (λ d. Explains e (faults_of g d) (faults_of g mid) (NoMessage d.strict (left g d))) same (h.err is_ready)) in
        let y = subst (λ z. EndsExactly z (faults_of g now) (faults_of g mid) (left g now) e) w.stays.strict
        (subst (λ d. EndsExactly d.strict (faults_of g d) (faults_of g mid) (left g d) e) same (h.ends is_ready)) in
        fails mid e some h.failed (record { config = s.config; room = s.room; limit = s.limit; strict = s.strict; place = s.place })
        (λ o k. refuses_none start.strict (Readable any_tree) room (left g now) (x o k)) (λ k. SkipLoop_none (left g now) k y)
        (subst (λ d. TellsFault (faults_of g d) (faults_of g mid) e) same (head_tells g ready mid e h))
      where
        SkipLoop_none : (known : Option (List ℕ)) → faults_of g mid ≡ faults_of g now → EndsExactly start.strict (faults_of g now) (faults_of g mid) known e
            → RefusedFor start.strict (UnpassedFor lends (room_of start) start.strict) any_row room e known
        SkipLoop_none known k x = wrong_none start.strict (UnpassedFor lends (room_of start) start.strict) any_row (unpassed lends (room_of start) start.strict) room (faults_of g now)
            (faults_of g mid) known e k x

-- no room for a list or a map
pub no_room : {R C : Type 0} (g : Ghosts R) (lends : Bool) (n : ℕ) (d : Deserializer R C) → d.failed ≡ true → d.room ≤ 1
    → SkipsParts g lends n d d (Err errors.DepthLimitExceeded)
no_room g lends n d f l = record {
  law = record {
    ok = tt;
    ready = tt;
    clean = tt;
    sound = tt;
    err = λ _ _. none_fits d.strict (room_of d) n (omega (arith, l)) (left g d);
    failed = f;
    stays = stays_refl g d;
  };
  deep = λ _. refl;
  exact = λ more. absurd (omega (arith, l, more));
  fault = none_told _ _ errors.DepthLimitExceeded refl;
  memory = λ _ m. absurd (cc);
}
