-- Why a message can't be passed over.
use Rattle.std.proofs.Common.{◌≡◌, ◌≢◌, ◌∙◌, refl, true, false, sym, subst, ℕ, ◌-◌, ◌<◌, inl, inr, arith, List, Bool, Option, None, Some, IfSome, max, ap}
use Rattle.std.proofs.Common.{Result, Ok, Err, IfErr}
use Rattle.std.proofs.lemmas.Bool.{cases_lt}
use Rattle.rmp_wire.specs.declared.head.Head.{Head}
use Rattle.rmp_wire.specs.declared.marker.Marker.{Marker}
use Rattle.rmp_wire.specs.declared.source.Source.{Ghosts}
use Rattle.rmp_wire.specs.Canonical.{heads_of}
use Rattle.rmp_wire.specs.Sources.{IsShort}
use Rattle.rmp_decode.specs.Ahead.{TakesLeaf}
use Rattle.rmp_decode.specs.BufferedHeads.{ConsumesHead}
use Rattle.rmp_decode.specs.Exact.{BeginsWith, IsDataEnd, TellsFault}
use Rattle.rmp_decode.specs.Kinds.{content_len}
use Rattle.rmp_decode.specs.Law.{Explains, ReadsHead}
use Rattle.rmp_decode.specs.Refuse.{IsWrong, OpensSome, UnpassedFor, RefusedFor, RowRefusedFor, RefusesFirst, RefusesRowFirst, SkipsMessage, SkipsParts}
use Rattle.rmp_decode.specs.Skip.{Passes, PassesPayload, any_row, any_tree, parts_head, parts_count}
use Rattle.rmp_decode.specs.State.{left, faults_of, room_of}
use Rattle.rmp_decode.specs.declared.deserializer.Deserializer.{Deserializer}
use Rattle.rmp_decode.specs.declared.error.Error.{Error}
use Rattle.rmp_decode.specs.declared.error.Error.TheVariants as errors
use Rattle.rmp_decode.proofs.Contents.{bare}
use Rattle.rmp_decode.proofs.Faults.{head_tells, tells_after}
use Rattle.rmp_decode.proofs.FirstFault.{is_memory, wrong_none, wrong_content, wrong_memory, wrong_deep, wrong_nest}
use Rattle.rmp_decode.proofs.Laws.{refused_none}
use Rattle.rmp_decode.proofs.SkipLaws.{nest, skipped_leaf, skipped_short}

-- what is wrong with a message is a reason why it can't be passed over
pub unpassed : (lends : Bool) (top : ℕ) (w : Bool) (room : ℕ) (e : Error) (xs : List ℕ) → IsWrong w room e xs → UnpassedFor lends top w room e xs
unpassed lends top s room (errors.InvalidMarkerRead x) xs w = w
unpassed lends top s room (errors.InvalidDataRead x) xs w = w
unpassed lends top s room (errors.TypeMismatch m) xs w = w
unpassed lends top s room errors.OutOfRange xs w = w
unpassed lends top s room (errors.LengthMismatch n) xs w = w
unpassed lends top s room (errors.Uncategorized n) xs w = w
unpassed lends top s room (errors.Syntax n) xs w = w
unpassed lends top s room (errors.Utf8Error n) xs w = w
unpassed lends top s room errors.DepthLimitExceeded xs w = w
unpassed lends top s room errors.OutOfMemory xs w = absurd w
unpassed lends top s room errors.NotCanonical xs w = w

pub some_parts : (is_map : Bool) (n : ℕ) → 0 < parts_count is_map n → 0 < n
some_parts true n l = omega (arith, l)
some_parts false n l = l

-- no head could be taken
pub none_wrong : {R C : Type 0} (g : Ghosts R) (lends : Bool) (old new : Deserializer R C) (e : Error) → ReadsHead g old new (Err e)
    → RefusesFirst g (UnpassedFor lends (room_of old)) any_row old new e
none_wrong g lends old new e h = λ f k. wrong_none old.strict (UnpassedFor lends (room_of old) old.strict) any_row (unpassed lends (room_of old) old.strict) (room_of old)
    (faults_of g old) (faults_of g new) (left g old) e k (h.ends f)

-- what lends isn't short of memory
pub unlent : (lends : Bool) → (lends ≡ true → ⊥) → lends ≡ false
unlent true f = absurd (f refl)
unlent false f = refl

module _ {R C : Type 0} (g : Ghosts R) (lends : Bool) (old mid new : Deserializer R C) (p : Marker × Head) (h : ReadsHead g old mid (Ok p)) where
  -- the content of a leaf couldn't be passed over
  pub leaf_wrong : (e : Error) → (lends ≡ true → e ≢ errors.OutOfMemory) → ((q : Bool × ℕ) → p.1 ≡ parts_head q.0 q.1 → ⊥)
      → 0 < content_len p.1 → Explains e (g.faults mid.reader) (g.faults new.reader) (IsShort (content_len p.1) (g.ahead mid.reader))
      → Explains e (g.faults mid.reader) (g.faults new.reader) (IsDataEnd e)
      → RefusesFirst g (UnpassedFor lends (room_of old)) any_row old new e
  leaf_wrong e w n l s d = λ _ k. elim (is_memory e) [
    | inl m ↦ subst (λ z. RefusedFor old.strict (UnpassedFor lends (room_of old) old.strict) any_row (room_of old) z (left g old)) (sym m)
        (wrong_memory old.strict (UnpassedFor lends (room_of old) old.strict) any_row (room_of old) (left g old) (left g mid) h.ok.bytes p.1 h.ok.takes h.ok.is_head
        (λ xs k t. inl (unlent lends (λ q. w q m), record { head = p.1; marker = k; starts = t; no_parts = n; some = l })))
    | inr o ↦
        let same = k ∙ sym h.sound in
        let short : IsShort (content_len p.1) (left g mid) = rw (bare g mid h.clean) (s o same) in
        wrong_content old.strict (UnpassedFor lends (room_of old) old.strict) any_row (unpassed lends (room_of old) old.strict) (room_of old) (left g old) (left g mid) h.ok.bytes p.1 e
        h.ok.takes h.ok.is_head short (d o same)
  ]

  -- a list or a map couldn't be passed over
  refused_nest : (is_map : Bool) (n : ℕ) (e : Error) → p.1 ≡ parts_head is_map n → (room_of mid ≡ 1 → e ≡ errors.DepthLimitExceeded)
      → (1 < room_of mid → RefusesRowFirst g (UnpassedFor lends (room_of mid)) any_row (room_of mid - 1) (parts_count is_map n) mid new e)
      → RefusesFirst g (UnpassedFor lends (room_of old)) any_row old new e
  refused_nest is_map n e i deep row = λ _ k.
      let room : mid.room ≡ old.room = h.stays.room in
      let top : room_of mid ≡ room_of old = ap (max 1) room in
      let head = subst (λ z. heads_of old.strict z h.ok.bytes) i h.ok.is_head in
      elim (cases_lt 1 (room_of mid)) [
        | inl more ↦ wrong_nest old.strict (UnpassedFor lends (room_of old) old.strict) any_row (room_of old) (room_of mid - 1) is_map n (left g old) (left g mid)
            h.ok.bytes e h.ok.takes head (omega (arith, room, more))
            (subst (λ z. RowRefusedFor z (UnpassedFor lends (room_of old) z) any_row (room_of mid - 1) (parts_count is_map n) e (left g mid)) h.stays.strict
            (subst (λ z. RowRefusedFor mid.strict (UnpassedFor lends z mid.strict) any_row (room_of mid - 1) (parts_count is_map n) e (left g mid)) top
            (row more (k ∙ sym h.sound))))
        | inr one ↦ subst (λ z. RefusedFor old.strict (UnpassedFor lends (room_of old) old.strict) any_row (room_of old) z (left g old)) (sym (deep (omega (arith, one))))
            (wrong_deep old.strict (UnpassedFor lends (room_of old) old.strict) any_row (unpassed lends (room_of old) old.strict) (room_of old) is_map n (left g old) (left g mid)
            h.ok.bytes h.ok.takes head (omega (arith, room, one)))
      ]

  pub nest_wrong : (is_map : Bool) (n : ℕ) (r : Result (Unit {0}) Error) → p.1 ≡ parts_head is_map n
      → IfErr r (λ e. room_of mid ≡ 1 → e ≡ errors.DepthLimitExceeded)
      → IfErr r (λ e. 1 < room_of mid → RefusesRowFirst g (UnpassedFor lends (room_of mid)) any_row (room_of mid - 1) (parts_count is_map n) mid new e)
      → IfErr r (RefusesFirst g (UnpassedFor lends (room_of old)) any_row old new)
  nest_wrong is_map n (Ok u) i deep row = tt
  nest_wrong is_map n (Err e) i deep row = refused_nest is_map n e i deep row

  some_open : (is_map : Bool) (n : ℕ) (known : Option (List ℕ)) → IfSome known (BeginsWith old.strict p.0 p.1) → p.1 ≡ parts_head is_map n → 0 < n
      → IfSome known (OpensSome old.strict)
  some_open is_map n None s i l = tt
  some_open is_map n (Some xs) s i l = record {
    parts = record
        { is_map = is_map; len = n; marker = p.0; starts = subst (λ z. BeginsWith old.strict p.0 z xs) i s };
    some = l;
  }

  -- memory was short after the head of a list or a map
  pub nest_memory : (is_map : Bool) (n : ℕ) (r : Result (Unit {0}) Error) → p.1 ≡ parts_head is_map n
      → IfErr r (λ e. e ≡ errors.OutOfMemory → 0 < parts_count is_map n)
      → IfErr r (λ e. e ≡ errors.OutOfMemory → IfSome (left g old) (OpensSome old.strict))
  nest_memory is_map n (Ok u) i l = tt
  nest_memory is_map n (Err e) i l = λ o. some_open is_map n (left g old) h.marked i (some_parts is_map n (l o))

-- ---- what happened at one message, each once

module _ {R C : Type 0} (g : Ghosts R) (lends : Bool) (old mid : Deserializer R C) where
  -- no head was there, or a read had failed before
  pub skip_none : (e : Error) → ReadsHead g old mid (Err e) → SkipsMessage g lends old mid (Err e)
  skip_none e h = record {
    law = refused_none g any_tree old mid e h;
    exact = none_wrong g lends old mid e h;
    fault = head_tells g old mid e h;
    memory = λ _ m. absurd (h.memory m);
  }

  -- a leaf was passed over
  pub skip_passed : (n : ℕ) (last : R) → TakesLeaf g n old mid → PassesPayload g lends n mid.reader last (Ok tt)
      → SkipsMessage g lends old (record mid { reader = last; failed = false }) (Ok tt)
  skip_passed n last t r = record {
    law = skipped_leaf g old mid (record mid { reader = last; failed = false }) (t.taken.marker, t.head) t.taken.begun t.is_leaf.leaf
        (subst (λ z. Passes z (g.ahead mid.reader) (g.ahead last)) (sym t.is_leaf.long) r.ok) refl refl r.sound
        (record { config = refl; room = refl; limit = refl; strict = refl; place = r.place });
    exact = tt;
    fault = tt;
    memory = λ _. tt;
  }

  -- its payload couldn't be
  pub skip_cut : (n : ℕ) (last : R) (e : Error) → TakesLeaf g n old mid → 0 < n → PassesPayload g lends n mid.reader last (Err e)
      → SkipsMessage g lends old (record mid { reader = last }) (Err e)
  skip_cut n last e t l r =
      let h = t.taken.begun in
      let short : Explains e (g.faults mid.reader) (g.faults last) (IsShort (content_len t.head) (g.ahead mid.reader))
      = λ o k. subst (λ z. IsShort z (g.ahead mid.reader)) (sym t.is_leaf.long) (r.err o k) in
      record {
        law = skipped_short g old mid (record mid { reader = last }) (t.taken.marker, t.head) h e short h.failed
            (record { config = refl; room = refl; limit = refl; strict = refl; place = r.place });
        exact = leaf_wrong g lends old mid (record mid { reader = last }) (t.taken.marker, t.head) h e r.memory t.is_leaf.leaf
            (subst (λ z. 0 < z) (sym t.is_leaf.long) l) short r.end;
        fault = tells_after _ _ _ e h.sound r.fault;
        memory = λ y m. absurd (r.memory y m);
      }

  -- a list or a map was passed over, or one of its parts couldn't be
  pub skip_nested : (is_map : Bool) (n count : ℕ) (new : Deserializer R C) (result : Result (Unit {0}) Error) → ConsumesHead g (parts_head is_map n) old mid
      → count ≡ parts_count is_map n → SkipsParts g lends count mid new result → SkipsMessage g lends old new result
  skip_nested is_map n count new result p same r =
      let h = p.begun in
      let s : SkipsParts g lends (parts_count is_map n) mid new result = subst (λ z. SkipsParts g lends z mid new result) same r in
      record {
        law = nest g old mid new (p.marker, parts_head is_map n) h is_map n result refl s.law;
        exact = nest_wrong g lends old mid new (p.marker, parts_head is_map n) h is_map n result refl s.deep s.exact;
        fault = subst (λ z. IfErr result (TellsFault z (faults_of g new))) h.sound s.fault;
        memory = λ y. nest_memory g lends old mid new (p.marker, parts_head is_map n) h is_map n result refl (s.memory y);
      }
