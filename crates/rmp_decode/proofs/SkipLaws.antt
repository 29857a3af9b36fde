-- What passing over a message says.
use Rattle.std.proofs.Common.{◌≡◌, ◌∙◌, sym, ap, subst, refl, ℕ, zero, suc, ◌-◌, ◌*◌, ◌<◌, ◌≤◌, max, arith, List, [], ◌∷◌, ◌++◌, length, Option}
use Rattle.std.proofs.Common.{Bool, true, false, Result, Ok, Err, append_assoc}
use Rattle.std.proofs.lemmas.List.{append-nil}
use Rattle.std.specs.Io.KnownBytes.{Consumes}
use Rattle.std.proofs.KnownBytes.{Consumes-trans}
use Rattle.rmp_wire.specs.declared.head.Head.{Head}
use Rattle.rmp_wire.specs.declared.head.Head.TheVariants.{Nil, Truth, Whole, F32Bits, F64Bits, Text, Bin, Array, Map, Ext}
use Rattle.rmp_wire.specs.declared.marker.Marker.{Marker}
use Rattle.rmp_wire.specs.declared.source.Source.{Ghosts}
use Rattle.rmp_wire.specs.Canonical.{heads_of, SpellsAs}
use Rattle.rmp_wire.specs.Msg.{Msg, nil, truth, whole, float32, float64, text, bin, list, map, extension, Msgs, no_items, item, Pairs, no_pairs, pair}
use Rattle.rmp_wire.specs.Msg.{count, count_pairs, depth, depth_all, depth_pairs}
use Rattle.rmp_wire.specs.Sources.{IsShort}
use Rattle.rmp_wire.specs.Spelling.{PairsSpelledBy, IsBytes, head_of}
use Rattle.rmp_wire.proofs.Strict.{heads_differ_as}
use Rattle.rmp_decode.specs.Ahead.{TakesLeaf, TakesPart}
use Rattle.rmp_decode.specs.BufferedHeads.{ConsumesHead}
use Rattle.rmp_decode.specs.Kinds.{content_len}
use Rattle.rmp_decode.specs.Law.{Refuses, Readable, Explains, Lawful, ReadsHead}
use Rattle.rmp_decode.specs.Open.{SpellsMany}
use Rattle.rmp_decode.specs.Seq.{SpellsRow, BeginsRow, RefusesRow}
use Rattle.rmp_decode.specs.Skip.{any_tree, any_row, parts_head, parts_count, Passes, SkipsRow}
use Rattle.rmp_decode.specs.State.{left, faults_of, room_of, kept_bytes, Stays}
use Rattle.rmp_decode.specs.declared.deserializer.Deserializer.{Deserializer}
use Rattle.rmp_decode.specs.declared.deserializer.Kept.TheVariants.{Nothing}
use Rattle.rmp_decode.specs.declared.deserializer.skip.Part.{Part}
use Rattle.rmp_decode.specs.declared.deserializer.skip.Part.TheVariants.{Parts, Leaf}
use Rattle.rmp_decode.specs.declared.error.Error.{Error}
use Rattle.rmp_decode.proofs.Contents.{bare}
use Rattle.rmp_decode.proofs.Laws.{refused, stays_then}
use Rattle.rmp_decode.proofs.NothingAccepted.{content_of, refuses_short, refuses_by, same_head}
use Rattle.rmp_decode.proofs.Rows.{in_list, listed}

-- ---- leaves

-- the message that is a leaf's head and content
abbrev pub leaf_of : Head → List ℕ → Msg
leaf_of Nil s = nil
leaf_of (Truth t) s = truth t
leaf_of (Whole z) s = whole z
leaf_of (F32Bits n) s = float32 n
leaf_of (F64Bits n) s = float64 n
leaf_of (Text n) s = text s
leaf_of (Bin n) s = bin s
leaf_of (Array n) s = nil
leaf_of (Map n) s = nil
leaf_of (Ext n tag) s = extension tag s

pub leaf_flat : (h : Head) (s : List ℕ) → depth (leaf_of h s) ≡ 0
leaf_flat Nil s = refl
leaf_flat (Truth t) s = refl
leaf_flat (Whole z) s = refl
leaf_flat (F32Bits n) s = refl
leaf_flat (F64Bits n) s = refl
leaf_flat (Text n) s = refl
leaf_flat (Bin n) s = refl
leaf_flat (Array n) s = refl
leaf_flat (Map n) s = refl
leaf_flat (Ext n tag) s = refl

no_bytes : (s : List ℕ) → length s ≡ 0 → s ≡ []
no_bytes [] e = refl
no_bytes (b ∷ s) e = absurd (omega arith)

alone : (w : Bool) (h : Head) (b s : List ℕ) → heads_of w h b → length s ≡ 0 → heads_of w h (b ++ s)
alone w h b s i l = subst (heads_of w h) (sym (append-nil b) ∙ ap (λ z. b ++ z) (sym (no_bytes s l))) i

pub leaf_spelled : (w : Bool) (h : Head) (b s : List ℕ) → ((p : Bool × ℕ) → h ≡ parts_head p.0 p.1 → ⊥) → heads_of w h b → length s ≡ content_len h
    → IsBytes s → SpellsAs w (b ++ s) (leaf_of h s)
leaf_spelled w Nil b s n i l a = alone w Nil b s i l
leaf_spelled w (Truth t) b s n i l a = alone w (Truth t) b s i l
leaf_spelled w (Whole z) b s n i l a = alone w (Whole z) b s i l
leaf_spelled w (F32Bits k) b s n i l a = alone w (F32Bits k) b s i l
leaf_spelled w (F64Bits k) b s n i l a = alone w (F64Bits k) b s i l
leaf_spelled w (Text k) b s n i l a = record {
  first = b;
  second = s;
  is_first = subst (λ z. heads_of w (Text z) b) (sym l) i;
  is_second = (refl, a);
  is_whole = refl;
}
leaf_spelled w (Bin k) b s n i l a = record {
  first = b;
  second = s;
  is_first = subst (λ z. heads_of w (Bin z) b) (sym l) i;
  is_second = (refl, a);
  is_whole = refl;
}
leaf_spelled w (Array k) b s n i l a = absurd (n (false, k) refl)
leaf_spelled w (Map k) b s n i l a = absurd (n (true, k) refl)
leaf_spelled w (Ext k tag) b s n i l a = record {
  first = b;
  second = s;
  is_first = subst (λ z. heads_of w (Ext z tag) b) (sym l) i;
  is_second = (refl, a);
  is_whole = refl;
}

pub content_fills : (m : Msg) → content_len (head_of m) ≤ length (content_of m)
content_fills nil = omega arith
content_fills (truth t) = omega arith
content_fills (whole z) = omega arith
content_fills (float32 n) = omega arith
content_fills (float64 n) = omega arith
content_fills (text s) = omega arith
content_fills (bin s) = omega arith
content_fills (list ms) = omega arith
content_fills (map ps) = omega arith
content_fills (extension tag s) = omega arith

-- ---- lists and maps as rows

-- keys and values in turn
abbrev pub in_turn : Pairs → Msgs
in_turn no_pairs = no_items
in_turn (pair k v ps) = item k (item v (in_turn ps))

pub count-in_turn : (ps : Pairs) → count (in_turn ps) ≡ 2 * count_pairs ps
count-in_turn no_pairs = refl
count-in_turn (pair k v ps) = let i = count-in_turn ps in omega arith

pub depth-in_turn : (ps : Pairs) → depth_all (in_turn ps) ≡ depth_pairs ps
depth-in_turn no_pairs = refl
depth-in_turn (pair k v ps) = let i = depth-in_turn ps in omega arith

pub turned : (w : Bool) (ps : Pairs) (b : List ℕ) → PairsSpelledBy (heads_of w) b ps → SpellsRow (SpellsAs w) b (in_turn ps)
turned w no_pairs b s = s
turned w (pair k v ps) b s = record {
  first = s.first;
  second = s.second;
  is_first = s.is_first;
  is_second = record {
    first = s.is_second.first;
    second = s.is_second.second;
    is_first = s.is_second.is_first;
    is_second = turned w ps s.is_second.second
        s.is_second.is_second;
    is_whole = s.is_second.is_whole;
  };
  is_whole = s.is_whole;
}

-- an even row is that of some pairs
pub record Paired (w : Bool) (ms : Msgs) (n : ℕ) (b : List ℕ) : Type 0 where
  pub pairs : Pairs
  pub is : ms ≡ in_turn pairs
  pub many : count_pairs pairs ≡ n
  pub spelled : PairsSpelledBy (heads_of w) b pairs

pub paired : (w : Bool) (ms : Msgs) (n : ℕ) (b : List ℕ) → count ms ≡ 2 * n → SpellsRow (SpellsAs w) b ms → Paired w ms n b
paired w no_items n b c s = record { pairs = no_pairs; is = refl; many = omega arith; spelled = s }
paired w (item k no_items) n b c s = absurd (omega arith)
paired w (item k (item v ms)) zero b c s = absurd (omega arith)
paired w (item k (item v ms)) (suc n) b c s =
    let r = paired w ms n s.is_second.second (omega arith) s.is_second.is_second in
    record {
      pairs = pair k v r.pairs;
      is = ap (λ z. item k (item v z)) r.is;
      many = ap suc r.many;
      spelled = record {
        first = s.first;
        second = s.second;
        is_first = s.is_first;
        is_second = record {
          first = s.is_second.first;
          second = s.is_second.second;
          is_first = s.is_second.is_first;
          is_second = r.spelled;
          is_whole = s.is_second.is_whole;
        };
        is_whole = s.is_whole;
      };
    }

-- a list or a map, from its head and its parts
pub record Nest (w : Bool) (ms : Msgs) (bytes : List ℕ) : Type 0 where
  pub tree : Msg
  pub spelled : SpellsAs w bytes tree
  pub deep : depth tree ≡ suc (depth_all ms)

pub nest_of : (w is_map : Bool) (n : ℕ) (ms : Msgs) (head bytes : List ℕ) → heads_of w (parts_head is_map n) head → SpellsRow (SpellsAs w) bytes ms
    → count ms ≡ parts_count is_map n → Nest w ms (head ++ bytes)
nest_of w true n ms head bytes i s c =
    let p = paired w ms n bytes c s in
    record {
      tree = map p.pairs;
      spelled = record { first = head; second = bytes; is_first = subst (λ z. heads_of w (Map z) head) (sym p.many) i; is_second = p.spelled; is_whole = refl };
      deep = ap suc (sym (depth-in_turn p.pairs) ∙ ap depth_all (sym p.is));
    }
nest_of w false n ms head bytes i s c =
    record {
      tree = list ms;
      spelled = record {
        first = head;
        second = bytes;
        is_first = subst (λ z. heads_of w (Array z) head) (sym c) i;
        is_second = in_list w ms bytes s;
        is_whole = refl;
      };
      deep = refl;
    }

-- what follows the head of a list or a map
pub record PartsAfter (w : Bool) (room n : ℕ) (x y : List ℕ) : Type 0 where
  pub bytes : List ℕ
  pub front : y ≡ bytes ++ x
  pub spelled : SpellsMany w room n bytes

pub parts_after : (w is_map : Bool) (m : Msg) (n room : ℕ) (a x y : List ℕ) → SpellsAs w a m → head_of m ≡ parts_head is_map n → depth m < suc room
    → ((d c : List ℕ) → a ≡ d ++ c → heads_of w (head_of m) d → c ++ x ≡ y) → PartsAfter w room (parts_count is_map n) x y
parts_after w true nil n room a x y s e d f = absurd (cc)
parts_after w true (truth t) n room a x y s e d f = absurd (cc)
parts_after w true (whole z) n room a x y s e d f = absurd (cc)
parts_after w true (float32 k) n room a x y s e d f = absurd (cc)
parts_after w true (float64 k) n room a x y s e d f = absurd (cc)
parts_after w true (text t) n room a x y s e d f = absurd (cc)
parts_after w true (bin t) n room a x y s e d f = absurd (cc)
parts_after w true (list ms) n room a x y s e d f = absurd (cc)
parts_after w true (map ps) n room a x y s e d f =
    let same : count_pairs ps ≡ n = cc in
    record {
      bytes = s.second;
      front = sym (f s.first s.second s.is_whole s.is_first);
      spelled = record {
        trees = in_turn ps;
        spelled = turned w ps s.second s.is_second;
        many = count-in_turn ps
            ∙ ap (λ z. 2 * z) same;
        fits = omega (arith, depth-in_turn ps, d);
      };
    }
parts_after w true (extension tag t) n room a x y s e d f = absurd (cc)
parts_after w false nil n room a x y s e d f = absurd (cc)
parts_after w false (truth t) n room a x y s e d f = absurd (cc)
parts_after w false (whole z) n room a x y s e d f = absurd (cc)
parts_after w false (float32 k) n room a x y s e d f = absurd (cc)
parts_after w false (float64 k) n room a x y s e d f = absurd (cc)
parts_after w false (text t) n room a x y s e d f = absurd (cc)
parts_after w false (bin t) n room a x y s e d f = absurd (cc)
parts_after w false (list ms) n room a x y s e d f =
    let same : count ms ≡ n = cc in
    record {
      bytes = s.second;
      front = sym (f s.first s.second s.is_whole s.is_first);
      spelled = record
          { trees = ms; spelled = listed w ms s.second s.is_second; many = same; fits = omega (arith, d) };
    }
parts_after w false (map ps) n room a x y s e d f = absurd (cc)
parts_after w false (extension tag t) n room a x y s e d f = absurd (cc)

parts_of : (w is_map : Bool) (m : Msg) (n room : ℕ) (a x y : List ℕ) → SpellsAs w a m → head_of m ≡ parts_head is_map n → depth m < room
    → ((d c : List ℕ) → a ≡ d ++ c → heads_of w (head_of m) d → c ++ x ≡ y) → BeginsRow (SpellsAs w) any_row (room - 1) (parts_count is_map n) y
parts_of w is_map m n room a x y s e d f =
    let p = parts_after w is_map m n (room - 1) a x y s e (omega (arith, d)) f in
    let q = p.spelled in
    record { bytes = p.bytes; rest = x; trees = q.trees; front = p.front; spelled = q.spelled; many = q.many; fits = q.fits; holds = tt }

-- where no row is after the head, no message is before it
pub parts_refused : (w is_map : Bool) (P : Msg → Type 0) (n room : ℕ) (known k : Option (List ℕ)) (b : List ℕ) → Consumes known k b
    → heads_of w (parts_head is_map n) b → RefusesRow (SpellsAs w) any_row (room - 1) (parts_count is_map n) k → Refuses (SpellsAs w) P room known
unfolding RefusesRow
parts_refused w is_map P n room known k b t i r = refuses_by w P room known k b t (λ ys e a.
    let split : a.bytes ++ a.rest ≡ b ++ ys = sym a.front in
    let u = same_head _ a.tree (parts_head is_map n) a.bytes b a.rest ys a.spelled i split in
    let none : BeginsRow (SpellsAs w) any_row (room - 1) (parts_count is_map n) ys → ⊥ = rw e at r in
    none (parts_of w is_map a.tree n room a.bytes a.rest ys a.spelled u.0 a.fits
    (λ d c q j. (heads_differ_as w (head_of a.tree) (parts_head is_map n) d b (c ++ a.rest) ys j i
    (sym (append_assoc d c a.rest) ∙ ap (λ z. z ++ a.rest) (sym q) ∙ split)).2)))

-- ---- the answers

module _ {R C : Type 0} (g : Ghosts R) (old mid new : Deserializer R C) (p : Marker × Head) (h : ReadsHead g old mid (Ok p)) where
  -- a leaf was passed over
  pub skipped_leaf : ((q : Bool × ℕ) → p.1 ≡ parts_head q.0 q.1 → ⊥) → Passes (content_len p.1) (g.ahead mid.reader) (g.ahead new.reader)
      → new.kept ≡ mid.kept → new.failed ≡ false → faults_of g new ≡ faults_of g mid → Stays g mid new → Lawful g any_tree old new (Ok tt)
  skipped_leaf n c k f q st =
      let clean : new.kept ≡ Nothing = k ∙ h.clean in
      let first : Consumes (left g old) (g.ahead mid.reader) h.ok.bytes = rw (← (bare g mid h.clean)) h.ok.takes in
      record {
        ok = record {
          bytes = h.ok.bytes ++ c.bytes;
          tree = leaf_of p.1 c.bytes;
          takes = rw (bare g new clean) (Consumes-trans _ _ _ _ _ first c.taken);
          goes_on = record {
            more = h.ok.goes_on.more ++ c.bytes;
            whole = ap (λ z. z ++ c.bytes) h.ok.goes_on.whole
                ∙ append_assoc (kept_bytes old.kept) h.ok.goes_on.more c.bytes;
          };
          spelled = leaf_spelled old.strict p.1 h.ok.bytes c.bytes n h.ok.is_head c.long c.are_bytes;
          fits = omega (arith, leaf_flat p.1 c.bytes);
          value = tt;
        };
        ready = f;
        clean = clean;
        sound = q ∙ h.sound;
        err = λ _. tt;
        failed = tt;
        before = λ b. absurd (let o = h.fresh in cc);
        stays = stays_then g old mid new h.stays st;
      }

  -- its content is cut
  pub skipped_short : (e : Error) → Explains e (g.faults mid.reader) (g.faults new.reader) (IsShort (content_len p.1) (g.ahead mid.reader))
      → new.failed ≡ true → Stays g mid new → Lawful g any_tree old new (Err e)
  skipped_short e x f st = refused g any_tree old new e h.fresh f (stays_then g old mid new h.stays st) (λ o k.
      let s : IsShort (content_len p.1) (left g mid) = rw (bare g mid h.clean) (x o (k ∙ sym h.sound)) in
      refuses_short _ (Readable any_tree) _ (content_len p.1) (left g old) (left g mid) h.ok.bytes p.1 h.ok.takes h.ok.is_head s
      (λ m r q. subst (λ z. content_len z ≤ length (content_of m)) q (content_fills m)))

  -- a list or a map was passed over
  pub skipped_nest : (is_map : Bool) (n : ℕ) → p.1 ≡ parts_head is_map n → SkipsRow g (room_of mid - 1) (parts_count is_map n) mid new (Ok tt)
      → Lawful g any_tree old new (Ok tt)
  skipped_nest is_map n i s =
      let r = s.ok in
      let w = nest_of old.strict is_map n r.trees h.ok.bytes r.bytes (subst (λ z. heads_of old.strict z h.ok.bytes) i h.ok.is_head)
      (subst (λ z. SpellsRow (SpellsAs z) r.bytes r.trees) h.stays.strict r.spelled) r.many in
      let room : room_of mid ≡ room_of old = ap (λ z. max 1 z) h.stays.room in
      record {
        ok = record {
          bytes = h.ok.bytes ++ r.bytes;
          tree = w.tree;
          takes = Consumes-trans _ _ _ _ _ h.ok.takes r.takes;
          goes_on = record {
            more = h.ok.goes_on.more ++ r.bytes;
            whole = ap (λ z. z ++ r.bytes) h.ok.goes_on.whole
                ∙ append_assoc (kept_bytes old.kept) h.ok.goes_on.more r.bytes;
          };
          spelled = w.spelled;
          fits = omega (arith, w.deep, r.fits, room);
          value = tt;
        };
        ready = s.ready;
        clean = s.clean;
        sound = s.sound ∙ h.sound;
        err = λ _. tt;
        failed = tt;
        before = λ b. absurd (let o = h.fresh in cc);
        stays = stays_then g old mid new h.stays s.stays;
      }

  pub unskipped_nest : (is_map : Bool) (n : ℕ) (e : Error) → p.1 ≡ parts_head is_map n → SkipsRow g (room_of mid - 1) (parts_count is_map n) mid new (Err e)
      → Lawful g any_tree old new (Err e)
  unskipped_nest is_map n e i s = refused g any_tree old new e h.fresh s.failed (stays_then g old mid new h.stays s.stays) (λ o k.
      let room : room_of mid ≡ room_of old = ap (λ z. max 1 z) h.stays.room in
      let r = s.err o (k ∙ sym h.sound) in
      parts_refused old.strict is_map (Readable any_tree) n (room_of old) (left g old) (left g mid) h.ok.bytes h.ok.takes
      (subst (λ z. heads_of old.strict z h.ok.bytes) i h.ok.is_head)
      (subst (λ z. RefusesRow (SpellsAs z) any_row (room_of old - 1) (parts_count is_map n) (left g mid)) h.stays.strict
      (subst (λ z. RefusesRow (SpellsAs mid.strict) any_row (z - 1) (parts_count is_map n) (left g mid)) room r)))

  pub nest : (is_map : Bool) (n : ℕ) (r : Result (Unit {0}) Error) → p.1 ≡ parts_head is_map n
      → SkipsRow g (room_of mid - 1) (parts_count is_map n) mid new r → Lawful g any_tree old new r
  nest is_map n (Ok u) i s = skipped_nest is_map n i s
  nest is_map n (Err e) i s = unskipped_nest is_map n e i s

-- ---- the head that was taken

module _ {R C : Type 0} (g : Ghosts R) (p : Part) (old new : Deserializer R C) (t : TakesPart g p old new) where
  pub parts_taken : (is_map : Bool) (n : ℕ) → p ≡ Parts is_map n → ConsumesHead g (parts_head is_map n) old new
  parts_taken is_map n e = subst (λ z. TakesPart g z old new) e t

  pub leaf_taken : (len : ℕ) → p ≡ Leaf len → TakesLeaf g len old new
  leaf_taken len e = subst (λ z. TakesPart g z old new) e t
