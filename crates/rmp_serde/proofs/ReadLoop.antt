-- Reading all that open lists and maps want, by heads.
use Rattle.std.proofs.Common.{
  ◌≡◌,
  ◌≢◌,
  ◌∙◌,
  sym,
  ap,
  subst,
  refl,
  ℕ,
  suc,
  ◌+◌,
  ◌-◌,
  ◌<◌,
  ◌≤◌,
  ◌⊎◌,
  take,
  drop,
  arith,
  inl,
  inr,
  List,
  [],
  ◌∷◌,
  ◌++◌,
  length,
  reverse,
  Option,
  None,
  Some,
  Bool,
  true,
  false,
  Ok,
  Err,
  append_assoc,
  IsUtf8,
}
use Rattle.std.specs.List.{AllByRecursion}
use Rattle.std.proofs.Math.Seq.{drop-append_seam, take-length}
use Rattle.std.proofs.lemmas.List.{append-nil, reverse-append, length-append}
use Rattle.std.specs.Io.KnownBytes.{Consumes}
use Rattle.std.proofs.KnownBytes.{Consumes-nil, Consumes-trans}
use Rattle.rmp_wire.specs.declared.head.Head.{Head}
use Rattle.rmp_wire.specs.declared.head.Head.TheVariants as head
use Rattle.rmp_wire.specs.declared.marker.Marker.{Marker}
use Rattle.rmp_wire.specs.declared.source.Source.{Ghosts}
use Rattle.rmp_wire.specs.Canonical.{heads_of, SpellsAs}
use Rattle.rmp_wire.specs.Heads.{fits_head}
use Rattle.rmp_wire.specs.Msg.{Msg, nil, truth, whole, float32, float64, text, bin, list, map, extension, Msgs, no_items, item, count, depth_all}
use Rattle.rmp_wire.specs.Spelling.{head_of}
use Rattle.rmp_wire.specs.Sources.{IsShort}
use Rattle.rmp_wire.proofs.Canon.{head_fits}
use Rattle.rmp_wire.proofs.Strict.{heads_differ_as}
use Rattle.rmp_decode.specs.Exact.{EndsExactly}
use Rattle.rmp_decode.specs.Anys.{StartsWithNoText, FailsContent, FailsText}
use Rattle.rmp_decode.specs.Kinds.{content_len}
use Rattle.rmp_decode.specs.Law.{Begins, Refuses, Readable, NoMessage, Explains, ReadsHead}
use Rattle.rmp_decode.specs.Refuse.{RowRefusal, RefusedFor, RowRefusedFor, RefusesRowFirst}
use Rattle.rmp_decode.specs.Seq.{SpellsRow, RefusesRow}
use Rattle.rmp_decode.specs.Skip.{any_row, parts_head, parts_count}
use Rattle.rmp_decode.specs.State.{left, faults_of, room_of, failed_of, Stays}
use Rattle.rmp_decode.specs.declared.deserializer.Deserializer.{Deserializer}
use Rattle.rmp_decode.specs.declared.deserializer.Kept.TheVariants.{Nothing}
use Rattle.rmp_decode.specs.declared.error.Error.{Error}
use Rattle.rmp_decode.specs.declared.error.Error.TheVariants as errors
use Rattle.rmp_decode.proofs.Contents.{bare, text_content}
use Rattle.rmp_decode.proofs.Laws.{stays_then, stays_refl}
use Rattle.rmp_decode.proofs.NothingAccepted.{content_of, refuses_short, refuses_none, refuses_by, same_head}
use Rattle.rmp_decode.proofs.SkipLaws.{leaf_of, leaf_flat, leaf_spelled, content_fills, parts_refused}
use Rattle.rmp_decode.proofs.SkipLoop.{to_do, falls_leaf, falls_in}
use Rattle.rmp_decode.proofs.FirstFault.{wrong_none, wrong_content, wrong_deep}
use Rattle.rmp_serde.specs.Flat.{heads_in, EndsBy}
use Rattle.rmp_serde.specs.Read.{AllTextsUtf8, ItemsUtf8, reads_value}
use Rattle.rmp_serde.specs.ReadParts.{IsLeafHead, ContentUtf8, TakesLeaf, FailsLeaf, Enters, ReadsTrees}
use Rattle.rmp_serde.specs.Refuse.{UnreadFor}
use Rattle.rmp_serde.specs.Tokens.{Token, tokens, tokens_all}
use Rattle.rmp_serde.specs.declared.value.flat.Node.{Node}
use Rattle.rmp_serde.proofs.FlatMade.{heads_stay}
use Rattle.rmp_serde.proofs.Leading.{trees_none, trees_then, trees_message, trees_in, trees_out, no_row_tree}
use Rattle.rmp_serde.proofs.OpenTrees.{SpellsOpenTrees, AfterTrees, LeadsTrees}
use Rattle.rmp_serde.proofs.Refusing.{wider, wrong_piece}

-- ---- leaves

no_bytes : (s : List ℕ) → length s ≡ 0 → s ≡ []
no_bytes [] e = refl
no_bytes (b ∷ s) e = absurd (omega arith)

abbrev token : Head → List ℕ → List Token
token h s = (h, s) ∷ []

bare_token : (h : Head) (s : List ℕ) → length s ≡ 0 → token h [] ≡ token h s
bare_token h s l = ap (token h) (sym (no_bytes s l))

-- a leaf has its head and its content alone
pub leaf_tokens : (h : Head) (s : List ℕ) → IsLeafHead h → length s ≡ content_len h → tokens (leaf_of h s) ≡ (h, s) ∷ []
leaf_tokens head.Nil s n l = bare_token head.Nil s l
leaf_tokens (head.Truth t) s n l = bare_token (head.Truth t) s l
leaf_tokens (head.Whole z) s n l = bare_token (head.Whole z) s l
leaf_tokens (head.F32Bits k) s n l = bare_token (head.F32Bits k) s l
leaf_tokens (head.F64Bits k) s n l = bare_token (head.F64Bits k) s l
leaf_tokens (head.Text k) s n l = ap (λ z. (head.Text z, s) ∷ []) l
leaf_tokens (head.Bin k) s n l = ap (λ z. (head.Bin z, s) ∷ []) l
leaf_tokens (head.Array k) s n l = absurd (n (false, k) refl)
leaf_tokens (head.Map k) s n l = absurd (n (true, k) refl)
leaf_tokens (head.Ext k tag) s n l = ap (λ z. (head.Ext z tag, s) ∷ []) l

pub leaf_utf8 : (h : Head) (s : List ℕ) → ContentUtf8 h s → AllTextsUtf8 (leaf_of h s)
leaf_utf8 head.Nil s u = tt
leaf_utf8 (head.Truth t) s u = tt
leaf_utf8 (head.Whole z) s u = tt
leaf_utf8 (head.F32Bits k) s u = tt
leaf_utf8 (head.F64Bits k) s u = tt
leaf_utf8 (head.Text k) s u = u
leaf_utf8 (head.Bin k) s u = tt
leaf_utf8 (head.Array k) s u = tt
leaf_utf8 (head.Map k) s u = tt
leaf_utf8 (head.Ext k tag) s u = tt

-- a head has room for what it says
pub fits_as : (w : Bool) (h : Head) (b : List ℕ) → heads_of w h b → fits_head h
fits_as true h b i = head_fits h b i.is_head
fits_as false h b i = head_fits h b i

-- a node for content that was put to the end of the buffer
pub leaf_told : (row : List Node) (before s after : List ℕ) (h : Head) (at : ℕ) → AllByRecursion (EndsBy (length before)) row → after ≡ before ++ s
    → at ≡ length before → length s ≡ content_len h
    → heads_in after row ++ (h, take (content_len h) (drop at after)) ∷ [] ≡ heads_in before row ++ (h, s) ∷ []
leaf_told row before s after h at a e l n =
    let content : take (content_len h) (drop at after) ≡ s = ap (λ z. take z (drop at after)) (sym n) ∙ ap (λ z. take (length s) (drop z after)) l
    ∙ ap (λ z. take (length s) (drop (length before) z)) e ∙ ap (take (length s)) (drop-append_seam before s) ∙ take-length s in
    let heads : heads_in after row ≡ heads_in before row = ap (λ z. heads_in z row) e ∙ heads_stay row before s a in
    ap (λ z. z ++ (h, take (content_len h) (drop at after)) ∷ []) heads ∙ ap (λ z. heads_in before row ++ (h, z) ∷ []) content

-- content that is all there is
pub kept_whole : (n : ℕ) (s after : List ℕ) → after ≡ s → length s ≡ n → take n after ≡ s
kept_whole n s after e l = ap (take n) e ∙ ap (λ z. take z s) (sym l) ∙ take-length s

-- a node for the head of a list or a map
pub parts_told : (row row' : List Token) (is_map : Bool) (n at : ℕ) (h : Head) (b : List ℕ) → h ≡ parts_head is_map n
    → row' ≡ row ++ (h, take (content_len h) (drop at b)) ∷ [] → row' ≡ row ++ (h, []) ∷ []
parts_told row row' true n at h b i e = e ∙ ap (λ z. row ++ (h, take (content_len z) (drop at b)) ∷ []) i
parts_told row row' false n at h b i e = e ∙ ap (λ z. row ++ (h, take (content_len z) (drop at b)) ∷ []) i

-- the content of a text that is read is UTF-8
text_utf8 : (n : ℕ) (m : Msg) → head_of m ≡ head.Text n → Readable reads_value m → Readable (λ k (t : List ℕ). (k ≡ text t) × IsUtf8 t) m
text_utf8 n nil e r = absurd (cc)
text_utf8 n (truth t) e r = absurd (cc)
text_utf8 n (whole z) e r = absurd (cc)
text_utf8 n (float32 k) e r = absurd (cc)
text_utf8 n (float64 k) e r = absurd (cc)
text_utf8 n (text s) e r = (s, (refl, r.1.1))
text_utf8 n (bin s) e r = absurd (cc)
text_utf8 n (list ms) e r = absurd (cc)
text_utf8 n (map ps) e r = absurd (cc)
text_utf8 n (extension tag s) e r = absurd (cc)

-- the bytes after the head of a text aren't one
text_refused : (w : Bool) (room n : ℕ) (known k : Option (List ℕ)) (b : List ℕ) → Consumes known k b → heads_of w (head.Text n) b → StartsWithNoText n k
    → Refuses (SpellsAs w) (Readable reads_value) room known
text_refused w room n known k b c i x = refuses_by w (Readable reads_value) room known k b c (λ ys q a.
    let u = same_head w a.tree (head.Text n) a.bytes b a.rest ys a.spelled i (sym a.front) in
    let t = text_utf8 n a.tree u.0 a.holds in
    let s = t.0 in
    let j = text_content.opens w s a.bytes (subst (SpellsAs w a.bytes) t.1.0 a.spelled) in
    let split : j.first ++ (j.second ++ a.rest) ≡ b ++ ys = sym (append_assoc j.first j.second a.rest) ∙ ap (λ z. z ++ a.rest) (sym j.is_whole)
    ∙ sym a.front in
    let v = heads_differ_as w (head.Text (length s)) (head.Text n) j.first b (j.second ++ a.rest) ys j.is_first i split in
    let at : (s r : List ℕ) → ys ≡ s ++ r → length s ≡ n → IsUtf8 s → ⊥ = rw q at x in
    at s a.rest (sym v.2 ∙ ap (λ z. z ++ a.rest) j.is_second.0) (text_content.same _ _ v.0) t.1.1)

-- ---- a row of no room

pub none_fits : (w : Bool) (room n : ℕ) → room ≤ 1 → (known : Option (List ℕ)) → RefusesRow (SpellsAs w) any_row (room - 1) n known
unfolding RefusesRow
none_fits w room n l None = tt
none_fits w room n l (Some xs) = λ a. let b = a.fits in omega (arith, b, l)

-- ---- the content of a leaf is refused

-- no value begins with its head, and the error says what is wrong
pub record LeafFails {R C : Type 0} (g : Ghosts R) (w : Bool) (room : ℕ) (known : Option (List ℕ)) (old new : Deserializer R C) (e : Error) : Type 0 where
  pub failed : new.failed ≡ old.failed
  pub stays : Stays g old new
  pub refused : Explains e (faults_of g old) (faults_of g new) (Refuses (SpellsAs w) (Readable reads_value) room known)
  pub wrong : e ≢ errors.OutOfMemory → faults_of g new ≡ faults_of g old → RefusedFor w (UnreadFor w) ItemsUtf8 room e known

module _ {R C : Type 0} (g : Ghosts R) where
  content_fails : (h : Head) (w : Bool) (room : ℕ) (known : Option (List ℕ)) (b : List ℕ) (old new : Deserializer R C) (e : Error)
      → Consumes known (left g old) b → heads_of w h b → old.kept ≡ Nothing → FailsContent g (content_len h) old new e
      → LeafFails g w room known old new e
  content_fails h w room known b old new e t i c f =
      let short : e ≢ errors.OutOfMemory → faults_of g new ≡ faults_of g old → IsShort (content_len h) (left g old) = λ o k. rw (bare g old c) (f.err o k) in
      record {
        failed = f.failed;
        stays = f.stays;
        refused = λ o k. refuses_short w (Readable reads_value) room (content_len h) known (left g old) b h t i (short o k)
            (λ m r q. subst (λ z. content_len z ≤ length (content_of m)) q (content_fills m));
        wrong = λ o k. wrong_content w (UnreadFor w) ItemsUtf8 (wider w) room known (left g old) b h e t i (short o k) (f.exact o k);
      }

  text_fails : (n : ℕ) (w : Bool) (room : ℕ) (known : Option (List ℕ)) (b : List ℕ) (old new : Deserializer R C) (e : Error)
      → Consumes known (left g old) b → heads_of w (head.Text n) b → old.kept ≡ Nothing → FailsText g n old new e → LeafFails g w room known old new e
  text_fails n w room known b old new e t i c f = record {
    failed = f.failed;
    stays = f.stays;
    refused = λ o k. text_refused w room n known (left g old) b t i (rw (bare g old c) (f.err o k));
    wrong = λ o k. wrong_piece w room n known (left g old) b e t i (rw (bare g old c) (f.exact o k));
  }

  pub fails_leaf : (h : Head) (w : Bool) (room : ℕ) (known : Option (List ℕ)) (b : List ℕ) (old new : Deserializer R C) (e : Error)
      → Consumes known (left g old) b → heads_of w h b → old.kept ≡ Nothing → FailsLeaf g h old new e → LeafFails g w room known old new e
  fails_leaf head.Nil w room known b old new e t i c f = content_fails head.Nil w room known b old new e t i c f
  fails_leaf (head.Truth x) w room known b old new e t i c f = content_fails (head.Truth x) w room known b old new e t i c f
  fails_leaf (head.Whole z) w room known b old new e t i c f = content_fails (head.Whole z) w room known b old new e t i c f
  fails_leaf (head.F32Bits n) w room known b old new e t i c f = content_fails (head.F32Bits n) w room known b old new e t i c f
  fails_leaf (head.F64Bits n) w room known b old new e t i c f = content_fails (head.F64Bits n) w room known b old new e t i c f
  fails_leaf (head.Text n) w room known b old new e t i c f = text_fails n w room known b old new e t i c f
  fails_leaf (head.Bin n) w room known b old new e t i c f = content_fails (head.Bin n) w room known b old new e t i c f
  fails_leaf (head.Array n) w room known b old new e t i c f = content_fails (head.Array n) w room known b old new e t i c f
  fails_leaf (head.Map n) w room known b old new e t i c f = content_fails (head.Map n) w room known b old new e t i c f
  fails_leaf (head.Ext n tag) w room known b old new e t i c f = content_fails (head.Ext n tag) w room known b old new e t i c f

-- ---- what remains

pub none_of : (xs : List ℕ) → length xs ≡ 0 → xs ≡ []
none_of [] e = refl
none_of (x ∷ xs) e = absurd (omega arith)

-- less is to do once a list or a map was entered
pub falls_entered : (room wanted n inner : ℕ) (outer : List ℕ) (then : ℕ × ℕ) (following : List ℕ) → 0 < wanted → n ≡ wanted - 1 → 1 < room
    → Enters inner (room, n) outer then following → to_do then.0 then.1 following < to_do room wanted outer
falls_entered room wanted n inner outer then following s q r o = elim o [
  | inl x ↦ rw (x.room, x.kept) (falls_leaf room wanted then.1 outer s (x.wanted ∙ q))
  | inr x ↦ falls_in room wanted n then.0 then.1 outer following s q x.room (rw x.wanted x.few) x.kept r
]

-- what taking bytes with these heads leads to
abbrev LeadsBy : Bool → ℕ → List ℕ → ℕ → List ℕ → List ℕ → List Token → Type 0
LeadsBy strict = LeadsTrees strict (UnreadFor strict)

-- what was consumed leads from n messages to what remains now: in the innermost list or map, and in those that
-- are open around it, the outermost first
pub record Wants {R C : Type 0} (g : Ghosts R) (all : ℕ) (start now : Deserializer R C) (room wanted : ℕ) (outer : List ℕ) (before heads : List Token)
    : Type 0 where
  pub taken : List ℕ
  pub made : List Token
  pub takes : Consumes (left g start) (left g now) taken
  pub told : heads ≡ before ++ made
  pub leads : LeadsBy start.strict (room_of start - 1) (all ∷ []) room (wanted ∷ reverse outer) taken made
  pub some : 0 < room
  pub deep : room + length outer ≡ room_of start - 1
  pub ready : now.failed ≡ false
  pub clean : now.kept ≡ Nothing
  pub sound : faults_of g now ≡ faults_of g start
  pub stays : Stays g start now

pub wants_all : {R C : Type 0} (g : Ghosts R) (all : ℕ) (d : Deserializer R C) (room : ℕ) (outer : List ℕ) (heads : List Token) → outer ≡ []
    → 1 < room_of d → room ≡ room_of d - 1 → d.failed ≡ false → d.kept ≡ Nothing → Wants g all d d room all outer heads heads
wants_all g all d room outer heads o l q f k = rw o (record {
  taken = [];
  made = [];
  takes = Consumes-nil (left g d);
  told = sym (append-nil heads);
  leads = subst (λ z. LeadsBy d.strict z (all ∷ []) room (all ∷ []) [] []) q (trees_none d.strict (UnreadFor d.strict) room (all ∷ []));
  some = omega (arith, l, q);
  deep = omega (arith, q);
  ready = f;
  clean = k;
  sound = refl;
  stays = stays_refl g d;
})

module _ {R C : Type 0} (g : Ghosts R) (all : ℕ) (start now : Deserializer R C) (room wanted : ℕ) (outer : List ℕ) (before heads : List Token)
    (w : Wants g all start now room wanted outer before heads) where
  -- some more was taken
  step : (new : Deserializer R C) (b : List ℕ) (t : List Token) (room' wanted' : ℕ) (outer' : List ℕ) (heads' : List Token)
      → Consumes (left g now) (left g new) b → heads' ≡ heads ++ t
      → LeadsBy start.strict room (wanted ∷ reverse outer) room' (wanted' ∷ reverse outer') b t → 0 < room' → room' + length outer' ≡ room + length outer
      → new.failed ≡ false → new.kept ≡ Nothing → faults_of g new ≡ faults_of g now → Stays g now new
      → Wants g all start new room' wanted' outer' before heads'
  step new b t room' wanted' outer' heads' c h l s d f k q st = record {
    taken = w.taken ++ b;
    made = w.made ++ t;
    takes = Consumes-trans _ _ _ _ _ w.takes c;
    told = h ∙ ap (λ z. z ++ t) w.told ∙ append_assoc before w.made t;
    leads = trees_then start.strict (UnreadFor start.strict) (room_of start - 1) (all ∷ []) room (wanted ∷ reverse outer) room'
        (wanted' ∷ reverse outer') w.taken b w.made t w.leads l;
    some = s;
    deep = d ∙ w.deep;
    ready = f;
    clean = k;
    sound = q ∙ w.sound;
    stays = stays_then g start now new w.stays st;
  }

  -- a list or a map ended
  pub wants_out : (n room' : ℕ) (outer' : List ℕ) → wanted ≡ 0 → outer ≡ outer' ++ (n ∷ []) → room' ≡ room + 1
      → Wants g all start now room' n outer' before heads
  wants_out n room' outer' z o r =
      let turned : reverse outer ≡ n ∷ reverse outer' = ap reverse o ∙ reverse-append outer' (n ∷ []) in
      let long : length outer ≡ length outer' + 1 = ap length o ∙ length-append outer' (n ∷ []) in
      let up : suc room ≡ room' = omega (arith, r) in
      let l = trees_out start.strict (UnreadFor start.strict) room (n ∷ reverse outer') w.some in
      step now [] [] room' n outer' heads (Consumes-nil (left g now)) (sym (append-nil heads))
      (subst (λ z. LeadsBy start.strict room z room' (n ∷ reverse outer') [] []) (sym (ap (λ z. z ∷ reverse outer) z ∙ ap (λ t. 0 ∷ t) turned))
      (subst (λ z. LeadsBy start.strict room (0 ∷ n ∷ reverse outer') z (n ∷ reverse outer') [] []) up l))
      (omega (arith, r)) (omega (arith, r, long)) w.ready w.clean refl (stays_refl g now)

  -- all of them ended
  pub wants_none : wanted ≡ 0 → outer ≡ [] → ReadsTrees g (room_of start - 1) all start now before heads (Ok tt)
  wants_none z o =
      let l = trees_then start.strict (UnreadFor start.strict) (room_of start - 1) (all ∷ []) room (0 ∷ []) (suc room) [] w.taken [] w.made []
      (subst (λ t. LeadsBy start.strict (room_of start - 1) (all ∷ []) room t w.taken w.made) (ap (λ t. t ∷ reverse outer) z ∙ ap (λ t. 0 ∷ reverse t) o)
      w.leads)
      (trees_out start.strict (UnreadFor start.strict) room [] w.some) in
      let s = l.closes [] [] (refl, refl) in
      let m = s.is_first in
      let whole : w.taken ≡ s.first = sym (append-nil w.taken) ∙ sym (append-nil (w.taken ++ [])) ∙ s.is_whole ∙ ap (λ t. s.first ++ t) s.is_second.0
      ∙ append-nil s.first in
      let made : w.made ≡ tokens_all m.trees = sym (append-nil w.made) ∙ sym (append-nil (w.made ++ [])) ∙ s.all_heads
      ∙ ap (λ t. s.first_heads ++ t) s.is_second.1 ∙ append-nil s.first_heads ∙ m.told in
      record {
        ok = record {
          bytes = w.taken;
          trees = m.trees;
          takes = w.takes;
          spelled = subst (λ t. SpellsRow (SpellsAs start.strict) t m.trees) (sym whole) m.spelled;
          many = m.many;
          fits = m.fits;
          utf8 = m.utf8;
          told = w.told ∙ ap (λ t. before ++ t) made;
        };
        ready = w.ready;
        clean = w.clean;
        sound = w.sound;
        err = tt;
        failed = tt;
        stays = w.stays;
      }

  -- ---- a message is refused

  more : 0 < wanted → LeadsBy start.strict (room_of start - 1) (all ∷ []) room (suc (wanted - 1) ∷ reverse outer) w.taken w.made
  more s = let same : wanted ≡ suc (wanted - 1) = omega (arith, s)
      in subst (λ t. LeadsBy start.strict (room_of start - 1) (all ∷ []) room (t ∷ reverse outer) w.taken w.made) same w.leads

  front_of_row : (n : ℕ) (ts : Msgs) (c more x ys : List ℕ) → SpellsRow (SpellsAs start.strict) c ts → count ts ≡ suc n → depth_all ts < room → ItemsUtf8 ts
      → ys ≡ (c ++ more) ++ x → Begins (SpellsAs start.strict) (Readable reads_value) room ys
  front_of_row n no_items c more x ys t l d u e = absurd (omega (arith, l))
  front_of_row n (item k ks) c more x ys t l d u e = record {
    bytes = t.first;
    rest = t.second ++ (more ++ x);
    tree = k;
    front = e ∙ append_assoc c more x ∙ ap (λ z. z ++ (more ++ x)) t.is_whole ∙ append_assoc t.first t.second (more ++ x);
    spelled = t.is_first;
    fits = omega (arith, d);
    holds = (k, (refl, u.0));
  }

  none_begins : 0 < wanted → (known k : Option (List ℕ)) → Consumes known k w.taken → Refuses (SpellsAs start.strict) (Readable reads_value) room k
      → RefusesRow (SpellsAs start.strict) ItemsUtf8 (room_of start - 1) all known
  unfolding Refuses RefusesRow
  none_begins s None k t r = tt
  none_begins s (Some xs) None t r = absurd t
  none_begins s (Some xs) (Some ys) t r = λ a.
      let l = more s in
      let whole : SpellsOpenTrees start.strict (room_of start - 1) (all ∷ []) a.bytes (tokens_all a.trees) = record {
        first = a.bytes;
        second = [];
        first_heads = tokens_all a.trees;
        second_heads = [];
        is_first = record { trees = a.trees; spelled = a.spelled; many = a.many; fits = a.fits; utf8 = a.holds; told = refl };
        is_second = (refl, refl);
        is_whole = sym (append-nil a.bytes);
        all_heads = sym (append-nil (tokens_all a.trees));
      } in
      let b : AfterTrees start.strict room (suc (wanted - 1) ∷ reverse outer) a.rest ys = l.opens a.bytes (tokens_all a.trees) a.rest ys whole
      (sym a.front ∙ t) in
      let h = b.spelled in
      r (front_of_row (wanted - 1) h.is_first.trees h.first h.second a.rest ys h.is_first.spelled h.is_first.many h.is_first.fits h.is_first.utf8
      (b.front ∙ ap (λ z. z ++ a.rest) h.is_whole))

  first_wrong : 0 < wanted → (e : Error) (known k : Option (List ℕ)) → Consumes known k w.taken
      → RefusedFor start.strict (UnreadFor start.strict) ItemsUtf8 room e k
      → RowRefusedFor start.strict (UnreadFor start.strict) ItemsUtf8 (room_of start - 1) all e known
  unfolding RefusedFor RowRefusedFor
  first_wrong s e None k t r = tt
  first_wrong s e (Some xs) None t r = absurd t
  first_wrong s e (Some xs) (Some ys) t r =
      let o = (more s).refuses e ys (inl (record { many = 0; before = no_row_tree start.strict room ys w.some; fewer = omega arith; next = r })) in
      elim o [
        | inl p ↦ subst (λ z. RowRefusal start.strict (UnreadFor start.strict) ItemsUtf8 (room_of start - 1) all e z) (sym t) p
        | inr p ↦ absurd p.1
      ]

  pub wants_refused : (new : Deserializer R C) (e : Error) (after : List Token) → 0 < wanted → new.failed ≡ true → Stays g now new
      → Explains e (faults_of g now) (faults_of g new) (Refuses (SpellsAs start.strict) (Readable reads_value) room (left g now))
      → ReadsTrees g (room_of start - 1) all start new before after (Err e)
  wants_refused new e after s f st x = record {
    ok = tt;
    ready = tt;
    clean = tt;
    sound = tt;
    err = λ o k. none_begins s (left g start) (left g now) w.takes (x o (k ∙ sym w.sound));
    failed = f;
    stays = stays_then g start now new w.stays st;
  }

  pub wants_wrong : (new : Deserializer R C) (e : Error) → 0 < wanted
      → (faults_of g new ≡ faults_of g now → RefusedFor start.strict (UnreadFor start.strict) ItemsUtf8 room e (left g now))
      → RefusesRowFirst g UnreadFor ItemsUtf8 (room_of start - 1) all start new e
  wants_wrong new e s r = λ k. first_wrong s e (left g start) (left g now) w.takes (r (k ∙ sym w.sound))

  -- ---- a head was taken

  module _ (mid : Deserializer R C) (some : 0 < wanted) (p : Marker × Head) (h : ReadsHead g now (failed_of mid) (Ok p)) (ready : mid.failed ≡ false) where
    stays_mid : Stays g now mid
    stays_mid = record { config = h.stays.config; room = h.stays.room; limit = h.stays.limit; strict = h.stays.strict; place = h.stays.place }

    leads_to : {room' : ℕ} {counts b : List ℕ} {t : List Token} → LeadsBy start.strict room (suc (wanted - 1) ∷ reverse outer) room' counts b t
        → LeadsBy start.strict room (wanted ∷ reverse outer) room' counts b t
    leads_to {room'} {counts} {b} {t} l = let one : suc (wanted - 1) ≡ wanted = omega (arith, some)
        in subst (λ z. LeadsBy start.strict room (z ∷ reverse outer) room' counts b t) one l

    is_head : heads_of start.strict p.1 h.ok.bytes
    is_head = subst (λ z. heads_of z p.1 h.ok.bytes) w.stays.strict h.ok.is_head

    -- a leaf was taken
    pub wants_leaf : (new : Deserializer R C) (wanted' : ℕ) (heads' : List Token) → wanted' ≡ wanted - 1 → IsLeafHead p.1
        → TakesLeaf g p.1 mid new heads heads' → Wants g all start new room wanted' outer before heads'
    wants_leaf new wanted' heads' q n o =
        let c = o.taken in
        let s = o.content in
        let clean : new.kept ≡ Nothing = c.kept ∙ h.clean in
        let first : Consumes (left g now) (g.ahead mid.reader) h.ok.bytes = rw (← (bare g mid h.clean)) h.ok.takes in
        let l = trees_message start.strict (UnreadFor start.strict) room (wanted - 1) (reverse outer) (leaf_of p.1 s) (h.ok.bytes ++ s)
        (leaf_spelled start.strict p.1 h.ok.bytes s n is_head c.long c.are_bytes) (omega (arith, leaf_flat p.1 s, w.some)) (leaf_utf8 p.1 s o.utf8) in
        let l1 = subst (λ t. LeadsBy start.strict room (suc (wanted - 1) ∷ reverse outer) room ((wanted - 1) ∷ reverse outer) (h.ok.bytes ++ s) t)
        (leaf_tokens p.1 s n c.long) l in
        rw q (step new (h.ok.bytes ++ s) ((p.1, s) ∷ []) room (wanted - 1) outer heads' (rw (bare g new clean) (Consumes-trans _ _ _ _ _ first c.taken))
        o.told (leads_to l1) w.some refl c.ready clean (c.sound ∙ h.sound) (stays_then g now mid new stays_mid c.stays))

    -- an empty list or map
    pub wants_empty : (is_map : Bool) (len wanted' : ℕ) (heads' : List Token) → wanted' ≡ wanted - 1 → p.1 ≡ parts_head is_map len
        → parts_count is_map len ≡ 0 → 1 < room → heads' ≡ heads ++ (p.1, []) ∷ [] → Wants g all start mid room wanted' outer before heads'
    wants_empty is_map len wanted' heads' q i z r t =
        let down : suc (room - 1) ≡ room = omega (arith, r) in
        let told : token (parts_head is_map len) [] ≡ token p.1 [] = ap (λ z. token z []) (sym i) in
        let head = subst (λ t. heads_of start.strict t h.ok.bytes) i is_head in
        let l = trees_in start.strict (UnreadFor start.strict) is_map len (room - 1) (wanted - 1) (reverse outer) h.ok.bytes head in
        let o = trees_out start.strict (UnreadFor start.strict) (room - 1) ((wanted - 1) ∷ reverse outer) (omega (arith, r)) in
        let l0 = subst (λ t. LeadsBy start.strict (suc (room - 1)) (suc (wanted - 1) ∷ reverse outer) (room - 1) (t ∷ (wanted - 1) ∷ reverse outer)
        h.ok.bytes ((parts_head is_map len, []) ∷ [])) z l in
        let both = trees_then start.strict (UnreadFor start.strict) (suc (room - 1)) (suc (wanted - 1) ∷ reverse outer) (room - 1)
        (0 ∷ (wanted - 1) ∷ reverse outer) (suc (room - 1)) ((wanted - 1) ∷ reverse outer) h.ok.bytes [] ((parts_head is_map len, []) ∷ []) [] l0 o in
        let l1 = subst (λ t. LeadsBy start.strict t (suc (wanted - 1) ∷ reverse outer) t ((wanted - 1) ∷ reverse outer) (h.ok.bytes ++ [])
        ((parts_head is_map len, []) ∷ [])) down both in
        let l2 = subst (λ t. LeadsBy start.strict room (suc (wanted - 1) ∷ reverse outer) room ((wanted - 1) ∷ reverse outer) t
        ((parts_head is_map len, []) ∷ [])) (append-nil h.ok.bytes) l1 in
        let l3 = subst (λ t. LeadsBy start.strict room (suc (wanted - 1) ∷ reverse outer) room ((wanted - 1) ∷ reverse outer) h.ok.bytes t) told l2 in
        rw q (step mid h.ok.bytes ((p.1, []) ∷ []) room (wanted - 1) outer heads' h.ok.takes t (leads_to l3) w.some refl ready h.clean h.sound stays_mid)

    -- a list or a map that isn't empty
    pub wants_in : (is_map : Bool) (len n room' wanted' : ℕ) (outer' : List ℕ) (heads' : List Token) → n ≡ wanted - 1 → room' ≡ room - 1
        → p.1 ≡ parts_head is_map len → wanted' ≡ parts_count is_map len → outer' ≡ outer ++ (n ∷ []) → 1 < room → heads' ≡ heads ++ (p.1, []) ∷ []
        → Wants g all start mid room' wanted' outer' before heads'
    wants_in is_map len n room' wanted' outer' heads' q d i c o r t =
        let down : suc (room - 1) ≡ room = omega (arith, r) in
        let turned : reverse outer' ≡ (wanted - 1) ∷ reverse outer = ap reverse o ∙ reverse-append outer (n ∷ []) ∙ ap (λ t. t ∷ reverse outer) q in
        let long : length outer' ≡ length outer + 1 = ap length o ∙ length-append outer (n ∷ []) in
        let head = subst (λ t. heads_of start.strict t h.ok.bytes) i is_head in
        let l = trees_in start.strict (UnreadFor start.strict) is_map len (room - 1) (wanted - 1) (reverse outer) h.ok.bytes head in
        let l0 = subst (λ z. LeadsBy start.strict (suc (room - 1)) (suc (wanted - 1) ∷ reverse outer) (room - 1)
        (parts_count is_map len ∷ (wanted - 1) ∷ reverse outer) h.ok.bytes ((z, []) ∷ [])) (sym i) l in
        let l1 = subst (λ t. LeadsBy start.strict t (suc (wanted - 1) ∷ reverse outer) (room - 1)
        (parts_count is_map len ∷ (wanted - 1) ∷ reverse outer) h.ok.bytes ((p.1, []) ∷ [])) down l0 in
        let l2 = subst (λ t. LeadsBy start.strict room (suc (wanted - 1) ∷ reverse outer) t (parts_count is_map len ∷ (wanted - 1) ∷ reverse outer)
        h.ok.bytes ((p.1, []) ∷ [])) (sym d) l1 in
        let l3 = subst (λ t. LeadsBy start.strict room (suc (wanted - 1) ∷ reverse outer) room' (t ∷ (wanted - 1) ∷ reverse outer) h.ok.bytes
        ((p.1, []) ∷ [])) (sym c) l2 in
        let l4 = subst (λ t. LeadsBy start.strict room (suc (wanted - 1) ∷ reverse outer) room' (wanted' ∷ t) h.ok.bytes ((p.1, []) ∷ [])) (sym turned) l3 in
        step mid h.ok.bytes ((p.1, []) ∷ []) room' wanted' outer' heads' h.ok.takes t (leads_to l4) (omega (arith, d, r)) (omega (arith, d, r, long)) ready
        h.clean h.sound stays_mid

    -- a list or a map was entered
    pub wants_entered : (is_map : Bool) (len n : ℕ) (then : ℕ × ℕ) (following : List ℕ) (heads' : List Token) → n ≡ wanted - 1 → p.1 ≡ parts_head is_map len
        → Enters (parts_count is_map len) (room, n) outer then following → 1 < room → heads' ≡ heads ++ (p.1, []) ∷ []
        → Wants g all start mid then.0 then.1 following before heads'
    wants_entered is_map len n then following heads' q i o r t = elim o [
      | inl x ↦ rw (x.room, x.kept) (wants_empty is_map len then.1 heads' (x.wanted ∙ q) i x.none r t)
      | inr x ↦ wants_in is_map len n then.0 then.1 following heads' q x.room i x.wanted x.kept r t
    ]

    -- ---- what it opens is refused

    head_is : (is_map : Bool) (len : ℕ) → p.1 ≡ parts_head is_map len → heads_of start.strict (parts_head is_map len) h.ok.bytes
    head_is is_map len i = subst (λ t. heads_of start.strict t h.ok.bytes) i is_head

    -- there is no room for it
    pub deep_refused : (is_map : Bool) (len : ℕ) (e : Error) (after : List Token) → p.1 ≡ parts_head is_map len → room ≤ 1
        → ReadsTrees g (room_of start - 1) all start (failed_of mid) before after (Err e)
    deep_refused is_map len e after i r = wants_refused (failed_of mid) e after some refl h.stays
        (λ _ _. parts_refused start.strict is_map (Readable reads_value) len room (left g now) (left g mid) h.ok.bytes h.ok.takes (head_is is_map len i)
        (none_fits start.strict room (parts_count is_map len) r (left g mid)))

    pub deep_wrong : (is_map : Bool) (len : ℕ) → p.1 ≡ parts_head is_map len → room ≤ 1
        → RefusesRowFirst g UnreadFor ItemsUtf8 (room_of start - 1) all start (failed_of mid) errors.DepthLimitExceeded
    deep_wrong is_map len i r = wants_wrong (failed_of mid) errors.DepthLimitExceeded some
        (λ _. wrong_deep start.strict (UnreadFor start.strict) ItemsUtf8 (wider start.strict) room is_map len (left g now) (left g mid)
        h.ok.bytes h.ok.takes (head_is is_map len i) (omega (arith, r, w.some)))

    -- there is no memory for it
    pub short_refused : (last : Deserializer R C) (after : List Token) → last.failed ≡ true → Stays g mid last
        → ReadsTrees g (room_of start - 1) all start last before after (Err errors.OutOfMemory)
    short_refused last after f st = wants_refused last errors.OutOfMemory after some f (stays_then g now mid last stays_mid st) (λ o _. absurd (o refl))

    -- it couldn't be entered
    pub unentered_refused : (is_map : Bool) (len : ℕ) (e : Error) (after : List Token) → p.1 ≡ parts_head is_map len
        → (e ≡ errors.OutOfMemory) ⊎ ((e ≡ errors.DepthLimitExceeded) × (room ≤ 1))
        → ReadsTrees g (room_of start - 1) all start (failed_of mid) before after (Err e)
    unentered_refused is_map len e after i o = elim o [
      | inl m ↦ wants_refused (failed_of mid) e after some refl h.stays (λ k _. absurd (k m))
      | inr d ↦ deep_refused is_map len e after i d.1
    ]

    pub unentered_wrong : (is_map : Bool) (len : ℕ) (e : Error) → p.1 ≡ parts_head is_map len
        → (e ≡ errors.OutOfMemory) ⊎ ((e ≡ errors.DepthLimitExceeded) × (room ≤ 1)) → e ≢ errors.OutOfMemory
        → RefusesRowFirst g UnreadFor ItemsUtf8 (room_of start - 1) all start (failed_of mid) e
    unentered_wrong is_map len e i o k = elim o [
      | inl m ↦ absurd (k m)
      | inr d ↦ rw d.0 (deep_wrong is_map len i d.1)
    ]

    -- its content couldn't be taken
    leaf_fails : (last : Deserializer R C) (e : Error) → FailsLeaf g p.1 (failed_of mid) last e
        → LeafFails g start.strict room (left g now) (failed_of mid) last e
    leaf_fails last e f = fails_leaf g p.1 start.strict room (left g now) h.ok.bytes (failed_of mid) last e h.ok.takes is_head h.clean f

    pub leaf_refused : (last : Deserializer R C) (e : Error) (after : List Token) → FailsLeaf g p.1 (failed_of mid) last e
        → ReadsTrees g (room_of start - 1) all start last before after (Err e)
    leaf_refused last e after f =
        let l = leaf_fails last e f in
        wants_refused last e after some l.failed (stays_then g now (failed_of mid) last h.stays l.stays) (λ o k. l.refused o (k ∙ sym h.sound))

    pub leaf_wrong : (last : Deserializer R C) (e : Error) → FailsLeaf g p.1 (failed_of mid) last e → e ≢ errors.OutOfMemory
        → RefusesRowFirst g UnreadFor ItemsUtf8 (room_of start - 1) all start last e
    leaf_wrong last e f o = let l = leaf_fails last e f in wants_wrong last e some (λ k. l.wrong o (k ∙ sym h.sound))

    pub left_refused : (last : Deserializer R C) (e : Error) (after : List Token) → (e ≡ errors.OutOfMemory) ⊎ FailsLeaf g p.1 (failed_of mid) last e
        → last.failed ≡ true → Stays g mid last → ReadsTrees g (room_of start - 1) all start last before after (Err e)
    left_refused last e after f d st = elim f [
      | inl m ↦ subst (λ (z : Error). ReadsTrees g (room_of start - 1) all start last before after (Err z)) (sym m) (short_refused last after d st)
      | inr l ↦ leaf_refused last e after l
    ]

    pub left_wrong : (last : Deserializer R C) (e : Error) → (e ≡ errors.OutOfMemory) ⊎ FailsLeaf g p.1 (failed_of mid) last e → e ≢ errors.OutOfMemory
        → RefusesRowFirst g UnreadFor ItemsUtf8 (room_of start - 1) all start last e
    left_wrong last e f o = elim f [
      | inl m ↦ absurd (o m)
      | inr l ↦ leaf_wrong last e l o
    ]

  -- ---- no head could be taken

  module _ (new : Deserializer R C) (e : Error) (some : 0 < wanted) (h : ReadsHead g now new (Err e)) where
    pub none_refused : (after : List Token) → ReadsTrees g (room_of start - 1) all start new before after (Err e)
    none_refused after =
        let x = subst (λ z. Explains e (faults_of g now) (faults_of g new) (NoMessage z (left g now))) w.stays.strict (h.err w.ready) in
        wants_refused new e after some h.failed h.stays (λ o k. refuses_none start.strict (Readable reads_value) room (left g now) (x o k))

    pub none_wrong : RefusesRowFirst g UnreadFor ItemsUtf8 (room_of start - 1) all start new e
    none_wrong =
        let x = subst (λ z. EndsExactly z (faults_of g now) (faults_of g new) (left g now) e) w.stays.strict (h.ends w.ready) in
        wants_wrong new e some (λ k. wrong_none start.strict (UnreadFor start.strict) ItemsUtf8 (wider start.strict) room (faults_of g now)
        (faults_of g new) (left g now) e k x)
