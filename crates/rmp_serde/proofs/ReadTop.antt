-- A value from its first head and what was read after it.
use Rattle.std.proofs.Common.{
  ◌≡◌,
  ◌≢◌,
  ◌∙◌,
  sym,
  ap,
  subst,
  refl,
  ℕ,
  ◌-◌,
  ◌<◌,
  ◌≤◌,
  ◌⊎◌,
  arith,
  inl,
  inr,
  max,
  List,
  [],
  ◌∷◌,
  ◌++◌,
  take,
  drop,
  map,
  Option,
  Bool,
  true,
  false,
  Ok,
  Err,
  append_assoc,
}
use Rattle.std.specs.Io.KnownBytes.{Consumes}
use Rattle.std.proofs.KnownBytes.{Consumes-trans}
use Rattle.rmp_wire.specs.declared.head.Head.{Head}
use Rattle.rmp_wire.specs.declared.marker.Marker.{Marker}
use Rattle.rmp_wire.specs.declared.source.Source.{Ghosts}
use Rattle.rmp_wire.specs.Canonical.{heads_of, SpellsAs}
use Rattle.rmp_wire.specs.Msg.{Msg, depth}
use Rattle.rmp_wire.specs.Spelling.{head_of}
use Rattle.rmp_wire.proofs.Spellings.{spells_fits}
use Rattle.rmp_wire.proofs.Strict.{heads_differ_as, spells_any}
use Rattle.rmp_decode.specs.Content.{IsRawHead, IsExtHead}
use Rattle.rmp_decode.specs.Kinds.{content_len}
use Rattle.rmp_decode.specs.Law.{Refuses, Readable, GoesOn, Lawful, ReadsHead}
use Rattle.rmp_decode.specs.Refuse.{RefusedFor, RowRefusedFor, RefusesRowFirst}
use Rattle.rmp_decode.specs.Seq.{SpellsRow, BeginsRow, RefusesRow}
use Rattle.rmp_decode.specs.Skip.{parts_head, parts_count}
use Rattle.rmp_decode.specs.State.{left, faults_of, room_of, failed_of, kept_bytes, Stays}
use Rattle.rmp_decode.specs.declared.deserializer.Deserializer.{Deserializer}
use Rattle.rmp_decode.specs.declared.deserializer.Kept.TheVariants.{Nothing}
use Rattle.rmp_decode.specs.declared.error.Error.{Error}
use Rattle.rmp_decode.specs.declared.error.Error.TheVariants as errors
use Rattle.rmp_decode.proofs.Contents.{bare}
use Rattle.rmp_decode.proofs.Laws.{refused, stays_then}
use Rattle.rmp_decode.proofs.NothingAccepted.{refuses_by, same_head}
use Rattle.rmp_decode.proofs.SkipLaws.{leaf_of, leaf_flat, leaf_spelled, parts_refused}
use Rattle.rmp_decode.proofs.FirstFault.{is_memory, wrong_none, wrong_deep, wrong_nest}
use Rattle.rmp_serde.specs.Flat.{IsTree, token_in, told_tree}
use Rattle.rmp_serde.specs.Read.{AllTextsUtf8, ItemsUtf8, reads_value}
use Rattle.rmp_serde.specs.ReadParts.{IsLeafHead, TakesAfter, FailsLeaf, ReadsTrees}
use Rattle.rmp_serde.specs.Refuse.{UnreadFor, RefusesValue}
use Rattle.rmp_serde.specs.Tokens.{Token, tokens, tokens_all}
use Rattle.rmp_serde.specs.declared.value.flat.Node.{Node}
use Rattle.rmp_serde.proofs.Leading.{nest_tree, parts_trees}
use Rattle.rmp_serde.proofs.ReadLoop.{none_fits, leaf_tokens, leaf_utf8, fails_leaf, kept_whole}
use Rattle.rmp_serde.proofs.Refusing.{wider, short_content, short_parts}
use Rattle.rmp_serde.proofs.Tokens.{tree_told}

-- where no readable messages follow the head, no readable message begins before it
nest_refused : (w is_map : Bool) (n room : ℕ) (known k : Option (List ℕ)) (b : List ℕ) → Consumes known k b → heads_of w (parts_head is_map n) b → 1 < room
    → RefusesRow (SpellsAs w) ItemsUtf8 (room - 1) (parts_count is_map n) k → Refuses (SpellsAs w) (Readable reads_value) room known
unfolding RefusesRow
nest_refused w is_map n room known k b t i l r = refuses_by w (Readable reads_value) room known k b t (λ ys e a.
    let split : a.bytes ++ a.rest ≡ b ++ ys = sym a.front in
    let u = same_head w a.tree (parts_head is_map n) a.bytes b a.rest ys a.spelled i split in
    let none : BeginsRow (SpellsAs w) ItemsUtf8 (room - 1) (parts_count is_map n) ys → ⊥ = rw e at r in
    let q = parts_trees w is_map a.tree n (room - 1) a.bytes a.rest ys a.spelled u.0 (omega (arith, a.fits, l)) a.holds.1.1
    (λ d c q j. (heads_differ_as w (head_of a.tree) (parts_head is_map n) d b (c ++ a.rest) ys j i
    (sym (append_assoc d c a.rest) ∙ ap (λ z. z ++ a.rest) (sym q) ∙ split)).2) in
    none (record {
      bytes = q.bytes;
      rest = a.rest;
      trees = q.spelled.trees;
      front = q.front;
      spelled = q.spelled.spelled;
      many = q.spelled.many;
      fits = q.spelled.fits;
      holds = q.spelled.utf8;
    }))

-- a tree was taken that has these heads
pub record ReadTree {R C : Type 0} (g : Ghosts R) (old last : Deserializer R C) (heads : List Token) : Type 0 where
  pub tree : Msg
  pub told : heads ≡ tokens tree
  pub utf8 : AllTextsUtf8 tree
  pub bytes : List ℕ
  pub takes : Consumes (left g old) (left g last) bytes
  pub goes_on : GoesOn (kept_bytes old.kept) bytes
  pub spelled : SpellsAs old.strict bytes tree
  pub fits : depth tree < room_of old
  pub fresh : old.failed ≡ false
  pub ready : last.failed ≡ false
  pub clean : last.kept ≡ Nothing
  pub sound : faults_of g last ≡ faults_of g old
  pub stays : Stays g old last

module _ {R C : Type 0} (g : Ghosts R) (old last : Deserializer R C) (heads : List Token) (r : ReadTree g old last heads) where
  pub is_tree : IsTree heads
  is_tree = record { tree = r.tree; told = r.told; fits = spells_fits r.tree r.bytes (spells_any old.strict r.tree r.bytes r.spelled); utf8 = r.utf8 }

  pub tree_law : (v : Msg) → v ≡ told_tree heads → Lawful g reads_value old last (Ok v)
  tree_law v e = record {
    ok = record {
      bytes = r.bytes;
      tree = r.tree;
      takes = r.takes;
      goes_on = r.goes_on;
      spelled = r.spelled;
      fits = r.fits;
      value = (e ∙ ap told_tree r.told ∙ tree_told r.tree, r.utf8);
    };
    ready = r.ready;
    clean = r.clean;
    sound = r.sound;
    err = λ _. tt;
    failed = tt;
    before = λ b. absurd (let o = r.fresh in cc);
    stays = r.stays;
  }

-- the head of a list or a map has no content
pub bare_len : (is_map : Bool) (n : ℕ) (h : Head) → h ≡ parts_head is_map n → content_len h ≡ 0
bare_len true n h e = ap content_len e
bare_len false n h e = ap content_len e

bare_content : (is_map : Bool) (n at : ℕ) (h : Head) (b : List ℕ) → h ≡ parts_head is_map n → take (content_len h) (drop at b) ≡ []
bare_content true n at h b i = ap (λ z. take (content_len z) (drop at b)) i
bare_content false n at h b i = ap (λ z. take (content_len z) (drop at b)) i

no_nodes : (b b' : List ℕ) (row : List Node) → map (token_in b) row ≡ [] → map (token_in b') row ≡ []
no_nodes b b' [] e = refl
no_nodes b b' (x ∷ row) e = absurd cc

module _ {R C : Type 0} (g : Ghosts R) (old mid : Deserializer R C) (p : Marker × Head) (h : ReadsHead g old (failed_of mid) (Ok p)) where
  stays_mid : Stays g old mid
  stays_mid = record { config = h.stays.config; room = h.stays.room; limit = h.stays.limit; strict = h.stays.strict; place = h.stays.place }

  same_room : room_of mid ≡ room_of old
  same_room = ap (λ z. max 1 z) h.stays.room

  -- ---- a leaf

  -- its content was taken to the end of an empty buffer
  pub leaf_read : (last : Deserializer R C) (before after : List ℕ) (row : List Node) → IsLeafHead p.1 → TakesAfter g p.1 mid last before after → before ≡ []
      → map (token_in before) row ≡ [] → ReadTree g old last ((p.1, take (content_len p.1) (drop 0 after)) ∷ map (token_in after) row)
  leaf_read last before after row n o e m =
      let c = o.taken in
      let s = o.content in
      let clean : last.kept ≡ Nothing = c.kept ∙ h.clean in
      let first : Consumes (left g old) (g.ahead mid.reader) h.ok.bytes = rw (← (bare g mid h.clean)) h.ok.takes in
      let whole : take (content_len p.1) after ≡ s = kept_whole (content_len p.1) s after (o.whole ∙ ap (λ z. z ++ s) e) c.long in
      let told : (p.1, take (content_len p.1) (drop 0 after)) ∷ map (token_in after) row ≡ (p.1, s) ∷ [] =
      ap (λ z. (p.1, take (content_len p.1) (drop 0 after)) ∷ z) (no_nodes before after row m) ∙ ap (λ z. (p.1, z) ∷ []) whole in
      record {
        tree = leaf_of p.1 s;
        told = told ∙ sym (leaf_tokens p.1 s n c.long);
        utf8 = leaf_utf8 p.1 s o.utf8;
        bytes = h.ok.bytes ++ s;
        takes = rw (bare g last clean) (Consumes-trans _ _ _ _ _ first c.taken);
        goes_on = record {
          more = h.ok.goes_on.more ++ s;
          whole = ap (λ z. z ++ s) h.ok.goes_on.whole ∙ append_assoc (kept_bytes old.kept) h.ok.goes_on.more s;
        };
        spelled = leaf_spelled old.strict p.1 h.ok.bytes s n h.ok.is_head c.long c.are_bytes;
        fits = omega (arith, leaf_flat p.1 s);
        fresh = h.fresh;
        ready = c.ready;
        clean = clean;
        sound = c.sound ∙ h.sound;
        stays = stays_then g old mid last stays_mid c.stays;
      }

  -- its content couldn't be taken
  pub leaf_unread : (last : Deserializer R C) (e : Error) → FailsLeaf g p.1 (failed_of mid) last e → Lawful g reads_value old last (Err e)
  leaf_unread last e f =
      let l = fails_leaf g p.1 old.strict (room_of old) (left g old) h.ok.bytes (failed_of mid) last e h.ok.takes h.ok.is_head h.clean f in
      refused g reads_value old last e h.fresh l.failed (stays_then g old (failed_of mid) last h.stays l.stays) (λ o k. l.refused o (k ∙ sym h.sound))

  pub leaf_wrong : (last : Deserializer R C) (e : Error) → IsRawHead p.1 ⊎ IsExtHead p.1 → FailsLeaf g p.1 (failed_of mid) last e
      → RefusesValue g old last e
  leaf_wrong last e has f = λ _ k. elim (is_memory e) [
    | inl m ↦ subst (λ z. RefusedFor old.strict (UnreadFor old.strict) ItemsUtf8 (room_of old) z (left g old)) (sym m)
        (short_content old.strict p.1 has (room_of old) (left g old) (left g mid) h.ok.bytes h.ok.takes h.ok.is_head)
    | inr n ↦
        let l = fails_leaf g p.1 old.strict (room_of old) (left g old) h.ok.bytes (failed_of mid) last e h.ok.takes h.ok.is_head h.clean f in
        l.wrong n (k ∙ sym h.sound)
  ]

  -- ---- a list or a map

  module _ (is_map : Bool) (n : ℕ) (i : p.1 ≡ parts_head is_map n) where
    is_head : heads_of old.strict (parts_head is_map n) h.ok.bytes
    is_head = subst (λ z. heads_of old.strict z h.ok.bytes) i h.ok.is_head

    -- there is no room for it
    pub deep_unread : (e : Error) → room_of mid ≤ 1 → Lawful g reads_value old (failed_of mid) (Err e)
    deep_unread e l = refused g reads_value old (failed_of mid) e h.fresh refl h.stays (λ _ _.
        parts_refused old.strict is_map (Readable reads_value) n (room_of old) (left g old) (left g mid) h.ok.bytes h.ok.takes is_head
        (none_fits old.strict (room_of old) (parts_count is_map n) (omega (arith, l, same_room)) (left g mid)))

    pub deep_wrong : room_of mid ≤ 1 → RefusesValue g old (failed_of mid) errors.DepthLimitExceeded
    deep_wrong l = λ _ _. wrong_deep old.strict (UnreadFor old.strict) ItemsUtf8 (wider old.strict) (room_of old) is_map n (left g old) (left g mid)
        h.ok.bytes h.ok.takes is_head (omega (arith, l, same_room))

    -- its messages were taken
    pub nest_read : (last : Deserializer R C) (before after : List Token) (b : List ℕ) → 1 < room_of mid
        → ReadsTrees g (room_of mid - 1) (parts_count is_map n) mid last before after (Ok tt) → before ≡ []
        → ReadTree g old last ((p.1, take (content_len p.1) (drop 0 b)) ∷ after)
    nest_read last before after b l s e =
        let r = s.ok in
        let nest = nest_tree old.strict is_map n r.trees h.ok.bytes r.bytes is_head
        (subst (λ z. SpellsRow (SpellsAs z) r.bytes r.trees) h.stays.strict r.spelled) r.many r.utf8 in
        let told : (p.1, take (content_len p.1) (drop 0 b)) ∷ after ≡ tokens nest.tree = ap (λ z. (p.1, z) ∷ after) (bare_content is_map n 0 p.1 b i)
        ∙ ap (λ z. (z, []) ∷ after) i
        ∙ ap (λ z. (parts_head is_map n, []) ∷ z) (r.told ∙ ap (λ z. z ++ tokens_all r.trees) e) ∙ sym nest.told in
        record {
          tree = nest.tree;
          told = told;
          utf8 = nest.utf8;
          bytes = h.ok.bytes ++ r.bytes;
          takes = Consumes-trans _ _ _ _ _ h.ok.takes r.takes;
          goes_on = record {
            more = h.ok.goes_on.more ++ r.bytes;
            whole = ap (λ z. z ++ r.bytes) h.ok.goes_on.whole ∙ append_assoc (kept_bytes old.kept) h.ok.goes_on.more r.bytes;
          };
          spelled = nest.spelled;
          fits = omega (arith, nest.deep, r.fits, same_room, l);
          fresh = h.fresh;
          ready = s.ready;
          clean = s.clean;
          sound = s.sound ∙ h.sound;
          stays = stays_then g old mid last stays_mid s.stays;
        }

    -- one of them was refused
    pub nest_unread : (last : Deserializer R C) (e : Error) (before after : List Token) → 1 < room_of mid
        → ReadsTrees g (room_of mid - 1) (parts_count is_map n) mid last before after (Err e) → Lawful g reads_value old last (Err e)
    nest_unread last e before after l s =
        refused g reads_value old last e h.fresh s.failed (stays_then g old mid last stays_mid s.stays) (λ o k.
        nest_refused old.strict is_map n (room_of old) (left g old) (left g mid) h.ok.bytes h.ok.takes is_head (omega (arith, l, same_room))
        (subst (λ z. RefusesRow (SpellsAs z) ItemsUtf8 (room_of old - 1) (parts_count is_map n) (left g mid)) h.stays.strict
        (subst (λ z. RefusesRow (SpellsAs mid.strict) ItemsUtf8 (z - 1) (parts_count is_map n) (left g mid)) same_room
        (s.err o (k ∙ sym h.sound)))))

    pub nest_wrong : (last : Deserializer R C) (e : Error) → 1 < room_of mid
        → (e ≢ errors.OutOfMemory → RefusesRowFirst g UnreadFor ItemsUtf8 (room_of mid - 1) (parts_count is_map n) mid last e) → RefusesValue g old last e
    nest_wrong last e l w = λ _ k. elim (is_memory e) [
      | inl m ↦ subst (λ z. RefusedFor old.strict (UnreadFor old.strict) ItemsUtf8 (room_of old) z (left g old)) (sym m)
          (short_parts old.strict is_map n (room_of old) (omega (arith, l, same_room)) (left g old) (left g mid) h.ok.bytes h.ok.takes is_head)
      | inr o ↦ wrong_nest old.strict (UnreadFor old.strict) ItemsUtf8 (room_of old) (room_of mid - 1) is_map n (left g old) (left g mid) h.ok.bytes e
          h.ok.takes is_head (omega (arith, l, same_room))
          (subst (λ z. RowRefusedFor z (UnreadFor z) ItemsUtf8 (room_of mid - 1) (parts_count is_map n) e (left g mid)) h.stays.strict
          (w o (k ∙ sym h.sound)))
    ]

-- no head could be taken
pub none_wrong : {R C : Type 0} (g : Ghosts R) (old new : Deserializer R C) (e : Error) → ReadsHead g old new (Err e) → RefusesValue g old new e
none_wrong g old new e h = λ f k. wrong_none old.strict (UnreadFor old.strict) ItemsUtf8 (wider old.strict) (room_of old) (faults_of g old)
    (faults_of g new) (left g old) e k (h.ends f)
