-- From what open lists and maps want to what they want then, with the heads that were taken.
use Rattle.std.proofs.Common.{◌≡◌, ◌∙◌, sym, ap, subst, refl, ℕ, suc, ◌*◌, ◌<◌, inl, inr, arith, List, [], ◌∷◌, ◌++◌, Bool, true, false, append_assoc}
use Rattle.rmp_wire.specs.Canonical.{heads_of, SpellsAs}
use Rattle.rmp_wire.specs.Msg.{
  Msg,
  nil,
  truth,
  whole,
  float32,
  float64,
  text,
  bin,
  list,
  map,
  extension,
  Msgs,
  no_items,
  item,
  Pairs,
  no_pairs,
  pair,
  count,
  count_pairs,
  depth,
  depth_all,
}
use Rattle.rmp_wire.specs.Spelling.{head_of}
use Rattle.rmp_wire.specs.Taking.{marker_of}
use Rattle.rmp_wire.specs.declared.head.Head.TheVariants.{Array, Map}
use Rattle.rmp_wire.proofs.Strict.{heads_differ_as, spelled_once_as}
use Rattle.rmp_decode.specs.Refuse.{inside}
use Rattle.rmp_decode.specs.Seq.{SpellsRow, BeginsRow}
use Rattle.rmp_decode.specs.Skip.{parts_head, parts_count}
use Rattle.rmp_decode.specs.declared.error.Error.{Error}
use Rattle.rmp_decode.proofs.WantedNext.{split_off}
use Rattle.rmp_decode.proofs.NothingAccepted.{same_head}
use Rattle.rmp_decode.proofs.Rows.{in_list, listed}
use Rattle.rmp_decode.proofs.SkipLaws.{in_turn, count-in_turn, depth-in_turn, turned, paired}
use Rattle.rmp_decode.proofs.FirstFault.{Front, front_of, starts}
use Rattle.rmp_serde.specs.Read.{AllTextsUtf8, ItemsUtf8, PairsUtf8}
use Rattle.rmp_serde.specs.Tokens.{Token, tokens, tokens_all, tokens_pairs}
use Rattle.rmp_serde.proofs.OpenTrees.{SpellsTrees, SpellsOpenTrees, AfterTrees, OpenTreesRefusal, LeadsTrees}

tokens_turned : (ps : Pairs) → tokens_all (in_turn ps) ≡ tokens_pairs ps
tokens_turned no_pairs = refl
tokens_turned (pair k v ps) = ap (λ z. tokens k ++ (tokens v ++ z)) (tokens_turned ps)

pub turned_utf8 : (ps : Pairs) → PairsUtf8 ps → ItemsUtf8 (in_turn ps)
turned_utf8 no_pairs u = tt
turned_utf8 (pair k v ps) u = (u.0, (u.1, turned_utf8 ps u.2))

paired_utf8 : (ps : Pairs) → ItemsUtf8 (in_turn ps) → PairsUtf8 ps
paired_utf8 no_pairs u = tt
paired_utf8 (pair k v ps) u = (u.0, u.1.0, paired_utf8 ps u.1.1)

module _ (w : Bool) where
  -- ---- a list or a map, from its head and its parts

  pub record NestTree (is_map : Bool) (n : ℕ) (ms : Msgs) (bytes : List ℕ) : Type 0 where
    pub tree : Msg
    pub spelled : SpellsAs w bytes tree
    pub deep : depth tree ≡ suc (depth_all ms)
    pub utf8 : AllTextsUtf8 tree
    pub told : tokens tree ≡ (parts_head is_map n, []) ∷ tokens_all ms

  pub nest_tree : (is_map : Bool) (n : ℕ) (ms : Msgs) (head bytes : List ℕ) → heads_of w (parts_head is_map n) head
      → SpellsRow (SpellsAs w) bytes ms → count ms ≡ parts_count is_map n → ItemsUtf8 ms → NestTree is_map n ms (head ++ bytes)
  nest_tree true n ms head bytes i s c h =
      let q = paired w ms n bytes c s in
      record {
        tree = map q.pairs;
        spelled = record {
          first = head;
          second = bytes;
          is_first = subst (λ z. heads_of w (Map z) head) (sym q.many) i;
          is_second = q.spelled;
          is_whole = refl;
        };
        deep = ap suc (sym (depth-in_turn q.pairs) ∙ ap depth_all (sym q.is));
        utf8 = paired_utf8 q.pairs (subst ItemsUtf8 q.is h);
        told = ap (λ z. (Map z, []) ∷ tokens_pairs q.pairs) q.many ∙ ap (λ z. (Map n, []) ∷ z) (sym (tokens_turned q.pairs) ∙ ap tokens_all (sym q.is));
      }
  nest_tree false n ms head bytes i s c h =
      record {
        tree = list ms;
        spelled = record {
          first = head;
          second = bytes;
          is_first = subst (λ z. heads_of w (Array z) head) (sym c) i;
          is_second = in_list w ms bytes s;
          is_whole = refl;
        };
        deep = refl;
        utf8 = h;
        told = ap (λ z. (Array z, []) ∷ tokens_all ms) c;
      }

  -- ---- AllTextsUtf8 message in front

  many_tree : (room n : ℕ) (m : Msg) (a b : List ℕ) (t : List Token) → SpellsAs w a m → depth m < room → AllTextsUtf8 m → SpellsTrees w room n b t
      → SpellsTrees w room (suc n) (a ++ b) (tokens m ++ t)
  many_tree room n m a b t s d o r = record {
    trees = item m r.trees;
    spelled = record { first = a; second = b; is_first = s; is_second = r.spelled; is_whole = refl };
    many = ap suc r.many;
    fits = let f = r.fits in omega (arith, d, f);
    utf8 = (o, r.utf8);
    told = ap (λ z. tokens m ++ z) r.told;
  }

  abbrev row_tree : (room n : ℕ) (m : Msg) (a xs ys : List ℕ) → xs ≡ a ++ ys → SpellsAs w a m → depth m < room → AllTextsUtf8 m
      → BeginsRow (SpellsAs w) ItemsUtf8 room n ys → BeginsRow (SpellsAs w) ItemsUtf8 room (suc n) xs
  row_tree room n m a xs ys q s d o r = record {
    bytes = a ++ r.bytes;
    rest = r.rest;
    trees = item m r.trees;
    front = q ∙ ap (λ z. a ++ z) r.front ∙ sym (append_assoc a r.bytes r.rest);
    spelled = record { first = a; second = r.bytes; is_first = s; is_second = r.spelled; is_whole = refl };
    many = ap suc r.many;
    fits = let f = r.fits in omega (arith, d, f);
    holds = (o, r.holds);
  }

  abbrev pub no_row_tree : (room : ℕ) (xs : List ℕ) → 0 < room → BeginsRow (SpellsAs w) ItemsUtf8 room 0 xs
  no_row_tree room xs l = record { bytes = []; rest = xs; trees = no_items; front = refl; spelled = refl; many = refl; fits = omega (arith, l); holds = tt }

  -- ---- what was there comes after it

  message_opens : (room n : ℕ) (counts : List ℕ) (m : Msg) (a c more : List ℕ) (mt : List Token) (x ys : List ℕ) (ts : Msgs) → SpellsAs w a m
      → SpellsRow (SpellsAs w) c ts → count ts ≡ suc n → depth_all ts < room → ItemsUtf8 ts → SpellsOpenTrees w (suc room) counts more mt
      → (c ++ more) ++ x ≡ a ++ ys
      → AfterTrees w room (n ∷ counts) x ys
  message_opens room n counts m a c more mt x ys no_items s t l d h o e = absurd (omega (arith, l))
  message_opens room n counts m a c more mt x ys (item k ks) s t l d h o e =
      let u = spelled_once_as w k m t.first a ((t.second ++ more) ++ x) ys t.is_first s (split_off w c t.first t.second more x t.is_whole ∙ e) in
      record {
        bytes = t.second ++ more;
        heads = tokens_all ks ++ mt;
        front = sym u.2;
        spelled = record {
          first = t.second;
          second = more;
          first_heads = tokens_all ks;
          second_heads = mt;
          is_first =
              record { trees = ks; spelled = t.is_second; many = omega (arith, l); fits = omega (arith, d); utf8 = h.1; told = refl };
          is_second = o;
          is_whole = refl;
          all_heads = refl;
        };
      }

  pub record PartsTrees (room n : ℕ) (x y : List ℕ) : Type 0 where
    pub bytes : List ℕ
    pub heads : List Token
    pub front : y ≡ bytes ++ x
    pub spelled : SpellsTrees w room n bytes heads

  pub parts_trees : (is_map : Bool) (m : Msg) (n room : ℕ) (a x y : List ℕ) → SpellsAs w a m → head_of m ≡ parts_head is_map n → depth m < suc room
      → AllTextsUtf8 m → ((d c : List ℕ) → a ≡ d ++ c → heads_of w (head_of m) d → c ++ x ≡ y) → PartsTrees room (parts_count is_map n) x y
  parts_trees true nil n room a x y s e d o f = absurd (cc)
  parts_trees true (truth t) n room a x y s e d o f = absurd (cc)
  parts_trees true (whole z) n room a x y s e d o f = absurd (cc)
  parts_trees true (float32 k) n room a x y s e d o f = absurd (cc)
  parts_trees true (float64 k) n room a x y s e d o f = absurd (cc)
  parts_trees true (text t) n room a x y s e d o f = absurd (cc)
  parts_trees true (bin t) n room a x y s e d o f = absurd (cc)
  parts_trees true (list ms) n room a x y s e d o f = absurd (cc)
  parts_trees true (map ps) n room a x y s e d o f =
      let same : count_pairs ps ≡ n = cc in
      record {
        bytes = s.second;
        heads = tokens_all (in_turn ps);
        front = sym (f s.first s.second s.is_whole s.is_first);
        spelled = record {
          trees = in_turn ps;
          spelled = turned w ps s.second s.is_second;
          many = count-in_turn ps ∙
              ap (λ z. 2 * z) same;
          fits = omega (arith, depth-in_turn ps, d);
          utf8 = turned_utf8 ps o;
          told = refl;
        };
      }
  parts_trees true (extension tag t) n room a x y s e d o f = absurd (cc)
  parts_trees false nil n room a x y s e d o f = absurd (cc)
  parts_trees false (truth t) n room a x y s e d o f = absurd (cc)
  parts_trees false (whole z) n room a x y s e d o f = absurd (cc)
  parts_trees false (float32 k) n room a x y s e d o f = absurd (cc)
  parts_trees false (float64 k) n room a x y s e d o f = absurd (cc)
  parts_trees false (text t) n room a x y s e d o f = absurd (cc)
  parts_trees false (bin t) n room a x y s e d o f = absurd (cc)
  parts_trees false (list ms) n room a x y s e d o f =
      let same : count ms ≡ n = cc in
      record {
        bytes = s.second;
        heads = tokens_all ms;
        front = sym (f s.first s.second s.is_whole s.is_first);
        spelled =
            record { trees = ms; spelled = listed w ms s.second s.is_second; many = same; fits = omega (arith, d); utf8 = o; told = refl };
      }
  parts_trees false (map ps) n room a x y s e d o f = absurd (cc)
  parts_trees false (extension tag t) n room a x y s e d o f = absurd (cc)

  enter_opens : (is_map : Bool) (len room n : ℕ) (counts a c more : List ℕ) (mt : List Token) (x ys : List ℕ) (ts : Msgs)
      → heads_of w (parts_head is_map len) a → SpellsRow (SpellsAs w) c ts → count ts ≡ suc n → depth_all ts < suc room → ItemsUtf8 ts
      → SpellsOpenTrees w (suc (suc room)) counts more mt
      → (c ++ more) ++ x ≡ a ++ ys → AfterTrees w room (parts_count is_map len ∷ n ∷ counts) x ys
  enter_opens is_map len room n counts a c more mt x ys no_items i t l d h o e = absurd (omega (arith, l))
  enter_opens is_map len room n counts a c more mt x ys (item k ks) i t l d h o e =
      let split : t.first ++ ((t.second ++ more) ++ x) ≡ a ++ ys = split_off w c t.first t.second more x t.is_whole ∙ e in
      let u = same_head w k (parts_head is_map len) t.first a ((t.second ++ more) ++ x) ys t.is_first i split in
      let q : PartsTrees room (parts_count is_map len) ((t.second ++ more) ++ x) ys = parts_trees is_map k len room t.first ((t.second ++ more) ++ x) ys
      t.is_first u.0 (omega (arith, d)) (h.0)
      (λ d c q j. (heads_differ_as w (head_of k) (parts_head is_map len) d a (c ++ ((t.second ++ more) ++ x)) ys j i
      (sym (append_assoc d c ((t.second ++ more) ++ x)) ∙ ap (λ z. z ++ ((t.second ++ more) ++ x)) (sym q) ∙ split)).2) in
      record {
        bytes = q.bytes ++ (t.second ++ more);
        heads = q.heads ++ (tokens_all ks ++ mt);
        front = q.front ∙ sym (append_assoc q.bytes (t.second ++ more) x);
        spelled = record {
          first = q.bytes;
          second = t.second ++ more;
          first_heads = q.heads;
          second_heads = tokens_all ks ++ mt;
          is_first = q.spelled;
          is_second = record {
            first = t.second;
            second = more;
            first_heads = tokens_all ks;
            second_heads = mt;
            is_first =
                record { trees = ks; spelled = t.is_second; many = omega (arith, l); fits = omega (arith, d); utf8 = h.1; told = refl };
            is_second = o;
            is_whole = refl;
            all_heads = refl;
          };
          is_whole = refl;
          all_heads = refl;
        };
      }

  leave_opens : (room : ℕ) (counts c more : List ℕ) (mt : List Token) (x ys : List ℕ) (ts : Msgs) → SpellsRow (SpellsAs w) c ts → count ts ≡ 0
      → SpellsOpenTrees w (suc room) counts more mt → (c ++ more) ++ x ≡ ys → AfterTrees w (suc room) counts x ys
  leave_opens room counts c more mt x ys no_items t l o e = record { bytes = more; heads = mt; front = sym e ∙ ap (λ z. (z ++ more) ++ x) t; spelled = o }
  leave_opens room counts c more mt x ys (item k ks) t l o e = absurd (omega (arith, l))

  -- ---- steps

  module _ (wrong : ℕ → Error → List ℕ → Type 0) where
    message_refuses : (room n : ℕ) (counts : List ℕ) (m : Msg) (a xs ys : List ℕ) (e : Error) → xs ≡ a ++ ys → SpellsAs w a m → depth m < room
        → AllTextsUtf8 m → OpenTreesRefusal w wrong room (n ∷ counts) e ys → OpenTreesRefusal w wrong room (suc n ∷ counts) e xs
    message_refuses room n counts m a xs ys e q s d h o = elim o [
      | inl r ↦ let f = r.fewer in inl (record {
        many = suc r.many;
        before = row_tree room r.many m a xs ys q s d h r.before;
        fewer = omega (arith, f);
        next = r.next;
      })
      | inr b ↦ inr (row_tree room n m a xs ys q s d h b.0, b.1)
    ]

    enter_refuses : (is_map : Bool) (len room n : ℕ) (counts a ys : List ℕ) (e : Error) → heads_of w (parts_head is_map len) a
        → OpenTreesRefusal w wrong room (parts_count is_map len ∷ n ∷ counts) e ys → OpenTreesRefusal w wrong (suc room) (suc n ∷ counts) e (a ++ ys)
    enter_refuses is_map len room n counts a ys e i o = elim o [
      | inl r ↦
          let f : Front w (parts_head is_map len) (a ++ ys) ys = front_of w (parts_head is_map len) a (a ++ ys) ys refl i in
          inl (record {
            many = 0;
            before = no_row_tree (suc room) (a ++ ys) (omega arith);
            fewer = omega arith;
            next =
                inside (record {
                  parts = record { is_map = is_map; len = len; marker = marker_of f.byte; starts = starts f };
                  many = r.many;
                  before = r.before;
                  fewer = r.fewer;
                }) r.next;
          })
      | inr q ↦
          let b = q.0 in
          let nest = nest_tree is_map len b.trees a b.bytes i b.spelled b.many b.holds in
          message_refuses (suc room) n counts nest.tree (a ++ b.bytes) (a ++ ys) b.rest e
          (ap (λ z. a ++ z) b.front ∙ sym (append_assoc a b.bytes b.rest)) nest.spelled (omega (arith, nest.deep, b.fits)) nest.utf8 q.1
    ]

    pub trees_none : (room : ℕ) (counts : List ℕ) → LeadsTrees w wrong room counts room counts [] []
    trees_none room counts = record {
      closes = λ b t s. s;
      opens = λ b t x ys s e. record { bytes = b; heads = t; front = sym e; spelled = s };
      refuses = λ e ys o. o;
    }

    pub trees_then : (room : ℕ) (counts : List ℕ) (room' : ℕ) (counts' : List ℕ) (room'' : ℕ) (counts'' a b : List ℕ) (at bt : List Token)
        → LeadsTrees w wrong room counts room' counts' a at → LeadsTrees w wrong room' counts' room'' counts'' b bt
        → LeadsTrees w wrong room counts room'' counts'' (a ++ b) (at ++ bt)
    trees_then room counts room' counts' room'' counts'' a b at bt x y = record {
      closes = λ c t s. subst (λ z. SpellsOpenTrees w room counts z ((at ++ bt) ++ t)) (sym (append_assoc a b c))
          (subst (λ z. SpellsOpenTrees w room counts (a ++ (b ++ c)) z) (sym (append_assoc at bt t)) (x.closes (b ++ c) (bt ++ t) (y.closes c t s)));
      opens = λ c t r ys s e. let o = x.opens c t r (b ++ ys) s (e ∙ append_assoc a b ys) in y.opens o.bytes o.heads r ys o.spelled (sym o.front);
      refuses = λ e ys o. subst (OpenTreesRefusal w wrong room counts e) (sym (append_assoc a b ys)) (x.refuses e (b ++ ys) (y.refuses e ys o));
    }

    -- a whole message
    pub trees_message : (room n : ℕ) (counts : List ℕ) (m : Msg) (a : List ℕ) → SpellsAs w a m → depth m < room → AllTextsUtf8 m
        → LeadsTrees w wrong room (suc n ∷ counts) room (n ∷ counts) a (tokens m)
    trees_message room n counts m a s d h = record {
      closes = λ b t r. record {
        first = a ++ r.first;
        second = r.second;
        first_heads = tokens m ++ r.first_heads;
        second_heads = r.second_heads;
        is_first = many_tree room n m a r.first r.first_heads s d h r.is_first;
        is_second = r.is_second;
        is_whole = ap (λ z. a ++ z) r.is_whole ∙ sym (append_assoc a r.first r.second);
        all_heads = ap (λ z. tokens m ++ z) r.all_heads ∙ sym (append_assoc (tokens m) r.first_heads r.second_heads);
      };
      opens = λ b t x ys r e. message_opens room n counts m a r.first r.second r.second_heads x ys r.is_first.trees s r.is_first.spelled r.is_first.many
          r.is_first.fits r.is_first.utf8 r.is_second (ap (λ z. z ++ x) (sym r.is_whole) ∙ e);
      refuses = λ e ys o. message_refuses room n counts m a (a ++ ys) ys e refl s d h o;
    }

    -- the head of a list or a map
    pub trees_in : (is_map : Bool) (len room n : ℕ) (counts a : List ℕ) → heads_of w (parts_head is_map len) a
        → LeadsTrees w wrong (suc room) (suc n ∷ counts) room (parts_count is_map len ∷ n ∷ counts) a ((parts_head is_map len, []) ∷ [])
    trees_in is_map len room n counts a i = record {
      closes = λ b bt r.
          let t = r.is_second in
          let nest = nest_tree is_map len r.is_first.trees a r.first i r.is_first.spelled r.is_first.many r.is_first.utf8 in
          let told : (parts_head is_map len, []) ∷ r.first_heads ≡ tokens nest.tree = ap (λ z. (parts_head is_map len, []) ∷ z) r.is_first.told
          ∙ sym nest.told in
          let m = many_tree (suc room) n nest.tree (a ++ r.first) t.first t.first_heads nest.spelled (omega (arith, nest.deep, r.is_first.fits)) nest.utf8
          t.is_first in
          record {
            first = (a ++ r.first) ++ t.first;
            second = t.second;
            first_heads = tokens nest.tree ++ t.first_heads;
            second_heads = t.second_heads;
            is_first = m;
            is_second = t.is_second;
            is_whole = ap (λ z. a ++ z) (r.is_whole ∙ ap (λ z. r.first ++ z) t.is_whole) ∙ sym (append_assoc a r.first (t.first ++ t.second))
                ∙ sym (append_assoc (a ++ r.first) t.first t.second);
            all_heads = ap (λ z. (parts_head is_map len, []) ∷ z) (r.all_heads ∙ ap (λ z. r.first_heads ++ z) t.all_heads) ∙
                ap (λ z. z ++ (t.first_heads ++ t.second_heads)) told ∙ sym (append_assoc (tokens nest.tree) t.first_heads t.second_heads);
          };
      opens = λ b bt x ys r e. enter_opens is_map len room n counts a r.first r.second r.second_heads x ys r.is_first.trees i r.is_first.spelled
          r.is_first.many r.is_first.fits r.is_first.utf8 r.is_second (ap (λ z. z ++ x) (sym r.is_whole) ∙ e);
      refuses = λ e ys o. enter_refuses is_map len room n counts a ys e i o;
    }

    -- the end of a list or a map
    pub trees_out : (room : ℕ) (counts : List ℕ) → 0 < room → LeadsTrees w wrong room (0 ∷ counts) (suc room) counts [] []
    trees_out room counts l = record {
      closes = λ b t s. record {
        first = [];
        second = b;
        first_heads = [];
        second_heads = t;
        is_first =
            record { trees = no_items; spelled = refl; many = refl; fits = omega (arith, l); utf8 = tt; told = refl };
        is_second = s;
        is_whole = refl;
        all_heads = refl;
      };
      opens = λ b t x ys r e. leave_opens room counts r.first r.second r.second_heads x ys r.is_first.trees r.is_first.spelled r.is_first.many r.is_second
          (ap (λ z. z ++ x) (sym r.is_whole) ∙ e);
      refuses = λ e ys o. inr (no_row_tree room ys l, o);
    }
