-- From what open lists and maps want to what they want then.
use Rattle.std.proofs.Common.{◌≡◌, ◌∙◌, sym, ap, subst, refl, ℕ, suc, ◌<◌, inl, inr, arith, List, [], ◌∷◌, ◌++◌, Bool, append_assoc}
use Rattle.rmp_wire.specs.Canonical.{heads_of, SpellsAs}
use Rattle.rmp_wire.specs.Msg.{Msg, Msgs, no_items, item, count, depth, depth_all}
use Rattle.rmp_wire.specs.Spelling.{head_of}
use Rattle.rmp_wire.specs.Taking.{marker_of}
use Rattle.rmp_wire.proofs.Strict.{heads_differ_as, spelled_once_as}
use Rattle.rmp_decode.specs.Open.{SpellsMany, SpellsOpen, SpellsThen, OpenRefusal, Leads}
use Rattle.rmp_decode.specs.Refuse.{inside}
use Rattle.rmp_decode.specs.Seq.{SpellsRow, BeginsRow}
use Rattle.rmp_decode.specs.Skip.{any_row, parts_head, parts_count}
use Rattle.rmp_decode.specs.declared.error.Error.{Error}
use Rattle.rmp_decode.proofs.NothingAccepted.{same_head}
use Rattle.rmp_decode.proofs.SkipLaws.{PartsAfter, parts_after, nest_of}
use Rattle.rmp_decode.proofs.FirstFault.{Front, front_of, starts}

module _ (w : Bool) where
  -- ---- one message in front

  many_item : (room n : ℕ) (m : Msg) (a b : List ℕ) → SpellsAs w a m → depth m < room → SpellsMany w room n b → SpellsMany w room (suc n) (a ++ b)
  many_item room n m a b s d r = record {
    trees = item m r.trees;
    spelled = record { first = a; second = b; is_first = s; is_second = r.spelled; is_whole = refl };
    many = ap suc r.many;
    fits = let f = r.fits in omega (arith, d, f);
  }

  abbrev row_item : (room n : ℕ) (m : Msg) (a xs ys : List ℕ) → xs ≡ a ++ ys → SpellsAs w a m → depth m < room → BeginsRow (SpellsAs w) any_row room n ys
      → BeginsRow (SpellsAs w) any_row room (suc n) xs
  row_item room n m a xs ys q s d r = record {
    bytes = a ++ r.bytes;
    rest = r.rest;
    trees = item m r.trees;
    front = q ∙ ap (λ z. a ++ z) r.front ∙ sym (append_assoc a r.bytes r.rest);
    spelled = record { first = a; second = r.bytes; is_first = s; is_second = r.spelled; is_whole = refl };
    many = ap suc r.many;
    fits = let f = r.fits in omega (arith, d, f);
    holds = tt;
  }

  abbrev pub no_row : (room : ℕ) (xs : List ℕ) → 0 < room → BeginsRow (SpellsAs w) any_row room 0 xs
  no_row room xs l = record { bytes = []; rest = xs; trees = no_items; front = refl; spelled = refl; many = refl; fits = omega (arith, l); holds = tt }

  -- ---- what was there comes after

  -- the rest of a row and what follows it, when a part of it is split off
  pub split_off : (c first second more x : List ℕ) → c ≡ first ++ second → first ++ ((second ++ more) ++ x) ≡ (c ++ more) ++ x
  split_off c first second more x e = sym (append_assoc first (second ++ more) x) ∙ ap (λ z. z ++ x) (sym (append_assoc first second more))
      ∙ ap (λ z. (z ++ more) ++ x) (sym e)

  message_opens : (room n : ℕ) (counts : List ℕ) (m : Msg) (a c more x ys : List ℕ) (ts : Msgs) → SpellsAs w a m → SpellsRow (SpellsAs w) c ts
      → count ts ≡ suc n → depth_all ts < room → SpellsOpen w (suc room) counts more → (c ++ more) ++ x ≡ a ++ ys → SpellsThen w room (n ∷ counts) x ys
  message_opens room n counts m a c more x ys no_items s t l d o e = absurd (omega (arith, l))
  message_opens room n counts m a c more x ys (item k ks) s t l d o e =
      let u = spelled_once_as w k m t.first a ((t.second ++ more) ++ x) ys t.is_first s (split_off c t.first t.second more x t.is_whole ∙ e) in
      record {
        bytes = t.second ++ more;
        front = sym u.2;
        spelled = record {
          first = t.second;
          second = more;
          is_first = record
              { trees = ks; spelled = t.is_second; many = omega (arith, l); fits = omega (arith, d) };
          is_second = o;
          is_whole = refl;
        };
      }

  enter_opens : (is_map : Bool) (len room n : ℕ) (counts a c more x ys : List ℕ) (ts : Msgs) → heads_of w (parts_head is_map len) a
      → SpellsRow (SpellsAs w) c ts → count ts ≡ suc n → depth_all ts < suc room → SpellsOpen w (suc (suc room)) counts more → (c ++ more) ++ x ≡ a ++ ys
      → SpellsThen w room (parts_count is_map len ∷ n ∷ counts) x ys
  enter_opens is_map len room n counts a c more x ys no_items i t l d o e = absurd (omega (arith, l))
  enter_opens is_map len room n counts a c more x ys (item k ks) i t l d o e =
      let split : t.first ++ ((t.second ++ more) ++ x) ≡ a ++ ys = split_off c t.first t.second more x t.is_whole ∙ e in
      let u = same_head w k (parts_head is_map len) t.first a ((t.second ++ more) ++ x) ys t.is_first i split in
      let p : PartsAfter w room (parts_count is_map len) ((t.second ++ more) ++ x) ys = parts_after w is_map k len room t.first ((t.second ++ more) ++ x) ys
      t.is_first u.0 (omega (arith, d))
      (λ d c q j. (heads_differ_as w (head_of k) (parts_head is_map len) d a (c ++ ((t.second ++ more) ++ x)) ys j i
      (sym (append_assoc d c ((t.second ++ more) ++ x)) ∙ ap (λ z. z ++ ((t.second ++ more) ++ x)) (sym q) ∙ split)).2) in
      record {
        bytes = p.bytes ++ (t.second ++ more);
        front = p.front ∙ sym (append_assoc p.bytes (t.second ++ more) x);
        spelled = record {
          first = p.bytes;
          second = t.second ++ more;
          is_first = p.spelled;
          is_second = record {
            first = t.second;
            second = more;
            is_first = record
                { trees = ks; spelled = t.is_second; many = omega (arith, l); fits = omega (arith, d) };
            is_second = o;
            is_whole = refl;
          };
          is_whole = refl;
        };
      }

  leave_opens : (room : ℕ) (counts c more x ys : List ℕ) (ts : Msgs) → SpellsRow (SpellsAs w) c ts → count ts ≡ 0 → SpellsOpen w (suc room) counts more
      → (c ++ more) ++ x ≡ ys → SpellsThen w (suc room) counts x ys
  leave_opens room counts c more x ys no_items t l o e = record { bytes = more; front = sym e ∙ ap (λ z. (z ++ more) ++ x) t; spelled = o }
  leave_opens room counts c more x ys (item k ks) t l o e = absurd (omega (arith, l))

  -- ---- steps

  module _ (wrong : ℕ → Error → List ℕ → Type 0) where
    -- what is wrong after a message is so with it
    message_refuses : (room n : ℕ) (counts : List ℕ) (m : Msg) (a xs ys : List ℕ) (e : Error) → xs ≡ a ++ ys → SpellsAs w a m → depth m < room
        → OpenRefusal w wrong room (n ∷ counts) e ys → OpenRefusal w wrong room (suc n ∷ counts) e xs
    message_refuses room n counts m a xs ys e q s d o = elim o [
      | inl r ↦ let f = r.fewer in inl (record {
        many = suc r.many;
        before = row_item room r.many m a xs ys q s d r.before;
        fewer = omega (arith, f);
        next = r.next;
      })
      | inr p ↦ inr (row_item room n m a xs ys q s d p.0, p.1)
    ]

    enter_refuses : (is_map : Bool) (len room n : ℕ) (counts a ys : List ℕ) (e : Error) → heads_of w (parts_head is_map len) a
        → OpenRefusal w wrong room (parts_count is_map len ∷ n ∷ counts) e ys → OpenRefusal w wrong (suc room) (suc n ∷ counts) e (a ++ ys)
    enter_refuses is_map len room n counts a ys e i o = elim o [
      | inl r ↦
          let f : Front w (parts_head is_map len) (a ++ ys) ys = front_of w (parts_head is_map len) a (a ++ ys) ys refl i in
          inl (record {
            many = 0;
            before = no_row (suc room) (a ++ ys) (omega arith);
            fewer = omega arith;
            next = inside
                (record {
                  parts = record { is_map = is_map; len = len; marker = marker_of f.byte; starts = starts f };
                  many = r.many;
                  before = r.before;
                  fewer = r.fewer;
                }) r.next;
          })
      | inr p ↦
          let b = p.0 in
          let nest = nest_of w is_map len b.trees a b.bytes i b.spelled b.many in
          message_refuses (suc room) n counts nest.tree (a ++ b.bytes) (a ++ ys) b.rest e (ap (λ z. a ++ z) b.front ∙ sym (append_assoc a b.bytes b.rest))
          nest.spelled (omega (arith, nest.deep, b.fits)) p.1
    ]

    pub leads_none : (room : ℕ) (counts : List ℕ) → Leads w wrong room counts room counts []
    leads_none room counts = record { closes = λ b s. s; opens = λ b x ys s e. record { bytes = b; front = sym e; spelled = s }; refuses = λ e ys o. o }

    pub leads_then : (room : ℕ) (counts : List ℕ) (room' : ℕ) (counts' : List ℕ) (room'' : ℕ) (counts'' a b : List ℕ)
        → Leads w wrong room counts room' counts' a → Leads w wrong room' counts' room'' counts'' b → Leads w wrong room counts room'' counts'' (a ++ b)
    leads_then room counts room' counts' room'' counts'' a b p q = record {
      closes = λ c s. subst (SpellsOpen w room counts) (sym (append_assoc a b c)) (p.closes (b ++ c) (q.closes c s));
      opens = λ c x ys s e. let o = p.opens c x (b ++ ys) s (e ∙ append_assoc a b ys) in q.opens o.bytes x ys o.spelled (sym o.front);
      refuses = λ e ys o. subst (OpenRefusal w wrong room counts e) (sym (append_assoc a b ys)) (p.refuses e (b ++ ys) (q.refuses e ys o));
    }

    -- a whole message
    pub leads_message : (room n : ℕ) (counts : List ℕ) (m : Msg) (a : List ℕ) → SpellsAs w a m → depth m < room
        → Leads w wrong room (suc n ∷ counts) room (n ∷ counts) a
    leads_message room n counts m a s d = record {
      closes = λ b r. record {
        first = a ++ r.first;
        second = r.second;
        is_first = many_item room n m a r.first s d r.is_first;
        is_second = r.is_second;
        is_whole = ap (λ z. a ++ z) r.is_whole ∙ sym (append_assoc a r.first r.second);
      };
      opens = λ b x ys r e. message_opens room n counts m a r.first r.second x ys r.is_first.trees s r.is_first.spelled r.is_first.many r.is_first.fits
          r.is_second (ap (λ z. z ++ x) (sym r.is_whole) ∙ e);
      refuses = λ e ys o. message_refuses room n counts m a (a ++ ys) ys e refl s d o;
    }

    -- the head of a list or a map
    pub leads_in : (is_map : Bool) (len room n : ℕ) (counts a : List ℕ) → heads_of w (parts_head is_map len) a
        → Leads w wrong (suc room) (suc n ∷ counts) room (parts_count is_map len ∷ n ∷ counts) a
    leads_in is_map len room n counts a i = record {
      closes = λ b r.
          let t = r.is_second in
          let nest = nest_of w is_map len r.is_first.trees a r.first i r.is_first.spelled r.is_first.many in
          record {
            first = (a ++ r.first) ++ t.first;
            second = t.second;
            is_first = many_item (suc room) n nest.tree (a ++ r.first) t.first nest.spelled (omega (arith, nest.deep, r.is_first.fits)) t.is_first;
            is_second = t.is_second;
            is_whole = ap (λ z. a ++ z) (r.is_whole ∙ ap (λ z. r.first ++ z) t.is_whole) ∙ sym (append_assoc a r.first (t.first ++ t.second))
                ∙ sym (append_assoc (a ++ r.first) t.first t.second);
          };
      opens = λ b x ys r e. enter_opens is_map len room n counts a r.first r.second x ys r.is_first.trees i r.is_first.spelled r.is_first.many
          r.is_first.fits r.is_second (ap (λ z. z ++ x) (sym r.is_whole) ∙ e);
      refuses = λ e ys o. enter_refuses is_map len room n counts a ys e i o;
    }

    -- the end of a list or a map
    pub leads_out : (room : ℕ) (counts : List ℕ) → 0 < room → Leads w wrong room (0 ∷ counts) (suc room) counts []
    leads_out room counts l = record {
      closes = λ b s. record {
        first = [];
        second = b;
        is_first = record { trees = no_items; spelled = refl; many = refl; fits = omega (arith, l) };
        is_second = s;
        is_whole = refl;
      };
      opens = λ b x ys r e. leave_opens room counts r.first r.second x ys r.is_first.trees r.is_first.spelled r.is_first.many r.is_second
          (ap (λ z. z ++ x) (sym r.is_whole) ∙ e);
      refuses = λ e ys o. inr (no_row room ys l, o);
    }
