-- The bytes that are refused determine the error's name.
use Rattle.std.proofs.Common.{
  arith,
  ◌≡◌,
  ◌≢◌,
  ◌∙◌,
  ℕ,
  suc,
  ◌*◌,
  ◌<◌,
  ◌≤◌,
  inl,
  inr,
  Bool,
  true,
  false,
  cond,
  nat_lt,
  List,
  [],
  ◌∷◌,
  ◌++◌,
  length,
  get_or,
  refl,
  sym,
  ap,
  subst,
  append_assoc,
}
use Rattle.std.specs.Prelude.{codes}
use Rattle.std.proofs.lemmas.Bool.{cases_eq, cases_lt, lt-ltb, le-ltb}
use Rattle.std.proofs.lemmas.List.{length-append}
use Rattle.rmp_wire.specs.declared.head.Head.{Head}
use Rattle.rmp_wire.specs.declared.head.Head.TheVariants as head
use Rattle.rmp_wire.specs.declared.marker.Marker.{Marker}
use Rattle.rmp_wire.specs.Heads.{IsHead}
use Rattle.rmp_wire.specs.Msg.{
  Msg,
  text,
  bin,
  list,
  map,
  extension,
  Msgs,
  no_items,
  item,
  Pairs,
  no_pairs,
  pair,
  count,
  count_pairs,
  depth,
  depth_all,
  depth_pairs,
}
use Rattle.rmp_wire.specs.Canonical.{heads_of, SpellsAs}
use Rattle.rmp_wire.specs.Spelling.{PairsSpelledBy, head_of}
use Rattle.rmp_wire.specs.Taking.{marker_of, byte_of}
use Rattle.rmp_wire.proofs.Reading.{reserved_opens_none}
use Rattle.rmp_wire.proofs.Strict.{any_width, heads_differ_as, spelled_once_as}
use Rattle.rmp_decode.specs.Anys.{OpensParts}
use Rattle.rmp_decode.specs.Content.{CutPayload}
use Rattle.rmp_decode.specs.Exact.{BeginsWith, BeginsWithNone}
use Rattle.rmp_decode.specs.Kinds.{content_len}
use Rattle.rmp_decode.specs.Law.{Begins}
use Rattle.rmp_decode.specs.Refuse.{IsReserved, WidthIsWrong, Refusal, here, inside}
use Rattle.rmp_decode.specs.Seq.{SpellsRow, BeginsRow}
use Rattle.rmp_decode.specs.Skip.{parts_head, parts_count}
use Rattle.rmp_decode.specs.declared.error.Error.{Error}
use Rattle.rmp_decode.specs.declared.error.Error.TheVariants as errors
use Rattle.rmp_decode.proofs.ContentErrors.{same_front}
use Rattle.rmp_decode.proofs.NothingAccepted.{content_of, opened, same_head}
use Rattle.rmp_decode.proofs.Rows.{listed}
use Rattle.rmp_decode.proofs.FirstFault.{Front, front_of, starts}
use Rattle.rmp_serde.specs.Read.{AllTextsUtf8, ItemsUtf8, PairsUtf8}
use Rattle.rmp_serde.specs.Refuse.{UnreadFor, TextIsInvalid}
use Rattle.canon_lines.specs.Messages.{error_name}

-- ---- names

-- the bytes begin with no whole head of any width
abbrev NamedFirst : List ℕ → List ℕ → Type 0
NamedFirst [] name = name ≡ codes "InvalidMarkerRead"
NamedFirst (b ∷ xs) name = (b ≡ 0xc1 → name ≡ codes "TypeMismatch") × (b ≢ 0xc1 → name ≡ codes "InvalidDataRead")

-- the bytes begin with a head that may be read, with this many bytes after it
abbrev head_name : Head → ℕ → List ℕ
head_name (head.Array n) k = codes "DepthLimitExceeded"
head_name (head.Map n) k = codes "DepthLimitExceeded"
head_name h k = cond (nat_lt k (content_len h)) (codes "InvalidDataRead") (codes "Utf8Error")

front_once : (xs a b : List ℕ) → NamedFirst xs a → NamedFirst xs b → a ≡ b
front_once [] a b p q = p ∙ sym q
front_once (x ∷ xs) a b p q = elim (cases_eq x 0xc1) [ inl same ↦ p.0 same ∙ sym (q.0 same) | inr other ↦ p.1 other ∙ sym (q.1 other) ]

cut_name : (h : Head) (k : ℕ) → k < content_len h → head_name h k ≡ codes "InvalidDataRead"
cut_name (head.Array n) k l = absurd (omega arith)
cut_name (head.Map n) k l = absurd (omega arith)
cut_name h k l = let e = lt-ltb k (content_len h) l in rw e refl

parts_name : (is_map : Bool) (n k : ℕ) → head_name (parts_head is_map n) k ≡ codes "DepthLimitExceeded"
parts_name true n k = refl
parts_name false n k = refl

-- names that begin with another letter than that of a limit exceeded
other_letter : (name : List ℕ) → get_or name 0 0 ≢ 68 → name ≡ codes "DepthLimitExceeded" → ⊥
other_letter name n e = n (ap (λ (s : List ℕ). get_or s 0 0) e)

none_starts : (strict : Bool) → BeginsWithNone strict []
none_starts strict m h s = let e : ◌≡◌ {A = List ℕ} [] (s.byte ∷ (s.following ++ s.rest)) = s.front in absurd (cc)

-- no head begins with the byte c1
reserved_none : (strict : Bool) (m : Marker) (h : Head) (xs : List ℕ) → IsReserved xs → BeginsWith strict m h xs → ⊥
unfolding byte_of
reserved_none strict m h xs r s =
    let front : s.byte ∷ (s.following ++ s.rest) ≡ 0xc1 ∷ r.following = sym s.front ∙ r.front in
    let same : s.byte ≡ 0xc1 = cc in
    reserved_opens_none h s.following (subst (λ b. IsHead h (b ∷ s.following)) same (any_width strict h (s.byte ∷ s.following) s.is_head))

-- ---- messages and their parts

whole_fills : (m : Msg) → content_len (head_of m) ≤ length (content_of m)
whole_fills (text s) = omega arith
whole_fills (bin s) = omega arith
whole_fills (extension tag s) = omega arith
whole_fills m = omega arith

parts_deep : (m : Msg) (is_map : Bool) (n : ℕ) → head_of m ≡ parts_head is_map n → 0 < depth m
parts_deep (list ms) is_map n e = omega arith
parts_deep (map ps) is_map n e = omega arith
parts_deep m true n e = absurd (cc)
parts_deep m false n e = absurd (cc)

-- keys and values in turn
abbrev in_turn : Pairs → Msgs
in_turn no_pairs = no_items
in_turn (pair k v ps) = item k (item v (in_turn ps))

count-in_turn : (ps : Pairs) → count (in_turn ps) ≡ 2 * count_pairs ps
count-in_turn no_pairs = refl
count-in_turn (pair k v ps) = let i = count-in_turn ps in omega arith

depth-in_turn : (ps : Pairs) → depth_all (in_turn ps) ≡ depth_pairs ps
depth-in_turn no_pairs = refl
depth-in_turn (pair k v ps) = let i = depth-in_turn ps in omega arith

utf8-in_turn : (ps : Pairs) → PairsUtf8 ps → ItemsUtf8 (in_turn ps)
utf8-in_turn no_pairs u = tt
utf8-in_turn (pair k v ps) u = (u.0, (u.1, utf8-in_turn ps u.2))

-- ---- whether reading is strict or not

module _ (strict : Bool) where
  -- a head that the bytes begin with is one of some width
  wide : (m : Marker) (h : Head) (xs : List ℕ) → BeginsWith strict m h xs → BeginsWith false m h xs
  wide m h xs s = record {
    byte = s.byte;
    following = s.following;
    rest = s.rest;
    front = s.front;
    is_marker = s.is_marker;
    is_head = any_width strict h
        (s.byte ∷ s.following) s.is_head;
  }

  -- the bytes begin with at most one head
  one_head : {m n : Marker} {h k : Head} {xs : List ℕ} (s : BeginsWith strict m h xs) (t : BeginsWith strict n k xs) → (h ≡ k) × (s.rest ≡ t.rest)
  one_head {m} {n} {h} {k} s t = let u = heads_differ_as strict h k (s.byte ∷ s.following) (t.byte ∷ t.following) s.rest t.rest s.is_head t.is_head
      (sym s.front ∙ t.front) in (u.0, u.2)

  record NamedHead (xs name : List ℕ) : Type 0 where
    pub head : Head
    pub marker : Marker
    pub starts : BeginsWith strict marker head xs
    pub is : name ≡ head_name head (length starts.rest)

  -- What the bytes begin with determines the name: no head, one of another width, or one that may be read.
  data Named (xs name : List ℕ) : Type 0 where
    front : BeginsWithNone false xs → NamedFirst xs name → Named xs name
    width : WidthIsWrong strict xs → name ≡ codes "NotCanonical" → Named xs name
    by_head : NamedHead xs name → Named xs name

  named_once : (xs a b : List ℕ) → Named xs a → Named xs b → a ≡ b
  named_once xs a b (front n p) (front m q) = front_once xs a b p q
  named_once xs a b (front n p) (width w q) = absurd (n w.other.marker w.other.head w.other.starts)
  named_once xs a b (front n p) (by_head q) = absurd (n q.marker q.head (wide q.marker q.head xs q.starts))
  named_once xs a b (width w p) (front m q) = absurd (m w.other.marker w.other.head w.other.starts)
  named_once xs a b (width w p) (width v q) = p ∙ sym q
  named_once xs a b (width w p) (by_head q) = absurd (w.none q.marker q.head q.starts)
  named_once xs a b (by_head p) (front m q) = absurd (m p.marker p.head (wide p.marker p.head xs p.starts))
  named_once xs a b (by_head p) (width w q) = absurd (w.none p.marker p.head p.starts)
  named_once xs a b (by_head p) (by_head q) =
      let u = one_head p.starts q.starts in
      p.is ∙ ap (λ h. head_name h (length p.starts.rest)) u.0 ∙ ap (λ s. head_name q.head (length s)) u.1 ∙ sym q.is

  parts_named : (xs : List ℕ) → OpensParts strict xs → Named xs (codes "DepthLimitExceeded")
  parts_named xs p = by_head (record {
    head = parts_head p.is_map p.len;
    marker = p.marker;
    starts = p.starts;
    is = sym
        (parts_name p.is_map p.len (length p.starts.rest));
  })

  text_after : (xs : List ℕ) (t : TextIsInvalid strict xs) → nat_lt (length t.starts.starts.rest) (length t.text) ≡ false
  text_after xs t =
      let long = ap length t.starts.content ∙ length-append t.text t.starts.following in
      le-ltb (length t.starts.starts.rest) (length t.text) (omega (arith, long))

  named : (room : ℕ) (e : Error) (xs : List ℕ) → e ≢ errors.OutOfMemory → UnreadFor strict room e xs → Named xs (error_name e)
  named room (errors.InvalidMarkerRead x) xs n w = subst (λ s. Named s (codes "InvalidMarkerRead")) (sym w.1) (front (none_starts false) refl)
  named room (errors.InvalidDataRead x) xs n (d, inl c) = front c.none
      (subst (λ s. NamedFirst s (codes "InvalidDataRead")) (sym c.front) (λ q. absurd (c.opens q), λ q. refl))
  named room (errors.InvalidDataRead x) xs n (d, inr (h, s)) = by_head
      (record { head = h; marker = s.marker; starts = s.starts; is = sym (cut_name h (length s.starts.rest) s.short) })
  named room (errors.TypeMismatch m) xs n (q, r) = front (λ k h s. reserved_none false k h xs r s)
      (subst (λ s. NamedFirst s (codes "TypeMismatch")) (sym r.front) (λ q. refl, λ q. absurd (q refl)))
  named room errors.OutOfRange xs n w = absurd w
  named room (errors.LengthMismatch k) xs n w = absurd w
  named room (errors.Uncategorized k) xs n w = absurd w
  named room (errors.Syntax k) xs n w = absurd w
  named room (errors.Utf8Error k) xs n w = let e = text_after xs w
      in by_head (record { head = head.Text (length w.text); marker = w.starts.marker; starts = w.starts.starts; is = rw e refl })
  named room errors.DepthLimitExceeded xs n w = parts_named xs w.1
  named room errors.OutOfMemory xs n w = absurd (n refl)
  named room errors.NotCanonical xs n w = width w refl

  -- a list or a map at the front is refused there only where there is no room for one
  deep : (room : ℕ) (e : Error) (xs : List ℕ) → e ≢ errors.OutOfMemory → OpensParts strict xs → UnreadFor strict room e xs → room ≡ 1
  deep room (errors.InvalidMarkerRead x) xs n p w = absurd
      (other_letter (codes "InvalidMarkerRead") (λ q. omega (arith, q))
      (named_once xs _ _ (named room (errors.InvalidMarkerRead x) xs n w) (parts_named xs p)))
  deep room (errors.InvalidDataRead x) xs n p w = absurd
      (other_letter (codes "InvalidDataRead") (λ q. omega (arith, q)) (named_once xs _ _ (named room (errors.InvalidDataRead x) xs n w) (parts_named xs p)))
  deep room (errors.TypeMismatch m) xs n p w = absurd
      (other_letter (codes "TypeMismatch") (λ q. omega (arith, q)) (named_once xs _ _ (named room (errors.TypeMismatch m) xs n w) (parts_named xs p)))
  deep room errors.OutOfRange xs n p w = absurd w
  deep room (errors.LengthMismatch k) xs n p w = absurd w
  deep room (errors.Uncategorized k) xs n p w = absurd w
  deep room (errors.Syntax k) xs n p w = absurd w
  deep room (errors.Utf8Error x) xs n p w = absurd (other_letter (codes "Utf8Error") (λ q. omega (arith, q))
      (named_once xs _ _ (named room (errors.Utf8Error x) xs n w) (parts_named xs p)))
  deep room errors.DepthLimitExceeded xs n p w = w.0
  deep room errors.OutOfMemory xs n p w = absurd (n refl)
  deep room errors.NotCanonical xs n p w = absurd (w.none p.marker (parts_head p.is_map p.len) p.starts)

  -- ---- messages that are whole

  -- the text of such a message isn't invalid
  text_valid : (m : Msg) (b rest xs : List ℕ) (t : TextIsInvalid strict xs) → head_of m ≡ head.Text (length t.text) → SpellsAs strict b m → AllTextsUtf8 m
      → xs ≡ b ++ rest → ⊥
  text_valid (text s) b rest xs t e sp u f =
      let split : sp.first ++ (sp.second ++ rest) ≡ xs = sym (append_assoc sp.first sp.second rest) ∙ ap (λ z. z ++ rest) (sym sp.is_whole) ∙ sym f in
      let differ = heads_differ_as strict (head.Text (length s)) (head.Text (length t.text)) sp.first (t.starts.starts.byte ∷ t.starts.starts.following)
      (sp.second ++ rest) t.starts.starts.rest sp.is_first t.starts.starts.is_head (split ∙ t.starts.starts.front) in
      let long : length s ≡ length t.text = cc in
      let content : s ++ rest ≡ t.text ++ t.starts.following = ap (λ z. z ++ rest) (sym sp.is_second.0) ∙ differ.2 ∙ t.starts.content in
      t.invalid (subst (λ z. AllTextsUtf8 (text z)) (same_front s t.text rest t.starts.following long content) u)
  text_valid m b rest xs t e sp u f = absurd (cc)

  -- the head of a message that the bytes begin with
  record Opening (m : Msg) (xs : List ℕ) : Type 0 where
    pub marker : Marker
    pub starts : BeginsWith strict marker (head_of m) xs

  opening : (P : Msg → Type 0) (room : ℕ) (xs : List ℕ) (a : Begins (SpellsAs strict) P room xs) → Opening a.tree xs
  opening P room xs a =
      let o = opened {s = strict} a.tree a.bytes a.spelled in
      let split : xs ≡ o.head ++ (o.rest ++ a.rest) = a.front ∙ ap (λ z. z ++ a.rest) o.split ∙ append_assoc o.head o.rest a.rest in
      let f : Front strict (head_of a.tree) xs (o.rest ++ a.rest) = front_of strict (head_of a.tree) o.head xs (o.rest ++ a.rest) split o.is_head in
      record { marker = marker_of f.byte; starts = starts f }

  cut_none : (xs : List ℕ) (h : Head) (t : CutPayload strict h xs) (room : ℕ) → Begins (SpellsAs strict) AllTextsUtf8 room xs → ⊥
  cut_none xs h t room a =
      let u = same_head strict a.tree h a.bytes (t.starts.byte ∷ t.starts.following) a.rest t.starts.rest a.spelled t.starts.is_head
      (sym a.front ∙ t.starts.front) in
      omega (arith, t.short, u.1, whole_fills a.tree, ap content_len u.0)

  -- the first thing that is wrong isn't at the front, if a whole message is there
  here_none : (room : ℕ) (e : Error) (xs : List ℕ) → e ≢ errors.OutOfMemory → UnreadFor strict room e xs → Begins (SpellsAs strict) AllTextsUtf8 room xs → ⊥
  here_none room (errors.InvalidMarkerRead x) xs n w a = let o = opening AllTextsUtf8 room xs a
      in none_starts strict o.marker (head_of a.tree) (subst (BeginsWith strict o.marker (head_of a.tree)) w.1 o.starts)
  here_none room (errors.InvalidDataRead x) xs n (d, inl c) a = let o = opening AllTextsUtf8 room xs a
      in c.none o.marker (head_of a.tree) (wide o.marker (head_of a.tree) xs o.starts)
  here_none room (errors.InvalidDataRead x) xs n (d, inr (h, t)) a = cut_none xs h t room a
  here_none room (errors.TypeMismatch m) xs n w a = let o = opening AllTextsUtf8 room xs a in reserved_none strict o.marker (head_of a.tree) xs w.1 o.starts
  here_none room errors.OutOfRange xs n w a = w
  here_none room (errors.LengthMismatch k) xs n w a = w
  here_none room (errors.Uncategorized k) xs n w a = w
  here_none room (errors.Syntax k) xs n w a = w
  here_none room (errors.Utf8Error x) xs n w a =
      let o = opening AllTextsUtf8 room xs a in
      text_valid a.tree a.bytes a.rest xs w (one_head o.starts w.starts.starts).0 a.spelled a.holds a.front
  here_none room errors.DepthLimitExceeded xs n w a =
      let o = opening AllTextsUtf8 room xs a in
      omega (arith, parts_deep a.tree w.1.is_map w.1.len (one_head o.starts w.1.starts).0, w.0, a.fits)
  here_none room errors.OutOfMemory xs n w a = n refl
  here_none room errors.NotCanonical xs n w a = let o = opening AllTextsUtf8 room xs a in w.none o.marker (head_of a.tree) o.starts

  -- ---- rows of messages

  turned : (ps : Pairs) (b : List ℕ) → PairsSpelledBy (heads_of strict) b ps → SpellsRow (SpellsAs strict) b (in_turn ps)
  turned no_pairs b s = s
  turned (pair k v ps) b s = record {
    first = s.first;
    second = s.second;
    is_first = s.is_first;
    is_second = record {
      first = s.is_second.first;
      second = s.is_second.second;
      is_first = s.is_second.is_first;
      is_second = turned ps s.is_second.second
          s.is_second.is_second;
      is_whole = s.is_second.is_whole;
    };
    is_whole = s.is_whole;
  }

  -- the parts of a list or a map that is whole
  parts_of : (is_map : Bool) (m : Msg) (n room : ℕ) (a x y : List ℕ) → SpellsAs strict a m → head_of m ≡ parts_head is_map n → depth m < suc room
      → AllTextsUtf8 m → ((d c : List ℕ) → a ≡ d ++ c → heads_of strict (head_of m) d → c ++ x ≡ y)
      → BeginsRow (SpellsAs strict) ItemsUtf8 room (parts_count is_map n) y
  parts_of true (map ps) n room a x y s e d u f =
      let same : count_pairs ps ≡ n = cc in
      record {
        bytes = s.second;
        rest = x;
        trees = in_turn ps;
        front = sym (f s.first s.second s.is_whole s.is_first);
        spelled = turned ps s.second s.is_second;
        many = count-in_turn ps ∙ ap (λ z. 2 * z) same;
        fits = omega (arith, depth-in_turn ps, d);
        holds = utf8-in_turn ps u;
      }
  parts_of true m n room a x y s e d u f = absurd (cc)
  parts_of false (list ms) n room a x y s e d u f =
      let same : count ms ≡ n = cc in
      record {
        bytes = s.second;
        rest = x;
        trees = ms;
        front = sym (f s.first s.second s.is_whole s.is_first);
        spelled = listed strict ms s.second
            s.is_second;
        many = same;
        fits = omega (arith, d);
        holds = u;
      }
  parts_of false m n room a x y s e d u f = absurd (cc)

  -- what follows the first messages of two rows
  row_after : (m t : Msg) (ms ts : Msgs) (a b x y : List ℕ) (p : SpellsRow (SpellsAs strict) a (item m ms)) (q : SpellsRow (SpellsAs strict) b (item t ts))
      → a ++ x ≡ b ++ y → p.second ++ x ≡ q.second ++ y
  row_after m t ms ts a b x y p q e =
      let split : p.first ++ (p.second ++ x) ≡ q.first ++ (q.second ++ y) = sym (append_assoc p.first p.second x) ∙ ap (λ z. z ++ x) (sym p.is_whole) ∙ e
      ∙ ap (λ z. z ++ y) q.is_whole ∙ append_assoc q.first q.second y in
      (spelled_once_as strict m t p.first q.first (p.second ++ x) (q.second ++ y) p.is_first q.is_first split).2

  -- the next message after a beginning of a row
  next_in : (room : ℕ) (ms ts : Msgs) (a b x y : List ℕ) → SpellsRow (SpellsAs strict) a ms → SpellsRow (SpellsAs strict) b ts → a ++ x ≡ b ++ y
      → count ms < count ts → depth_all ts < room → ItemsUtf8 ts → Begins (SpellsAs strict) AllTextsUtf8 room x
  next_in room no_items no_items a b x y p q e l d u = absurd (omega arith)
  next_in room no_items (item t ts) a b x y p q e l d u = record {
    bytes = q.first;
    rest = q.second ++ y;
    tree = t;
    front = ap (λ z. z ++ x) (sym p) ∙ e ∙ ap (λ z. z ++ y) q.is_whole ∙ append_assoc q.first q.second y;
    spelled = q.is_first;
    fits = omega (arith, d);
    holds = u.0;
  }
  next_in room (item m ms) no_items a b x y p q e l d u = absurd (omega arith)
  next_in room (item m ms) (item t ts) a b x y p q e l d u = next_in room ms ts p.second q.second x y p.is_second q.is_second
      (row_after m t ms ts a b x y p q e) (omega (arith, l)) (omega (arith, d)) u.1

  -- as many messages take the same bytes
  row_once : (ms ts : Msgs) (a b x y : List ℕ) → SpellsRow (SpellsAs strict) a ms → SpellsRow (SpellsAs strict) b ts → a ++ x ≡ b ++ y → count ms ≡ count ts
      → x ≡ y
  row_once no_items no_items a b x y p q e l = ap (λ z. z ++ x) (sym p) ∙ e ∙ ap (λ z. z ++ y) q
  row_once no_items (item t ts) a b x y p q e l = absurd (omega arith)
  row_once (item m ms) no_items a b x y p q e l = absurd (omega arith)
  row_once (item m ms) (item t ts) a b x y p q e l = row_once ms ts p.second q.second x y p.is_second q.is_second (row_after m t ms ts a b x y p q e)
      (omega (arith, l))

  -- ---- the refusal

  -- where a message is whole, nothing is wrong
  refused_none : (room : ℕ) (e : Error) (xs : List ℕ) → e ≢ errors.OutOfMemory → Refusal strict (UnreadFor strict) ItemsUtf8 room e xs
      → Begins (SpellsAs strict) AllTextsUtf8 room xs → ⊥
  refused_none room e xs n (here w) a = here_none room e xs n w a
  refused_none (suc room) e xs n (inside p r) a =
      let o = opening AllTextsUtf8 (suc room) xs a in
      let parts = one_head o.starts p.parts.starts in
      let row : BeginsRow (SpellsAs strict) ItemsUtf8 room (parts_count p.parts.is_map p.parts.len) p.parts.starts.rest =
      parts_of p.parts.is_map a.tree p.parts.len room a.bytes a.rest p.parts.starts.rest a.spelled parts.0 a.fits a.holds
      (λ d c q j. (heads_differ_as strict (head_of a.tree) (parts_head p.parts.is_map p.parts.len) d (p.parts.starts.byte ∷ p.parts.starts.following)
      (c ++ a.rest) p.parts.starts.rest j p.parts.starts.is_head
      (sym (append_assoc d c a.rest) ∙ ap (λ z. z ++ a.rest) (sym q) ∙ sym a.front ∙ p.parts.starts.front)).2) in
      let fewer : count p.before.trees < count row.trees = omega (arith, p.before.many, row.many, p.fewer) in
      refused_none room e p.before.rest n r (next_in room p.before.trees row.trees p.before.bytes row.bytes p.before.rest row.rest p.before.spelled
      row.spelled (sym p.before.front ∙ row.front) fewer row.fits row.holds)

  -- after fewer whole messages nothing is wrong
  sooner : (room : ℕ) (e : Error) (xs ys : List ℕ) (many later : ℕ) → e ≢ errors.OutOfMemory → (p : BeginsRow (SpellsAs strict) ItemsUtf8 room many xs)
      → BeginsRow (SpellsAs strict) ItemsUtf8 room later ys → xs ≡ ys → many < later → Refusal strict (UnreadFor strict) ItemsUtf8 room e p.rest → ⊥
  sooner room e xs ys many later n p q same l r =
      let fewer : count p.trees < count q.trees = omega (arith, p.many, q.many, l) in
      refused_none room e p.rest n r (next_in room p.trees q.trees p.bytes q.bytes p.rest q.rest p.spelled q.spelled (sym p.front ∙ same ∙ q.front) fewer
      q.fits q.holds)

  -- The bytes determine the name.
  pub one_name : (room : ℕ) (e f : Error) (xs : List ℕ) → e ≢ errors.OutOfMemory → f ≢ errors.OutOfMemory
      → Refusal strict (UnreadFor strict) ItemsUtf8 room e xs → Refusal strict (UnreadFor strict) ItemsUtf8 room f xs → error_name e ≡ error_name f
  one_name room e f xs n k (here v) (here w) = named_once xs (error_name e) (error_name f) (named room e xs n v) (named room f xs k w)
  one_name (suc room) e f xs n k (here v) (inside q s) = let one = deep (suc room) e xs n q.parts v in absurd (omega (arith, one, q.before.fits))
  one_name (suc room) e f xs n k (inside p r) (here w) = let one = deep (suc room) f xs k p.parts w in absurd (omega (arith, one, p.before.fits))
  one_name (suc room) e f xs n k (inside p r) (inside q s) =
      let same = (one_head p.parts.starts q.parts.starts).1 in
      elim (cases_lt p.many q.many) [
        | inl less ↦ absurd (sooner room e p.parts.starts.rest q.parts.starts.rest p.many q.many n p.before q.before same less r)
        | inr most ↦ elim (cases_lt q.many p.many) [
          | inl less ↦ absurd (sooner room f q.parts.starts.rest p.parts.starts.rest q.many p.many k q.before p.before (sym same) less s)
          | inr least ↦
              let many : count p.before.trees ≡ count q.before.trees = omega (arith, p.before.many, q.before.many, most, least) in
              let rest : p.before.rest ≡ q.before.rest = row_once p.before.trees q.before.trees p.before.bytes q.before.bytes p.before.rest q.before.rest
              p.before.spelled q.before.spelled (sym p.before.front ∙ same ∙ q.before.front) many in
              one_name room e f p.before.rest n k r (subst (Refusal strict (UnreadFor strict) ItemsUtf8 room f) (sym rest) s)
        ]
      ]
