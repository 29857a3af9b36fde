-- Where a tree that is spelled whole is refused, it nests too deep or a text in it isn't UTF-8, as the error says.
use Rattle.std.proofs.Common.{◌≡◌, ◌∙◌, sym, ap, subst, refl, ℕ, suc, ◌*◌, ◌<◌, ◌≤◌, arith, Bool, true, false, List, ◌∷◌, ◌++◌, length, append_assoc}
use Rattle.std.specs.Str.{IsUtf8}
use Rattle.rmp_wire.specs.declared.head.Head.{Head}
use Rattle.rmp_wire.specs.declared.head.Head.TheVariants as heads
use Rattle.rmp_wire.specs.Heads.{IsHead}
use Rattle.rmp_wire.specs.Msg.{Msg, nil, truth, whole, float32, float64, text, bin, list, map, extension, Msgs, no_items, item, count, count_pairs, depth, depth_all}
use Rattle.rmp_wire.specs.Spelling.{head_of, Spells}
use Rattle.rmp_wire.proofs.Strict.{heads_differ_as}
use Rattle.rmp_wire.proofs.Unique.{spelled_once}
use Rattle.rmp_decode.specs.Refuse.{Refusal, here, inside}
use Rattle.rmp_decode.specs.Seq.{SpellsRow}
use Rattle.rmp_decode.specs.Skip.{parts_head, parts_count}
use Rattle.rmp_decode.specs.declared.error.Error.{Error}
use Rattle.rmp_decode.specs.declared.error.Error.TheVariants as errors
use Rattle.rmp_decode.proofs.ContentErrors.{same_front}
use Rattle.rmp_decode.proofs.NothingAccepted.{same_head}
use Rattle.rmp_decode.proofs.Rows.{listed}
use Rattle.rmp_decode.proofs.SkipLaws.{in_turn, count-in_turn, depth-in_turn, turned}
use Rattle.rmp_serde.specs.Read.{AllTextsUtf8, ItemsUtf8}
use Rattle.rmp_serde.specs.Refuse.{TextIsInvalid, UnreadFor}
use Rattle.rmp_serde.proofs.Leading.{turned_utf8}

-- what the error says of the message
abbrev pub Blames : ℕ → Error → Msg → Type 0
Blames room (errors.InvalidMarkerRead f) m = Unit {0}
Blames room (errors.InvalidDataRead f) m = Unit {0}
Blames room (errors.TypeMismatch k) m = Unit {0}
Blames room errors.OutOfRange m = Unit {0}
Blames room (errors.LengthMismatch n) m = Unit {0}
Blames room (errors.Uncategorized n) m = Unit {0}
Blames room (errors.Syntax n) m = Unit {0}
Blames room (errors.Utf8Error why) m = AllTextsUtf8 m → ⊥
Blames room errors.DepthLimitExceeded m = room ≤ depth m
Blames room errors.OutOfMemory m = Unit {0}
Blames room errors.NotCanonical m = Unit {0}

-- ---- at the front

-- a text that isn't UTF-8 is the message
text_blames : (m : Msg) (b r xs : List ℕ) (w : TextIsInvalid false xs) → Spells b m → xs ≡ b ++ r → head_of m ≡ heads.Text (length w.text) → AllTextsUtf8 m → ⊥
text_blames nil b r xs w s q e u = absurd cc
text_blames (truth t) b r xs w s q e u = absurd cc
text_blames (whole z) b r xs w s q e u = absurd cc
text_blames (float32 n) b r xs w s q e u = absurd cc
text_blames (float64 n) b r xs w s q e u = absurd cc
text_blames (text t) b r xs w s q e u =
    let st = w.starts.starts in
    let long : length t ≡ length w.text = cc in
    let split : s.first ++ (s.second ++ r) ≡ (st.byte ∷ st.following) ++ st.rest =
    sym (append_assoc s.first s.second r) ∙ ap (λ z. z ++ r) (sym s.is_whole) ∙ sym q ∙ st.front in
    let d = heads_differ_as false (heads.Text (length t)) (heads.Text (length w.text)) s.first (st.byte ∷ st.following) (s.second ++ r) st.rest s.is_first
    st.is_head split in
    let same : t ≡ w.text = same_front t w.text r w.starts.following long (ap (λ z. z ++ r) (sym s.is_second.0) ∙ d.2 ∙ w.starts.content) in
    w.invalid (subst IsUtf8 same u)
text_blames (bin t) b r xs w s q e u = absurd cc
text_blames (list ms) b r xs w s q e u = absurd cc
text_blames (map ps) b r xs w s q e u = absurd cc
text_blames (extension tag t) b r xs w s q e u = absurd cc

-- a list and a map nest
nest_of : Head → ℕ
nest_of (heads.Array n) = 1
nest_of (heads.Map n) = 1
nest_of h = 0

nest_head : (is_map : Bool) (n : ℕ) → nest_of (parts_head is_map n) ≡ 1
unfolding nest_of
nest_head true n = refl
nest_head false n = refl

nest_tree : (m : Msg) → nest_of (head_of m) ≤ depth m
unfolding nest_of
nest_tree nil = omega arith
nest_tree (truth t) = omega arith
nest_tree (whole z) = omega arith
nest_tree (float32 n) = omega arith
nest_tree (float64 n) = omega arith
nest_tree (text s) = omega arith
nest_tree (bin s) = omega arith
nest_tree (list ms) = omega arith
nest_tree (map ps) = omega arith
nest_tree (extension tag s) = omega arith

here_blames : (room : ℕ) (e : Error) (m : Msg) (b r xs : List ℕ) → Spells b m → xs ≡ b ++ r → UnreadFor false room e xs → Blames room e m
here_blames room (errors.InvalidMarkerRead f) m b r xs s q w = tt
here_blames room (errors.InvalidDataRead f) m b r xs s q w = tt
here_blames room (errors.TypeMismatch k) m b r xs s q w = tt
here_blames room errors.OutOfRange m b r xs s q w = tt
here_blames room (errors.LengthMismatch n) m b r xs s q w = tt
here_blames room (errors.Uncategorized n) m b r xs s q w = tt
here_blames room (errors.Syntax n) m b r xs s q w = tt
here_blames room (errors.Utf8Error why) m b r xs s q w =
    let st = w.starts.starts in
    text_blames m b r xs w s q (same_head false m (heads.Text (length w.text)) b (st.byte ∷ st.following) r st.rest s st.is_head (sym q ∙ st.front)).0
here_blames room errors.DepthLimitExceeded m b r xs s q w =
    let p = w.1 in
    let st = p.starts in
    let k = same_head false m (parts_head p.is_map p.len) b (st.byte ∷ st.following) r st.rest s st.is_head (sym q ∙ st.front) in
    omega (arith, w.0, nest_tree m, ap nest_of k.0, nest_head p.is_map p.len)
here_blames room errors.OutOfMemory m b r xs s q w = tt
here_blames room errors.NotCanonical m b r xs s q w = tt

-- ---- and inside of a list or a map

-- the parts of a list or a map, in turn
record PartsOf (m : Msg) (is_map : Bool) (n : ℕ) (b : List ℕ) : Type 0 where
  pub trees : Msgs
  pub head : List ℕ
  pub bytes : List ℕ
  pub is_head : IsHead (parts_head is_map n) head
  pub spelled : SpellsRow Spells bytes trees
  pub split : b ≡ head ++ bytes
  pub many : count trees ≡ parts_count is_map n
  pub deep : depth m ≡ suc (depth_all trees)
  pub utf8 : AllTextsUtf8 m → ItemsUtf8 trees

parts_of : (is_map : Bool) (n : ℕ) (m : Msg) (b : List ℕ) → Spells b m → head_of m ≡ parts_head is_map n → PartsOf m is_map n b
parts_of true n nil b s e = absurd cc
parts_of true n (truth t) b s e = absurd cc
parts_of true n (whole z) b s e = absurd cc
parts_of true n (float32 k) b s e = absurd cc
parts_of true n (float64 k) b s e = absurd cc
parts_of true n (text t) b s e = absurd cc
parts_of true n (bin t) b s e = absurd cc
parts_of true n (list ms) b s e = absurd cc
parts_of true n (map ps) b s e =
    let same : count_pairs ps ≡ n = cc in
    record {
      trees = in_turn ps;
      head = s.first;
      bytes = s.second;
      is_head = subst (λ z. IsHead (heads.Map z) s.first) same s.is_first;
      spelled = turned false ps s.second s.is_second;
      split = s.is_whole;
      many = count-in_turn ps ∙ ap (λ z. 2 * z) same;
      deep = ap suc (sym (depth-in_turn ps));
      utf8 = turned_utf8 ps;
    }
parts_of true n (extension tag t) b s e = absurd cc
parts_of false n nil b s e = absurd cc
parts_of false n (truth t) b s e = absurd cc
parts_of false n (whole z) b s e = absurd cc
parts_of false n (float32 k) b s e = absurd cc
parts_of false n (float64 k) b s e = absurd cc
parts_of false n (text t) b s e = absurd cc
parts_of false n (bin t) b s e = absurd cc
parts_of false n (list ms) b s e =
    let same : count ms ≡ n = cc in
    record {
      trees = ms;
      head = s.first;
      bytes = s.second;
      is_head = subst (λ z. IsHead (heads.Array z) s.first) same s.is_first;
      spelled = listed false ms s.second s.is_second;
      split = s.is_whole;
      many = same;
      deep = refl;
      utf8 = λ u. u;
    }
parts_of false n (map ps) b s e = absurd cc
parts_of false n (extension tag t) b s e = absurd cc

-- after fewer messages than the row has comes one of its messages
record NextOf (ts : Msgs) (x : List ℕ) : Type 0 where
  pub tree : Msg
  pub bytes : List ℕ
  pub rest : List ℕ
  pub front : x ≡ bytes ++ rest
  pub spelled : Spells bytes tree
  pub deep : depth tree ≤ depth_all ts
  pub utf8 : ItemsUtf8 ts → AllTextsUtf8 tree

next_of : (ms ts : Msgs) (a c x y : List ℕ) → SpellsRow Spells a ms → SpellsRow Spells c ts → a ++ x ≡ c ++ y → count ms < count ts → NextOf ts x
next_of no_items no_items a c x y p q e l = absurd (omega (arith, l))
next_of no_items (item t ts) a c x y p q e l = record {
  tree = t;
  bytes = q.first;
  rest = q.second ++ y;
  front = ap (λ z. z ++ x) (sym p) ∙ e ∙ ap (λ z. z ++ y) q.is_whole ∙ append_assoc q.first q.second y;
  spelled = q.is_first;
  deep = omega arith;
  utf8 = λ u. u.0;
}
next_of (item m ms) no_items a c x y p q e l = absurd (omega (arith, l))
next_of (item m ms) (item t ts) a c x y p q e l =
    let split : p.first ++ (p.second ++ x) ≡ q.first ++ (q.second ++ y) = sym (append_assoc p.first p.second x) ∙ ap (λ z. z ++ x) (sym p.is_whole) ∙ e
    ∙ ap (λ z. z ++ y) q.is_whole ∙ append_assoc q.first q.second y in
    let u = spelled_once m t p.first q.first (p.second ++ x) (q.second ++ y) p.is_first q.is_first split in
    let n = next_of ms ts p.second q.second x y p.is_second q.is_second u.2 (omega (arith, l)) in
    record {
      tree = n.tree;
      bytes = n.bytes;
      rest = n.rest;
      front = n.front;
      spelled = n.spelled;
      deep = omega (arith, n.deep);
      utf8 = λ w. n.utf8 w.1;
    }

-- what is wrong with a part is wrong with the whole
outer_blames : (room : ℕ) (e : Error) (t m : Msg) → depth t < depth m → (AllTextsUtf8 m → AllTextsUtf8 t) → Blames room e t → Blames (suc room) e m
outer_blames room (errors.InvalidMarkerRead f) t m d u w = tt
outer_blames room (errors.InvalidDataRead f) t m d u w = tt
outer_blames room (errors.TypeMismatch k) t m d u w = tt
outer_blames room errors.OutOfRange t m d u w = tt
outer_blames room (errors.LengthMismatch n) t m d u w = tt
outer_blames room (errors.Uncategorized n) t m d u w = tt
outer_blames room (errors.Syntax n) t m d u w = tt
outer_blames room (errors.Utf8Error why) t m d u w = λ a. w (u a)
outer_blames room errors.DepthLimitExceeded t m d u w = omega (arith, d, w)
outer_blames room errors.OutOfMemory t m d u w = tt
outer_blames room errors.NotCanonical t m d u w = tt

pub blames : (room : ℕ) (e : Error) (m : Msg) (b r xs : List ℕ) → Spells b m → xs ≡ b ++ r → Refusal false (UnreadFor false) ItemsUtf8 room e xs
    → Blames room e m
blames room e m b r xs s q (here w) = here_blames room e m b r xs s q w
blames (suc room) e m b r xs s q (inside i w) =
    let st = i.parts.starts in
    let h = parts_head i.parts.is_map i.parts.len in
    let k = same_head false m h b (st.byte ∷ st.following) r st.rest s st.is_head (sym q ∙ st.front) in
    let p = parts_of i.parts.is_map i.parts.len m b s k.0 in
    let split : p.head ++ (p.bytes ++ r) ≡ (st.byte ∷ st.following) ++ st.rest =
    sym (append_assoc p.head p.bytes r) ∙ ap (λ z. z ++ r) (sym p.split) ∙ sym q ∙ st.front in
    let d = heads_differ_as false h h p.head (st.byte ∷ st.following) (p.bytes ++ r) st.rest p.is_head st.is_head split in
    let f = i.before in
    let n = next_of f.trees p.trees f.bytes p.bytes f.rest r f.spelled p.spelled (sym f.front ∙ sym d.2) (omega (arith, i.fewer, f.many, p.many)) in
    outer_blames room e n.tree m (omega (arith, n.deep, p.deep)) (λ u. n.utf8 (p.utf8 u)) (blames room e n.tree n.bytes n.rest f.rest n.spelled n.front w)
