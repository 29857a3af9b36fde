-- Beginnings of several messages, one after another.
use Rattle.std.proofs.Common.{◌≡◌, ◌∙◌, sym, ap, subst, refl, ℕ, suc, ◌+◌, ◌-◌, ◌*◌, ◌<◌, arith, List, [], ◌++◌, length, append_assoc}
use Rattle.std.specs.Prelude.{◌≢◌, Bool, true, false}
use Rattle.std.proofs.lemmas.List.{append-nil, length-append}
use Rattle.rmp_wire.specs.Canonical.{heads_of}
use Rattle.rmp_wire.specs.Heads.{IsHead}
use Rattle.rmp_wire.specs.Msg.{Msg, Msgs, no_items, item, count, Pairs, no_pairs, pair, count_pairs}
use Rattle.rmp_wire.specs.Spelling.{IsBytes, PairsSpelledBy}
use Rattle.rmp_wire.specs.Taking.{marker_of}
use Rattle.rmp_wire.specs.declared.head.Head.{Head}
use Rattle.rmp_wire.specs.declared.head.Head.TheVariants.{Array, Bin, Map}
use Rattle.rmp_wire.proofs.Canon.{head_bytes}
use Rattle.rmp_wire.proofs.Strict.{any_width, spells_any}
use Rattle.rmp_decode.specs.Kinds.{content_len}
use Rattle.rmp_decode.specs.Seq.{seq_head, SpellsIn, SpellsRow}
use Rattle.rmp_scan.specs.Openings.{SpellsSome}
use Rattle.rmp_scan.specs.Parts.{parts_after}
use Rattle.rmp_scan.specs.Scans.{IsMessage, IsBeginning}
use Rattle.rmp_scan.proofs.Completing.{nils, nils_some, nothing}
use Rattle.rmp_scan.proofs.Cutting.{content_cut}
use Rattle.rmp_scan.proofs.FirstByte.{bytes_append}
use Rattle.rmp_scan.proofs.Rows.{node_some, some-append, head_byte}
use Rattle.rmp_scan.proofs.Scanning.{first_message, one_message}

-- with some bytes more, at least one, these spell so many messages
pub record Unfinished (n : ℕ) (xs : List ℕ) : Type 0 where
  pub rest : List ℕ
  pub some : rest ≢ []
  pub spelled : SpellsSome n (xs ++ rest)

-- so many elements of a list, or so many bytes
abbrev pub UnfinishedIn : Bool → ℕ → List ℕ → Type 0
UnfinishedIn false n xs = Unfinished n xs
UnfinishedIn true n xs = length xs < n

-- ---- the first of them began, or was whole

pub unfinished_first : (n : ℕ) (xs : List ℕ) → 0 < n → IsBeginning xs → Unfinished n xs
unfinished_first n xs more i =
    let k : ℕ = n - 1 in
    let all : 1 + k ≡ n = omega (arith, more) in
    record {
      rest = i.rest ++ nils k;
      some = λ q. i.some (nothing i.rest (nils k) q).0;
      spelled = subst (λ z. SpellsSome z (xs ++ (i.rest ++ nils k))) all
          (subst (SpellsSome (1 + k)) (append_assoc xs i.rest (nils k))
          (some-append 1 k (xs ++ i.rest) (nils k) (one_message (xs ++ i.rest) i.spelled) (nils_some k)));
    }

pub unfinished_after : (n : ℕ) (a xs : List ℕ) → IsMessage a → Unfinished n xs → Unfinished (suc n) (a ++ xs)
unfinished_after n a xs m i =
    let all : 1 + n ≡ suc n = omega arith in
    record {
      rest = i.rest;
      some = i.some;
      spelled = subst (λ z. SpellsSome z ((a ++ xs) ++ i.rest)) all
          (subst (SpellsSome (1 + n)) (sym (append_assoc a xs i.rest)) (some-append 1 n a (xs ++ i.rest) (one_message a m) i.spelled));
    }

-- ---- after a head

pub unfinished_parts : (h : Head) (a xs : List ℕ) → IsHead h a → content_len h ≡ 0 → Unfinished (parts_after h) xs → IsBeginning (a ++ xs)
unfinished_parts h a xs is none i =
    let all : parts_after h + 0 ≡ parts_after h = omega arith in
    let one = node_some a (xs ++ i.rest) (parts_after h) 0
    (record { head = h; bytes = a; payload = []; front = sym (append-nil a); is_head = is; long = sym none; are_bytes = tt; many = refl })
    (subst (λ z. SpellsSome z (xs ++ i.rest)) (sym all) i.spelled) in
    record {
      rest = i.rest;
      some = i.some;
      spelled = subst IsMessage (sym (append_assoc a xs i.rest)) (first_message one.trees (a ++ (xs ++ i.rest)) one.many one.spelled);
    }

-- of a list or of bytes
pub unfinished_list : (strict b : Bool) (n : ℕ) (a xs : List ℕ) → heads_of strict (seq_head b n) a → IsBytes xs → UnfinishedIn b n xs → IsBeginning (a ++ xs)
unfinished_list strict false n a xs is own i = unfinished_parts (Array n) a xs (any_width strict (Array n) a is) refl i
unfinished_list strict true n a xs is own i =
    let head = any_width strict (Bin n) a is in
    let f = head_byte (Bin n) a head in
    content_cut (a ++ xs) (bytes_append a xs (head_bytes (Bin n) a head) own) (
      Bin n,
      record {
        marker = marker_of f.0;
        starts = record {
          byte = f.0;
          following = f.1;
          rest = xs;
          front = ap (λ z. z ++ xs) f.2;
          is_marker = refl;
          is_head = subst (IsHead (Bin n)) f.2 head;
        };
        short = i;
      },
    )

pub unfinished_map : (strict : Bool) (n : ℕ) (a xs : List ℕ) → heads_of strict (Map n) a → Unfinished (2 * n) xs → IsBeginning (a ++ xs)
unfinished_map strict n a xs is i = unfinished_parts (Map n) a xs (any_width strict (Map n) a is) refl i

-- ---- after elements

pub element_after : (strict b : Bool) (n : ℕ) (a xs : List ℕ) (m : Msg) → SpellsIn strict b a m → UnfinishedIn b n xs → UnfinishedIn b (suc n) (a ++ xs)
element_after strict false n a xs m s i = unfinished_after n a xs (m, spells_any strict m a s) i
element_after strict true n a xs m s i = omega (arith, i, ap length s.alone, length-append a xs)

pub row_after : (strict b : Bool) (n : ℕ) (ms : Msgs) (a xs : List ℕ) → SpellsRow (SpellsIn strict b) a ms → UnfinishedIn b n xs
    → UnfinishedIn b (count ms + n) (a ++ xs)
row_after strict b n no_items a xs s i =
    let all : n ≡ 0 + n = omega arith in
    subst (λ z. UnfinishedIn b z (a ++ xs)) all (subst (λ z. UnfinishedIn b n (z ++ xs)) (sym s) i)
row_after strict b n (item m ms) a xs s i =
    let all : suc (count ms + n) ≡ suc (count ms) + n = omega arith in
    let is : s.first ++ (s.second ++ xs) ≡ a ++ xs = sym (append_assoc s.first s.second xs) ∙ ap (λ z. z ++ xs) (sym s.is_whole) in
    subst (λ z. UnfinishedIn b z (a ++ xs)) all (subst (UnfinishedIn b (suc (count ms + n))) is
    (element_after strict b (count ms + n) s.first (s.second ++ xs) m s.is_first (row_after strict b n ms s.second xs s.is_second i)))

-- ---- after pairs

pub pairs_after : (strict : Bool) (n : ℕ) (ps : Pairs) (a xs : List ℕ) → PairsSpelledBy (heads_of strict) a ps → Unfinished n xs
    → Unfinished (2 * count_pairs ps + n) (a ++ xs)
pairs_after strict n no_pairs a xs s i =
    let all : n ≡ 2 * 0 + n = omega arith in
    subst (λ z. Unfinished z (a ++ xs)) all (subst (λ z. Unfinished n (z ++ xs)) (sym s) i)
pairs_after strict n (pair k v ps) a xs s i =
    let t = s.is_second in
    let many : ℕ = 2 * count_pairs ps + n in
    let all : suc (suc many) ≡ 2 * suc (count_pairs ps) + n = omega arith in
    let is : s.first ++ (t.first ++ (t.second ++ xs)) ≡ a ++ xs = ap (λ z. s.first ++ z) (sym (append_assoc t.first t.second xs) ∙ ap (λ z. z ++ xs) (sym t.is_whole))
    ∙ sym (append_assoc s.first s.second xs) ∙ ap (λ z. z ++ xs) (sym s.is_whole) in
    subst (λ z. Unfinished z (a ++ xs)) all (subst (Unfinished (suc (suc many))) is
    (unfinished_after (suc many) s.first (t.first ++ (t.second ++ xs)) (k, spells_any strict k s.first s.is_first)
    (unfinished_after many t.first (t.second ++ xs) (v, spells_any strict v t.first t.is_first) (pairs_after strict n ps t.second xs t.is_second i))))
