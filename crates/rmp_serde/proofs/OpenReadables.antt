-- The readable text of lists and maps that are printed part by part.
use Rattle.std.proofs.Common.{rules, arith, ◌≡◌, ◌≢◌, ℕ, zero, suc, ◌+◌, List, [], ◌∷◌, ◌++◌, length, refl, sym, ap, ◌∙◌, append-nil, append_assoc}
use Rattle.std.specs.Prelude.{codes, Bool, true, false, Option, None, Some}
use Rattle.std.proofs.Output.{has_written_append}
use Rattle.std.proofs.lemmas.List.{length-append}
use Rattle.std.specs.Fmt.{HasWritten}
use Rattle.std.specs.declared.fmt.Formatter.{Formatter}
use Rattle.rmp_serde.specs.declared.value.kind.Kind.TheVariants.{List as ListKind, Map as MapKind, Nil as NilKind, Text as TextKind}
use Rattle.rmp_wire.specs.Msg.{
  Msg,
  nil,
  truth,
  whole,
  float32,
  float64,
  text,
  bin,
  list,
  map,
  extension,
  Msgs,
  no_items,
  item,
  Pairs,
  no_pairs,
  pair,
  items_of,
}
use Rattle.rmp_wire.specs.Spelling.{head_of}
use Rattle.rmp_serde.specs.OpenParts.{head_text, next_sign}
use Rattle.rmp_serde.specs.OpenReadable.{readable_head, sign_in, end_in, is_key, part_text, left_of, all_left, WritesUpTo, BeginsPart}
use Rattle.rmp_serde.specs.Parts.{kind_of, content_of, parts_in_turn}
use Rattle.rmp_serde.specs.PartsLeft.{parts_left}
use Rattle.rmp_serde.specs.Readable.{gap, colon, after_first, key_text, readable, readable_items, readable_pairs, spaces}
use Rattle.rmp_serde.specs.Tokens.{flat_pairs}
use Rattle.rmp_serde.specs.declared.value.text.Open.{Open}
use Rattle.rmp_serde.specs.declared.value.text.Sign.TheVariants.{Nothing, Comma}
use Rattle.rmp_serde.specs.declared.value.text.readable.Layout.{Layout}
use Rattle.rmp_serde.proofs.OpenTexts.{leaf_text}

-- ---- the innermost is last

pub left_push : (l : Layout) (d n : ℕ) (os : List Open) (o : Open) → n ≡ d + length os
    → all_left l d (os ++ (o ∷ [])) ≡ left_of l n o.is_map o.sign (parts_left o.parts) ++ all_left l d os
left_push l d n [] o e =
    let same : d ≡ n = omega arith in
    ap (λ k. left_of l k o.is_map o.sign (parts_left o.parts)) same ∙ sym (append-nil (left_of l n o.is_map o.sign (parts_left o.parts)))
left_push l d n (x ∷ os) o e =
    let last = left_of l n o.is_map o.sign (parts_left o.parts) in
    let first = left_of l d x.is_map x.sign (parts_left x.parts) in
    ap (λ s. s ++ first) (left_push l (suc d) n os o (omega arith)) ∙ append_assoc last (all_left l (suc d) os) first

-- ---- the text of a list or a map

joined : (l : Layout) (d : ℕ) (ms : Msgs) → after_first l d (readable_items l (suc d) ms) ++ codes "]" ≡ left_of l d false Comma (items_of ms)
unfolding readable_items
joined l d no_items = refl
joined l d (item m ms) =
    let sign = codes "," ++ gap l (suc d) in
    let part = readable l (suc d) m in
    append_assoc (sign ++ part) (after_first l d (readable_items l (suc d) ms)) (codes "]")
    ∙ append_assoc sign part (after_first l d (readable_items l (suc d) ms) ++ codes "]") ∙ ap (λ s. sign ++ (part ++ s)) (joined l d ms)

pair_put : (k c v rest : List ℕ) → (k ++ c ++ v) ++ rest ≡ k ++ (c ++ (v ++ rest))
pair_put k c v rest = append_assoc (k ++ c) v rest ∙ append_assoc k c (v ++ rest)

joined_pairs : (l : Layout) (d : ℕ) (ps : Pairs)
    → after_first l d (readable_pairs l (suc d) ps) ++ codes "}" ≡ left_of l d true Comma (items_of (flat_pairs ps))
unfolding readable_pairs
joined_pairs l d no_pairs = refl
joined_pairs l d (pair k v ps) =
    let sign = codes "," ++ gap l (suc d) in
    let value = readable l (suc d) v in
    let entry = key_text k ++ colon l ++ value in
    let rest = after_first l d (readable_pairs l (suc d) ps) in
    append_assoc (sign ++ entry) rest (codes "}") ∙ append_assoc sign entry (rest ++ codes "}")
    ∙ ap (λ s. sign ++ s) (ap (λ s. entry ++ s) (joined_pairs l d ps) ∙ pair_put (key_text k) (colon l) value (left_of l d true Comma (items_of (flat_pairs ps))))

pub list_readable : (m : Msg) → kind_of m ≡ ListKind → (l : Layout) (d : ℕ)
    → readable l d m ≡ readable_head m ++ left_of l d false Nothing (parts_in_turn m)
unfolding readable readable_items
list_readable (list no_items) e l d = refl
list_readable (list (item m ms)) e l d =
    let sign = gap l (suc d) in
    let part = readable l (suc d) m in
    let rest = after_first l d (readable_items l (suc d) ms) in
    ap (λ s. codes "[" ++ s)
    (append_assoc (sign ++ part) rest (codes "]") ∙ append_assoc sign part (rest ++ codes "]") ∙ ap (λ s. sign ++ (part ++ s)) (joined l d ms))
list_readable nil e l d = absurd (search rules)
list_readable (truth t) e l d = absurd (search rules)
list_readable (whole z) e l d = absurd (search rules)
list_readable (float32 n) e l d = absurd (search rules)
list_readable (float64 n) e l d = absurd (search rules)
list_readable (text s) e l d = absurd (search rules)
list_readable (bin s) e l d = absurd (search rules)
list_readable (map ps) e l d = absurd (search rules)
list_readable (extension tag s) e l d = absurd (search rules)

pub map_readable : (m : Msg) → kind_of m ≡ MapKind → (l : Layout) (d : ℕ)
    → readable l d m ≡ readable_head m ++ left_of l d true Nothing (parts_in_turn m)
unfolding readable readable_pairs
map_readable (map no_pairs) e l d = refl
map_readable (map (pair k v ps)) e l d =
    let sign = gap l (suc d) in
    let value = readable l (suc d) v in
    let entry = key_text k ++ colon l ++ value in
    let rest = after_first l d (readable_pairs l (suc d) ps) in
    ap (λ s. codes "{" ++ s)
    (append_assoc (sign ++ entry) rest (codes "}") ∙ append_assoc sign entry (rest ++ codes "}")
    ∙ ap (λ s. sign ++ s) (ap (λ s. entry ++ s) (joined_pairs l d ps) ∙ pair_put (key_text k) (colon l) value (left_of l d true Comma (items_of (flat_pairs ps)))))
map_readable nil e l d = absurd (search rules)
map_readable (truth t) e l d = absurd (search rules)
map_readable (whole z) e l d = absurd (search rules)
map_readable (float32 n) e l d = absurd (search rules)
map_readable (float64 n) e l d = absurd (search rules)
map_readable (text s) e l d = absurd (search rules)
map_readable (bin s) e l d = absurd (search rules)
map_readable (list ms) e l d = absurd (search rules)
map_readable (extension tag s) e l d = absurd (search rules)

-- of a message that has no parts the head's text is the whole
pub leaf_readable : (m : Msg) → kind_of m ≢ ListKind → kind_of m ≢ MapKind → (l : Layout) (d : ℕ) → readable l d m ≡ readable_head m
unfolding readable
leaf_readable nil x y l d = refl
leaf_readable (truth t) x y l d = leaf_text (truth t) x y
leaf_readable (whole z) x y l d = leaf_text (whole z) x y
leaf_readable (float32 n) x y l d = leaf_text (float32 n) x y
leaf_readable (float64 n) x y l d = leaf_text (float64 n) x y
leaf_readable (text s) x y l d = refl
leaf_readable (bin s) x y l d = leaf_text (bin s) x y
leaf_readable (list ms) x y l d = absurd (x refl)
leaf_readable (map ps) x y l d = absurd (y refl)
leaf_readable (extension tag s) x y l d = leaf_text (extension tag s) x y

-- of a message that is no nil and no text the head's text is that of its tree
pub head_readable : (m : Msg) → kind_of m ≢ NilKind → kind_of m ≢ TextKind → head_text (head_of m) (content_of m) ≡ readable_head m
head_readable nil x y = absurd (x refl)
head_readable (truth t) x y = refl
head_readable (whole z) x y = refl
head_readable (float32 n) x y = refl
head_readable (float64 n) x y = refl
head_readable (text s) x y = absurd (y refl)
head_readable (bin s) x y = refl
head_readable (list ms) x y = refl
head_readable (map ps) x y = refl
head_readable (extension tag s) x y = refl

-- ---- one turn

regroup : (b sg t inner rest outer : List ℕ) → (b ++ sg ++ t) ++ (inner ++ (rest ++ outer)) ≡ b ++ ((sg ++ ((t ++ inner) ++ rest)) ++ outer)
regroup b sg t inner rest outer = simp append_assoc

-- a part was written after its sign, up to what remains of it
turned : {W : Type 0} (took : W → List ℕ → W → Type 0) (l : Layout) (old mid signed new : Formatter W) (all : List ℕ) (os : List Open) (o o' : Open) (m : Msg)
    (t inner : List ℕ) (after : List Open) → WritesUpTo took l old all (os ++ (o ∷ [])) mid → parts_left o.parts ≡ m ∷ parts_left o'.parts
    → o'.is_map ≡ o.is_map → o'.sign ≡ next_sign o.is_map o.sign → HasWritten took mid (sign_in l (suc (length os)) o.sign) signed
    → HasWritten took signed t new → t ++ inner ≡ part_text l (suc (length os)) (is_key o.is_map o.sign) m
    → all_left l 0 after ≡ inner ++ all_left l 0 (os ++ (o' ∷ [])) → WritesUpTo took l old all after new
turned took l old mid signed new all os o o' m t inner after before parts is_map sign put again part opened =
    let n = length os in
    let sg = sign_in l (suc n) o.sign in
    let p = part_text l (suc n) (is_key o.is_map o.sign) m in
    let rest = left_of l n o.is_map (next_sign o.is_map o.sign) (parts_left o'.parts) in
    let outer = all_left l 0 os in
    let same : left_of l n o'.is_map o'.sign (parts_left o'.parts) ≡ rest = rw (is_map, sign) refl in
    let following : all_left l 0 (os ++ (o' ∷ [])) ≡ rest ++ outer = left_push l 0 n os o' (omega arith) ∙ ap (λ s. s ++ outer) same in
    let stood : all_left l 0 (os ++ (o ∷ [])) ≡ (sg ++ (p ++ rest)) ++ outer =
    left_push l 0 n os o (omega arith) ∙ ap (λ ms. left_of l n o.is_map o.sign ms ++ outer) parts in
    record {
      text = before.text ++ sg ++ t;
      written = has_written_append took old (before.text ++ sg) signed t new (has_written_append took old before.text mid sg signed before.written put) again;
      whole = ap (λ s. before.text ++ sg ++ t ++ s) (opened ∙ ap (λ s. inner ++ s) following) ∙ regroup before.text sg t inner rest outer
          ∙ ap (λ s. before.text ++ ((sg ++ (s ++ rest)) ++ outer)) part ∙ ap (λ s. before.text ++ s) (sym stood) ∙ before.whole;
    }

-- a part was written that isn't open
pub leaf_shown : {W : Type 0} (took : W → List ℕ → W → Type 0) (l : Layout) (old mid signed new : Formatter W) (all : List ℕ) (os : List Open) (o o' : Open)
    (m : Msg) → WritesUpTo took l old all (os ++ (o ∷ [])) mid → parts_left o.parts ≡ m ∷ parts_left o'.parts → o'.is_map ≡ o.is_map
    → o'.sign ≡ next_sign o.is_map o.sign → HasWritten took mid (sign_in l (suc (length os)) o.sign) signed
    → HasWritten took signed (part_text l (suc (length os)) (is_key o.is_map o.sign) m) new → WritesUpTo took l old all (os ++ (o' ∷ [])) new
leaf_shown took l old mid signed new all os o o' m before parts is_map sign put again =
    let p = part_text l (suc (length os)) (is_key o.is_map o.sign) m in
    turned took l old mid signed new all os o o' m p [] (os ++ (o' ∷ [])) before parts is_map sign put again (append-nil p) refl

-- a list or a map was begun, and is open
pub part_shown : {W : Type 0} (took : W → List ℕ → W → Type 0) (l : Layout) (old mid signed new : Formatter W) (all : List ℕ) (os : List Open)
    (o o' i : Open) (m : Msg) → WritesUpTo took l old all (os ++ (o ∷ [])) mid → parts_left o.parts ≡ m ∷ parts_left o'.parts → o'.is_map ≡ o.is_map
    → o'.sign ≡ next_sign o.is_map o.sign → HasWritten took mid (sign_in l (suc (length os)) o.sign) signed
    → BeginsPart took signed (is_key o.is_map o.sign) m (Some i) new → WritesUpTo took l old all ((os ++ (o' ∷ [])) ++ (i ∷ [])) new
part_shown took l old mid signed new all os o o' i m before parts is_map sign put begins =
    let n = suc (length os) in
    let inner = left_of l n i.is_map i.sign (parts_left i.parts) in
    let after = (os ++ (o' ∷ [])) ++ (i ∷ []) in
    turned took l old mid signed new all os o o' m begins.text inner after before parts is_map sign put begins.written (sym (begins.whole l n))
    (left_push l 0 n (os ++ (o' ∷ [])) i (omega (arith, length-append os (o' ∷ []))))

-- what is begun, and isn't open, is whole
pub none_inside : {W : Type 0} (took : W → List ℕ → W → Type 0) (f g : Formatter W) (key : Bool) (m : Msg) (b : Option Open)
    → ((o : Open) → b ≡ Some o → ⊥) → BeginsPart took f key m b g → (l : Layout) (d : ℕ) → HasWritten took f (part_text l d key m) g
none_inside took f g key m None none put l d = put l d
none_inside took f g key m (Some o) none put l d = absurd (none o refl)

-- the outermost list or map was begun
pub first_shown : {W : Type 0} (took : W → List ℕ → W → Type 0) (l : Layout) (f g : Formatter W) (m : Msg) (o : Open) {after : List Open}
    → BeginsPart took f false m (Some o) g → after ≡ o ∷ [] → WritesUpTo took l f (readable l 0 m) after g
first_shown took l f g m o {after} begins is = record {
  text = begins.text;
  written = begins.written;
  whole = ap (λ os. begins.text ++ all_left l 0 os) is ∙ sym (begins.whole l 0);
}

-- no part is left, and the end was put
pub end_shown : {W : Type 0} (took : W → List ℕ → W → Type 0) (l : Layout) (old mid new : Formatter W) (all : List ℕ) (os : List Open) (o : Open)
    → WritesUpTo took l old all (os ++ (o ∷ [])) mid → parts_left o.parts ≡ [] → HasWritten took mid (end_in l (length os) o.is_map o.sign) new
    → WritesUpTo took l old all os new
end_shown took l old mid new all os o before none put =
    let n = length os in
    let outer = all_left l 0 os in
    let end = end_in l n o.is_map o.sign in
    let stood : all_left l 0 (os ++ (o ∷ [])) ≡ end ++ outer =
    left_push l 0 n os o (omega arith) ∙ ap (λ ms. left_of l n o.is_map o.sign ms ++ outer) none in
    record {
      text = before.text ++ end;
      written = has_written_append took old before.text mid end new before.written put;
      whole = append_assoc before.text end outer ∙ ap (λ s. before.text ++ s) (sym stood) ∙ before.whole;
    }

-- two more spaces
pub spaces_push : (d : ℕ) → spaces d ++ codes "  " ≡ spaces (suc d)
spaces_push zero = refl
spaces_push (suc d) = ap (λ s. codes "  " ++ s) (spaces_push d)
