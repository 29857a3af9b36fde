-- The text of lists and maps that are printed part by part.
use Rattle.std.proofs.Common.{rules, arith, ◌≡◌, ◌≢◌, ℕ, suc, ◌+◌, ◌*◌, ◌<◌, List, [], ◌∷◌, ◌++◌, length, refl, sym, ap, ◌∙◌, append-nil, append_assoc}
use Rattle.std.specs.Prelude.{codes, true, false, Option, None, Some}
use Rattle.std.proofs.Output.{has_written_append}
use Rattle.std.proofs.lemmas.List.{length-append}
use Rattle.std.specs.Fmt.{HasWritten}
use Rattle.std.specs.declared.fmt.Formatter.{Formatter}
use Rattle.rmp_serde.specs.declared.value.kind.Kind.TheVariants.{List as ListKind, Map as MapKind}
use Rattle.rmp_wire.specs.Msg.{
  Msg,
  nil,
  truth,
  whole,
  float32,
  float64,
  text,
  bin,
  list,
  map,
  extension,
  Msgs,
  no_items,
  item,
  Pairs,
  no_pairs,
  pair,
  items_of,
}
use Rattle.rmp_wire.specs.Spelling.{head_of}
use Rattle.rmp_serde.specs.Parts.{kind_of, content_of, parts_in_turn}
use Rattle.rmp_serde.specs.PartsLeft.{parts_left}
use Rattle.rmp_serde.specs.Tokens.{tokens, tokens_all, tokens_pairs, flat_pairs}
use Rattle.rmp_serde.specs.declared.value.text.Open.{Open}
use Rattle.rmp_serde.specs.declared.value.text.Sign.TheVariants.{Nothing, Comma}
use Rattle.rmp_serde.specs.OpenParts.{head_text, sign_text, next_sign, bracket_of, text_left, texts_left, heads_among, turns_left, WritesToward, Begins}
use Rattle.rmp_serde.specs.TreeText.{tree_text, with_commas, item_texts, pair_texts}

-- ---- the innermost is last

pub texts_push : (os : List Open) (o : Open) → texts_left (os ++ (o ∷ [])) ≡ text_left o.is_map o.sign (parts_left o.parts) ++ texts_left os
texts_push [] o = sym (append-nil (text_left o.is_map o.sign (parts_left o.parts)))
texts_push (x ∷ os) o =
    let last = text_left o.is_map o.sign (parts_left o.parts) in
    let first = text_left x.is_map x.sign (parts_left x.parts) in
    ap (λ s. s ++ first) (texts_push os o) ∙ append_assoc last (texts_left os) first

pub turns_push : (os : List Open) (o : Open) → turns_left (os ++ (o ∷ [])) ≡ suc (2 * heads_among (parts_left o.parts)) + turns_left os
turns_push [] o = refl
turns_push (x ∷ os) o = omega (arith, turns_push os o)

-- ---- the text of a list or a map

joined : (ms : Msgs) (x : List ℕ) → with_commas (x ∷ item_texts ms) ++ codes "]" ≡ x ++ text_left false Comma (items_of ms)
unfolding item_texts
joined no_items x = refl
joined (item m ms) x = append_assoc x (44 ∷ with_commas (tree_text m ∷ item_texts ms)) (codes "]") ∙ ap (λ s. x ++ (44 ∷ s)) (joined ms (tree_text m))

joined_pairs : (ps : Pairs) (x : List ℕ) → with_commas (x ∷ pair_texts ps) ++ codes "}" ≡ x ++ text_left true Comma (items_of (flat_pairs ps))
unfolding pair_texts
joined_pairs no_pairs x = refl
joined_pairs (pair k v ps) x =
    let entry = tree_text k ++ codes "=" ++ tree_text v in
    let rest = text_left true Comma (items_of (flat_pairs ps)) in
    append_assoc x (44 ∷ with_commas (entry ∷ pair_texts ps)) (codes "}")
    ∙ ap (λ s. x ++ (44 ∷ s)) (joined_pairs ps entry ∙ append_assoc (tree_text k ++ codes "=") (tree_text v) rest
    ∙ append_assoc (tree_text k) (codes "=") (tree_text v ++ rest))

pub list_text : (m : Msg) → kind_of m ≡ ListKind → tree_text m ≡ head_text (head_of m) (content_of m) ++ text_left false Nothing (parts_in_turn m)
unfolding tree_text item_texts
list_text (list no_items) e = refl
list_text (list (item m ms)) e = ap (λ s. codes "[" ++ s) (joined ms (tree_text m))
list_text nil e = absurd (search rules)
list_text (truth t) e = absurd (search rules)
list_text (whole z) e = absurd (search rules)
list_text (float32 n) e = absurd (search rules)
list_text (float64 n) e = absurd (search rules)
list_text (text s) e = absurd (search rules)
list_text (bin s) e = absurd (search rules)
list_text (map ps) e = absurd (search rules)
list_text (extension tag s) e = absurd (search rules)

pub map_text : (m : Msg) → kind_of m ≡ MapKind → tree_text m ≡ head_text (head_of m) (content_of m) ++ text_left true Nothing (parts_in_turn m)
unfolding tree_text pair_texts
map_text (map no_pairs) e = refl
map_text (map (pair k v ps)) e =
    let rest = text_left true Comma (items_of (flat_pairs ps)) in
    ap (λ s. codes "{" ++ s)
    (joined_pairs ps (tree_text k ++ codes "=" ++ tree_text v) ∙ append_assoc (tree_text k ++ codes "=") (tree_text v) rest
    ∙ append_assoc (tree_text k) (codes "=") (tree_text v ++ rest))
map_text nil e = absurd (search rules)
map_text (truth t) e = absurd (search rules)
map_text (whole z) e = absurd (search rules)
map_text (float32 n) e = absurd (search rules)
map_text (float64 n) e = absurd (search rules)
map_text (text s) e = absurd (search rules)
map_text (bin s) e = absurd (search rules)
map_text (list ms) e = absurd (search rules)
map_text (extension tag s) e = absurd (search rules)

-- of a message that has no parts the head's text is the whole
pub leaf_text : (m : Msg) → kind_of m ≢ ListKind → kind_of m ≢ MapKind → tree_text m ≡ head_text (head_of m) (content_of m)
unfolding tree_text
leaf_text nil l p = refl
leaf_text (truth true) l p = refl
leaf_text (truth false) l p = refl
leaf_text (whole z) l p = refl
leaf_text (float32 n) l p = refl
leaf_text (float64 n) l p = refl
leaf_text (text s) l p = refl
leaf_text (bin s) l p = refl
leaf_text (list ms) l p = absurd (l refl)
leaf_text (map ps) l p = absurd (p refl)
leaf_text (extension tag s) l p = refl

-- ---- how many heads it has

heads_of_items : (ms : Msgs) → length (tokens_all ms) ≡ heads_among (items_of ms)
heads_of_items no_items = refl
heads_of_items (item m ms) = omega (arith, length-append (tokens m) (tokens_all ms), heads_of_items ms)

heads_of_pairs : (ps : Pairs) → length (tokens_pairs ps) ≡ heads_among (items_of (flat_pairs ps))
heads_of_pairs no_pairs = refl
heads_of_pairs (pair k v ps) =
    omega (arith, length-append (tokens k) (tokens v ++ tokens_pairs ps), length-append (tokens v) (tokens_pairs ps), heads_of_pairs ps)

-- one head is its own, and the others are those of its parts
pub heads_of : (m : Msg) → length (tokens m) ≡ suc (heads_among (parts_in_turn m))
heads_of nil = refl
heads_of (truth t) = refl
heads_of (whole z) = refl
heads_of (float32 n) = refl
heads_of (float64 n) = refl
heads_of (text s) = refl
heads_of (bin s) = refl
heads_of (list ms) = ap suc (heads_of_items ms)
heads_of (map ps) = ap suc (heads_of_pairs ps)
heads_of (extension tag s) = refl

-- ---- one turn

-- the sign and a part are put, and then what is left of the list or map and of those around it
pub part_put : (before sign part left outer : List ℕ) → before ++ sign ++ (part ++ (left ++ outer)) ≡ before ++ (sign ++ (part ++ left) ++ outer)
part_put before sign part left outer =
    append_assoc before sign (part ++ (left ++ outer))
    ∙ ap (λ s. before ++ s) (ap (λ s. sign ++ s) (sym (append_assoc part left outer)) ∙ sym (append_assoc sign (part ++ left) outer))

-- a list or a map is begun: its bracket was written, and it is last among those that are open
pub begun : {W : Type 0} (took : W → List ℕ → W → Type 0) (f g : Formatter W) (front all : List ℕ) (os : List Open) (o : Open) {after : List Open}
    → HasWritten took f front g → after ≡ os ++ (o ∷ []) → all ≡ front ++ text_left o.is_map o.sign (parts_left o.parts)
    → WritesToward took f os all after g
begun took f g front all os o {after} put pushed is =
    let rest = text_left o.is_map o.sign (parts_left o.parts) in
    let outer = texts_left os in
    record {
      text = front;
      written = put;
      whole = ap (λ z. front ++ texts_left z) pushed ∙ ap (λ s. front ++ s) (texts_push os o) ∙ sym (append_assoc front rest outer)
          ∙ ap (λ s. s ++ outer) (sym is);
    }

pub begun_turns : (m : Msg) (os : List Open) (o : Open) {after : List Open} → after ≡ os ++ (o ∷ []) → parts_left o.parts ≡ parts_in_turn m
    → turns_left after < turns_left os + 2 * length (tokens m)
begun_turns m os o {after} pushed is =
    let turns : turns_left after ≡ suc (2 * heads_among (parts_left o.parts)) + turns_left os = ap turns_left pushed ∙ turns_push os o in
    omega (arith, turns, ap heads_among is, heads_of m)

-- what is begun, and isn't open, is whole
pub none_begun : {W : Type 0} (took : W → List ℕ → W → Type 0) (f g : Formatter W) (m : Msg) (b : Option Open) → ((o : Open) → b ≡ Some o → ⊥)
    → Begins took f m b g → HasWritten took f (tree_text m) g
none_begun took f g m None none put = put
none_begun took f g m (Some o) none put = absurd (none o refl)

-- a part was written after its sign, and begun
pub turn_put : {W : Type 0} (took : W → List ℕ → W → Type 0) (old mid signed new : Formatter W) (all : List ℕ) (os : List Open) (o o' : Open) (m : Msg)
    {held pushed last : List Open} → WritesToward took old [] all held mid → held ≡ os ++ (o ∷ []) → parts_left o.parts ≡ m ∷ parts_left o'.parts
    → o'.is_map ≡ o.is_map → o'.sign ≡ next_sign o.is_map o.sign → HasWritten took mid (sign_text o.sign) signed → pushed ≡ os ++ (o' ∷ [])
    → WritesToward took signed pushed (tree_text m) last new → WritesToward took old [] all last new
turn_put took old mid signed new all os o o' m {held} {pushed} {last} before stood parts is_map sign put again turned =
    let left : text_left o'.is_map o'.sign (parts_left o'.parts) ≡ text_left o.is_map (next_sign o.is_map o.sign) (parts_left o'.parts) =
    rw (is_map, sign) refl in
    let rest = text_left o.is_map (next_sign o.is_map o.sign) (parts_left o'.parts) in
    let outer = texts_left os in
    let inner : texts_left pushed ≡ rest ++ outer = ap texts_left again ∙ texts_push os o' ∙ ap (λ s. s ++ outer) left in
    let whole : texts_left held ≡ (sign_text o.sign ++ (tree_text m ++ rest)) ++ outer =
    ap texts_left stood ∙ texts_push os o ∙ ap (λ ms. text_left o.is_map o.sign ms ++ outer) parts in
    let front = before.text ++ sign_text o.sign in
    record {
      text = front ++ turned.text;
      written = has_written_append took old front signed turned.text new
          (has_written_append took old before.text mid (sign_text o.sign) signed before.written put) turned.written;
      whole = append_assoc front turned.text (texts_left last) ∙ ap (λ s. front ++ s) (turned.whole ∙ ap (λ s. tree_text m ++ s) inner)
          ∙ part_put before.text (sign_text o.sign) (tree_text m) rest outer ∙ ap (λ s. before.text ++ s) (sym whole) ∙ before.whole;
    }

pub turn_smaller : (os : List Open) (o o' : Open) (m : Msg) {held pushed : List Open} {n : ℕ} → held ≡ os ++ (o ∷ [])
    → parts_left o.parts ≡ m ∷ parts_left o'.parts → pushed ≡ os ++ (o' ∷ []) → n < turns_left pushed + 2 * length (tokens m) → n < turns_left held
turn_smaller os o o' m {held} {pushed} {n} last parts again less =
    let before : turns_left held ≡ suc (2 * heads_among (parts_left o.parts)) + turns_left os = ap turns_left last ∙ turns_push os o in
    let following : turns_left pushed ≡ suc (2 * heads_among (parts_left o'.parts)) + turns_left os = ap turns_left again ∙ turns_push os o' in
    omega (arith, before, following, ap heads_among parts, less)

-- a part was written that isn't open
pub leaf_turn : {W : Type 0} (took : W → List ℕ → W → Type 0) (old mid signed new : Formatter W) (all : List ℕ) (os : List Open) (o o' : Open) (m : Msg)
    → WritesToward took old [] all (os ++ (o ∷ [])) mid → parts_left o.parts ≡ m ∷ parts_left o'.parts → o'.is_map ≡ o.is_map
    → o'.sign ≡ next_sign o.is_map o.sign → HasWritten took mid (sign_text o.sign) signed → HasWritten took signed (tree_text m) new
    → WritesToward took old [] all (os ++ (o' ∷ [])) new
leaf_turn took old mid signed new all os o o' m before parts is_map sign put again =
    turn_put took old mid signed new all os o o' m before refl parts is_map sign put refl (record { text = tree_text m; written = again; whole = refl })

pub leaf_smaller : (os : List Open) (o o' : Open) (m : Msg) → parts_left o.parts ≡ m ∷ parts_left o'.parts
    → turns_left (os ++ (o' ∷ [])) < turns_left (os ++ (o ∷ []))
leaf_smaller os o o' m parts = turn_smaller os o o' m refl parts refl (omega (arith, heads_of m))

-- a list or a map was begun, and is open
pub part_turn : {W : Type 0} (took : W → List ℕ → W → Type 0) (old mid signed new : Formatter W) (all : List ℕ) (os : List Open) (o o' i : Open) (m : Msg)
    → WritesToward took old [] all (os ++ (o ∷ [])) mid → parts_left o.parts ≡ m ∷ parts_left o'.parts → o'.is_map ≡ o.is_map
    → o'.sign ≡ next_sign o.is_map o.sign → HasWritten took mid (sign_text o.sign) signed → Begins took signed m (Some i) new
    → WritesToward took old [] all ((os ++ (o' ∷ [])) ++ (i ∷ [])) new
part_turn took old mid signed new all os o o' i m before parts is_map sign put begins =
    turn_put took old mid signed new all os o o' m before refl parts is_map sign put refl
    (begun took signed new begins.text (tree_text m) (os ++ (o' ∷ [])) i begins.written refl begins.whole)

pub part_smaller : (os : List Open) (o o' i : Open) (m : Msg) → parts_left o.parts ≡ m ∷ parts_left o'.parts → parts_left i.parts ≡ parts_in_turn m
    → turns_left ((os ++ (o' ∷ [])) ++ (i ∷ [])) < turns_left (os ++ (o ∷ []))
part_smaller os o o' i m parts is = turn_smaller os o o' m refl parts refl (begun_turns m (os ++ (o' ∷ [])) i refl is)

-- no part is left, and the bracket was put
pub bracket_put : {W : Type 0} (took : W → List ℕ → W → Type 0) (old mid new : Formatter W) (all : List ℕ) (os : List Open) (o : Open) {held : List Open}
    → WritesToward took old [] all held mid → held ≡ os ++ (o ∷ []) → parts_left o.parts ≡ [] → HasWritten took mid (bracket_of o.is_map) new
    → WritesToward took old [] all os new
bracket_put took old mid new all os o {held} before last none put =
    let outer = texts_left os in
    let whole : texts_left held ≡ bracket_of o.is_map ++ outer =
    ap texts_left last ∙ texts_push os o ∙ ap (λ ms. text_left o.is_map o.sign ms ++ outer) none in
    record {
      text = before.text ++ bracket_of o.is_map;
      written = has_written_append took old before.text mid (bracket_of o.is_map) new before.written put;
      whole = append_assoc before.text (bracket_of o.is_map) outer ∙ ap (λ s. before.text ++ s) (sym whole) ∙ before.whole;
    }

pub bracket_smaller : (os : List Open) (o : Open) {held : List Open} → held ≡ os ++ (o ∷ []) → turns_left os < turns_left held
bracket_smaller os o {held} last =
    let before : turns_left held ≡ suc (2 * heads_among (parts_left o.parts)) + turns_left os = ap turns_left last ∙ turns_push os o in omega (arith, before)

-- nothing is open any more
pub none_open : (os : List Open) → length os ≡ 0 → os ≡ []
none_open [] e = refl
none_open (o ∷ os) e = absurd (omega arith)
