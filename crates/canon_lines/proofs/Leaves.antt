-- A canonical message without parts, or a list or a map of such, and its text.
use Rattle.std.proofs.Common.{
  arith,
  ◌≡◌,
  ◌∙◌,
  ℕ,
  zero,
  suc,
  ◌+◌,
  ◌-◌,
  ◌*◌,
  max,
  List,
  [],
  ◌∷◌,
  ◌++◌,
  length,
  take,
  refl,
  sym,
  ap,
  subst,
  Bool,
  true,
  false,
  pos,
  append_assoc,
  append-nil,
  ℤ,
}
use Rattle.std.specs.Prelude.{codes, flat_map, Option, None, Some, Result, Ok, Err, IfOk, IfSome}
use Rattle.std.specs.Fmt.{signed_decimal}
use Rattle.std.specs.Int.{to_be_bytes, w32, w64}
use Rattle.std.specs.Str.{IsUtf8}
use Rattle.std.proofs.lemmas.List.{length-append, take_at}
use Rattle.hex.specs.Hex.{encode_lower}
use Rattle.rmp_wire.specs.declared.head.Head.{Head}
use Rattle.rmp_wire.specs.declared.head.Head.TheVariants.{Nil, Truth, Whole, F32Bits, F64Bits, Text, Bin, Array, Map}
use Rattle.rmp_wire.specs.declared.marker.Marker.{Marker}
use Rattle.rmp_wire.specs.Canonical.{Opens}
use Rattle.rmp_wire.specs.Heads.{IsHead, canon_head, fits_head}
use Rattle.rmp_wire.specs.Msg.{Msg, nil, truth, whole, float32, float64, text, bin, list, map, msgs, count, Pairs, no_pairs, pair, count_pairs, depth, depth_all, depth_pairs}
use Rattle.rmp_wire.specs.Spelling.{IsBytes, canon, canon_all, canon_pairs, FitsAll, FitsPairs}
use Rattle.rmp_wire.specs.Taking.{byte_of}
use Rattle.rmp_wire.proofs.Canon.{head_fits}
use Rattle.rmp_wire.proofs.Canonical.{canonical_head_is}
use Rattle.rmp_wire.proofs.Spellings.{canon_spells}
use Rattle.rmp_wire.proofs.Strict.{test_passed}
use Rattle.rmp_wire.proofs.Taken.{bytes_parts}
use Rattle.rmp_serde.specs.Read.{ItemsUtf8, PairsUtf8}
use Rattle.rmp_serde.specs.TreeText.{tree_text, with_commas, item_texts, pair_texts}
use Rattle.canon_lines.specs.Firsts.{BeginsHead, TellsLeaf, TakesContent, TakesMessage, IsLeaf, AreLeaves, TakesParts, TakesRow, TellsFirst}
use Rattle.canon_lines.specs.Firsts.{separator_text, next_separator, parts_text, opening, closing}
use Rattle.canon_lines.specs.declared.leaf.Separator.{Separator}
use Rattle.canon_lines.specs.declared.leaf.Separator.TheVariants.{Nothing, Comma}
use Rattle.canon_lines.proofs.Shown.{flat_more}

no_payload : (h s : List ℕ) → length s ≡ 0 → h ≡ h ++ s
no_payload h [] e = sym (append-nil h)
no_payload h (x ∷ s) e = absurd (omega (arith, e))

pub leaf_nil : (s o t : List ℕ) → length s ≡ 0 → t ≡ o ++ codes "nil" → TellsLeaf Nil s o t
unfolding tree_text
leaf_nil s o t l e = record {
  message = nil;
  leaf = refl;
  utf8 = tt;
  spelled = no_payload (canon_head Nil) s l;
  fits = λ f b. f;
  told = e;
}

pub leaf_true : (s o t : List ℕ) → length s ≡ 0 → t ≡ o ++ codes "true" → TellsLeaf (Truth true) s o t
unfolding tree_text
leaf_true s o t l e = record {
  message = truth true;
  leaf = refl;
  utf8 = tt;
  spelled = no_payload (canon_head (Truth true)) s l;
  fits = λ f b. f;
  told = e;
}

pub leaf_false : (s o t : List ℕ) → length s ≡ 0 → t ≡ o ++ codes "false" → TellsLeaf (Truth false) s o t
unfolding tree_text
leaf_false s o t l e = record {
  message = truth false;
  leaf = refl;
  utf8 = tt;
  spelled = no_payload (canon_head (Truth false)) s l;
  fits = λ f b. f;
  told = e;
}

pub leaf_number : (z : ℤ) (s o t : List ℕ) → length s ≡ 0 → t ≡ o ++ signed_decimal z → TellsLeaf (Whole z) s o t
unfolding tree_text
leaf_number z s o t l e = record {
  message = whole z;
  leaf = refl;
  utf8 = tt;
  spelled = no_payload (canon_head (Whole z)) s l;
  fits = λ f b. f;
  told = e;
}

pub leaf_f32 : (n : ℕ) (s o t : List ℕ) → length s ≡ 0 → t ≡ o ++ (codes "f32:" ++ encode_lower (to_be_bytes w32 n)) → TellsLeaf (F32Bits n) s o t
unfolding tree_text
leaf_f32 n s o t l e = record {
  message = float32 n;
  leaf = refl;
  utf8 = tt;
  spelled = no_payload (canon_head (F32Bits n)) s l;
  fits = λ f b. f;
  told = e;
}

pub leaf_f64 : (n : ℕ) (s o t : List ℕ) → length s ≡ 0 → t ≡ o ++ (codes "f64:" ++ encode_lower (to_be_bytes w64 n)) → TellsLeaf (F64Bits n) s o t
unfolding tree_text
leaf_f64 n s o t l e = record {
  message = float64 n;
  leaf = refl;
  utf8 = tt;
  spelled = no_payload (canon_head (F64Bits n)) s l;
  fits = λ f b. f;
  told = e;
}

pub leaf_text : (n : ℕ) (s o t : List ℕ) → length s ≡ n → IsUtf8 s → t ≡ o ++ (codes "t:" ++ encode_lower s) → TellsLeaf (Text n) s o t
unfolding tree_text
leaf_text n s o t l u e = record {
  message = text s;
  leaf = refl;
  utf8 = u;
  spelled = ap (λ k. canon_head (Text k) ++ s) l;
  fits = λ f b. (subst (λ k. fits_head (Text k)) (sym l) f, b);
  told = e;
}

pub leaf_bytes : (n : ℕ) (s o t : List ℕ) → length s ≡ n → t ≡ o ++ (codes "b:" ++ encode_lower s) → TellsLeaf (Bin n) s o t
unfolding tree_text
leaf_bytes n s o t l e = record {
  message = bin s;
  leaf = refl;
  utf8 = tt;
  spelled = ap (λ k. canon_head (Bin k) ++ s) l;
  fits = λ f b. (subst (λ k. fits_head (Bin k)) (sym l) f, b);
  told = e;
}

-- a head that was read, and whose test was passed
pub head_read : (xs ys r : List ℕ) (m : Marker) (h : Head) → IsHead h (byte_of m ∷ r) → xs ≡ (byte_of m ∷ r) ++ ys
    → (fits_head h → Opens (byte_of m) (canon_head h)) → BeginsHead h ys xs
head_read xs ys r m h is split says =
    let fits : fits_head h = head_fits h (byte_of m ∷ r) is in
    let head : (byte_of m ∷ r) ≡ canon_head h = (canonical_head_is h (byte_of m ∷ r) (test_passed h (byte_of m) r is (says fits))).1 in
    record { fits = fits; split = split ∙ ap (λ z. z ++ ys) head }

-- what holds of an answer, if there is one
pub weaker : {A E : Type 0} (r : Result (Option A) E) (P Q : A → Type 0) → ((a : A) → P a → Q a) → IfOk r (λ o. IfSome o P) → IfOk r (λ o. IfSome o Q)
weaker (Ok None) P Q f p = tt
weaker (Ok (Some a)) P Q f p = f a p
weaker (Err e) P Q f p = tt

pub some_of : {A : Type 0} (o : Option A) (a : A) (P : A → Type 0) → o ≡ Some a → IfSome o P → P a
some_of o a P e p = subst (λ x. IfSome x P) e p

-- its head and its payload were taken
pub content_taken : (deepest : ℕ) (xs ys rest o t : List ℕ) (h : Head) → IsBytes xs → BeginsHead h ys xs → TakesContent h ys rest o t
    → TakesMessage deepest xs rest o t
content_taken deepest xs ys rest o t h bytes begins p =
    let following : IsBytes ys = (bytes_parts (canon_head h) ys (subst IsBytes begins.split bytes)).1 in
    let own : IsBytes p.payload = (bytes_parts p.payload rest (subst IsBytes p.split following)).0 in
    record {
      message = p.leaf.message;
      deep = omega (arith, p.leaf.leaf);
      utf8 = p.leaf.utf8;
      fits = p.leaf.fits begins.fits own;
      split = begins.split ∙ ap (λ z. canon_head h ++ z) p.split ∙ sym (append_assoc (canon_head h) p.payload rest)
          ∙ ap (λ z. z ++ rest) (sym p.leaf.spelled);
      told = p.leaf.told;
    }

-- ---- parts, one after another

leaves_push : (ms : List Msg) (m : Msg) → AreLeaves ms → IsLeaf m → AreLeaves (ms ++ m ∷ [])
leaves_push [] m l i = (i, tt)
leaves_push (x ∷ ms) m l i = (l.0, leaves_push ms m l.1 i)

pub parts_none : (is_map : Bool) (xs o : List ℕ) → TakesParts is_map 0 Nothing xs xs o o
parts_none is_map xs o = record { parts = []; many = refl; leaves = tt; split = refl; told = λ ms. refl }

pub parts_more : (is_map : Bool) (n : ℕ) (separator : Separator) (bytes rest rest' o now mid new : List ℕ) → TakesParts is_map n separator bytes rest o now
    → mid ≡ now ++ separator_text separator → TakesMessage 0 rest rest' mid new
    → TakesParts is_map (n + 1) (next_separator is_map separator) bytes rest' o new
parts_more is_map n separator bytes rest rest' o now mid new p e q =
    let m = q.message in
    let sign = separator_text separator in
    record {
      parts = p.parts ++ m ∷ [];
      many = omega (arith, length-append p.parts (m ∷ []), p.many);
      leaves = leaves_push p.parts m p.leaves (record { deep = omega (arith, q.deep); utf8 = q.utf8; fits = q.fits });
      split = p.split ∙ ap (λ s. flat_map canon p.parts ++ s) q.split ∙ sym (append_assoc (flat_map canon p.parts) (canon m) rest')
          ∙ ap (λ s. s ++ rest') (sym (flat_more canon p.parts m));
      told = λ ms.
          let more = parts_text is_map (next_separator is_map separator) ms in
          ap (λ s. s ++ more) (q.told ∙ ap (λ s. s ++ tree_text m) e) ∙ append_assoc (now ++ sign) (tree_text m) more
          ∙ append_assoc now sign (tree_text m ++ more) ∙ p.told (m ∷ ms)
          ∙ ap (λ l. o ++ parts_text is_map Nothing l) (sym (append_assoc p.parts (m ∷ []) ms));
    }

pub row_taken : (is_map : Bool) (n : ℕ) (separator : Separator) (bytes rest start o now new : List ℕ) → o ≡ start ++ opening is_map
    → TakesParts is_map n separator bytes rest o now → new ≡ now ++ closing is_map → TakesRow is_map n bytes rest start new
row_taken is_map n separator bytes rest start o now new e p f =
    let whole = parts_text is_map Nothing p.parts in
    let told : now ≡ (start ++ opening is_map) ++ whole = sym (append-nil now) ∙ p.told []
    ∙ ap (λ l. o ++ parts_text is_map Nothing l) (append-nil p.parts) ∙ ap (λ s. s ++ whole) e in
    record {
      parts = p.parts;
      many = p.many;
      leaves = p.leaves;
      split = p.split;
      told = f ∙ ap (λ s. s ++ closing is_map) told ∙ append_assoc (start ++ opening is_map) whole (closing is_map)
          ∙ append_assoc start (opening is_map) (whole ++ closing is_map);
    }

-- ---- a list of them

all_count : (ps : List Msg) → count (msgs ps) ≡ length ps
all_count [] = refl
all_count (m ∷ ps) = ap suc (all_count ps)

all_canon : (ps : List Msg) → canon_all (msgs ps) ≡ flat_map canon ps
all_canon [] = refl
all_canon (m ∷ ps) = ap (λ z. canon m ++ z) (all_canon ps)

all_deep : (ps : List Msg) → AreLeaves ps → depth_all (msgs ps) ≡ 0
all_deep [] l = refl
all_deep (m ∷ ps) l = ap (λ d. max d (depth_all (msgs ps))) l.0.deep ∙ ap (λ d. max 0 d) (all_deep ps l.1)

all_utf8 : (ps : List Msg) → AreLeaves ps → ItemsUtf8 (msgs ps)
all_utf8 [] l = tt
all_utf8 (m ∷ ps) l = (l.0.utf8, all_utf8 ps l.1)

all_fits : (ps : List Msg) → AreLeaves ps → FitsAll (msgs ps)
all_fits [] l = tt
all_fits (m ∷ ps) l = (l.0.fits, all_fits ps l.1)

joined : (ps : List Msg) (x : List ℕ) → with_commas (x ∷ item_texts (msgs ps)) ≡ x ++ parts_text false Comma ps
unfolding item_texts
joined [] x = sym (append-nil x)
joined (m ∷ ps) x = ap (λ s. x ++ (44 ∷ s)) (joined ps (tree_text m))

all_text : (ps : List Msg) → with_commas (item_texts (msgs ps)) ≡ parts_text false Nothing ps
unfolding item_texts
all_text [] = refl
all_text (m ∷ ps) = joined ps (tree_text m)

pub list_taken : (n : ℕ) (xs ys rest o t : List ℕ) → BeginsHead (Array n) ys xs → TakesRow false n ys rest o t → TakesMessage 1 xs rest o t
unfolding tree_text
list_taken n xs ys rest o t begins p =
    let many : n ≡ count (msgs p.parts) = sym p.many ∙ sym (all_count p.parts) in
    let spelled : canon_head (Array n) ++ flat_map canon p.parts ≡ canon (list (msgs p.parts)) =
    ap (λ k. canon_head (Array k) ++ flat_map canon p.parts) many ∙ ap (λ z. canon_head (Array (count (msgs p.parts))) ++ z) (sym (all_canon p.parts)) in
    record {
      message = list (msgs p.parts);
      deep = omega (arith, all_deep p.parts p.leaves);
      utf8 = all_utf8 p.parts p.leaves;
      fits = (subst (λ k. fits_head (Array k)) many begins.fits, all_fits p.parts p.leaves);
      split = begins.split ∙ ap (λ z. canon_head (Array n) ++ z) p.split ∙ sym (append_assoc (canon_head (Array n)) (flat_map canon p.parts) rest)
          ∙ ap (λ z. z ++ rest) spelled;
      told = p.told ∙ ap (λ s. o ++ (91 ∷ (s ++ 93 ∷ []))) (sym (all_text p.parts));
    }

-- ---- a map of them

abbrev paired : List Msg → Pairs
paired [] = no_pairs
paired (k ∷ []) = no_pairs
paired (k ∷ v ∷ ms) = pair k v (paired ms)

pairs_count : (n : ℕ) (ps : List Msg) → length ps ≡ 2 * n → n ≡ count_pairs (paired ps)
pairs_count zero [] e = refl
pairs_count zero (k ∷ ms) e = absurd (omega (arith, e))
pairs_count (suc n) [] e = absurd (omega (arith, e))
pairs_count (suc n) (k ∷ []) e = absurd (omega (arith, e))
pairs_count (suc n) (k ∷ v ∷ ms) e = ap suc (pairs_count n ms (omega (arith, e)))

pairs_canon : (n : ℕ) (ps : List Msg) → length ps ≡ 2 * n → canon_pairs (paired ps) ≡ flat_map canon ps
pairs_canon zero [] e = refl
pairs_canon zero (k ∷ ms) e = absurd (omega (arith, e))
pairs_canon (suc n) [] e = absurd (omega (arith, e))
pairs_canon (suc n) (k ∷ []) e = absurd (omega (arith, e))
pairs_canon (suc n) (k ∷ v ∷ ms) e = ap (λ z. canon k ++ (canon v ++ z)) (pairs_canon n ms (omega (arith, e)))

pairs_deep : (ps : List Msg) → AreLeaves ps → depth_pairs (paired ps) ≡ 0
pairs_deep [] l = refl
pairs_deep (k ∷ []) l = refl
pairs_deep (k ∷ v ∷ ms) l = ap (λ d. max d (max (depth v) (depth_pairs (paired ms)))) l.0.deep
    ∙ ap (λ d. max 0 (max d (depth_pairs (paired ms)))) l.1.0.deep ∙ ap (λ d. max 0 (max 0 d)) (pairs_deep ms l.1.1)

pairs_utf8 : (ps : List Msg) → AreLeaves ps → PairsUtf8 (paired ps)
pairs_utf8 [] l = tt
pairs_utf8 (k ∷ []) l = tt
pairs_utf8 (k ∷ v ∷ ms) l = (l.0.utf8, l.1.0.utf8, pairs_utf8 ms l.1.1)

pairs_fits : (ps : List Msg) → AreLeaves ps → FitsPairs (paired ps)
pairs_fits [] l = tt
pairs_fits (k ∷ []) l = tt
pairs_fits (k ∷ v ∷ ms) l = (l.0.fits, l.1.0.fits, pairs_fits ms l.1.1)

pair_text : (a b more : List ℕ) → (a ++ codes "=" ++ b) ++ more ≡ a ++ (61 ∷ (b ++ more))
pair_text a b more = append_assoc (a ++ codes "=") b more ∙ append_assoc a (codes "=") (b ++ more)

joined_pairs : (n : ℕ) (ps : List Msg) (x : List ℕ) → length ps ≡ 2 * n → with_commas (x ∷ pair_texts (paired ps)) ≡ x ++ parts_text true Comma ps
unfolding pair_texts
joined_pairs zero [] x e = sym (append-nil x)
joined_pairs zero (k ∷ ms) x e = absurd (omega (arith, e))
joined_pairs (suc n) [] x e = absurd (omega (arith, e))
joined_pairs (suc n) (k ∷ []) x e = absurd (omega (arith, e))
joined_pairs (suc n) (k ∷ v ∷ ms) x e =
    let more = parts_text true Comma ms in
    ap (λ s. x ++ (44 ∷ s))
    (joined_pairs n ms (tree_text k ++ codes "=" ++ tree_text v) (omega (arith, e)) ∙ pair_text (tree_text k) (tree_text v) more)

pairs_text : (n : ℕ) (ps : List Msg) → length ps ≡ 2 * n → with_commas (pair_texts (paired ps)) ≡ parts_text true Nothing ps
unfolding pair_texts
pairs_text zero [] e = refl
pairs_text zero (k ∷ ms) e = absurd (omega (arith, e))
pairs_text (suc n) [] e = absurd (omega (arith, e))
pairs_text (suc n) (k ∷ []) e = absurd (omega (arith, e))
pairs_text (suc n) (k ∷ v ∷ ms) e =
    joined_pairs n ms (tree_text k ++ codes "=" ++ tree_text v) (omega (arith, e)) ∙ pair_text (tree_text k) (tree_text v) (parts_text true Comma ms)

pub map_taken : (n : ℕ) (xs ys rest o t : List ℕ) → BeginsHead (Map n) ys xs → TakesRow true (2 * n) ys rest o t → TakesMessage 1 xs rest o t
unfolding tree_text
map_taken n xs ys rest o t begins p =
    let many : n ≡ count_pairs (paired p.parts) = pairs_count n p.parts p.many in
    let spelled : canon_head (Map n) ++ flat_map canon p.parts ≡ canon (map (paired p.parts)) =
    ap (λ k. canon_head (Map k) ++ flat_map canon p.parts) many
    ∙ ap (λ z. canon_head (Map (count_pairs (paired p.parts))) ++ z) (sym (pairs_canon n p.parts p.many)) in
    record {
      message = map (paired p.parts);
      deep = omega (arith, pairs_deep p.parts p.leaves);
      utf8 = pairs_utf8 p.parts p.leaves;
      fits = (subst (λ k. fits_head (Map k)) many begins.fits, pairs_fits p.parts p.leaves);
      split = begins.split ∙ ap (λ z. canon_head (Map n) ++ z) p.split ∙ sym (append_assoc (canon_head (Map n)) (flat_map canon p.parts) rest)
          ∙ ap (λ z. z ++ rest) spelled;
      told = p.told ∙ ap (λ s. o ++ (123 ∷ (s ++ 125 ∷ []))) (sym (pairs_text n p.parts p.many));
    }

-- the text of the first message was told, and its digits after it
pub flat_first : (xs after o t whole : List ℕ) (n : ℕ) → o ≡ [] → TakesMessage 1 xs after o t → n ≡ length xs - length after
    → whole ≡ t ++ 32 ∷ encode_lower (take n xs) → TellsFirst n xs whole
flat_first xs after o t all n none p long told =
    let front : List ℕ = canon p.message in
    let count : n ≡ length front = omega (arith, long, ap length p.split, length-append front after) in
    let same : take n xs ≡ front = ap (take n) p.split ∙ ap (λ k. take k (front ++ after)) count ∙ take_at front after (length front) refl in
    let tree : t ≡ tree_text p.message = p.told ∙ ap (λ s. s ++ tree_text p.message) none in
    record {
      message = p.message;
      front = front;
      rest = after;
      split = p.split;
      long = count;
      spelled = canon_spells p.message p.fits;
      accepted = record { nested = omega (arith, p.deep); utf8 = p.utf8 };
      told = told ∙ ap (λ s. s ++ 32 ∷ encode_lower (take n xs)) tree ∙ ap (λ s. tree_text p.message ++ 32 ∷ encode_lower s) same
          ∙ sym (append_assoc (tree_text p.message) (32 ∷ []) (encode_lower front));
    }
