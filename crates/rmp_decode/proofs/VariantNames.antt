-- What the opening of a variant says, from what the read of its name says.
use Rattle.rmp_decode.proofs.Payloads.{whole_alone}
use Rattle.rmp_decode.proofs.Leaves.{held_read}
use Rattle.rmp_decode.proofs.Laws.{refused_head, refused_none}
use Rattle.rmp_decode.specs.Refusing.{Setting, setting_of}
use Rattle.rmp_decode.specs.Parts.{TakesPart}
use Rattle.rmp_decode.specs.MapRefusing.{RefusesPart}
use Rattle.std.proofs.Common.{◌≡◌, ◌∙◌, sym, ap, subst, refl, inl, inr, ℕ, suc, ℤ, pos, negsuc, ◌<◌, ◌≤◌, arith, List, [], ◌∷◌, ◌++◌, length, nat_lt}
use Rattle.std.proofs.Common.{Bool, true, false, cond, Option, None, Some, IfSome, MatchOption, Ok, Err, Bor, ◌≢◌, max}
use Rattle.std.proofs.lemmas.List.{length-append}
use Rattle.std.proofs.lemmas.Bool.{cases_lt, le-ltb}
use Rattle.std.specs.Io.KnownBytes.{Consumes}
use Rattle.std.specs.Option.{option_map}
use Rattle.std.specs.Str.{bytes_eq}
use Rattle.rmp_wire.specs.declared.head.Head.{Head}
use Rattle.rmp_wire.specs.declared.head.Head.TheVariants as head
use Rattle.rmp_wire.specs.declared.head.Head.TheVariants.{Map, Whole}
use Rattle.rmp_wire.specs.declared.marker.Marker.{Marker}
use Rattle.rmp_wire.specs.declared.slice.SourceFault.{SourceFault}
use Rattle.rmp_wire.specs.declared.slice.SourceFault.TheVariants.{Io, Memory}
use Rattle.rmp_wire.specs.declared.source.Source.{Ghosts}
use Rattle.rmp_wire.specs.Canonical.{heads_of, SpellsAs}
use Rattle.rmp_wire.specs.Msg.{Msg, nil, truth, whole, float32, float64, text, bin, list, map, extension, no_pairs, pair, depth}
use Rattle.rmp_wire.specs.Slices.{Blames}
use Rattle.rmp_wire.specs.Sources.{IsShort}
use Rattle.rmp_wire.specs.Spelling.{head_of}
use Rattle.rmp_decode.specs.Content.{RefusesContent, IsRawHead}
use Rattle.rmp_decode.specs.Exact.{BeginsWith, TellsFault}
use Rattle.rmp_decode.specs.Kinds.{raw_msg, raw_head}
use Rattle.rmp_decode.specs.Law.{Refuses, Readable, Explains, Lawful, ReadsHead, TakesHead, IsFailedBefore}
use Rattle.rmp_decode.specs.Names.{bytes_of, place_below, place_of, name_of}
use Rattle.rmp_decode.specs.Opening.{FailsAtHead}
use Rattle.rmp_decode.specs.Pieces.{Blamed, RefusesPiece}
use Rattle.rmp_decode.specs.State.{left, faults_of, room_of, Stays, failed_of}
use Rattle.rmp_decode.specs.VariantNames.{IsPlace, StartsWithNoName, other_name, unknown_name, RefusesName, TakesName, ReadsPlace}
use Rattle.rmp_decode.specs.Variants.{OfVariant, IsVariant, placed, IsVariantHead, other_variant, not_variant, NamesVariant, NamesNone}
use Rattle.rmp_decode.specs.Variants.{RefusesVariant, RefusesVariantOf}
use Rattle.rmp_decode.specs.declared.deserializer.Deserializer.{Deserializer}
use Rattle.rmp_decode.specs.declared.deserializer.heads.Levels.TheVariants.{Pairs}
use Rattle.rmp_decode.specs.declared.error.Error.{Error}
use Rattle.rmp_decode.specs.declared.error.Error.TheVariants.{LengthMismatch, DepthLimitExceeded, OutOfMemory}
use Rattle.rmp_decode.proofs.ContentErrors.{content_none, content_other, content_differ, same_front, content_error, raw_len, raw_wanted}
use Rattle.rmp_decode.proofs.Contents.{raw_content, content_refused, content_read}
use Rattle.rmp_decode.proofs.Exactness.{start_once, none_told}
use Rattle.rmp_decode.proofs.Opening.{deep_refuses}
use Rattle.rmp_decode.proofs.Names.{name_of_raw, length_bytes}
use Rattle.rmp_decode.proofs.NothingAccepted.{refuses_none, refuses_head, same_head}

-- ---- a head that was taken

-- what is refused of trees that begin with it
pub refuses_slow : (s : Bool) (P Q : Msg → Type 0) (room : ℕ) (known k : Option (List ℕ)) (b : List ℕ) (h : Head) → Consumes known k b → heads_of s h b
    → ((m : Msg) → head_of m ≡ h → Q m → P m) → Refuses (SpellsAs s) P room known → Refuses (SpellsAs s) Q room known
unfolding Refuses
refuses_slow s P Q room None k b h t i f r = tt
refuses_slow s P Q room (Some xs) None b h t i f r = absurd t
refuses_slow s P Q room (Some xs) (Some ys) b h t i f r = λ a.
    r (record {
      bytes = a.bytes;
      rest = a.rest;
      tree = a.tree;
      front = a.front;
      spelled = a.spelled;
      fits = a.fits;
      holds = f a.tree
          (same_head s a.tree h a.bytes b a.rest ys a.spelled i (sym a.front ∙ t)).0 a.holds;
    })

-- a refusal of a message that begins with it
pub lawful_after : {R C V W : Type 0} (g : Ghosts R) (reads : Msg → V → Type 0) (reads' : Msg → W
    → Type 0) (old mid new : Deserializer R C) (e : Error) (h : Head) → TakesHead g h old mid
    → ((m : Msg) → head_of m ≡ h → Readable reads' m → Readable reads m)
    → Lawful g reads old new (Err e) → Lawful g reads' old new (Err e)
lawful_after g reads reads' old mid new e h t f l = record {
  ok = tt;
  ready = tt;
  clean = tt;
  sound = tt;
  err = λ o n k. refuses_slow old.strict (Readable reads) (Readable reads') _ _ (left g mid) t.bytes h t.takes t.is_head f (l.err o n k);
  failed = l.failed;
  before = l.before;
  stays = l.stays;
}

-- leaves are refused in any room
pub refuses_leaves : (s : Bool) (P : Msg → Type 0) (room least : ℕ) (known : Option (List ℕ)) → ((m : Msg) → P m → depth m ≡ 0) → 0 < least
    → Refuses (SpellsAs s) P least known → Refuses (SpellsAs s) P room known
unfolding Refuses
refuses_leaves s P room least None f l r = tt
refuses_leaves s P room least (Some xs) f l r = λ a. r
    (record {
      bytes = a.bytes;
      rest = a.rest;
      tree = a.tree;
      front = a.front;
      spelled = a.spelled;
      fits = let d = f a.tree a.holds
          in omega (arith, d, l);
      holds = a.holds;
    })

-- ---- names

unknown_any : (t : Bool) (n m : ℕ) (s : List ℕ) (e : Error) → unknown_name (raw_head t n) s e → unknown_name (raw_head t m) s e
unknown_any true n m s e h = h
unknown_any false n m s e h = h

pub unknown_piece : (t : Bool) (n : ℕ) (s : List ℕ) (e : Error) → unknown_name (raw_head t (length s)) s e → unknown_name (raw_head t n) s e
unknown_piece t n s e h = unknown_any t (length s) n s e h

short_name : (names : List (List ℕ)) (n : ℕ) (known : Option (List ℕ)) → IsShort n known → StartsWithNoName names n known
short_name names n None h = tt
short_name names n (Some xs) h = λ s r p q l m. let long = ap length q ∙ length-append s r in omega (arith, long, l, h)

pub name_blamed : (names : List (List ℕ)) (n : ℕ) (fault : SourceFault) (before after : ℕ) (known : Option (List ℕ)) (e : Error)
    → Blames fault before after known n → Blamed fault e → Explains e before after (StartsWithNoName names n known)
name_blamed names n Memory before after known e s b = λ m _. absurd (m b)
name_blamed names n (Io cause) before after known e s b = λ _ k. short_name names n known (s.1 k).0

-- the bytes that were taken are no name
pub no_name_taken : (names : List (List ℕ)) (n : ℕ) (bytes : List ℕ) (known k : Option (List ℕ)) → Consumes known k bytes → length bytes ≡ n
    → place_of names bytes ≡ None → StartsWithNoName names n known
no_name_taken names n bytes None k c l h = tt
no_name_taken names n bytes (Some xs) None c l h = absurd c
no_name_taken names n bytes (Some xs) (Some ys) c l h = λ s r p q m t.
    let none : place_of names s ≡ None = subst (λ z. place_of names z ≡ None) (same_front bytes s ys r (l ∙ sym m) (sym c ∙ q)) h in cc

raw_of_head : (t : Bool) (n : ℕ) (m : Msg) → head_of m ≡ raw_head t n → (s : List ℕ) × (m ≡ raw_msg t s)
raw_of_head true n nil e = absurd (cc)
raw_of_head false n nil e = absurd (cc)
raw_of_head true n (truth b) e = absurd (cc)
raw_of_head false n (truth b) e = absurd (cc)
raw_of_head true n (whole z) e = absurd (cc)
raw_of_head false n (whole z) e = absurd (cc)
raw_of_head true n (float32 k) e = absurd (cc)
raw_of_head false n (float32 k) e = absurd (cc)
raw_of_head true n (float64 k) e = absurd (cc)
raw_of_head false n (float64 k) e = absurd (cc)
raw_of_head true n (text s) e = (s, refl)
raw_of_head false n (text s) e = absurd (cc)
raw_of_head true n (bin s) e = absurd (cc)
raw_of_head false n (bin s) e = (s, refl)
raw_of_head true n (list ms) e = absurd (cc)
raw_of_head false n (list ms) e = absurd (cc)
raw_of_head true n (map ps) e = absurd (cc)
raw_of_head false n (map ps) e = absurd (cc)
raw_of_head true n (extension tag s) e = absurd (cc)
raw_of_head false n (extension tag s) e = absurd (cc)

-- a text, or bytes, that are the name of a variant
abbrev Named : Bool → List (List ℕ) → Msg → ℕ → Type 0
Named t names m n = IsPlace names m n × ((s : List ℕ) × (m ≡ raw_msg t s))

not_named : (t : Bool) (names : List (List ℕ)) (n : ℕ) (known : Option (List ℕ)) → StartsWithNoName names n known
    → IfSome known (λ ys. (s r : List ℕ) → ys ≡ s ++ r → length s ≡ n → Readable (Named t names) (raw_msg t s) → ⊥)
not_named t names n None f = tt
not_named t names n (Some xs) f = λ s r q l h.
    let same : Some (place_of names s) ≡ Some (Some h.0) = sym (name_of_raw names t s) ∙ h.1.0 in
    f s r h.0 q l (cc)

pub number_named : (names : List (Bor (List ℕ))) (m : Msg) (n : ℕ) (z : ℤ) → name_of (bytes_of names) m ≡ Some (Some n) → head_of m ≡ Whole z
    → place_below (length (bytes_of names)) z ≡ Some (Some n)
number_named names nil n z e i = absurd (cc)
number_named names (truth b) n z e i = absurd (cc)
number_named names (whole y) n z e i = let same : y ≡ z = cc in subst (λ k. place_below (length (bytes_of names)) k ≡ Some (Some n)) same e
number_named names (float32 k) n z e i = absurd (cc)
number_named names (float64 k) n z e i = absurd (cc)
number_named names (text s) n z e i = absurd (cc)
number_named names (bin s) n z e i = absurd (cc)
number_named names (list ms) n z e i = absurd (cc)
number_named names (map ps) n z e i = absurd (cc)
number_named names (extension tag s) n z e i = absurd (cc)

option_below : (x : Option ℕ) (k : ℕ) → ((n : ℕ) → x ≡ Some n → n < k) → (n : ℕ) → option_map suc x ≡ Some n → n < suc k
option_below None k f n e = absurd (cc)
option_below (Some i) k f n e = let below = f i refl in let same : suc i ≡ n = cc in omega (arith, below, same)

place_of_below : (names : List (List ℕ)) (s : List ℕ) (n : ℕ) → place_of names s ≡ Some n → n < length names
place_of_below [] s n e = absurd (cc)
place_of_below (a ∷ names) s n e = go (bytes_eq a s) (place_of_below names s) e
  where
    go : (b : Bool) → ((i : ℕ) → place_of names s ≡ Some i → i < length names) → cond b (Some 0) (option_map suc (place_of names s)) ≡ Some n
        → n < suc (length names)
    go true f e = let same : 0 ≡ n = cc in omega (arith, same)
    go false f e = option_below (place_of names s) (length names) f n e

number_is_below : (k : ℕ) (z : ℤ) (n : ℕ) → place_below k z ≡ Some (Some n) → n < k
number_is_below k (pos i) n e = elim (cases_lt i k)
    [ inl l ↦ go (nat_lt i k) l e | inr l ↦ absurd (let no : nat_lt i k ≡ false = le-ltb i k l in let u = rw no at e in cc) ]
  where
    go : (b : Bool) → i < k → ◌≡◌ {A = Option (Option ℕ)} (Some (cond b (Some i) None)) (Some (Some n)) → n < k
    go true l e = let same : i ≡ n = cc in omega (arith, l, same)
    go false l e = absurd (cc)
number_is_below k (negsuc i) n e = absurd (cc)

-- a place is below the count of the names
pub place_is_below : (names : List (List ℕ)) (m : Msg) (n : ℕ) → IsPlace names m n → n < length names
place_is_below names nil n e = absurd (cc)
place_is_below names (truth b) n e = absurd (cc)
place_is_below names (whole z) n e = number_is_below (length names) z n e
place_is_below names (float32 k) n e = absurd (cc)
place_is_below names (float64 k) n e = absurd (cc)
place_is_below names (text s) n e = place_of_below names s n (cc)
place_is_below names (bin s) n e = place_of_below names s n (cc)
place_is_below names (list ms) n e = absurd (cc)
place_is_below names (map ps) n e = absurd (cc)
place_is_below names (extension tag s) n e = absurd (cc)

-- the same of borrowed names
pub place_below_names : (names : List (Bor (List ℕ))) (m : Msg) (n : ℕ) → IsPlace (bytes_of names) m n → n < length names
place_below_names names m n e = let l = place_is_below (bytes_of names) m n e in omega (arith, l, length_bytes names)

-- a name is a leaf
pub name_flat : (names : List (List ℕ)) (m : Msg) → Readable (IsPlace names) m → depth m ≡ 0
name_flat names nil r = absurd (let e = r.1 in cc)
name_flat names (truth b) r = absurd (let e = r.1 in cc)
name_flat names (whole z) r = refl
name_flat names (float32 k) r = absurd (let e = r.1 in cc)
name_flat names (float64 k) r = absurd (let e = r.1 in cc)
name_flat names (text s) r = refl
name_flat names (bin s) r = refl
name_flat names (list ms) r = absurd (let e = r.1 in cc)
name_flat names (map ps) r = absurd (let e = r.1 in cc)
name_flat names (extension tag s) r = absurd (let e = r.1 in cc)

-- ---- what happened at a name, each once

module _ {R C : Type 0} (g : Ghosts R) (names : List (List ℕ)) (lends : Bool) (old mid : Deserializer R C) where
  -- no head was there, or a read had failed before
  pub place_none : (e : Error) → ReadsHead g old mid (Err e) → ReadsPlace g names lends old mid (Err e)
  place_none e h = record {
    law = refused_none g (IsPlace names) old mid e h;
    exact = λ o. content_none _ IsRawHead other_name unknown_name _ _ _ e (h.ends o);
    memory = λ _. h.memory;
  }

  module _ (p : Marker × Head) (h : ReadsHead g old mid (Ok p)) where
    -- the head is neither a text's or that of bytes, nor a number that is a place
    pub place_other : (e : Error) → (IsRawHead p.1 → ⊥) → ((m : Msg) → Readable (IsPlace names) m → head_of m ≡ p.1 → ⊥) → e ≡ other_name p.0 p.1
        → e ≢ OutOfMemory → ReadsPlace g names lends old mid (Err e)
    place_other e n f i y = record {
      law = refused_head g (IsPlace names) old mid p e h f;
      exact = λ _. content_other _ IsRawHead other_name unknown_name _ _ _ p.0 p.1 e h.sound h.marked n i;
      memory = λ _. y;
    }

    -- the head is a number that is a place
    pub place_number : (z : ℤ) (n : ℕ) → p.1 ≡ Whole z → IsPlace names (whole z) n → ReadsPlace g names lends old (record mid { failed = false }) (Ok n)
    place_number z n i k = record { law = held_read g (IsPlace names) old mid p h _ n (whole_alone (IsPlace names) p.1 z n i k) refl; exact = λ _. tt; memory = λ _. tt }

    module _ (t : Bool) (n : ℕ) (i : p.1 ≡ raw_head t n) (last : R) (stays : g.place last ≡ g.place mid.reader) where
      stay : (d : Deserializer R C) → d ≡ record mid { reader = last; failed = d.failed } → Stays g mid d
      stay d e = rw e (record { config = refl; room = refl; limit = refl; strict = refl; place = stays })

      -- the text or the bytes are a name
      pub place_read : (place : ℕ) → TakesName names n (g.ahead mid.reader) (g.ahead last) place → g.faults last ≡ g.faults mid.reader
          → ReadsPlace g names lends old (record mid { reader = last; failed = false }) (Ok place)
      place_read place o s = record {
        law = content_read (raw_content t) g (IsPlace names) old mid _ p h o.bytes n place i o.long o.are_bytes o.taken refl refl s (stay _ refl)
            (name_of_raw names t o.bytes ∙ ap (λ (z : Option ℕ). Some z) o.place);
        exact = λ _. tt;
        memory = λ _. tt;
      }

      -- they aren't, or couldn't be had
      pub place_refused : (e : Error) → Explains e (g.faults mid.reader) (g.faults last) (StartsWithNoName names n (g.ahead mid.reader))
          → Explains e (g.faults mid.reader) (g.faults last) (RefusesPiece n (unknown_name (raw_head t n)) (g.ahead mid.reader) e)
          → TellsFault (g.faults mid.reader) (g.faults last) e → (lends ≡ true → e ≢ OutOfMemory)
          → ReadsPlace g names lends old (record mid { reader = last }) (Err e)
      place_refused e x k f y = record {
        law = lawful_after g (Named t names) (IsPlace names) old mid _ e p.1 h.ok (λ m j r. (r.0, (r.1, raw_of_head t n m (j ∙ i))))
            (content_refused (raw_content t) g (Named t names) old mid _ p h n e i (λ m r. r.1.1) (λ o q. not_named t names n (g.ahead mid.reader) (x o q))
            h.failed (stay _ refl));
        exact = λ _. content_error g IsRawHead other_name unknown_name old mid (g.faults last) p (raw_head t n) n e h i (raw_len t n) (raw_wanted t n) k f;
        memory = y;
      }

-- ---- a name that is a part

-- a name is read in any room
module _ {R C : Type 0} (g : Ghosts R) (names : List (List ℕ)) (lends : Bool) (inner : ℕ) (old new : Deserializer R C) where
  pub place_taken : (n : ℕ) → ReadsPlace g names lends (record old { failed = false }) new (Ok n)
      → TakesPart g (IsPlace names) (max 1 inner) old (record new { failed = true }) n
  place_taken n k =
      let l = k.law in
      let r = l.ok in
      record {
        bytes = r.bytes;
        tree = r.tree;
        takes = r.takes;
        goes_on = r.goes_on;
        spelled = r.spelled;
        fits = let flat = name_flat names r.tree (n, r.value) in omega (arith, flat);
        value = r.value;
        stays = record { config = l.stays.config; room = l.stays.room; limit = l.stays.limit; strict = l.stays.strict; place = l.stays.place };
        faults_same = l.sound;
        clean = l.clean;
        marked = refl;
      }

  pub place_missed : (human : Bool) (e : Error) → ReadsPlace g names lends (record old { failed = false }) new (Err e)
      → RefusesPart g human lends (IsPlace names) (λ s. RefusesName s.strict) (lends ≡ true) (max 1 inner) old new e
  place_missed human e k =
      let l = k.law in
      record {
        fails = record {
          stays = record { config = l.stays.config; room = l.stays.room; limit = l.stays.limit; strict = l.stays.strict; place = l.stays.place };
          failed = l.failed;
          err = λ n q. refuses_leaves old.strict (Readable (IsPlace names)) (max 1 inner) (room_of old) (left g old) (name_flat names) (omega arith) (l.err refl n q);
        };
        named = k.exact refl;
        memory = k.memory;
      }

-- ---- variants

placed_some : (c : Option Msg) (x : Option (Option ℕ)) → MatchOption (placed c x) ⊥ (λ p. Unit {0}) → (n : ℕ) × (x ≡ Some (Some n))
placed_some c None h = absurd h
placed_some c (Some None) h = absurd h
placed_some c (Some (Some n)) h = (n, refl)

-- a variant that is no map is a name
name_alone : (names : List (List ℕ)) (m : Msg) → ((n : ℕ) → head_of m ≡ Map n → ⊥) → IsVariant names m → Readable (IsPlace names) m
unfolding OfVariant
name_alone names nil f h = absurd h
name_alone names (truth b) f h = absurd h
name_alone names (whole z) f h = placed_some None (name_of names (whole z)) h
name_alone names (float32 k) f h = absurd h
name_alone names (float64 k) f h = absurd h
name_alone names (text s) f h = placed_some None (name_of names (text s)) h
name_alone names (bin s) f h = placed_some None (name_of names (bin s)) h
name_alone names (list ms) f h = absurd h
name_alone names (map ps) f h = absurd (f _ refl)
name_alone names (extension tag s) f h = absurd h

-- one that is a map has one pair
one_pair : (names : List (List ℕ)) (m : Msg) (n : ℕ) → IsVariant names m → head_of m ≡ Map n → n ≡ 1
unfolding OfVariant
one_pair names nil n h e = absurd h
one_pair names (truth b) n h e = absurd h
one_pair names (whole z) n h e = absurd (cc)
one_pair names (float32 k) n h e = absurd h
one_pair names (float64 k) n h e = absurd h
one_pair names (text s) n h e = absurd (cc)
one_pair names (bin s) n h e = absurd (cc)
one_pair names (list ms) n h e = absurd h
one_pair names (map no_pairs) n h e = absurd h
one_pair names (map (pair a b no_pairs)) n h e = let same : 1 ≡ n = cc in sym same
one_pair names (map (pair a b (pair c d ps))) n h e = absurd h
one_pair names (extension tag s) n h e = absurd h

-- a map is no name
map_no_name : (names : List (List ℕ)) (m : Msg) (n : ℕ) → head_of m ≡ Map n → Readable (IsPlace names) m → ⊥
map_no_name names nil n e h = cc
map_no_name names (truth b) n e h = cc
map_no_name names (whole z) n e h = cc
map_no_name names (float32 k) n e h = cc
map_no_name names (float64 k) n e h = cc
map_no_name names (text s) n e h = cc
map_no_name names (bin s) n e h = cc
map_no_name names (list ms) n e h = cc
map_no_name names (map ps) n e h = let k = h.1 in cc
map_no_name names (extension tag s) n e h = cc

-- ---- which error

-- what isn't the head of a map is a variant's as it is a name's
record AsName (room : ℕ) (k : Head) : Type 0 where
  pub raw : IsVariantHead k → IsRawHead k
  pub wanted : IsRawHead k → IsVariantHead k
  pub other : (m : Marker) → other_name m k ≡ other_variant m k
  pub whole : (s : List ℕ) (e : Error) → unknown_name k s e → not_variant room k s e

as_name : (room : ℕ) (k : Head) → ((n : ℕ) → k ≡ Map n → ⊥) → AsName room k
as_name room head.Nil f = record { raw = λ w. w; wanted = λ w. w; other = λ m. refl; whole = λ s e h. h }
as_name room (head.Truth b) f = record { raw = λ w. w; wanted = λ w. w; other = λ m. refl; whole = λ s e h. h }
as_name room (head.Whole z) f = record { raw = λ w. w; wanted = λ w. w; other = λ m. refl; whole = λ s e h. h }
as_name room (head.F32Bits n) f = record { raw = λ w. w; wanted = λ w. w; other = λ m. refl; whole = λ s e h. h }
as_name room (head.F64Bits n) f = record { raw = λ w. w; wanted = λ w. w; other = λ m. refl; whole = λ s e h. h }
as_name room (head.Text n) f = record { raw = λ w. w; wanted = λ w. w; other = λ m. refl; whole = λ s e h. h }
as_name room (head.Bin n) f = record { raw = λ w. w; wanted = λ w. w; other = λ m. refl; whole = λ s e h. h }
as_name room (head.Array n) f = record { raw = λ w. w; wanted = λ w. w; other = λ m. refl; whole = λ s e h. h }
as_name room (head.Map n) f = absurd (f n refl)
as_name room (head.Ext n tag) f = record { raw = λ w. w; wanted = λ w. w; other = λ m. refl; whole = λ s e h. h }

alone_refused : (strict : Bool) (room before after : ℕ) (known : Option (List ℕ)) (m : Marker) (h : Head) (e : Error) → IfSome known (BeginsWith strict m h)
    → ((n : ℕ) → h ≡ Map n → ⊥) → RefusesName strict before after known e
    → RefusesContent strict IsVariantHead other_variant (not_variant room) before after known e
unfolding RefusesContent
alone_refused strict room before after None m h e s f r = (λ _. tt, r.1)
alone_refused strict room before after (Some xs) m h e s f r =
    let at : (k : Head) (j : Marker) → BeginsWith strict j k xs
    → AsName room k = λ k j t. as_name room k (λ n i. f n (sym (start_once strict j m k h xs t s).1 ∙ i)) in (
      λ q. let x = r.0 q in record {
        others = λ j k t w. x.others j k t (λ i. w ((at k j t).wanted i)) ∙ (at k j t).other j;
        cut = λ k w t n. x.cut k ((at k t.marker t.starts).raw w) t n;
        whole = λ k c w t n. (at k t.marker t.starts).whole c e (x.whole k c ((at k t.marker t.starts).raw w) t n);
        ends = x.ends;
      },
      r.1,
    )

-- ---- no variant can be opened

-- what selects no name is refused so, whatever the names are
any_name : (names : List (List ℕ)) (s : Setting) (before after : ℕ) (known : Option (List ℕ)) (e : Error) → RefusesVariantOf names s before after known e
    → RefusesVariant s before after known e
any_name names s before after known e r = elim r [
  | inl p ↦ inl p.0
  | inr m ↦ inr (record {
    inner = m.inner;
    many = m.many;
    bytes = m.bytes;
    rest = m.rest;
    takes = m.takes;
    is_head = m.is_head;
    room_of = m.room_of;
    refused = (m.refused.0, m.refused.1);
  })
]

module _ {R C : Type 0} (g : Ghosts R) (names : List (Bor (List ℕ))) (lends : Bool) (old new : Deserializer R C) (e : Error) where
  pub none_opened : new.failed ≡ true → Stays g old new → (old.failed ≡ true → IsFailedBefore e × (new ≡ old))
      → (old.failed ≡ false → Explains e (faults_of g old) (faults_of g new) (Refuses (SpellsAs old.strict) (IsVariant (bytes_of names)) (room_of old) (left g old)))
      → (old.failed ≡ false → (human lends : Bool)
      → RefusesVariantOf (bytes_of names) (setting_of human lends old) (faults_of g old) (faults_of g new) (left g old) e)
      → (lends ≡ true → e ≢ OutOfMemory) → NamesNone g names lends old new e
  none_opened f s b r n m = record {
    fails = record { failed = f; stays = s; before = b; err = r; exact = λ o human lent. any_name _ _ _ _ _ _ (n o human lent); named = n };
    memory = m;
  }

  -- no message is there
  no_variant_begins : ReadsHead g old new (Err e) → NamesNone g names lends old new e
  no_variant_begins h = none_opened h.failed h.stays h.before (λ o n k. refuses_none _ _ _ _ (h.err o n k))
      (λ o human lent. inl (
        content_none old.strict IsVariantHead other_variant (not_variant (room_of old)) _ _ _ e (h.ends o),
        λ n k. refuses_none _ _ _ _ (h.err o n k),
      ))
      (λ _. h.memory)

  module _ (p : Marker × Head) (h : ReadsHead g old new (Ok p)) where
    fresh : {A : Type 0} → old.failed ≡ true → A
    fresh b = absurd (let o = h.fresh in cc)

    no_name : (n : ℕ) → p.1 ≡ Map n → Explains e (faults_of g old) (faults_of g new)
        (Refuses (SpellsAs old.strict) (Readable (IsPlace (bytes_of names))) (room_of old) (left g old))
    no_name n i = λ _ _. refuses_head _ (Readable (IsPlace (bytes_of names))) (room_of old) (left g old) (left g new) h.ok.bytes p.1 h.ok.takes h.ok.is_head
        (λ m v j. map_no_name (bytes_of names) m n (j ∙ i) v)

    -- a map of another count of pairs is
    pub other_count : (n : ℕ) → p.1 ≡ Map n → (n ≡ 1 → ⊥) → e ≡ LengthMismatch n → NamesNone g names lends old new e
    other_count n i f q = none_opened h.failed h.stays fresh
        (λ _ _ _. refuses_head _ (IsVariant (bytes_of names)) (room_of old) (left g old) (left g new) h.ok.bytes p.1 h.ok.takes h.ok.is_head
        (λ m v j. f (one_pair (bytes_of names) m n v (j ∙ i))))
        (λ _ human lent. inl (
          content_other old.strict IsVariantHead other_variant (not_variant (room_of old)) _ _ _ p.0 p.1 e h.sound h.marked
              (λ w. f (subst IsVariantHead i w)) (q ∙ ap (other_variant p.0) (sym i)),
          no_name n i,
        ))
        (λ _ y. absurd (cc))

    -- a map of one pair would nest too deep
    variant_too_deep : p.1 ≡ Map 1 → room_of old ≤ 1 → e ≡ DepthLimitExceeded → NamesNone g names lends old new e
    variant_too_deep i l q = none_opened h.failed h.stays fresh (λ _ _ _. deep_refuses g Pairs old new p h i l (IsVariant (bytes_of names)))
        (λ _ human lent. inl (
          content_differ old.strict IsVariantHead other_variant (not_variant (room_of old)) _ _ _ p.0 p.1 (Map 1) e h.marked i refl
              refl (λ s. (omega (arith, l), q)) (none_told _ _ _ h.sound),
          no_name 1 i,
        ))
        (λ _ y. absurd (cc))

  pub variant_fails : FailsAtHead g Pairs old new e → NamesNone g names lends old new e
  variant_fails f = elim f [ inl h ↦ no_variant_begins h | inr d ↦ variant_too_deep d.next d.begun d.level (omega (arith, d.deep)) d.limit ]

  -- what is there alone is no name
  pub no_name_alone : (mid : Deserializer R C) (p : Marker × Head) → ReadsHead g old mid (Ok p) → ((n : ℕ) → p.1 ≡ Map n → ⊥)
      → ReadsPlace g (bytes_of names) lends old new (Err e) → NamesNone g names lends old new e
  no_name_alone mid p h f k =
      let l = k.law in
      none_opened l.failed l.stays (λ b. absurd (let o = h.fresh in cc))
      (λ o n q. refuses_slow old.strict (Readable (IsPlace (bytes_of names))) (IsVariant (bytes_of names)) _ _ (left g mid) h.ok.bytes p.1 h.ok.takes h.ok.is_head
      (λ m i v. name_alone (bytes_of names) m (λ k j. f k (sym i ∙ j)) v) (l.err o n q))
      (λ o human lent. inl (
        alone_refused old.strict (room_of old) (faults_of g old) (faults_of g new) (left g old) p.0 p.1 e h.marked f (k.exact o),
        l.err o,
      ))
      k.memory

-- a name alone was read
pub name_alone_read : {R C : Type 0} (g : Ghosts R) (names : List (Bor (List ℕ))) (lends : Bool) (old new : Deserializer R C) (n inner : ℕ) → old.failed ≡ false
    → ReadsPlace g (bytes_of names) lends old new (Ok n) → NamesVariant g names true old (record new { failed = true }) inner n
name_alone_read g names lends old new n inner o k =
    let l = k.law in
    let r = l.ok in
    record {
      fresh = o;
      name = record { bytes = r.bytes; tree = r.tree; takes = r.takes; goes_on = r.goes_on; spelled = r.spelled; fits = r.fits; value = r.value };
      stays = record { config = l.stays.config; room = l.stays.room; limit = l.stays.limit; strict = l.stays.strict; place = l.stays.place };
      faults_same = l.sound;
      marked = refl;
      clean = l.clean;
      below = place_below_names names r.tree n r.value;
    }

-- the same where it was buffered
pub name_alone_taken : {R C : Type 0} (g : Ghosts R) (names : List (Bor (List ℕ))) (old new : Deserializer R C) (n inner : ℕ) → old.failed ≡ false
    → TakesPart g (IsPlace (bytes_of names)) 1 (failed_of old) new n → NamesVariant g names true old new inner n
name_alone_taken g names old new n inner o t = record {
  fresh = o;
  name = record
      { bytes = t.bytes; tree = t.tree; takes = t.takes; goes_on = t.goes_on; spelled = t.spelled; fits = omega (arith, t.fits); value = t.value };
  stays = record { config = t.stays.config; room = t.stays.room; limit = t.stays.limit; strict = t.stays.strict; place = t.stays.place };
  faults_same = t.faults_same;
  marked = t.marked;
  clean = t.clean;
  below = place_below_names names t.tree n t.value;
}
