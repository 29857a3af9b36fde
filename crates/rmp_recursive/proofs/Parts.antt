-- What the readings of recursive types share: the next part, by a function; lists of parts; and that the room falls.
use Rattle.std.proofs.Common.{◌≡◌, ◌∙◌, refl, sym, ap, subst, arith, ℕ, zero, suc, ◌+◌, ◌<◌, ◌≤◌, ◌⊎◌, inl, inr, true, false, Bool, nat_lt}
use Rattle.std.proofs.Common.{max, pos, ◌*◌, cond, nat_eq, List, [], ◌∷◌, Option, None, Some, Result, Ok, Err, MatchResult, MutBor, Vec, Global}
use Rattle.std.specs.Fn.{FnOnceReturnsAtMut}
use Rattle.std.specs.Prelude.{if◌then◌else◌, ◌≢◌}
use Rattle.std.specs.Result.{OnOk}
use Rattle.rmp_wire.specs.declared.source.Source.{Ghosts}
use Rattle.rmp_wire.specs.Msg.{Msg, Msgs, no_items, item}
use Rattle.rmp_wire.specs.declared.head.Head.TheVariants.{Whole}
use Rattle.rmp_wire.specs.Canonical.{heads_of}
use Rattle.rmp_wire.specs.Heads.{canon_head, IsHead}
use Rattle.rmp_wire.proofs.Strict.{any_width}
use Rattle.rmp_decode.specs.Law.{Lawful, Readable, GoesOn}
use Rattle.rmp_decode.specs.State.{kept_bytes, room_of}
use Rattle.rmp_decode.specs.Options.{IsNil, IsOption, OptionRead, ReadsNone, SeesOther, ValueGiven}
use Rattle.rmp_decode.specs.Rows.{ReadsEach}
use Rattle.rmp_decode.specs.Seq.{OfRow, levels, IsOpen, Opens, FailsToOpen, TakesElement, FailsToTake, Run, seq_head}
use Rattle.rmp_decode.specs.Variants.{OfVariant, IsAt, OpensVariant, TakesNameOf}
use Rattle.rmp_decode.specs.With.{Reading, Lends, OffersPart, PartRead, PartMissing, SameList}
use Rattle.rmp_decode.specs.declared.access.variant.Variant.{Variant}
use Rattle.rmp_decode.specs.declared.deserializer.Deserializer.{Deserializer}
use Rattle.rmp_decode.specs.declared.access.seq.SeqAccess.{SeqAccess}
use Rattle.rmp_decode.specs.declared.deserializer.Kept.{Kept}
use Rattle.rmp_decode.specs.declared.deserializer.Kept.TheVariants.{Number}
use Rattle.rmp_decode.specs.declared.error.Error.{Error}
use Rattle.rmp_decode.specs.declared.error.Error.TheVariants.{OutOfMemory, Uncategorized}
use Rattle.rmp_decode.specs.declared.text.Text.TheVariants.{FailedBefore}
use Rattle.rmp_decode.proofs.Laws.{lawful_ok, stays_refl}
use Rattle.rmp_decode.proofs.Options.{option_missing, option_some, option_refused}
use Rattle.rmp_decode.proofs.Rows.{append}
use Rattle.rmp_decode.proofs.Seqs.{Values, each_next, seq_unopened, seq_element, seq_take, seq_done, seq_unkept}
use Rattle.rmp_decode.proofs.Variants.{variant_ok}
use Rattle.rmp_decode.proofs.ElementWiths.{with_taken, with_refused}
use Rattle.rmp_recursive.specs.Parts.{Row}

-- the content of a variant was read, and so the type
pub variant_done : {R C V W : Type 0} (g : Ghosts R) (names : List (List ℕ)) (cases : W → ℕ × Option Msg → Type 0) (reads : Msg → W
    → Type 0) (old new last : Deserializer R C) (P : V → Option Msg → Type 0) (n : ℕ) (v : V) (w : W)
    → ((m : Msg) → OfVariant names (cases w) m → reads m w) → ((c : Option Msg) → P v c → cases w (n, c))
    → Lawful g (λ m y. OfVariant names (IsAt n (P y)) m) old new (Ok v) → last ≡ new → Lawful g reads old last (Ok w)
variant_done g names cases reads old new last P n v w made f l same =
    lawful_ok g (λ m y. OfVariant names (cases y) m) reads old last w w made (variant_ok g names cases old new last same P n v w f l)

-- ---- the next element, by a function

pub lent_law : {F R C V : Type 0} (g : Ghosts R) (once : Reading F R C V) (f : F) (reads : Msg → V → Type 0)
    → ((p q : MutBor (Deserializer R C)) (r : Result V Error) → once.post f (p, tt) (r, (q, tt)) → Lawful g reads p.now q.now r)
    → (d rest : Deserializer R C) (gave : Result V Error) → FnOnceReturnsAtMut once f d gave rest → Lawful g reads d rest gave
lent_law g once f reads law d rest gave c =
    let l = law c.shown c.left gave c.met in
    let from = subst (λ (z : Deserializer _ _). Lawful g reads z c.left.now gave) c.shows l in
    subst (λ (z : Deserializer _ _). Lawful g reads d z gave) c.leaves from

some_left : (n : ℕ) → (n ≡ 0 → ⊥) → 0 < n
some_left zero f = absurd (f refl)
some_left (suc n) f = omega arith

pub none_left : (n : ℕ) → (0 < n → ⊥) → n ≡ 0
none_left zero f = refl
none_left (suc n) f = absurd (f (omega arith))

not_none : {X : Type 0} (x : X) → ◌≡◌ {A = Result (Option X) Error} (Ok (Some x)) (Ok None) → ⊥
not_none x e = cc

err_not_none : {X : Type 0} (e : Error) → ◌≡◌ {A = Result (Option X) Error} (Err e) (Ok None) → ⊥
err_not_none e q = cc

pub some_if : {X P : Type 0} (n : ℕ) (x : X) (o : Option X) → o ≡ Some x → (n ≡ 0 → (◌≡◌ {A = Result (Option X) Error} (Ok o) (Ok None)) × P) → 0 < n
some_if n x o e f = some_left n (λ z. not_none x (subst (λ t. ◌≡◌ {A = Result (Option _) Error} (Ok t) (Ok None)) e (f z).0))

pub some_if_err : {X P : Type 0} (n : ℕ) (e : Error) → (n ≡ 0 → (◌≡◌ {A = Result (Option X) Error} (Err e) (Ok None)) × P) → 0 < n
some_if_err n e f = some_left n (λ z. err_not_none e (f z).0)

no_part : {X : Type 0} (given : Result X Error) → MatchResult given (λ x. ◌≡◌ {A = Result (Option X) Error} (Ok None) (Ok (Some x)))
    (λ e. ◌≡◌ {A = Result (Option X) Error} (Ok None) (Err e)) → ⊥
no_part (Ok x) m = cc
no_part (Err e) m = cc

pub never_none : {F R C X : Type 0} (g : Ghosts R) {once : Reading F R C X} {f : F} (old new : SeqAccess R C)
    → PartRead g once f old new (Ok None) ⊎ PartMissing {X = X} g old new (Ok None) → ⊥
never_none g old new (inl p) = no_part p.given p.answers
never_none g old new (inr m) = let w = m.answers in cc

module _ {F R C V : Type 0} (g : Ghosts R) (reads : Msg → V
    → Type 0) {once : Reading F R C V} {f : F} (old new : SeqAccess R C) (o : IsOpen old) (same : SameList old new)
    (law : (p q : MutBor (Deserializer R C)) (r : Result V Error) → once.post f (p, tt) (r, (q, tt)) → Lawful g reads p.now q.now r) where
  pub item_taken : (v : V) → PartRead g once f old new (Ok (Some v)) ⊎ PartMissing {X = V} g old new (Ok (Some v)) → new.sound ≡ true
      → TakesElement g reads old new v
  item_taken v p s = with_taken g once f reads old new o same (λ d rest gave l c. lent_law g once f reads law d rest gave c) v p s

  pub item_refused : (e : Error) → 0 < old.left → PartRead g once f old new (Err e) ⊎ PartMissing {X = V} g old new (Err e) → FailsToTake g reads old new e
  item_refused e some p = with_refused g once f reads old new o same (λ d rest gave l c. lent_law g once f reads law d rest gave c) e some p

-- ---- an option, whose value is read by a function

module _ {F R C V : Type 0} (g : Ghosts R) (reads : Msg → V → Type 0) (old new : Deserializer R C) (once : Reading F R C V) (f : F)
    (law : (p q : MutBor (Deserializer R C)) (r : Result V Error) → once.post f (p, tt) (r, (q, tt)) → Lawful g reads p.now q.now r) where
  none_law : (r : Result (Option V) Error) → ReadsNone g old new r → Lawful g (IsOption reads) old new r
  none_law (Ok None) h = lawful_ok g IsNil (IsOption reads) old new tt None (λ m e. e) h
  none_law (Ok (Some x)) h = absurd h
  none_law (Err e) h = option_missing g reads old new e h

  given_law : (r : Result (Option V) Error) → ValueGiven g once f old new r → Lawful g (IsOption reads) old new r
  given_law r v = go v.gave v.answers v.keeps (lent_law g once f reads law v.lent v.rest v.gave v.called)
    where
      go : (gave : Result V Error) → MatchResult gave (λ x. r ≡ (if v.rest.failed then Err (Uncategorized FailedBefore) else Ok (Some x))) (λ e. r ≡ Err e)
          → MatchResult gave (λ _. new ≡ v.rest) (λ _. new ≡ record v.rest { failed = true }) → Lawful g reads v.lent v.rest gave → Lawful g (IsOption reads) old new r
      go (Ok x) is same l =
          let made : r ≡ Ok (Some x) = is ∙ ap (λ t. if t then Err (Uncategorized FailedBefore) else Ok (Some x)) l.ready in
          rw (made, same) (option_some g reads old v.lent v.rest v.fresh v.sees x l)
      go (Err e) is same l =
          let failed : new ≡ v.rest = same ∙ ap (λ t. record v.rest { failed = t }) (sym l.failed) in
          rw (is, failed) (option_refused g reads old v.lent v.rest v.fresh v.sees e l)

  pub option_law : (r : Result (Option V) Error) → OptionRead g once f old new r → Lawful g (IsOption reads) old new r
  option_law r (inl h) = none_law r h
  option_law r (inr v) = given_law r v

-- ---- a list of such elements

module _ {R C V : Type 0} (g : Ghosts R) (reads : Msg → V → Type 0) (old : Deserializer R C) where
  pub row_unopened : (last : Deserializer R C) (e : Error) → FailsToOpen g old last e → Lawful g (Row reads) old last (Err e)
  row_unopened last e f = seq_unopened g (λ vs ms. ReadsEach reads ms vs) old last e f

  module _ (start mid : SeqAccess R C) (vs : List V) (o : Opens g old start) (r : Values g reads start mid vs) (last : Deserializer R C) where
    pub row_refused : (now : SeqAccess R C) (e : Error) → FailsToTake g reads mid now e → now.de.now.failed ≡ true → last ≡ now.de.now
        → Lawful g (Row reads) old last (Err e)
    row_refused now e f d q = seq_take g (λ us ms. ReadsEach reads ms us) old start mid r.trees o r.run last reads now e f d q
        (λ m ks us h. each_next reads r.trees m ks us h)

    pub row_unkept : last ≡ mid.de.now → Lawful g (Row reads) old last (Err OutOfMemory)
    row_unkept q = seq_unkept g (λ us ms. ReadsEach reads ms us) old start mid r.trees o r.run last q

    pub row_done : mid.left ≡ 0 → last ≡ record mid.de.now { failed = false } → Lawful g (Row reads) old last (Ok vs)
    row_done z q = seq_done g (λ us ms. ReadsEach reads ms us) old start mid r.trees o r.run last vs r.values z q

-- ---- values of several types

pub lawful_at : {R C V : Type 0} (g : Ghosts R) (reads : Msg → V → Type 0) (old last now : Deserializer R C) (r : Result V Error) → last ≡ now
    → Lawful g reads old now r → Lawful g reads old last r
lawful_at g reads old last now r same l = subst (λ z. Lawful g reads old z r) (sym same) l

-- the list is over before a value that is wanted
pub row_short : {R C V A : Type 0} (g : Ghosts R) (Q : V → Msgs → Type 0) (old : Deserializer R C) (start mid : SeqAccess R C) (ms : Msgs)
    (o : Opens g old start) (r : Run g start mid ms) (last : Deserializer R C) (reads : Msg → A → Type 0) (e : Error) → mid.left ≡ 0 → last ≡ mid.de.now
    → ((m : Msg) (ks : Msgs) (v : V) → Q v (append ms (item m ks)) → Readable reads m) → ((v : V) → Q v (append ms no_items) → ⊥)
    → Lawful g (λ m v. OfRow (Q v) m) old last (Err e)
row_short g Q old start mid ms o r last reads e z q proj some = seq_element g Q old start mid ms o r last reads mid e
    (record { stays = stays_refl g mid.de.now; err = inl z }) r.still.marked q proj some

-- a list, as a vector
pub vec_row : {V : Type 0} (reads : Msg → V → Type 0) (m : Msg) → Readable (λ k (v : Vec V Global). Row reads k v.items) m → Readable (Row reads) m
vec_row reads m (v, h) = (v.items, h)

pub vec_done : {R C V : Type 0} (g : Ghosts R) (reads : Msg → V → Type 0) (old : Deserializer R C) (start mid : SeqAccess R C) (v : Vec V Global)
    → Opens g old start → Values g reads start mid v.items → (last : Deserializer R C) → mid.left ≡ 0 → last ≡ record mid.de.now { failed = false }
    → Lawful g (λ k (w : Vec V Global). Row reads k w.items) old last (Ok v)
vec_done {R} {C} {V} g reads old start mid v o r last z q =
    lawful_ok g (Row reads) (λ k (w : Vec V Global). Row reads k w.items) old last v.items v (λ m h. h)
    (row_done g reads old start mid v.items o r last z q)

-- ---- the room falls

-- whether a list may begin with these bytes: not with a number below 256
abbrev pub opens : List ℕ → ℕ
opens [] = 1
opens (b ∷ bs) = cond (nat_lt b 128) 0 (cond (nat_eq b 0xcc) 0 1)

one_at_most : (p q : Bool) → cond p 0 (cond q 0 1) ≤ 1
one_at_most true q = omega arith
one_at_most false true = omega arith
one_at_most false false = omega arith

opens_at_most : (bs : List ℕ) → opens bs ≤ 1
opens_at_most [] = omega arith
opens_at_most (b ∷ bs) = one_at_most (nat_lt b 128) (nat_eq b 0xcc)

-- bytes that go on begin as they did
opens_less : (kept bytes : List ℕ) → GoesOn kept bytes → opens bytes ≤ opens kept
opens_less [] bytes o = opens_at_most bytes
opens_less (b ∷ bs) bytes o = rw o.whole (omega arith)

number_opens : (n : ℕ) → n < 256 → opens (canon_head (Whole (pos n))) ≡ 0
unfolding canon_head
number_opens n l = grind (arith, l)

list_byte : (b : ℕ) (bs : List ℕ) → 128 ≤ b → b ≢ 0xcc → opens (b ∷ bs) ≡ 1
list_byte b bs l d = grind (arith, l, d)

list_head : (b : Bool) (n : ℕ) (bytes : List ℕ) → IsHead (seq_head b n) bytes → opens bytes ≡ 1
unfolding IsHead
list_head true n bytes (inl h) = rw h.1 (list_byte 0xc4 [] (omega arith) (λ e. omega (arith, e)))
list_head true n bytes (inr (inl h)) = rw h.1 (list_byte 0xc5 [] (omega arith) (λ e. omega (arith, e)))
list_head true n bytes (inr (inr h)) = rw h.1 (list_byte 0xc6 [] (omega arith) (λ e. omega (arith, e)))
list_head false n bytes (inl h) = rw h.1 (list_byte (0x90 + n) [] (omega arith) (λ e. omega (arith, h.0, e)))
list_head false n bytes (inr (inl h)) = rw h.1 (list_byte 0xdc [] (omega arith) (λ e. omega (arith, e)))
list_head false n bytes (inr (inr h)) = rw h.1 (list_byte 0xdd [] (omega arith) (λ e. omega (arith, e)))

abbrev pub fresh : Kept → ℕ
fresh k = opens (kept_bytes k)

opens_fresh : (strict b : Bool) (n : ℕ) (kept : Kept) (bytes : List ℕ) → GoesOn (kept_bytes kept) bytes → heads_of strict (seq_head b n) bytes → fresh kept ≡ 1
opens_fresh strict b n kept bytes o h =
    let e = list_head b n bytes (any_width strict (seq_head b n) bytes h) in
    let l = opens_less (kept_bytes kept) bytes o in
    omega (arith, e, l, opens_at_most (kept_bytes kept))

-- twice the room, and one where a list may be opened
abbrev pub steps_at : {R C : Type 0} → Deserializer R C → ℕ
steps_at d = 2 * max 1 d.room + fresh d.kept

pub at_most : (k : Kept) → fresh k ≤ 1
at_most k = opens_at_most (kept_bytes k)

-- a look at the first byte leaves the steps
pub other_steps : {R C : Type 0} (g : Ghosts R) (old new : Deserializer R C) → SeesOther g old new → steps_at new ≤ steps_at old
other_steps g old new s = omega (arith, s.stays.room, ap (max 1) s.stays.room, opens_less (kept_bytes old.kept) (kept_bytes new.kept) s.goes_on)

module _ {R C : Type 0} (g : Ghosts R) (old : Deserializer R C) (start mid : SeqAccess R C) (o : Opens g old start) (same : SameList start mid)
    (d : Deserializer R C) (l : Lends g mid d) where
  room_falls : max 1 old.room ≡ max 1 d.room + levels mid.bytes
  room_falls = rw l.lent (rw (same.inner, same.bytes) o.room)

  lent_room : max 1 d.room ≤ max 1 old.room
  lent_room = omega (arith, room_falls)

  pub lent_steps : steps_at d < steps_at old
  lent_steps = go mid.bytes refl l.offers
    where
      was : fresh old.kept ≡ 1
      was = opens_fresh old.strict start.bytes start.left old.kept o.head.bytes o.head.goes_on o.head.is_head

      now_number : (b : ℕ) → b < 256 → l.from.kept ≡ Number b → fresh d.kept ≡ 0
      now_number b h e = ap (λ (z : Deserializer R C). fresh z.kept) l.lent ∙ ap fresh e ∙ number_opens b h

      go : (b : Bool) → mid.bytes ≡ b → OffersPart g b mid.de.now l.from → steps_at d < steps_at old
      go true e f = omega (arith, room_falls, ap levels e, was, now_number f.keeps.byte f.keeps.small f.keeps.kept)
      go false e f = omega (arith, room_falls, ap levels e, was, at_most d.kept)

module _ {R C : Type 0} (g : Ghosts R) (old : Deserializer R C) (start mid : SeqAccess R C) (ms : Msgs) (o : Opens g old start) (r : Run g start mid ms)
    (d : Deserializer R C) (l : Lends g mid d) where
  same_list : SameList start mid
  same_list = record { count = r.count_same; inner = r.inner; bytes = r.bytes_same }

  pub part_room : max 1 d.room ≤ max 1 old.room
  part_room = lent_room g old start mid o same_list d l

  pub part_steps : steps_at d < steps_at old
  part_steps = lent_steps g old start mid o same_list d l

-- the content of a variant nests below it
pub content_room_falls : {R C : Type 0} (g : Ghosts R) (names : List (List ℕ)) (n : ℕ) (old : Deserializer R C) (v : Variant R C)
    → OpensVariant g names n old v → v.bare ≡ false → room_of old ≡ max 1 v.inner + 1
content_room_falls g names n old v o b = (subst (λ z. TakesNameOf g names n z old v.de.now v.inner) b o.name).room

-- ---- what is known of a value that was written

pub on_ok : {A E : Type 0} (r : Result A E) (P Q : Type 0) → (P → Q) → OnOk r P → OnOk r Q
on_ok (Ok x) P Q f h = f h
on_ok (Err e) P Q f h = tt

pub ok_holds : {A E : Type 0} (r : Result A E) (Q : Type 0) → Q → OnOk r Q
ok_holds (Ok x) Q q = q
ok_holds (Err e) Q q = tt
