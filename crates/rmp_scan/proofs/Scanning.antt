-- The answers of a scanner, by the bytes that it has and the piece together.
use Rattle.std.proofs.Common.{◌≡◌, ◌∙◌, sym, ap, subst, refl, ℕ, suc, ◌+◌, ◌-◌, ◌*◌, ◌^◌, ◌<◌, ◌≤◌, ◌⊎◌, inl, inr, arith, List}
use Rattle.std.proofs.Common.{[], ◌∷◌, ◌++◌, length, take, drop, append_assoc, true, false, Option, Some, None, Result, Ok, Err}
use Rattle.std.specs.Prelude.{◌↔◌}
use Rattle.std.proofs.lemmas.List.{append-nil, length-append, take-append-drop, length-take-le, take_all}
use Rattle.rmp_wire.specs.Msg.{Msgs, no_items, item, count}
use Rattle.rmp_wire.specs.Spelling.{Spells, SpellsAll}
use Rattle.rmp_wire.specs.Taking.{byte_of}
use Rattle.rmp_wire.specs.declared.marker.Marker.TheVariants as marker
use Rattle.rmp_wire.proofs.Unique.{spelled_once}
use Rattle.rmp_decode.specs.declared.error.Error.{Error}
use Rattle.rmp_decode.specs.declared.error.Error.TheVariants as errors
use Rattle.rmp_decode.specs.declared.text.Text.TheVariants.{InvalidLength}
use Rattle.rmp_scan.specs.declared.scanner.Scan.{Scan}
use Rattle.rmp_scan.specs.declared.scanner.Scan.TheVariants.{Whole, More}
use Rattle.rmp_scan.specs.declared.scanner.Scanner.{Scanner}
use Rattle.rmp_scan.specs.declared.want.Next.TheVariants as next
use Rattle.rmp_scan.specs.declared.want.Want.{Want}
use Rattle.rmp_scan.specs.Completes.{Completes, Moves, is_whole, least_of, Sticks, Reaches, StaysShort, Stops, Exceeds}
use Rattle.rmp_scan.specs.Openings.{SpellsSome}
use Rattle.rmp_scan.specs.Scans.{IsMessage, MessageEnds, IsBeginning, NoMessage, ReservedAt, IsLonger, IsAfter, EndsIn, GoesOn, IsReserved, IsTooLong, Scans}
use Rattle.rmp_scan.proofs.Completing.{at_least, completed, beginnings, nothing}
use Rattle.rmp_scan.proofs.FirstByte.{reserved}
use Rattle.rmp_scan.proofs.Stepping.{chain, same_of, messages_next, unfinished}

-- ---- a message is wanted at first

pub one_message : (bytes : List ℕ) → IsMessage bytes → SpellsSome 1 bytes
one_message bytes m = record {
  trees = item m.0 no_items;
  many = refl;
  spelled = record { first = bytes; second = []; is_first = m.1; is_second = refl; is_whole = sym (append-nil bytes) };
}

pub first_message : (ms : Msgs) (bytes : List ℕ) → count ms ≡ 1 → SpellsAll bytes ms → IsMessage bytes
first_message no_items bytes c s = absurd (omega (arith, c))
first_message (item m no_items) bytes c s =
    (m, subst (λ z. Spells z m) (sym (s.is_whole ∙ ap (λ z. s.first ++ z) s.is_second ∙ append-nil s.first)) s.is_first)
first_message (item m (item k ms)) bytes c s = absurd (omega (arith, c))

abbrev pub fresh_want : Want → Type 0
fresh_want want = (want.next ≡ next.Payload 0) × (want.messages ≡ 1)

pub fresh : (s : Scanner) → s.refused ≡ false → s.taken ≡ 0 → fresh_want s.want → IsAfter [] s
fresh s r t w = record {
  ready = r;
  taken = t;
  wants = λ rest.
      let some : Completes s.want rest ↔ SpellsSome 1 rest = chain (messages_next s.want rest w.0) (same_of (λ z. SpellsSome z rest) s.want.messages 1 w.1) in
      (λ m. some.1 (one_message rest m), λ c. let o = some.0 c in first_message o.trees rest o.many o.spelled);
  claims = (let e : least_of s.want ≡ 0 + 1 = ap (λ z. Rattle.rmp_scan.specs.Completes.least_next z + s.want.messages) w.0 ∙ ap (λ z. 0 + z) w.1 in omega (arith, e));
}

-- ---- what follows the bytes that were taken

abbrev Law : List ℕ → Want → Type 0
Law xs want = (rest : List ℕ) → IsMessage (xs ++ rest) ↔ Completes want rest

moved : (before x : List ℕ) (want want' : Want) → Law before want → Moves want x want' → Law (before ++ x) want'
moved before x want want' f m = λ rest.
    chain (same_of IsMessage ((before ++ x) ++ rest) (before ++ (x ++ rest)) (append_assoc before x rest)) (chain (f (x ++ rest)) (m rest))

record EndsAfter (xs y : List ℕ) (want : Want) (n : ℕ) : Type 0 where
  pub q : List ℕ
  pub rest : List ℕ
  pub front : y ≡ q ++ rest
  pub completes : Completes want q
  pub long : n ≡ length xs + length q

ends_after : (xs y : List ℕ) (want : Want) (n : ℕ) → Law xs want → MessageEnds (xs ++ y) n → EndsAfter xs y want n
ends_after xs y want n f m = elim (beginnings m.bytes m.rest xs y (sym m.front)) [
  | inl p ↦ record {
    q = p.0;
    rest = m.rest;
    front = p.2;
    completes = (f p.0).0 (subst IsMessage p.1 m.spelled);
    long = m.long ∙ ap length p.1 ∙ length-append xs p.0;
  }
  | inr p ↦
      let r = completed want in
      let other = (f r.0).1 r.1 in
      let same : m.bytes ++ (p.0 ++ r.0) ≡ (xs ++ r.0) ++ [] = sym (append_assoc m.bytes p.0 r.0) ∙ ap (λ z. z ++ r.0) (sym p.1) ∙ sym (append-nil (xs ++ r.0)) in
      let u = spelled_once m.spelled.0 other.0 m.bytes (xs ++ r.0) (p.0 ++ r.0) [] m.spelled.1 other.1 same in
      let none = nothing p.0 r.0 u.2 in
      record {
        q = [];
        rest = y;
        front = refl;
        completes = subst (Completes want) none.1 r.1;
        long = (let l = m.long in omega (arith, l, ap length p.1, length-append m.bytes p.0, ap length none.0));
      }
]

-- ---- what a piece comes to

module _ (before piece : List ℕ) (old : Scanner) (a : IsAfter before old) where
  pub ends_in : (used : ℕ) → used ≤ length piece → Completes old.want (take used piece) → MessageEnds (before ++ piece) (length before + used)
  ends_in used l c = record {
    bytes = before ++ take used piece;
    rest = drop used piece;
    front = ap (λ z. before ++ z) (sym (take-append-drop used piece)) ∙ sym (append_assoc before (take used piece) (drop used piece));
    spelled = (a.wants (take used piece)).1 c;
    long = (let t = length-take-le used piece l in omega (arith, t, length-append before (take used piece)));
  }

  all : (want' : Want) → Reaches old.want piece (length piece) want' → Law (before ++ piece) want'
  all want' r = subst (λ z. Law (before ++ z) want') (take_all (length piece) piece (omega arith))
      (moved before (take (length piece) piece) old.want want' a.wants r.moves)

  begins_by : (xs : List ℕ) (want' : Want) → Law xs want' → 0 < least_of want' → IsBeginning xs
  begins_by xs want' f some =
      let r = completed want' in
      record {
        rest = r.0;
        some = λ e. absurd (omega (arith, some, at_least want' r.0 r.1, ap length e));
        spelled = (f r.0).1 r.1;
      }

  pub goes_on : (want' : Want) (room : ℕ) → StaysShort old.want piece room want' → IsBeginning (before ++ piece)
  goes_on want' room s = begins_by (before ++ piece) want' (all want' s.reaches) s.unfinished

  pub after : (want' : Want) (room : ℕ) (new : Scanner) → StaysShort old.want piece room want' → new.want ≡ want' → new.refused ≡ false
      → new.taken ≡ old.taken + length piece → IsAfter (before ++ piece) new
  after want' room new s w r t = record {
    ready = r;
    taken = (let k = a.taken in omega (arith, t, k, length-append before piece));
    wants = subst (λ z. Law (before ++ piece) z) (sym w) (all want' s.reaches);
    claims = (let c = s.reaches.claims in let d = a.claims in
        omega (arith, c, d, ap least_of w, length-append before piece));
  }

  -- the bytes before an offset of the piece, and those after it
  abbrev front_of : ℕ → List ℕ
  front_of at = before ++ take at piece

  split_at : (at : ℕ) → before ++ piece ≡ front_of at ++ drop at piece
  split_at at = ap (λ z. before ++ z) (sym (take-append-drop at piece)) ∙ sym (append_assoc before (take at piece) (drop at piece))

  front_long : (at : ℕ) → at ≤ length piece → length (front_of at) ≡ length before + at
  front_long at l = omega (arith, length-append before (take at piece), length-take-le at piece l)

  law_at : (at : ℕ) (want' : Want) → Reaches old.want piece at want' → Law (front_of at) want'
  law_at at want' r = moved before (take at piece) old.want want' a.wants r.moves

  stuck : (want : Want) (xs q : List ℕ) → Sticks want xs → Completes want (0xc1 ∷ q) → ⊥
  unfolding byte_of
  stuck want xs q s c =
      let some = (messages_next want (0xc1 ∷ q) s.ready).0 c in
      let w = s.wanted in
      let n : want.messages ≡ suc (want.messages - 1) = omega (arith, w) in
      reserved (want.messages - 1) q (subst (λ z. SpellsSome z (0xc1 ∷ q)) n some)

  least_some : (want : Want) (xs : List ℕ) → Sticks want xs → 0 < least_of want
  least_some want xs s = (let w = s.wanted in omega (arith, w, ap Rattle.rmp_scan.specs.Completes.least_next s.ready))

  stuck_front : (want : Want) (xs q rest : List ℕ) → Sticks want xs → xs ≡ q ++ rest → Completes want q → ⊥
  stuck_front want xs [] rest s e c = absurd (omega (arith, at_least want [] c, least_some want xs s))
  stuck_front want xs (b ∷ q) rest s e c =
      let first : 0xc1 ∷ s.following ≡ b ∷ (q ++ rest) = sym s.there ∙ e in
      let is : b ≡ 0xc1 = cc in
      stuck want xs q s (subst (λ z. Completes want (z ∷ q)) is c)

  pub none : (room at : ℕ) → Stops old.want piece room at → NoMessage (before ++ piece)
  none room at s =
      let f = law_at at s.want' s.reaches in
      record {
        ends = λ n m.
            let e = ends_after (front_of at) (drop at piece) s.want' n f (subst (λ z. MessageEnds z n) (split_at at) m) in
            stuck_front s.want' (drop at piece) e.q e.rest s.sticks e.front e.completes;
        begins = λ b.
            let whole : (before ++ piece) ++ b.rest ≡ front_of at ++ (drop at piece ++ b.rest) = ap (λ z. z ++ b.rest) (split_at at)
            ∙ append_assoc (front_of at) (drop at piece) b.rest in
            let c = (f (drop at piece ++ b.rest)).0 (subst IsMessage whole b.spelled) in
            stuck s.want' (drop at piece) (s.sticks.following ++ b.rest) s.sticks (subst (λ z. Completes s.want' (z ++ b.rest)) s.sticks.there c);
      }

  pub reserved_at : (room at : ℕ) → Stops old.want piece room at → ReservedAt (before ++ piece) (length before + at)
  reserved_at room at s = record {
    before = front_of at;
    following = s.sticks.following;
    front = split_at at ∙ ap (λ z. front_of at ++ z) s.sticks.there;
    place = sym (front_long at s.reaches.within);
    begins = begins_by (front_of at) s.want' (law_at at s.want' s.reaches) (least_some s.want' (drop at piece) s.sticks);
  }

  pub longer : (limit room : ℕ) → room ≡ limit - old.taken → Exceeds old.want piece room → IsLonger limit (before ++ piece)
  longer limit room e x =
      let u : ℕ = x.taken in
      let f = law_at u x.want' x.reaches in
      let fl = front_long u x.reaches.within in
      let t = a.taken in
      let l = x.long in
      record {
        ends = λ n m.
            let k = ends_after (front_of u) (drop u piece) x.want' n f (subst (λ z. MessageEnds z n) (split_at u) m) in
            let kl = k.long in
            omega (arith, e, t, l, fl, kl, at_least x.want' k.q k.completes);
        begins = λ rest m.
            let whole : (before ++ piece) ++ rest ≡ front_of u ++ (drop u piece ++ rest) = ap (λ z. z ++ rest) (split_at u)
            ∙ append_assoc (front_of u) (drop u piece) rest in
            let c = (f (drop u piece ++ rest)).0 (subst IsMessage whole m) in
            omega (arith, e, t, l, fl, at_least x.want' (drop u piece ++ rest) c, ap length whole, length-append (front_of u) (drop u piece ++ rest));
      }

  pub many : (limit room : ℕ) → room ≡ limit - old.taken → Exceeds old.want piece room → limit ≤ 2 ^ 34 * length (before ++ piece) + 1
  many limit room e x =
      let t = a.taken in
      let l = x.long in
      let w = x.reaches.within in
      let c = x.reaches.claims in
      let d = a.claims in
      omega (arith, e, t, l, w, c, d, length-append before piece)

module _ (before piece : List ℕ) (old : Scanner) (a : IsAfter before old) (limit room : ℕ) (r : room ≡ limit - old.taken) where
  pub whole_answer : (used : ℕ) (new : Scanner) → is_whole old.want ≡ false → (used ≤ length piece) × Completes old.want (take used piece) × (used ≤ room)
      → new.refused ≡ false → new.taken ≡ 0 → fresh_want new.want → EndsIn before piece limit used new
  whole_answer used new w e f t n =
      let some = unfinished old.want w in
      let least = at_least old.want (take used piece) e.1 in
      let own = length-take-le used piece e.0 in
      let k = a.taken in
      let u = e.2 in
      record {
        within = e.0;
        ends = ends_in before piece old a used e.0 e.1;
        short = omega (arith, some, least, own, k, u, r);
        new_again = fresh new f t n;
      }

  pub more_answer : (want' : Want) (new : Scanner) → StaysShort old.want piece room want' → new.want ≡ want' → new.refused ≡ false
      → new.taken ≡ old.taken + length piece → GoesOn before piece limit new
  more_answer want' new s w f t =
      let k = a.taken in
      let l = s.short in
      let some = s.unfinished in
      record {
        begins = goes_on before piece old a want' room s;
        after = after before piece old a want' room new s w f t;
        short = omega (arith, k, l, some, r, ap least_of w, length-append before piece);
      }

  pub reserved_answer : (at : ℕ) (new : Scanner) → Stops old.want piece room at → new.reserved ≡ Some at → new.refused ≡ true → IsReserved before piece new
  reserved_answer at new s t f = record {
    none = none before piece old a room at s;
    at = at;
    place = reserved_at before piece old a room at s;
    told = t;
    refused = f;
  }

  pub long_answer : (new : Scanner) → Exceeds old.want piece room → new.refused ≡ true → IsTooLong before piece limit new
  long_answer new x f = record {
    longer = longer before piece old a limit room r x;
    many = many before piece old a limit room r x;
    refused = f;
  }

-- ---- exactly one of the answers

pub ends_once : (input : List ℕ) (m n : ℕ) → MessageEnds input m → MessageEnds input n → m ≡ n
ends_once input m n a b =
    let u = spelled_once a.spelled.0 b.spelled.0 a.bytes b.bytes a.rest b.rest a.spelled.1 b.spelled.1 (sym a.front ∙ b.front) in
    a.long ∙ ap length u.0 ∙ sym b.long

pub begins_or_ends : (input : List ℕ) (n : ℕ) → MessageEnds input n → IsBeginning input → ⊥
begins_or_ends input n a b =
    let same : a.bytes ++ (a.rest ++ b.rest) ≡ (input ++ b.rest) ++ [] = sym (append_assoc a.bytes a.rest b.rest) ∙ ap (λ z. z ++ b.rest) (sym a.front)
    ∙ sym (append-nil (input ++ b.rest)) in
    let u = spelled_once a.spelled.0 b.spelled.0 a.bytes (input ++ b.rest) (a.rest ++ b.rest) [] a.spelled.1 b.spelled.1 same in
    b.some (nothing a.rest b.rest u.2).1

whole_same : (u v : ℕ) → ◌≡◌ {A = Result Scan Error} (Ok (Whole u)) (Ok (Whole v)) → u ≡ v
whole_same u v e = cc

module _ (before piece : List ℕ) (limit : ℕ) (new : Scanner) where
  abbrev EndsAt : ℕ → Type 0
  EndsAt used = MessageEnds (before ++ piece) (length before + used) × (length before + used ≤ limit)

  pub whole_if : (r : Result Scan Error) → Scans before piece limit new r → (used : ℕ) → r ≡ Ok (Whole used) → EndsAt used
  whole_if (Ok (Whole u)) s used e = subst EndsAt (whole_same u used e) (s.ends, s.short)
  whole_if (Ok More) s used e = absurd (cc)
  whole_if (Err x) s used e = absurd (cc)

  pub if_whole : (r : Result Scan Error) → Scans before piece limit new r → (used : ℕ) → EndsAt used → r ≡ Ok (Whole used)
  if_whole (Ok (Whole u)) s used e =
      let same = ends_once (before ++ piece) (length before + u) (length before + used) s.ends e.0 in
      let is : u ≡ used = omega (arith, same) in
      ap (λ z. Ok (Whole z)) is
  if_whole (Ok More) s used e = absurd (begins_or_ends (before ++ piece) (length before + used) e.0 s.begins)
  if_whole (Err (errors.TypeMismatch m)) s used e = absurd (s.1.none.ends (length before + used) e.0)
  if_whole (Err (errors.Syntax t)) s used e = (let l = s.1.longer.ends (length before + used) e.0 in let k = e.1 in absurd (omega (arith, l, k)))
  if_whole (Err (errors.InvalidMarkerRead x)) s used e = absurd s
  if_whole (Err (errors.InvalidDataRead x)) s used e = absurd s
  if_whole (Err errors.OutOfRange) s used e = absurd s
  if_whole (Err (errors.LengthMismatch n)) s used e = absurd s
  if_whole (Err (errors.Uncategorized n)) s used e = absurd s
  if_whole (Err (errors.Utf8Error n)) s used e = absurd s
  if_whole (Err errors.DepthLimitExceeded) s used e = absurd s
  if_whole (Err errors.OutOfMemory) s used e = absurd s
  if_whole (Err errors.NotCanonical) s used e = absurd s

  pub if_more : (r : Result Scan Error) → Scans before piece limit new r → IsBeginning (before ++ piece)
      → (r ≡ Ok More) ⊎ (r ≡ Err (errors.Syntax InvalidLength))
  if_more (Ok (Whole u)) s b = absurd (begins_or_ends (before ++ piece) (length before + u) s.ends b)
  if_more (Ok More) s b = inl refl
  if_more (Err (errors.TypeMismatch m)) s b = absurd (s.1.none.begins b)
  if_more (Err (errors.Syntax t)) s b = inr (ap (λ z. Err (errors.Syntax z)) s.0)
  if_more (Err (errors.InvalidMarkerRead x)) s b = absurd s
  if_more (Err (errors.InvalidDataRead x)) s b = absurd s
  if_more (Err errors.OutOfRange) s b = absurd s
  if_more (Err (errors.LengthMismatch n)) s b = absurd s
  if_more (Err (errors.Uncategorized n)) s b = absurd s
  if_more (Err (errors.Utf8Error n)) s b = absurd s
  if_more (Err errors.DepthLimitExceeded) s b = absurd s
  if_more (Err errors.OutOfMemory) s b = absurd s
  if_more (Err errors.NotCanonical) s b = absurd s

-- ---- the length of a message

abbrev Answer : Type 0
Answer = Result (Option ℕ) Error

one_zero : (used : ℕ) → 0 + used ≡ used
one_zero used = omega arith

some_same : (u n : ℕ) → ◌≡◌ {A = Answer} (Ok (Some u)) (Ok (Some n)) → u ≡ n
some_same u n e = cc

pub len_whole : (input : List ℕ) (limit used : ℕ) (new : Scanner) → EndsIn [] input limit used new → (n : ℕ)
    → (◌≡◌ {A = Answer} (Ok (Some used)) (Ok (Some n))) ↔ MessageEnds input n
len_whole input limit used new s n =
    let m : MessageEnds input used = subst (MessageEnds input) (one_zero used) s.ends in (
      λ e. subst (MessageEnds input) (some_same used n e) m,
      λ k. ap (λ z. Ok (Some z)) (ends_once input used n m k),
    )

pub len_more : (input : List ℕ) (limit : ℕ) (new : Scanner) → GoesOn [] input limit new → (n : ℕ)
    → (◌≡◌ {A = Answer} (Ok None) (Ok (Some n))) ↔ MessageEnds input n
len_more input limit new s n = (λ e. absurd (cc), λ k. absurd (begins_or_ends input n k s.begins))

pub len_err : (input : List ℕ) (limit : ℕ) (new : Scanner) (e : Error) → Scans [] input limit new (Err e) → limit ≡ 2 ^ 100 → length input < 2 ^ 64
    → (e ≡ errors.TypeMismatch marker.Reserved) × NoMessage input
len_err input limit new (errors.TypeMismatch m) s l b = (ap errors.TypeMismatch s.0, s.1.none)
len_err input limit new (errors.Syntax t) s l b = (let m = s.1.many in absurd (omega (arith, m, l, b)))
len_err input limit new (errors.InvalidMarkerRead x) s l b = absurd s
len_err input limit new (errors.InvalidDataRead x) s l b = absurd s
len_err input limit new errors.OutOfRange s l b = absurd s
len_err input limit new (errors.LengthMismatch n) s l b = absurd s
len_err input limit new (errors.Uncategorized n) s l b = absurd s
len_err input limit new (errors.Utf8Error n) s l b = absurd s
len_err input limit new errors.DepthLimitExceeded s l b = absurd s
len_err input limit new errors.OutOfMemory s l b = absurd s
len_err input limit new errors.NotCanonical s l b = absurd s

pub len_none : (input : List ℕ) (e : Error) → NoMessage input → (n : ℕ) → (◌≡◌ {A = Answer} (Err e) (Ok (Some n))) ↔ MessageEnds input n
len_none input e s n = (λ q. absurd (cc), λ k. absurd (s.ends n k))

pub len_never : (input : List ℕ) (e : Error) → NoMessage input → (◌≡◌ {A = Answer} (Err e) (Ok None)) ↔ IsBeginning input
len_never input e s = (λ q. absurd (cc), λ k. absurd (s.begins k))
