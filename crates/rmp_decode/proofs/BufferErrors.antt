-- Which error comes of a list where bytes of its own are wanted.
use Rattle.std.proofs.Common.{◌≡◌, ◌≢◌, ◌∙◌, sym, ap, subst, refl, ℕ, pos, ◌<◌, ◌≤◌, max, inl, inr, arith, List, [], ◌∷◌, ◌++◌, Option, None, Some}
use Rattle.std.proofs.Common.{IfSome, Bool, true, false, Result, Ok, Err, IfErr}
use Rattle.std.specs.Io.KnownBytes.{Consumes}
use Rattle.rmp_wire.specs.declared.head.Head.{Head}
use Rattle.rmp_wire.specs.declared.head.Head.TheVariants.{Whole, Array}
use Rattle.rmp_wire.specs.declared.marker.Marker.{Marker}
use Rattle.rmp_wire.specs.declared.source.Source.{Ghosts}
use Rattle.rmp_wire.specs.Canonical.{heads_of, SpellsAs}
use Rattle.rmp_wire.specs.Msg.{Msgs, no_items, item, count, depth, depth_all}
use Rattle.rmp_wire.specs.Taking.{marker_of}
use Rattle.rmp_wire.proofs.Strict.{heads_differ_as}
use Rattle.rmp_decode.specs.Buffers.{ListAfterHead, NoByte, RefusesItem, RefusesItems, RefusesListOf, RefusesListIn, RefusesList, AtItem, LeavesList}
use Rattle.rmp_decode.specs.Buffers.{ListLeaves, LeavesBuffer, BufferLeaves}
use Rattle.rmp_decode.specs.Consumed.{LeavesAfter, LeavesRest, no_payload}
use Rattle.rmp_decode.specs.Content.{IsRawHead}
use Rattle.rmp_decode.specs.Exact.{BeginsWith, Exact, RefusesExactly, EndsExactly, TellsFault}
use Rattle.rmp_decode.specs.Kinds.{raw_head, other_number}
use Rattle.rmp_decode.specs.Law.{Begins, Refuses, Readable, ReadsHead}
use Rattle.rmp_decode.specs.Read.{IsUnsigned}
use Rattle.rmp_decode.specs.Rows.{ReadsEach}
use Rattle.rmp_decode.specs.Seq.{SpellsRow, SpellsIn, TakesElement, FailsToTake, Run, inner_of}
use Rattle.rmp_decode.specs.State.{left, faults_of, room_of}
use Rattle.rmp_decode.specs.declared.deserializer.Deserializer.{Deserializer}
use Rattle.rmp_decode.specs.declared.access.seq.SeqAccess.{SeqAccess}
use Rattle.rmp_decode.specs.declared.error.Error.{Error}
use Rattle.rmp_decode.specs.declared.error.Error.TheVariants.{DepthLimitExceeded, OutOfMemory, Syntax}
use Rattle.rmp_decode.specs.declared.text.Text.TheVariants.{InvalidValue}
use Rattle.rmp_decode.proofs.Exactness.{start_once, exact_tells, none_told}
use Rattle.rmp_decode.proofs.Faults.{tells_after}
use Rattle.rmp_decode.proofs.Rows.{push, count-push}
use Rattle.rmp_decode.proofs.Seqs.{run_step, each-push}
use Rattle.rmp_decode.proofs.FirstFault.{is_memory, Front, front_of, starts}

-- numbers open no level
flat : (ms : Msgs) (b : List ℕ) → ReadsEach (IsUnsigned 255) ms b → depth_all ms ≡ 0
flat no_items [] r = refl
flat no_items (n ∷ b) r = absurd r
flat (item m ms) [] r = absurd r
flat (item m ms) (n ∷ b) r = let i = flat ms b r.1 in let d : depth m ≡ 0 = ap depth r.0.0 in omega (arith, i, d)

-- there is no number where one was refused
no_byte_in : (w : Bool) (room : ℕ) (ys : List ℕ) → 0 < room → (Begins (SpellsAs w) (Readable (IsUnsigned 255)) room ys → ⊥) → NoByte w ys
no_byte_in w room ys some none = λ a. none (record {
  bytes = a.bytes;
  rest = a.rest;
  tree = a.tree;
  front = a.front;
  spelled = a.spelled;
  fits = let d = a.fits
      in omega (arith, some);
  holds = a.holds;
})

no_byte : (w : Bool) (room : ℕ) (ys : List ℕ) (e : Error) → 0 < room → (e ≢ OutOfMemory → Begins (SpellsAs w) (Readable (IsUnsigned 255)) room ys → ⊥)
    → Exact w other_number ys e → NoByte w ys
no_byte w room ys e some none x = elim (is_memory e) [
  | inl m ↦ (λ a.
      let number = a.holds.1.0 in
      let f = front_of w (Whole (pos a.holds.0)) a.bytes ys a.rest a.front (subst (SpellsAs w a.bytes) number a.spelled) in
      let is : e ≡ Syntax InvalidValue = x.starts (marker_of f.byte) (Whole (pos a.holds.0)) (starts f) in
      absurd (cc))
  | inr o ↦ no_byte_in w room ys some (none o)
]

-- the same where the bytes are told
no_bytes : (w : Bool) (room : ℕ) (k : Option (List ℕ)) → 0 < room → Refuses (SpellsAs w) (Readable (IsUnsigned 255)) room k → IfSome k (NoByte w)
unfolding Refuses
no_bytes w room None some none = tt
no_bytes w room (Some ys) some none = no_byte_in w room ys some none

exact_no_bytes : (w : Bool) (room : ℕ) (k : Option (List ℕ)) (e : Error) → 0 < room
    → (e ≢ OutOfMemory → Refuses (SpellsAs w) (Readable (IsUnsigned 255)) room k) → IfSome k (λ ys. Exact w other_number ys e) → IfSome k (NoByte w)
unfolding Refuses
exact_no_bytes w room None e some none x = tt
exact_no_bytes w room (Some ys) e some none x = no_byte w room ys e some none x

-- numbers were read, and the next item isn't one
item_at : (w : Bool) (n : ℕ) (P : List ℕ → Type 0) (known k : Option (List ℕ)) (bytes : List ℕ) (ms : Msgs) (b : List ℕ) → Consumes known k bytes
    → SpellsRow (SpellsAs w) bytes ms → ReadsEach (IsUnsigned 255) ms b → count ms < n → IfSome k (NoByte w) → IfSome k P → IfSome known (AtItem w n P)
item_at w n P None k bytes ms b t s r l none p = tt
item_at w n P (Some xs) None bytes ms b t s r l none p = absurd t
item_at w n P (Some xs) (Some ys) bytes ms b t s r l none p = record {
  many = count ms;
  few = l;
  before = record { bytes = bytes; rest = ys; trees = ms; front = t; spelled = s; many = refl; fits = omega (arith, flat ms b r); holds = (b, r) };
  none = none;
  holds = p;
}

item_refused : (w : Bool) (n : ℕ) (e : Error) (known : Option (List ℕ)) → IfSome known (AtItem w n (λ ys. Exact w other_number ys e))
    → IfSome known (RefusesItem w n e)
item_refused w n e None a = tt
item_refused w n e (Some xs) a = record { many = a.many; before = a.before; refused = inl (a.few, a.none, a.holds) }

-- memory was short for the last of them
item_unkept : (w : Bool) (n : ℕ) (known k : Option (List ℕ)) (bytes : List ℕ) (ms : Msgs) (b : List ℕ) → Consumes known k bytes
    → SpellsRow (SpellsAs w) bytes ms → ReadsEach (IsUnsigned 255) ms b → 0 < count ms → count ms ≤ n → IfSome known (RefusesItem w n OutOfMemory)
item_unkept w n None k bytes ms b t s r some l = tt
item_unkept w n (Some xs) None bytes ms b t s r some l = absurd t
item_unkept w n (Some xs) (Some ys) bytes ms b t s r some l = record {
  many = count ms;
  before = record { bytes = bytes; rest = ys; trees = ms; front = t; spelled = s; many = refl; fits = omega (arith, flat ms b r); holds = (b, r) };
  refused = inr (some, l, refl);
}

-- a fault is told
pub number_told : {R C : Type 0} (g : Ghosts R) (d : Deserializer R C) (start : SeqAccess R C) (len : ℕ) (o : ListAfterHead len d start)
    (mid now : SeqAccess R C) (ms : Msgs) (e : Error) (after : ℕ) → Run g start mid ms → after ≡ faults_of g now.de.now
    → RefusesExactly mid.de.now.strict other_number (faults_of g mid.de.now) (faults_of g now.de.now) (left g mid.de.now) e
    → TellsFault (faults_of g d) after e
number_told g d start len o mid now ms e after r q x =
    subst (λ z. TellsFault (faults_of g d) z e) (sym q) (tells_after _ _ _ e (r.faults_same ∙ ap (faults_of g) o.lender) (exact_tells _ other_number _ _ _ e x))

-- there was none where memory was short
pub unkept_told : {R C : Type 0} (g : Ghosts R) (d : Deserializer R C) (start : SeqAccess R C) (len : ℕ) (o : ListAfterHead len d start)
    (mid now : SeqAccess R C) (ms : Msgs) (after n : ℕ) → Run g start mid ms → TakesElement g (IsUnsigned 255) mid now n → after ≡ faults_of g now.de.now
    → TellsFault (faults_of g d) after OutOfMemory
unkept_told g d start len o mid now ms after n r t q = none_told _ _ OutOfMemory (q ∙ t.faults_same ∙ r.faults_same ∙ ap (faults_of g) o.lender)

at_item : (w : Bool) (room n : ℕ) (new known : Option (List ℕ)) → 1 < room → IfSome known (AtItem w n (LeavesRest w no_payload new))
    → IfSome known (LeavesList w room n new)
at_item w room n new None deep a = tt
at_item w room n new (Some xs) deep a = record { deep = λ flat. absurd (omega (arith, deep, flat)); item = λ _. a }

at_head : (w : Bool) (room n : ℕ) (known : Option (List ℕ)) → room ≤ 1 → IfSome known (LeavesList w room n known)
at_head w room n None flat = tt
at_head w room n (Some xs) flat = record { deep = λ _. refl; item = λ deep. absurd (omega (arith, deep, flat)) }

-- the list would nest too deep
pub deep_leaves : {R C : Type 0} (g : Ghosts R) (d : Deserializer R C) (n : ℕ) (e : Error) → d.room ≤ 1 → ListLeaves g n d d e
unfolding ListLeaves
deep_leaves g d n e flat = λ _ _. at_head d.strict (room_of d) n (left g d) (omega (arith, flat))

-- memory was short
pub list_unsaid : {R C : Type 0} (g : Ghosts R) (d last : Deserializer R C) (n : ℕ) → ListLeaves g n d last OutOfMemory
unfolding ListLeaves
list_unsaid g d last n = λ m _. absurd (m refl)

-- by the access that reads them
module _ {R C : Type 0} (g : Ghosts R) (d last : Deserializer R C) (start : SeqAccess R C) (len : ℕ) (o : ListAfterHead len d start) where
  number_at : (P : List ℕ → Type 0) (mid : SeqAccess R C) (ms : Msgs) (b : List ℕ) → Run g start mid ms → ReadsEach (IsUnsigned 255) ms b → 0 < mid.left
      → IfSome (left g mid.de.now) (NoByte d.strict) → IfSome (left g mid.de.now) P → IfSome (left g d) (AtItem d.strict len P)
  number_at P mid ms b r v some none p =
      let takes = subst (λ (z : Deserializer R C). Consumes (left g z) (left g mid.de.now) r.bytes) o.lender r.takes in
      item_at d.strict len P (left g d) (left g mid.de.now) r.bytes ms b takes
      (subst (λ (z : Deserializer R C). SpellsRow (SpellsAs z.strict) r.bytes ms) o.lender
      (subst (λ z. SpellsRow (SpellsIn start.de.now.strict z) r.bytes ms) o.list r.spelled)) v (omega (arith, r.many, some, o.left)) none p

  strict_in : (mid : SeqAccess R C) (ms : Msgs) → Run g start mid ms → mid.de.now.strict ≡ d.strict
  strict_in mid ms r = r.stays.strict ∙ ap (λ (z : Deserializer R C). z.strict) o.lender

  same_in : (mid now : SeqAccess R C) (ms : Msgs) → Run g start mid ms → last ≡ now.de.now → faults_of g last ≡ faults_of g d
      → faults_of g now.de.now ≡ faults_of g mid.de.now
  same_in mid now ms r q k = ap (faults_of g) (sym q) ∙ k ∙ ap (faults_of g) (sym o.lender) ∙ sym r.faults_same

  -- no number is there
  none_in : (mid now : SeqAccess R C) (ms : Msgs) (e : Error) → Run g start mid ms → FailsToTake g (IsUnsigned 255) mid now e
      → faults_of g now.de.now ≡ faults_of g mid.de.now → e ≢ OutOfMemory
      → Refuses (SpellsAs d.strict) (Readable (IsUnsigned 255)) (inner_of mid) (left g mid.de.now)
  none_in mid now ms e r f same m =
      subst (λ z. Refuses (SpellsAs z) (Readable (IsUnsigned 255)) (inner_of mid) (left g mid.de.now)) (strict_in mid ms r)
      (subst (λ z. Refuses (SpellsIn mid.de.now.strict z) (Readable (IsUnsigned 255)) (inner_of mid) (left g mid.de.now)) (r.bytes_same ∙ o.list)
      (f.err m same))

  pub number_refused : (mid now : SeqAccess R C) (ms : Msgs) (b : List ℕ) (e : Error) → Run g start mid ms → ReadsEach (IsUnsigned 255) ms b
      → FailsToTake g (IsUnsigned 255) mid now e → last ≡ now.de.now
      → RefusesExactly mid.de.now.strict other_number (faults_of g mid.de.now) (faults_of g now.de.now) (left g mid.de.now) e
      → RefusesItems g len d last e
  unfolding RefusesItems RefusesExactly
  number_refused mid now ms b e r v f q x = λ k.
      let same = same_in mid now ms r q k in
      let exact = subst (λ z. IfSome (left g mid.de.now) (λ ys. Exact z other_number ys e)) (strict_in mid ms r) (x.0 same) in
      item_refused d.strict len e (left g d) (number_at (λ ys. Exact d.strict other_number ys e) mid ms b r v f.some
      (exact_no_bytes d.strict (inner_of mid) (left g mid.de.now) e (omega arith) (none_in mid now ms e r f same) exact) exact)

  -- what follows its head is left
  pub number_leaves : (mid now : SeqAccess R C) (ms : Msgs) (b : List ℕ) (e : Error) → 1 < d.room → Run g start mid ms → ReadsEach (IsUnsigned 255) ms b
      → FailsToTake g (IsUnsigned 255) mid now e → last ≡ now.de.now
      → LeavesAfter mid.de.now.strict no_payload (left g mid.de.now) (left g now.de.now) (faults_of g mid.de.now) (faults_of g now.de.now) e
      → ListLeaves g len d last e
  unfolding ListLeaves LeavesAfter
  number_leaves mid now ms b e deep r v f q x = λ m k.
      let same = same_in mid now ms r q k in
      let rest = subst (λ (z : Deserializer R C). IfSome (left g mid.de.now) (LeavesRest d.strict no_payload (left g z))) (sym q)
      (subst (λ z. IfSome (left g mid.de.now) (LeavesRest z no_payload (left g now.de.now))) (strict_in mid ms r) (x m same)) in
      at_item d.strict (room_of d) len (left g last) (left g d) (omega (arith, deep)) (number_at (LeavesRest d.strict no_payload (left g last)) mid ms b r v f.some
      (no_bytes d.strict (inner_of mid) (left g mid.de.now) (omega arith) (none_in mid now ms e r f same m)) rest)

  pub number_unkept : (mid now : SeqAccess R C) (ms : Msgs) (b : List ℕ) (n : ℕ) → Run g start mid ms → ReadsEach (IsUnsigned 255) ms b
      → TakesElement g (IsUnsigned 255) mid now n → now.de.ghost_name ≡ mid.de.ghost_name → RefusesItems g len d last OutOfMemory
  unfolding RefusesItems
  number_unkept mid now ms b n r0 v t p = λ _.
      let r = run_step g (IsUnsigned 255) start mid now ms n r0 t p in
      let row = push ms t.tree in
      let takes = subst (λ (z : Deserializer R C). Consumes (left g z) (left g now.de.now) r.bytes) o.lender r.takes in
      item_unkept d.strict len (left g d) (left g now.de.now) r.bytes row (b ++ n ∷ []) takes
      (subst (λ (z : Deserializer R C). SpellsRow (SpellsAs z.strict) r.bytes row) o.lender
      (subst (λ z. SpellsRow (SpellsIn start.de.now.strict z) r.bytes row) o.list r.spelled)) (each-push (IsUnsigned 255) ms t.tree b n v t.value)
      (omega (arith, count-push ms t.tree)) (omega (arith, r.many, o.left))

-- ---- the list from its head

module _ {R C : Type 0} (g : Ghosts R) (old : Deserializer R C) (e : Error) where
  none_listed : (before after : ℕ) (known : Option (List ℕ)) → EndsExactly old.strict before after known e → after ≡ before
      → IfSome known (λ xs. (m : Marker) (n : ℕ) → (s : BeginsWith old.strict m (Array n) xs) → RefusesListOf old.strict (room_of old) n e s.rest)
  unfolding EndsExactly
  none_listed before after None x q = tt
  none_listed before after (Some xs) x q = λ m n s. absurd ((x.0 q).0 m (Array n) s)

  -- the bytes begin with no head
  pub list_none : (after : ℕ) → EndsExactly old.strict (faults_of g old) after (left g old) e
      → RefusesListIn old.strict (room_of old) (faults_of g old) after (left g old) e
  unfolding RefusesListIn
  list_none after x = none_listed (faults_of g old) after (left g old) x

  other_listed : (m : Marker) (h : Head) (known : Option (List ℕ)) → IfSome known (BeginsWith old.strict m h) → ((n : ℕ) → h ≡ Array n → ⊥)
      → IfSome known (λ xs. (m : Marker) (n : ℕ) → (s : BeginsWith old.strict m (Array n) xs) → RefusesListOf old.strict (room_of old) n e s.rest)
  other_listed m h None s f = tt
  other_listed m h (Some xs) s f = λ k n t. absurd (f n (sym (start_once _ k m (Array n) h xs t s).1))

  -- another message's does
  pub list_other : (after : ℕ) (m : Marker) (h : Head) → IfSome (left g old) (BeginsWith old.strict m h) → ((n : ℕ) → h ≡ Array n → ⊥)
      → RefusesListIn old.strict (room_of old) (faults_of g old) after (left g old) e
  unfolding RefusesListIn
  list_other after m h s f = λ _. other_listed m h (left g old) s f

  after_listed : (n : ℕ) (known k : Option (List ℕ)) (bytes : List ℕ) → Consumes known k bytes → heads_of old.strict (Array n) bytes
      → (room_of old ≤ 1 → e ≡ DepthLimitExceeded) → (1 < room_of old → IfSome k (RefusesItem old.strict n e))
      → IfSome known (λ xs. (m : Marker) (n : ℕ) → (s : BeginsWith old.strict m (Array n) xs) → RefusesListOf old.strict (room_of old) n e s.rest)
  after_listed n None k bytes t i d r = tt
  after_listed n (Some xs) None bytes t i d r = absurd t
  after_listed n (Some xs) (Some ys) bytes t i d r = λ m l s.
      let u = heads_differ_as old.strict (Array l) (Array n) (s.byte ∷ s.following) bytes s.rest ys s.is_head i (sym s.front ∙ t) in
      let same : l ≡ n = let a = u.0 in cc in
      record {
        deep = d;
        item = λ more. subst (λ z. RefusesItem old.strict z e s.rest) (sym same)
            (subst (λ z. RefusesItem old.strict n e z) (sym u.2) (r more));
      }

  -- a list's was taken, and what follows it is refused
  after_head : (new mid : Deserializer R C) (m : Marker) (h : Head) (n : ℕ) → ReadsHead g old mid (Ok (m, h)) → h ≡ Array n
      → (mid.room ≤ 1 → e ≡ DepthLimitExceeded) → (1 < mid.room → RefusesItems g n mid new e) → RefusesList g old new e
  unfolding RefusesItems RefusesListIn
  after_head new mid m h n o i deep items = λ k.
      let room : mid.room ≡ old.room = o.stays.room in
      after_listed n (left g old) (left g mid) o.ok.bytes o.ok.takes (subst (λ z. heads_of old.strict z o.ok.bytes) i o.ok.is_head)
      (λ one. deep (omega (arith, room, one))) (λ more. subst (λ z. IfSome (left g mid) (RefusesItem z n e)) o.stays.strict
      (items (omega (arith, room, more)) (k ∙ sym o.sound)))

pub list_after : {R C V : Type 0} (g : Ghosts R) (old mid new : Deserializer R C) (m : Marker) (h : Head) (n : ℕ) (r : Result V Error)
    → ReadsHead g old mid (Ok (m, h)) → h ≡ Array n → IfErr r (λ e. mid.room ≤ 1 → e ≡ DepthLimitExceeded)
    → IfErr r (λ e. 1 < mid.room → RefusesItems g n mid new e)
    → IfErr r (RefusesList g old new)
list_after g old mid new m h n (Ok v) o i deep items = tt
list_after g old mid new m h n (Err e) o i deep items = after_head g old e new mid m h n o i deep items

pub raw_no_list : (t : Bool) (len n : ℕ) → raw_head t len ≡ Array n → ⊥
raw_no_list true len n e = absurd (cc)
raw_no_list false len n e = absurd (cc)

-- ---- what is left

module _ (w : Bool) (room : ℕ) (new : Option (List ℕ)) where
  none_left : (before after : ℕ) (known : Option (List ℕ)) (e : Error) → EndsExactly w before after known e → after ≡ before
      → IfSome known (LeavesRest w IsRawHead new) → IfSome known (LeavesBuffer w room new)
  unfolding EndsExactly
  none_left before after None e x q r = tt
  none_left before after (Some xs) e x q r = record { leaf = λ _. r; list = λ m n s. absurd ((x.0 q).0 m (Array n) s) }

  other_left : (m : Marker) (h : Head) (known : Option (List ℕ)) → IfSome known (BeginsWith w m h) → ((n : ℕ) → h ≡ Array n → ⊥)
      → IfSome known (LeavesRest w IsRawHead new) → IfSome known (LeavesBuffer w room new)
  other_left m h None s f r = tt
  other_left m h (Some xs) s f r = record { leaf = λ _. r; list = λ k n t. absurd (f n (sym (start_once _ k m (Array n) h xs t s).1)) }

  list_left : (n : ℕ) (known k : Option (List ℕ)) (bytes : List ℕ) → Consumes known k bytes → heads_of w (Array n) bytes
      → IfSome k (LeavesList w room n new) → IfSome known (LeavesBuffer w room new)
  list_left n None k bytes t i r = tt
  list_left n (Some xs) None bytes t i r = absurd t
  list_left n (Some xs) (Some ys) bytes t i r = record {
    leaf = λ none. let f : Front w (Array n) xs ys = front_of w (Array n) bytes xs ys t i in absurd (none (marker_of f.byte) n (starts f));
    list = λ m l s.
        let u = heads_differ_as w (Array l) (Array n) (s.byte ∷ s.following) bytes s.rest ys s.is_head i (sym s.front ∙ t) in
        let same : l ≡ n = let a = u.0 in cc in
        subst (λ z. LeavesList w room z new s.rest) (sym same) (subst (LeavesList w room n new) (sym u.2) r);
  }

module _ {R C : Type 0} (g : Ghosts R) (old new : Deserializer R C) (e : Error) where
  -- the bytes begin with no head
  pub buffer_none : EndsExactly old.strict (faults_of g old) (faults_of g new) (left g old) e
      → LeavesAfter old.strict IsRawHead (left g old) (left g new) (faults_of g old) (faults_of g new) e → BufferLeaves g old new e
  unfolding BufferLeaves LeavesAfter
  buffer_none x r = λ m k. none_left old.strict (room_of old) (left g new) (faults_of g old) (faults_of g new) (left g old) e x k (r m k)

  -- another message's does
  pub buffer_other : (m : Marker) (h : Head) → IfSome (left g old) (BeginsWith old.strict m h) → ((n : ℕ) → h ≡ Array n → ⊥)
      → LeavesAfter old.strict IsRawHead (left g old) (left g new) (faults_of g old) (faults_of g new) e → BufferLeaves g old new e
  unfolding BufferLeaves LeavesAfter
  buffer_other m h s f r = λ o k. other_left old.strict (room_of old) (left g new) m h (left g old) s f (r o k)

  -- a list's was taken
  buffer_list : (mid : Deserializer R C) (m : Marker) (h : Head) (n : ℕ) → ReadsHead g old mid (Ok (m, h)) → h ≡ Array n → ListLeaves g n mid new e
      → BufferLeaves g old new e
  unfolding BufferLeaves ListLeaves
  buffer_list mid m h n o i r = λ q k.
      let room : room_of mid ≡ room_of old = ap (λ z. max 1 z) o.stays.room in
      list_left old.strict (room_of old) (left g new) n (left g old) (left g mid) o.ok.bytes o.ok.takes
      (subst (λ z. heads_of old.strict z o.ok.bytes) i o.ok.is_head)
      (subst (λ z. IfSome (left g mid) (LeavesList z (room_of old) n (left g new))) o.stays.strict
      (subst (λ z. IfSome (left g mid) (LeavesList mid.strict z n (left g new))) room (r q (k ∙ sym o.sound))))

pub buffer_after : {R C V : Type 0} (g : Ghosts R) (old mid new : Deserializer R C) (m : Marker) (h : Head) (n : ℕ) (r : Result V Error)
    → ReadsHead g old mid (Ok (m, h)) → h ≡ Array n → IfErr r (ListLeaves g n mid new) → IfErr r (BufferLeaves g old new)
buffer_after g old mid new m h n (Ok v) o i x = tt
buffer_after g old mid new m h n (Err e) o i x = buffer_list g old new e mid m h n o i x
