-- A list or a map of a known length or an unknown one, from what its state says.
use Rattle.std.proofs.Common.{◌≡◌, ℕ, ◌+◌, ◌<◌, List, [], ◌∷◌, length, Bool, true, false, Option, None, Some, refl, sym, ap, subst, arith}
use Rattle.std.specs.Prelude.{Result, Ok, Err, OnOk, ◌||◌}
use Rattle.std.specs.declared.vec.Vec.{Vec}
use Rattle.std.specs.declared.alloc.Global.{Global}
use Rattle.rmp_wire.specs.Msg.{Msg}
use Rattle.rmp_wire.specs.declared.sink.Sink.{Ghosts}
use Rattle.rmp_encode.specs.declared.serializer.Serializer.{Serializer}
use Rattle.rmp_encode.specs.Data.{Data}
use Rattle.rmp_encode.specs.Going.{IsWriting, IsKeepingAt}
use Rattle.rmp_encode.specs.Opens.{Open, IsOpen, IsOpenAt, is_kept, left_of, left_at, owed_at, part_marks, MayTake, MayEnd}
use Rattle.rmp_encode.specs.declared.error.Error.{Error}
use Rattle.rmp_encode.specs.Markers.{no_fault}
use Rattle.rmp_encode.specs.Writes.{MarkedBy, Marks}
use Rattle.rmp_encode.specs.Sizes.{most}

module _ {W C : Type 0} (g : Ghosts W) where
  takes_at : (pairs : Bool) (old : Serializer W C) (t : Option Msg) (x : Option Data) (rest : List (Option Data)) (b : _) (count : ℕ) (now : Serializer W C)
      → IsOpenAt g pairs old t (x ∷ rest) b count now → MayTake (left_at b count)
  takes_at pairs old t x rest None count now h = omega (arith, h.0)
  takes_at pairs old t x rest (Some b) count now h = tt

  -- where a part remains, one is allowed
  pub takes : {old : Serializer W C} {t : Option Msg} {x : Option Data} {rest : List (Option Data)} {q : Open W C} → IsOpen g old t (x ∷ rest) q
      → MayTake (left_of q)
  takes {old} {t} {x} {rest} {q} h = takes_at q.pairs old t x rest q.buffer q.count q.se.now h.state

  ends_at : (pairs : Bool) (old : Serializer W C) (t : Option Msg) (b : _) (count : ℕ) (now : Serializer W C) → IsOpenAt g pairs old t [] b count now
      → MayEnd (left_at b count)
  ends_at pairs old t None count now h = h.0
  ends_at pairs old t (Some b) count now h = tt

  pub ends : {old : Serializer W C} {t : Option Msg} {q : Open W C} → IsOpen g old t [] q → MayEnd (left_of q)
  ends {old} {t} {q} h = ends_at q.pairs old t q.buffer q.count q.se.now h.state

  -- the state, where there is no buffer, and where there is
  pub none_state : {old : Serializer W C} {t : Option Msg} {rest : List (Option Data)} {q : Open W C} → q.buffer ≡ None → IsOpen g old t rest q
      → (q.count ≡ length rest) × IsWriting g old t rest q.se.now
  none_state {old} {t} {rest} {q} e h = subst (λ b. IsOpenAt g q.pairs old t rest b q.count q.se.now) e h.state

  pub some_state : {old : Serializer W C} {t : Option Msg} {rest : List (Option Data)} {q : Open W C} (b : Serializer (Vec ℕ Global) C) → q.buffer ≡ Some b
      → IsOpen g old t rest q → IsKeepingAt g q.pairs old t rest q.count b q.se.now
  some_state {old} {t} {rest} {q} b e h = subst (λ b. IsOpenAt g q.pairs old t rest b q.count q.se.now) e h.state

  pub in_none : {old : Serializer W C} {t : Option Msg} {rest : List (Option Data)} {q : Open W C} → q.sound ≡ true → q.buffer ≡ None
      → q.count ≡ length rest → IsWriting g old t rest q.se.now → IsOpen g old t rest q
  in_none {old} {t} {rest} {q} s e n h = record { sound = s; state = subst (λ b. IsOpenAt g q.pairs old t rest b q.count q.se.now) (sym e) (n, h) }

  -- the same values remain
  pub still_open : {old : Serializer W C} {t : Option Msg} {rest rest' : List (Option Data)} {q : Open W C} → rest ≡ rest' → IsOpen g old t rest q
      → IsOpen g old t rest' q
  still_open {old} {t} {rest} {rest'} {q} e h = subst (λ ds. IsOpen g old t ds q) e h

-- a count that may take one more
pub before : {B : Type 0} (b : Option B) (n : ℕ) → b ≡ None → MayTake (left_at b n) → 0 < n
before b n e h = subst (λ x. MayTake (left_at x n)) e h

-- parts in a buffer may allocate
pub kept_takes : {B : Type 0} (b : Option B) (v : B) (n : ℕ) (m : Bool) → b ≡ Some v → is_kept (left_at b n) || m ≡ true
kept_takes b v n m e = ap (λ x. is_kept (left_at x n) || m) e

-- a value that is owed may come
pub owed_takes : {B : Type 0} (pairs : Bool) (b : Option B) (n : ℕ) → owed_at pairs n ≡ 1 → MayTake (left_at b n)
owed_takes true None n e = omega (arith, e)
owed_takes true (Some b) n e = tt
owed_takes false None n e = absurd cc
owed_takes false (Some b) n e = tt

-- what a map owes after a part, from what it owed before
pub turned : (pairs pairs' : Bool) (n n' k : ℕ) → pairs ≡ true → pairs' ≡ pairs → owed_at true n + owed_at true n' ≡ 1 → owed_at pairs n + k ≡ 1
    → owed_at pairs' n' ≡ k
turned true true n n' k is same t e = omega (arith, t, e)
turned true false n n' k is same t e = absurd cc
turned false pairs' n n' k is same t e = absurd cc

-- a list owes nothing
pub list_owes : (pairs : Bool) (n : ℕ) → pairs ≡ false → owed_at pairs n ≡ 0
list_owes true n is = absurd cc
list_owes false n is = refl

pub on_ok_as : {A E P Q : Type 0} (r : Result A E) → (P → Q) → OnOk r P → OnOk r Q
on_ok_as (Ok x) f h = f h
on_ok_as (Err e) f h = tt

-- a buffer never holds too many
pub never_past : {W C : Type 0} (g : Ghosts W) {pairs : Bool} {old : Serializer W C} {t : Option Msg} {rest : List (Option Data)} {count : ℕ}
    {b : Serializer (Vec ℕ Global) C} {now : Serializer W C} → most pairs < count → IsKeepingAt g pairs old t rest count b now → ⊥
never_past g past h = let k = h.fits in omega (arith, past, k)

module _ {W : Type 0} (g : Ghosts W) where
  -- what is known of the error of a part that is written at once, and of one that is buffered
  pub marked_here : {B : Type 0} (b : Option B) (n : ℕ) (marks : Marks) → b ≡ None → (old new : W) (r : Result (Unit {0}) Error) → MarkedBy g marks old new r
      → MarkedBy g (part_marks (left_at b n) marks) old new r
  marked_here b n marks is old new r h = subst (λ x. MarkedBy g (part_marks (left_at x n) marks) old new r) (sym is) h

  pub marked_kept : {B : Type 0} (b : Option B) (v : B) (n : ℕ) (marks : Marks) → b ≡ Some v → (old new : W) (e : Error)
      → ((a c : Option (List ℕ)) → no_fault a c e) → part_marks (left_at b n) marks (g.told old) (g.told new) e
  marked_kept b v n marks is old new e h = subst (λ x. part_marks (left_at x n) marks (g.told old) (g.told new) e) (sym is) (h (g.told old) (g.told new))
