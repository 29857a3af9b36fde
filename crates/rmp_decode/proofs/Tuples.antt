-- Tuples, read as the fields of a struct that is a list.
use Rattle.std.proofs.Common.{◌≡◌, subst, ℕ, List, Option, None, Some, Bool, true, false, ◌||◌}
use Rattle.rmp_wire.specs.declared.source.Source.{Ghosts}
use Rattle.rmp_wire.specs.Msg.{Msg, bin, list, Msgs, no_items, item}
use Rattle.rmp_decode.specs.Fields.{Field, NoField, given_all}
use Rattle.rmp_decode.specs.Rows.{AndThen, NoMore}
use Rattle.rmp_decode.specs.Law.{Readable}
use Rattle.rmp_decode.specs.Seq.{OfRow, numbers, RefusesRow, IsOpen, FailsElement, Run, FailsParts}
use Rattle.rmp_decode.specs.declared.access.seq.SeqAccess.{SeqAccess}
use Rattle.rmp_decode.specs.declared.error.Error.{Error}
use Rattle.rmp_decode.proofs.Rows.{append}
use Rattle.rmp_decode.proofs.Seqs.{parts_element}

-- what is a row of such elements is one of others
pub row_as : (P Q : Msgs → Type 0) → ((ms : Msgs) → P ms → Q ms) → (m : Msg) → OfRow P m → OfRow Q m
row_as P Q f (bin s) h = f (numbers s) h
row_as P Q f (list ms) h = f ms h
row_as P Q f m h = h

-- fields that are all there are elements
pub each_field : (P : Msg → Type 0) (A : Type 0) (Q : List (Option Msg) → Type 0) (Q' : Msgs → Type 0) → ((ms : Msgs) → Q (given_all ms) → Q' ms)
    → (ms : Msgs) → Field P A Q (given_all ms) → AndThen P Q' ms
each_field P A Q Q' f no_items h = h
each_field P A Q Q' f (item m ms) h = (h.0, f ms h.1)

pub no_field : (ms : Msgs) → NoField (given_all ms) → NoMore ms
no_field no_items h = h
no_field (item m ms) h = h

-- and elements are fields that are all there
pub field_each : (P : Msg → Type 0) (A : Type 0) (Q : List (Option Msg) → Type 0) (Q' : Msgs → Type 0) → ((ms : Msgs) → Q' ms → Q (given_all ms))
    → (ms : Msgs) → AndThen P Q' ms → Field P A Q (given_all ms)
field_each P A Q Q' f no_items h = h
field_each P A Q Q' f (item m ms) h = (h.0, f ms h.1)

pub field_none : (ms : Msgs) → NoMore ms → NoField (given_all ms)
field_none no_items h = h
field_none (item m ms) h = h

-- where none of them takes memory, none of as many fields does
pub or_last : (f : Bool → Bool) (a : Bool) → f a ≡ false → f (a || false) ≡ false
or_last f true h = h
or_last f false h = h

pub row_narrower : (spells : List ℕ → Msg → Type 0) (P Q : Msgs → Type 0) (room n : ℕ) (known : Option (List ℕ)) → ((ms : Msgs) → Q ms → P ms)
    → RefusesRow spells P room n known → RefusesRow spells Q room n known
unfolding RefusesRow
row_narrower spells P Q room n None f r = tt
row_narrower spells P Q room n (Some xs) f r = λ a. r
    (record {
      bytes = a.bytes;
      rest = a.rest;
      trees = a.trees;
      front = a.front;
      spelled = a.spelled;
      many = a.many;
      fits = a.fits;
      holds = f a.trees a.holds;
    })

-- none of these parts is there, and so none of others
pub parts_fail_as : {R C V W : Type 0} {g : Ghosts R} {P : V → Msgs → Type 0} {Q : W → Msgs → Type 0} {old new : SeqAccess R C} {e : Error}
    → ((ms : Msgs) → (w : W) × Q w ms → (v : V) × P v ms) → FailsParts g P old new e → FailsParts g Q old new e
parts_fail_as f p = record { stays = p.stays; failed = p.failed; err = λ m k. row_narrower _ _ _ _ _ _ f (p.err m k) }

-- after the parts that were read there was no element more, or it was refused
module _ {R C V W : Type 0} (g : Ghosts R) (reads : C → Msg → V → Type 0) (Q : W → Msgs
    → Type 0) (start mid now : SeqAccess R C) (ms : Msgs) (r : Run g start mid ms) where
  pub part_refused : (e : Error) → (IsOpen mid → FailsElement g (reads mid.de.now.config) mid now e) → (mid.de.now.failed ≡ true → now.de.now.failed ≡ true)
      → ((m : Msg) (ks : Msgs) (w : W) → Q w (append ms (item m ks)) → Readable (reads start.de.now.config) m) → ((w : W) → Q w (append ms no_items) → ⊥)
      → FailsParts g Q start now e
  part_refused e fails marked proj some =
      let f = subst (λ z. FailsElement g (reads z) mid now e) r.stays.config (fails r.still) in
      parts_element g Q start mid ms r (reads start.de.now.config) now e f (marked r.still.marked) proj some
