-- What lists in one another are read from and written as, level by level.
use Rattle.std.proofs.Common.{◌≡◌, ◌∙◌, sym, subst, ℕ, zero, suc, List, map, All, Option}
use Rattle.rmp_wire.specs.Msg.{Msg}
use Rattle.rmp_encode.specs.Data.{Data}
use Rattle.rmp_encode.specs.Trees.{slice_of}
use Rattle.rmp_decode.specs.Law.{Readable}
use Rattle.rmp_recursive.specs.Parts.{Row, InSteps, row_as, row_in, each_holds}
use Rattle.test_recursive.specs.declared.recursive.Nested.{Nested, out-Nested}
use Rattle.test_recursive.specs.declared.recursive.Nested.TheFolds.{ind-Nested, fold-Nested, fold_out-Nested}
use Rattle.test_recursive.specs.declared.recursive.Nested.TheOpen.{Nested-F}
use Rattle.test_recursive.specs.declared.recursive.Nested.TheViews.{roll-Nested, out-roll-Nested}

-- ---- what they are read from: a list of them, in one step more

abbrev pub NestedIn : ℕ → Msg → Nested → Type 0
NestedIn zero m v = ⊥
NestedIn (suc n) m v = Row (NestedIn n) m (out-Nested v).sub.items

abbrev pub IsNested : Msg → Nested → Type 0
IsNested m v = InSteps NestedIn m v

-- ---- what they are written as: one level, of what its parts are written as

abbrev pub nested_level : Nested-F (Option Data) → Option Data
nested_level v = slice_of v.sub.items

abbrev pub nested_data : Nested → Option Data
nested_data = fold-Nested (Option Data) nested_level

pub nested_is : (v : Nested) → nested_data v ≡ slice_of (map nested_data (out-Nested v).sub.items)
nested_is v = fold_out-Nested (Option Data) nested_level v

-- ---- one step more

nested_up : (n : ℕ) (m : Msg) (v : Nested) → NestedIn n m v → NestedIn (suc n) m v
nested_up zero m v h = absurd h
nested_up (suc n) m v h = row_as (NestedIn n) (NestedIn (suc n)) (nested_up n) m (out-Nested v).sub.items h

pub nested_made : (v : Nested) (vs : List Nested) → vs ≡ (out-Nested v).sub.items → (m : Msg) → Row IsNested m vs → IsNested m v
nested_made v vs e m h = let i = row_in NestedIn nested_up m vs h in (suc i.0, subst (Row (NestedIn i.0) m) e i.1)

pub nested_out : (m : Msg) (v : Nested) → IsNested m v → Row IsNested m (out-Nested v).sub.items
nested_out m v (zero, h) = absurd h
nested_out m v (suc n, h) = row_as (NestedIn n) IsNested (λ k w p. (n, p)) m (out-Nested v).sub.items h

pub nested_row : (m : Msg) → Readable IsNested m → Readable (Row IsNested) m
nested_row m (v, h) = ((out-Nested v).sub.items, nested_out m v h)

-- ---- induction: what holds of a value where it holds of its parts holds of each value

pub nested_induction : (P : Nested → Type 0) → ((v : Nested) → All P (out-Nested v).sub.items → P v) → (v : Nested) → P v
nested_induction P step = ind-Nested P
    (λ x y same. step (roll-Nested x)
    (subst (λ z. All P z.sub.items) (same ∙ sym (out-roll-Nested x)) (each_holds P (λ e. e.0) (λ e. e.1) y.sub.items)))
