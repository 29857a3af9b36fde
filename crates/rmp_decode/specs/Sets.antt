-- What types read of the items of a list, where equal ones are one.
use Rattle.std.specs.Prelude.{◌≡◌, true, false, List, [], ◌++◌}
use Rattle.std.specs.BTreeMap.{is_at}
use Rattle.std.specs.List.{find}
use Rattle.std.specs.List.Sorted.{IsStrictlySortedBy}
use Rattle.std.specs.declared.cmp.Ordering.{Ordering}
use Rattle.rmp_wire.specs.Msg.{Msg}
use Rattle.rmp_decode.specs.Rows.{ReadsEach}
use Rattle.rmp_decode.specs.Seq.{OfRow}
use Rattle.rmp_decode.specs.declared.de.sets.Keys.{Keys}

-- the keys that elements make: in order, and of equal ones the first
pub record CollectsKeys {K : Type 0} (cmp : K → K → Ordering) (elements keys : List K) : Type 0 where
  pub ordered : IsStrictlySortedBy cmp keys
  pub first : (q : K) → find (is_at (cmp q)) keys ≡ find (is_at (cmp q)) elements

-- a list or bytes whose elements make these keys
abbrev pub ReadsKeys : {K : Type 0} → (K → K → Ordering) → (Msg → K → Type 0) → List K → Msg → Type 0
ReadsKeys {K} cmp reads ks m = OfRow (λ ms. (ns : List K) × ReadsEach reads ms ns × CollectsKeys cmp ns ks) m

-- the keys of a large set that were read so far: those in the row, and those in the set
abbrev pub keys_so_far : {K : Type 0} → Keys K → List K
keys_so_far s = s.row.items ++ s.keys.keys

-- they are in the row alone, or in the set alone
pub record IsEitherPlace {K : Type 0} (s : Keys K) : Type 0 where
  pub in_row : s.in_row ≡ true → s.keys.keys ≡ []
  pub in_set : s.in_row ≡ false → s.row.items ≡ []
