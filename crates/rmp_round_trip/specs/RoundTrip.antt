-- What it means that values are read as they were written, and that nothing else is read there.
use Rattle.std.specs.Prelude.{Option, Some, None, IsSomeAnd, List, [], ◌∷◌}
use Rattle.std.specs.declared.cmp.Ordering.{Ordering}
use Rattle.rmp_encode.specs.Data.{Data}
use Rattle.rmp_encode.specs.Trees.{tree_of}
use Rattle.rmp_encode.specs.declared.settings.Settings.{Settings}
use Rattle.rmp_decode.specs.Maps.{Collects}
use Rattle.rmp_decode.specs.Sets.{CollectsKeys}
use Rattle.rmp_wire.specs.Msg.{Msg}

-- the value isn't refused, and P is true of the tree that it lowers to
abbrev pub LowersTo : Settings → Option Data → (Msg → Type 0) → Type 0
LowersTo s d P = IsSomeAnd (tree_of s d) P

-- whatever the message is read as has the content of v
abbrev pub Only : {V : Type 0} → (Msg → V → Type 0) → (V → V → Type 0) → Msg → V → Type 0
Only {V} reads same m v = (w : V) → reads m w → same v w

-- ---- values of the same content

-- one by one, they have the same content
abbrev pub Alike : {V : Type 0} → (V → V → Type 0) → List V → List V → Type 0
Alike same [] [] = Unit {0}
Alike same (v ∷ vs) (w ∷ ws) = same v w × Alike same vs ws
Alike same [] (w ∷ ws) = ⊥
Alike same (v ∷ vs) [] = ⊥

-- one by one, their keys have the same content, and their values
abbrev pub AlikePairs : {K V : Type 0} → (K → K → Type 0) → (V → V → Type 0) → List (K × V) → List (K × V) → Type 0
AlikePairs {K} {V} keys values es fs = Alike (λ (e f : K × V). keys e.0 f.0 × values e.1 f.1) es fs

-- both are none, or their values have the same content
abbrev pub AlikeOption : {V : Type 0} → (V → V → Type 0) → Option V → Option V → Type 0
AlikeOption same None None = Unit {0}
AlikeOption same (Some v) (Some w) = same v w
AlikeOption same None (Some w) = ⊥
AlikeOption same (Some v) None = ⊥

-- ls are the keys that elements make whose content is that of ks
abbrev pub AlikeKeys : {K : Type 0} → (K → K → Ordering) → (K → K → Type 0) → List K → List K → Type 0
AlikeKeys {K} cmp same ks ls = (ns : List K) × Alike same ks ns × CollectsKeys cmp ns ls

-- fs are the entries that pairs make whose content is that of es
abbrev pub AlikeEntries : {K V : Type 0} → (K → K → Ordering) → (K → K → Type 0) → (V → V → Type 0) → List (K × V) → List (K × V) → Type 0
AlikeEntries {K} {V} cmp keys values es fs = (ns : List (K × V)) × AlikePairs keys values es ns × Collects cmp ns fs
