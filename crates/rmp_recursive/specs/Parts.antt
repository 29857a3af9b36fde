-- What recursive types share: their readings by steps, their parts, and what holds of each part.
use Rattle.std.proofs.Common.{◌≡◌, refl, subst, arith, ℕ, zero, suc, ◌+◌, List, [], ◌∷◌, All, Option, None, Some, MatchOption}
use Rattle.std.proofs.Common as common
use Rattle.std.specs.List.{AllByRecursion}
use Rattle.std.proofs.lemmas.List.Elements.{All-nil, All-cons, All-head, All-tail}
use Rattle.std.specs.Prelude.{Box, IfSome}
use Rattle.std.specs.declared.alloc.Global.{Global}
use Rattle.rmp_wire.specs.Msg.{Msg, nil, truth, whole, float32, float64, text, bin, list, map, extension, Msgs, no_items, item}
use Rattle.rmp_decode.specs.Options.{IsOption}
use Rattle.rmp_decode.specs.Rows.{ReadsEach, AndThen}
use Rattle.rmp_decode.specs.Seq.{OfRow, numbers}
use Rattle.rmp_decode.specs.Variants.{OfVariant, variant_of}

-- a list, or bytes as the list of their numbers, of which each item is read so
abbrev pub Row : {V : Type 0} → (Msg → V → Type 0) → Msg → List V → Type 0
Row reads m vs = OfRow (λ ms. ReadsEach reads ms vs) m

-- a value in a box
abbrev pub Boxed : {V : Type 0} → (Msg → V → Type 0) → Msg → Box V Global → Type 0
Boxed reads m b = reads m b.value

-- in some number of steps the message is read as the value
abbrev pub InSteps : {V : Type 0} → (ℕ → Msg → V → Type 0) → Msg → V → Type 0
InSteps reads m v = (n : ℕ) × reads n m v

-- a list, or bytes as the list of their numbers, of whose items more is said
pub of_row_as : (P Q : Msgs → Type 0) → ((ms : Msgs) → P ms → Q ms) → (m : Msg) → OfRow P m → OfRow Q m
of_row_as P Q f nil h = h
of_row_as P Q f (truth t) h = h
of_row_as P Q f (whole z) h = h
of_row_as P Q f (float32 n) h = h
of_row_as P Q f (float64 n) h = h
of_row_as P Q f (text s) h = h
of_row_as P Q f (bin s) h = f (numbers s) h
of_row_as P Q f (list ms) h = f ms h
of_row_as P Q f (map ps) h = h
of_row_as P Q f (extension tag s) h = h

pub of_row_in : (P : Msgs → Type 0) (Q : ℕ → Msgs → Type 0) → ((ms : Msgs) → P ms → (n : ℕ) × Q n ms) → (m : Msg) → OfRow P m → (n : ℕ) × OfRow (Q n) m
of_row_in P Q f nil h = absurd h
of_row_in P Q f (truth t) h = absurd h
of_row_in P Q f (whole z) h = absurd h
of_row_in P Q f (float32 n) h = absurd h
of_row_in P Q f (float64 n) h = absurd h
of_row_in P Q f (text s) h = absurd h
of_row_in P Q f (bin s) h = f (numbers s) h
of_row_in P Q f (list ms) h = f ms h
of_row_in P Q f (map ps) h = absurd h
of_row_in P Q f (extension tag s) h = absurd h

each_as : {V : Type 0} (P Q : Msg → V → Type 0) → ((m : Msg) (v : V) → P m v → Q m v) → (ms : Msgs) (vs : List V) → ReadsEach P ms vs → ReadsEach Q ms vs
each_as P Q f no_items [] h = tt
each_as P Q f no_items (v ∷ vs) h = absurd h
each_as P Q f (item m ms) [] h = absurd h
each_as P Q f (item m ms) (v ∷ vs) h = (f m v h.0, each_as P Q f ms vs h.1)

pub row_as : {V : Type 0} (P Q : Msg → V → Type 0) → ((m : Msg) (v : V) → P m v → Q m v) → (m : Msg) (vs : List V) → Row P m vs → Row Q m vs
row_as P Q f m vs h = of_row_as (λ ms. ReadsEach P ms vs) (λ ms. ReadsEach Q ms vs) (λ ms. each_as P Q f ms vs) m h

-- two facts, each in its number of steps, so both in one
raise : (P : ℕ → Type 0) → ((n : ℕ) → P n → P (suc n)) → (k n j : ℕ) → k + n ≡ j → P n → P j
raise P up zero n j e h = let same : n ≡ j = omega (arith, e) in subst P same h
raise P up (suc k) n j e h = raise P up k (suc n) j (omega (arith, e)) (up n h)

pub both_in : (P Q : ℕ → Type 0) → ((n : ℕ) → P n → P (suc n)) → ((n : ℕ) → Q n → Q (suc n)) → (i : ℕ) → P i → (j : ℕ) → Q j → (n : ℕ) × (P n × Q n)
both_in P Q up over i p j q = let n = i + j in (n, (raise P up j i n (omega arith) p, raise Q over i j n refl q))

-- each in its number of steps, so all in one
module _ {V : Type 0} (P : ℕ → Msg → V → Type 0) (up : (n : ℕ) (m : Msg) (v : V) → P n m v → P (suc n) m v) where
  each_in : (ms : Msgs) (vs : List V) → ReadsEach (InSteps P) ms vs → (n : ℕ) × ReadsEach (P n) ms vs
  each_in no_items [] h = (zero, tt)
  each_in no_items (v ∷ vs) h = absurd h
  each_in (item m ms) [] h = absurd h
  each_in (item m ms) (v ∷ vs) ((n, p), q) =
      let i = each_in ms vs q in
      both_in (λ j. P j m v) (λ j. ReadsEach (P j) ms vs) (λ j. up j m v) (λ j. each_as (P j) (P (suc j)) (up j) ms vs) n p i.0 i.1

  pub row_in : (m : Msg) (vs : List V) → Row (InSteps P) m vs → (n : ℕ) × Row (P n) m vs
  row_in m vs h = of_row_in (λ ms. ReadsEach (InSteps P) ms vs) (λ n ms. ReadsEach (P n) ms vs) (λ ms. each_in ms vs) m h

-- ---- items one after another

pub then_as : (P Q : Msg → Type 0) (X Y : Msgs → Type 0) → ((m : Msg) → P m → Q m) → ((ms : Msgs) → X ms → Y ms) → (ms : Msgs) → AndThen P X ms
    → AndThen Q Y ms
then_as P Q X Y f rest no_items h = absurd h
then_as P Q X Y f rest (item m ms) h = (f m h.0, rest ms h.1)

pub then_in : (P : Msg → Type 0) (Q : ℕ → Msg → Type 0) (X : Msgs → Type 0) (Y : ℕ → Msgs → Type 0) → ((n : ℕ) (m : Msg) → Q n m → Q (suc n) m)
    → ((n : ℕ) (ms : Msgs) → Y n ms → Y (suc n) ms) → ((m : Msg) → P m → (n : ℕ) × Q n m) → ((ms : Msgs) → X ms → (n : ℕ) × Y n ms) → (ms : Msgs)
    → AndThen P X ms → (n : ℕ) × AndThen (Q n) (Y n) ms
then_in P Q X Y up over f rest no_items h = absurd h
then_in P Q X Y up over f rest (item m ms) h =
    let i = f m h.0 in
    let j = rest ms h.1 in
    both_in (λ n. Q n m) (λ n. Y n ms) (λ n. up n m) (λ n. over n ms) i.0 i.1 j.0 j.1

-- ---- options

pub option_as : {V : Type 0} (P Q : Msg → V → Type 0) → ((m : Msg) (v : V) → P m v → Q m v) → (m : Msg) (o : Option V) → IsOption P m o → IsOption Q m o
option_as P Q f m None h = h
option_as P Q f m (Some v) h = (h.0, f m v h.1)

pub option_in : {V : Type 0} (P : ℕ → Msg → V → Type 0) (m : Msg) (o : Option V) → IsOption (InSteps P) m o → (n : ℕ) × IsOption (P n) m o
option_in P m None h = (zero, h)
option_in P m (Some v) h = (h.1.0, (h.0, h.1.1))

pub option_from : {X : Type 0} (P Q : X → Type 0) (o : Option X) → IfSome o (λ x. P x → Q x) → IfSome o P → IfSome o Q
option_from P Q None h fit = tt
option_from P Q (Some x) h fit = h fit

-- ---- enums

pub variant_as : (names : List (List ℕ)) (P Q : ℕ × Option Msg → Type 0) → ((k : ℕ) (c : Option Msg) → P (k, c) → Q (k, c)) → (m : Msg)
    → OfVariant names P m → OfVariant names Q m
unfolding OfVariant
variant_as names P Q f m h = go (variant_of names m) h
  where
    go : (x : Option (ℕ × Option Msg)) → MatchOption x ⊥ P → MatchOption x ⊥ Q
    go None h = h
    go (Some p) h = f p.0 p.1 h

-- the content is read in some number of steps, so the variant is
pub variant_in : (names : List (List ℕ)) (P : ℕ × Option Msg → Type 0) (Q : ℕ → ℕ × Option Msg → Type 0)
    → ((k : ℕ) (c : Option Msg) → P (k, c) → (n : ℕ) × Q n (k, c)) → (m : Msg) → OfVariant names P m → (n : ℕ) × OfVariant names (Q n) m
unfolding OfVariant
variant_in names P Q f m h = go (variant_of names m) h
  where
    go : (x : Option (ℕ × Option Msg)) → MatchOption x ⊥ P → (n : ℕ) × MatchOption x ⊥ (Q n)
    go None h = absurd h
    go (Some p) h = f p.0 p.1 h

-- ---- lists of parts

pub each_holds : {A B : Type 0} (P : A → Type 0) (first : B → A) → ((b : B) → P (first b)) → (bs : List B) → All P (common.map first bs)
each_holds P first h [] = All-nil P
each_holds P first h (b ∷ bs) = All-cons P (first b) (common.map first bs) (h b) (each_holds P first h bs)

pub through : {X T : Type 0} (at : X → T) (k : T → Type 0) (xs : List X) → AllByRecursion (λ p. k (at p)) xs ≡ AllByRecursion k (common.map at xs)
through at k [] = refl
through at k (x ∷ xs) = common.ap (λ t. k (at x) × t) (through at k xs)

pub all_by : {X : Type 0} (P : X → Type 0) (xs : List X) → All P xs → AllByRecursion P xs
all_by P [] h = tt
all_by P (x ∷ xs) h = (All-head P x xs h, all_by P xs (All-tail P x xs h))

-- what follows for each part from what is known of it
pub each_from : {X : Type 0} (P Q : X → Type 0) (xs : List X) → All (λ x. P x → Q x) xs → AllByRecursion P xs → All Q xs
each_from P Q [] h fit = All-nil Q
each_from P Q (x ∷ xs) h fit = All-cons Q x xs (All-head (λ x. P x → Q x) x xs h fit.0) (each_from P Q xs (All-tail (λ x. P x → Q x) x xs h) fit.1)
