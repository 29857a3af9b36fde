-- What recursive types share that hold parts which are known by their traits alone: sameness in one way of writing the parts by sameness in each.
use Rattle.std.proofs.Common.{List, [], ◌∷◌, Option, None, Some}
use Rattle.std.specs.declared.cmp.Ordering.{Ordering}
use Rattle.rmp_round_trip.specs.RoundTrip.{Alike, AlikeEntries, AlikeOption}

pub alike_as : {V : Type 0} (P Q : V → V → Type 0) → ((v w : V) → P v w → Q v w) → (vs ws : List V) → Alike P vs ws → Alike Q vs ws
alike_as P Q f [] [] h = tt
alike_as P Q f [] (w ∷ ws) h = absurd h
alike_as P Q f (v ∷ vs) [] h = absurd h
alike_as P Q f (v ∷ vs) (w ∷ ws) h = (f v w h.0, alike_as P Q f vs ws h.1)

pub alike_option_as : {V : Type 0} (P Q : V → V → Type 0) → ((v w : V) → P v w → Q v w) → (o p : Option V) → AlikeOption P o p → AlikeOption Q o p
alike_option_as P Q f None None h = tt
alike_option_as P Q f None (Some w) h = absurd h
alike_option_as P Q f (Some v) None h = absurd h
alike_option_as P Q f (Some v) (Some w) h = f v w h

pub entries_as : {K V : Type 0} (cmp : K → K → Ordering) (keys : K → K → Type 0) (P Q : V → V → Type 0) → ((v w : V) → P v w → Q v w)
    → (es fs : List (K × V)) → AlikeEntries cmp keys P es fs → AlikeEntries cmp keys Q es fs
entries_as {K} {V} cmp keys P Q f es fs (ns, h, c) =
    (ns, alike_as (λ (e f : K × V). keys e.0 f.0 × P e.1 f.1) (λ (e f : K × V). keys e.0 f.0 × Q e.1 f.1) (λ e g h. (h.0, f e.1 g.1 h.1)) es ns h, c)
