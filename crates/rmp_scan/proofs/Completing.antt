-- What is wanted can be had, and takes so many bytes at least.
use Rattle.std.proofs.Common.{◌≡◌, ◌∙◌, sym, ap, subst, refl, ℕ, zero, suc, ◌+◌, ◌*◌, ◌≤◌, ◌⊎◌, inl, inr, arith, List, [], ◌∷◌, ◌++◌, length}
use Rattle.std.proofs.lemmas.List.{append-nil, length-append}
use Rattle.rmp_wire.specs.Heads.{IsHead}
use Rattle.rmp_wire.specs.declared.head.Head.TheVariants.{Nil}
use Rattle.rmp_wire.specs.Msg.{nil, Msgs, no_items, item, count}
use Rattle.rmp_wire.specs.Spelling.{SpellsAll}
use Rattle.rmp_scan.specs.declared.opening.Counts.{Counts}
use Rattle.rmp_scan.specs.declared.want.Next.{Next}
use Rattle.rmp_scan.specs.declared.want.Next.TheVariants as next
use Rattle.rmp_scan.specs.declared.want.Want.{Want}
use Rattle.rmp_scan.specs.Completes.{CompletesNext, Completes, least_next, least_of}
use Rattle.rmp_scan.specs.Openings.{SpellsSome, WantsPayload, WantsLength, payload_of, parts_of}
use Rattle.rmp_scan.proofs.FirstByte.{zeros, length-zeros, zeros_bytes, number, wants}
use Rattle.rmp_scan.proofs.Rows.{some_head}

-- ---- at least so many bytes

some_long : (n : ℕ) (ms : Msgs) (bytes : List ℕ) → count ms ≡ n → SpellsAll bytes ms → n ≤ length bytes
some_long n no_items bytes c s = omega (arith, c)
some_long n (item m ms) bytes c s =
    let i = some_long (count ms) ms s.second refl s.is_second in
    let one : SpellsSome 1 s.first = record {
      trees = item m no_items;
      many = refl;
      spelled = record { first = s.first; second = []; is_first = s.is_first; is_second = refl; is_whole = sym (append-nil s.first) };
    } in
    let h = some_head 0 s.first one in
    omega (arith, c, i, ap length h.front, ap length s.is_whole, length-append s.first s.second)

pub long_some : (n : ℕ) (bytes : List ℕ) → SpellsSome n bytes → n ≤ length bytes
long_some n bytes s = some_long n s.trees bytes s.many s.spelled

long_payload : (k n : ℕ) (bytes : List ℕ) → WantsPayload k n bytes → k + n ≤ length bytes
long_payload k n bytes j =
    let l = j.is_first.0 in
    omega (arith, l, long_some n j.second j.is_second, ap length j.is_whole, length-append j.first j.second)

long_length : (counts : Counts) (missing value n : ℕ) (bytes : List ℕ) → WantsLength counts missing value n bytes → missing + n ≤ length bytes
long_length counts zero value n bytes j = omega (arith, long_payload (payload_of counts value) (parts_of counts value + n) bytes j)
long_length counts (suc missing) value n [] j = absurd j
long_length counts (suc missing) value n (b ∷ bytes) j = let i = long_length counts missing (256 * value + b) n bytes j.1 in omega (arith, i)

long_next : (x : Next) (n : ℕ) (bytes : List ℕ) → CompletesNext x n bytes → least_next x + n ≤ length bytes
long_next (next.Payload k) n bytes j = long_payload k n bytes j
long_next (next.Length l) n bytes j = long_length l.counts l.missing l.value n bytes j

pub at_least : (want : Want) (bytes : List ℕ) → Completes want bytes → least_of want ≤ length bytes
at_least want bytes c = long_next want.next want.messages bytes c

-- ---- and there are some

abbrev pub nils : ℕ → List ℕ
nils zero = []
nils (suc n) = 0xc0 ∷ nils n

nil_head : IsHead Nil (0xc0 ∷ [])
unfolding IsHead
nil_head = refl

nil_trees : ℕ → Msgs
nil_trees zero = no_items
nil_trees (suc n) = item nil (nil_trees n)

nils_many : (n : ℕ) → count (nil_trees n) ≡ n
unfolding nil_trees
nils_many zero = refl
nils_many (suc n) = ap suc (nils_many n)

nils_spelled : (n : ℕ) → SpellsAll (nils n) (nil_trees n)
unfolding nil_trees
nils_spelled zero = refl
nils_spelled (suc n) = record { first = 0xc0 ∷ []; second = nils n; is_first = nil_head; is_second = nils_spelled n; is_whole = refl }

pub nils_some : (n : ℕ) → SpellsSome n (nils n)
nils_some n = record { trees = nil_trees n; many = nils_many n; spelled = nils_spelled n }

some_next : (x : Next) (n : ℕ) → (bytes : List ℕ) × CompletesNext x n bytes
some_next (next.Payload k) n = (
  zeros k ++ nils n,
  record { first = zeros k; second = nils n; is_first = (length-zeros k, zeros_bytes k); is_second = nils_some n; is_whole = refl },
)
some_next (next.Length l) n =
    let q : List ℕ = zeros l.missing in
    let k : ℕ = payload_of l.counts (number l.value q) in
    let m : ℕ = parts_of l.counts (number l.value q) + n in (
      q ++ (zeros k ++ nils m),
      subst (λ z. WantsLength l.counts z l.value n (q ++ (zeros k ++ nils m))) (length-zeros l.missing)
          (wants l.counts q l.value n (zeros k) (nils m) (zeros_bytes l.missing) (length-zeros k, zeros_bytes k) (nils_some m)),
    )

pub completed : (want : Want) → (bytes : List ℕ) × Completes want bytes
completed want = some_next want.next want.messages

-- ---- of two beginnings of the same bytes, one begins with the other

pub beginnings : (a x b y : List ℕ) → a ++ x ≡ b ++ y
    → ((q : List ℕ) × (a ≡ b ++ q) × (y ≡ q ++ x)) ⊎ ((q : List ℕ) × (b ≡ a ++ q) × (x ≡ q ++ y))
beginnings [] x b y e = inr (b, refl, e)
beginnings (c ∷ a) x [] y e = inl (c ∷ a, refl, sym e)
beginnings (c ∷ a) x (d ∷ b) y e =
    let head : c ≡ d = cc in
    let tail : a ++ x ≡ b ++ y = cc in
    elim (beginnings a x b y tail) [
      | inl p ↦ inl (p.0, ap (λ z. z ∷ a) head ∙ ap (λ z. d ∷ z) p.1, p.2)
      | inr p ↦ inr (p.0, ap (λ z. z ∷ b) (sym head) ∙ ap (λ z. c ∷ z) p.1, p.2)
    ]

pub nothing : (a b : List ℕ) → a ++ b ≡ [] → (a ≡ []) × (b ≡ [])
nothing [] b e = (refl, e)
nothing (c ∷ a) b e = absurd (omega (arith, ap length e))
