-- What a step takes, and what is wanted then.
use Rattle.std.proofs.Common.{◌≡◌, ◌∙◌, sym, ap, subst, refl, ℕ, zero, suc, ◌+◌, ◌-◌, ◌*◌, ◌^◌, ◌<◌, ◌≤◌, min}
use Rattle.std.proofs.Common.{arith, List, [], ◌∷◌, ◌++◌, length, take, drop, get_or, append_assoc, true, false}
use Rattle.std.specs.Prelude.{◌↔◌, nat_eq, ◌&&◌}
use Rattle.std.proofs.lemmas.List.{append-nil, length-drop, take-append-drop, length-take-le}
use Rattle.std.proofs.lemmas.Bool.{and_parts, eqb-true}
use Rattle.std.proofs.Math.Seq.{drop-cons}
use Rattle.rmp_wire.specs.Msg.{no_items}
use Rattle.rmp_wire.specs.Spelling.{IsBytes}
use Rattle.rmp_wire.specs.Taking.{marker_of}
use Rattle.rmp_wire.proofs.Taken.{bytes_from, bytes_parts}
use Rattle.rmp_scan.specs.declared.length.Length.{Length}
use Rattle.rmp_scan.specs.declared.opening.Counts.{Counts}
use Rattle.rmp_scan.specs.declared.opening.Opening.TheVariants.{Fixed, Counted, Reserved}
use Rattle.rmp_scan.specs.declared.want.Next.{Next}
use Rattle.rmp_scan.specs.declared.want.Next.TheVariants as next
use Rattle.rmp_scan.specs.declared.want.Want.{Want}
use Rattle.rmp_scan.specs.Completes.{CompletesNext, Completes, least_next, least_of, is_whole_at, is_whole, Steps, Sticks, Reaches, StaysShort}
use Rattle.rmp_scan.specs.Openings.{SpellsSome, WantsPayload, WantsLength, opening_of, Opens, Passes, Reads}
use Rattle.rmp_scan.proofs.FirstByte.{byte_opens, reserved_is, parts_few}
use Rattle.rmp_scan.proofs.Passing.{payload_moves, no_payload}

abbrev Same : Type 0 → Type 0 → Type 0
Same p q = p ↔ q

pub chain : {p q r : Type 0} → (p ↔ q) → (q ↔ r) → p ↔ r
chain f g = (λ x. g.0 (f.0 x), λ z. f.1 (g.1 z))

back : {p q : Type 0} → (p ↔ q) → q ↔ p
back f = (f.1, f.0)

pub same_of : {A : Type 0} (P : A → Type 0) (x y : A) → x ≡ y → P x ↔ P y
same_of P x y e = (subst P e, subst P (sym e))

-- where messages come next
pub messages_next : (want : Want) (xs : List ℕ) → want.next ≡ next.Payload 0 → Completes want xs ↔ SpellsSome want.messages xs
messages_next want xs e = chain (same_of (λ z. CompletesNext z want.messages xs) want.next (next.Payload 0) e) (no_payload want.messages xs)

pub small_steps : (want : Want) (bytes : List ℕ) (most w at messages : ℕ) → want.next ≡ next.Payload 0 → 0 < at → at ≤ length bytes
    → Passes (take at bytes) most w → most ≤ want.messages → messages ≡ want.messages - most + w → w ≤ most + 30 * at
    → Steps want bytes (record { next = next.Payload 0; messages = messages }) at
small_steps want bytes most w at messages e some l p few m c =
    let least : least_of want ≡ want.messages = ap (λ z. least_next z + want.messages) e ∙ (let z : 0 + want.messages ≡ want.messages = omega arith in z) in
    record {
      some = some;
      within = l;
      moves = λ r.
          let k : ℕ = want.messages - most in
          let n1 : want.messages ≡ most + k = omega (arith, few) in
          let n2 : w + k ≡ messages = omega (arith, m) in
          chain (messages_next want (take at bytes ++ r) e)
          (chain (same_of (λ z. SpellsSome z (take at bytes ++ r)) want.messages (most + k) n1)
          (chain (p k r) (chain (same_of (λ z. SpellsSome z r) (w + k) messages n2) (back (no_payload messages r)))));
      claims = omega (arith, least, m, c, few);
    }

take_one : (bytes : List ℕ) → 0 < length bytes → take 1 bytes ≡ get_or bytes 0 0 ∷ []
take_one [] l = absurd (omega arith)
take_one (b ∷ bytes) l = refl

pub fixed_steps : (want : Want) (bytes : List ℕ) (payload parts payload' messages : ℕ) → want.next ≡ next.Payload 0 → 0 < want.messages → 0 < length bytes
    → get_or bytes 0 0 < 256 → Fixed payload parts ≡ opening_of (marker_of (get_or bytes 0 0)) → payload' ≡ payload
    → messages ≡ parts + (want.messages - 1) → Steps want bytes (record { next = next.Payload payload'; messages = messages }) 1
fixed_steps want bytes payload parts payload' messages e some l small o pe m =
    let least : least_of want ≡ want.messages = ap (λ z. least_next z + want.messages) e ∙ (let z : 0 + want.messages ≡ want.messages = omega arith in z) in
    let few = parts_few (get_or bytes 0 0) payload parts small o in
    let b : ℕ = get_or bytes 0 0 in
    let opens : Opens b (Fixed payload parts) = subst (Opens b) (sym o) (byte_opens b small) in
    let n1 : want.messages ≡ suc (want.messages - 1) = omega (arith, some) in
    record {
      some = omega arith;
      within = omega (arith, l);
      moves = λ r.
          chain (messages_next want (take 1 bytes ++ r) e)
          (chain (same_of (λ z. SpellsSome want.messages (z ++ r)) (take 1 bytes) (b ∷ []) (take_one bytes l))
          (chain (same_of (λ z. SpellsSome z (b ∷ r)) want.messages (suc (want.messages - 1)) n1)
          (chain (opens (want.messages - 1) r)
          (chain (same_of (λ z. WantsPayload z (parts + (want.messages - 1)) r) payload payload' (sym pe))
          (same_of (λ z. WantsPayload payload' z r) (parts + (want.messages - 1)) messages (sym m))))));
      claims = omega (arith, least, m, few, pe, some);
    }

pub counted_steps : (want : Want) (bytes : List ℕ) (counts : Counts) (width : ℕ) (l : Length) → want.next ≡ next.Payload 0 → 0 < want.messages
    → 0 < length bytes → get_or bytes 0 0 < 256 → Counted counts width ≡ opening_of (marker_of (get_or bytes 0 0)) → l.counts ≡ counts → l.missing ≡ width
    → l.value ≡ 0 → width ≤ 4 → Steps want bytes (record { next = next.Length l; messages = want.messages - 1 }) 1
counted_steps want bytes counts width l e some long small o ec em ev narrow =
    let least : least_of want ≡ want.messages = ap (λ z. least_next z + want.messages) e ∙ (let z : 0 + want.messages ≡ want.messages = omega arith in z) in
    let b : ℕ = get_or bytes 0 0 in
    let opens : Opens b (Counted counts width) = subst (Opens b) (sym o) (byte_opens b small) in
    let n1 : want.messages ≡ suc (want.messages - 1) = omega (arith, some) in
    let others : ℕ = want.messages - 1 in
    record {
      some = omega arith;
      within = omega (arith, long);
      moves = λ r.
          chain (messages_next want (take 1 bytes ++ r) e)
          (chain (same_of (λ z. SpellsSome want.messages (z ++ r)) (take 1 bytes) (b ∷ []) (take_one bytes long))
          (chain (same_of (λ z. SpellsSome z (b ∷ r)) want.messages (suc others) n1)
          (chain (opens others r)
          (chain (same_of (λ z. WantsLength z width 0 others r) counts l.counts (sym ec))
          (chain (same_of (λ z. WantsLength l.counts z 0 others r) width l.missing (sym em))
          (same_of (λ z. WantsLength l.counts l.missing z others r) 0 l.value (sym ev)))))));
      claims = omega (arith, least, em, narrow, some);
    }

pub reserved_sticks : (want : Want) (bytes : List ℕ) → want.next ≡ next.Payload 0 → 0 < want.messages → 0 < length bytes → get_or bytes 0 0 < 256
    → Reserved ≡ opening_of (marker_of (get_or bytes 0 0)) → Sticks want bytes
reserved_sticks want bytes e some l small o = record {
  ready = e;
  wanted = some;
  following = drop 1 bytes;
  there = drop-cons bytes 0 0 l ∙ ap (λ z. z ∷ drop 1 bytes) (reserved_is (get_or bytes 0 0) small o);
}

pub payload_steps : (want : Want) (bytes : List ℕ) (n passed : ℕ) → want.next ≡ next.Payload n → 0 < n → 0 < length bytes → passed ≡ min n (length bytes)
    → ((i : ℕ) → get_or bytes i 0 < 256) → Steps want bytes (record { next = next.Payload (n - passed); messages = want.messages }) passed
payload_steps want bytes n passed e some l m small =
    let least : least_of want ≡ n + want.messages = ap (λ z. least_next z + want.messages) e in
    let t : List ℕ = take passed bytes in
    let long : length t ≡ passed = length-take-le passed bytes (omega (arith, m)) in
    let own : IsBytes t = (bytes_parts t (drop passed bytes) (subst IsBytes (sym (take-append-drop passed bytes)) (bytes_from bytes small))).0 in
    let sum : n ≡ length t + (n - passed) = omega (arith, long, m) in
    record {
      some = omega (arith, m, some, l);
      within = omega (arith, m);
      moves = λ r.
          chain (same_of (λ z. CompletesNext z want.messages (t ++ r)) want.next (next.Payload n) e)
          (chain (same_of (λ z. WantsPayload z want.messages (t ++ r)) n (length t + (n - passed)) sum) (payload_moves t r (n - passed) want.messages own));
      claims = omega (arith, least);
    }

pub length_steps : (want want' : Want) (bytes : List ℕ) (l : Length) (missing value read : ℕ) → want.next ≡ next.Length l
    → Reads l.counts l.missing l.value (take read bytes) missing value → 0 < read → read ≤ length bytes → missing ≤ l.missing
    → ((r : List ℕ) → WantsLength l.counts missing value want.messages r ↔ Completes want' r) → least_of want' ≤ missing + want.messages + 2 ^ 33
    → Steps want bytes want' read
length_steps want want' bytes l missing value read e reads some long fewer same c =
    let least : least_of want ≡ l.missing + want.messages = ap (λ z. least_next z + want.messages) e in
    record {
      some = some;
      within = long;
      moves = λ r.
          chain (same_of (λ z. CompletesNext z want.messages (take read bytes ++ r)) want.next (next.Length l) e)
          (chain (reads want.messages r) (same r));
      claims = omega (arith, least, c, fewer, some);
    }

-- ---- steps in a row

pub reaches_start : (want : Want) (piece : List ℕ) → Reaches want piece 0 want
reaches_start want piece = record { within = omega arith; moves = λ r. (λ s. s, λ s. s); claims = omega arith }

take_split : (at k : ℕ) (xs : List ℕ) → at + k ≤ length xs → take (at + k) xs ≡ take at xs ++ take k (drop at xs)
take_split zero k xs l = ap (λ z. take z xs) (let e : 0 + k ≡ k = omega arith in e)
take_split (suc at) k [] l = absurd (omega arith)
take_split (suc at) k (x ∷ xs) l =
    let e : suc at + k ≡ suc (at + k) = omega arith in
    ap (λ z. take z (x ∷ xs)) e ∙ ap (λ z. x ∷ z) (take_split at k xs (omega arith))

pub reaches_more : (want want' want'' : Want) (piece bytes : List ℕ) (at k : ℕ) → Reaches want piece at want' → bytes ≡ drop at piece → Steps want' bytes want'' k
    → Reaches want piece (at + k) want''
reaches_more want want' want'' piece bytes at k a e s =
    let l1 = a.within in
    let l2 = s.within in
    let c1 = a.claims in
    let c2 = s.claims in
    let within : at + k ≤ length piece = omega (arith, l1, l2, ap length e, length-drop at piece) in
    record {
      within = within;
      moves = λ r.
          let t : List ℕ = take at piece in
          let u : List ℕ = take k (drop at piece) in
          let split : take (at + k) piece ++ r ≡ t ++ (u ++ r) = ap (λ z. z ++ r) (take_split at k piece within) ∙ append_assoc t u r in
          chain (same_of (Completes want) (take (at + k) piece ++ r) (t ++ (u ++ r)) split)
          (chain (a.moves (u ++ r)) (chain (same_of (λ z. Completes want' (take k z ++ r)) (drop at piece) bytes (sym e)) (s.moves r)));
      claims = omega (arith, c1, c2);
    }

-- ---- the end

whole_is : (n : Next) (m : ℕ) → is_whole_at n m ≡ true → CompletesNext n m []
whole_is (next.Payload k) m e =
    let both = and_parts (nat_eq k 0) (nat_eq m 0) e in
    let k0 : k ≡ 0 = eqb-true k 0 both.0 in
    let m0 : m ≡ 0 = eqb-true m 0 both.1 in
    record {
      first = [];
      second = [];
      is_first = (sym k0, tt);
      is_second = record { trees = no_items; many = sym m0; spelled = refl };
      is_whole = refl;
    }
whole_is (next.Length l) m e = absurd (cc)

pub whole_completes : (want : Want) → is_whole want ≡ true → Completes want []
whole_completes want e = whole_is want.next want.messages e

whole_least : (n : Next) (m : ℕ) → is_whole_at n m ≡ true → least_next n + m ≡ 0
whole_least (next.Payload k) m e =
    let both = and_parts (nat_eq k 0) (nat_eq m 0) e in
    let k0 : k ≡ 0 = eqb-true k 0 both.0 in
    let m0 : m ≡ 0 = eqb-true m 0 both.1 in
    omega (arith, k0, m0)
whole_least (next.Length l) m e = absurd (cc)

none_wanted : (k m : ℕ) → k + m ≡ 0 → (nat_eq k 0 && nat_eq m 0) ≡ true
none_wanted zero zero e = refl
none_wanted zero (suc m) e = absurd (omega arith)
none_wanted (suc k) m e = absurd (omega arith)

unfinished_next : (n : Next) (m : ℕ) → is_whole_at n m ≡ false → least_next n + m ≡ 0 → ⊥
unfinished_next (next.Payload k) m e z = let t = none_wanted k m z in absurd (cc)
unfinished_next (next.Length l) m e z = let s = l.some in absurd (omega (arith, s, z))

pub some_or_none : (n : ℕ) → (n ≡ 0 → ⊥) → 0 < n
some_or_none zero f = absurd (f refl)
some_or_none (suc n) f = omega arith

pub unfinished : (want : Want) → is_whole want ≡ false → 0 < least_of want
unfinished want e = some_or_none (least_of want) (unfinished_next want.next want.messages e)

-- a message ends with these bytes of the piece
pub ends : (want want' : Want) (piece : List ℕ) (at room : ℕ) → Reaches want piece at want' → is_whole want' ≡ true → at + least_of want' ≤ room
    → (at ≤ length piece) × Completes want (take at piece) × (at ≤ room)
ends want want' piece at room a e l = (
  a.within,
  subst (Completes want) (append-nil (take at piece)) ((a.moves []).1 (whole_completes want' e)),
  (let k = whole_least want'.next want'.messages e in omega (arith, l, k)),
)

-- the piece ends first
pub stays : (want want' : Want) (piece : List ℕ) (at room : ℕ) → Reaches want piece at want' → is_whole want' ≡ false → at + least_of want' ≤ room
    → length piece ≤ at → StaysShort want piece room want'
stays want want' piece at room a e l end =
    let within = a.within in
    let same : at ≡ length piece = omega (arith, within, end) in
    record {
      reaches = subst (λ z. Reaches want piece z want') same a;
      unfinished = unfinished want' e;
      short = omega (arith, l, same);
    }
