-- A scan by the numbers of a scanner.
use Rattle.std.specs.Prelude.{◌↔◌, ◌<◌}
use Rattle.std.proofs.Common.{◌≡◌, ◌∙◌, ◌≤◌, ◌+◌, ◌*◌, ◌^◌, ◌⊎◌, inl, inr, ℕ, List, [], ◌++◌, length, Result, Ok, Err, Some, true, false}
use Rattle.std.proofs.Common.{refl, sym, ap, subst, arith}
use Rattle.rmp_decode.specs.declared.error.Error.{Error}
use Rattle.rmp_decode.specs.declared.error.Error.TheVariants as errors
use Rattle.rmp_decode.specs.declared.text.Text.TheVariants.{InvalidLength}
use Rattle.rmp_scan.specs.declared.opening.Counts.{Counts}
use Rattle.rmp_scan.specs.declared.opening.Counts.TheVariants.{Payload, Extension, Items, Pairs}
use Rattle.rmp_scan.specs.declared.scanner.Scan.{Scan}
use Rattle.rmp_scan.specs.declared.scanner.Scan.TheVariants.{Whole, More}
use Rattle.rmp_scan.specs.declared.scanner.Scanner.{Scanner}
use Rattle.rmp_scan.specs.declared.state.State.{State}
use Rattle.rmp_scan.specs.declared.want.Next.{Next}
use Rattle.rmp_scan.specs.declared.want.Next.TheVariants as next
use Rattle.rmp_scan.specs.Completes.{CompletesNext, Completes, least_next, least_of}
use Rattle.rmp_scan.specs.Openings.{WantsPayload, WantsLength}
use Rattle.rmp_scan.specs.Scans as scan
use Rattle.rmp_scan.specs.Scans.{MessageEnds, IsAfter, limit_of}
use Rattle.rmp_scan.specs.States.{number_of, IsNext, IsStateOf, Holds}
use Rattle.rmp_c.specs.Pieces.{Scans, is_too_long}

-- ---- two scanners of one state

above : (a : Counts) → number_of a ≡ 0 → ⊥
above Payload e = omega (arith, e)
above Extension e = omega (arith, e)
above Items e = omega (arith, e)
above Pairs e = omega (arith, e)

one_number : (a b : Counts) → number_of a ≡ number_of b → a ≡ b
one_number Payload Payload e = refl
one_number Payload Extension e = absurd (omega (arith, e))
one_number Payload Items e = absurd (omega (arith, e))
one_number Payload Pairs e = absurd (omega (arith, e))
one_number Extension Payload e = absurd (omega (arith, e))
one_number Extension Extension e = refl
one_number Extension Items e = absurd (omega (arith, e))
one_number Extension Pairs e = absurd (omega (arith, e))
one_number Items Payload e = absurd (omega (arith, e))
one_number Items Extension e = absurd (omega (arith, e))
one_number Items Items e = refl
one_number Items Pairs e = absurd (omega (arith, e))
one_number Pairs Payload e = absurd (omega (arith, e))
one_number Pairs Extension e = absurd (omega (arith, e))
one_number Pairs Items e = absurd (omega (arith, e))
one_number Pairs Pairs e = refl

-- what completes the one completes the other
same_next : (p q : Next) (st : State) (n : ℕ) (rest : List ℕ) → IsNext p st → IsNext q st → CompletesNext p n rest → CompletesNext q n rest
same_next (next.Payload a) (next.Payload b) st n rest u v w = subst (λ k. WantsPayload k n rest) (sym u.1 ∙ v.1) w
same_next (next.Payload a) (next.Length b) st n rest u v w = absurd (above b.counts (sym v.0 ∙ u.0))
same_next (next.Length a) (next.Payload b) st n rest u v w = absurd (above a.counts (sym u.0 ∙ v.0))
same_next (next.Length a) (next.Length b) st n rest u v w =
    let counts : a.counts ≡ b.counts = one_number a.counts b.counts (sym u.0 ∙ v.0) in
    let value : a.value ≡ b.value = sym u.1 ∙ v.1 in
    let missing : a.missing ≡ b.missing = sym u.2 ∙ v.2 in
    subst (λ k. WantsLength k b.missing b.value n rest) counts
    (subst (λ k. WantsLength a.counts k b.value n rest) missing (subst (λ k. WantsLength a.counts a.missing k n rest) value w))

same_least : (p q : Next) (st : State) → IsNext p st → IsNext q st → least_next p ≡ least_next q
same_least (next.Payload a) (next.Payload b) st u v = sym u.1 ∙ v.1
same_least (next.Payload a) (next.Length b) st u v = absurd (above b.counts (sym v.0 ∙ u.0))
same_least (next.Length a) (next.Payload b) st u v = absurd (above a.counts (sym u.0 ∙ v.0))
same_least (next.Length a) (next.Length b) st u v = sym u.2 ∙ v.2

moved : (s t : Scanner) (st : State) (rest : List ℕ) → IsStateOf s st → IsStateOf t st → Completes s.want rest → Completes t.want rest
moved s t st rest is it w =
    same_next s.want.next t.want.next st t.want.messages rest is.next it.next
    (subst (λ k. CompletesNext s.want.next k rest) (is.messages ∙ sym it.messages) w)

-- they have the same bytes
restored : (s t : Scanner) (st : State) (bytes : List ℕ) → IsStateOf s st → IsStateOf t st → IsAfter bytes s → IsAfter bytes t
restored s t st bytes is it a =
    let least : least_next s.want.next ≡ least_next t.want.next = same_least s.want.next t.want.next st is.next it.next in
    let messages : s.want.messages ≡ t.want.messages = is.messages ∙ sym it.messages in
    let both : least_of s.want ≡ least_of t.want = ap (λ k. k + s.want.messages) least ∙ ap (λ k. least_next t.want.next + k) messages in
    record {
      ready = it.ready;
      taken = it.taken ∙ sym is.taken ∙ a.taken;
      wants = λ rest. (λ m. moved s t st rest is it ((a.wants rest).0 m), λ w. (a.wants rest).1 (moved t s st rest it is w));
      claims = subst (λ k. k ≤ 1 + 2 ^ 33 * length bytes) both a.claims;
    }

pub held : (t : Scanner) (st : State) (bytes : List ℕ) → IsStateOf t st → Holds bytes st → IsAfter bytes t
held t st bytes it h = restored h.scanner t st bytes h.is it h.after

-- ---- what each answer says

-- a scanner is kept in the state
abbrev pub Keeps : Scanner → State → Type 0
Keeps s st = (bytes : List ℕ) → IsAfter bytes s → limit_of s < 2 ^ 64 → length bytes + least_of s.want < 2 ^ 64 → IsStateOf s st

pub whole_law : (before piece : List ℕ) (limit old n : ℕ) (new : Scanner) (st : State) → limit < 2 ^ 64 → old ≡ limit → limit_of new ≡ old
    → scan.Scans before piece old new (Ok (Whole n)) → Keeps new st → Scans before piece limit st n 0
whole_law before piece limit old n new st room e same s keep =
    let a = s.new_again in
    let b = a.claims in record {
      ends = λ z. record {
        ends = s.ends;
        short = subst (λ l. length before + n ≤ l) e s.short;
        holds = record { scanner = new; is = keep [] a (omega (arith, room, e, same)) (omega (arith, b)); after = a };
      };
      goes_on = λ z. absurd (omega (arith, z));
      reserved = λ z. absurd (omega (arith, z));
      longer = λ z. absurd (omega (arith, z));
      known = inl refl;
    }

pub more_law : (before piece : List ℕ) (limit old used : ℕ) (new : Scanner) (st : State) → limit < 2 ^ 64 → old ≡ limit → limit_of new ≡ old
    → scan.Scans before piece old new (Ok More) → Keeps new st → Scans before piece limit st used 10
more_law before piece limit old used new st room e same s keep =
    let b = s.short in record {
      ends = λ z. absurd (omega (arith, z));
      goes_on = λ z. record {
        begins = s.begins;
        holds = record {
          scanner = new;
          is = keep (before ++ piece) s.after (omega (arith, room, e, same)) (omega (arith, b, e, room));
          after = s.after;
        };
        short = subst (λ l. length (before ++ piece) + least_of new.want ≤ l) e b;
      };
      reserved = λ z. absurd (omega (arith, z));
      longer = λ z. absurd (omega (arith, z));
      known = inr (inl refl);
    }

-- an error is one of two
pub long_law : (before piece : List ℕ) (limit old used : ℕ) (new : Scanner) (st : State) (e : Error) → old ≡ limit → is_too_long e ≡ true
    → scan.Scans before piece old new (Err e) → Scans before piece limit st used 11
long_law before piece limit old used new st (errors.Syntax text) q t s = record {
  ends = λ z. absurd (omega (arith, z));
  goes_on = λ z. absurd (omega (arith, z));
  reserved = λ z. absurd (omega (arith, z));
  longer = λ z. subst (λ l. scan.IsLonger l (before ++ piece)) q s.1.longer;
  known = inr (inr (inr refl));
}
long_law before piece limit old used new st (errors.InvalidMarkerRead f) q t s = absurd s
long_law before piece limit old used new st (errors.InvalidDataRead f) q t s = absurd s
long_law before piece limit old used new st (errors.TypeMismatch m) q t s = absurd (cc)
long_law before piece limit old used new st errors.OutOfRange q t s = absurd s
long_law before piece limit old used new st (errors.LengthMismatch n) q t s = absurd s
long_law before piece limit old used new st (errors.Uncategorized text) q t s = absurd s
long_law before piece limit old used new st (errors.Utf8Error why) q t s = absurd s
long_law before piece limit old used new st errors.DepthLimitExceeded q t s = absurd s
long_law before piece limit old used new st errors.NotCanonical q t s = absurd s
long_law before piece limit old used new st errors.OutOfMemory q t s = absurd s

pub reserved_law : (before piece : List ℕ) (limit old used : ℕ) (new : Scanner) (st : State) (e : Error) → is_too_long e ≡ false
    → scan.Scans before piece old new (Err e) → ((at : ℕ) → new.reserved ≡ Some at → used ≡ at) → Scans before piece limit st used 3
reserved_law before piece limit old used new st (errors.TypeMismatch m) t s told =
    let r = s.1 in record {
      ends = λ z. absurd (omega (arith, z));
      goes_on = λ z. absurd (omega (arith, z));
      reserved = λ z. record { none = r.none; place = subst (λ k. scan.ReservedAt (before ++ piece) (length before + k)) (sym (told r.at r.told)) r.place };
      longer = λ z. absurd (omega (arith, z));
      known = inr (inr (inl refl));
    }
reserved_law before piece limit old used new st (errors.Syntax text) t s told = absurd (cc)
reserved_law before piece limit old used new st (errors.InvalidMarkerRead f) t s told = absurd s
reserved_law before piece limit old used new st (errors.InvalidDataRead f) t s told = absurd s
reserved_law before piece limit old used new st errors.OutOfRange t s told = absurd s
reserved_law before piece limit old used new st (errors.LengthMismatch n) t s told = absurd s
reserved_law before piece limit old used new st (errors.Uncategorized text) t s told = absurd s
reserved_law before piece limit old used new st (errors.Utf8Error why) t s told = absurd s
reserved_law before piece limit old used new st errors.DepthLimitExceeded t s told = absurd s
reserved_law before piece limit old used new st errors.NotCanonical t s told = absurd s
reserved_law before piece limit old used new st errors.OutOfMemory t s told = absurd s

-- ---- both directions

pub at_whole : (r : Result Scan Error) (m n k l limit : ℕ) (E : Type 0) → r ≡ Ok (Whole m) → l ≡ limit → ((r ≡ Ok (Whole n)) ↔ (E × (k ≤ l)))
    → (◌≡◌ {A = ℕ} 0 0 × (m ≡ n)) ↔ (E × (k ≤ limit))
at_whole r m n k l limit E is e w =
    let v = subst (λ j. (r ≡ Ok (Whole n)) ↔ (E × (k ≤ j))) e w in (λ q. v.0 (is ∙ ap (λ j. Ok (Whole j)) q.1), λ p. let g = v.1 p in (refl, cc))

pub elsewhere : (r : Result Scan Error) (status used n k l limit : ℕ) (E : Type 0) → (status ≡ 0 → ⊥) → (r ≡ Ok (Whole n) → ⊥) → l ≡ limit
    → ((r ≡ Ok (Whole n)) ↔ (E × (k ≤ l))) → ((status ≡ 0) × (used ≡ n)) ↔ (E × (k ≤ limit))
elsewhere r status used n k l limit E other never e w =
    let v = subst (λ j. (r ≡ Ok (Whole n)) ↔ (E × (k ≤ j))) e w in (λ q. absurd (other q.0), λ p. absurd (never (v.1 p)))

pub not_more : (e : Result Scan Error) (status : ℕ) → (e ≡ Ok More → ⊥) → (e ≡ Err (errors.Syntax InvalidLength) → status ≡ 11)
    → ((e ≡ Ok More) ⊎ (e ≡ Err (errors.Syntax InvalidLength))) → (status ≡ 10) ⊎ (status ≡ 11)
not_more e status never long (inl q) = absurd (never q)
not_more e status never long (inr q) = inr (long q)

long_is : (e f : Error) → e ≡ f → is_too_long e ≡ false → is_too_long f ≡ true → ⊥
long_is e f q t u = absurd (cc)

pub not_long : (e : Error) → is_too_long e ≡ false → ◌≡◌ {A = Result Scan Error} (Err e) (Err (errors.Syntax InvalidLength)) → ⊥
not_long e t q = long_is e (errors.Syntax InvalidLength) (cc) t refl
