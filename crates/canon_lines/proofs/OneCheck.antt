-- The bytes of a line determine what the checker prints, and its answer.
use Rattle.std.proofs.Common.{
  arith,
  ◌≡◌,
  ◌≢◌,
  ◌∙◌,
  ℕ,
  suc,
  ◌+◌,
  ◌<◌,
  inl,
  inr,
  Bool,
  true,
  false,
  List,
  [],
  ◌∷◌,
  ◌++◌,
  length,
  refl,
  sym,
  ap,
  subst,
  All,
  append_assoc,
}
use Rattle.std.specs.Prelude.{codes, flat_map}
use Rattle.std.specs.Fmt.{decimal}
use Rattle.std.proofs.lemmas.List.{length-append}
use Rattle.rmp_wire.specs.Spelling.{canon, Fits}
use Rattle.rmp_wire.proofs.Spellings.{canon_spells}
use Rattle.rmp_wire.proofs.Unique.{spelled_once}
use Rattle.rmp_decode.specs.declared.error.Error.{Error}
use Rattle.rmp_decode.specs.declared.error.Error.TheVariants as errors
use Rattle.rmp_decode.specs.Refuse.{here}
use Rattle.rmp_decode.proofs.ContentErrors.{head_byte}
use Rattle.rmp_serde.specs.Msg.{Msg}
use Rattle.rmp_serde.specs.Places.{IsWhole, IsFault, OpensOther, StopsFor, Stops}
use Rattle.rmp_serde.specs.Refuse.{UnreadFor}
use Rattle.rmp_serde.proofs.Checking.{stops_none}
use Rattle.rmp_serde.proofs.Wanted.{one_place, one_stop, other_none, whole_or_fault, whole_or_stop}
use Rattle.canon_lines.specs.Checks.{EndsCheck, PrintsChecks}
use Rattle.canon_lines.specs.Messages.{canonical_text, fault_text, error_name}
use Rattle.canon_lines.specs.Prints.{line}
use Rattle.canon_lines.proofs.Checked.{whole_some}
use Rattle.canon_lines.proofs.OneOutput.{Once}
use Rattle.canon_lines.proofs.OneRefusal.{one_name}

-- ---- one reason to stop

-- a strict read that is refused there is refused by the same words
stops_unread : (e : Error) (xs : List ℕ) → StopsFor e xs → UnreadFor true 1 e xs
stops_unread (errors.InvalidMarkerRead x) xs s = s
stops_unread (errors.InvalidDataRead x) xs s = s
stops_unread (errors.TypeMismatch m) xs s = s
stops_unread errors.OutOfRange xs s = absurd s
stops_unread (errors.LengthMismatch n) xs s = absurd s
stops_unread (errors.Uncategorized n) xs s = absurd s
stops_unread (errors.Syntax n) xs s = absurd s
stops_unread (errors.Utf8Error n) xs s = absurd s
stops_unread errors.DepthLimitExceeded xs s = absurd s
stops_unread errors.OutOfMemory xs s = absurd s
stops_unread errors.NotCanonical xs s = absurd s

-- the name is determined
pub one_reason : (input : List ℕ) (e f : Error) → e ≢ errors.OutOfMemory → f ≢ errors.OutOfMemory → Stops input e → Stops input f → error_name e ≡ error_name f
one_reason input e f n k p q =
    let at = one_stop (StopsFor e) (StopsFor f) (λ ys s. (stops_none e ys s).0) (λ ys s. (stops_none f ys s).0) input p.0 q.0 p.1 q.1 in
    one_name true 1 e f at.0 n k (here (stops_unread e at.0 at.1)) (here (stops_unread f at.0 at.2))

-- where the checker stops no head is at fault, and no message is whole
pub fault_or_stop : (input : List ℕ) (at : ℕ) (e : Error) → IsFault input at → Stops input e → ⊥
fault_or_stop input at e f q =
    let there = one_stop OpensOther (StopsFor e) other_none (λ ys s. (stops_none e ys s).0) input at q.0 f q.1 in
    (stops_none e there.0 there.2).1 there.1

pub whole_or_stopped : (input : List ℕ) (n : ℕ) (e : Error) → IsWhole input n → Stops input e → ⊥
whole_or_stopped input n e w q = whole_or_stop (StopsFor e) (λ ys s. (stops_none e ys s).0) input n q.0 w q.1

-- ---- one split into messages

-- a head that isn't canonical has a byte
fault_some : (input : List ℕ) (at : ℕ) → IsFault input at → 0 < length input
fault_some input at f =
    let o = f.holds in
    let b = head_byte false o.head o.bytes o.is_head in
    omega (arith, ap length f.front, length-append f.before f.there, ap length o.front, length-append o.bytes o.rest, ap length b.2)

-- no canonical message begins where those of a line end
NoneWhole : List ℕ → Type 0
NoneWhole rest = (n : ℕ) → IsWhole rest n → ⊥

ends_none : (a : Bool) (place : ℕ) (rest out : List ℕ) → EndsCheck a place rest out → NoneWhole rest
unfolding NoneWhole
ends_none true place rest out p = λ n w. let b = whole_some rest n w in absurd (omega (arith, b.some, b.within, ap length p.0))
ends_none false place rest out (inl p) = λ n w. whole_or_fault rest n p.at w p.fault
ends_none false place rest out (inr p) = λ n w. whole_or_stopped rest n p.error w p.wrong

whole_of : (m : Msg) (rest input : List ℕ) → Fits m → input ≡ canon m ++ rest → IsWhole input (length (canon m))
whole_of m rest input f e = record { tree = m; rest = rest; fits = f; front = e; long = refl }

split_once : (ms ns : List Msg) (x y : List ℕ) → All Fits ms → All Fits ns → flat_map canon ms ++ x ≡ flat_map canon ns ++ y → NoneWhole x → NoneWhole y
    → (ms ≡ ns) × (x ≡ y)
unfolding NoneWhole
split_once [] [] x y f g e n o = (refl, e)
split_once [] (k ∷ ks) x y f g e n o = absurd (n (length (canon k))
    (whole_of k (flat_map canon ks ++ y) x (g 0 k (omega arith)) (e ∙ append_assoc (canon k) (flat_map canon ks) y)))
split_once (m ∷ ms) [] x y f g e n o = absurd (o (length (canon m))
    (whole_of m (flat_map canon ms ++ x) y (f 0 m (omega arith)) (sym e ∙ append_assoc (canon m) (flat_map canon ms) x)))
split_once (m ∷ ms) (k ∷ ks) x y f g e n o =
    let split : canon m ++ (flat_map canon ms ++ x) ≡ canon k ++ (flat_map canon ks ++ y) = sym (append_assoc (canon m) (flat_map canon ms) x) ∙ e
    ∙ append_assoc (canon k) (flat_map canon ks) y in
    let u = spelled_once m k (canon m) (canon k) (flat_map canon ms ++ x) (flat_map canon ks ++ y) (canon_spells m (f 0 m (omega arith)))
    (canon_spells k (g 0 k (omega arith))) split in
    let v = split_once ms ks x y (λ i d lt. f (suc i) d (omega (arith, lt))) (λ i d lt. g (suc i) d (omega (arith, lt))) u.2 n o in
    (ap (λ z. z ∷ ms) u.1 ∙ ap (λ z. k ∷ z) v.0, v.1)

-- ---- one end

ends_once : (a b : Bool) (place : ℕ) (rest out other : List ℕ) → EndsCheck a place rest out → EndsCheck b place rest other → (out ≡ other) × (a ≡ b)
ends_once true true place rest out other p q = (p.1 ∙ sym q.1, refl)
ends_once true false place rest out other p (inl q) = absurd (omega (arith, fault_some rest q.at q.fault, ap length p.0))
ends_once true false place rest out other p (inr q) = absurd (omega (arith, q.some, ap length p.0))
ends_once false true place rest out other (inl p) q = absurd (omega (arith, fault_some rest p.at p.fault, ap length q.0))
ends_once false true place rest out other (inr p) q = absurd (omega (arith, p.some, ap length q.0))
ends_once false false place rest out other (inl p)
    (inl q) = (p.shown ∙ ap (λ at. line (fault_text (place + at))) (one_place rest p.at q.at p.fault q.fault) ∙ sym q.shown, refl)
ends_once false false place rest out other (inl p) (inr q) = absurd (fault_or_stop rest p.at q.error p.fault q.wrong)
ends_once false false place rest out other (inr p) (inl q) = absurd (fault_or_stop rest q.at p.error q.fault p.wrong)
ends_once false false place rest out other (inr p) (inr q) = (
  p.shown ∙ ap (λ name. line (codes "refused at " ++ decimal place ++ codes ": " ++ name))
      (one_reason rest p.error q.error p.no_memory q.no_memory p.wrong q.wrong) ∙ sym q.shown,
  refl,
)

pub checks_once : Once PrintsChecks
checks_once bytes out other a b p q =
    let both : flat_map canon p.messages ++ p.rest ≡ flat_map canon q.messages ++ q.rest =
    ap (λ s. s ++ p.rest) (sym p.holds.spelled) ∙ sym p.holds.split ∙ q.holds.split ∙ ap (λ s. s ++ q.rest) q.holds.spelled in
    let s = split_once p.messages q.messages p.rest q.rest p.holds.fit q.holds.fit both (ends_none a (length p.front) p.rest p.last p.ends)
    (ends_none b (length q.front) q.rest q.last q.ends) in
    let front : p.front ≡ q.front = p.holds.spelled ∙ ap (flat_map canon) s.0 ∙ sym q.holds.spelled in
    let ends : EndsCheck b (length p.front) p.rest q.last = subst (λ f. EndsCheck b (length f) p.rest q.last) (sym front)
    (subst (λ r. EndsCheck b (length q.front) r q.last) (sym s.1) q.ends) in
    let u = ends_once a b (length p.front) p.rest p.last q.last p.ends ends in
    let lines : List Msg → List ℕ = flat_map (λ m. line (canonical_text (length (canon m)))) in
    (p.printed ∙ ap (λ ms. lines ms ++ p.last) s.0 ∙ ap (λ l. lines q.messages ++ l) u.0 ∙ sym q.printed, u.1)
