-- The input determines what is printed, and the answer.
use Rattle.std.proofs.Common.{arith, ◌≡◌, ◌≢◌, ◌∙◌, ℕ, suc, Bool, true, false, List, [], ◌∷◌, ◌++◌, length, refl, sym, ap, subst, All, append_assoc}
use Rattle.std.specs.Prelude.{◌&&◌, codes, flat_map, Result, Ok, Err}
use Rattle.std.specs.Fmt.{decimal}
use Rattle.std.proofs.lemmas.List.{length-append}
use Rattle.hex.specs.Hex.{decode_of}
use Rattle.hex.specs.declared.error.FromHexError.{FromHexError}
use Rattle.rmp_wire.specs.Spelling.{SpellsAll}
use Rattle.rmp_wire.proofs.Unique.{spelled_once}
use Rattle.rmp_decode.specs.declared.error.Error.{Error}
use Rattle.rmp_decode.specs.declared.error.Error.TheVariants as errors
use Rattle.rmp_serde.specs.Msg.{Msg, msgs}
use Rattle.canon_lines.specs.Lines.{digits_in}
use Rattle.canon_lines.specs.Messages.{message_text, error_name, refused_text}
use Rattle.canon_lines.specs.Prints.{line, IsAccepted, NoneBegins, EndsAs, PrintsMessages, PrintsDecoded, PrintsLine, PrintsAll}
use Rattle.canon_lines.proofs.MessageReads.{shorter}
use Rattle.canon_lines.proofs.OneRefusal.{one_name}

-- ---- lines

-- bytes have one output
abbrev pub Once : (List ℕ → List ℕ → Bool → Type 0) → Type 0
Once shows = (bytes out other : List ℕ) (a b : Bool) → shows bytes out a → shows bytes other b → (out ≡ other) × (a ≡ b)

module _ (shows : List ℕ → List ℕ → Bool → Type 0) (once : Once shows) where
  decoded_once : (r : Result (List ℕ) FromHexError) (out other : List ℕ) (a b : Bool) → PrintsDecoded shows r out a → PrintsDecoded shows r other b
      → (out ≡ other) × (a ≡ b)
  decoded_once (Ok bytes) out other a b p q = once bytes out other a b p q
  decoded_once (Err e) out other a b p q = (p.0 ∙ sym q.0, p.1 ∙ sym q.1)

  line_once : (text out other : List ℕ) (a b : Bool) → PrintsLine shows text out a → PrintsLine shows text other b → (out ≡ other) × (a ≡ b)
  unfolding PrintsLine
  line_once text out other a b p q = decoded_once (decode_of (digits_in text)) out other a b p q

  pub all_once : (texts : List (List ℕ)) (out other : List ℕ) (a b : Bool) → PrintsAll shows texts out a → PrintsAll shows texts other b
      → (out ≡ other) × (a ≡ b)
  unfolding PrintsAll
  all_once [] out other a b p q = (p.0 ∙ sym q.0, p.1 ∙ sym q.1)
  all_once (text ∷ texts) out other a b p q =
      let u = line_once text p.first q.first p.first_accepted q.first_accepted p.prints_first q.prints_first in
      let v = all_once texts p.second q.second p.second_accepted q.second_accepted p.prints_second q.prints_second in (
        p.printed ∙ ap (λ s. s ++ p.second) u.0 ∙ ap (λ s. q.first ++ s) v.0 ∙ sym q.printed,
        p.both ∙ ap (λ x. x && p.second_accepted) u.1
            ∙ ap (λ x. q.first_accepted && x) v.1 ∙ sym q.both,
      )

-- ---- messages of one line

-- no message begins where those of a line end
ends_none : (a : Bool) (place : ℕ) (rest out : List ℕ) → EndsAs a place rest out → NoneBegins rest
ends_none true place rest out p = λ b more m e s accepted. let less = shorter m b rest more s e in absurd (omega (arith, less, ap length p.0))
ends_none false place rest out p = p.none

pub split_once : (ms ns : List Msg) (a b x y : List ℕ) → SpellsAll a (msgs ms) → SpellsAll b (msgs ns) → All IsAccepted ms → All IsAccepted ns → a ++ x ≡ b ++ y
    → NoneBegins x → NoneBegins y → (ms ≡ ns) × (a ≡ b) × (x ≡ y)
split_once [] [] a b x y p q f g e n o = (refl, p ∙ sym q, ap (λ z. z ++ x) (sym p) ∙ e ∙ ap (λ z. z ++ y) q)
split_once [] (k ∷ ks) a b x y p q f g e n o =
    absurd (n q.first (q.second ++ y) k (ap (λ z. z ++ x) (sym p) ∙ e ∙ ap (λ z. z ++ y) q.is_whole ∙ append_assoc q.first q.second y) q.is_first
    (g 0 k (omega arith)))
split_once (m ∷ ms) [] a b x y p q f g e n o =
    absurd (o p.first (p.second ++ x) m (ap (λ z. z ++ y) (sym q) ∙ sym e ∙ ap (λ z. z ++ x) p.is_whole ∙ append_assoc p.first p.second x) p.is_first
    (f 0 m (omega arith)))
split_once (m ∷ ms) (k ∷ ks) a b x y p q f g e n o =
    let split : p.first ++ (p.second ++ x) ≡ q.first ++ (q.second ++ y) = sym (append_assoc p.first p.second x) ∙ ap (λ z. z ++ x) (sym p.is_whole) ∙ e
    ∙ ap (λ z. z ++ y) q.is_whole ∙ append_assoc q.first q.second y in
    let u = spelled_once m k p.first q.first (p.second ++ x) (q.second ++ y) p.is_first q.is_first split in
    let v = split_once ms ks p.second q.second x y p.is_second q.is_second (λ i d lt. f (suc i) d (omega (arith, lt)))
    (λ i d lt. g (suc i) d (omega (arith, lt))) u.2 n o in
    (ap (λ z. z ∷ ms) u.1 ∙ ap (λ z. k ∷ z) v.0, p.is_whole ∙ ap (λ z. z ++ p.second) u.0 ∙ ap (λ z. q.first ++ z) v.1 ∙ sym q.is_whole, v.2)

ends_once : (a b : Bool) (place : ℕ) (rest out other : List ℕ) → EndsAs a place rest out → EndsAs b place rest other → (out ≡ other) × (a ≡ b)
ends_once true true place rest out other p q = (p.1 ∙ sym q.1, refl)
ends_once true false place rest out other p q = absurd (omega (arith, q.some, ap length p.0))
ends_once false true place rest out other p q = absurd (omega (arith, p.some, ap length q.0))
ends_once false false place rest out other p q = (
  p.shown
      ∙ ap (λ name. line (codes "refused at " ++ decimal place ++ codes ": " ++ name))
      (one_name false 1024 p.error q.error rest p.no_memory q.no_memory p.wrong q.wrong) ∙ sym q.shown,
  refl,
)

pub messages_once : Once PrintsMessages
messages_once bytes out other a b p q =
    let s = split_once p.messages q.messages p.front q.front p.rest q.rest p.holds.spelled q.holds.spelled p.holds.accepted q.holds.accepted
    (sym p.holds.split ∙ q.holds.split)
    (ends_none a (length p.front) p.rest p.last p.ends) (ends_none b (length q.front) q.rest q.last q.ends) in
    let ends : EndsAs b (length p.front) p.rest q.last = subst (λ f. EndsAs b (length f) p.rest q.last) (sym s.1)
    (subst (λ r. EndsAs b (length q.front) r q.last) (sym s.2) q.ends) in
    let u = ends_once a b (length p.front) p.rest p.last q.last p.ends ends in (
      p.printed ∙ ap (λ ms. flat_map (λ m. line (message_text m)) ms ++ p.last) s.0 ∙ ap (λ l. flat_map (λ m. line (message_text m)) q.messages ++ l) u.0
          ∙ sym q.printed,
      u.1,
    )

-- ---- out of memory has no line

name_length : (e : Error) → e ≢ errors.OutOfMemory → length (error_name e) ≢ 11
name_length (errors.InvalidMarkerRead x) n = λ q. omega (arith, q)
name_length (errors.InvalidDataRead x) n = λ q. omega (arith, q)
name_length (errors.TypeMismatch x) n = λ q. omega (arith, q)
name_length errors.OutOfRange n = λ q. omega (arith, q)
name_length (errors.LengthMismatch x) n = λ q. omega (arith, q)
name_length (errors.Uncategorized x) n = λ q. omega (arith, q)
name_length (errors.Syntax x) n = λ q. omega (arith, q)
name_length (errors.Utf8Error x) n = λ q. omega (arith, q)
name_length errors.DepthLimitExceeded n = λ q. omega (arith, q)
name_length errors.OutOfMemory n = absurd (n refl)
name_length errors.NotCanonical n = λ q. omega (arith, q)

-- a line that names another error isn't that for out of memory
pub other_name : (place : ℕ) (e : Error) → e ≢ errors.OutOfMemory → line (refused_text place errors.OutOfMemory) ≡ line (refused_text place e) → ⊥
other_name place e n q =
    let front = codes "refused at " ++ decimal place ++ codes ": " in
    let same : length ((front ++ codes "OutOfMemory") ++ 10 ∷ []) ≡ length ((front ++ error_name e) ++ 10 ∷ []) = ap length q in
    name_length e n (omega (arith, simp length-append at same))
