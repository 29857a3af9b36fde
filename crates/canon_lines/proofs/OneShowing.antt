-- The input determines what is shown of it.
use Rattle.std.proofs.Common.{arith, ◌≡◌, ◌∙◌, ℕ, ◌+◌, ◌<◌, ◌≤◌, List, [], ◌++◌, inl, inr, length, take, drop, refl, sym, ap, subst, append-nil}
use Rattle.std.specs.Prelude.{◌⊎◌, Option, None, Some}
use Rattle.std.specs.Option.{is_none}
use Rattle.std.proofs.lemmas.Bool.{cases_lt}
use Rattle.std.proofs.lemmas.List.{length-append, take-append-drop, take-append-le, take_at}
use Rattle.rmp_wire.specs.Spelling.{Spells}
use Rattle.rmp_wire.proofs.Unique.{spelled_once}
use Rattle.rmp_scan.specs.Scans.{IsMessage, NoMessage}
use Rattle.canon_lines.specs.Prints.{NoneBegins}
use Rattle.canon_lines.specs.Shows.{shown_lines, Shows, EndsShowing, RefusesRest}
use Rattle.canon_lines.specs.declared.show.Form.{Form}
use Rattle.canon_lines.specs.declared.show.refused.Refused.{Refused}
use Rattle.canon_lines.proofs.MessageReads.{shorter}
use Rattle.canon_lines.proofs.OneOutput.{split_once}

-- of two beginnings of the same bytes the one that is no longer begins the other
begins : (a b x y : List ℕ) → a ++ x ≡ b ++ y → length a ≤ length b → b ≡ a ++ drop (length a) b
begins a b x y e less =
    let front : take (length a) b ≡ a = sym (take-append-le (length a) b y less) ∙ ap (take (length a)) (sym e) ∙ take_at a x (length a) refl in
    sym (take-append-drop (length a) b) ∙ ap (λ s. s ++ drop (length a) b) front

-- no message that can be read begins with bytes that are looked at, whatever follows
module _ (seen following : List ℕ) (none : NoneBegins seen) where
  of_message : IsMessage seen → NoneBegins (seen ++ following)
  of_message m b more k e s accepted =
      let same = spelled_once m.0 k seen b following more m.1 s e in
      none b [] k (same.0 ∙ sym (append-nil b)) s accepted

  of_nothing : NoMessage seen → NoneBegins (seen ++ following)
  of_nothing nothing b more k e s accepted = elim (cases_lt (length seen) (length b)) [
    | inl longer ↦
        let rest = drop (length seen) b in
        let split = begins seen b following more e (omega (arith, longer)) in
        nothing.begins (record {
          rest = rest;
          some = λ z. absurd (omega (arith, longer, ap length split, length-append seen rest, ap length z));
          spelled = (k, subst (λ ys. Spells ys k) split s);
        })
    | inr shorter_or_same ↦ none b (drop (length b) seen) k (begins b seen more following (sym e) shorter_or_same) s accepted
  ]

  of_end : following ≡ [] → NoneBegins (seen ++ following)
  of_end z b more k e s accepted = none b more k (sym (append-nil seen) ∙ ap (λ t. seen ++ t) (sym z) ∙ e) s accepted

  of_seen : (IsMessage seen ⊎ NoMessage seen) ⊎ (following ≡ []) → NoneBegins (seen ++ following)
  of_seen (inl (inl m)) = of_message m
  of_seen (inl (inr nothing)) = of_nothing nothing
  of_seen (inr z) = of_end z

ends_none : (r : Option Refused) (number offset : ℕ) (rest : List ℕ) → EndsShowing number offset rest r → NoneBegins rest
ends_none None number offset rest p = λ b more m e s accepted. let less = shorter m b rest more s e in absurd (omega (arith, less, ap length p))
ends_none (Some r) number offset rest p = subst NoneBegins (sym p.split) (of_seen p.seen p.following p.refusal.none p.decides)

refused_some : (number offset : ℕ) (rest : List ℕ) (r : Refused) → RefusesRest number offset rest r → 0 < length rest
refused_some number offset rest r p = omega (arith, p.some, ap length p.split, length-append p.seen p.following)

ends_once : (r s : Option Refused) (n m o q : ℕ) (x y : List ℕ) → EndsShowing n o x r → EndsShowing m q y s → x ≡ y → is_none r ≡ is_none s
ends_once None None n m o q x y p u e = refl
ends_once None (Some s) n m o q x y p u e = absurd (omega (arith, refused_some m q y s u, ap length e, ap length p))
ends_once (Some r) None n m o q x y p u e = absurd (omega (arith, refused_some n o x r p, ap length e, ap length u))
ends_once (Some r) (Some s) n m o q x y p u e = refl

module _ (form : Form) (input out other : List ℕ) where
  same_messages : (r s : Option Refused) (p : Shows form input out r) (q : Shows form input other s)
      → (p.messages ≡ q.messages) × (p.front ≡ q.front) × (p.rest ≡ q.rest)
  same_messages r s p q = split_once p.messages q.messages p.front q.front p.rest q.rest p.holds.spelled q.holds.spelled p.holds.accepted q.holds.accepted
      (sym p.holds.split ∙ q.holds.split) (ends_none r _ _ p.rest p.ends) (ends_none s _ _ q.rest q.ends)

  pub shown_once : (r s : Option Refused) → Shows form input out r → Shows form input other s → (out ≡ other) × (is_none r ≡ is_none s)
  shown_once r s p q =
      let same = same_messages r s p q in
      (p.printed ∙ ap (shown_lines form) same.0 ∙ sym q.printed, ends_once r s _ _ _ _ p.rest q.rest p.ends q.ends same.2)

  pub number_once : (r s : Refused) → Shows form input out (Some r) → Shows form input other (Some s) → r.number ≡ s.number
  number_once r s p q =
      let same = same_messages (Some r) (Some s) p q in
      p.ends.number_is ∙ ap (λ ms. length ms + 1) same.0 ∙ sym q.ends.number_is
