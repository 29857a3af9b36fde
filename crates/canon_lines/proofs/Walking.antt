-- Lines, one after another, and what was printed of those before.
use Rattle.std.proofs.Common.{
  ◌≡◌,
  ◌∙◌,
  ℕ,
  ◌+◌,
  ◌<◌,
  suc,
  zero,
  arith,
  Bool,
  true,
  false,
  List,
  [],
  ◌∷◌,
  ◌++◌,
  Bor,
  take,
  drop,
  get_or,
  length,
  eqb,
  refl,
  sym,
  ap,
  subst,
  append-nil,
  append_assoc,
  map-id,
}
use Rattle.std.specs.Prelude.{◌&&◌, Option, None, Some}
use Rattle.std.proofs.KnownBytes.{Appends-trans}
use Rattle.std.proofs.lemmas.List.{map_more}
use Rattle.std.proofs.lemmas.List.Splits.{slice_split_at, slice_split_none}
use Rattle.std.proofs.lemmas.List.Elements.{All-append, All-push}
use Rattle.std.proofs.Math.Seq.{take-add}
use Rattle.rmp_wire.specs.declared.sink.Sink.{Ghosts}
use Rattle.canon_lines.specs.Lines.{lines_in, NoEnd}
use Rattle.canon_lines.specs.Prints.{PrintsAll, PrintsLine, StartsAll, StartsLine, Puts}
use Rattle.canon_lines.proofs.Shown.{prints_more, puts_nothing}

cut_at : (xs : List ℕ) (i : ℕ) (d : ℕ) → i < length xs → xs ≡ take i xs ++ (get_or xs i d ∷ drop (suc i) xs)
cut_at [] i d l = absurd (omega arith)
cut_at (x ∷ xs) zero d l = refl
cut_at (x ∷ xs) (suc i) d l = ap (λ t. x ∷ t) (cut_at xs i d (omega (arith, l)))

take_more : (xs : List ℕ) (i d : ℕ) → i < length xs → take (i + 1) xs ≡ take i xs ++ (get_or xs i d ∷ [])
take_more xs i d l = sym (map-id (take (i + 1) xs)) ∙ map_more (λ x. x) xs i d l ∙ ap (λ t. t ++ (get_or xs i d ∷ [])) (map-id (take i xs))

-- no line ends in one byte more
pub none_more : (xs : List ℕ) (i d : ℕ) → i < length xs → NoEnd (take i xs) → eqb (get_or xs i d) 10 ≡ false → NoEnd (take (i + 1) xs)
none_more xs i d l none e =
    subst NoEnd (sym (take_more xs i d l)) (All-push (λ b. eqb b 10 ≡ false) (take i xs) (get_or xs i d) none e)

-- no line ends in more bytes
pub none_both : (xs : List ℕ) (i n : ℕ) → NoEnd (take i xs) → NoEnd (take n (drop i xs)) → NoEnd (take (i + n) xs)
none_both xs i n none more =
    subst NoEnd (sym (take-add i n xs)) (All-append (λ b. eqb b 10 ≡ false) (take i xs) (take n (drop i xs)) none more)

-- the first line ends here
pub ends_at : (xs : List ℕ) (i d : ℕ) → i < length xs → NoEnd (take i xs) → get_or xs i d ≡ 10 → lines_in xs ≡ take i xs ∷ lines_in (drop (i + 1) xs)
ends_at xs i d l none e =
    let next : suc i ≡ i + 1 = omega arith in
    ap lines_in (cut_at xs i d l) ∙ slice_split_at (λ b. eqb b 10) (take i xs) (get_or xs i d) (drop (suc i) xs) none (ap (λ b. eqb b 10) e)
    ∙ ap (λ n. take i xs ∷ lines_in (drop n xs)) next

-- the last line has no end
pub ends_nowhere : (xs : List ℕ) → NoEnd xs → lines_in xs ≡ xs ∷ []
ends_nowhere xs none = slice_split_none (λ b. eqb b 10) xs none

-- All lines but those that are left were printed.
pub record Walked {W : Type 0} (g : Ghosts W) (shows : List ℕ → List ℕ → Bool
    → Type 0) (all left : List (List ℕ)) (accepted : Bool) (old new : W) : Type 0 where
  pub before : List (List ℕ)
  pub split : all ≡ before ++ left
  pub puts : Puts g (λ out. PrintsAll shows before out accepted) old new

module _ {W : Type 0} (g : Ghosts W) (shows : List ℕ → List ℕ → Bool → Type 0) (all : List (List ℕ)) where
  pub walked_none : (s : W) → Walked g shows all all true s s
  walked_none s = record { before = []; split = refl; puts = puts_nothing g shows s }

  pub walked_more : (line : List ℕ) (left : List (List ℕ)) (a b : Bool) {old mid new : W} → Walked g shows all (line ∷ left) a old mid
      → Puts g (λ out. PrintsLine shows line out b) mid new → Walked g shows all left (a && b) old new
  walked_more line left a b p q = record {
    before = p.before ++ line ∷ [];
    split = p.split ∙ sym (append_assoc p.before (line ∷ []) left);
    puts = record {
      out = p.puts.out ++ q.out;
      appended = Appends-trans _ _ _ p.puts.out q.out p.puts.appended q.appended;
      shown = prints_more shows p.before line p.puts.out a q.out b p.puts.shown q.shown;
    };
  }

  pub walked_all : (a : Bool) {old new : W} → Walked g shows all [] a old new → Puts g (λ out. PrintsAll shows all out a) old new
  walked_all a {old} {new} p = subst (λ ls. Puts g (λ out. PrintsAll shows ls out a) old new) (sym (p.split ∙ append-nil p.before)) p.puts

  -- the next line was put in part
  pub walked_early : (begins : List ℕ → List ℕ → Type 0) (line : List ℕ) (left : List (List ℕ)) (a : Bool) {old mid new : W}
      → Walked g shows all (line ∷ left) a old mid → Puts g (StartsLine begins line) mid new → Puts g (StartsAll shows begins all) old new
  walked_early begins line left a p q = record {
    out = p.puts.out ++ q.out;
    appended = Appends-trans _ _ _ p.puts.out q.out p.puts.appended q.appended;
    shown = record {
      before = p.before;
      following = line ∷ left;
      split = p.split;
      first = p.puts.out;
      second = q.out;
      accepted = a;
      prints = p.puts.shown;
      next = q.shown;
      printed = refl;
    };
  }

-- how much is left to go through
abbrev pub still_left : Option (Bor (List ℕ)) → ℕ
still_left None = 0
still_left (Some text) = suc (length text.now)
