-- Lines of hex that were shown, one more at a time.
use Rattle.std.proofs.Common.{
  arith,
  ◌≡◌,
  ◌≢◌,
  ◌∙◌,
  ℕ,
  suc,
  ◌+◌,
  Bool,
  true,
  false,
  List,
  [],
  ◌∷◌,
  ◌++◌,
  inl,
  inr,
  length,
  refl,
  sym,
  ap,
  subst,
  append-nil,
  append_assoc,
}
use Rattle.std.specs.Prelude.{◌&&◌, ◌⊎◌, Option, None, Some, IfSome, Result, Ok, Err, IfOk, OnOk, IfErr}
use Rattle.std.specs.Option.{is_none}
use Rattle.std.specs.Io.KnownBytes.{Appends}
use Rattle.std.proofs.KnownBytes.{Appends-nil, Appends-trans}
use Rattle.std.proofs.lemmas.List.{length-append}
use Rattle.hex.specs.Hex.{decode_of}
use Rattle.hex.specs.declared.error.FromHexError.{FromHexError}
use Rattle.hex.specs.declared.error.FromHexError.TheVariants.{OutOfMemory}
use Rattle.rmp_wire.specs.declared.sink.Sink.{Ghosts}
use Rattle.canon_lines.specs.Complaints.{in_line, told_of}
use Rattle.canon_lines.specs.HexLines.{ShowsDecoded, ShowsLine, ShowsAll, StartsDecoded, StartsFirst, StartsLine, StartsLines}
use Rattle.canon_lines.specs.Lines.{digits_in}
use Rattle.canon_lines.specs.Prints.{Puts}
use Rattle.canon_lines.specs.Shows.{PutsBoth, Shows, StartsShowing}
use Rattle.canon_lines.specs.declared.lines.RunFault.{RunFault}
use Rattle.canon_lines.specs.declared.show.Form.{Form}
use Rattle.canon_lines.specs.declared.show.complaint.Complaint.{Complaint}
use Rattle.canon_lines.specs.declared.show.complaint.Complaint.TheVariants.{NoHex}
use Rattle.canon_lines.specs.declared.show.refused.Refused.{Refused}

and_assoc : (a b c : Bool) → (a && b && c) ≡ (a && (b && c))
and_assoc true b c = refl
and_assoc false b c = refl

and_true : (a : Bool) → (a && true) ≡ a
and_true true = refl
and_true false = refl

-- ---- one line

module _ (form : Form) (number : ℕ) (text : List ℕ) where
  -- its bytes were shown
  pub line_shown : (bytes out : List ℕ) (r : Option Refused) (c : Option Complaint) → decode_of (digits_in text) ≡ Ok bytes → Shows form bytes out r
      → c ≡ in_line number r → ShowsLine form number text out c
  unfolding ShowsLine
  line_shown bytes out r c e p is = subst (λ d. ShowsDecoded form number d out c) (sym e) (r, p, is)

  -- it isn't hex
  pub line_no_hex : (e : FromHexError) → decode_of (digits_in text) ≡ Err e → ShowsLine form number text [] (Some (NoHex number))
  unfolding ShowsLine
  line_no_hex e is = subst (λ d. ShowsDecoded form number d [] (Some (NoHex number))) (sym is) (refl, refl)

module _ (form : Form) (text : List ℕ) where
  pub line_starts : (bytes out : List ℕ) → decode_of (digits_in text) ≡ Ok bytes → StartsShowing form bytes out → StartsLine form text out
  unfolding StartsLine
  line_starts bytes out e p = inr (subst (λ d. StartsDecoded form d out) (sym e) p)

  pub line_starts_none : StartsLine form text []
  unfolding StartsLine
  line_starts_none = inl refl

module _ {W : Type 0} (g : Ghosts W) (form : Form) (text bytes : List ℕ) where
  pub puts_line : (number : ℕ) (now : List ℕ) (r : Option Refused) (c : Option Complaint) (old new : W) → decode_of (digits_in text) ≡ Ok bytes → now ≡ bytes
      → Puts g (λ out. Shows form now out r) old new → c ≡ in_line number r → Puts g (λ out. ShowsLine form number text out c) old new
  puts_line number now r c old new e is p f = record {
    out = p.out;
    appended = p.appended;
    shown = line_shown form number text bytes p.out r c e (subst (λ xs. Shows form xs p.out r) is p.shown) f;
  }

  pub puts_start : (now : List ℕ) (old new : W) → decode_of (digits_in text) ≡ Ok bytes → now ≡ bytes → Puts g (StartsShowing form now) old new
      → Puts g (StartsLine form text) old new
  puts_start now old new e is p = record {
    out = p.out;
    appended = p.appended;
    shown = line_starts form text bytes p.out e (subst (λ xs. StartsShowing form xs p.out) is p.shown);
  }

module _ {W : Type 0} (g : Ghosts W) (form : Form) (text : List ℕ) (s : W) where
  pub puts_no_hex : (number : ℕ) (e : FromHexError) (r : Result (Option Complaint) RunFault) → (e ≡ OutOfMemory) ⊎ (decode_of (digits_in text) ≡ Err e)
      → OnOk r (e ≢ OutOfMemory) → IfOk r (λ c. c ≡ Some (NoHex number)) → IfOk r (λ c. Puts g (λ out. ShowsLine form number text out c) s s)
  puts_no_hex number e (Ok c) (inl m) n is = absurd (n m)
  puts_no_hex number e (Ok c) (inr d) n is = record {
    out = [];
    appended = Appends-nil (g.told s);
    shown = subst (ShowsLine form number text []) (sym is) (line_no_hex form number text e d);
  }
  puts_no_hex number e (Err x) d n is = tt

  pub puts_none : Puts g (StartsLine form text) s s
  puts_none = record { out = []; appended = Appends-nil (g.told s); shown = line_starts_none form text }

-- ---- one line more

module _ (form : Form) where
  all_more : (n m : ℕ) (ls : List (List ℕ)) (l out told more : List ℕ) (a : Bool) (c : Option Complaint) → m ≡ n + length ls → ShowsAll form n ls out told a
      → ShowsLine form m l more c → ShowsAll form n (ls ++ l ∷ []) (out ++ more) (told ++ told_of c) (a && is_none c)
  unfolding ShowsAll
  all_more n m [] l out told more a c e p q = record {
    first = more;
    second = [];
    complaint = c;
    second_told = [];
    second_accepted = true;
    prints_first = subst (λ k. ShowsLine form k l more c) (omega (arith, e)) q;
    prints_second = (refl, refl, refl);
    printed = ap (λ s. s ++ more) p.0 ∙ sym (append-nil more);
    told_is = ap (λ s. s ++ told_of c) p.1 ∙ sym (append-nil (told_of c));
    both = ap (λ x. x && is_none c) p.2 ∙ sym (and_true (is_none c));
  }
  all_more n m (k ∷ ks) l out told more a c e p q = record {
    first = p.first;
    second = p.second ++ more;
    complaint = p.complaint;
    second_told = p.second_told ++ told_of c;
    second_accepted = p.second_accepted && is_none c;
    prints_first = p.prints_first;
    prints_second = all_more (suc n) m ks l p.second p.second_told more p.second_accepted c (omega (arith, e)) p.prints_second q;
    printed = ap (λ s. s ++ more) p.printed ∙ append_assoc p.first p.second more;
    told_is = ap (λ s. s ++ told_of c) p.told_is ∙ append_assoc (told_of p.complaint) p.second_told (told_of c);
    both = ap (λ x. x && is_none c) p.both ∙ and_assoc (is_none p.complaint) p.second_accepted (is_none c);
  }

  all_none : (n : ℕ) → ShowsAll form n [] [] [] true
  unfolding ShowsAll
  all_none n = (refl, refl, refl)

  starts_none : (texts : List (List ℕ)) → StartsFirst form texts []
  starts_none [] = refl
  starts_none (text ∷ texts) = line_starts_none form text

-- All lines but those that are left were shown, of which the first has this number.
pub record LinesShown {W E : Type 0} (g : Ghosts W) (h : Ghosts E) (form : Form) (all left : List (List ℕ)) (number : ℕ) (accepted : Bool)
    (old new : W) (old' new' : E) : Type 0 where
  pub before : List (List ℕ)
  pub split : all ≡ before ++ left
  pub number_is : number ≡ 1 + length before
  pub puts : PutsBoth g h (λ out told. ShowsAll form 1 before out told accepted) old new old' new'

module _ {W E : Type 0} (g : Ghosts W) (h : Ghosts E) (form : Form) (all : List (List ℕ)) where
  pub no_line_shown : (w : W) (e : E) → LinesShown g h form all all 1 true w w e e
  no_line_shown w e = record {
    before = [];
    split = refl;
    number_is = refl;
    puts = record { out = []; told = []; appended = Appends-nil (g.told w); told_appended = Appends-nil (h.told e); shown = all_none form 1 };
  }

  pub line_more : (line : List ℕ) (left : List (List ℕ)) (number number' : ℕ) (a b : Bool) (c : Option Complaint) (old mid new : W) (old' mid' new' : E)
      → LinesShown g h form all (line ∷ left) number a old mid old' mid' → Puts g (λ out. ShowsLine form number line out c) mid new
      → Appends (h.told mid') (h.told new') (told_of c) → b ≡ is_none c → number' ≡ number + 1
      → LinesShown g h form all left number' (a && b) old new old' new'
  line_more line left number number' a b c old mid new old' mid' new' p q t is next = record {
    before = p.before ++ line ∷ [];
    split = p.split ∙ sym (append_assoc p.before (line ∷ []) left);
    number_is = omega (arith, next, p.number_is, length-append p.before (line ∷ []));
    puts = record {
      out = p.puts.out ++ q.out;
      told = p.puts.told ++ told_of c;
      appended = Appends-trans _ _ _ p.puts.out q.out p.puts.appended q.appended;
      told_appended = Appends-trans _ _ _ p.puts.told (told_of c) p.puts.told_appended t;
      shown = subst (λ x. ShowsAll form 1 (p.before ++ line ∷ []) (p.puts.out ++ q.out) (p.puts.told ++ told_of c) (a && x)) (sym is)
          (all_more form 1 number p.before line p.puts.out p.puts.told q.out a c p.number_is p.puts.shown q.shown);
    };
  }

  pub lines_all : (number : ℕ) (a : Bool) (old new : W) (old' new' : E) → LinesShown g h form all [] number a old new old' new'
      → PutsBoth g h (λ out told. ShowsAll form 1 all out told a) old new old' new'
  lines_all number a old new old' new' p =
      subst (λ ls. PutsBoth g h (λ out told. ShowsAll form 1 ls out told a) old new old' new') (sym (p.split ∙ append-nil p.before)) p.puts

  -- the next line was put in part
  pub line_early : (line : List ℕ) (left : List (List ℕ)) (number : ℕ) (a : Bool) (old mid new : W) (old' mid' : E)
      → LinesShown g h form all (line ∷ left) number a old mid old' mid' → Puts g (StartsLine form line) mid new → Puts g (StartsLines form all) old new
  line_early line left number a old mid new old' mid' p q = record {
    out = p.puts.out ++ q.out;
    appended = Appends-trans _ _ _ p.puts.out q.out p.puts.appended q.appended;
    shown = record {
      before = p.before;
      following = line ∷ left;
      split = p.split;
      first = p.puts.out;
      second = q.out;
      told = p.puts.told;
      accepted = a;
      prints = p.puts.shown;
      next = q.shown;
      printed = refl;
    };
  }

  -- only whole lines were put
  pub lines_early : (left : List (List ℕ)) (number : ℕ) (a : Bool) (old new : W) (old' new' : E) → LinesShown g h form all left number a old new old' new'
      → Puts g (StartsLines form all) old new
  lines_early left number a old new old' new' p = record {
    out = p.puts.out;
    appended = p.puts.appended;
    shown = record {
      before = p.before;
      following = left;
      split = p.split;
      first = p.puts.out;
      second = [];
      told = p.puts.told;
      accepted = a;
      prints = p.puts.shown;
      next = starts_none form left;
      printed = sym (append-nil p.puts.out);
    };
  }

  -- the next line was put whole, and nothing is known of what was told of it
  pub line_untold : (line : List ℕ) (left : List (List ℕ)) (number : ℕ) (a : Bool) (c : Option Complaint) (old mid new : W) (old' mid' : E)
      → LinesShown g h form all (line ∷ left) number a old mid old' mid' → Puts g (λ out. ShowsLine form number line out c) mid new
      → Puts g (StartsLines form all) old new
  line_untold line left number a c old mid new old' mid' p q = record {
    out = p.puts.out ++ q.out;
    appended = Appends-trans _ _ _ p.puts.out q.out p.puts.appended q.appended;
    shown = record {
      before = p.before ++ line ∷ [];
      following = left;
      split = p.split ∙ sym (append_assoc p.before (line ∷ []) left);
      first = p.puts.out ++ q.out;
      second = [];
      told = p.puts.told ++ told_of c;
      accepted = a && is_none c;
      prints = all_more form 1 number p.before line p.puts.out p.puts.told q.out a c p.number_is p.puts.shown q.shown;
      next = starts_none form left;
      printed = sym (append-nil (p.puts.out ++ q.out));
    };
  }

  -- nothing was put
  pub lines_none : (w : W) → Puts g (StartsLines form all) w w
  lines_none w = record {
    out = [];
    appended = Appends-nil (g.told w);
    shown = record {
      before = [];
      following = all;
      split = refl;
      first = [];
      second = [];
      told = [];
      accepted = true;
      prints = all_none form 1;
      next = starts_none form all;
      printed = refl;
    };
  }

-- what holds of the bytes that were read holds of the input
pub on_read : (r : Result Bool RunFault) (ahead : Option (List ℕ)) (bytes now : List ℕ) (P : Bool → List ℕ → Type 0) → IfSome ahead (λ input. bytes ≡ input)
    → now ≡ bytes → IfOk r (λ a. P a now) → IfOk r (λ a. IfSome ahead (P a))
on_read (Err e) ahead bytes now P e' is p = tt
on_read (Ok a) None bytes now P e is p = tt
on_read (Ok a) (Some input) bytes now P e is p = subst (P a) (is ∙ e) p

pub on_read_early : (r : Result Bool RunFault) (ahead : Option (List ℕ)) (bytes now : List ℕ) (P : List ℕ → Type 0) → IfSome ahead (λ input. bytes ≡ input)
    → now ≡ bytes → IfErr r (λ e. P now) → IfErr r (λ e. IfSome ahead P)
on_read_early (Ok a) ahead bytes now P e is p = tt
on_read_early (Err x) None bytes now P e is p = tt
on_read_early (Err x) (Some input) bytes now P e is p = subst P (is ∙ e) p
