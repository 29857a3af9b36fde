-- What lines and messages print, one more at a time.
use Rattle.std.proofs.Common.{
  arith,
  ◌≡◌,
  ◌≢◌,
  ℕ,
  ◌+◌,
  ◌-◌,
  ◌<◌,
  Bool,
  true,
  false,
  List,
  [],
  ◌∷◌,
  ◌++◌,
  inl,
  inr,
  length,
  refl,
  sym,
  ap,
  ◌∙◌,
  subst,
  append-nil,
  append_assoc,
}
use Rattle.std.specs.Prelude.{◌&&◌, ◌⊎◌, ◌≢◌, flat_map, Result, Ok, Err, OnOk, IfOk}
use Rattle.std.specs.Io.KnownBytes.{Appends}
use Rattle.hex.specs.Hex.{decode_of}
use Rattle.hex.specs.declared.error.FromHexError.{FromHexError}
use Rattle.hex.specs.declared.error.FromHexError.TheVariants.{OutOfMemory}
use Rattle.canon_lines.specs.declared.lines.Stop.{Stop}
use Rattle.canon_lines.specs.Lines.{digits_in}
use Rattle.std.proofs.KnownBytes.{Appends-nil, Appends-trans}
use Rattle.std.proofs.lemmas.List.Elements.{All-push}
use Rattle.rmp_wire.specs.declared.sink.Sink.{Ghosts}
use Rattle.rmp_wire.specs.Spelling.{Spells}
use Rattle.rmp_wire.proofs.Lists.{spells_more}
use Rattle.rmp_serde.specs.Msg.{Msg}
use Rattle.rmp_serde.specs.Read.{ItemsUtf8}
use Rattle.rmp_serde.specs.Refuse.{UnreadFor}
use Rattle.rmp_decode.specs.Refuse.{Refusal}
use Rattle.rmp_decode.specs.declared.error.Error.{Error}
use Rattle.rmp_decode.specs.declared.error.Error.TheVariants as errors
use Rattle.std.proofs.lemmas.List.{length-append}
use Rattle.canon_lines.specs.Messages.{message_text, refused_text, no_hex_text}
use Rattle.canon_lines.specs.Prints.{line, IsAccepted, NoneBegins, HoldsMessages, PrintsMessages, PrintsDecoded, PrintsLine, PrintsAll, Puts}

and_assoc : (a b c : Bool) → (a && b && c) ≡ (a && (b && c))
and_assoc true b c = refl
and_assoc false b c = refl

and_true : (a : Bool) → (a && true) ≡ a
and_true true = refl
and_true false = refl

-- one line more
pub prints_more : (shows : List ℕ → List ℕ → Bool → Type 0) (ls : List (List ℕ)) (l out : List ℕ) (a : Bool) (more : List ℕ) (b : Bool)
    → PrintsAll shows ls out a → PrintsLine shows l more b → PrintsAll shows (ls ++ l ∷ []) (out ++ more) (a && b)
unfolding PrintsAll
prints_more shows [] l out a more b p q = record {
  first = more;
  second = [];
  first_accepted = b;
  second_accepted = true;
  prints_first = q;
  prints_second = (refl, refl);
  printed = ap (λ s. s ++ more) p.0 ∙ sym (append-nil more);
  both = ap (λ x. x && b) p.1 ∙ sym (and_true b);
}
prints_more shows (k ∷ ks) l out a more b p q = record {
  first = p.first;
  second = p.second ++ more;
  first_accepted = p.first_accepted;
  second_accepted = p.second_accepted && b;
  prints_first = p.prints_first;
  prints_second = prints_more shows ks l p.second p.second_accepted more b p.prints_second q;
  printed = ap (λ s. s ++ more) p.printed ∙ append_assoc p.first p.second more;
  both = ap (λ x. x && b) p.both ∙ and_assoc p.first_accepted p.second_accepted b;
}

pub prints_none : (shows : List ℕ → List ℕ → Bool → Type 0) → PrintsAll shows [] [] true
unfolding PrintsAll
prints_none shows = (refl, refl)

module _ {W : Type 0} (g : Ghosts W) (shows : List ℕ → List ℕ → Bool → Type 0) where
  pub puts_nothing : (s : W) → Puts g (λ out. PrintsAll shows [] out true) s s
  puts_nothing s = record { out = []; appended = Appends-nil (g.told s); shown = prints_none shows }

pub puts_weaker : {W : Type 0} (g : Ghosts W) {P Q : List ℕ → Type 0} {old new : W} → Puts g P old new → ((out : List ℕ) → P out → Q out) → Puts g Q old new
puts_weaker g p f = record { out = p.out; appended = p.appended; shown = f p.out p.shown }

-- ---- lines

module _ (shows : List ℕ → List ℕ → Bool → Type 0) where
  -- what the bytes of a line print
  pub line_holds : (text bytes out : List ℕ) (a : Bool) → decode_of (digits_in text) ≡ Ok bytes → shows bytes out a → PrintsLine shows text out a
  unfolding PrintsLine
  line_holds text bytes out a e p = subst (λ r. PrintsDecoded shows r out a) (sym e) p

  pub line_refused : (text : List ℕ) (e : FromHexError) (a : Bool) → decode_of (digits_in text) ≡ Err e → a ≡ false → PrintsLine shows text (line no_hex_text) a
  unfolding PrintsLine
  line_refused text e a is f = subst (λ r. PrintsDecoded shows r (line no_hex_text) a) (sym is) (refl, f)

  pub hex_refused : {W : Type 0} (g : Ghosts W) (old new : W) (text : List ℕ) (e : FromHexError) (r : Result Bool Stop)
      → (e ≡ OutOfMemory) ⊎ (decode_of (digits_in text) ≡ Err e) → OnOk r (e ≢ OutOfMemory) → IfOk r (λ a. a ≡ false)
      → OnOk r (Appends (g.told old) (g.told new) (line no_hex_text))
      → IfOk r (λ a. Puts g (λ out. PrintsLine shows text out a) old new)
  hex_refused g old new text e (Ok a) (inl m) n f p = absurd (n m)
  hex_refused g old new text e (Ok a) (inr d) n f p = record { out = line no_hex_text; appended = p; shown = line_refused text e a d f }
  hex_refused g old new text e (Err x) s n f p = tt

-- ---- messages of one line

pub flat_more : {A : Type 0} (f : A → List ℕ) (xs : List A) (x : A) → flat_map f (xs ++ x ∷ []) ≡ flat_map f xs ++ f x
flat_more f [] x = append-nil (f x)
flat_more f (y ∷ ys) x = ap (λ s. f y ++ s) (flat_more f ys x) ∙ sym (append_assoc (f y) (flat_map f ys) (f x))

-- one message more
pub holds_more : {ms : List Msg} (bytes : List ℕ) {front rest rest' : List ℕ} (b : List ℕ) (m : Msg) → HoldsMessages ms bytes front rest → rest ≡ b ++ rest'
    → Spells b m → IsAccepted m → HoldsMessages (ms ++ m ∷ []) bytes (front ++ b) rest'
holds_more {ms} bytes {front} {rest} {rest'} b m h e spelled accepted = record {
  split = h.split ∙ ap (λ s. front ++ s) e ∙ sym (append_assoc front b rest');
  spelled = spells_more ms m front b h.spelled spelled;
  accepted = All-push IsAccepted ms m h.accepted accepted;
}

-- what was printed for the messages so far, and what is left of the line
pub record SoFar {W : Type 0} (g : Ghosts W) (bytes rest : List ℕ) (old new : W) : Type 0 where
  pub messages : List Msg
  pub front : List ℕ
  pub holds : HoldsMessages messages bytes front rest
  pub puts : Puts g (λ out. out ≡ flat_map (λ m. line (message_text m)) messages) old new

module _ {W : Type 0} (g : Ghosts W) where
  pub none_so_far : (bytes : List ℕ) (s : W) → SoFar g bytes bytes s s
  none_so_far bytes s = record {
    messages = [];
    front = [];
    holds = record { split = refl; spelled = refl; accepted = λ k d h. absurd (omega arith) };
    puts = record { out = []; appended = Appends-nil (g.told s); shown = refl };
  }

  -- one message more was read, and its line printed
  pub message_more : (bytes : List ℕ) {rest rest' : List ℕ} (b : List ℕ) (m : Msg) {old mid new : W} → SoFar g bytes rest old mid → rest ≡ b ++ rest'
      → Spells b m → IsAccepted m → Appends (g.told mid) (g.told new) (line (message_text m)) → SoFar g bytes rest' old new
  message_more bytes {rest} {rest'} b m {old} {mid} {new} p e spelled accepted appended = record {
    messages = p.messages ++ m ∷ [];
    front = p.front ++ b;
    holds = holds_more bytes b m p.holds e spelled accepted;
    puts = record {
      out = p.puts.out ++ line (message_text m);
      appended = Appends-trans _ _ _ p.puts.out (line (message_text m)) p.puts.appended appended;
      shown = ap (λ s. s ++ line (message_text m)) p.puts.shown ∙ sym (flat_more (λ k. line (message_text k)) p.messages m);
    };
  }

  -- nothing is left
  pub all_read : (bytes rest : List ℕ) {old new : W} → SoFar g bytes rest old new → length rest ≡ 0 → Puts g (λ out. PrintsMessages bytes out true) old new
  all_read bytes [] p e = record {
    out = p.puts.out;
    appended = p.puts.appended;
    shown = record {
      messages = p.messages;
      front = p.front;
      rest = [];
      last = [];
      holds = p.holds;
      ends = (refl, refl);
      printed = p.puts.shown
          ∙ sym (append-nil _);
    };
  }
  all_read bytes (x ∷ xs) p e = absurd (omega arith)

  -- what is left begins with no message, and its refusal was printed
  pub then_refused : (bytes rest : List ℕ) (place : ℕ) (e : Error) {old mid new : W} → SoFar g bytes rest old mid → place ≡ length bytes - length rest
      → 0 < length rest → e ≢ errors.OutOfMemory → NoneBegins rest → Refusal false (UnreadFor false) ItemsUtf8 1024 e rest
      → Appends (g.told mid) (g.told new) (line (refused_text place e)) → Puts g (λ out. PrintsMessages bytes out false) old new
  then_refused bytes rest place e p at more kept none wrong appended = record {
    out = p.puts.out ++ line (refused_text place e);
    appended = Appends-trans _ _ _ p.puts.out (line (refused_text place e)) p.puts.appended appended;
    shown = record {
      messages = p.messages;
      front = p.front;
      rest = rest;
      last = line (refused_text place e);
      holds = p.holds;
      ends = record { error = e; some = more; no_memory = kept; none = none; wrong = wrong; shown = ap (λ n. line (refused_text n e)) here };
      printed = ap (λ s. s ++ line (refused_text place e)) p.puts.shown;
    };
  }
    where
      whole : length bytes ≡ length p.front + length rest
      whole = ap length p.holds.split ∙ length-append p.front rest

      here : place ≡ length p.front
      here = omega (arith, at, whole)
