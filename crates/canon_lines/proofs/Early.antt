-- What was put where a run ends early.
use Rattle.std.proofs.Common.{
  arith,
  ◌≡◌,
  ◌≢◌,
  ◌∙◌,
  ℕ,
  ◌-◌,
  ◌<◌,
  Bool,
  true,
  false,
  List,
  [],
  ◌∷◌,
  ◌++◌,
  inl,
  inr,
  length,
  refl,
  sym,
  ap,
  subst,
  append-nil,
  append_assoc,
}
use Rattle.std.specs.Prelude.{◌⊎◌, Option, None, Some, IfSome, Result, Ok, Err, IfErr}
use Rattle.std.proofs.KnownBytes.{Appends-nil, Appends-trans}
use Rattle.std.proofs.lemmas.List.{length-append}
use Rattle.hex.specs.Hex.{decode_of}
use Rattle.hex.specs.declared.error.FromHexError.{FromHexError}
use Rattle.hex.specs.declared.error.FromHexError.TheVariants as hex
use Rattle.rmp_wire.specs.Sinks.{PutsPart}
use Rattle.rmp_wire.specs.declared.error.ValueWriteError.{ValueWriteError}
use Rattle.rmp_wire.specs.declared.sink.Sink.{Ghosts}
use Rattle.rmp_wire.specs.Spelling.{Spells}
use Rattle.rmp_serde.specs.Msg.{Msg}
use Rattle.rmp_serde.specs.Read.{ItemsUtf8}
use Rattle.rmp_serde.specs.Refuse.{UnreadFor}
use Rattle.rmp_decode.specs.Refuse.{Refusal}
use Rattle.rmp_decode.specs.declared.error.Error.{Error}
use Rattle.rmp_decode.specs.declared.error.Error.TheVariants as errors
use Rattle.canon_lines.specs.declared.lines.Stop.{Stop}
use Rattle.canon_lines.specs.Lines.{digits_in}
use Rattle.canon_lines.specs.Messages.{message_text, refused_text, no_hex_text}
use Rattle.canon_lines.specs.Prints.{line, IsAccepted, NoneBegins, RefusesAt, IsStart, StartsMessages, StartsDecoded, StartsLine, StartsFirst, StartsAll, Puts}
use Rattle.canon_lines.proofs.Shown.{SoFar, holds_more, flat_more, prints_none}

pub start_none : (whole : List ℕ) → IsStart whole []
start_none whole = record { more = whole; split = refl }

pub on_err : {A E : Type 0} (r : Result A E) (P : Type 0) → P → IfErr r (λ e. P)
on_err (Ok a) P p = tt
on_err (Err e) P p = p

pub err_then : {A E : Type 0} (r : Result A E) (P Q : Type 0) → (P → Q) → IfErr r (λ e. P) → IfErr r (λ e. Q)
err_then (Ok a) P Q f p = tt
err_then (Err e) P Q f p = f p

pub if_some : {A : Type 0} (o : Option A) (P : A → Type 0) → ((a : A) → P a) → IfSome o P
if_some None P f = tt
if_some (Some a) P f = f a

module _ {W : Type 0} (g : Ghosts W) where
  pub nothing_put : {P : List ℕ → Type 0} (s : W) → P [] → Puts g P s s
  nothing_put s p = record { out = []; appended = Appends-nil (g.told s); shown = p }

  -- a beginning of one line was put
  pub line_begun : {old new : W} (text bytes : List ℕ) (e : ValueWriteError) → bytes ≡ text ++ 10 ∷ []
      → PutsPart g.takes_memory bytes (g.told old) (g.told new) (g.faults old) (g.faults new) e → Puts g (IsStart (line text)) old new
  line_begun text bytes e is p = record { out = p.part; appended = p.appended; shown = record { more = p.rest; split = sym is ∙ p.split } }

  -- ---- messages

  starts : (bytes rest last : List ℕ) {old mid new : W} (p : SoFar g bytes rest old mid) → (last ≡ []) ⊎ RefusesAt (length p.front) rest last
      → Puts g (IsStart last) mid new → Puts g (StartsMessages bytes) old new
  starts bytes rest last p ends q = record {
    out = p.puts.out ++ q.out;
    appended = Appends-trans _ _ _ p.puts.out q.out p.puts.appended q.appended;
    shown = record {
      messages = p.messages;
      front = p.front;
      rest = rest;
      last = last;
      holds = p.holds;
      ends = ends;
      start = record {
        more = q.shown.more;
        split = ap (λ s. s ++ last) (sym p.puts.shown) ∙ ap (λ s. p.puts.out ++ s) q.shown.split
            ∙ sym (append_assoc p.puts.out q.out q.shown.more);
      };
    };
  }

  -- only whole lines were put
  pub so_far_early : (bytes rest : List ℕ) {old new : W} → SoFar g bytes rest old new → Puts g (StartsMessages bytes) old new
  so_far_early bytes rest p = starts bytes rest [] p (inl refl) (nothing_put _ (start_none []))

  -- a message more was read, and its line put in part
  pub message_early : (bytes rest rest' b : List ℕ) (m : Msg) {old mid new : W} → SoFar g bytes rest old mid → rest ≡ b ++ rest' → Spells b m → IsAccepted m
      → Puts g (IsStart (line (message_text m))) mid new → Puts g (StartsMessages bytes) old new
  message_early bytes rest rest' b m p e spelled accepted q = record {
    out = p.puts.out ++ q.out;
    appended = Appends-trans _ _ _ p.puts.out q.out p.puts.appended q.appended;
    shown = record {
      messages = p.messages ++ m ∷ [];
      front = p.front ++ b;
      rest = rest';
      last = [];
      holds = holds_more bytes b m p.holds e spelled accepted;
      ends = inl refl;
      start = record {
        more = q.shown.more;
        split = append-nil _ ∙ flat_more (λ k. line (message_text k)) p.messages m ∙ ap (λ s. s ++ line (message_text m)) (sym p.puts.shown)
            ∙ ap (λ s. p.puts.out ++ s) q.shown.split ∙ sym (append_assoc p.puts.out q.out q.shown.more);
      };
    };
  }

  -- the refusal was put in part, or not at all
  pub refused_early : (bytes rest : List ℕ) (place : ℕ) (e : Error) (r : Result Bool Stop) {old mid : W} (new : W) → SoFar g bytes rest old mid
      → place ≡ length bytes - length rest → 0 < length rest → (e ≢ errors.OutOfMemory → NoneBegins rest)
      → (e ≢ errors.OutOfMemory → Refusal false (UnreadFor false) ItemsUtf8 1024 e rest)
      → IfErr r (λ x. Puts g (λ out. (out ≡ []) ⊎ ((e ≢ errors.OutOfMemory) × IsStart (line (refused_text place e)) out)) mid new)
      → IfErr r (λ x. Puts g (StartsMessages bytes) old new)
  refused_early bytes rest place e (Ok a) new p at more none wrong q = tt
  refused_early bytes rest place e (Err x) new p at more none wrong q = elim q.shown [
    | inl z ↦ starts bytes rest [] p (inl refl) (record { out = q.out; appended = q.appended; shown = record { more = []; split = sym (ap (λ s. s ++ []) z) } })
    | inr s ↦
        let whole = ap length p.holds.split ∙ length-append p.front rest in
        let here : place ≡ length p.front = omega (arith, at, whole) in
        starts bytes rest (line (refused_text place e)) p (inr
        (record { error = e; some = more; no_memory = s.0; none = none s.0; wrong = wrong s.0; shown = ap (λ n. line (refused_text n e)) here }))
        (record { out = q.out; appended = q.appended; shown = s.1 })
  ]

  -- ---- lines

  module _ (begins : List ℕ → List ℕ → Type 0) where
    pub line_none : (text : List ℕ) (s : W) → Puts g (StartsLine begins text) s s
    unfolding StartsLine
    line_none text s = nothing_put s (inl refl)

    pub line_early : (text bytes : List ℕ) (r : Result Bool Stop) (old new : W) → decode_of (digits_in text) ≡ Ok bytes
        → IfErr r (λ x. Puts g (begins bytes) old new) → IfErr r (λ x. Puts g (StartsLine begins text) old new)
    unfolding StartsLine
    line_early text bytes (Ok a) old new e q = tt
    line_early text bytes (Err x) old new e q = record
        { out = q.out; appended = q.appended; shown = inr (subst (λ d. StartsDecoded begins d q.out) (sym e) q.shown) }

    pub hex_early : (text : List ℕ) (e : FromHexError) (r : Result Bool Stop) (old new : W)
        → (e ≡ hex.OutOfMemory) ⊎ (decode_of (digits_in text) ≡ Err e)
        → IfErr r (λ x. Puts g (λ out. (out ≡ []) ⊎ ((e ≢ hex.OutOfMemory) × IsStart (line no_hex_text) out)) old new)
        → IfErr r (λ x. Puts g (StartsLine begins text) old new)
    unfolding StartsLine
    hex_early text e (Ok a) old new why q = tt
    hex_early text e (Err x) old new why q = elim q.shown [
      | inl z ↦ record { out = q.out; appended = q.appended; shown = inl z }
      | inr s ↦ elim why [
        | inl m ↦ absurd (s.0 m)
        | inr d ↦ record { out = q.out; appended = q.appended; shown = inr (subst (λ k. StartsDecoded begins k q.out) (sym d) s.1) }
      ]
    ]

    module _ (shows : List ℕ → List ℕ → Bool → Type 0) where
      first_none : (texts : List (List ℕ)) → StartsFirst begins texts []
      unfolding StartsLine
      first_none [] = refl
      first_none (text ∷ texts) = inl refl

      pub all_none : (texts : List (List ℕ)) (s : W) → Puts g (StartsAll shows begins texts) s s
      all_none texts s = nothing_put s (record {
        before = [];
        following = texts;
        split = refl;
        first = [];
        second = [];
        accepted = true;
        prints = prints_none
            shows;
        next = first_none texts;
        printed = refl;
      })
