-- What the checker prints for the bytes of a line, one message more at a time.
use Rattle.std.proofs.Common.{
  arith,
  ◌≡◌,
  ◌≢◌,
  ◌∙◌,
  ℕ,
  ◌+◌,
  ◌-◌,
  ◌<◌,
  ◌≤◌,
  Bool,
  true,
  false,
  List,
  [],
  ◌∷◌,
  ◌++◌,
  inl,
  inr,
  drop,
  take,
  length,
  refl,
  sym,
  ap,
  subst,
  append-nil,
  append_assoc,
}
use Rattle.std.specs.Prelude.{◌⊎◌, flat_map, Result, Ok, Err, OnOk, IfOk, IfErr}
use Rattle.std.specs.Io.KnownBytes.{Appends}
use Rattle.std.proofs.KnownBytes.{Appends-nil, Appends-trans}
use Rattle.std.proofs.lemmas.List.{length-append, length-drop, drop_at, take_all}
use Rattle.std.proofs.lemmas.List.Elements.{All-push}
use Rattle.rmp_wire.specs.declared.sink.Sink.{Ghosts}
use Rattle.rmp_wire.specs.Spelling.{canon, Fits}
use Rattle.rmp_wire.proofs.Spellings.{canon_spells}
use Rattle.rmp_serde.specs.Msg.{Msg}
use Rattle.rmp_serde.specs.Places.{IsWhole, IsFault, Stops}
use Rattle.rmp_decode.specs.declared.error.Error.{Error}
use Rattle.rmp_decode.specs.declared.error.Error.TheVariants.{OutOfMemory}
use Rattle.canon_lines.specs.declared.lines.Stop.{Stop}
use Rattle.canon_lines.specs.Checks.{HoldsCanonical, EndsCheck, StartsChecks, PrintsChecks}
use Rattle.canon_lines.specs.Messages.{canonical_text, fault_text, refused_text}
use Rattle.canon_lines.specs.Prints.{line, IsStart, Puts}
use Rattle.canon_lines.proofs.Early.{nothing_put, start_none}
use Rattle.canon_lines.proofs.MessageReads.{shorter}
use Rattle.canon_lines.proofs.Shown.{flat_more}

-- what follows a canonical message
pub record EndsAfter (input : List ℕ) (n : ℕ) : Type 0 where
  pub some : 0 < n
  pub within : n ≤ length input

pub whole_some : (input : List ℕ) (n : ℕ) → IsWhole input n → EndsAfter input n
whole_some input n w =
    let less = shorter w.tree (canon w.tree) input w.rest (canon_spells w.tree w.fits) w.front in
    let all = ap length w.front ∙ length-append (canon w.tree) w.rest in
    let long = w.long in
    record { some = omega (arith, less, all, long); within = omega (arith, all, long) }

pub fault_within : (input : List ℕ) (p : ℕ) → IsFault input p → p ≤ length input
fault_within input p f = let all = ap length f.front ∙ length-append f.before f.there in omega (arith, all, f.place)

-- what remains after n bytes, as a slice
pub left_after : (n : ℕ) (xs : List ℕ) → take (length xs - n) (drop n xs) ≡ drop n xs
left_after n xs = take_all (length xs - n) (drop n xs) (omega (arith, length-drop n xs))

-- what was printed for the messages so far, and what is left of the line
pub record Checked {W : Type 0} (g : Ghosts W) (bytes rest : List ℕ) (old new : W) : Type 0 where
  pub messages : List Msg
  pub front : List ℕ
  pub holds : HoldsCanonical messages bytes front rest
  pub puts : Puts g (λ out. out ≡ flat_map (λ m. line (canonical_text (length (canon m)))) messages) old new

module _ {W : Type 0} (g : Ghosts W) where
  pub none_checked : (bytes : List ℕ) (s : W) → Checked g bytes bytes s s
  none_checked bytes s = record {
    messages = [];
    front = [];
    holds = record { split = refl; spelled = refl; fit = λ k d h. absurd (omega arith) };
    puts = record { out = []; appended = Appends-nil (g.told s); shown = refl };
  }

  -- one message more is canonical, and its line printed
  pub checked_more : (bytes rest rest' : List ℕ) (n : ℕ) {old mid new : W} → Checked g bytes rest old mid → IsWhole rest n → rest' ≡ drop n rest
      → Appends (g.told mid) (g.told new) (line (canonical_text n)) → Checked g bytes rest' old new
  checked_more bytes rest rest' n {old} {mid} {new} p w e appended =
      let left : rest' ≡ w.rest = e ∙ ap (drop n) w.front ∙ ap (λ k. drop k (canon w.tree ++ w.rest)) w.long
      ∙ drop_at (canon w.tree) w.rest (length (canon w.tree)) refl in
      let printed : Appends (g.told mid) (g.told new) (line (canonical_text (length (canon w.tree)))) = subst
      (λ k. Appends (g.told mid) (g.told new) (line (canonical_text k))) w.long appended in
      record {
        messages = p.messages ++ w.tree ∷ [];
        front = p.front ++ canon w.tree;
        holds = record {
          split = p.holds.split ∙ ap (λ s. p.front ++ s) (w.front ∙ ap (λ s. canon w.tree ++ s) (sym left)) ∙ sym (append_assoc p.front (canon w.tree) rest');
          spelled = ap (λ s. s ++ canon w.tree) p.holds.spelled ∙ sym (flat_more canon p.messages w.tree);
          fit = All-push Fits p.messages w.tree p.holds.fit w.fits;
        };
        puts = record {
          out = p.puts.out ++ line (canonical_text (length (canon w.tree)));
          appended = Appends-trans _ _ _ p.puts.out (line (canonical_text (length (canon w.tree)))) p.puts.appended printed;
          shown = ap (λ s. s ++ line (canonical_text (length (canon w.tree)))) p.puts.shown
              ∙ sym (flat_more (λ m. line (canonical_text (length (canon m)))) p.messages w.tree);
        };
      }

  -- nothing is left
  pub all_checked : (bytes rest : List ℕ) {old new : W} → Checked g bytes rest old new → length rest ≡ 0 → Puts g (λ out. PrintsChecks bytes out true) old new
  all_checked bytes [] p e = record {
    out = p.puts.out;
    appended = p.puts.appended;
    shown = record {
      messages = p.messages;
      front = p.front;
      rest = [];
      last = [];
      holds = p.holds;
      ends = (refl, refl);
      printed = p.puts.shown
          ∙ sym (append-nil _);
    };
  }
  all_checked bytes (x ∷ xs) p e = absurd (omega arith)

  -- what is left ends the line, and its own line was printed
  then_ends : (bytes rest last : List ℕ) {old mid new : W} (p : Checked g bytes rest old mid) → EndsCheck false (length p.front) rest last
      → Appends (g.told mid) (g.told new) last → Puts g (λ out. PrintsChecks bytes out false) old new
  then_ends bytes rest last p ends appended = record {
    out = p.puts.out ++ last;
    appended = Appends-trans _ _ _ p.puts.out last p.puts.appended appended;
    shown = record {
      messages = p.messages;
      front = p.front;
      rest = rest;
      last = last;
      holds = p.holds;
      ends = ends;
      printed = ap (λ s. s ++ last)
          p.puts.shown;
    };
  }

  place_is : (bytes rest : List ℕ) (place : ℕ) {old mid : W} (p : Checked g bytes rest old mid) → place ≡ length bytes - length rest → place ≡ length p.front
  place_is bytes rest place p at = let whole = ap length p.holds.split ∙ length-append p.front rest in omega (arith, at, whole)

  -- a refusal that was printed
  refused : (bytes rest last : List ℕ) (r : Result Bool Stop) {old mid : W} (new : W) (p : Checked g bytes rest old mid)
      → (OnOk r (EndsCheck false (length p.front) rest last)) → IfOk r (λ a. a ≡ false) → OnOk r (Appends (g.told mid) (g.told new) last)
      → IfOk r (λ a. Puts g (λ out. PrintsChecks bytes out a) old new)
  refused bytes rest last (Ok a) {old} new p ends f appended = subst (λ x. Puts g (λ out. PrintsChecks bytes out x) old new) (sym f)
      (then_ends bytes rest last p ends appended)
  refused bytes rest last (Err x) new p ends f appended = tt

  on_ok : {A E : Type 0} (r : Result A E) (P : Type 0) → P → OnOk r P
  on_ok (Ok a) P p = p
  on_ok (Err e) P p = tt

  on_both : {A E : Type 0} (r : Result A E) (P Q : Type 0) → (P → Q) → OnOk r P → OnOk r Q
  on_both (Ok a) P Q f p = f p
  on_both (Err e) P Q f p = tt

  -- a head that isn't canonical ends the line
  pub fault_ends : (bytes rest : List ℕ) (place at : ℕ) (r : Result Bool Stop) {old mid : W} (new : W) → Checked g bytes rest old mid
      → place ≡ length bytes - length rest → IsFault rest at → IfOk r (λ a. a ≡ false)
      → OnOk r (Appends (g.told mid) (g.told new) (line (fault_text (place + at))))
      → IfOk r (λ a. Puts g (λ out. PrintsChecks bytes out a) old new)
  fault_ends bytes rest place at r new p is fault f appended =
      let here = place_is bytes rest place p is in
      refused bytes rest (line (fault_text (place + at))) r new p
      (on_ok r (EndsCheck false (length p.front) rest (line (fault_text (place + at))))
      (inl (record { at = at; fault = fault; shown = ap (λ n. line (fault_text (n + at))) here }))) f appended

  -- what is no message ends it
  pub stop_ends : (bytes rest : List ℕ) (place : ℕ) (e : Error) (r : Result Bool Stop) {old mid : W} (new : W) → Checked g bytes rest old mid
      → place ≡ length bytes - length rest → 0 < length rest → Stops rest e → OnOk r (e ≢ OutOfMemory) → IfOk r (λ a. a ≡ false)
      → OnOk r (Appends (g.told mid) (g.told new) (line (refused_text place e))) → IfOk r (λ a. Puts g (λ out. PrintsChecks bytes out a) old new)
  stop_ends bytes rest place e r new p is some stops n f appended =
      let here = place_is bytes rest place p is in
      refused bytes rest (line (refused_text place e)) r new p
      (on_both r (e ≢ OutOfMemory) (EndsCheck false (length p.front) rest (line (refused_text place e)))
      (λ kept. inr (record { error = e; some = some; no_memory = kept; wrong = stops; shown = ap (λ k. line (refused_text k e)) here })) n) f appended

  -- ---- where the run ends early

  ends_early : (bytes rest last : List ℕ) {old mid new : W} (p : Checked g bytes rest old mid) → (last ≡ []) ⊎ EndsCheck false (length p.front) rest last
      → Puts g (IsStart last) mid new → Puts g (StartsChecks bytes) old new
  ends_early bytes rest last p ends q = record {
    out = p.puts.out ++ q.out;
    appended = Appends-trans _ _ _ p.puts.out q.out p.puts.appended q.appended;
    shown = record {
      messages = p.messages;
      front = p.front;
      rest = rest;
      last = last;
      holds = p.holds;
      ends = ends;
      start = record {
        more = q.shown.more;
        split = ap (λ s. s ++ last) (sym p.puts.shown) ∙ ap (λ s. p.puts.out ++ s) q.shown.split
            ∙ sym (append_assoc p.puts.out q.out q.shown.more);
      };
    };
  }

  -- only whole lines were put
  pub checked_early : (bytes rest : List ℕ) {old new : W} → Checked g bytes rest old new → Puts g (StartsChecks bytes) old new
  checked_early bytes rest p = ends_early bytes rest [] p (inl refl) (nothing_put g _ (start_none []))

  -- a message more is canonical, and its line put in part
  pub whole_early : (bytes rest : List ℕ) (n : ℕ) {old mid : W} (new : W) → Checked g bytes rest old mid → IsWhole rest n
      → Puts g (IsStart (line (canonical_text n))) mid new → Puts g (StartsChecks bytes) old new
  whole_early bytes rest n {old} {mid} new p w q = record {
    out = p.puts.out ++ q.out;
    appended = Appends-trans _ _ _ p.puts.out q.out p.puts.appended q.appended;
    shown = record {
      messages = p.messages ++ w.tree ∷ [];
      front = p.front ++ canon w.tree;
      rest = w.rest;
      last = [];
      holds = record {
        split = p.holds.split ∙ ap (λ s. p.front ++ s) w.front ∙ sym (append_assoc p.front (canon w.tree) w.rest);
        spelled = ap (λ s. s ++ canon w.tree) p.holds.spelled ∙ sym (flat_more canon p.messages w.tree);
        fit = All-push Fits p.messages w.tree p.holds.fit w.fits;
      };
      ends = inl refl;
      start = record {
        more = q.shown.more;
        split = append-nil _ ∙ flat_more (λ m. line (canonical_text (length (canon m)))) p.messages w.tree
            ∙ ap (λ s. s ++ line (canonical_text (length (canon w.tree)))) (sym p.puts.shown)
            ∙ ap (λ k. p.puts.out ++ line (canonical_text k)) (sym w.long) ∙ ap (λ s. p.puts.out ++ s) q.shown.split
            ∙ sym (append_assoc p.puts.out q.out q.shown.more);
      };
    };
  }

  pub fault_early : (bytes rest : List ℕ) (place at : ℕ) (r : Result Bool Stop) {old mid : W} (new : W) → Checked g bytes rest old mid
      → place ≡ length bytes - length rest → IsFault rest at → IfErr r (λ x. Puts g (IsStart (line (fault_text (place + at)))) mid new)
      → IfErr r (λ x. Puts g (StartsChecks bytes) old new)
  fault_early bytes rest place at (Ok a) new p is fault q = tt
  fault_early bytes rest place at (Err x) new p is fault q =
      let here = place_is bytes rest place p is in
      ends_early bytes rest (line (fault_text (place + at))) p
      (inr (inl (record { at = at; fault = fault; shown = ap (λ n. line (fault_text (n + at))) here }))) q

  pub stop_early : (bytes rest : List ℕ) (place : ℕ) (e : Error) (r : Result Bool Stop) {old mid : W} (new : W) → Checked g bytes rest old mid
      → place ≡ length bytes - length rest → 0 < length rest → Stops rest e
      → IfErr r (λ x. Puts g (λ out. (out ≡ []) ⊎ ((e ≢ OutOfMemory) × IsStart (line (refused_text place e)) out)) mid new)
      → IfErr r (λ x. Puts g (StartsChecks bytes) old new)
  stop_early bytes rest place e (Ok a) new p is some stops q = tt
  stop_early bytes rest place e (Err x) new p is some stops q = elim q.shown [
    | inl z ↦ ends_early bytes rest [] p (inl refl) (record
        { out = q.out; appended = q.appended; shown = record { more = []; split = sym (ap (λ s. s ++ []) z) } })
    | inr s ↦
        let here = place_is bytes rest place p is in
        ends_early bytes rest (line (refused_text place e)) p
        (inr (inr (record { error = e; some = some; no_memory = s.0; wrong = stops; shown = ap (λ k. line (refused_text k e)) here })))
        (record { out = q.out; appended = q.appended; shown = s.1 })
  ]
