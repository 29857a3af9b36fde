-- Messages that were shown, one more at a time.
use Rattle.std.proofs.Common.{arith, ◌≡◌, ◌∙◌, ℕ, ◌+◌, ◌<◌, ◌≤◌, List, [], ◌∷◌, ◌++◌, inl, inr, length, drop, All, refl, sym, ap, subst, append-nil, append_assoc}
use Rattle.std.specs.Option.{is_none}
use Rattle.std.specs.Prelude.{◌⊎◌, Bool, Option, None, Some, IfSome}
use Rattle.std.specs.Io.KnownBytes.{Appends, Consumes}
use Rattle.std.proofs.KnownBytes.{Appends-nil, Appends-trans, Consumes-nil, Consumes-trans}
use Rattle.std.proofs.lemmas.List.{length-append, drop_at}
use Rattle.std.proofs.lemmas.List.Elements.{All-push}
use Rattle.rmp_wire.specs.declared.sink.Sink.{Ghosts as Sinks}
use Rattle.rmp_wire.specs.declared.source.Source.{Ghosts as Sources}
use Rattle.rmp_wire.specs.Spelling.{SpellsAll}
use Rattle.rmp_wire.proofs.Lists.{spells_more}
use Rattle.rmp_serde.specs.Msg.{Msg, msgs}
use Rattle.rmp_serde.specs.Paths.{place_of}
use Rattle.rmp_scan.specs.Scans.{IsMessage, NoMessage}
use Rattle.canon_lines.specs.Held.{HoldsAll, Pulls}
use Rattle.canon_lines.specs.Prints.{line, IsAccepted, HoldsMessages, IsStart, Puts}
use Rattle.canon_lines.specs.Complaints.{in_input, told_of}
use Rattle.canon_lines.specs.Shows.{form_text, shown_lines, PutsBoth, Shows, ShowsInput, StartsShowing, TellsMessage, RefusesNext}
use Rattle.canon_lines.specs.declared.show.Form.{Form}
use Rattle.canon_lines.specs.declared.show.refused.Refused.{Refused}
use Rattle.canon_lines.proofs.MessageReads.{shorter}
use Rattle.canon_lines.proofs.Shown.{flat_more}

-- what holds of the bytes that were consumed and of any that follow holds of what was there
on_taken : (a b : Option (List ℕ)) (bs : List ℕ) (P : List ℕ → Type 0) → Consumes a b bs → ((following : List ℕ) → b ≡ Some following → P (bs ++ following))
    → IfSome a P
on_taken None b bs P p f = tt
on_taken (Some x) None bs P p f = absurd p
on_taken (Some x) (Some y) bs P p f = subst P (sym p) (f y refl)

-- what is left after some bytes were consumed
left_over : (xs piece : List ℕ) (b : Option (List ℕ)) → Consumes (Some xs) b piece → (rest : List ℕ) × (xs ≡ piece ++ rest)
left_over xs piece None p = absurd p
left_over xs piece (Some rest) p = (rest, p)

no_length : (xs : List ℕ) → length xs ≡ 0 → xs ≡ []
no_length [] e = refl
no_length (x ∷ xs) e = absurd (omega (arith, e))

is_none_input : (r : Option Refused) → is_none (in_input r) ≡ is_none r
is_none_input None = refl
is_none_input (Some r) = refl

-- how many bytes the message has: at least one, and no more than are held
pub record HasBytes (n : ℕ) (held : List ℕ) : Type 0 where
  pub some : 0 < n
  pub within : n ≤ length held

pub told_some : (form : Form) (n : ℕ) (held text : List ℕ) → TellsMessage form n held text → HasBytes n held
told_some form n held text t =
    let less = shorter t.message t.front held t.rest t.spelled t.split in
    let all = ap length t.split ∙ length-append t.front t.rest in
    let long = t.long in
    record { some = omega (arith, less, all, long); within = omega (arith, all, long) }

-- The messages so far were read from the bytes that were consumed, but for those that are held, and were printed.
pub record ShownSoFar {S W : Type 0} (h : Sources S) (g : Sinks W) (form : Form) (held : List ℕ) (number offset : ℕ) (from to : S) (old new : W)
    : Type 0 where
  pub messages : List Msg
  pub front : List ℕ
  pub spelled : SpellsAll front (msgs messages)
  pub accepted : All IsAccepted messages
  pub taken : Consumes (h.ahead from) (h.ahead to) (front ++ held)
  pub puts : Puts g (λ out. out ≡ shown_lines form messages) old new
  pub number_is : number ≡ length messages + 1
  pub offset_is : offset ≡ length front

module _ {S W : Type 0} (h : Sources S) (g : Sinks W) (form : Form) where
  pub none_shown : (held : List ℕ) (s : S) (w : W) → held ≡ [] → ShownSoFar h g form held 1 0 s s w w
  none_shown held s w e = record {
    messages = [];
    front = [];
    spelled = refl;
    accepted = λ k d l. absurd (omega arith);
    taken = subst (Consumes (h.ahead s) (h.ahead s)) (sym e) (Consumes-nil (h.ahead s));
    puts = record { out = []; appended = Appends-nil (g.told w); shown = refl };
    number_is = refl;
    offset_is = refl;
  }

  -- more bytes are held
  pub more_held : (held held' : List ℕ) (number offset : ℕ) (from mid to : S) (old new : W) → ShownSoFar h g form held number offset from mid old new
      → Pulls h held held' mid to → ShownSoFar h g form held' number offset from to old new
  more_held held held' number offset from mid to old new p q = record {
    messages = p.messages;
    front = p.front;
    spelled = p.spelled;
    accepted = p.accepted;
    taken = subst (Consumes (h.ahead from) (h.ahead to)) (append_assoc p.front held q.piece ∙ ap (λ s. p.front ++ s) (sym q.appended))
        (Consumes-trans _ _ _ (p.front ++ held) q.piece p.taken q.taken);
    puts = p.puts;
    number_is = p.number_is;
    offset_is = p.offset_is;
  }

  -- one message more was printed, and its bytes aren't held any more
  pub one_more : (held held' text : List ℕ) (n number offset number' offset' : ℕ) (from to : S) (old mid new : W)
      → ShownSoFar h g form held number offset from to old mid → TellsMessage form n held text → Appends (g.told mid) (g.told new) (line text)
      → held' ≡ drop n held → number' ≡ number + 1 → offset' ≡ offset + n → ShownSoFar h g form held' number' offset' from to old new
  one_more held held' text n number offset number' offset' from to old mid new p t a e ne oe = record {
    messages = p.messages ++ t.message ∷ [];
    front = p.front ++ t.front;
    spelled = spells_more p.messages t.message p.front t.front p.spelled t.spelled;
    accepted = All-push IsAccepted p.messages t.message p.accepted t.accepted;
    taken = subst (Consumes (h.ahead from) (h.ahead to)) (ap (λ s. p.front ++ s) split ∙ sym (append_assoc p.front t.front held')) p.taken;
    puts = record {
      out = p.puts.out ++ line text;
      appended = Appends-trans _ _ _ p.puts.out (line text) p.puts.appended a;
      shown = ap (λ s. s ++ line text) p.puts.shown ∙ ap (λ s. shown_lines form p.messages ++ line s) t.told
          ∙ sym (flat_more (λ m. line (form_text form m)) p.messages t.message);
    };
    number_is = omega (arith, ne, p.number_is, length-append p.messages (t.message ∷ []));
    offset_is = omega (arith, oe, p.offset_is, t.long, length-append p.front t.front);
  }
    where
      split : held ≡ t.front ++ held'
      split = t.split ∙ ap (λ s. t.front ++ s)
          (sym (e ∙ ap (drop n) t.split ∙ ap (λ k. drop k (t.front ++ t.rest)) t.long ∙ drop_at t.front t.rest (length t.front) refl))

  holds : (held following : List ℕ) (number offset : ℕ) (from to : S) (old new : W) (p : ShownSoFar h g form held number offset from to old new)
      → HoldsMessages p.messages ((p.front ++ held) ++ following) p.front (held ++ following)
  holds held following number offset from to old new p = record {
    split = append_assoc p.front held following;
    spelled = p.spelled;
    accepted = p.accepted;
  }

  -- nothing is left
  pub all_shown : (held held' : List ℕ) (number offset : ℕ) (from to : S) (old new : W) → ShownSoFar h g form held number offset from to old new
      → HoldsAll (h.ahead to) held held' → held' ≡ [] → IfSome (h.ahead from) (λ input. Puts g (λ out. Shows form input out None) old new)
  all_shown held held' number offset from to old new p all e = on_taken _ _ (p.front ++ held) _ p.taken (λ following is. record {
    out = p.puts.out;
    appended = p.puts.appended;
    shown = record {
      messages = p.messages;
      front = p.front;
      rest = held ++ following;
      holds = holds held following number offset from to old new p;
      ends = sym (subst (λ o. HoldsAll o held held') is all) ∙ e;
      printed = p.puts.shown;
    };
  })

  -- the next message can't be read
  pub then_refused : (held held' : List ℕ) (number offset : ℕ) (from mid to : S) (old new : W) (r : Refused)
      → ShownSoFar h g form held number offset from mid old new → Pulls h held held' mid to → RefusesNext (h.ahead mid) held held' r.path r.why
      → r.number ≡ number → r.offset ≡ offset + place_of r.path
      → IfSome (h.ahead from) (λ input. Puts g (λ out. Shows form input out (Some r)) old new)
  then_refused held held' number offset from mid to old new r p pulled q ne oe = on_taken _ _ (p.front ++ held) _ p.taken (λ ahead is.
      let more = left_over ahead pulled.piece _ (subst (λ o. Consumes o (h.ahead to) pulled.piece) is pulled.taken) in
      let decided : (IsMessage q.seen ⊎ NoMessage q.seen) ⊎ (q.following ++ more.0 ≡ []) = elim q.decides [
        | inl a ↦ inl a
        | inr e ↦
            let all = ap length (subst (λ o. HoldsAll o held held') is e.1) ∙ length-append held ahead in
            let held_len = ap length pulled.appended ∙ length-append held pulled.piece in
            let ahead_len = ap length more.1 ∙ length-append pulled.piece more.0 in
            inr (ap (λ s. s ++ more.0) e.0 ∙ no_length more.0 (omega (arith, all, held_len, ahead_len)))
      ] in
      record {
        out = p.puts.out;
        appended = p.puts.appended;
        shown = record {
          messages = p.messages;
          front = p.front;
          rest = held ++ ahead;
          holds = holds held ahead number offset from mid old new p;
          ends = record {
            seen = q.seen;
            following = q.following ++ more.0;
            some = q.some;
            split = ap (λ s. held ++ s) more.1 ∙ sym (append_assoc held pulled.piece more.0) ∙ ap (λ s. s ++ more.0) (sym pulled.appended)
                ∙ ap (λ s. s ++ more.0) q.split ∙ append_assoc q.seen q.following more.0;
            decides = decided;
            refusal = q.refusal;
            number_is = ne ∙ p.number_is;
            offset_is = oe ∙ ap (λ n. n + place_of r.path) p.offset_is;
          };
          printed = p.puts.shown;
        };
      })

  -- only whole lines were put
  pub shown_early : (held : List ℕ) (number offset : ℕ) (from to : S) (old new : W) → ShownSoFar h g form held number offset from to old new
      → IfSome (h.ahead from) (λ input. Puts g (StartsShowing form input) old new)
  shown_early held number offset from to old new p = on_taken _ _ (p.front ++ held) _ p.taken (λ following is. record {
    out = p.puts.out;
    appended = p.puts.appended;
    shown = record {
      messages = p.messages;
      front = p.front;
      rest = held ++ following;
      holds = holds held following number offset from to old new p;
      start = record { more = []; split = sym p.puts.shown ∙ sym (append-nil p.puts.out) };
    };
  })

  -- a message more was read, and its text put in part
  pub more_early : (held text : List ℕ) (n number offset : ℕ) (from to : S) (old mid new : W) → ShownSoFar h g form held number offset from to old mid
      → TellsMessage form n held text → Puts g (IsStart (line text)) mid new → IfSome (h.ahead from) (λ input. Puts g (StartsShowing form input) old new)
  more_early held text n number offset from to old mid new p t q = on_taken _ _ (p.front ++ held) _ p.taken (λ following is. record {
    out = p.puts.out ++ q.out;
    appended = Appends-trans _ _ _ p.puts.out q.out p.puts.appended q.appended;
    shown = record {
      messages = p.messages ++ t.message ∷ [];
      front = p.front ++ t.front;
      rest = t.rest ++ following;
      holds = record {
        split = ap (λ s. (p.front ++ s) ++ following) t.split ∙ ap (λ s. s ++ following) (sym (append_assoc p.front t.front t.rest))
            ∙ append_assoc (p.front ++ t.front) t.rest following;
        spelled = spells_more p.messages t.message p.front t.front p.spelled t.spelled;
        accepted = All-push IsAccepted p.messages t.message p.accepted t.accepted;
      };
      start = record {
        more = q.shown.more;
        split = flat_more (λ m. line (form_text form m)) p.messages t.message ∙ ap (λ s. shown_lines form p.messages ++ line s) (sym t.told)
            ∙ ap (λ s. s ++ line text) (sym p.puts.shown) ∙ ap (λ s. p.puts.out ++ s) q.shown.split
            ∙ sym (append_assoc p.puts.out q.out q.shown.more);
      };
    };
  })

  -- the messages were shown, and what can't be read was told of
  pub show_both : {E : Type 0} (e : Sinks E) (ahead : Option (List ℕ)) (r : Option Refused) (a : Bool) (old new : W) (old' new' : E)
      → IfSome ahead (λ input. Puts g (λ out. Shows form input out r) old new) → Appends (e.told old') (e.told new') (told_of (in_input r))
      → a ≡ is_none (in_input r)
      → IfSome ahead (λ input. PutsBoth g e (λ out told. ShowsInput form input out told a) old new old' new')
  show_both e None r a old new old' new' p t is = tt
  show_both e (Some input) r a old new old' new' p t is = record {
    out = p.out;
    told = told_of (in_input r);
    appended = p.appended;
    told_appended = t;
    shown = record { refused = r; shows = p.shown; told_is = refl; accepted_is = is ∙ is_none_input r };
  }

  -- messages that were shown are a beginning of what there is to show
  pub shown_starts : (ahead : Option (List ℕ)) (r : Option Refused) (old new : W)
      → IfSome ahead (λ input. Puts g (λ out. Shows form input out r) old new) → IfSome ahead (λ input. Puts g (StartsShowing form input) old new)
  shown_starts None r old new p = tt
  shown_starts (Some input) r old new p = record {
    out = p.out;
    appended = p.appended;
    shown = record {
      messages = p.shown.messages;
      front = p.shown.front;
      rest = p.shown.rest;
      holds = p.shown.holds;
      start = record { more = []; split = sym p.shown.printed ∙ sym (append-nil p.out) };
    };
  }
