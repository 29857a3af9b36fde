-- What is told of the next message of a source.
use Rattle.std.proofs.Common.{arith, ◌≡◌, ◌∙◌, ℕ, ◌+◌, ◌-◌, ◌<◌, ◌≤◌, List, [], ◌∷◌, ◌++◌, inl, inr, length, take, drop, refl, sym, ap, subst, append-nil, append_assoc}
use Rattle.std.specs.Prelude.{Option, None, Some}
use Rattle.std.proofs.lemmas.List.{length-append, length-take-le, take_all, take_at, take-append-drop}
use Rattle.rmp_wire.specs.declared.source.Source.{Ghosts}
use Rattle.rmp_wire.specs.declared.slice.ReadRefReader.{ReadRefReader}
use Rattle.rmp_wire.specs.RefReader.{rest_of}
use Rattle.rmp_wire.proofs.Strict.{spells_any}
use Rattle.rmp_decode.specs.Law.{Reads}
use Rattle.rmp_decode.specs.State.{room_of}
use Rattle.rmp_decode.specs.declared.deserializer.Deserializer.{Deserializer}
use Rattle.rmp_decode.specs.declared.deserializer.Kept.TheVariants as kept
use Rattle.rmp_scan.specs.Scans.{IsAfter, IsMessage, MessageEnds, NoMessage}
use Rattle.rmp_scan.specs.declared.scanner.Scanner.{Scanner}
use Rattle.rmp_wire.specs.Heads.{IsHead}
use Rattle.rmp_serde.specs.Msg.{Msg, nil, depth}
use Rattle.rmp_serde.specs.Read.{reads_value}
use Rattle.canon_lines.specs.Held.{HoldsAll, IsFront, front_len}
use Rattle.canon_lines.specs.declared.show.held.Front.{Front}
use Rattle.canon_lines.specs.declared.show.held.Front.TheVariants.{Message, Nothing, Rest, End}
use Rattle.canon_lines.specs.Shows.{form_text, Tells, TellsMessage, TellsNext}
use Rattle.canon_lines.specs.declared.show.Form.{Form}
use Rattle.canon_lines.specs.declared.show.Told.{Told}
use Rattle.canon_lines.specs.declared.show.Told.TheVariants as told
use Rattle.canon_lines.proofs.MessageReads.{TellsRest, shorter, taken}

-- ---- what the scanner has seen of the bytes that are held

module _ (xs : List ℕ) (i : ℕ) (within : i ≤ length xs) where
  whole : take i xs ++ drop i xs ≡ xs
  whole = take-append-drop i xs

  seen_len : length (take i xs) ≡ i
  seen_len = length-take-le i xs within

  pub scanned_ends : (used : ℕ) → MessageEnds (take i xs ++ drop i xs) (length (take i xs) + used) → MessageEnds xs (i + used)
  scanned_ends used p = subst (λ ys. MessageEnds ys (i + used)) whole (subst (λ n. MessageEnds (take i xs ++ drop i xs) (n + used)) seen_len p)

  pub scanned_none : NoMessage (take i xs ++ drop i xs) → NoMessage xs
  scanned_none p = subst NoMessage whole p

  pub scanned_all : {s : Scanner} → IsAfter (take i xs ++ drop i xs) s → IsAfter xs s
  scanned_all {s} p = subst (λ ys. IsAfter ys s) whole p

-- the bytes before those that were pulled
pub seen_before : (xs ys piece : List ℕ) {s : Scanner} → IsAfter xs s → ys ≡ xs ++ piece → IsAfter (take (length xs) ys) s
seen_before xs ys piece {s} p e = subst (λ zs. IsAfter zs s) (sym (ap (take (length xs)) e ∙ take_at xs piece (length xs) refl)) p

-- ---- the first message of bytes

module _ {C : Type 0} (h : Ghosts ReadRefReader) (tells : TellsRest h) (old new : Deserializer ReadRefReader C) (clean : old.kept ≡ kept.Nothing)
    (room : room_of old ≡ 1024) where
  -- a message was read, and this is its text
  pub first_shown : (form : Form) (v : Msg) (n : ℕ) (text : List ℕ) → new.kept ≡ kept.Nothing → Reads h reads_value old new v → text ≡ form_text form v
      → n ≡ length (rest_of old.reader) - length (rest_of new.reader) → TellsMessage form n (rest_of old.reader) text
  first_shown form v n text k r told long =
      let nested : depth r.tree < 1024 = subst (λ n. depth r.tree < n) room r.fits in
      let split = taken h tells old new clean room r.bytes k r.takes in
      record {
        message = r.tree;
        front = r.bytes;
        rest = rest_of new.reader;
        split = split;
        long = omega (arith, long, ap length split, length-append r.bytes (rest_of new.reader));
        spelled = spells_any old.strict r.tree r.bytes r.spelled;
        accepted = record { nested = nested; utf8 = r.value.1 };
        told = told ∙ ap (form_text form) r.value.0;
      }

-- ---- the next message

some_is : {m n : ℕ} → ◌≡◌ {A = Option ℕ} (Some m) (Some n) → m ≡ n
some_is {m} e = ap (λ o. or_else o m) e
  where
    or_else : Option ℕ → ℕ → ℕ
    or_else (Some k) d = k
    or_else None d = d

message_some : (xs : List ℕ) → IsMessage xs → 0 < length xs
message_some xs m = let less = shorter m.0 xs xs [] m.1 (sym (append-nil xs)) in omega (arith, less)

-- a message begins with no bytes
none_some : (xs : List ℕ) → NoMessage xs → 0 < length xs
unfolding IsHead
none_some [] none = absurd (none.begins (record { rest = 0xc0 ∷ []; some = λ e. absurd cc; spelled = (nil, refl) }))
none_some (x ∷ xs) none = omega arith

module _ (form : Form) (ahead : Option (List ℕ)) (before held text : List ℕ) where
  front : (n : ℕ) (m : MessageEnds held n) → take n held ≡ m.bytes
  front n m = ap (take n) m.front ∙ take_at m.bytes m.rest n (sym m.long)

  -- a message is at the front
  pub next_message : (n : ℕ) (t : Told) → MessageEnds held n → Tells form (take n held) text t → TellsNext form ahead before held text (Some t)
  next_message n (told.Message k) m p = record {
    message = p.message;
    front = p.front;
    rest = p.rest ++ drop n held;
    split = sym (take-append-drop n held) ∙ ap (λ s. s ++ drop n held) p.split ∙ append_assoc p.front p.rest (drop n held);
    long = p.long;
    spelled = p.spelled;
    accepted = p.accepted;
    told = p.told;
  }
  next_message n (told.Refused path why) m p = record {
    seen = take n held;
    following = drop n held;
    some = subst (λ s. 0 < length s) (sym (front n m)) (message_some m.bytes m.spelled);
    split = sym (take-append-drop n held);
    decides = inl (inl (subst IsMessage (sym (front n m)) m.spelled));
    refusal = p;
  }

  -- no message begins there
  pub next_nothing : (t : Told) → NoMessage held → Tells form held text t → TellsNext form ahead before held text (Some t)
  next_nothing (told.Message k) none p = p
  next_nothing (told.Refused path why) none p =
      record { seen = held; following = []; some = none_some held none; split = sym (append-nil held); decides = inl (inr none); refusal = p }

  -- nothing follows
  pub next_rest : (t : Told) → HoldsAll ahead before held → 0 < length held → Tells form held text t → TellsNext form ahead before held text (Some t)
  next_rest (told.Message k) end some p = p
  next_rest (told.Refused path why) end some p =
      record { seen = held; following = []; some = some; split = sym (append-nil held); decides = inr (refl, end); refusal = p }

  -- the bytes that are looked at are told of
  pub next_told : (front : Front) (n : ℕ) (t : Told) → IsFront ahead before held front → front_len front held ≡ Some n → Tells form (take n held) text t
      → TellsNext form ahead before held text (Some t)
  next_told (Message m) n t f e p = next_message n t (subst (MessageEnds held) (some_is e) f) p
  next_told Nothing n t f e p = next_nothing t f (subst (λ s. Tells form s text t) (take_all n held (omega (arith, some_is e))) p)
  next_told Rest n t f e p = next_rest t f.0 f.1 (subst (λ s. Tells form s text t) (take_all n held (omega (arith, some_is e))) p)
  next_told End n t f e p = absurd cc

  pub next_none : (front : Front) → IsFront ahead before held front → front_len front held ≡ None → TellsNext form ahead before held text None
  next_none (Message m) f e = absurd cc
  next_none Nothing f e = absurd cc
  next_none Rest f e = absurd cc
  next_none End f e = f

  pub looked_within : (front : Front) (n : ℕ) → IsFront ahead before held front → front_len front held ≡ Some n → n ≤ length held
  looked_within (Message m) n f e = omega (arith, some_is e, f.long, ap length f.front, length-append f.bytes f.rest)
  looked_within Nothing n f e = omega (arith, some_is e)
  looked_within Rest n f e = omega (arith, some_is e)
  looked_within End n f e = absurd cc
