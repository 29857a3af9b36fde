-- Requests one after another: the message that a scanner ends is the one that was sent.
use Rattle.std.specs.Prelude.{[], ◌∷◌, ◌++◌, ◌+◌, ◌<◌, ◌≤◌, length, take, drop}
use Rattle.std.proofs.Common.{◌≡◌, ◌≢◌, ◌∙◌, ℕ, List, Some, Option, Err, inl, inr, refl, sym, ap, subst, arith, append_assoc}
use Rattle.std.proofs.lemmas.List.{append-nil, length-append, length-take-le, take-append-drop}
use Rattle.rmp_wire.specs.Msg.{Msg, depth}
use Rattle.rmp_wire.specs.Spelling.{canon, Fits, Spells}
use Rattle.rmp_wire.proofs.Spellings.{canon_spells}
use Rattle.rmp_wire.proofs.Unique.{spelled_once}
use Rattle.rmp_encode.specs.Calls.{IsSpelled}
use Rattle.rmp_decode.specs.Refusing.{Refusals, Setting}
use Rattle.rmp_decode.specs.declared.error.Error.{Error}
use Rattle.rmp_decode.specs.declared.error.Error.TheVariants as errors
use Rattle.rmp_decode.specs.declared.error.Error.TheVariants.{OutOfMemory}
use Rattle.rmp_scan.specs.Scans.{IsBeginning, IsMessage, MessageEnds, NoMessage, Scans}
use Rattle.rmp_scan.specs.declared.scanner.Scanner.{Scanner}
use Rattle.rmp_scan.proofs.Completing.{beginnings}
use Rattle.rmp_scan.proofs.Rows.{same_front}
use Rattle.rmp_scan.proofs.Scanning.{begins_or_ends}
use Rattle.rmp_serde.specs.Read.{AllTextsUtf8}
use Rattle.example_frames.specs.declared.request.Request.{Request}
use Rattle.example_frames.specs.declared.stream.StreamRefusal.{StreamRefusal}
use Rattle.example_frames.specs.declared.stream.StreamRefusal.TheVariants.{Reserved, TooLong, NotRequest, Closed}
use Rattle.example_frames.specs.Frames.{message_of, request_setting, Asks, NoneFor}
use Rattle.example_frames.specs.Streams.{IsSent, TakenFrom, IsOther, StopsStream, refusal_for}

-- ---- the bytes that a scanner ends

module _ (before piece body : List ℕ) (used : ℕ) (l : used ≤ length piece) (m : MessageEnds (before ++ piece) (length before + used))
    (e : body ≡ before ++ take used piece) where
  split : before ++ piece ≡ body ++ drop used piece
  split = ap (λ z. before ++ z) (sym (take-append-drop used piece)) ∙ sym (append_assoc before (take used piece) (drop used piece))
      ∙ ap (λ z. z ++ drop used piece) (sym e)

  is_body : body ≡ m.bytes
  is_body =
      let n = m.long in
      let long : length body ≡ length m.bytes = omega (arith, n, ap length e, length-append before (take used piece), length-take-le used piece l) in
      (same_front body m.bytes (drop used piece) m.rest long (sym split ∙ m.front)).0

  is_message : IsMessage body
  is_message = subst IsMessage (sym is_body) m.spelled

  pub taken_from : {V : Type 0} (reads : Msg → V → Type 0) (limit : ℕ) (r : V) (more rest : List ℕ) → length before + used ≤ limit
      → rest ≡ drop used piece → Asks (λ t. reads t r) more body → TakenFrom reads limit r rest (before ++ piece)
  taken_from reads limit r more rest within left a =
      let k = is_message in
      let p = spelled_once a.tree k.0 a.bytes body more [] a.spelled k.1 (sym a.is ∙ sym (append-nil body)) in
      record {
        asks = record {
          bytes = a.bytes;
          tree = a.tree;
          is = split ∙ ap (λ z. z ++ drop used piece) (sym p.0) ∙ ap (λ z. a.bytes ++ z) (sym left);
          spelled = a.spelled;
          fits = a.fits;
          holds = a.holds;
        };
        within = omega (
          arith,
          within,
          l,
          ap length left,
          length-append before piece,
          ap length (take-append-drop used piece),
          length-append (take used piece) (drop used piece),
          length-take-le used piece l,
        );
      }

  pub is_other : {V : Type 0} (reads : Msg → V → Type 0) (refuses : Setting → Refusals) (x : Error) → x ≢ OutOfMemory → NoneFor reads refuses body x
      → IsOther reads refuses (before ++ piece) x
  is_other reads refuses x ne w = record {
    len = length before + used;
    ends = m;
    none = λ b.
        let k = is_message in
        let p = spelled_once b.tree k.0 b.bytes body b.rest (drop used piece) b.spelled k.1 (sym b.front ∙ split) in
        w.none ne (record {
          bytes = b.bytes;
          rest = [];
          tree = b.tree;
          front = sym p.0 ∙ sym (append-nil b.bytes);
          spelled = b.spelled;
          fits = b.fits;
          holds = b.holds;
        });
    refused = subst (λ z. refuses request_setting 0 0 (Some z) x) is_body w.refused;
  }

  pub is_uncut : IsBeginning body → ⊥
  is_uncut = begins_or_ends body (length body) (record { bytes = body; rest = []; front = sym (append-nil body); spelled = is_message; long = refl })

-- ---- what a peer sent

-- it is what is taken
pub sent_back : (asked : Request) (P : Msg → Type 0) (bytes rest more xs : List ℕ) → IsSent asked bytes → xs ≡ bytes ++ rest → Asks P more xs
    → P (message_of asked) × (more ≡ rest)
sent_back asked P bytes rest more xs s e a =
    let p = spelled_once a.tree (message_of asked) a.bytes (canon (message_of asked)) more rest a.spelled (canon_spells (message_of asked) s.fits)
    (sym a.is ∙ e ∙ ap (λ z. z ++ rest) s.is) in
    (subst P p.1 a.holds, p.2)

module _ (reads : Msg → Request → Type 0) (refuses : Setting → Refusals) (limit : ℕ) (xs : List ℕ) (asked : Request) (bytes rest later : List ℕ) (s : IsSent asked bytes)
    (e : xs ++ later ≡ bytes ++ rest) (short : length bytes ≤ limit) (deep : depth (message_of asked) < 16) (it : reads (message_of asked) asked) where
  spelled : Spells bytes (message_of asked)
  spelled = subst (λ z. Spells z (message_of asked)) (sym s.is) (canon_spells (message_of asked) s.fits)

  ends_in : (q : List ℕ) → xs ≡ bytes ++ q → MessageEnds xs (length bytes)
  ends_in q f = record { bytes = bytes; rest = q; front = f; spelled = (message_of asked, spelled); long = refl }

  never_reserved : (q : List ℕ) → bytes ≡ xs ++ q → NoMessage xs → ⊥
  never_reserved [] f w = w.ends (length bytes) (ends_in [] (sym (append-nil xs) ∙ sym f ∙ sym (append-nil bytes)))
  never_reserved (c ∷ q) f w =
      w.begins (record { rest = c ∷ q; some = λ z. absurd (cc); spelled = (message_of asked, subst (λ z. Spells z (message_of asked)) f spelled) })

  -- and isn't refused
  pub never_stops : (r : StreamRefusal) → r ≢ NotRequest OutOfMemory → StopsStream reads refuses limit xs r → ⊥
  never_stops Reserved ne w = elim (beginnings xs later bytes rest e) [
    | inl p ↦ w.ends (length bytes) (ends_in p.0 p.1)
    | inr p ↦ never_reserved p.0 p.1 w
  ]
  never_stops TooLong ne w = elim (beginnings xs later bytes rest e) [
    | inl p ↦ let k = w.ends (length bytes) (ends_in p.0 p.1) in absurd (omega (arith, k, short))
    | inr p ↦
        let k = w.begins p.0 (message_of asked, subst (λ z. Spells z (message_of asked)) p.1 spelled) in
        absurd (omega (arith, k, short, ap length p.1))
  ]
  never_stops (NotRequest x) ne w =
      let o = w (λ is. ne (ap NotRequest is)) in
      let m = o.ends in
      let whole : m.bytes ++ (m.rest ++ later) ≡ bytes ++ rest = sym (append_assoc m.bytes m.rest later) ∙ ap (λ z. z ++ later) (sym m.front) ∙ e in
      let p = spelled_once m.spelled.0 (message_of asked) m.bytes bytes (m.rest ++ later) rest m.spelled.1 spelled whole in
      o.none (record {
        bytes = bytes;
        rest = m.rest;
        tree = message_of asked;
        front = m.front ∙ ap (λ z. z ++ m.rest) p.0;
        spelled = spelled;
        fits = deep;
        holds = (asked, it);
      })
  never_stops Closed ne w = w

some_same : (m n : Msg) → Some m ≡ Some n → m ≡ n
some_same m n e = cc

-- what is written of a request is what is sent for it
pub is_sent : (r : Request) (t : Option Msg) (bytes : List ℕ) → t ≡ Some (message_of r) → IsSpelled t bytes → AllTextsUtf8 (message_of r) → IsSent r bytes
is_sent r t bytes e s texts =
    let m : s.tree ≡ message_of r = some_same _ _ (sym s.is ∙ e) in
    record { fits = subst Fits m s.fits; texts = texts; is = s.canonical ∙ ap canon m }

-- why a scanner stops
scan_stops : (reads : Msg → Request → Type 0) (refuses : Setting → Refusals) (before piece : List ℕ) (limit : ℕ) (new : Scanner) (e : Error) → Scans before piece limit new (Err e)
    → StopsStream reads refuses limit (before ++ piece) (refusal_for e)
scan_stops reads refuses before piece limit new (errors.TypeMismatch m) s = s.1.none
scan_stops reads refuses before piece limit new (errors.Syntax t) s = s.1.longer
scan_stops reads refuses before piece limit new (errors.InvalidMarkerRead x) s = s
scan_stops reads refuses before piece limit new (errors.InvalidDataRead x) s = s
scan_stops reads refuses before piece limit new errors.OutOfRange s = s
scan_stops reads refuses before piece limit new (errors.LengthMismatch n) s = s
scan_stops reads refuses before piece limit new (errors.Uncategorized n) s = s
scan_stops reads refuses before piece limit new (errors.Utf8Error n) s = s
scan_stops reads refuses before piece limit new errors.DepthLimitExceeded s = s
scan_stops reads refuses before piece limit new errors.OutOfMemory s = s
scan_stops reads refuses before piece limit new errors.NotCanonical s = s

pub stops_as : (reads : Msg → Request → Type 0) (refuses : Setting → Refusals) (before piece : List ℕ) (limit : ℕ) (new : Scanner) (e : Error) (r : StreamRefusal) → r ≡ refusal_for e
    → Scans before piece limit new (Err e) → StopsStream reads refuses limit (before ++ piece) r
stops_as reads refuses before piece limit new e r q s = subst (λ z. StopsStream reads refuses limit (before ++ piece) z) (sym q) (scan_stops reads refuses before piece limit new e s)
