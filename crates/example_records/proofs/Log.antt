-- Records, one after another.
use Rattle.std.specs.Prelude.{◌++◌, false, ◌<◌, ◌≢◌, All}
use Rattle.std.proofs.Common.{◌≡◌, ℕ, zero, suc, List, [], ◌∷◌, Option, None, Some, length, refl, sym, subst, ◌∙◌, ap, arith, ◌+◌}
use Rattle.std.proofs.lemmas.List.{append_assoc, append-nil, length-append, nil_from_length}
use Rattle.std.proofs.lemmas.Bool.{false≢true}
use Rattle.std.proofs.lemmas.List.Elements.{All-head, All-tail}
use Rattle.std.specs.Io.KnownBytes.{Consumes}
use Rattle.rmp_wire.specs.Msg.{Msg, depth}
use Rattle.rmp_wire.specs.Canonical.{SpellsAs}
use Rattle.rmp_wire.specs.Spelling.{canon, Fits, Spells}
use Rattle.rmp_wire.proofs.Spellings.{canon_spells}
use Rattle.rmp_wire.specs.Taking.{take_msg}
use Rattle.rmp_wire.proofs.Unique.{spelled_once, take_msg_takes}
use Rattle.rmp_decode.specs.declared.error.Error.{Error}
use Rattle.rmp_decode.specs.declared.error.Error.TheVariants as errors
use Rattle.rmp_decode.specs.Law.{Begins, Readable}
use Rattle.rmp_serde.specs.Read.{AllTextsUtf8, reads_value}
use Rattle.example_records.specs.Held.{written, IsRecord, IsCut, is_memory}

pub written_more : (ms : List Msg) (m : Msg) → written (ms ++ m ∷ []) ≡ written ms ++ canon m
unfolding written
written_more [] m = append-nil (canon m)
written_more (x ∷ xs) m = ap (λ t. canon x ++ t) (written_more xs m) ∙ sym (append_assoc (canon x) (written xs) (canon m))

pub consumed : (a b : Option (List ℕ)) (xs ys bs : List ℕ) → a ≡ Some xs → b ≡ Some ys → Consumes a b bs → xs ≡ bs ++ ys
consumed None b xs ys bs p q c = absurd cc
consumed (Some zs) None xs ys bs p q c = absurd cc
consumed (Some zs) (Some ws) xs ys bs p q c =
    let same : xs ≡ zs = cc in
    let left : ws ≡ ys = cc in
    same ∙ c ∙ ap (λ t. bs ++ t) left

-- the first record of a log, by itself
pub first_differ : (m : Msg) (ms : List Msg) (cut : List ℕ) → written (m ∷ ms) ++ cut ≡ canon m ++ (written ms ++ cut)
unfolding written
first_differ m ms cut = append_assoc (canon m) (written ms) cut

-- what is taken is the first record
pub first_back : (log b rest : List ℕ) (tree m : Msg) (ms : List Msg) (cut : List ℕ) → log ≡ b ++ rest → Spells b tree → Fits m
    → log ≡ written (m ∷ ms) ++ cut → (tree ≡ m) × (rest ≡ written ms ++ cut)
first_back log b rest tree m ms cut e s fits f =
    let p = spelled_once tree m b (canon m) rest (written ms ++ cut) s (canon_spells m fits) (sym e ∙ f ∙ first_differ m ms cut) in
    (p.1, p.2)

-- a whole record begins a log
pub first_begins : (log : List ℕ) (m : Msg) (ms : List Msg) (cut : List ℕ) → Fits m → AllTextsUtf8 m → depth m < 1024
    → log ≡ written (m ∷ ms) ++ cut → Begins (SpellsAs false) (Readable reads_value) 1024 log
first_begins log m ms cut fits texts deep f =
    record {
      bytes = canon m;
      rest = written ms ++ cut;
      tree = m;
      front = f ∙ first_differ m ms cut;
      spelled = canon_spells m fits;
      fits = deep;
      holds = (m, (refl, texts));
    }

none_taken : (d : ℕ) → take_msg d [] ≡ None
unfolding take_msg
none_taken zero = refl
none_taken (suc d) = refl

differ : (o : Option (Msg × List ℕ)) (x : Msg × List ℕ) → o ≡ None → o ≡ Some x → ⊥
differ o x p q = absurd cc

no_bytes : (b : List ℕ) (m : Msg) → Spells b m → b ≡ [] → ⊥
no_bytes b m s e =
    differ (take_msg (depth m) []) (m, []) (none_taken (depth m)) (take_msg_takes m (depth m) [] [] (subst (λ z. Spells z m) e s) (omega arith))

-- a message takes some bytes
some_bytes : (b : List ℕ) (m : Msg) → Spells b m → (n : ℕ) → length b ≡ n → 0 < n
some_bytes b m s zero e = absurd (no_bytes b m s (nil_from_length b e))
some_bytes b m s (suc n) e = omega arith

pub some_taken : (log b rest : List ℕ) (m : Msg) → log ≡ b ++ rest → Spells b m → length rest < length log
some_taken log b rest m e s =
    let long : length log ≡ length b + length rest = ap length e ∙ length-append b rest in
    omega (arith, long, some_bytes b m s (length b) refl)

-- no message begins what is there of a cut record
pub cut_is_none : (log b rest : List ℕ) (m : Msg) → log ≡ b ++ rest → Spells b m → IsCut log → ⊥
cut_is_none log b rest m e s cut =
    let whole : b ++ (rest ++ cut.missing) ≡ canon cut.message ++ []
    = sym (append_assoc b rest cut.missing) ∙ ap (λ t. t ++ cut.missing) (sym e) ∙ sym cut.begun ∙ sym (append-nil (canon cut.message)) in
    let p = spelled_once m cut.message b (canon cut.message) (rest ++ cut.missing) [] s (canon_spells cut.message cut.fits) whole in
    cut.lacks (nil_from_length cut.missing (omega (arith, length-append rest cut.missing, ap length p.2)))

-- What was read of a log, and what is left of it, where it is records and then a cut one.
pub record Replayed (ms : List Msg) (cut : List ℕ) (read : List Msg) (rest : List ℕ) : Type 0 where
  pub left : List Msg
  pub all : ms ≡ read ++ left
  pub whole : All IsRecord left
  pub front : rest ≡ written left ++ cut

-- one record more
module _ (ms : List Msg) (cut : List ℕ) (read : List Msg) (rest : List ℕ) (m : Msg) (following : List ℕ) where
  more : (left : List Msg) → ms ≡ read ++ left → All IsRecord left → rest ≡ written left ++ cut → IsCut cut → (IsCut rest → ⊥)
      → ((n : Msg) (ns : List Msg) (c : List ℕ) → Fits n → rest ≡ written (n ∷ ns) ++ c → (m ≡ n) × (following ≡ written ns ++ c))
      → Replayed ms cut (read ++ m ∷ []) following
  unfolding written
  more [] all whole front is_cut no_cut back = absurd (no_cut (subst IsCut (sym front) is_cut))
  more (n ∷ ns) all whole front is_cut no_cut back =
      let p = back n ns cut (All-head IsRecord n ns whole).fits front in
      record {
        left = ns;
        all = all ∙ ap (λ z. read ++ z ∷ ns) (sym p.0) ∙ sym (append_assoc read (m ∷ []) ns);
        whole = All-tail IsRecord n ns whole;
        front = p.1;
      }

  pub one_more : Replayed ms cut read rest → IsCut cut → (IsCut rest → ⊥)
      → ((n : Msg) (ns : List Msg) (c : List ℕ) → Fits n → rest ≡ written (n ∷ ns) ++ c → (m ≡ n) × (following ≡ written ns ++ c))
      → Replayed ms cut (read ++ m ∷ []) following
  one_more r = more r.left r.all r.whole r.front

-- the end, where no whole record is left
module _ (ms : List Msg) (cut : List ℕ) (read : List Msg) (rest : List ℕ) where
  ended : (left : List Msg) → ms ≡ read ++ left → All IsRecord left → rest ≡ written left ++ cut
      → ((n : Msg) (ns : List Msg) (c : List ℕ) → Fits n → AllTextsUtf8 n → depth n < 1024 → rest ≡ written (n ∷ ns) ++ c → ⊥)
      → (read ≡ ms) × (rest ≡ cut)
  unfolding written
  ended [] all whole front none = (sym (all ∙ append-nil read), front)
  ended (n ∷ ns) all whole front none =
      let first = All-head IsRecord n ns whole in
      absurd (none n ns cut first.fits first.texts first.deep front)

  pub all_read : Replayed ms cut read rest
      → ((n : Msg) (ns : List Msg) (c : List ℕ) → Fits n → AllTextsUtf8 n → depth n < 1024 → rest ≡ written (n ∷ ns) ++ c → ⊥)
      → (read ≡ ms) × (rest ≡ cut)
  all_read r = ended r.left r.all r.whole r.front

pub no_memory : (e : Error) → is_memory e ≡ false → e ≢ errors.OutOfMemory
no_memory e q s = false≢true (sym q ∙ ap is_memory s)
