-- What a list or a map of unknown length has kept, step by step.
use Rattle.std.proofs.Common.{inl, ◌≡◌, ℕ, ◌+◌, ◌<◌, ◌≤◌, ◌^◌, List, [], ◌∷◌, ◌++◌, length, length-append, true, Option, refl, sym, ◌∙◌, ap, subst}
use Rattle.std.proofs.Common.{arith, append_assoc, append-nil}
use Rattle.std.specs.Prelude.{Result, Err, Bool, false}
use Rattle.std.specs.declared.vec.Vec.{Vec}
use Rattle.std.specs.declared.alloc.Global.{Global}
use Rattle.std.specs.List.{flat_map, AllByRecursion}
use Rattle.std.proofs.lemmas.Grind.{flat_map-append}
use Rattle.rmp_encode.specs.declared.settings.Settings.{Settings}
use Rattle.rmp_wire.specs.declared.error.ValueWriteError.TheVariants as wire
use Rattle.rmp_wire.specs.Msg.{Msg}
use Rattle.rmp_wire.specs.declared.sink.Sink.{Ghosts}
use Rattle.rmp_encode.specs.declared.serializer.Serializer.{Serializer}
use Rattle.rmp_encode.specs.declared.error.Error.{Error}
use Rattle.rmp_encode.specs.declared.error.Error.TheVariants.{InvalidValueWrite, UnknownLength, InvalidDataModel, DepthLimitExceeded, Syntax, OutOfMemory}
use Rattle.rmp_encode.specs.Data.{Data}
use Rattle.rmp_encode.specs.Errors.{IsTooLong}
use Rattle.rmp_encode.specs.Sizes.{most, size_at}
use Rattle.rmp_encode.specs.Trees.{Has, HasTree, spell, spelling, tree_of}
use Rattle.rmp_encode.specs.Ser.{sink_of, settings_of}
use Rattle.rmp_encode.specs.Writes.{FailsBy, WritesPart, WritesTree}
use Rattle.rmp_encode.specs.Going.{AreMany, head_at, open_of, IsKeepingAt}
use Rattle.rmp_encode.proofs.Parts.{part_nothing, part_as}
use Rattle.rmp_encode.proofs.Lists.{made, open_can}
use Rattle.rmp_encode.proofs.Going.{all_append, all_back, made_as, made_ended, made_sure}

-- a cause where the buffer has no faults
pub cause_of : (P Q : Type 0) (n : ℕ) (e : Error) → (Q → P) → FailsBy true P 0 0 e → FailsBy true Q n n e
cause_of P Q n (InvalidValueWrite (wire.InvalidMarkerWrite fault)) f h = absurd (h refl)
cause_of P Q n (InvalidValueWrite (wire.InvalidDataWrite fault)) f h = absurd (h refl)
cause_of P Q n (InvalidValueWrite wire.OutOfMemory) f h = h
cause_of P Q n UnknownLength f h = h
cause_of P Q n (InvalidDataModel t) f h = (h.0, λ q. h.1 (f q), refl)
cause_of P Q n DepthLimitExceeded f h = h
cause_of P Q n (Syntax t) f h = (λ q. h.0 (f q), refl)
cause_of P Q n OutOfMemory f h = (refl, refl)

refusal : (e : Error) → IsTooLong e → FailsBy true ⊥ 0 0 e
refusal (InvalidDataModel t) is = (inl is, λ x. x, refl)
refusal (InvalidValueWrite e) is = absurd is
refusal UnknownLength is = absurd is
refusal DepthLimitExceeded is = absurd is
refusal (Syntax t) is = absurd is
refusal OutOfMemory is = absurd is

-- the number in the head
size_is : (pairs : Bool) (n : ℕ) (all : List (Option Data)) → AreMany pairs n all → size_at pairs (length all) ≡ n
size_is true n all e = omega (arith, e)
size_is false n all e = e

size_fits : (pairs : Bool) (n k : ℕ) (all : List (Option Data)) → AreMany pairs n all → length all ≡ k → k ≤ most pairs → n < 2 ^ 32
size_fits true n k all e l lt = omega (arith, e, l, lt)
size_fits false n k all e l lt = omega (arith, e, l, lt)

size_past : (pairs : Bool) (n k : ℕ) (all : List (Option Data)) → AreMany pairs n all → k < length all → most pairs ≤ k → n < 2 ^ 32 → ⊥
size_past true n k all e l lt h = omega (arith, e, l, lt, h)
size_past false n k all e l lt h = omega (arith, e, l, lt, h)

some_most : (pairs : Bool) → 0 ≤ most pairs
some_most true = omega arith
some_most false = omega arith

module _ (pairs : Bool) {W C : Type 0} (g : Ghosts W) where
  -- nothing is kept yet
  pub keeping_opened : (old : Serializer W C) (b : Serializer (Vec ℕ Global) C) → settings_of b ≡ settings_of old → (sink_of b).items ≡ []
      → (n : ℕ) (all : List (Option Data)) → AreMany pairs n all → IsKeepingAt g pairs old (tree_of (settings_of old) (open_of pairs all)) all 0 b old
  keeping_opened old b st e n all many = record {
    size = n;
    front = [];
    tree = refl;
    many = many;
    count_is = refl;
    fits = some_most pairs;
    same = refl;
    settings = st;
    have = tt;
    bytes = e;
  }

  -- nothing reached the sink
  kept_back : (m : Bool) (old last : Serializer W C) (t : Option Msg) (P : Type 0) (e : Error) → last ≡ old → (HasTree t → P) → m ≡ true → FailsBy true P 0 0 e
      → WritesTree g {A = Unit {0}} m t (sink_of old) (sink_of last) (Err e)
  kept_back m old last t P e same f is h =
      subst (λ n. WritesTree g {A = Unit {0}} n t (sink_of old) (sink_of last) (Err e)) (sym is)
      (subst (λ l. WritesTree g {A = Unit {0}} true t (sink_of old) (sink_of l) (Err e)) (sym same)
      (part_nothing g true (HasTree t) (spell t) (sink_of old) e (cause_of P (HasTree t) _ e f h)))

  -- what fits, of a tree that is made of kept parts
  can_keep : {old : Serializer W C} {t : Option Msg} {rest : List (Option Data)} {count : ℕ} {b : Serializer (Vec ℕ Global) C} {now : Serializer W C}
      (h : IsKeepingAt g pairs old t rest count b now)
      → HasTree t → (h.size < 2 ^ 32) × AllByRecursion (Has (settings_of old)) (h.front ++ rest)
  can_keep {old} {t} {rest} h k = open_can pairs (settings_of old) h.size (h.front ++ rest) h.many (subst HasTree h.tree k)

  -- the part is refused, since no head has room for one more
  pub too_many : (m : Bool) (x : Option Data) (count : ℕ) (b : Serializer (Vec ℕ Global) C) (now : Serializer W C) (e : Error) → IsTooLong e → m ≡ true
      → most pairs ≤ count
      → (old : Serializer W C) (t : Option Msg) (rest : List (Option Data)) → IsKeepingAt g pairs old t (x ∷ rest) count b now
      → WritesTree g {A = Unit {0}} m t (sink_of old) (sink_of now) (Err e)
  too_many m x count b now e is taken full old t rest h =
      kept_back m old now t ⊥ e h.same
      (λ k. let lt = (can_keep h k).0 in let n = length-append h.front (x ∷ rest)
      in size_past pairs h.size count (h.front ++ x ∷ rest) h.many (omega (arith, n, h.count_is)) full lt)
      taken (refusal e is)

  -- the part failed
  pub keep_err : (m : Bool) (d : Settings → Option Data) (count : ℕ) (b : Serializer (Vec ℕ Global) C) (now : Serializer W C) (e : Error) → m ≡ true
      → FailsBy true (Has (settings_of b) (d (settings_of b))) 0 0 e
      → (old : Serializer W C) (t : Option Msg) (rest : List (Option Data)) → IsKeepingAt g pairs old t (d (settings_of old) ∷ rest) count b now
      → WritesTree g {A = Unit {0}} m t (sink_of old) (sink_of now) (Err e)
  keep_err m d count b now e taken w old t rest h =
      let s = settings_of old in
      kept_back m old now t (Has s (d s)) e h.same (λ k. (all_back (Has s) h.front (d s ∷ rest) (can_keep h k).1).0) taken
      (subst (λ z. FailsBy true (Has z (d z)) 0 0 e) h.settings w)

  -- the part was kept
  pub keep_ok : (d : Settings → Option Data) (count count' : ℕ) (b b' : Serializer (Vec ℕ Global) C) (now : Serializer W C) → count' ≡ count + 1
      → count' ≤ most pairs → settings_of b' ≡ settings_of b
      → Has (settings_of b) (d (settings_of b)) → (sink_of b').items ≡ (sink_of b).items ++ spelling (settings_of b) (d (settings_of b))
      → (old : Serializer W C) (t : Option Msg) (rest : List (Option Data)) → IsKeepingAt g pairs old t (d (settings_of old) ∷ rest) count b now
      → IsKeepingAt g pairs old t rest count' b' now
  keep_ok d count count' b b' now more lt st has bytes old t rest h =
      let s = settings_of old in
      let has' : Has s (d s) = subst (λ z. Has z (d z)) h.settings has in
      let bytes' : (sink_of b').items ≡ (sink_of b).items
      ++ spelling s (d s) = subst (λ z. (sink_of b').items ≡ (sink_of b).items ++ spelling z (d z)) h.settings bytes in
      let all : h.front ++ d s ∷ rest ≡ (h.front ++ d s ∷ []) ++ rest = sym (append_assoc h.front (d s ∷ []) rest) in
      record {
        size = h.size;
        front = h.front ++ d s ∷ [];
        tree = h.tree ∙ ap (λ l. tree_of s (open_of pairs l)) all;
        many = subst (AreMany pairs h.size) all h.many;
        count_is = omega (arith, more, h.count_is, length-append h.front (d s ∷ []));
        fits = lt;
        same = h.same;
        settings = st ∙ h.settings;
        have = all_append (Has s) h.front (d s ∷ []) h.have (has', tt);
        bytes = bytes' ∙ ap (λ l. l ++ spelling s (d s)) h.bytes
            ∙ sym (flat_map-append (spelling s) h.front (d s ∷ []) ∙ ap (λ l. flat_map (spelling s) h.front ++ l) (append-nil (spelling s (d s))));
      }

  -- the head and the buffer were written
  pub keeping_ends : {P : Type 0} (p : P) (count : ℕ) (b : Serializer (Vec ℕ Global) C) (now : Serializer W C) {last : W} {r : Result (Unit {0}) Error}
      → WritesPart g g.takes_memory P (head_at pairs (size_at pairs count) ++ (sink_of b).items) (sink_of now) last r
      → (old : Serializer W C) (t : Option Msg) → IsKeepingAt g pairs old t [] count b now → WritesTree g g.takes_memory t (sink_of old) last r
  keeping_ends {P} p count b now {last} {r} w old t h =
      let s = settings_of old in
      let many : AreMany pairs h.size h.front = subst (AreMany pairs h.size) (append-nil h.front) h.many in
      let size : size_at pairs count ≡ h.size = ap (size_at pairs) h.count_is ∙ size_is pairs h.size h.front many in
      let w' : WritesPart g g.takes_memory P (head_at pairs (size_at pairs count) ++ (sink_of b).items) (sink_of old) last r = subst
      (λ x. WritesPart g g.takes_memory P (head_at pairs (size_at pairs count) ++ (sink_of b).items) (sink_of x) last r) h.same w in
      let is_made = made_as (h.tree ∙ ap (λ l. tree_of s (open_of pairs l)) (append-nil h.front))
      (made_sure (size_fits pairs h.size count h.front many (sym h.count_is) h.fits) (made pairs s h.size h.front many)) in
      made_ended g s t is_made (part_as g (λ x. x) (λ _. h.have) (λ _. p)
      (λ _. ap (λ k. head_at pairs k ++ (sink_of b).items) size ∙ ap (λ l. head_at pairs h.size ++ l) h.bytes) w')
