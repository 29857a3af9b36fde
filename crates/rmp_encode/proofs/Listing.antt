-- Values that are written one after the other by a loop, from those that are left.
use Rattle.std.proofs.Common.{◌≡◌, ℕ, ◌<◌, ◌≤◌, ◌^◌, List, [], ◌∷◌, ◌++◌, length, All, Bool, Option, sym, ◌∙◌, ap, subst, inl, inr, arith}
use Rattle.std.proofs.lemmas.List.Elements.{All-cons, All-nil}
use Rattle.std.specs.Prelude.{Ok, Err, ◌||◌, ◌⊎◌}
use Rattle.std.specs.List.{Any}
use Rattle.rmp_wire.specs.Msg.{Msg}
use Rattle.rmp_wire.specs.declared.sink.Sink.{Ghosts}
use Rattle.rmp_encode.specs.declared.error.Error.{Error}
use Rattle.rmp_encode.specs.declared.serializer.Serializer.{Serializer}
use Rattle.rmp_encode.specs.declared.settings.Settings.{Settings}
use Rattle.rmp_encode.specs.Data.{Data}
use Rattle.rmp_encode.specs.Going.{IsMadeOf, IsWriting}
use Rattle.rmp_encode.specs.Promises.{OpensParts, TakesParts, WritesValue}
use Rattle.rmp_encode.specs.Refusals.{Errors, OfItems, OfParts, OfSink}
use Rattle.rmp_encode.specs.Ser.{settings_of}
use Rattle.rmp_encode.specs.Writes.{Keeps}
use Rattle.rmp_encode.proofs.Going.{keeps_then, none_next, still_written}
use Rattle.rmp_encode.proofs.Parts.{part_or}
use Rattle.rmp_encode.proofs.Refusals.{any_head, any_tail, long_alone, of_sink, of_weaker}

-- one of the values was refused, or it was the sink
refused_at : {X : Type 0} (refuses : X → Errors) (x : X) (all left after : List X) (e : Error) → left ≡ x ∷ after
    → (Any (λ y. refuses y e) left → Any (λ y. refuses y e) all) → refuses x e ⊎ OfSink e → OfItems refuses all e
refused_at refuses x all left after e is among (inl h) = inr (among (subst (Any (λ y. refuses y e)) (sym is) (any_head (λ y. refuses y e) x after h)))
refused_at refuses x all left after e is among (inr h) = inl (of_sink (2 ^ 32 ≤ length all) e h)

-- What is written of some values, each of which is a value if `P`, and refused as `refuses` says.
module _ {W C X : Type 0} (g : Ghosts W) (parts : List X → List (Option Data)) (P : X → Type 0) (refuses : X → Errors) where
  -- of all of these values, those that are left are still to be written
  pub record IsListing (t : Option Msg) (all left : List X) (old now : Serializer W C) : Type 0 where
    pub writing : IsWriting g old t (parts left) now
    pub keeps : Keeps g old now
    pub values : All P left → All P all
    pub among : (e : Error) → Any (λ x. refuses x e) left → Any (λ x. refuses x e) all

  -- nothing was opened
  pub listing_none : (m : Bool) {t : Option Msg} {n : ℕ} {items : List (List ℕ)} {bytes : List ℕ} (V : Type 0) (all : List X) {old new : Serializer W C}
      {e : Error} → n ≡ length all → IsMadeOf (settings_of old) t (n < 2 ^ 32) bytes (parts all)
      → OpensParts g (n < 2 ^ 32) (n ∷ []) items bytes old new (Err e)
      → WritesValue g (m || g.takes_memory) t (length all) (OfItems refuses all) V old new (Err e)
  listing_none m {n = n} V all {e = e} is made h = record {
    writes = part_or g _ (h.begins _ _ made);
    keeps = h.keeps;
    error = inl (of_weaker (λ l. subst (λ k. 2 ^ 32 ≤ k) is (long_alone n l)) e h.error);
    value = tt;
    long = λ le. h.long (λ lt. omega (arith, is, le, lt));
  }

  -- the head was written
  pub listing_begun : {t : Option Msg} {n : ℕ} {items : List (List ℕ)} {bytes : List ℕ} {all left : List X} {old now : Serializer W C} {u : Unit {0}}
      → all ≡ left → IsMadeOf (settings_of old) t (n < 2 ^ 32) bytes (parts all) → OpensParts g (n < 2 ^ 32) (n ∷ []) items bytes old now (Ok u)
      → IsListing t all left old now
  listing_begun is made h = record {
    writing = still_written g (ap parts is) (h.begins _ _ made);
    keeps = h.keeps;
    values = λ v. subst (All P) (sym is) v;
    among = λ e v. subst (Any (λ x. refuses x e)) (sym is) v;
  }

  -- and one value more
  pub listing_more : {m : Settings → Bool} {ds : Settings → List (Option Data)} {a : List Errors} {V : Type 0} {t : Option Msg} (x : X)
      {all left after : List X} {old now now' : Serializer W C} {u : Unit {0}} → left ≡ x ∷ after
      → parts (x ∷ after) ≡ ds (settings_of old) ++ parts after → (V → P x)
      → TakesParts g (IsWriting g) (λ se. se) m ds ⊥ a V now now' (Ok u) → IsListing t all left old now
      → IsListing t all after old now'
  listing_more x {after = after} {old = old} is split v w h = record {
    writing = w.writes old _ (parts after) (still_written g (ap parts is ∙ split) h.writing);
    keeps = keeps_then g h.keeps w.keeps;
    values = λ l. h.values (subst (All P) (sym is) (All-cons P x after (v w.value) l));
    among = λ e l. h.among e (subst (Any (λ y. refuses y e)) (sym is) (any_tail (λ y. refuses y e) x after l));
  }

  -- one failed
  pub listing_stop : {m : Settings → Bool} {ds : Settings → List (Option Data)} {a : List Errors} {U : Type 0} (V : Type 0) {t : Option Msg} (x : X)
      {all left after : List X} {old now new : Serializer W C} {e : Error} → left ≡ x ∷ after → length all < 2 ^ 32
      → parts (x ∷ after) ≡ ds (settings_of old) ++ parts after → (OfParts ⊥ a e → refuses x e ⊎ OfSink e)
      → TakesParts g (IsWriting g) (λ se. se) m ds ⊥ a U now new (Err e) → IsListing t all left old now
      → WritesValue g (m (settings_of old)) t (length all) (OfItems refuses all) V old new (Err e)
  listing_stop V x {all} {left} {after} {old} {e = e} is lt split r w h = record {
    writes = w.writes old _ (parts after) (still_written g (ap parts is ∙ split) h.writing);
    keeps = keeps_then g h.keeps w.keeps;
    error = refused_at refuses x all left after e is (h.among e) (r w.error);
    value = tt;
    long = λ le. absurd (omega (arith, le, lt));
  }

  -- all were written
  pub listing_done : {m : Bool} {t : Option Msg} {all left : List X} {old now : Serializer W C} (u : Unit {0}) → left ≡ [] → length all < 2 ^ 32
      → parts [] ≡ [] → IsListing t all left old now → WritesValue g m t (length all) (OfItems refuses all) (All P all) old now (Ok u)
  listing_done {old = old} {now = now} u is lt none h = record {
    writes = none_next g old _ _ now u (ap parts is ∙ none) h.writing;
    keeps = h.keeps;
    error = tt;
    value = h.values (subst (All P) (sym is) (All-nil P));
    long = λ le. absurd (omega (arith, le, lt));
  }
