-- A name past 32 bits, of a struct whose fields are written by one call: with names, no such struct is written.
use Rattle.std.proofs.Common.{◌≡◌, ℕ, ◌<◌, ◌^◌, List, [], ◌∷◌, ◌++◌, length, Bool, true, false, Option, subst, arith}
use Rattle.std.specs.Borrow.{Bor}
use Rattle.std.specs.List.{flat_map, AllByRecursion}
use Rattle.std.specs.Prelude.{Result, Ok, Err}
use Rattle.rmp_wire.specs.Msg.{Msg}
use Rattle.rmp_wire.specs.declared.sink.Sink.{Ghosts}
use Rattle.rmp_encode.specs.declared.error.Error.{Error}
use Rattle.rmp_encode.specs.declared.settings.Settings.{Settings}
use Rattle.rmp_encode.specs.Data.{Data, lower}
use Rattle.rmp_encode.specs.Going.{IsMadeOf}
use Rattle.rmp_encode.specs.Markers.{pieces_by, refusal, AtPieces, EndsAtLong, InOrder, Piece}
use Rattle.rmp_encode.specs.Trees.{field_parts, fields_by, Has}
use Rattle.rmp_encode.specs.Writes.{WritesTree}
use Rattle.rmp_encode.proofs.Markers.{at_after, at_long_name, text_fits}

-- each name of a struct that has a tree fits its head
name_fits : (s : Settings) (before : List (Bor (List ℕ))) (name : Bor (List ℕ)) (after : List (Bor (List ℕ))) (ds : List (Option Data))
    → length (before ++ name ∷ after) ≡ length ds
    → AllByRecursion (Has s) (flat_map (field_parts true) (fields_by (before ++ name ∷ after) ds)) → length name.now < 2 ^ 32
unfolding lower
name_fits s [] name after [] e h = absurd (omega (arith, e))
name_fits s (b ∷ before) name after [] e h = absurd (omega (arith, e))
name_fits s [] name after (d ∷ ds) e h = text_fits name.now h.0
name_fits s (b ∷ before) name after (d ∷ ds) e h = name_fits s before name after ds (omega (arith, e)) h.1.1

module _ {W : Type 0} (g : Ghosts W) where
  named_ends : {m : Bool} {s : Settings} {t : Option Msg} {P : Type 0} {head : List ℕ} (names : List (Bor (List ℕ))) (ds : List (Option Data))
      (first ps : List Piece) {old new : W} (r : Result (Unit {0}) Error) → length names ≡ length ds
      → IsMadeOf s t P head (flat_map (field_parts true) (fields_by names ds)) → WritesTree g m t old new r
      → InOrder g (first ++ pieces_by true names ps) old new r → EndsAtLong g first names ps old new r
  named_ends {s = s} names ds first ps (Ok u) e made w order = λ before name after is le.
      let lt = name_fits s before name after ds (subst (λ l. length l ≡ length ds) is e)
      (subst (λ l. AllByRecursion (Has s) (flat_map (field_parts true) (fields_by l ds))) is (made.can w.may).1) in
      absurd (omega (arith, lt, le))
  named_ends names ds first ps {old} {new} (Err x) e made w order = λ before name after is le. record {
    whole = tt;
    stops = at_after first (pieces_by true (before ++ name ∷ after) ps) (pieces_by true before ps ++ refusal ∷ []) (g.told new) x
        (at_long_name before name after ps (g.told new) x le) (g.told old) (subst (λ l. AtPieces (first ++ pieces_by true l ps) (g.told old) (g.told new) x) is order.stops);
  }

  -- what is promised of a name past 32 bits
  pub ends_at_long : {m b : Bool} {s : Settings} {t : Option Msg} {P : Type 0} {head : List ℕ} (names : List (Bor (List ℕ))) (ds : List (Option Data))
      (first : Bool → List Piece) (ps : List Piece) {old new : W} (r : Result (Unit {0}) Error) → length names ≡ length ds
      → IsMadeOf s t P head (flat_map (field_parts b) (fields_by names ds)) → WritesTree g m t old new r
      → InOrder g (first b ++ pieces_by b names ps) old new r → b ≡ true → EndsAtLong g (first true) names ps old new r
  ends_at_long {b = true} names ds first ps r e made w order is = named_ends names ds (first true) ps r e made w order
  ends_at_long {b = false} names ds first ps r e made w order is = absurd cc
