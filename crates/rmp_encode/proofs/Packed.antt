-- Values that are all bytes, written a piece at a time.
use Rattle.std.proofs.Common.{◌≡◌, refl, ℕ, ◌<◌, ◌≤◌, ◌^◌, List, [], ◌∷◌, ◌++◌, length, map, get_or, nat_le}
use Rattle.std.proofs.Common.{true, Bool, Option, sym, ◌∙◌, ap, append_assoc, append-nil, length-append, arith}
use Rattle.std.specs.Prelude.{Result, Ok, Err, Some}
use Rattle.std.specs.List.{list_any}
use Rattle.std.proofs.lemmas.List.{get_or-map, length-map, map-append, nil_from_length}
use Rattle.std.proofs.lemmas.List.Folds.{list_any_at}
use Rattle.rmp_wire.specs.declared.head.Head.TheVariants.{Bin}
use Rattle.rmp_wire.specs.Heads.{canon_head, fits_head}
use Rattle.rmp_wire.specs.Msg.{bin}
use Rattle.rmp_wire.specs.Spelling.{canon, IsBytes}
use Rattle.rmp_wire.specs.declared.sink.Sink.{Ghosts}
use Rattle.rmp_wire.proofs.Writing.{head_some}
use Rattle.rmp_encode.specs.declared.error.Error.{Error}
use Rattle.rmp_encode.specs.Data.{Data, byte}
use Rattle.rmp_encode.specs.Going.{done}
use Rattle.rmp_encode.specs.Slices.{number_of}
use Rattle.rmp_encode.specs.Trees.{HasTree, spell}
use Rattle.rmp_encode.specs.Writes.{WritesAfter, WritesPart, WritesTree}
use Rattle.rmp_encode.proofs.Parts.{part_any, part_as, part_stops}

-- each value has a number
pub as_many : {X : Type 0} (f : X → Option Data) (xs : List X) → length (map number_of (map f xs)) ≡ length xs
as_many f xs = length-map (map f xs) number_of ∙ length-map xs f

-- bytes are the numbers of what they are as values
pub own_numbers : (bs : List ℕ) → map number_of (map (λ b. Some (byte b)) bs) ≡ bs
own_numbers [] = refl
own_numbers (b ∷ bs) = ap (λ k. b ∷ k) (own_numbers bs)

-- the head is the front of the spelling
pub head_first : (bs : List ℕ) (n : ℕ) → n ≡ length bs → canon_head (Bin n) ++ bs ≡ canon (bin bs)
head_first bs n e = ap (λ k. canon_head (Bin k) ++ bs) e

-- one of the numbers is high
high_true : (n : ℕ) → 128 ≤ n → nat_le 128 n ≡ true
high_true n le = grind (arith, le)

pub one_high : {X : Type 0} (f : X → Option Data) (xs : List X) (i : ℕ) (x : X) → i < length xs → x ≡ get_or xs i x → 128 ≤ number_of (f x)
    → true ≡ list_any (nat_le 128) (map number_of (map f xs))
one_high f xs i x lt is le =
    let n = length-map xs f in
    let m = as_many f xs in
    let at : get_or (map number_of (map f xs)) i 0 ≡ number_of (f x) =
    get_or-map number_of (map f xs) i (f x) 0 (omega (arith, n, lt)) ∙ ap number_of (get_or-map f xs i x (f x) lt ∙ ap f (sym is)) in
    sym (list_any_at (nat_le 128) (map number_of (map f xs)) i 0 (omega (arith, m, lt)) (ap (nat_le 128) at ∙ high_true (number_of (f x)) le))

-- the next piece
next_numbers : {X : Type 0} (f : X → Option Data) (front piece all : List ℕ) (xs ys zs : List X) → xs ≡ ys ++ zs → piece ≡ map number_of (map f ys)
    → front ++ map number_of (map f xs) ≡ all → (front ++ piece) ++ map number_of (map f zs) ≡ all
next_numbers f front piece all xs ys zs split is e =
    ap (λ l. (front ++ l) ++ map number_of (map f zs)) is
    ∙ append_assoc front (map number_of (map f ys)) (map number_of (map f zs))
    ∙ ap (λ l. front ++ l) (sym (map-append number_of (map f ys) (map f zs)) ∙ ap (map number_of) (sym (map-append f ys zs)))
    ∙ ap (λ l. front ++ map number_of (map f l)) (sym split) ∙ e

more_some : (a b : List ℕ) → 0 < length a → 0 < length (a ++ b)
more_some a b lt = let n = length-append a b in omega (arith, n, lt)

module _ {W : Type 0} (g : Ghosts W) where
  -- of the spelling of all of these values, the bytes before the numbers of those that are left were written
  pub record Written {X : Type 0} (f : X → Option Data) (all left : List X) (old now : W) : Type 0 where
    pub front : List ℕ
    pub some : 0 < length front
    pub writes : WritesPart g g.takes_memory (Unit {0}) front old now done
    pub whole : front ++ map number_of (map f left) ≡ canon (bin (map number_of (map f all)))

  -- the head was written
  pub written_head : {X : Type 0} {f : X → Option Data} {all left : List X} {old now : W} {u : Unit {0}} (n : ℕ) → n ≡ length all → left ≡ all
      → WritesPart g g.takes_memory (Unit {0}) (canon_head (Bin n)) old now (Ok u) → Written f all left old now
  written_head {f} {all} n e is w = record {
    front = canon_head (Bin n);
    some = head_some (Bin n);
    writes = part_any g g.takes_memory tt w;
    whole = ap (λ l. canon_head (Bin n) ++ map number_of (map f l)) is ∙ head_first (map number_of (map f all)) n (e ∙ sym (as_many f all));
  }

  -- and a piece more
  pub written_more : {X : Type 0} {f : X → Option Data} {all left after : List X} {old mid new : W} {u : Unit {0}} {piece : List ℕ} (now : List X)
      → left ≡ now ++ after → piece ≡ map number_of (map f now) → WritesAfter g piece mid new (Ok u) → Written f all left old mid
      → Written f all after old new
  written_more {f} {left} {after} {old} {piece} now split is w h = record {
    front = h.front ++ piece;
    some = more_some h.front piece h.some;
    writes = part_any g g.takes_memory tt (w h.front old h.some h.writes);
    whole = next_numbers f h.front piece _ left now after split is h.whole;
  }

  as_bin : {m : Bool} (bs front : List ℕ) {old new : W} {r : Result (Unit {0}) Error} → length bs < 2 ^ 32 → IsBytes bs → front ≡ canon (bin bs)
      → WritesPart g m (Unit {0}) front old new r → WritesTree g m (Some (bin bs)) old new r
  unfolding HasTree spell fits_head
  as_bin bs front lt small is w = part_as g (λ t. t) (λ _. (lt, small)) (λ _. tt) (λ _. is) w

  stopped_bin : {m : Bool} (bs front rest : List ℕ) {old new : W} {e : Error} → length bs < 2 ^ 32 → IsBytes bs → front ++ rest ≡ canon (bin bs)
      → WritesPart g {A = Unit {0}} m (Unit {0}) front old new (Err e) → WritesTree g {A = Unit {0}} m (Some (bin bs)) old new (Err e)
  unfolding HasTree spell fits_head
  stopped_bin bs front rest lt small is w =
      part_as g (λ t. t) (λ _. (lt, small)) (λ _. (tt, tt)) (λ _. is) (part_stops g {B = Unit {0}} {Q = Unit {0}} rest w)

  -- all was written
  pub written_all : {X : Type 0} {f : X → Option Data} {all left : List X} {old now : W} → length all < 2 ^ 32 → IsBytes (map number_of (map f all))
      → length left ≡ 0 → Written f all left old now → WritesTree g g.takes_memory (Some (bin (map number_of (map f all)))) old now done
  written_all {f} {all} {left} lt small none h =
      let n = as_many f all in
      as_bin (map number_of (map f all)) h.front (omega (arith, n, lt)) small
      (sym (append-nil h.front) ∙ ap (λ l. h.front ++ map number_of (map f l)) (sym (nil_from_length left none)) ∙ h.whole) h.writes

  -- the head failed
  pub head_fails : {X : Type 0} (f : X → Option Data) (all : List X) {old now : W} {e : Error} (n : ℕ) → n ≡ length all → length all < 2 ^ 32
      → IsBytes (map number_of (map f all)) → WritesPart g {A = Unit {0}} g.takes_memory (Unit {0}) (canon_head (Bin n)) old now (Err e)
      → WritesTree g {A = Unit {0}} g.takes_memory (Some (bin (map number_of (map f all)))) old now (Err e)
  head_fails f all n e lt small w =
      let k = as_many f all in
      stopped_bin (map number_of (map f all)) (canon_head (Bin n)) (map number_of (map f all)) (omega (arith, k, lt)) small
      (head_first (map number_of (map f all)) n (e ∙ sym k)) w

  -- a piece failed
  pub piece_fails : {X : Type 0} {f : X → Option Data} {all left : List X} {old mid new : W} {e : Error} {piece : List ℕ} (now after : List X)
      → left ≡ now ++ after → piece ≡ map number_of (map f now) → length all < 2 ^ 32 → IsBytes (map number_of (map f all))
      → WritesAfter g piece mid new (Err e) → Written f all left old mid
      → WritesTree g {A = Unit {0}} g.takes_memory (Some (bin (map number_of (map f all)))) old new (Err e)
  piece_fails {f} {all} {left} {old} {piece} now after split is lt small w h =
      let k = as_many f all in
      stopped_bin (map number_of (map f all)) (h.front ++ piece) (map number_of (map f after)) (omega (arith, k, lt)) small
      (next_numbers f h.front piece _ left now after split is h.whole) (w h.front old h.some h.writes)
