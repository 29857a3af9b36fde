-- What is read one after another has to do with what was written.
use Rattle.std.proofs.Common.{◌≡◌, ◌∙◌, sym, subst, ap, refl, ℕ, suc, List, [], ◌∷◌, ◌++◌, Option, Some, length, map, All, append_assoc}
use Rattle.std.specs.Prelude.{◌<◌, ◌+◌, IsSomeAnd}
use native.Mathlib.Omega.{arith}
use Rattle.std.proofs.lemmas.List.{length-append, length-map}
use Rattle.std.proofs.lemmas.List.Elements.{All-head, All-tail}
use Rattle.rmp_encode.specs.Calls.{IsSpelled}
use Rattle.rmp_encode.specs.Data.{Data}
use Rattle.rmp_encode.specs.Trees.{tree_of}
use Rattle.rmp_encode.specs.declared.settings.Settings.{Settings}
use Rattle.rmp_decode.specs.Rows.{ReadsEach}
use Rattle.rmp_wire.specs.Msg.{Msg, Msgs, no_items, item, depth}
use Rattle.rmp_wire.specs.Spelling.{Spells}
use Rattle.rmp_round_trip.specs.InTurn.{joined, LowerInTurn, ReadInTurn, WrittenInTurn}
use Rattle.rmp_round_trip.specs.RoundTrip.{Alike, LowersTo, Only}
use Rattle.rmp_round_trip.proofs.RoundLaws.{written_once}

shorter : {B : Type 0} (b : B) (bs : List B) → length {A = List ℕ} [] ≡ length (b ∷ bs) → ⊥
shorter b bs e = cc

longer : (B : Type 0) (c : List ℕ) (cs : List (List ℕ)) → length (c ∷ cs) ≡ length {A = B} [] → ⊥
longer B c cs e = cc

tail_long : {B C : Type 0} (b : B) (c : C) (bs : List B) (cs : List C) → length (b ∷ bs) ≡ length (c ∷ cs) → length bs ≡ length cs
tail_long b c bs cs e = cc

-- the tree of what isn't refused
tree_below : (s : Settings) (d : Option Data) (b : List ℕ) (room : ℕ) → IsSpelled (tree_of s d) b → LowersTo s d (λ m. depth m < room)
    → (m : Msg) × (tree_of s d ≡ Some m) × Spells b m × (depth m < room)
tree_below s d b room i h = (i.tree, i.is, i.spells, subst (λ t. IsSomeAnd t (λ m. depth m < room)) i.is h)

module _ (s : Settings) (room : ℕ) where
  -- they are read in turn, and what follows is left
  pub turns_read : (ds : List (Option Data)) (bs : List (List ℕ)) (x : List ℕ) (position : ℕ) → All (λ d. LowersTo s d (λ m. depth m < room)) ds
      → WrittenInTurn s ds bs
      → (ms : Msgs) × LowerInTurn s ds ms × ReadInTurn room position (joined bs ++ x) ms bs x (position + length (joined bs))
  turns_read [] [] x position a w = (no_items, tt, (refl, omega arith))
  turns_read [] (b ∷ bs) x position a w = absurd w
  turns_read (d ∷ ds) [] x position a w = absurd w
  turns_read (d ∷ ds) (b ∷ bs) x position a w =
      let one = tree_below s d b room w.0 (All-head (λ d. LowersTo s d (λ m. depth m < room)) d ds a) in
      let more = turns_read ds bs x (position + length b) (All-tail (λ d. LowersTo s d (λ m. depth m < room)) d ds a) w.1 in
      let there : position + length (b ++ joined bs) ≡ (position + length b) + length (joined bs) = omega (arith, length-append b (joined bs)) in
      let rest = subst (λ end. ReadInTurn room (position + length b) (joined bs ++ x) more.0 bs x end) (sym there) more.2 in
      (item one.0 more.0, (one.1, more.1), (joined bs ++ x, append_assoc b (joined bs) x, one.2, one.3, rest))

  -- and nothing else is
  pub turns_only : (ds : List (Option Data)) (bs : List (List ℕ)) (x : List ℕ) (position : ℕ) → WrittenInTurn s ds bs
      → (ms : Msgs) (cs : List (List ℕ)) (y : List ℕ) (end : ℕ) → length cs ≡ length ds → ReadInTurn room position (joined bs ++ x) ms cs y end
      → LowerInTurn s ds ms × (cs ≡ bs) × (y ≡ x) × (end ≡ position + length (joined bs))
  turns_only [] [] x position w no_items [] y end l r = (tt, refl, r.0, omega (arith, r.1))
  turns_only [] [] x position w no_items (c ∷ cs) y end l r = absurd r
  turns_only [] [] x position w (item m ms) [] y end l r = absurd r
  turns_only [] [] x position w (item m ms) (c ∷ cs) y end l r = absurd (longer (Option Data) c cs l)
  turns_only [] (b ∷ bs) x position w ms cs y end l r = absurd w
  turns_only (d ∷ ds) [] x position w ms cs y end l r = absurd w
  turns_only (d ∷ ds) (b ∷ bs) x position w no_items [] y end l r = absurd (shorter d ds l)
  turns_only (d ∷ ds) (b ∷ bs) x position w no_items (c ∷ cs) y end l r = absurd r
  turns_only (d ∷ ds) (b ∷ bs) x position w (item m ms) [] y end l r = absurd r
  turns_only (d ∷ ds) (b ∷ bs) x position w (item m ms) (c ∷ cs) y end l r =
      let u = written_once (tree_of s d) b (joined bs ++ x) c r.0 m w.0 r.2 (sym (append_assoc b (joined bs) x) ∙ r.1) in
      let rest = subst (λ z. ReadInTurn room (position + length c) z ms cs y end) u.2 r.4 in
      let more = turns_only ds bs x (position + length c) w.1 ms cs y end (tail_long c d cs ds l) rest in
      let there : end ≡ position + length (b ++ joined bs) = omega (arith, more.3, ap length u.1, length-append b (joined bs)) in
      ((u.0, more.0), (λ i. u.1 i ∷ more.1 i), more.2, there)

-- what is read of the tree of some data
there : (s : Settings) (d : Option Data) (m : Msg) (P : Msg → Type 0) → LowersTo s d P → tree_of s d ≡ Some m → P m
there s d m P h e = subst (λ t. IsSomeAnd t P) e h

module _ {V : Type 0} (s : Settings) (of : V → Option Data) (is_value : V → Type 0) (reads : Msg → V → Type 0) where
  -- the messages are read as the values
  pub each_read : ((v : V) → is_value v → LowersTo s (of v) (λ m. reads m v)) → (vs : List V) (ms : Msgs) → All is_value vs
      → LowerInTurn s (map of vs) ms → ReadsEach reads ms vs
  each_read h [] no_items a t = tt
  each_read h [] (item m ms) a t = absurd t
  each_read h (v ∷ vs) no_items a t = absurd t
  each_read h (v ∷ vs) (item m ms) a t =
      (there s (of v) m (λ m. reads m v) (h v (All-head is_value v vs a)) t.0, each_read h vs ms (All-tail is_value v vs a) t.1)

  -- as many pieces as values
  each_long : (room position : ℕ) (bytes : List ℕ) (ms : Msgs) (ws : List V) (cs : List (List ℕ)) (y : List ℕ) (end : ℕ) → ReadsEach reads ms ws
      → ReadInTurn room position bytes ms cs y end → length cs ≡ length ws
  each_long room position bytes no_items [] [] y end q r = refl
  each_long room position bytes no_items [] (c ∷ cs) y end q r = absurd r
  each_long room position bytes no_items (w ∷ ws) cs y end q r = absurd q
  each_long room position bytes (item m ms) [] cs y end q r = absurd q
  each_long room position bytes (item m ms) (w ∷ ws) [] y end q r = absurd r
  each_long room position bytes (item m ms) (w ∷ ws) (c ∷ cs) y end q r =
      ap suc (each_long room (position + length c) r.0 ms ws cs y end q.1 r.4)

  pub as_many : (room position : ℕ) (bytes : List ℕ) (ms : Msgs) (vs ws : List V) (cs : List (List ℕ)) (y : List ℕ) (end : ℕ) → length ws ≡ length vs
      → ReadsEach reads ms ws → ReadInTurn room position bytes ms cs y end → length cs ≡ length (map of vs)
  as_many room position bytes ms vs ws cs y end l q r = each_long room position bytes ms ws cs y end q r ∙ l ∙ sym (length-map vs of)

  -- and as nothing else
  pub each_alike : (same : V → V → Type 0) → ((v : V) → is_value v → LowersTo s (of v) (λ m. Only reads same m v)) → (vs ws : List V) (ms : Msgs)
      → All is_value vs → LowerInTurn s (map of vs) ms → ReadsEach reads ms ws → Alike same vs ws
  each_alike same h [] [] no_items a t r = tt
  each_alike same h [] (w ∷ ws) no_items a t r = absurd r
  each_alike same h [] ws (item m ms) a t r = absurd t
  each_alike same h (v ∷ vs) ws no_items a t r = absurd t
  each_alike same h (v ∷ vs) [] (item m ms) a t r = absurd r
  each_alike same h (v ∷ vs) (w ∷ ws) (item m ms) a t r =
      let one = there s (of v) m (λ m. Only reads same m v) (h v (All-head is_value v vs a)) t.0 in
      (one w r.0, each_alike same h vs ws ms (All-tail is_value v vs a) t.1 r.1)
