-- Items and pairs as lists, and back; and spellings of them, part by part.
use Rattle.std.proofs.Common.{◌≡◌, ◌∙◌, sym, ap, ℕ, suc, List, [], ◌∷◌, ◌++◌, length, refl, append_assoc}
use Rattle.std.specs.List.{flat_map, AllZip}
use Rattle.std.proofs.lemmas.List.{append-nil}
use Rattle.rmp_wire.specs.Msg.{Msg, list, Msgs, no_items, item, Pairs, no_pairs, pair, count, count_pairs, items_of, msgs, pairs_of, pairs}
use Rattle.rmp_wire.specs.declared.head.Head.TheVariants.{Array, Map}
use Rattle.rmp_wire.specs.Heads.{canon_head}
use Rattle.rmp_wire.specs.Spelling.{canon, canon_all, canon_pairs, Spells, SpellsAll}

pub items_of-msgs : (ms : List Msg) → items_of (msgs ms) ≡ ms
items_of-msgs [] = refl
items_of-msgs (m ∷ ms) = ap (λ xs. m ∷ xs) (items_of-msgs ms)

pub msgs-items_of : (ms : Msgs) → msgs (items_of ms) ≡ ms
msgs-items_of no_items = refl
msgs-items_of (item m ms) = ap (item m) (msgs-items_of ms)

pub pairs_of-pairs : (ps : List (Msg × Msg)) → pairs_of (pairs ps) ≡ ps
pairs_of-pairs [] = refl
pairs_of-pairs (p ∷ ps) = ap (λ xs. p ∷ xs) (pairs_of-pairs ps)

pub pairs-pairs_of : (ps : Pairs) → pairs (pairs_of ps) ≡ ps
pairs-pairs_of no_pairs = refl
pairs-pairs_of (pair k v ps) = ap (pair k v) (pairs-pairs_of ps)

pub count-msgs : (ms : List Msg) → count (msgs ms) ≡ length ms
count-msgs [] = refl
count-msgs (m ∷ ms) = ap suc (count-msgs ms)

pub canon_all-msgs : (ms : List Msg) → canon_all (msgs ms) ≡ flat_map canon ms
canon_all-msgs [] = refl
canon_all-msgs (m ∷ ms) = ap (λ s. canon m ++ s) (canon_all-msgs ms)

-- ---- canonical spellings, part by part

pub canon_pairs-pairs : (ps : List (Msg × Msg)) → canon_pairs (pairs ps) ≡ flat_map (λ p. canon p.0 ++ canon p.1) ps
canon_pairs-pairs [] = refl
canon_pairs-pairs (p ∷ ps) = ap (λ s. canon p.0 ++ (canon p.1 ++ s)) (canon_pairs-pairs ps)
    ∙ sym (append_assoc (canon p.0) (canon p.1) (flat_map (λ q. canon q.0 ++ canon q.1) ps))

pub count_pairs-pairs : (ps : List (Msg × Msg)) → count_pairs (pairs ps) ≡ length ps
count_pairs-pairs [] = refl
count_pairs-pairs (p ∷ ps) = ap suc (count_pairs-pairs ps)

-- a list is its head, and then its items one after the other
pub canon-list : (ms : List Msg) → canon (list (msgs ms)) ≡ canon_head (Array (length ms)) ++ flat_map canon ms
canon-list ms = ap (λ n. canon_head (Array n) ++ canon_all (msgs ms)) (count-msgs ms) ∙ ap (λ s. canon_head (Array (length ms)) ++ s) (canon_all-msgs ms)

pub canon-map : (ps : List (Msg × Msg)) → canon (Rattle.rmp_wire.specs.Msg.map (pairs ps)) ≡ canon_head (Map (length ps))
    ++ flat_map (λ p. canon p.0 ++ canon p.1) ps
canon-map ps = ap (λ n. canon_head (Map n) ++ canon_pairs (pairs ps)) (count_pairs-pairs ps)
    ∙ ap (λ s. canon_head (Map (length ps)) ++ s) (canon_pairs-pairs ps)

-- ---- spellings in any widths, part by part

pub spells_one : (b : List ℕ) (m : Msg) → Spells b m → SpellsAll b (msgs (m ∷ []))
spells_one b m s = record { first = b; second = []; is_first = s; is_second = refl; is_whole = sym (append-nil b) }

pub spells_append : (xs ys : List Msg) (a b : List ℕ) → SpellsAll a (msgs xs) → SpellsAll b (msgs ys) → SpellsAll (a ++ b) (msgs (xs ++ ys))
spells_append [] ys a b p q = rw p q
spells_append (m ∷ xs) ys a b p q = record {
  first = p.first;
  second = p.second ++ b;
  is_first = p.is_first;
  is_second = spells_append xs ys p.second b p.is_second q;
  is_whole = ap (λ t. t ++ b) p.is_whole ∙ append_assoc p.first p.second b;
}

-- one more item
pub spells_more : (ms : List Msg) (m : Msg) (a b : List ℕ) → SpellsAll a (msgs ms) → Spells b m → SpellsAll (a ++ b) (msgs (ms ++ m ∷ []))
spells_more ms m a b p q = spells_append ms (m ∷ []) a b p (spells_one b m q)

-- the spellings of the items, one after the other
pub spells_all_from : (bs : List (List ℕ)) (ms : List Msg) → AllZip Spells bs ms → SpellsAll (flat_map (λ b. b) bs) (msgs ms)
spells_all_from [] [] h = refl
spells_all_from [] (m ∷ ms) h = absurd h
spells_all_from (b ∷ bs) [] h = absurd h
spells_all_from (b ∷ bs) (m ∷ ms) h = record {
  first = b;
  second = flat_map (λ c. c) bs;
  is_first = h.0;
  is_second = spells_all_from bs ms h.1;
  is_whole = refl;
}

pub spells_all_parts : (ms : List Msg) (b : List ℕ) → SpellsAll b (msgs ms) → (bs : List (List ℕ)) × AllZip Spells bs ms × (b ≡ flat_map (λ c. c) bs)
spells_all_parts [] b s = ([], tt, s)
spells_all_parts (m ∷ ms) b s =
    let rest : (bs : List (List ℕ)) × AllZip Spells bs ms × (s.second ≡ flat_map (λ c. c) bs) = spells_all_parts ms s.second s.is_second in
    (s.first ∷ rest.0, (s.is_first, rest.1), s.is_whole ∙ ap (λ t. s.first ++ t) rest.2)
