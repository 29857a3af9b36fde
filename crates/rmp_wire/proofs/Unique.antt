-- take_msg takes each message that is spelled at the beginning, so there is one.
use Rattle.std.proofs.Common.{◌≡◌, ◌∙◌, sym, ap, ℕ, zero, suc, ◌+◌, ◌≤◌, List, ◌++◌, length, Option, Some, None, refl, arith, false, nat_lt, append_assoc}
use Rattle.std.proofs.lemmas.List.{length-append, take_at, drop_at, append_cancel_right}
use Rattle.std.proofs.lemmas.Bool.{le-ltb}
use Rattle.std.proofs.lemmas.Option.{some_pair_parts}
use Rattle.rmp_wire.specs.declared.head.Head.{Head}
use Rattle.rmp_wire.specs.declared.head.Head.TheVariants.{Nil, Truth, Whole, F32Bits, F64Bits, Text, Bin, Array, Map, Ext}
use Rattle.rmp_wire.specs.Heads.{IsHead}
use Rattle.rmp_wire.specs.Msg.{
  Msg,
  nil,
  truth,
  whole,
  float32,
  float64,
  text,
  bin,
  list,
  map,
  extension,
  Msgs,
  no_items,
  item,
  Pairs,
  no_pairs,
  pair,
  count,
  count_pairs,
  depth,
  depth_all,
  depth_pairs,
}
use Rattle.rmp_wire.specs.Spelling.{Joined, IsContent, Spells, SpellsAll, SpellsPairs}
use Rattle.rmp_wire.specs.Taking.{take_head, take_bytes, take_items, take_pairs, take_rest, take_msg, take_map, take_then, Takes}
use Rattle.rmp_wire.proofs.Heads.{take_head_takes}

pub take_bytes_gives : (s t x : List ℕ) → t ≡ s → take_bytes (length s) (t ++ x) ≡ Some (s, x)
unfolding take_bytes
take_bytes_gives s t x e =
    let long : nat_lt (length (s ++ x)) (length s) ≡ false = le-ltb (length (s ++ x)) (length s) (omega (arith, length-append s x)) in
    rw (e, long, take_at s x (length s) refl, drop_at s x (length s) refl) refl

-- a head that is taken, and then the rest
take_joined : {A : Type 0} (f : Head → Takes A) (h : Head) (Q : List ℕ → Type 0) (b x : List ℕ) (r : Option (A × List ℕ)) (j : Joined (IsHead h) Q b)
    → f h (j.second ++ x) ≡ r → take_then (take_head (b ++ x)) f ≡ r
take_joined f h Q b x r j e =
    let split : b ++ x ≡ j.first ++ (j.second ++ x) = ap (λ t. t ++ x) j.is_whole ∙ append_assoc j.first j.second x in
    ap (λ t. take_then (take_head t) f) split ∙ ap (λ t. take_then t f) (take_head_takes h j.first (j.second ++ x) j.is_first) ∙ e

take_alone : {A : Type 0} (f : Head → Takes A) (h : Head) (b x : List ℕ) (r : Option (A × List ℕ)) → IsHead h b → f h x ≡ r
    → take_then (take_head (b ++ x)) f ≡ r
take_alone f h b x r p e = ap (λ t. take_then t f) (take_head_takes h b x p) ∙ e

-- one part, and then the rest
take_part : {A B : Type 0} (one : Takes A) (f : A → Takes B) (a : A) (P Q : List ℕ → Type 0) (b x : List ℕ) (r : Option (B × List ℕ)) (j : Joined P Q b)
    → one (j.first ++ (j.second ++ x)) ≡ Some (a, j.second ++ x) → f a (j.second ++ x) ≡ r → take_then (one (b ++ x)) f ≡ r
take_part one f a P Q b x r j p e =
    let split : b ++ x ≡ j.first ++ (j.second ++ x) = ap (λ t. t ++ x) j.is_whole ∙ append_assoc j.first j.second x in
    ap (λ t. take_then (one t) f) split ∙ ap (λ t. take_then t f) p ∙ e

-- the items and the pairs that are taken at a depth
some_items : ℕ → ℕ → Takes Msgs
some_items zero = λ n rest. None
some_items (suc d) = take_items (take_msg d)

some_pairs : ℕ → ℕ → Takes Pairs
some_pairs zero = λ n rest. None
some_pairs (suc d) = take_pairs (take_msg d)

rest_at : ℕ → Head → Takes Msg
rest_at d = take_rest (some_items d) (some_pairs d)

take_msg_is : (d : ℕ) (bytes : List ℕ) → take_msg d bytes ≡ take_then (take_head bytes) (rest_at d)
unfolding take_msg rest_at some_items some_pairs
take_msg_is zero bytes = refl
take_msg_is (suc d) bytes = refl

-- a message that is its head, and one with bytes after its head
take_leaf : (d : ℕ) (h : Head) (m : Msg) (b x : List ℕ) → ((rest : List ℕ) → rest_at d h rest ≡ Some (m, rest)) → IsHead h b → take_msg d (b ++ x) ≡ Some (m, x)
take_leaf d h m b x e s = take_msg_is d (b ++ x) ∙ take_alone (rest_at d) h b x _ s (e x)

take_content : (d : ℕ) (h : Head) (m : List ℕ → Msg) (t b x : List ℕ) → ((rest : List ℕ) → rest_at d h rest ≡ take_map m (take_bytes (length t) rest))
    → Joined (IsHead h) (IsContent t) b → take_msg d (b ++ x) ≡ Some (m t, x)
take_content d h m t b x e s = take_msg_is d (b ++ x)
    ∙ take_joined (rest_at d) h _ b x _ s (e (s.second ++ x) ∙ ap (take_map m) (take_bytes_gives t s.second x s.is_second.0))

mutual
  unfolding take_rest rest_at some_items some_pairs take_items take_pairs

  pub take_msg_takes : (m : Msg) (d : ℕ) (b x : List ℕ) → Spells b m → depth m ≤ d → take_msg d (b ++ x) ≡ Some (m, x)
  take_msg_takes nil d b x s l = take_leaf d Nil nil b x (λ rest. refl) s
  take_msg_takes (truth t) d b x s l = take_leaf d (Truth t) (truth t) b x (λ rest. refl) s
  take_msg_takes (whole z) d b x s l = take_leaf d (Whole z) (whole z) b x (λ rest. refl) s
  take_msg_takes (float32 n) d b x s l = take_leaf d (F32Bits n) (float32 n) b x (λ rest. refl) s
  take_msg_takes (float64 n) d b x s l = take_leaf d (F64Bits n) (float64 n) b x (λ rest. refl) s
  take_msg_takes (text t) d b x s l = take_content d (Text (length t)) text t b x (λ rest. refl) s
  take_msg_takes (bin t) d b x s l = take_content d (Bin (length t)) bin t b x (λ rest. refl) s
  take_msg_takes (list ms) zero b x s l = absurd (omega arith)
  take_msg_takes (list ms) (suc d) b x s l =
      take_msg_is (suc d) (b ++ x) ∙ take_joined (rest_at (suc d)) (Array (count ms)) _ b x _ s
      (ap (take_map list) (take_items_takes ms d s.second x s.is_second (omega arith)))
  take_msg_takes (map ps) zero b x s l = absurd (omega arith)
  take_msg_takes (map ps) (suc d) b x s l =
      take_msg_is (suc d) (b ++ x) ∙ take_joined (rest_at (suc d)) (Map (count_pairs ps)) _ b x _ s
      (ap (take_map map) (take_pairs_takes ps d s.second x s.is_second (omega arith)))
  take_msg_takes (extension tag t) d b x s l = take_content d (Ext (length t) tag) (extension tag) t b x (λ rest. refl) s

  pub take_items_takes : (ms : Msgs) (d : ℕ) (b x : List ℕ) → SpellsAll b ms → depth_all ms ≤ d → take_items (take_msg d) (count ms) (b ++ x) ≡ Some (ms, x)
  take_items_takes no_items d b x s l = rw s refl
  take_items_takes (item m ms) d b x s l =
      take_part (take_msg d) _ m _ _ b x _ s (take_msg_takes m d s.first (s.second ++ x) s.is_first (omega arith))
      (ap (take_map (item m)) (take_items_takes ms d s.second x s.is_second (omega arith)))

  pub take_pairs_takes : (ps : Pairs) (d : ℕ) (b x : List ℕ) → SpellsPairs b ps → depth_pairs ps ≤ d
      → take_pairs (take_msg d) (count_pairs ps) (b ++ x) ≡ Some (ps, x)
  take_pairs_takes no_pairs d b x s l = rw s refl
  take_pairs_takes (pair k v ps) d b x s l =
      take_part (take_msg d) _ k _ _ b x _ s (take_msg_takes k d s.first (s.second ++ x) s.is_first (omega arith))
      (take_part (take_msg d) _ v _ _ s.second x _ s.is_second
      (take_msg_takes v d s.is_second.first (s.is_second.second ++ x) s.is_second.is_first (omega arith))
      (ap (take_map (pair k v)) (take_pairs_takes ps d s.is_second.second x s.is_second.is_second (omega arith))))

-- At most one beginning of an input spells a message, and one message.
pub spelled_once : (m n : Msg) (a b x y : List ℕ) → Spells a m → Spells b n → a ++ x ≡ b ++ y → (a ≡ b) × (m ≡ n) × (x ≡ y)
spelled_once m n a b x y p q e =
    let d : ℕ = depth m + depth n in
    let same : Some (m, x) ≡ Some (n, y) = sym (take_msg_takes m d a x p (omega arith)) ∙ ap (take_msg d) e ∙ take_msg_takes n d b y q (omega arith) in
    let parts : (m ≡ n) × (x ≡ y) = some_pair_parts m n x y same in
    (append_cancel_right a b y (ap (λ t. a ++ t) (sym parts.1) ∙ e), parts.0, parts.1)
