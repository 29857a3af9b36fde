-- When nothing at the front of the bytes is accepted.
use Rattle.std.proofs.Common.{◌≡◌, ◌≤◌, ◌<◌, ℕ, List, [], ◌++◌, length, refl, sym, ◌∙◌, ap, subst, arith, append_assoc, Option, None, Some, IfSome, Bool}
use Rattle.std.proofs.lemmas.List.{append-nil, length-append}
use Rattle.std.specs.Io.KnownBytes.{Consumes}
use Rattle.rmp_wire.specs.declared.head.Head.{Head}
use Rattle.rmp_wire.specs.Canonical.{heads_of, SpellsAs}
use Rattle.rmp_wire.specs.Heads.{IsHead}
use Rattle.rmp_wire.specs.Msg.{Msg, nil, truth, whole, float32, float64, text, bin, list, map, extension}
use Rattle.rmp_wire.specs.Sources.{IsShort}
use Rattle.rmp_wire.specs.Spelling.{head_of}
use Rattle.rmp_wire.proofs.Heads.{heads_differ}
use Rattle.rmp_wire.proofs.Strict.{any_width, heads_differ_as, spelled_once_as}
use Rattle.rmp_decode.specs.Law.{Begins, Refuses, NoMessage}

-- what follows the head of a leaf
abbrev pub content_of : Msg → List ℕ
content_of nil = []
content_of (truth t) = []
content_of (whole z) = []
content_of (float32 n) = []
content_of (float64 n) = []
content_of (text s) = s
content_of (bin s) = s
content_of (list ms) = []
content_of (map ps) = []
content_of (extension tag s) = s

-- a spelling begins with its message's head
pub record Opened (s : Bool) (m : Msg) (a : List ℕ) : Type 0 where
  pub head : List ℕ
  pub rest : List ℕ
  pub is_head : heads_of s (head_of m) head
  pub split : a ≡ head ++ rest
  pub long : length (content_of m) ≤ length rest

alone : {s : Bool} (m : Msg) (a : List ℕ) → heads_of s (head_of m) a → content_of m ≡ [] → Opened s m a
alone m a h e = record { head = a; rest = []; is_head = h; split = sym (append-nil a); long = omega (arith, ap length e) }

pub opened : {s : Bool} (m : Msg) (a : List ℕ) → SpellsAs s a m → Opened s m a
opened nil a s = alone nil a s refl
opened (truth t) a s = alone (truth t) a s refl
opened (whole z) a s = alone (whole z) a s refl
opened (float32 n) a s = alone (float32 n) a s refl
opened (float64 n) a s = alone (float64 n) a s refl
opened (text t) a s = record { head = s.first; rest = s.second; is_head = s.is_first; split = s.is_whole; long = omega (arith, ap length s.is_second.0) }
opened (bin t) a s = record { head = s.first; rest = s.second; is_head = s.is_first; split = s.is_whole; long = omega (arith, ap length s.is_second.0) }
opened (list ms) a s = record { head = s.first; rest = s.second; is_head = s.is_first; split = s.is_whole; long = omega arith }
opened (map ps) a s = record { head = s.first; rest = s.second; is_head = s.is_first; split = s.is_whole; long = omega arith }
opened (extension tag t) a s = record {
  head = s.first;
  rest = s.second;
  is_head = s.is_first;
  split = s.is_whole;
  long = omega
      (arith, ap length s.is_second.0);
}

-- where the bytes begin with a head, a message that is there begins with it
pub same_head : (s : Bool) (m : Msg) (h : Head) (a b x y : List ℕ) → SpellsAs s a m → heads_of s h b → a ++ x ≡ b ++ y
    → (head_of m ≡ h) × (length (content_of m) ≤ length y)
same_head s m h a b x y p i e =
    let o = opened m a p in
    let split : o.head ++ (o.rest ++ x) ≡ b ++ y = sym (append_assoc o.head o.rest x) ∙ ap (λ t. t ++ x) (sym o.split) ∙ e in
    let u = heads_differ_as s (head_of m) h o.head b (o.rest ++ x) y o.is_head i split in
    (u.0, omega (arith, o.long, length-append o.rest x, ap length u.2))

-- where no head begins, no message does
pub no_head : (s : Bool) (known : Option (List ℕ)) → IfSome known (λ xs. (h : Head) (x rest : List ℕ) → xs ≡ x ++ rest → IsHead h x → ⊥) → NoMessage s known
unfolding NoMessage
no_head s None p = tt
no_head s (Some xs) p = λ m b r e t. let o = opened m b t
    in p (head_of m) o.head (o.rest ++ r) (e ∙ ap (λ t. t ++ r) o.split ∙ append_assoc o.head o.rest r) (any_width s (head_of m) o.head o.is_head)

-- where there is a head that isn't allowed, no message does
pub no_wide : (s : Bool) (known k : Option (List ℕ)) (b : List ℕ) (h : Head) → Consumes known k b → IsHead h b → (heads_of s h b → ⊥) → NoMessage s known
unfolding NoMessage
no_wide s None k b h t i n = tt
no_wide s (Some xs) None b h t i n = absurd t
no_wide s (Some xs) (Some ys) b h t i n = λ m c r e p.
    let o = opened m c p in
    let split : o.head ++ (o.rest ++ r) ≡ b ++ ys = sym (append_assoc o.head o.rest r) ∙ ap (λ z. z ++ r) (sym o.split) ∙ sym e ∙ t in
    let u = heads_differ (head_of m) h o.head b (o.rest ++ r) ys (any_width s (head_of m) o.head o.is_head) i split in
    n (subst (λ z. heads_of s z b) u.0 (subst (heads_of s (head_of m)) u.1 o.is_head))

module _ (s : Bool) (P : Msg → Type 0) (room : ℕ) where
  pub refuses_by : (known k : Option (List ℕ)) (b : List ℕ) → Consumes known k b → ((ys : List ℕ) → k ≡ Some ys → Begins (SpellsAs s) P room (b ++ ys) → ⊥)
      → Refuses (SpellsAs s) P room known
  unfolding Refuses
  refuses_by None k b p q = tt
  refuses_by (Some xs) None b p q = absurd p
  refuses_by (Some xs) (Some ys) b p q = subst (λ z. Begins (SpellsAs s) P room z → ⊥) (sym p) (q ys refl)

  pub refuses_none : (known : Option (List ℕ)) → NoMessage s known → Refuses (SpellsAs s) P room known
  unfolding Refuses NoMessage
  refuses_none None p = tt
  refuses_none (Some xs) p = λ a. p a.tree a.bytes a.rest a.front a.spelled

  -- a message was there, and it is none of those that are wanted
  pub refuses_other : (known k : Option (List ℕ)) (b : List ℕ) (m : Msg) → Consumes known k b → SpellsAs s b m → (P m → ⊥) → Refuses (SpellsAs s) P room known
  refuses_other known k b m p t n = refuses_by known k b p
      (λ ys _ a. n (subst P (spelled_once_as s a.tree m a.bytes b a.rest ys a.spelled t (sym a.front)).1 a.holds))

  -- a head was there, and it opens none of those that are wanted
  pub refuses_head : (known k : Option (List ℕ)) (b : List ℕ) (h : Head) → Consumes known k b → heads_of s h b → ((m : Msg) → P m → head_of m ≡ h → ⊥)
      → Refuses (SpellsAs s) P room known
  refuses_head known k b h p i n = refuses_by known k b p (λ ys _ a. n a.tree a.holds (same_head _ a.tree h a.bytes b a.rest ys a.spelled i (sym a.front)).0)

  -- fewer bytes are after the head than each of those that are wanted has there
  pub refuses_short : (n : ℕ) (known k : Option (List ℕ)) (b : List ℕ) (h : Head) → Consumes known k b → heads_of s h b → IsShort n k
      → ((m : Msg) → P m → head_of m ≡ h → n ≤ length (content_of m)) → Refuses (SpellsAs s) P room known
  refuses_short n known k b h p i l f = refuses_by known k b p (λ ys e a.
      let u = same_head _ a.tree h a.bytes b a.rest ys a.spelled i (sym a.front) in
      let short : length ys < n = rw e at l in
      let long = f a.tree a.holds u.0 in
      let most = u.1 in
      omega arith)

-- what a wider type refuses, a narrower one does
pub refuses_narrower : (spells : List ℕ → Msg → Type 0) (P Q : Msg → Type 0) (room : ℕ) (known : Option (List ℕ)) → ((m : Msg) → Q m → P m)
    → Refuses spells P room known → Refuses spells Q room known
unfolding Refuses
refuses_narrower spells P Q room None f r = tt
refuses_narrower spells P Q room (Some xs) f r = λ a. r
    (record { bytes = a.bytes; rest = a.rest; tree = a.tree; front = a.front; spelled = a.spelled; fits = a.fits; holds = f a.tree a.holds })

-- a type that reads no tree refuses each
pub refuses_all : (spells : List ℕ → Msg → Type 0) (P : Msg → Type 0) (room : ℕ) (known : Option (List ℕ)) → ((m : Msg) → P m → ⊥) → Refuses spells P room known
unfolding Refuses
refuses_all spells P room None n = tt
refuses_all spells P room (Some xs) n = λ a. n a.tree a.holds
