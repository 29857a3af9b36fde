-- Messages that are their head.
use Rattle.std.proofs.Common.{◌≡◌, ◌≢◌, ℕ, List, refl, sym, ◌∙◌, ap, subst, Bool, false, Ok, Err, Option, None, Some}
use Rattle.rmp_wire.specs.declared.head.Head.{Head}
use Rattle.rmp_wire.specs.declared.head.Head.TheVariants as head
use Rattle.rmp_wire.specs.declared.head.Head.TheVariants.{Nil, Truth, Whole, F32Bits, F64Bits, Text, Bin, Array, Map, Ext}
use Rattle.rmp_wire.specs.declared.marker.Marker.{Marker}
use Rattle.rmp_wire.specs.declared.source.Source.{Ghosts}
use Rattle.rmp_wire.specs.Canonical.{heads_of, SpellsAs}
use Rattle.rmp_wire.specs.Msg.{Msg, nil, truth, whole, float32, float64, depth}
use Rattle.rmp_wire.specs.Spelling.{head_of}
use Rattle.rmp_decode.specs.Kinds.{Finds}
use Rattle.rmp_decode.specs.Law.{Lawful, ReadsHead}
use Rattle.rmp_decode.specs.Leaves.{IsAlone, HoldsAs, HoldsNone, Holds, ReadsLeaf}
use Rattle.rmp_decode.specs.Consumed.{no_payload}
use Rattle.rmp_decode.specs.declared.deserializer.Deserializer.{Deserializer}
use Rattle.rmp_decode.specs.declared.error.Error.{Error}
use Rattle.rmp_decode.specs.declared.error.Error.TheVariants.{OutOfMemory}
use Rattle.rmp_decode.proofs.Consumed.{leaves_head, leaves_none}
use Rattle.rmp_decode.proofs.Exactness.{exact_head, exact_none}
use Rattle.rmp_decode.proofs.Laws.{refused_head, refused_none, answered_leaf}

-- a kind of message that is its head
pub record Leaf {A : Type 0} (make : A → Msg) (heads : A → Head) : Type 0 where
  pub is : (a : A) → head_of (make a) ≡ heads a
  pub spells : (s : Bool) (a : A) (b : List ℕ) → heads_of s (heads a) b → SpellsAs s b (make a)
  pub flat : (a : A) → depth (make a) ≡ 0
  pub alone : (a : A) → IsAlone (heads a) (make a)

pub nil_leaf : Leaf (λ (u : Unit {0}). nil) (λ u. head.Nil)
nil_leaf = record { is = λ a. refl; spells = λ s a b h. h; flat = λ a. refl; alone = λ a. refl }

pub truth_leaf : Leaf truth head.Truth
truth_leaf = record { is = λ a. refl; spells = λ s a b h. h; flat = λ a. refl; alone = λ a. refl }

pub whole_leaf : Leaf whole head.Whole
whole_leaf = record { is = λ a. refl; spells = λ s a b h. h; flat = λ a. refl; alone = λ a. refl }

pub float32_leaf : Leaf float32 head.F32Bits
float32_leaf = record { is = λ a. refl; spells = λ s a b h. h; flat = λ a. refl; alone = λ a. refl }

pub float64_leaf : Leaf float64 head.F64Bits
float64_leaf = record { is = λ a. refl; spells = λ s a b h. h; flat = λ a. refl; alone = λ a. refl }

module _ {R C A V : Type 0} {make : A → Msg} {heads : A → Head} (leaf : Leaf make heads) (g : Ghosts R) (reads : Msg → V
    → Type 0) (old mid : Deserializer R C) (p : Marker × Head) (h : ReadsHead g old mid (Ok p)) where
  -- it was there, and is read so
  pub leaf_read : (new : Deserializer R C) (a : A) (v : V) → p.1 ≡ heads a → new ≡ record mid { failed = false } → reads (make a) v
      → Lawful g reads old new (Ok v)
  leaf_read new a v e q r = answered_leaf g reads old mid new p (make a) v h q
      (λ b i. leaf.spells old.strict a b (subst (λ k. heads_of old.strict k b) e i)) (leaf.flat a) r

-- what a head of that kind holds
pub holds_found : {A : Type 0} {make : A → Msg} {heads : A → Head} → Leaf make heads → (h : Head) (found : Option A) → Finds (λ k a. k ≡ heads a) h found
    → Holds (λ m a. m ≡ make a) h found
holds_found leaf h None n = λ m r i. n r.0 (sym i ∙ ap head_of r.1 ∙ leaf.is r.0)
holds_found {make = make} leaf h (Some a) e =
    record { tree = make a; alone = subst (λ k. IsAlone k (make a)) (sym e) (leaf.alone a); value = refl }

-- ---- of any kind

alone_spells : (w : Bool) (h : Head) (m : Msg) (b : List ℕ) → IsAlone h m → heads_of w h b → SpellsAs w b m
alone_spells w Nil m b e i = subst (SpellsAs w b) (sym e) i
alone_spells w (Truth t) m b e i = subst (SpellsAs w b) (sym e) i
alone_spells w (Whole z) m b e i = subst (SpellsAs w b) (sym e) i
alone_spells w (F32Bits n) m b e i = subst (SpellsAs w b) (sym e) i
alone_spells w (F64Bits n) m b e i = subst (SpellsAs w b) (sym e) i
alone_spells w (Text n) m b e i = absurd e
alone_spells w (Bin n) m b e i = absurd e
alone_spells w (Array n) m b e i = absurd e
alone_spells w (Map n) m b e i = absurd e
alone_spells w (Ext n tag) m b e i = absurd e

alone_flat : (h : Head) (m : Msg) → IsAlone h m → depth m ≡ 0
alone_flat Nil m e = ap depth e
alone_flat (Truth t) m e = ap depth e
alone_flat (Whole z) m e = ap depth e
alone_flat (F32Bits n) m e = ap depth e
alone_flat (F64Bits n) m e = ap depth e
alone_flat (Text n) m e = absurd e
alone_flat (Bin n) m e = absurd e
alone_flat (Array n) m e = absurd e
alone_flat (Map n) m e = absurd e
alone_flat (Ext n tag) m e = absurd e

-- the head that was taken is a message, which is read so
pub held_read : {R C V : Type 0} (g : Ghosts R) (reads : Msg → V → Type 0) (old mid : Deserializer R C) (p : Marker × Head) → ReadsHead g old mid (Ok p)
    → (new : Deserializer R C) (v : V) → HoldsAs reads p.1 v → new ≡ record mid { failed = false } → Lawful g reads old new (Ok v)
held_read g reads old mid p h new v a q =
    answered_leaf g reads old mid new p a.tree v h q (λ b i. alone_spells old.strict p.1 a.tree b a.alone i) (alone_flat p.1 a.tree a.alone) a.value

-- ---- what happened, each once

module _ {R C V : Type 0} (g : Ghosts R) (reads : Msg → V → Type 0) (table : Marker → Head → Error) (old mid : Deserializer R C) where
  -- no head was there, or a read had failed before
  pub leaf_none : (e : Error) → ReadsHead g old mid (Err e) → ReadsLeaf g reads table old mid (Err e)
  leaf_none e h = record {
    law = refused_none g reads old mid e h;
    exact = λ o. exact_none _ _ _ _ _ e (h.ends o);
    taken = λ o. leaves_none _ no_payload _ _ _ _ e (h.ends o) (h.leaves o);
    memory = h.memory;
  }

  module _ (p : Marker × Head) (h : ReadsHead g old mid (Ok p)) where
    -- the head isn't one that is read
    pub leaf_other : (e : Error) → HoldsNone reads p.1 → e ≡ table p.0 p.1 → e ≢ OutOfMemory → ReadsLeaf g reads table old mid (Err e)
    leaf_other e n i y = record {
      law = refused_head g reads old mid p e h n;
      exact = λ _. exact_head _ _ _ _ _ p.0 p.1 e h.sound h.marked i;
      taken = λ _. leaves_head g no_payload old mid p e h (λ w. w);
      memory = y;
    }

    -- it is
    pub leaf_held : (v : V) → HoldsAs reads p.1 v → ReadsLeaf g reads table old (record mid { failed = false }) (Ok v)
    leaf_held v a = record { law = held_read g reads old mid p h _ v a refl; exact = λ _. tt; taken = λ _. tt; memory = tt }
