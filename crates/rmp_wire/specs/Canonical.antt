-- Which spelling is the canonical one: each head is a shortest one, and a number from 0 on has an unsigned one.
use Rattle.std.specs.Prelude.{◌≡◌, ℕ, ◌≤◌, List, [], ◌∷◌, Bool, true, false, length, pos}
use Rattle.rmp_wire.specs.declared.head.Head.{Head}
use Rattle.rmp_wire.specs.declared.head.Head.TheVariants.{Whole}
use Rattle.rmp_wire.specs.Heads.{IsHead, SignedAny}
use Rattle.rmp_wire.specs.Msg.{Msg, Msgs, Pairs}
use Rattle.rmp_wire.specs.Spelling.{SpelledBy, AllSpelledBy, PairsSpelledBy}

-- a head of this kind and number than which none is shorter, and in which a number from 0 on is unsigned
pub record IsCanonicalHead (h : Head) (a : List ℕ) : Type 0 where
  pub is_head : IsHead h a
  pub shortest : (b : List ℕ) → IsHead h b → length a ≤ length b
  pub unsigned : (n : ℕ) → h ≡ Whole (pos n) → ¬ SignedAny (pos n) a

-- These bytes spell the message, and each of their heads is the canonical one.
abbrev pub IsCanonical : List ℕ → Msg → Type 0
IsCanonical = SpelledBy IsCanonicalHead

abbrev pub AreCanonical : List ℕ → Msgs → Type 0
AreCanonical = AllSpelledBy IsCanonicalHead

abbrev pub ArePairsCanonical : List ℕ → Pairs → Type 0
ArePairsCanonical = PairsSpelledBy IsCanonicalHead

-- which heads a read accepts: the canonical ones if it is strict, and those of any width otherwise
abbrev pub heads_of : Bool → Head → List ℕ → Type 0
heads_of false = IsHead
heads_of true = IsCanonicalHead

-- the byte is the first of these
abbrev pub Opens : ℕ → List ℕ → Type 0
Opens b [] = ⊥
Opens b (first ∷ rest) = b ≡ first

-- what spells a message for a strict read, and for a lenient one
abbrev pub SpellsAs : Bool → List ℕ → Msg → Type 0
SpellsAs strict = SpelledBy (heads_of strict)
