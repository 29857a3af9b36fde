-- Heads of any width, and the canonical ones: what both have in common.
use Rattle.std.proofs.Common.{◌≡◌, sym, ap, subst, refl, arith, ℕ, List, [], ◌∷◌, ◌++◌, Bool, true, false, pos, negsuc}
use Rattle.std.proofs.lemmas.Bool.Decides.{nat_tests}
use Rattle.rmp_wire.specs.Canonical.{IsCanonicalHead, Opens, heads_of, SpellsAs}
use Rattle.rmp_wire.specs.Heads.{IsHead, canon_head, fits_head}
use Rattle.rmp_wire.specs.Msg.{Msg, nil, truth, whole, float32, float64, text, bin, list, map, extension, Msgs, no_items, item, Pairs, no_pairs, pair}
use Rattle.rmp_wire.specs.Spelling.{SpelledBy, AllSpelledBy, PairsSpelledBy, Spells}
use Rattle.rmp_wire.specs.declared.head.Head.{Head}
use Rattle.rmp_wire.specs.declared.head.Head.TheVariants.{Nil, Truth, Whole, F32Bits, F64Bits, Text, Bin, Array, Map, Ext}
use Rattle.rmp_wire.proofs.Canon.{canon_is_head, head_fits}
use Rattle.rmp_wire.proofs.Canonical.{canonical_head_made, canonical_head_is}
use Rattle.rmp_wire.proofs.Heads.{heads_differ}
use Rattle.rmp_wire.proofs.Unique.{spelled_once}

-- ---- where more heads are allowed, more is spelled

module _ (p q : Head → List ℕ → Type 0) (wider : (h : Head) (b : List ℕ) → p h b → q h b) where
  mutual
    pub spelled_wider : (m : Msg) (b : List ℕ) → SpelledBy p b m → SpelledBy q b m
    spelled_wider nil b s = wider Nil b s
    spelled_wider (truth t) b s = wider (Truth t) b s
    spelled_wider (whole z) b s = wider (Whole z) b s
    spelled_wider (float32 n) b s = wider (F32Bits n) b s
    spelled_wider (float64 n) b s = wider (F64Bits n) b s
    spelled_wider (text t) b s = record {
      first = s.first;
      second = s.second;
      is_first = wider _ s.first s.is_first;
      is_second = s.is_second;
      is_whole = s.is_whole;
    }
    spelled_wider (bin t) b s = record {
      first = s.first;
      second = s.second;
      is_first = wider _ s.first s.is_first;
      is_second = s.is_second;
      is_whole = s.is_whole;
    }
    spelled_wider (list ms) b s = record {
      first = s.first;
      second = s.second;
      is_first = wider _ s.first s.is_first;
      is_second = all_wider ms s.second
          s.is_second;
      is_whole = s.is_whole;
    }
    spelled_wider (map ps) b s = record {
      first = s.first;
      second = s.second;
      is_first = wider _ s.first s.is_first;
      is_second = pairs_wider ps s.second
          s.is_second;
      is_whole = s.is_whole;
    }
    spelled_wider (extension tag t) b s = record {
      first = s.first;
      second = s.second;
      is_first = wider _ s.first s.is_first;
      is_second = s.is_second;
      is_whole = s.is_whole;
    }

    pub all_wider : (ms : Msgs) (b : List ℕ) → AllSpelledBy p b ms → AllSpelledBy q b ms
    all_wider no_items b s = s
    all_wider (item m ms) b s = record {
      first = s.first;
      second = s.second;
      is_first = spelled_wider m s.first s.is_first;
      is_second = all_wider ms
          s.second s.is_second;
      is_whole = s.is_whole;
    }

    pub pairs_wider : (ps : Pairs) (b : List ℕ) → PairsSpelledBy p b ps → PairsSpelledBy q b ps
    pairs_wider no_pairs b s = s
    pairs_wider (pair k v ps) b s = record {
      first = s.first;
      second = s.second;
      is_first = spelled_wider k s.first s.is_first;
      is_second = record {
        first = s.is_second.first;
        second = s.is_second.second;
        is_first = spelled_wider v s.is_second.first s.is_second.is_first;
        is_second = pairs_wider ps s.is_second.second s.is_second.is_second;
        is_whole = s.is_second.is_whole;
      };
      is_whole = s.is_whole;
    }

-- ---- both kinds of reading

-- a head is one of some width
pub any_width : (strict : Bool) (h : Head) (b : List ℕ) → heads_of strict h b → IsHead h b
any_width false h b i = i
any_width true h b i = i.is_head

-- a canonical head is one, whichever heads are allowed
pub canon_in : (strict : Bool) (h : Head) → fits_head h → heads_of strict h (canon_head h)
canon_in false h f = canon_is_head h f
canon_in true h f = canonical_head_made h f

-- what is spelled is spelled in some widths
pub spells_any : (strict : Bool) (m : Msg) (b : List ℕ) → SpellsAs strict b m → Spells b m
spells_any strict = spelled_wider (heads_of strict) IsHead (any_width strict)

-- ---- what the test of a head says

-- after its first byte a head is determined
same_after : (h : Head) (b : ℕ) (x y : List ℕ) → IsHead h (b ∷ x) → canon_head h ≡ b ∷ y → b ∷ x ≡ canon_head h
unfolding IsHead canon_head
same_after Nil b x y i e = i
same_after (Truth false) b x y i e = i
same_after (Truth true) b x y i e = i
same_after (Whole (pos n)) b x y i e = grind (arith, nat_tests)
same_after (Whole (negsuc n)) b x y i e = grind (arith, nat_tests)
same_after (F32Bits n) b x y i e = i.1
same_after (F64Bits n) b x y i e = i.1
same_after (Text n) b x y i e = grind (arith, nat_tests)
same_after (Bin n) b x y i e = grind (arith, nat_tests)
same_after (Array n) b x y i e = grind (arith, nat_tests)
same_after (Map n) b x y i e = grind (arith, nat_tests)
same_after (Ext n tag) b x y i e = grind (arith, nat_tests)

opened_by : (b : ℕ) (xs : List ℕ) → Opens b xs → (y : List ℕ) × (xs ≡ b ∷ y)
opened_by b [] o = absurd o
opened_by b (c ∷ y) o = (y, ap (λ z. z ∷ y) (sym o))

-- a head whose first byte opens the canonical one is that one
pub test_passed : (h : Head) (b : ℕ) (x : List ℕ) → IsHead h (b ∷ x) → Opens b (canon_head h) → IsCanonicalHead h (b ∷ x)
test_passed h b x i o =
    let y = opened_by b (canon_head h) o in
    subst (IsCanonicalHead h) (sym (same_after h b x y.0 i y.1)) (canonical_head_made h (head_fits h (b ∷ x) i))

-- and any other is not
pub test_failed : (h : Head) (b : ℕ) (x : List ℕ) → IsCanonicalHead h (b ∷ x) → Opens b (canon_head h)
test_failed h b x c = subst (Opens b) (canonical_head_is h (b ∷ x) c).1 refl

-- At most one beginning of an input spells a message, and one message.
pub spelled_once_as : (strict : Bool) (m n : Msg) (a b x y : List ℕ) → SpellsAs strict a m → SpellsAs strict b n → a ++ x ≡ b ++ y → (a ≡ b) × (m ≡ n) × (x ≡ y)
spelled_once_as strict m n a b x y p q e = spelled_once m n a b x y (spells_any strict m a p) (spells_any strict n b q) e

-- No head begins a different head.
pub heads_differ_as : (strict : Bool) (h k : Head) (a b x y : List ℕ) → heads_of strict h a → heads_of strict k b → a ++ x ≡ b ++ y → (h ≡ k) × (a ≡ b) × (x ≡ y)
heads_differ_as strict h k a b x y p q e = heads_differ h k a b x y (any_width strict h a p) (any_width strict k b q) e
