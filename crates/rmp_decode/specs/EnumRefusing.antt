-- Which error the read of an enum answers, by those of its variants' contents.
use Rattle.std.specs.Prelude.{◌≡◌, ◌⊎◌, ℕ, zero, suc, List, [], ◌∷◌, Option}
use Rattle.rmp_decode.specs.Exact.{RefusesExactly}
use Rattle.rmp_decode.specs.MapRefusing.{OpenedMap}
use Rattle.rmp_decode.specs.Refusing.{Setting, Refusals, AfterMessage}
use Rattle.rmp_decode.specs.VariantNames.{IsPlace}
use Rattle.rmp_decode.specs.Variants.{RefusesVariantOf, not_unit}
use Rattle.rmp_decode.specs.declared.error.Error.{Error}
use Rattle.rmp_decode.specs.declared.error.Error.TheVariants.{Syntax}
use Rattle.rmp_decode.specs.declared.text.Text.TheVariants.{InvalidType}

-- How a variant is refused whose name was read: where its name is alone, and where it has content.
pub record Choice : Type 1 where
  pub alone : Error → Type 0
  pub content : Setting → Refusals

-- a variant without content: its name alone isn't refused, and content that isn't nil is
abbrev pub no_content : Choice
no_content = record { alone = λ e. ⊥; content = λ s. RefusesExactly s.strict not_unit }

-- a variant with content that is refused so: it is wanted, too
abbrev pub with_content : (Setting → Refusals) → Choice
with_content P = record { alone = λ e. e ≡ Syntax InvalidType; content = P }

-- the variant at a place, of which there are these
abbrev pub choice_at : List Choice → ℕ → Choice
choice_at [] n = record { alone = λ e. ⊥; content = λ s before after known e. ⊥ }
choice_at (c ∷ cs) zero = c
choice_at (c ∷ cs) (suc n) = choice_at cs n

-- the name of a variant is alone, and content was wanted
abbrev pub RefusesAlone : List (List ℕ) → List Choice → Setting → Option (List ℕ) → Error → Type 0
RefusesAlone names cs s known e = (n : ℕ) × AfterMessage s (λ k. IsPlace names k n) (λ rest e. (choice_at cs n).alone e) known e

-- the name of a variant is the key of a pair, and its content is refused
abbrev pub RefusesAfterName : List (List ℕ) → List Choice → Setting → Refusals
RefusesAfterName names cs s before after known e =
    (n : ℕ) × AfterMessage s (λ k. IsPlace names k n) ((choice_at cs n).content s before after) known e

-- How an enum is refused: the message selects no variant, or its name alone one that wants content, or the content is refused.
unfoldable pub RefusesEnum : List (List ℕ) → List Choice → Setting → Refusals
RefusesEnum names cs s before after known e =
    RefusesVariantOf names s before after known e
    ⊎ RefusesAlone names cs s known e
    ⊎ OpenedMap s (λ i many rest e. (many ≡ 1) × RefusesAfterName names cs i before after rest e) known e
