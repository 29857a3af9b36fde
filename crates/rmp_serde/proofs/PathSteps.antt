-- Steps of turns, one after another, and the texts of keys.
use Rattle.std.proofs.Common.{◌≡◌, ◌∙◌, sym, ap, subst, ℕ, ◌+◌, ◌<◌, List, [], ◌∷◌, ◌++◌, length, take, get_or, Some}
use Rattle.std.proofs.lemmas.List.{take_more}
use Rattle.rmp_wire.specs.Msg.{Msg, nil, truth, whole, float32, float64, text, bin, list, map, extension}
use Rattle.rmp_path.specs.declared.turn.Turn.{Turn}
use Rattle.rmp_serde.specs.Parts.{text_of}
use Rattle.rmp_serde.specs.Paths.{IsStep, AreSteps}
use Rattle.rmp_serde.specs.declared.path.Step.{Step}

pub steps_more : (input : List ℕ) (ts : List Turn) (ss : List Step) (t : Turn) (s : Step) → AreSteps input ts ss → IsStep input t s
    → AreSteps input (ts ++ t ∷ []) (ss ++ s ∷ [])
steps_more input [] [] t s h k = (k, tt)
steps_more input [] (r ∷ ss) t s h k = absurd h
steps_more input (u ∷ ts) [] t s h k = absurd h
steps_more input (u ∷ ts) (r ∷ ss) t s h k = (h.0, steps_more input ts ss t s h.1 k)

pub is_text : (m : Msg) (s : List ℕ) → Some s ≡ text_of m → m ≡ text s
is_text nil s e = absurd (cc)
is_text (truth t) s e = absurd (cc)
is_text (whole z) s e = absurd (cc)
is_text (float32 n) s e = absurd (cc)
is_text (float64 n) s e = absurd (cc)
is_text (text k) s e = cc
is_text (bin k) s e = absurd (cc)
is_text (list ms) s e = absurd (cc)
is_text (map ps) s e = absurd (cc)
is_text (extension tag k) s e = absurd (cc)

pub steps_next : (input : List ℕ) (ts : List Turn) (i : ℕ) (ss : List Step) (d : Turn) (s : Step) → i < length ts → AreSteps input (take i ts) ss
    → IsStep input (get_or ts i d) s → AreSteps input (take (i + 1) ts) (ss ++ s ∷ [])
steps_next input ts i ss d s l h k = subst (λ z. AreSteps input z (ss ++ s ∷ [])) (sym (take_more ts i d l))
    (steps_more input (take i ts) ss (get_or ts i d) s h k)
