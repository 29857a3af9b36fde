-- Two values that were written are equal exactly if they spell the same tree.
use Rattle.std.proofs.Common.{◌≡◌, ℕ, List, Some, sym, ◌∙◌, ap, subst}
use Rattle.std.specs.Prelude.{◌↔◌}
use Rattle.rmp_wire.specs.Msg.{Msg}
use Rattle.rmp_wire.specs.Spelling.{Spells, canon}
use Rattle.rmp_encode.specs.Calls.{IsSpelled}
use Rattle.rmp_encode.specs.Trees.{tree_of}
use Rattle.rmp_encode.specs.declared.settings.Settings.{Settings}
use Rattle.rmp_serde.specs.Read.{reads_value}
use Rattle.rmp_serde.specs.ValueData.{value_data}
use Rattle.rmp_serde.proofs.Lowering.{value_spelled, value_only}

pub values_equal : (s t : Settings) (m n v w : Msg) (c d : List ℕ) → reads_value m v → reads_value n w → IsSpelled (tree_of s (Some (value_data v))) c
    → IsSpelled (tree_of t (Some (value_data w))) d → (c ≡ d) ↔ (m ≡ n)
values_equal s t m n v w c d h k i j = (
  (λ e. sym h.0 ∙ sym (value_only s v w c i (subst (λ z. Spells z w) (sym e) (subst (Spells d) (only_tree t w d j) j.spells))) ∙ k.0),
  (λ e. value_spelled s v c i ∙ ap canon (h.0 ∙ e ∙ sym k.0) ∙ sym (value_spelled t w d j)),
)
  where
    only_tree : (t : Settings) (w : Msg) (d : List ℕ) (j : IsSpelled (tree_of t (Some (value_data w))) d) → j.tree ≡ w
    only_tree t w d j = value_only t w j.tree d j j.spells

pub values_again : (s t : Settings) (m n v w : Msg) (c d : List ℕ) → reads_value m v → IsSpelled (tree_of s (Some (value_data v))) c → Spells c n
    → reads_value n w → IsSpelled (tree_of t (Some (value_data w))) d → (n ≡ m) × (d ≡ c)
values_again s t m n v w c d h i k r j =
    let same = value_only s v n c i k in
    (same ∙ h.0, value_spelled t w d j ∙ ap canon (r.0 ∙ same) ∙ sym (value_spelled s v c i))
