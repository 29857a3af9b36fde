-- What arguments ask for.
use Rattle.std.specs.Prelude.{◌≡◌, ◌⊎◌, ℕ, Bool, true, false, List, [], ◌∷◌, codes}
use Rattle.canon_lines.specs.declared.show.Form.{Form}
use Rattle.canon_lines.specs.declared.show.Form.TheVariants.{Line, Indented}

-- these arguments, without the program's name, ask for lines of hex or for bytes, and for this form
abbrev pub Asks : List (List ℕ) → Bool → Form → Type 0
Asks arguments false Line = arguments ≡ []
Asks arguments true Line = arguments ≡ codes "--hex" ∷ []
Asks arguments false Indented = arguments ≡ codes "--pretty" ∷ []
Asks arguments true Indented = (arguments ≡ codes "--hex" ∷ codes "--pretty" ∷ []) ⊎ (arguments ≡ codes "--pretty" ∷ codes "--hex" ∷ [])
