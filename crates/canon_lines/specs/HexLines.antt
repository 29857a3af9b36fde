-- What lines of hex print for people.
use Rattle.std.specs.Prelude.{◌≡◌, ℕ, suc, Bool, true, ◌&&◌, ◌⊎◌, List, [], ◌∷◌, ◌++◌, Option, Some, Result, Ok, Err}
use Rattle.std.specs.Option.{is_none}
use Rattle.hex.specs.Hex.{decode_of}
use Rattle.hex.specs.declared.error.FromHexError.{FromHexError}
use Rattle.canon_lines.specs.Complaints.{in_line, told_of}
use Rattle.canon_lines.specs.Lines.{digits_in}
use Rattle.canon_lines.specs.Shows.{Shows, StartsShowing}
use Rattle.canon_lines.specs.declared.show.Form.{Form}
use Rattle.canon_lines.specs.declared.show.complaint.Complaint.{Complaint}
use Rattle.canon_lines.specs.declared.show.complaint.Complaint.TheVariants.{NoHex}
use Rattle.canon_lines.specs.declared.show.refused.Refused.{Refused}

-- what a line of this number prints, and why it prints no more, by its bytes, if it is hex
abbrev pub ShowsDecoded : Form → ℕ → Result (List ℕ) FromHexError → List ℕ → Option Complaint → Type 0
ShowsDecoded form n (Ok bytes) out complaint = (refused : Option Refused) × Shows form bytes out refused × (complaint ≡ in_line n refused)
ShowsDecoded form n (Err e) out complaint = (out ≡ []) × (complaint ≡ Some (NoHex n))

unfoldable pub ShowsLine : Form → ℕ → List ℕ → List ℕ → Option Complaint → Type 0
ShowsLine form n text out complaint = ShowsDecoded form n (decode_of (digits_in text)) out complaint

-- what a line prints, and on the errors why it prints no more, and then what the following lines print
pub record LineThen (P : List ℕ → Option Complaint → Type 0) (Q : List ℕ → List ℕ → Bool → Type 0) (out told : List ℕ) (accepted : Bool) : Type 0 where
  pub first : List ℕ
  pub second : List ℕ
  pub complaint : Option Complaint
  pub second_told : List ℕ
  pub second_accepted : Bool
  pub prints_first : P first complaint
  pub prints_second : Q second second_told second_accepted
  pub printed : out ≡ first ++ second
  pub told_is : told ≡ told_of complaint ++ second_told
  pub both : accepted ≡ (is_none complaint && second_accepted)

-- what lines print, of which the first has this number, and whether all their messages can be read
unfoldable pub ShowsAll : Form → ℕ → List (List ℕ) → List ℕ → List ℕ → Bool → Type 0
ShowsAll form n [] out told accepted = (out ≡ []) × (told ≡ []) × (accepted ≡ true)
ShowsAll form n (text ∷ texts) out told accepted = LineThen (ShowsLine form n text) (ShowsAll form (suc n) texts) out told accepted

-- what a line prints if the run ends early
abbrev pub StartsDecoded : Form → Result (List ℕ) FromHexError → List ℕ → Type 0
StartsDecoded form (Ok bytes) out = StartsShowing form bytes out
StartsDecoded form (Err e) out = out ≡ []

unfoldable pub StartsLine : Form → List ℕ → List ℕ → Type 0
StartsLine form text out = (out ≡ []) ⊎ StartsDecoded form (decode_of (digits_in text)) out

-- what the first of some lines prints if the run ends early
abbrev pub StartsFirst : Form → List (List ℕ) → List ℕ → Type 0
StartsFirst form [] out = out ≡ []
StartsFirst form (text ∷ texts) out = StartsLine form text out

-- What lines print if the run ends early: the first ones print all of theirs, and the next one a beginning of it.
pub record StartsLines (form : Form) (texts : List (List ℕ)) (out : List ℕ) : Type 0 where
  pub before : List (List ℕ)
  pub following : List (List ℕ)
  pub split : texts ≡ before ++ following
  pub first : List ℕ
  pub second : List ℕ
  pub told : List ℕ
  pub accepted : Bool
  pub prints : ShowsAll form 1 before first told accepted
  pub next : StartsFirst form following second
  pub printed : out ≡ first ++ second
