-- Why something can't be shown, as text.
use Rattle.std.specs.Prelude.{ℕ, List, [], ◌++◌, Option, None, Some, codes}
use Rattle.std.specs.Fmt.{decimal}
use Rattle.canon_lines.specs.Prints.{line}
use Rattle.canon_lines.specs.Refused.{refused_message}
use Rattle.canon_lines.specs.declared.show.complaint.Complaint.{Complaint}
use Rattle.canon_lines.specs.declared.show.complaint.Complaint.TheVariants.{Input, Line, NoHex}
use Rattle.canon_lines.specs.declared.show.refused.Refused.{Refused}

abbrev pub complaint_text : Complaint → List ℕ
complaint_text (Input r) = refused_message r
complaint_text (Line n r) = codes "line " ++ decimal n ++ codes ", " ++ refused_message r
complaint_text (NoHex n) = codes "line " ++ decimal n ++ codes ": refused: no hex"

-- what is printed of it, if there is a reason
abbrev pub told_of : Option Complaint → List ℕ
told_of None = []
told_of (Some c) = line (complaint_text c)

-- of an input the message that can't be read, if there is one
abbrev pub in_input : Option Refused → Option Complaint
in_input None = None
in_input (Some r) = Some (Input r)

-- the same of a line of hex
abbrev pub in_line : ℕ → Option Refused → Option Complaint
in_line n None = None
in_line n (Some r) = Some (Line n r)
