use Rattle.rmp_decode.proofs.FieldRows.{no_field_row}
use Rattle.rmp_decode.proofs.access.fields.UnitFields.row.Goals as goal

pub returns-clause-ok : goal.returns-clause-ok
returns-clause-ok g c = λ y. no_field_row g.R.Source c.args._de.now c.requires.ready c.requires.clean
