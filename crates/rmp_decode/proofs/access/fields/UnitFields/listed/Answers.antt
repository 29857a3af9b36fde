use Rattle.rmp_decode.proofs.Fields.{no_field_listed}
use Rattle.rmp_decode.proofs.access.fields.UnitFields.listed.Goals as goal

pub returns-clause-ok : goal.returns-clause-ok
returns-clause-ok g c = no_field_listed g.R.Source c.args._seq.now c.requires
