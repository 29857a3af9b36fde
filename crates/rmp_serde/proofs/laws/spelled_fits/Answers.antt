use Rattle.rmp_wire.proofs.Spellings.{spells_fits, spells_bytes}
use Rattle.rmp_serde.proofs.laws.spelled_fits.Goals as goal

pub returns-clause-fits : goal.returns-clause-fits
returns-clause-fits c = λ b m. spells_fits m b

pub returns-clause-bytes : goal.returns-clause-bytes
returns-clause-bytes c = λ b m. spells_bytes m b
