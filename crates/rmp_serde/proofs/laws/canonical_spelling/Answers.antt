use Rattle.rmp_wire.proofs.Canonical.{canonical_iff}
use Rattle.rmp_wire.proofs.Spellings.{canon_spells, canon_least}
use Rattle.rmp_serde.proofs.laws.canonical_spelling.Goals as goal

pub returns-clause-one : goal.returns-clause-one
returns-clause-one c = canonical_iff

pub returns-clause-spells : goal.returns-clause-spells
returns-clause-spells c = canon_spells

pub returns-clause-least : goal.returns-clause-least
returns-clause-least c = λ b m. canon_least m b
