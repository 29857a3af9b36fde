use Rattle.std.proofs.Common.{refl, true}
use Rattle.rmp_wire.proofs.Canonical.{canonical_iff}
use Rattle.rmp_wire.proofs.Strict.{spells_any}
use Rattle.rmp_wire.proofs.Unique.{spelled_once}
use Rattle.rmp_wire.specs.Spelling.{canon}
use Rattle.rmp_serde.proofs.laws.strict_reading.Goals as goal

pub returns-clause-lenient : goal.returns-clause-lenient
returns-clause-lenient c = λ b m s. spells_any true m b s

pub returns-clause-one : goal.returns-clause-one
returns-clause-one c = λ a b x y m n s t e. spelled_once m n a b x y (spells_any true m a s) t e

pub returns-clause-written : goal.returns-clause-written
returns-clause-written c = λ m f. (canonical_iff (canon m) m).1 (f, refl)
