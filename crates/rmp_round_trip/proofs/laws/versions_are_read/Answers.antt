use Rattle.rmp_round_trip.proofs.Evolution.{version_begins, version_reads, version_strict}
use Rattle.rmp_round_trip.proofs.laws.versions_are_read.Goals as goal

pub returns-clause-read : goal.returns-clause-read
returns-clause-read c = version_begins

pub returns-clause-strict : goal.returns-clause-strict
returns-clause-strict c = version_strict

pub returns-clause-exact : goal.returns-clause-exact
returns-clause-exact c = version_reads
