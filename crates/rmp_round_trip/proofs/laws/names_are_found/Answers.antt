use Rattle.rmp_round_trip.proofs.Evolution.{names_found, struct_found}
use Rattle.rmp_round_trip.proofs.laws.names_are_found.Goals as goal

pub returns-clause-found : goal.returns-clause-found
returns-clause-found c = names_found

pub returns-clause-read : goal.returns-clause-read
returns-clause-read c = struct_found
