use Rattle.rmp_round_trip.proofs.InTurn.{turns_only, turns_read}
use Rattle.rmp_round_trip.proofs.turns.messages_in_turn.Goals as goal

pub returns-clause-read : goal.returns-clause-read
returns-clause-read c = λ s ds bs x room. turns_read s room ds bs x

pub returns-clause-only : goal.returns-clause-only
returns-clause-only c = λ s ds bs x room. turns_only s room ds bs x
