use Rattle.rmp_decode.proofs.de.lists.read_queue.Goals as goal

pub returns-in-Ok : goal.returns-in-Ok
returns-in-Ok g c = rw c.from.ensures.0 c.in-Ok.ensures
