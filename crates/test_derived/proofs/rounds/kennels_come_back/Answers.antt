use Rattle.test_derived.proofs.rounds.kennels_come_back.Goals as goal

pub returns : goal.returns
returns g c = c.written_is_read.ensures.read (λ e. cc)
