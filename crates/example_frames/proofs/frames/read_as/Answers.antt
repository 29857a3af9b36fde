use Rattle.example_frames.proofs.Requests.{reads_request, reads_it, reads_one}
use Rattle.example_frames.proofs.frames.read_as.Goals as goal

pub returns-clause-reads : goal.returns-clause-reads
unfolding reads_request
returns-clause-reads c = reads_it

pub returns-clause-one : goal.returns-clause-one
unfolding reads_request
returns-clause-one c = reads_one
