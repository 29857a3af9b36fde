use Rattle.example_frames.specs.declared.request.Request.TheVariants.{Ping, Get, Put}
use Rattle.example_frames.proofs.Requests.{ping_is, get_is, put_is, ping_texts, get_texts, put_texts}
use Rattle.example_frames.proofs.frames.written_as.Goals as goal

pub returns-clause-tree : goal.returns-clause-tree
returns-clause-tree c Ping = ping_is
returns-clause-tree c (Get n) = get_is n
returns-clause-tree c (Put n v) = put_is n v

pub returns-clause-texts : goal.returns-clause-texts
returns-clause-texts c Ping is = ping_texts
returns-clause-texts c (Get n) is = get_texts n
returns-clause-texts c (Put n v) is = put_texts n v is.1.1
