use Rattle.std.proofs.Common.{string_bytes}
use Rattle.std.proofs.lemmas.List.{append-nil}
use Rattle.rmp_c.proofs.path.rmp_path.Goals as goal

pub returns-clause-written : goal.returns-clause-written
returns-clause-written c = λ z.
    (string_bytes c.in-Ok.path, c.in-Ok.ensures, rw (append-nil, c.as_bytes.ensures.value) at (c.put.ensures.written z))

pub returns-clause-short : goal.returns-clause-short
returns-clause-short c = λ z.
    (string_bytes c.in-Ok.path, c.in-Ok.ensures, rw (append-nil, c.as_bytes.ensures.value) at (c.put.ensures.short z))
