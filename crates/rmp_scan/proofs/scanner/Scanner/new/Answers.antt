-- A message is wanted at first.
use Rattle.std.proofs.Common.{refl, ap}
use Rattle.rmp_scan.proofs.Scanning.{fresh}
use Rattle.rmp_scan.proofs.scanner.Scanner.new.Goals as goal

pub returns-clause-after : goal.returns-clause-after
returns-clause-after c = fresh _ refl refl (ap (λ z. z.next) c.new.ensures, ap (λ z. z.messages) c.new.ensures)
