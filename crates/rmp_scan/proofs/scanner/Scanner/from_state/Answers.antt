use Rattle.std.proofs.Common.{◌≡◌, ◌↔◌, Option, Some, None, rules}
use Rattle.rmp_scan.specs.declared.scanner.Scanner.{Scanner}
use Rattle.rmp_scan.specs.declared.state.State.{State}
use Rattle.rmp_scan.specs.States.{IsStateOf, IsBroken}
use Rattle.rmp_scan.proofs.scanner.Scanner.from_state.Goals as goal

-- a scanner's state isn't broken
is_found : (s : Scanner) (state : State) → IsStateOf s state → ◌≡◌ {A = Option Scanner} (Some s) None ↔ IsBroken state
is_found s state is = (λ e. absurd (cc), λ broken. absurd (broken s is))

pub returns-clause-none : goal.returns-clause-none
returns-clause-none c = is_found _ _ (search rules)
