use Rattle.std.proofs.Common.{refl, ap, Ok}
use Rattle.rmp_c.proofs.Answers.{one_whole, one_fault, never_both, never_found}
use Rattle.rmp_c.proofs.check.rmp_check.Goals as goal

pub returns-in-Ok-Whole-clause-finds_whole : goal.returns-in-Ok-Whole-clause-finds_whole
returns-in-Ok-Whole-clause-finds_whole c = λ n w. (refl, one_whole _ _ n (ap Ok c.in-Ok-Whole.field-0-is) ((c.in-Ok-Whole.ensures.whole n).1 w))

pub returns-in-Ok-Whole-clause-finds_fault : goal.returns-in-Ok-Whole-clause-finds_fault
returns-in-Ok-Whole-clause-finds_fault c = λ p f. absurd
    (never_both _ c.in-Ok-Whole.len p (ap Ok c.in-Ok-Whole.field-0-is) ((c.in-Ok-Whole.ensures.fault p).1 f))

pub returns-in-Ok-Fault-clause-finds_whole : goal.returns-in-Ok-Fault-clause-finds_whole
returns-in-Ok-Fault-clause-finds_whole c = λ n w. absurd
    (never_both _ n c.in-Ok-Fault.at ((c.in-Ok-Fault.ensures.whole n).1 w) (ap Ok c.in-Ok-Fault.field-0-is))

pub returns-in-Ok-Fault-clause-finds_fault : goal.returns-in-Ok-Fault-clause-finds_fault
returns-in-Ok-Fault-clause-finds_fault c = λ p f. (refl, one_fault _ _ p (ap Ok c.in-Ok-Fault.field-0-is) ((c.in-Ok-Fault.ensures.fault p).1 f))

pub returns-in-Err-clause-finds_whole : goal.returns-in-Err-clause-finds_whole
returns-in-Err-clause-finds_whole c = λ n w. absurd (never_found _ c.in-Err.e _ refl ((c.in-Err.ensures.whole n).1 w))

pub returns-in-Err-clause-finds_fault : goal.returns-in-Err-clause-finds_fault
returns-in-Err-clause-finds_fault c = λ p f. absurd (never_found _ c.in-Err.e _ refl ((c.in-Err.ensures.fault p).1 f))
