use Rattle.rmp_serde.proofs.Wanted.{one_length, one_place, whole_or_fault}
use Rattle.rmp_serde.proofs.laws.one_canonical_answer.Goals as goal

pub returns : goal.returns
returns c = record { whole = one_length; fault = one_place; never_both = whole_or_fault }
