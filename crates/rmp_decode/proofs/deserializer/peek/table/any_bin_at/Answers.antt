use Rattle.std.proofs.Common.{subst, false}
use Rattle.rmp_decode.specs.BufferedHeads.{HeadIn}
use Rattle.rmp_decode.proofs.deserializer.peek.table.any_bin_at.Goals as goal

pub returns-in-Some-as_bin : goal.returns-in-Some-as_bin
returns-in-Some-as_bin c = subst (λ h. HeadIn false c.in-Some.len h c.args.front.now) c.in-Some-as_bin.ensures c.in-Some.ensures
