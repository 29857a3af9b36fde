use Rattle.std.proofs.Common.{◌≡◌, refl, rules, [], Option, None, Some, List, ℕ}
use Rattle.rmp_decode.specs.Skip.{Passes}
use Rattle.rmp_decode.proofs.Payloads.{pull_read}
use Rattle.rmp_decode.proofs.deserializer.skip.pass_payload.Goals as goal

-- no byte is what passes as none
passes_nothing : (known : Option (List ℕ)) → Passes 0 known known
passes_nothing None = record { bytes = []; long = refl; are_bytes = tt; taken = tt }
passes_nothing (Some xs) = record { bytes = []; long = refl; are_bytes = tt; taken = refl }

pub returns-in-0-clause-passes : goal.returns-in-0-clause-passes
returns-in-0-clause-passes g c =
    let none : c.args.len ≡ 0 = search rules in
    pull_read g.R.Source _ _ _ _ _ _ (rw none (passes_nothing (g.R.Source.ahead c.args.reader.now))) refl refl
