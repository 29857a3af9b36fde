use Rattle.std.proofs.Common.{◌≡◌, option_copied}
use Rattle.std.specs.BTreeMap.{get_by}
use Rattle.std.specs.Cmp.Lexicographic.{slice_cmp}
use Rattle.std.specs.Ordering.{nat_cmp}
use Rattle.example_cache.proofs.Keys.{at_tree}
use Rattle.example_cache.proofs.cache.Cache.get.Goals as goal

pub returns-clause-answer : goal.returns-clause-answer
returns-clause-answer g c =
    at_tree _ _ (λ k. option_copied c.get.result ≡ get_by (λ key. slice_cmp nat_cmp k key.items) c.args.self.now.answers) c.in_ok-key.ensures.bytes
    (rw c.as_slice.ensures.value at c.get.ensures.value)
