use Rattle.std.proofs.Common.{◌≡◌, ◌∙◌, Some, sym}
use Rattle.std.specs.BTreeMap.{get_by}
use Rattle.std.specs.Cmp.Lexicographic.{slice_cmp}
use Rattle.std.specs.Map.{KeepsOthers}
use Rattle.std.specs.Ordering.{is_eq, nat_cmp}
use Rattle.std.proofs.lemmas.Bool.{false_from_ne_true}
use Rattle.rmp_wire.specs.Spelling.{canon}
use Rattle.example_cache.proofs.Keys.{at_tree, differ_from, same_bytes, same_order}
use Rattle.example_cache.proofs.cache.Cache.put.Goals as goal

pub returns-in-Ok-clause-same : goal.returns-in-Ok-clause-same
returns-in-Ok-clause-same g c =
    at_tree _ _ (λ k. get_by (λ key. slice_cmp nat_cmp k key.items) c.insert.new.self ≡ Some c.args.answer) c.in_ok-key.ensures.bytes
    c.in-Ok.ensures.updates.1

pub returns-in-Ok-clause-others : goal.returns-in-Ok-clause-others
unfolding KeepsOthers
returns-in-Ok-clause-others g c = λ n fits ne.
    let far = differ_from _ _ n c.in_ok-key.ensures.bytes fits ne in
    c.in-Ok.ensures.updates.3 (λ key. is_eq (slice_cmp nat_cmp (canon n) key.items))
    (λ x y e. same_order (canon n) x.items y.items (same_bytes (canon n) x.items e))
    (λ k e. false_from_ne_true _ (λ o. far (same_bytes c.in_ok-key.key.items k.items e ∙ sym (same_bytes (canon n) k.items o))))
