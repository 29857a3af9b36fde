use Rattle.std.proofs.Common.{◌≡◌, ◌∙◌, sym, ℕ, List, Bool, true, false, rules}
use Rattle.std.proofs.lemmas.Bool.{true≢false}
use Rattle.rmp_wire.specs.Canonical.{IsCanonicalHead, heads_of}
use Rattle.rmp_wire.specs.Heads.{IsHead}
use Rattle.rmp_wire.specs.Taking.{byte_of}
use Rattle.rmp_wire.specs.declared.head.Head.{Head}
use Rattle.rmp_wire.proofs.Canon.{head_fits}
use Rattle.rmp_wire.proofs.Strict.{test_passed, test_failed}
use Rattle.rmp_decode.proofs.deserializer.heads.allows.Goals as goal

in_strict : (s : Bool) (h : Head) (b : List ℕ) → s ≡ true → IsCanonicalHead h b → heads_of s h b
in_strict true h b e i = i
in_strict false h b e i = absurd (cc)

of_strict : (s : Bool) (h : Head) (b : List ℕ) → s ≡ true → heads_of s h b → IsCanonicalHead h b
of_strict true h b e i = i
of_strict false h b e i = absurd (cc)

pub returns-else-not-strict-clause-allowed : goal.returns-else-not-strict-clause-allowed
returns-else-not-strict-clause-allowed c = λ t rest i. in_strict _ _ _ (search rules)
    (test_passed _ (byte_of c.args.marker) rest i ((c.is_canonical.ensures.canonical (head_fits _ _ i)).0 t))

pub returns-else-not-strict-clause-other : goal.returns-else-not-strict-clause-other
returns-else-not-strict-clause-other c = λ f rest i.
    let k = of_strict _ _ _ (search rules) i in
    let t : c.is_canonical.result ≡ true = (c.is_canonical.ensures.canonical (head_fits _ _ k.is_head)).1 (test_failed _ (byte_of c.args.marker) rest k) in
    absurd (true≢false (sym t ∙ f))

lenient : (s : Bool) (h : Head) (b : List ℕ) → s ≡ false → IsHead h b → heads_of s h b
lenient false h b e i = i
lenient true h b e i = absurd (cc)

pub returns-then-not-strict-clause-allowed : goal.returns-then-not-strict-clause-allowed
returns-then-not-strict-clause-allowed c = λ t rest i. lenient _ _ _ (search rules) i
