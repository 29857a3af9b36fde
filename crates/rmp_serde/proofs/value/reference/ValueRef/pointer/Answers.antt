use Rattle.std.proofs.Common.{◌≡◌, None, option_map, option_and_then, sym, ap, ◌∙◌, arith, rules}
use Rattle.std.proofs.lemmas.Str.Pattern.{strip_prefix_char, split_parts}
use Rattle.rmp_serde.specs.Found.{followed, between_slashes}
use Rattle.rmp_serde.specs.Parts.{tree}
use Rattle.rmp_serde.proofs.Pointers.{no_pointer, one_followed, last_followed}
use Rattle.rmp_serde.proofs.value.reference.ValueRef.pointer.Goals as goal

pub returns-in_err-rest : goal.returns-in_err-rest
returns-in_err-rest c =
    let p = c.args.pointer.now in
    let gone : c.from_residual.result ≡ None = grind arith in
    let other = rw c.in_err-rest.was at (strip_prefix_char 47 p c.strip_prefix.result c.strip_prefix.ensures.cases (omega arith)) in
    record { part = ap (option_map tree) gone ∙ sym (no_pointer p (tree c.args.self) (grind arith) other) }

pub returns-in_err-part : goal.returns-in_err-part
returns-in_err-part c =
    let l = c.loop-token in
    let cut = rw c.in-Some.is at (split_parts 47 l.rest.now c.split_once.result c.split_once.ensures.cases (omega arith)) in
    let gone : c.from_residual-in_err-part.result ≡ None = grind arith in
    let turn = l.invariant.0 ∙ one_followed l.rest.now _ _ (tree l.part) cut.0 cut.1 in
    let none = ap (option_and_then (λ n. followed n (between_slashes c.in-Some.more.now))) (sym c.in_err-part.ensures.part) in
    record { part = ap (option_map tree) gone ∙ sym (turn ∙ none) }

pub loop-token-preserved : goal.loop-token-preserved
loop-token-preserved c =
    let l = c.loop-token in
    let cut = rw c.in-Some.is at (split_parts 47 l.rest.now c.split_once.result c.split_once.ensures.cases (omega arith)) in
    let turn = l.invariant.0 ∙ one_followed l.rest.now _ _ (tree l.part) cut.0 cut.1 in
    (turn ∙ ap (option_and_then (λ n. followed n (between_slashes c.in-Some.more.now))) (sym c.in_ok-part.ensures.part), search rules)

pub returns : goal.returns
returns c =
    let l = c.loop-token in
    let none = rw c.in_default.is at (split_parts 47 l.rest.now c.split_once.result c.split_once.ensures.cases (omega arith)) in
    record { part = c.named-2.ensures.part ∙ sym (l.invariant.0 ∙ last_followed l.rest.now (tree l.part) none) }
