-- By what `message_len` says of the bytes from the offset on.
use Rattle.std.proofs.Common.{refl, sym, arith, ◌≡◌, ◌∙◌, ap, subst, Ok, Some}
use Rattle.rmp_scan.specs.Scans.{MessageEnds}
use Rattle.rmp_c.proofs.Skips.{end_within, ends_at, ends_nowhere, not_empty, has_none}
use Rattle.rmp_c.proofs.skip.rmp_skip.Goals as goal

pub overflow_add-next : goal.overflow_add-next
overflow_add-next c =
    let is : c.message_len.result ≡ Ok (Some c.in-Ok-Some.len) = c.in-Ok-Some.is ∙ ap Ok c.in-Ok-Some.field-0-is in
    let m = subst (λ xs. MessageEnds xs c.in-Ok-Some.len) c.bytes_from-rest.ensures ((c.message_len.ensures.whole c.in-Ok-Some.len).0 is) in
    let within = end_within c.args.bytes.now c.args.at c.in-Ok-Some.len m in omega (arith, within)

pub returns-in-Ok-Some-clause-whole : goal.returns-in-Ok-Some-clause-whole
returns-in-Ok-Some-clause-whole c =
    let is : c.message_len.result ≡ Ok (Some c.in-Ok-Some.len) = c.in-Ok-Some.is ∙ ap Ok c.in-Ok-Some.field-0-is in
    let back = sym c.bytes_from-rest.ensures in
    rw back (ends_at _ _ c.message_len.ensures.whole c.message_len.ensures.more _ _ c.args.at c.in-Ok-Some.len refl (omega arith) is)

pub returns-in-Ok-Some-clause-end : goal.returns-in-Ok-Some-clause-end
returns-in-Ok-Some-clause-end c = (
  λ e. absurd (omega (arith, e)),
  λ e. absurd (not_empty _ _ c.message_len.ensures.whole c.message_len.ensures.more (λ n. absurd (cc)) (c.bytes_from-rest.ensures ∙ e)),
)

pub returns-in-Ok-Some-clause-reserved : goal.returns-in-Ok-Some-clause-reserved
returns-in-Ok-Some-clause-reserved c =
    let m = (c.message_len.ensures.whole c.in-Ok-Some.len).0 (c.in-Ok-Some.is ∙ ap Ok c.in-Ok-Some.field-0-is) in (
      λ e. absurd (omega (arith, e)),
      λ n. absurd (n.ends c.in-Ok-Some.len (subst (λ xs. MessageEnds xs c.in-Ok-Some.len) c.bytes_from-rest.ensures m)),
    )

pub returns-in-Ok-None-clause-whole : goal.returns-in-Ok-None-clause-whole
returns-in-Ok-None-clause-whole c =
    let is = c.in-Ok-None.is in
    let none = c.in-Ok-None.field-0-is in
    let back = sym c.bytes_from-rest.ensures in
    rw back (ends_nowhere _ _ c.message_len.ensures.whole c.message_len.ensures.more 1 c.args.next.now c.args.at (λ e. omega (arith, e)) (λ k e. absurd (cc)))

pub returns-in-Ok-None-2-clause-whole : goal.returns-in-Ok-None-2-clause-whole
returns-in-Ok-None-2-clause-whole c =
    let is = c.in-Ok-None-2.is in
    let none = c.in-Ok-None-2.field-0-is in
    let back = sym c.bytes_from-rest.ensures in
    rw back (ends_nowhere _ _ c.message_len.ensures.whole c.message_len.ensures.more 2 c.args.next.now c.args.at (λ e. omega (arith, e)) (λ k e. absurd (cc)))

pub returns-in-Err-clause-whole : goal.returns-in-Err-clause-whole
returns-in-Err-clause-whole c =
    rw c.bytes_from-rest.ensures at
    (ends_nowhere _ _ c.message_len.ensures.whole c.message_len.ensures.more 3 c.args.next.now c.args.at (λ e. omega (arith, e)) (λ k e. absurd (cc)))

pub returns-in-Err-clause-end : goal.returns-in-Err-clause-end
returns-in-Err-clause-end c = (
  λ e. absurd (omega (arith, e)),
  λ e. absurd (not_empty _ _ c.message_len.ensures.whole c.message_len.ensures.more (λ n. absurd (cc)) (c.bytes_from-rest.ensures ∙ e)),
)

pub returns-in-Err-clause-reserved : goal.returns-in-Err-clause-reserved
returns-in-Err-clause-reserved c = (
  λ e. rw c.bytes_from-rest.ensures at
      (has_none _ _ c.message_len.ensures.whole c.message_len.ensures.more (λ k e. absurd (cc)) (λ e. absurd (cc))),
  λ n. refl,
)
