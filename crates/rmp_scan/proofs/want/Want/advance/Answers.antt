-- Each step goes on from what the ones before it reached.
use Rattle.std.proofs.Common.{arith, ◌≡◌, ◌∙◌, ◌+◌, false, subst, sym}
use Rattle.std.proofs.lemmas.List.{take_rest}
use Rattle.rmp_scan.specs.Completes.{is_whole, Sticks}
use Rattle.rmp_scan.proofs.Stepping.{reaches_start, reaches_more, ends, stays}
use Rattle.rmp_scan.proofs.want.Want.advance.Goals as goal
use Rattle.rmp_scan.proofs.want.Want.advance.Goals.{then-steps-test+else-at-piece, else-steps-test}

pub steps-init : goal.steps-init
steps-init c = record { reaches = reaches_start c.args.self c.args.piece.now; short = omega (arith, c.least.ensures) }

pub returns-then-at-least : goal.returns-then-at-least
returns-then-at-least c =
    let more = reaches_more c.args.self c.steps.want c.in-Some.next c.args.piece.now _ c.steps.at c.in-Some.passed c.steps.invariant.reaches
    (take_rest c.args.piece.now c.steps.at) c.in-Some.ensures in
    record { taken = c.steps.at + c.in-Some.passed; want' = c.in-Some.next; reaches = more; long = omega (arith, c.least-in-Some.ensures) }

pub steps-preserved : goal.steps-preserved
steps-preserved c = record {
  reaches = reaches_more c.args.self c.steps.want c.in-Some.next c.args.piece.now _ c.steps.at c.in-Some.passed c.steps.invariant.reaches
      (take_rest c.args.piece.now c.steps.at) c.in-Some.ensures;
  short = omega (arith, c.least-in-Some.ensures);
}

pub returns-then-is_whole : goal.returns-then-is_whole
returns-then-is_whole c =
    ends c.args.self c.steps.want c.args.piece.now c.steps.at c.args.room c.steps.invariant.reaches (sym c.is_whole-2.ensures ∙ c.if-is_whole.true)
    c.steps.invariant.short

pub returns-else-is_whole : goal.returns-else-is_whole
returns-else-is_whole c =
    let not_whole : is_whole c.steps.want ≡ false = sym c.is_whole-2.ensures ∙ c.if-is_whole.false in
    elim c.steps-test.branch [
      | then-steps-test+else-at-piece w ↦
          let end = w.if-at-piece.false in
          stays c.args.self c.steps.want c.args.piece.now c.steps.at c.args.room c.steps.invariant.reaches not_whole c.steps.invariant.short (omega (arith, end))
      | else-steps-test w ↦ let t = w.steps-test.false in let e = c.is_whole.ensures in absurd (cc)
    ]

pub returns-in-None : goal.returns-in-None
returns-in-None c = record {
  want' = c.steps.want;
  reaches = c.steps.invariant.reaches;
  sticks = subst (Sticks c.steps.want) (take_rest c.args.piece.now c.steps.at) c.in-None.ensures;
  short = c.steps.invariant.short;
}
