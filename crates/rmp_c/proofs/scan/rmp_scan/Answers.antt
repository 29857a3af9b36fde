-- By the scanner's answer.
use Rattle.std.proofs.Common.{ap, Ok, arith, rules}
use Rattle.rmp_c.proofs.Pieces.{held, whole_law, more_law, long_law, reserved_law, at_whole, elsewhere, not_more, not_long}
use Rattle.rmp_c.proofs.scan.rmp_scan.Goals as goal

pub returns-in-Ok-Whole-clause-law : goal.returns-in-Ok-Whole-clause-law
returns-in-Ok-Whole-clause-law c = λ before h.
    let is = c.in-Some.ensures.some in
    let a = held c.in-Some.scanner c.args.state.now before is h in
    whole_law before c.args.piece.now c.args.state.now.limit c.in-Some.scanner.limit c.in-Ok-Whole.n c.scan.new.self _
    (let r = c.in-Some.ensures.range in let l = is.limit in omega (arith, r, l)) is.limit
    c.in-Ok-Whole.ensures.limit (rw c.in-Ok-Whole.field-0-is at (c.in-Ok-Whole.ensures.law before a)) c.keep.ensures.is

pub returns-in-Ok-Whole-clause-whole : goal.returns-in-Ok-Whole-clause-whole
returns-in-Ok-Whole-clause-whole c = λ before h n.
    let is = c.in-Some.ensures.some in
    let a = held c.in-Some.scanner c.args.state.now before is h in
    at_whole _ c.in-Ok-Whole.n n _ _ _ _ (ap Ok c.in-Ok-Whole.field-0-is) is.limit (c.in-Ok-Whole.ensures.whole before a n)

pub returns-in-Ok-Whole-clause-more : goal.returns-in-Ok-Whole-clause-more
returns-in-Ok-Whole-clause-more c = λ before h b.
    let a = held c.in-Some.scanner c.args.state.now before c.in-Some.ensures.some h in
    let i = c.in-Ok-Whole.field-0-is in not_more _ 0 (λ e. absurd (cc)) (λ e. absurd (cc)) (c.in-Ok-Whole.ensures.more before a b)

pub returns-in-Ok-More-clause-law : goal.returns-in-Ok-More-clause-law
returns-in-Ok-More-clause-law c = λ before h.
    let is = c.in-Some.ensures.some in
    let a = held c.in-Some.scanner c.args.state.now before is h in
    more_law before c.args.piece.now c.args.state.now.limit c.in-Some.scanner.limit c.args.used.now c.scan.new.self _
    (let r = c.in-Some.ensures.range in let l = is.limit in omega (arith, r, l)) is.limit
    c.in-Ok-More.ensures.limit (rw c.in-Ok-More.field-0-is at (c.in-Ok-More.ensures.law before a)) c.keep-in-Ok-More.ensures.is

pub returns-in-Ok-More-clause-whole : goal.returns-in-Ok-More-clause-whole
returns-in-Ok-More-clause-whole c = λ before h n.
    let is = c.in-Some.ensures.some in
    let a = held c.in-Some.scanner c.args.state.now before is h in
    let i = c.in-Ok-More.field-0-is in
    elsewhere _ 10 c.args.used.now n _ _ _ _ (λ z. omega (arith, z)) (λ e. cc) is.limit (c.in-Ok-More.ensures.whole before a n)

pub returns-then-is_too_long-clause-law : goal.returns-then-is_too_long-clause-law
returns-then-is_too_long-clause-law c = λ before h.
    let is = c.in-Some.ensures.some in
    let a = held c.in-Some.scanner c.args.state.now before is h in
    long_law before c.args.piece.now c.args.state.now.limit c.in-Some.scanner.limit c.args.used.now c.scan.new.self _ c.in-Err.e is.limit (search rules)
    (c.in-Err.ensures.law before a)

pub returns-then-is_too_long-clause-whole : goal.returns-then-is_too_long-clause-whole
returns-then-is_too_long-clause-whole c = λ before h n.
    let is = c.in-Some.ensures.some in
    let a = held c.in-Some.scanner c.args.state.now before is h in
    elsewhere _ 11 c.args.used.now n _ _ _ _ (λ z. omega (arith, z)) (λ e. cc) is.limit (c.in-Err.ensures.whole before a n)

pub returns-else-is_too_long-clause-law : goal.returns-else-is_too_long-clause-law
returns-else-is_too_long-clause-law c = λ before h.
    let is = c.in-Some.ensures.some in
    let a = held c.in-Some.scanner c.args.state.now before is h in
    reserved_law before c.args.piece.now c.args.state.now.limit c.in-Some.scanner.limit c.unwrap_or.result c.scan.new.self _ c.in-Err.e (search rules)
    (c.in-Err.ensures.law before a) (λ at told. search rules)

pub returns-else-is_too_long-clause-whole : goal.returns-else-is_too_long-clause-whole
returns-else-is_too_long-clause-whole c = λ before h n.
    let is = c.in-Some.ensures.some in
    let a = held c.in-Some.scanner c.args.state.now before is h in
    elsewhere _ 3 c.unwrap_or.result n _ _ _ _ (λ z. omega (arith, z)) (λ e. cc) is.limit (c.in-Err.ensures.whole before a n)

pub returns-else-is_too_long-clause-more : goal.returns-else-is_too_long-clause-more
returns-else-is_too_long-clause-more c = λ before h b.
    let a = held c.in-Some.scanner c.args.state.now before c.in-Some.ensures.some h in
    let t = c.is_too_long.ensures in not_more _ 3 (λ e. absurd (cc)) (λ e. absurd (not_long c.in-Err.e (search rules) e)) (c.in-Err.ensures.more before a b)
