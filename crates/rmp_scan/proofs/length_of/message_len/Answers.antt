-- By the scanner's answer for the whole input.
use Rattle.std.proofs.Common.{arith, [], ◌<◌, ◌^◌, length}
use Rattle.rmp_scan.proofs.Scanning.{len_whole, len_more, len_err, len_none, len_never}
use Rattle.rmp_scan.proofs.length_of.message_len.Goals as goal

pub returns-in-Ok-Whole-clause-whole : goal.returns-in-Ok-Whole-clause-whole
returns-in-Ok-Whole-clause-whole c =
    len_whole c.args.input.now c.new-scanner.result.limit c.in-Ok-Whole.used _ (rw c.in-Ok-Whole.field-0-is at (c.in-Ok-Whole.ensures.law [] c.new-scanner.ensures.after))

pub returns-in-Ok-More-clause-whole : goal.returns-in-Ok-More-clause-whole
returns-in-Ok-More-clause-whole c =
    len_more c.args.input.now c.new-scanner.result.limit _ (rw c.in-Ok-More.field-0-is at (c.in-Ok-More.ensures.law [] c.new-scanner.ensures.after))

pub returns-in-Err-clause-whole : goal.returns-in-Err-clause-whole
returns-in-Err-clause-whole c =
    let short : length c.args.input.now < 2 ^ 64 = omega arith in
    let e = len_err c.args.input.now c.new-scanner.result.limit _ c.in-Err.e (c.in-Err.ensures.law [] c.new-scanner.ensures.after) c.new-scanner.ensures.limit short in
    len_none c.args.input.now c.in-Err.e e.1

pub returns-in-Err-clause-more : goal.returns-in-Err-clause-more
returns-in-Err-clause-more c =
    let short : length c.args.input.now < 2 ^ 64 = omega arith in
    let e = len_err c.args.input.now c.new-scanner.result.limit _ c.in-Err.e (c.in-Err.ensures.law [] c.new-scanner.ensures.after) c.new-scanner.ensures.limit short in
    len_never c.args.input.now c.in-Err.e e.1

pub returns-in-Err-clause-reserved : goal.returns-in-Err-clause-reserved
returns-in-Err-clause-reserved c =
    let short : length c.args.input.now < 2 ^ 64 = omega arith in
    let e = len_err c.args.input.now c.new-scanner.result.limit _ c.in-Err.e (c.in-Err.ensures.law [] c.new-scanner.ensures.after) c.new-scanner.ensures.limit short in
    e.0
