use Rattle.std.proofs.Common.{[], arith}
use Rattle.rmp_c.proofs.scan.rmp_scan_init.Goals as goal

pub returns-clause-holds : goal.returns-clause-holds
returns-clause-holds c =
    let a = c.limit_bytes.ensures.after [] c.new-scanner.ensures.after in
    let b = a.claims in
    let d = c.limit_bytes.ensures.limit in
    let e = c.ranges.limit.fits in
    record { scanner = _; is = c.keep.ensures.is [] a (omega (arith, d, e)) (omega (arith, b)); after = a }
