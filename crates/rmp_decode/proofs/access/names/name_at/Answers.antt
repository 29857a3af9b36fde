use Rattle.std.proofs.Common.{◌≡◌, ◌+◌, ◌-◌, arith, rules, drop, take, length, subst}
use Rattle.rmp_decode.specs.Names.{bytes_of, place_of}
use Rattle.rmp_decode.specs.NamesAhead.{below}
use Rattle.rmp_decode.proofs.NamesAhead.{are_all, bytes_drop, bytes_take, text_in}
use Rattle.rmp_decode.proofs.access.names.name_at.Goals as goal

pub returns-else-end-front-clause-inside : goal.returns-else-end-front-clause-inside
returns-else-end-front-clause-inside c =
    let front = c.args.front.now in
    let same : c.in-Some.head + c.in-Some.len - c.in-Some.head ≡ c.in-Some.len = omega arith in
    text_in c.args.strict c.in-Some.head c.in-Some.len _ front c.in-Some.ensures.starts (omega (arith, c.if-end-front.false))
    (bytes_take c.in-Some.len (drop c.in-Some.head front) (bytes_drop c.in-Some.head front (are_all front (λ i. search rules))))
    (subst (λ k. below (length c.args.names.now) c.place_or_count.result ≡ place_of (bytes_of c.args.names.now) (take k (drop c.in-Some.head front))) same
    c.place_or_count.ensures.place)
