use Rattle.std.proofs.Common.{arith, ◌<◌, ◌∙◌, get_or}
use Rattle.rmp_serde.proofs.Pointers.{index_parsed}
use Rattle.rmp_serde.proofs.value.reference.pointer.index.Goals as goal

pub returns-then-first-gt48 : goal.returns-then-first-gt48
returns-then-first-gt48 c =
    let t = c.args.token.now in
    let first : 48 < get_or t 0 0 = grind arith in
    record { index = c.ok.ensures.value ∙ index_parsed t _ c.parse.ensures.value.0 first }
