-- By the first byte, or by the messages that were passed.
use Rattle.std.proofs.Common.{◌∙◌, sym, refl, arith, ◌<◌, get_or}
use Rattle.rmp_scan.proofs.Stepping.{small_steps, fixed_steps, counted_steps, reserved_sticks}
use Rattle.rmp_scan.proofs.want.Want.pass_messages.Goals as goal

pub returns-then-at-gt0 : goal.returns-then-at-gt0
returns-then-at-gt0 c =
    let s = c.pass_small-at in
    small_steps c.args.self c.args.bytes.now _ s.result.1 s.result.0 _ c.requires.next c.if-at-gt0.true s.ensures.within s.ensures.passes (omega arith) (omega arith)
    s.ensures.claims

pub returns-in-Fixed : goal.returns-in-Fixed
returns-in-Fixed c =
    let o = sym c.in-Fixed.is ∙ c.read_opening.ensures.is in
    let small : get_or c.args.bytes.now 0 0 < 256 = omega (arith, c.type_inv.bytes 0) in
    fixed_steps c.args.self c.args.bytes.now c.in-Fixed.payload c.in-Fixed.parts _ _ c.requires.next c.requires.wanted c.requires.some small o (omega arith)
    (omega arith)

pub returns-in-Counted : goal.returns-in-Counted
returns-in-Counted c =
    let o = sym c.in-Counted.is ∙ c.read_opening.ensures.is in
    let small : get_or c.args.bytes.now 0 0 < 256 = omega (arith, c.type_inv.bytes 0) in
    counted_steps c.args.self c.args.bytes.now c.in-Counted.counts c.in-Counted.width _ c.requires.next c.requires.wanted c.requires.some small o refl refl refl
    (omega (arith, c.in-Counted.ensures.narrow))

pub returns-in-Reserved : goal.returns-in-Reserved
returns-in-Reserved c =
    let o = sym c.in-Reserved.is ∙ c.read_opening.ensures.is in
    let small : get_or c.args.bytes.now 0 0 < 256 = omega (arith, c.type_inv.bytes 0) in
    reserved_sticks c.args.self c.args.bytes.now c.requires.next c.requires.wanted c.requires.some small o
