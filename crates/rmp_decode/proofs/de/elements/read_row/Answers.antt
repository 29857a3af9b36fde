use Rattle.std.proofs.Common.{◌≡◌, ◌-◌, refl, rules, arith, true, false, Bool, ℕ}
use Rattle.rmp_decode.specs.Seq.{levels}
use Rattle.rmp_decode.proofs.RowReads.{row_start, row_step, row_short, row_refused, row_ended, row_many, row_whole}
use Rattle.rmp_decode.proofs.de.elements.read_row.Goals as goal

room_inside : (b : Bool) (room inner : ℕ) → (b ≡ true → inner ≡ room) → (b ≡ false → inner ≡ room - 1) → inner ≡ room - levels b
room_inside true room inner p q = let e = p refl in omega (arith, e)
room_inside false room inner p q = q refl

pub loop-left-init : goal.loop-left-init
loop-left-init g c =
    let w = c.wanted.ensures.most in
    let i = c.wanted.ensures.within in
    row_start c.requires.clean (room_inside c.args.bytes _ _ c.inner_room-de.ensures.bytes c.inner_room-de.ensures.list) c.requires.empty
    (omega arith)

pub returns-in-Err : goal.returns-in-Err
returns-in-Err g c = rw c.data_fault.ensures (row_ended c.loop-left.invariant c.loop-left-test.true c.in-Err.ensures.stays c.in-Err.ensures.bytes
    c.in-Err.ensures.err c.in-Err.ensures.end)

pub put-requires : goal.put-requires
put-requires g c =
    let r = c.loop-left.invariant in
    let t = c.loop-left-test.true in
    let m = row_many r in
    (r.values, c.args.count, r.held, omega arith, omega arith)

pub returns-then-not-put : goal.returns-then-not-put
returns-then-not-put g c = row_short c.loop-left.invariant c.loop-left-test.true c.in-Ok.ensures.stays _ c.in-Ok.ensures.ok _ (c.loop-left.left - 1)
    (let t = c.loop-left-test.true in omega arith) c.in-Ok-deserialize.ensures.law _ (c.put.ensures.full (search rules)) _

pub returns-in-Err-deserialize : goal.returns-in-Err-deserialize
returns-in-Err-deserialize g c = row_refused c.loop-left.invariant c.loop-left-test.true c.in-Ok.ensures.stays _ c.in-Ok.ensures.ok (search rules)
    c.in-Err-deserialize.ensures.law (c.in-Err-deserialize.ensures.refused (search rules))

pub loop-left-preserved : goal.loop-left-preserved
loop-left-preserved g c =
    let r = c.loop-left.invariant in
    let t = c.loop-left-test.true in
    let m = row_many r in
    row_step r t c.in-Ok.ensures.stays _ c.in-Ok.ensures.ok _ _ (omega arith) c.in-Ok-deserialize.ensures.law _
    (c.put.ensures.held (search rules) r.values r.held (omega arith))

pub returns : goal.returns
returns g c = row_whole c.loop-left.invariant c.loop-left-test.false
