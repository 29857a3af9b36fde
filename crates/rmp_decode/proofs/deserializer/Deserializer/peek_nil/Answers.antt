use Rattle.std.proofs.Common.{refl, rules}
use Rattle.rmp_decode.proofs.Options.{nil_front, other_front}
use Rattle.rmp_decode.proofs.deserializer.Deserializer.peek_nil.Goals as goal

pub returns-then-skip : goal.returns-then-skip
returns-then-skip g c = nil_front g.R.Source c.args.self.now _ (search rules) (search rules)
    (record { config = refl; room = refl; limit = refl; strict = refl; place = c.skip.ensures.place c.if-skip.true }) (c.skip.ensures.sound c.if-skip.true)
    c.in-Some.byte c.front.result.now (search rules) (search rules) c.front.ensures.bytes c.in-Some.ensures c.if-byte.true
    (c.skip.ensures.bytes c.if-skip.true)

pub returns-then-tells : goal.returns-then-tells
returns-then-tells g c = (
  search rules,
  (
    other_front g.R.Source c.args.self.now c.in-Some.byte c.front.result.now (search rules) c.front.ensures.bytes c.in-Some.ensures
        c.if-byte.false (c.tells.ensures.told c.if-tells.true),
    refl,
  ),
)
