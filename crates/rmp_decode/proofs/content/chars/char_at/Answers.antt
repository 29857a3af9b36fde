use Rattle.std.proofs.Common.{rules, arith}
use Rattle.rmp_decode.proofs.Characters.{lies_1, lies_2, lies_3, lies_4}
use Rattle.rmp_decode.proofs.content.chars.char_at.Goals as goal

pub returns-then-a-lt128 : goal.returns-then-a-lt128
returns-then-a-lt128 c = lies_1 c.args.front.now _ c.args.len (search rules) (search rules) (omega arith) (search rules)

pub returns-in-len2-up : goal.returns-in-len2-up
returns-in-len2-up c = lies_2 _ c.args.front.now c.args.len (search rules) (search rules) c.char_of_2.ensures

pub returns-in-len3-up : goal.returns-in-len3-up
returns-in-len3-up c = lies_3 _ c.args.front.now c.args.len (search rules) (search rules) c.char_of_3.ensures

pub returns-in-len4-up : goal.returns-in-len4-up
returns-in-len4-up c = lies_4 _ c.args.front.now c.args.len (search rules) (search rules) c.char_of_4.ensures
