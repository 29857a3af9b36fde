use Rattle.std.proofs.Common.{arith}
use Rattle.rmp_decode.proofs.Characters.{char_4}
use Rattle.rmp_decode.proofs.content.chars.coded_4.Goals as goal

pub returns : goal.returns
returns c = char_4 c.from_u32.result c.args.code c.args.a c.args.b c.args.d c.args.e c.from_u32.ensures.value (omega arith) (omega arith) (omega arith)
    (omega arith) (omega arith) (omega arith)
