use Rattle.std.proofs.Common.{arith}
use Rattle.rmp_decode.proofs.Characters.{char_3}
use Rattle.rmp_decode.proofs.content.chars.coded_3.Goals as goal

pub returns : goal.returns
returns c = char_3 c.from_u32.result c.args.code c.args.a c.args.b c.args.d c.from_u32.ensures.value (omega arith) (omega arith) (omega arith) (omega arith)
    (omega arith)
