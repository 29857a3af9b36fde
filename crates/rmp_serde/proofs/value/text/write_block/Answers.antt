use Rattle.rmp_serde.proofs.HexText.{digits_utf8}
use Rattle.rmp_serde.proofs.value.text.write_block.Goals as goal

pub from_utf8_unchecked-requires : goal.from_utf8_unchecked-requires
from_utf8_unchecked-requires g c = rw c.in-Ok.ensures.written (digits_utf8 c.args.block.now)
