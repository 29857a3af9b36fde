use Rattle.rmp_serde.proofs.RawWriting.{content_utf8}
use Rattle.rmp_serde.proofs.raw.Raw.as_err.Goals as goal

pub returns-in-Text : goal.returns-in-Text
returns-in-Text c = content_utf8 _ _ c.in-Text.is
