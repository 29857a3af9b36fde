use Rattle.std.proofs.Common.{rules, ap}
use Rattle.rmp_serde.specs.Raws.{content_bytes}
use Rattle.rmp_serde.proofs.RawWriting.{content_utf8}
use Rattle.rmp_serde.proofs.raw.Raw.into_str.Goals as goal

pub returns-in-Text : goal.returns-in-Text
returns-in-Text c = let e = ap content_bytes c.in-Text.is in (search rules, content_utf8 _ _ c.in-Text.is)
