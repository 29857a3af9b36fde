use Rattle.std.proofs.Common.{rules, ap}
use Rattle.rmp_serde.specs.Raws.{content_ref_bytes}
use Rattle.rmp_serde.proofs.raw.RawRef.as_err.Goals as goal

pub returns-in-Text : goal.returns-in-Text
returns-in-Text c = let e = ap content_ref_bytes c.in-Text.is in search rules
