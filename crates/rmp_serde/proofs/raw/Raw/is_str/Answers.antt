use Rattle.std.proofs.Common.{refl}
use Rattle.rmp_serde.proofs.RawWriting.{content_utf8}
use Rattle.rmp_serde.proofs.raw.Raw.is_str.Goals as goal

pub returns-in-Text : goal.returns-in-Text
returns-in-Text c = ((λ _. content_utf8 _ _ c.in-Text.is), (λ _. refl))
