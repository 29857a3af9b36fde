use Rattle.rmp_serde.specs.Raws.{raw_ref_bytes}
use Rattle.rmp_serde.proofs.RawWriting.{bytes_written, text_written}
use Rattle.rmp_serde.proofs.raw.borrowed.RawRefSerialize.serialize.Goals as goal

pub returns-in-Some-clause-writes : goal.returns-in-Some-clause-writes
returns-in-Some-clause-writes g c =
    text_written g.W.Sink _ _ (raw_ref_bytes c.args.self.now) _ c.in-Some.ensures.0 c.in-Some.ensures.1 c.serialize_str.ensures.writes

pub returns-in-None-clause-writes : goal.returns-in-None-clause-writes
returns-in-None-clause-writes g c =
    bytes_written g.W.Sink _ _ (raw_ref_bytes c.args.self.now) _ c.as_bytes.ensures c.in-None.ensures c.serialize_bytes.ensures.writes
