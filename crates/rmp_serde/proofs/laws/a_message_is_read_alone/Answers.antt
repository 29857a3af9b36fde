use Rattle.rmp_decode.specs.Law.{Readable}
use Rattle.rmp_serde.proofs.Ends.{alone, same_end}
use Rattle.rmp_serde.proofs.laws.a_message_is_read_alone.Goals as goal

pub returns : goal.returns
returns g c = record {
  same = λ human lends input n room v. alone (λ m. g.T.Deserialize.reads human lends m v) room input n;
  refused = λ human lends input n room. alone (Readable (g.T.Deserialize.reads human lends)) room input n;
  consumed = same_end;
}
