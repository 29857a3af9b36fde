use Rattle.rmp_round_trip.proofs.RoundLaws.{read_alike}
use Rattle.rmp_round_trip.proofs.laws.widths_are_alike.Goals as goal

pub returns : goal.returns
returns g c = λ human room a b x y m v. read_alike (g.T.Deserialize.reads human g.R.ReadSlice.lends) room a b x y m v
