use Rattle.rmp_wire.proofs.Unique.{spelled_once}
use Rattle.rmp_serde.proofs.laws.at_most_one_message.Goals as goal

pub returns : goal.returns
returns c = λ a b x y m n. spelled_once m n a b x y
