use Rattle.rmp_encode.proofs.Spelled.{spelled}
use Rattle.rmp_encode.proofs.laws.written_is_canonical.Goals as goal

pub returns : goal.returns
returns g c = λ m t old new w. (spelled t w.may, w.whole)
