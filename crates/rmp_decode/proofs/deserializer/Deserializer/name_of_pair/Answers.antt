use Rattle.rmp_decode.proofs.VariantNames.{place_none, place_taken, place_missed}
use Rattle.rmp_decode.proofs.deserializer.Deserializer.name_of_pair.Goals as goal

pub returns-in-Ok-rest_of_name : goal.returns-in-Ok-rest_of_name
returns-in-Ok-rest_of_name g c = place_taken g.R.Source _ _ _ c.args.self.now _ _ (c.in-Ok-rest_of_name.ensures _ c.in-Ok.field-0-0 c.in-Ok.ensures)

pub returns-in-Err-rest_of_name : goal.returns-in-Err-rest_of_name
returns-in-Err-rest_of_name g c = place_missed g.R.Source _ _ _ c.args.self.now _ _ _ (c.in-Err-rest_of_name.ensures _ c.in-Ok.field-0-0 c.in-Ok.ensures)

pub returns-in-Err : goal.returns-in-Err
returns-in-Err g c = place_missed g.R.Source _ _ _ c.args.self.now _ _ _ (place_none g.R.Source _ _ _ _ _ c.in-Err.ensures)
