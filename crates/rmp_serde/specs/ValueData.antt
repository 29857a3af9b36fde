-- What a value is for a serializer.
use Rattle.rmp_wire.specs.Msg.{Msg, nil, truth, whole, float32, float64, text, bin, list, map, extension, Msgs, no_items, item, Pairs, no_pairs, pair}
use Rattle.rmp_encode.specs.Data as call
use Rattle.rmp_encode.specs.Data.{Data, Parts, no_parts, part, Entries, no_entries, entry}

-- A list is a sequence and a map a mapping, so that no mode turns them into bytes. A whole number is never a
-- `u8`.
unfoldable mutual
  pub value_data : Msg → Data
  value_data nil = call.unit
  value_data (truth t) = call.truth t
  value_data (whole z) = call.whole z
  value_data (float32 n) = call.float32 n
  value_data (float64 n) = call.float64 n
  value_data (text s) = call.text s
  value_data (bin s) = call.bytes s
  value_data (list ms) = call.sequence (values_data ms)
  value_data (map ps) = call.mapping (pairs_data ps)
  value_data (extension tag s) = call.extension tag s

  pub values_data : Msgs → Parts
  values_data no_items = no_parts
  values_data (item m ms) = part (value_data m) (values_data ms)

  pub pairs_data : Pairs → Entries
  pairs_data no_pairs = no_entries
  pairs_data (pair k v ps) = entry (value_data k) (value_data v) (pairs_data ps)
