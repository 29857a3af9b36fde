use Rattle.std.proofs.Common.{◌≤◌, map, take, All, length}
use Rattle.rmp_encode.specs.Slices.{AllBytes}
use Rattle.rmp_encode.proofs.slice.are_bytes.Given as goal

abbrev pub invariant-loop-value : goal.invariant-loop-value
invariant-loop-value g l = record {
  within : l.value-index ≤ length l.fn.values;
  bytes : AllBytes (map (λ x. g.T.Serialize.data_of x l.fn.human) (take l.value-index l.fn.values));
  values : All g.T.Serialize.is_value (take l.value-index l.fn.values);
}
