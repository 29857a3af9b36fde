use Rattle.std.proofs.Common.{◌≡◌, ◌≤◌, map, take, length, nat_le, false}
use Rattle.std.specs.List.{list_any}
use Rattle.rmp_encode.specs.Slices.{number_of}
use Rattle.rmp_encode.proofs.tuple.any_high.Given as goal

abbrev pub invariant-loop-value : goal.invariant-loop-value
invariant-loop-value g l = record {
  within : l.value-index ≤ length l.fn.values;
  none : list_any (nat_le 128) (map number_of (map (λ x. g.T.Serialize.data_of x l.fn.human) (take l.value-index l.fn.values))) ≡ false;
}
