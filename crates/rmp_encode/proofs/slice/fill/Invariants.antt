-- The numbers before the index are already copied.
use Rattle.std.proofs.Common.{◌≡◌, map, take, length}
use Rattle.rmp_encode.specs.Slices.{number_of}
use Rattle.rmp_encode.proofs.slice.fill.Given as goal

abbrev pub invariant-loop-i : goal.invariant-loop-i
invariant-loop-i g l = record {
  long : length l.piece ≡ length l.fn.piece;
  filled : take l.i l.piece ≡ map number_of (map (λ x. g.T.Serialize.data_of x l.fn.human) (take l.i l.fn.values));
}
