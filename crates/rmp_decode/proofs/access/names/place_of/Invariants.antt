use Rattle.std.proofs.Common.{◌≡◌, drop}
use Rattle.std.specs.Option.{option_map}
use Rattle.std.proofs.Common.{◌+◌}
use Rattle.rmp_decode.specs.Names.{bytes_of, place_of}
use Rattle.rmp_decode.proofs.access.names.place_of.Given as goal

abbrev pub invariant-loop-i : goal.invariant-loop-i
invariant-loop-i l = place_of (bytes_of l.names) l.key ≡ option_map (λ n. l.i + n) (place_of (bytes_of (drop l.i l.names)) l.key)
