use Rattle.std.proofs.Common.{rules}
use Rattle.rmp_wire.proofs.HeadReads.{number_64_taken}
use Rattle.rmp_wire.proofs.read.number_64.Goals as goal

pub returns-in-Ok : goal.returns-in-Ok
returns-in-Ok g c = record {
  reads = number_64_taken g.S.Source _ _ c.in-Ok.bytes _ (search rules) (λ i. search rules) c.from_be_bytes.ensures c.from_be_bytes.type_inv
      c.in-Ok.ensures.bytes c.take_8.ensures.place;
}
