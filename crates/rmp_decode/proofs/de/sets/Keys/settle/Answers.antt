use Rattle.rmp_decode.proofs.Ascending.{settled_key}
use Rattle.rmp_decode.proofs.de.sets.Keys.settle.Goals as goal

pub loop-key-preserved : goal.loop-key-preserved
loop-key-preserved g c = (
  settled_key g.met.T.Ord.total c.loop-key.self.row.items c.pop.new.self.items c.loop-key.self.keys.keys
      c.insert.new.self.keys _ c.in-Some.key c.in-Some.ensures.items c.loop-key.invariant.0 c.requires c.in_ok-insert.ensures.keys,
  c.loop-key.invariant.1,
)
