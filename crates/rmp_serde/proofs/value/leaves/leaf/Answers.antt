use Rattle.std.proofs.Common.{[], arith, ◌∙◌}
use Rattle.rmp_serde.proofs.Making.{bare_tree, bare_alone, leaf_made, leaf_is}
use Rattle.rmp_serde.proofs.value.leaves.leaf.Goals as goal

pub from_parts-requires-clause-starts : goal.from_parts-requires-clause-starts
from_parts-requires-clause-starts c = omega (arith, bare_alone c.args.head c.requires.bare)

pub from_parts-requires-clause-told : goal.from_parts-requires-clause-told
from_parts-requires-clause-told c =
    leaf_made c.new.result c.args.head [] c.new.ensures.none c.new.ensures.empty (bare_alone c.args.head c.requires.bare)
    (bare_tree c.args.head c.requires.bare c.requires.fits)

pub returns : goal.returns
returns c = record {
  told = c.from_parts.ensures.told ∙ leaf_is c.new.result c.args.head [] c.new.ensures.none c.new.ensures.empty (bare_alone c.args.head c.requires.bare);
}
