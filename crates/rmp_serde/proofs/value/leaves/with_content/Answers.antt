use Rattle.std.proofs.Common.{arith, ◌∙◌, ap, ◌++◌}
use Rattle.rmp_wire.proofs.Taken.{bytes_from}
use Rattle.rmp_serde.specs.Flat.{heads_in}
use Rattle.rmp_serde.specs.declared.value.flat.Nodes.{Nodes}
use Rattle.rmp_serde.proofs.Making.{content_tree, leaf_made, none_of}
use Rattle.rmp_serde.proofs.value.leaves.with_content.Goals as goal

pub from_parts-requires-clause-told : goal.from_parts-requires-clause-told
from_parts-requires-clause-told c =
    let s = c.args.content.now in
    let made : Nodes = record { nodes = c.new-parts.result.nodes; bytes = c.extend_from_slice.new.self } in
    leaf_made made c.args.head s (ap (heads_in c.extend_from_slice.new.self.items) (none_of _ _ c.new-parts.ensures.none))
    (c.in_ok-extend_from_slice.ensures.items ∙ ap (λ z. z ++ s) c.new-parts.ensures.empty) c.requires.len
    (content_tree c.args.head s c.requires.kind c.requires.len c.requires.fits (bytes_from s (λ i. omega (arith, c.type_inv.content i))))
