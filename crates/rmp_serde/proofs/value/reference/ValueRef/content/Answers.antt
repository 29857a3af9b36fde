use Rattle.std.proofs.Common.{◌∙◌, ap}
use Rattle.rmp_serde.specs.Flat.{content_in}
use Rattle.rmp_serde.specs.Tokens.{tokens}
use Rattle.rmp_serde.proofs.FlatRows.{tree_row}
use Rattle.rmp_serde.proofs.FlatParts.{node_is, all_utf8, utf8_at, first_utf8}
use Rattle.rmp_serde.proofs.value.reference.ValueRef.content.Goals as goal

pub returns-clause-content : goal.returns-clause-content
returns-clause-content c =
    c.content.ensures.content ∙ ap (content_in c.value.inside.parts.bytes.items) c.node.ensures.node
    ∙ ap (λ z. z.1) (node_is c.value.inside.root c.value.inside.parts c.args.self.value.now c.args.self.at c.value.invariant c.value.view_is)

pub returns-clause-utf8 : goal.returns-clause-utf8
returns-clause-utf8 c =
    let m = c.args.self.value.now in
    first_utf8 _ (utf8_at (tokens m) c.args.self.at (tree_row m) (all_utf8 c.value.inside.root c.value.inside.parts m c.value.invariant c.value.view_is))
