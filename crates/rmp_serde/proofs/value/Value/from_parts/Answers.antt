use Rattle.std.proofs.Common.{sym, subst}
use Rattle.rmp_serde.specs.Flat.{content_at, heads_of, IsRow}
use Rattle.rmp_serde.proofs.FlatRows.{row_tail, tree_row}
use Rattle.rmp_serde.proofs.value.Value.from_parts.Goals as goal

pub settle-requires-clause-row : goal.settle-requires-clause-row
settle-requires-clause-row c =
    let told = c.requires.told in
    row_tail c.args.head (content_at c.args.parts c.args.head c.args.at).1 (heads_of c.args.parts) (subst IsRow (sym told.told) (tree_row told.tree))
