use Rattle.std.proofs.Common.{◌∙◌, ap, sym, subst}
use Rattle.rmp_wire.specs.declared.head.Head.TheVariants.{Array, Map}
use Rattle.rmp_wire.proofs.Taken.{bytes_from}
use Rattle.canon_lines.specs.Firsts.{BeginsHead}
use Rattle.canon_lines.proofs.Leaves.{content_taken, list_taken, map_taken, weaker}
use Rattle.canon_lines.proofs.leaf.push_flat.Goals as goal

pub returns-in-Array : goal.returns-in-Array
returns-in-Array c =
    let begins = subst (λ h. BeginsHead h c.in-Some.rest.now c.args.bytes.now) (c.in-Array.is ∙ ap Array (sym c.from.ensures)) c.in-Some.ensures.head in
    record {
      told = weaker c.push_row.result _ _ (λ rest p. list_taken c.from.result c.args.bytes.now c.in-Some.rest.now rest.now _ _ begins p) c.push_row.ensures.told;
    }

pub returns-in-Map : goal.returns-in-Map
returns-in-Map c =
    let begins = subst (λ h. BeginsHead h c.in-Some.rest.now c.args.bytes.now) (c.in-Map.is ∙ ap Map (sym c.from-in-Map.ensures)) c.in-Some.ensures.head in
    record {
      told = weaker c.push_row-in-Map.result _ _ (λ rest p. map_taken c.from-in-Map.result c.args.bytes.now c.in-Some.rest.now rest.now _ _ begins p)
          c.push_row-in-Map.ensures.told;
    }

pub returns-in_default-head : goal.returns-in_default-head
returns-in_default-head c =
    let bytes = bytes_from c.args.bytes.now (λ k. (c.type_inv.bytes k).fits) in
    record {
      told = weaker c.push_content.result _ _
          (λ rest p. content_taken 1 c.args.bytes.now c.in-Some.rest.now rest.now _ _ c.in-Some.head bytes c.in-Some.ensures.head p) c.push_content.ensures.told;
    }
