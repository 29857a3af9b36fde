use Rattle.std.proofs.Common.{rules, refl, arith}
use Rattle.rmp_c.proofs.Heads.{none_left, none_cut, found, from_there, not_reserved, some_left}
use Rattle.rmp_c.proofs.walk.rmp_next.Goals as goal

pub returns-then-at-bytes-clause-none : goal.returns-then-at-bytes-clause-none
returns-then-at-bytes-clause-none c = λ ne n. none_left c.args.bytes.now c.args.at (search rules) n

pub returns-then-rest-content-clause-none : goal.returns-then-rest-content-clause-none
returns-then-rest-content-clause-none c = λ ne n.
    none_cut c.args.bytes.now _ c.next_head.new.source.now c.args.at _ _ (from_there c.args.bytes.now c.args.at) c.in-Ok.ensures.reads.ok (search rules) n

pub returns-else-rest-content-clause-item : goal.returns-else-rest-content-clause-item
returns-else-rest-content-clause-item c = λ e.
    found c.args.bytes.now _ c.next_head.new.source.now c.args.at _ c.in-Ok.head c.item_of.result (search rules)
    (from_there c.args.bytes.now c.args.at) c.in-Ok.ensures.reads.ok (search rules) c.item_of.ensures.says (search rules) (search rules)

pub returns-then-rest-content-clause-reserved : goal.returns-then-rest-content-clause-reserved
returns-then-rest-content-clause-reserved c = (
  λ e. absurd (omega (arith, e)),
  λ o. absurd
      (not_reserved c.args.bytes.now _ c.next_head.new.source.now c.args.at _ _ (from_there c.args.bytes.now c.args.at) c.in-Ok.ensures.reads.ok o),
)

pub returns-then-rest-content-clause-cut : goal.returns-then-rest-content-clause-cut
returns-then-rest-content-clause-cut c = (
  λ e. record {
    some = some_left c.args.bytes.now c.args.at (search rules);
    opens = not_reserved c.args.bytes.now _ c.next_head.new.source.now c.args.at _ _ (from_there c.args.bytes.now c.args.at) c.in-Ok.ensures.reads.ok;
    none = returns-then-rest-content-clause-none c (λ z. omega (arith, z));
  },
  λ i. refl,
)

pub returns-else-rest-content-clause-reserved : goal.returns-else-rest-content-clause-reserved
returns-else-rest-content-clause-reserved c = (
  λ e. absurd (omega (arith, e)),
  λ o. absurd
      (not_reserved c.args.bytes.now _ c.next_head.new.source.now c.args.at _ _ (from_there c.args.bytes.now c.args.at) c.in-Ok.ensures.reads.ok o),
)

pub returns-else-rest-content-clause-cut : goal.returns-else-rest-content-clause-cut
returns-else-rest-content-clause-cut c =
    let i = returns-else-rest-content-clause-item c refl in (λ e. absurd (omega (arith, e)), λ cut. absurd (cut.none i.node))
