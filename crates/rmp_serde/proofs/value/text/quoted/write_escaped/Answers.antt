use Rattle.std.proofs.Common.{rules, ◌++◌, refl}
use Rattle.std.proofs.Output.{has_written_append, has_written_of_eq}
use Rattle.rmp_serde.specs.Quoted.{in_string}
use Rattle.rmp_serde.proofs.Quoted.{piece_put, last_put}
use Rattle.rmp_serde.proofs.value.text.quoted.write_escaped.Goals as goal

pub returns-in-None : goal.returns-in-None
returns-in-None g c = record {
  writes = λ plain _.
      let so_far = c.pieces.invariant.1 plain in
      let put = c.in_ok-write_str.ensures.writes so_far.1.plain refl in
      let whole = rw c.in-None.is at c.split_plain.ensures.all in
      has_written_of_eq _ _ _ _ _ (last_put so_far.0 c.split_plain.result.0.now c.pieces.left.now c.args.text.now so_far.2 whole c.split_plain.ensures.plain)
      (has_written_append _ _ _ _ _ _ so_far.1 put);
}

pub pieces-preserved : goal.pieces-preserved
pieces-preserved g c = (
  search rules,
  λ plain.
      let so_far = c.pieces.invariant.1 plain in
      let put = c.in_ok-write_str.ensures.writes so_far.1.plain refl in
      let escaped = c.in_ok-write_escape-in-Some.ensures.writes put.plain refl in
      let split = rw c.in-Some.is at c.split_plain.ensures.all in (
        so_far.0 ++ c.split_plain.result.0.now ++ in_string c.in-Some.byte,
        has_written_append _ _ _ _ _ _ (has_written_append _ _ _ _ _ _ so_far.1 put) escaped,
        piece_put so_far.0 c.split_plain.result.0.now c.in-Some.after.now c.pieces.left.now c.args.text.now c.in-Some.byte so_far.2 split
            c.split_plain.ensures.plain,
      ),
)
