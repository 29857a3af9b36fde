use Rattle.std.specs.Prelude.{◌++◌}
use Rattle.std.proofs.Common.{◌∙◌, ap, sym}
use Rattle.rmp_encode.specs.Calls.{default_settings}
use Rattle.example_records.specs.Held.{written}
use Rattle.example_records.proofs.Log.{written_more}
use Rattle.example_records.proofs.records.Records.append.Goals as goal

pub returns-in-Ok-clause-added : goal.returns-in-Ok-clause-added
returns-in-Ok-clause-added c = λ ms e.
    let new = c.value_is_its_tree.ensures.bytes default_settings c.args.entry.now _ c.in_ok-bytes.ensures.bytes in
    let slice = c.as_slice.ensures.value in
    c.in-Ok.ensures.items ∙ ap (λ t. t ++ c.as_slice.result.now) e ∙ ap (λ t. written ms ++ t) (slice ∙ new) ∙ sym (written_more ms c.args.entry.now)
