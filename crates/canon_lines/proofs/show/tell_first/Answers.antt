use Rattle.std.proofs.Common.{refl, subst, false}
use Rattle.rmp_decode.specs.Refuse.{Refusal}
use Rattle.rmp_serde.specs.Read.{ItemsUtf8}
use Rattle.rmp_serde.specs.Refuse.{UnreadFor}
use Rattle.canon_lines.specs.Prints.{NoneBegins}
use Rattle.canon_lines.proofs.MessageReads.{none_begins, names_wrong, slice_source}
use Rattle.canon_lines.proofs.show.tell_first.Goals as goal

pub returns-in_ok-path-in-Err : goal.returns-in_ok-path-in-Err
returns-in_ok-path-in-Err c =
    let from = c.from_read_ref-de.ensures in
    let kept = c.in_ok-path-in-Err.ensures.memory in
    let none = none_begins slice_source (record { ahead = λ r. refl; sound = λ r s. refl }) c.from_read_ref-de.result c.read.new.de from.new.kept from.new.room
    from.new.lenient c.in-Err.error kept (c.in-Err.ensures.law.err from.new.ready) in
    let wrong = names_wrong slice_source (record { ahead = λ r. refl; sound = λ r s. refl }) c.from_read_ref-de.result c.read.new.de from.new.kept from.new.room
    from.new.lenient c.in-Err.error c.in-Err.ensures.refusal from.new.ready in
    record {
      told = record {
        error = c.in-Err.error;
        no_memory = kept;
        none = subst NoneBegins from.rest none;
        wrong = subst (Refusal false (UnreadFor false) ItemsUtf8 1024 c.in-Err.error) from.rest wrong;
        part = c.in_ok-path-in-Err.ensures.part;
      };
    }
