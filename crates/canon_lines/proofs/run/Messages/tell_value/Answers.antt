use Rattle.std.proofs.Common.{refl, subst, false}
use Rattle.rmp_decode.specs.Refuse.{Refusal}
use Rattle.rmp_serde.specs.Read.{ItemsUtf8}
use Rattle.rmp_serde.specs.Refuse.{UnreadFor}
use Rattle.canon_lines.specs.Prints.{NoneBegins}
use Rattle.canon_lines.proofs.MessageReads.{none_begins, names_wrong, slice_source}
use Rattle.canon_lines.proofs.run.Messages.tell_value.Goals as goal

pub returns-clause-none : goal.returns-clause-none
returns-clause-none c =
    let from = c.from_read_ref-de.ensures in
    λ n. subst NoneBegins from.rest
    (none_begins slice_source (record { ahead = λ r. refl; sound = λ r s. refl }) c.from_read_ref-de.result c.read.new.de from.new.kept from.new.room from.new.lenient
    c.in-Err.error n (c.in-Err.ensures.law.err from.new.ready))

pub returns-clause-wrong : goal.returns-clause-wrong
returns-clause-wrong c =
    let from = c.from_read_ref-de.ensures in
    λ _. subst (Refusal false (UnreadFor false) ItemsUtf8 1024 c.in-Err.error) from.rest
    (names_wrong slice_source (record { ahead = λ r. refl; sound = λ r s. refl }) c.from_read_ref-de.result c.read.new.de from.new.kept from.new.room from.new.lenient
    c.in-Err.error c.in-Err.ensures.refusal from.new.ready)
