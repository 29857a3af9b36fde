use Rattle.std.proofs.Common.{◌≡◌, ◌∙◌, ◌++◌, ap, subst}
use Rattle.rmp_types.specs.Timestamps.{IsTime, SaysTooMany}
use Rattle.rmp_types.proofs.Reading.{unread, unread_refuses, other_head, other_refuses, wanted}
use Rattle.rmp_types.proofs.Reading.{time_read, too_many_read, too_many_refuses, short_read, short_refuses}
use Rattle.rmp_types.proofs.timestamp.TimestampDeserialize.deserialize.Goals as goal

pub returns-in-Err-clause-law : goal.returns-in-Err-clause-law
returns-in-Err-clause-law g c = unread g.R.Source c.args.de.now c.deserialize_head.new.self c.in-Err.e c.in-Err.ensures.err

pub returns-in-Err-clause-refused : goal.returns-in-Err-clause-refused
returns-in-Err-clause-refused g c = λ o. unread_refuses g.R.Source c.args.de.now c.deserialize_head.new.self c.in-Err.e o c.in-Err.ensures.err

pub returns-in-Err-payload_len-clause-law : goal.returns-in-Err-payload_len-clause-law
returns-in-Err-payload_len-clause-law g c = other_head g.R.Source c.args.de.now c.deserialize_head.new.self c.in-Ok.head c.in-Ok.ensures.ok _ _
    c.in-Err-payload_len.ensures.other c.refuse.ensures.failed

pub returns-in-Err-payload_len-clause-refused : goal.returns-in-Err-payload_len-clause-refused
returns-in-Err-payload_len-clause-refused g c = λ _. rw c.refuse.ensures.same (other_refuses g.R.Source c.args.de.now c.deserialize_head.new.self c.in-Ok.head c.in-Ok.ensures.ok _ _
    c.in-Err-payload_len.ensures.other c.in-Err-payload_len.ensures.err c.refuse.ensures.failed)

pub returns-in-Err-append_content-clause-law : goal.returns-in-Err-append_content-clause-law
returns-in-Err-append_content-clause-law g c =
    let w = c.in-Ok-payload_len.ensures.ok in
    let t = wanted g.R.Source c.args.de.now c.deserialize_head.new.self c.in-Ok.head c.in-Ok-payload_len.len w.0 c.in-Ok.ensures.ok in
    short_read g.R.Source c.args.de.now c.deserialize_head.new.self c.in-Ok-payload_len.len w.1 t _ _ c.in-Err-append_content.ensures.err

pub returns-in-Err-append_content-clause-refused : goal.returns-in-Err-append_content-clause-refused
returns-in-Err-append_content-clause-refused g c = λ _.
    let w = c.in-Ok-payload_len.ensures.ok in
    let t = wanted g.R.Source c.args.de.now c.deserialize_head.new.self c.in-Ok.head c.in-Ok-payload_len.len w.0 c.in-Ok.ensures.ok in
    short_refuses g.R.Source c.args.de.now c.deserialize_head.new.self c.in-Ok-payload_len.len w.1 t _ _ c.in-Err-append_content.ensures.err

pub returns-in-Ok-from_payload-clause-law : goal.returns-in-Ok-from_payload-clause-law
returns-in-Ok-from_payload-clause-law g c =
    let w = c.in-Ok-payload_len.ensures.ok in
    let t = wanted g.R.Source c.args.de.now c.deserialize_head.new.self c.in-Ok.head c.in-Ok-payload_len.len w.0 c.in-Ok.ensures.ok in
    let a = c.in-Ok-append_content.ensures.ok in
    let same : c.deref.result.now ≡ a.content = c.deref.ensures.value ∙ a.whole ∙ ap (λ y. y ++ a.content) c.new-payload.ensures.items in
    time_read g.R.Source c.args.de.now c.deserialize_head.new.self c.in-Ok-payload_len.len w.1 t _ a.content c.in-Ok-from_payload.time a.taken
    (subst (λ y. IsTime y c.in-Ok-from_payload.time.seconds c.in-Ok-from_payload.time.nanoseconds) same c.in-Ok-from_payload.ensures.ok)

pub returns-clause-law : goal.returns-clause-law
returns-clause-law g c =
    let w = c.in-Ok-payload_len.ensures.ok in
    let t = wanted g.R.Source c.args.de.now c.deserialize_head.new.self c.in-Ok.head c.in-Ok-payload_len.len w.0 c.in-Ok.ensures.ok in
    let a = c.in-Ok-append_content.ensures.ok in
    let same : c.deref.result.now ≡ a.content = c.deref.ensures.value ∙ a.whole ∙ ap (λ y. y ++ a.content) c.new-payload.ensures.items in
    too_many_read g.R.Source c.args.de.now c.deserialize_head.new.self c.in-Ok-payload_len.len w.1 t c.append_content.new.self a.content _ _ a.taken
    (subst SaysTooMany same c.in-Err-from_payload.ensures.err.0) c.refuse-in-Err-from_payload.ensures.failed

pub returns-clause-refused : goal.returns-clause-refused
returns-clause-refused g c = λ _.
    let w = c.in-Ok-payload_len.ensures.ok in
    let t = wanted g.R.Source c.args.de.now c.deserialize_head.new.self c.in-Ok.head c.in-Ok-payload_len.len w.0 c.in-Ok.ensures.ok in
    let a = c.in-Ok-append_content.ensures.ok in
    let same : c.deref.result.now ≡ a.content = c.deref.ensures.value ∙ a.whole ∙ ap (λ y. y ++ a.content) c.new-payload.ensures.items in
    rw c.refuse-in-Err-from_payload.ensures.same (too_many_refuses g.R.Source c.args.de.now c.deserialize_head.new.self c.in-Ok-payload_len.len w.1 t c.append_content.new.self a.content _ _ a.taken
    (subst SaysTooMany same c.in-Err-from_payload.ensures.err.0, c.in-Err-from_payload.ensures.err.1) c.refuse-in-Err-from_payload.ensures.failed)
