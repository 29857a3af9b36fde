use Rattle.rmp_types.proofs.FloatReading.{unread, unread_refuses, float_read, float_refused, float_refuses}
use Rattle.rmp_types.proofs.float.Float64Deserialize.deserialize.Goals as goal

pub returns-in-Err-clause-law : goal.returns-in-Err-clause-law
returns-in-Err-clause-law g c = unread g.R.Source c.args.de.now _ _ c.in-Err.ensures.err

pub returns-in-Err-clause-refused : goal.returns-in-Err-clause-refused
returns-in-Err-clause-refused g c = λ o. unread_refuses g.R.Source c.args.de.now _ _ o c.in-Err.ensures.err

pub returns-in-Ok-from_head-clause-law : goal.returns-in-Ok-from_head-clause-law
returns-in-Ok-from_head-clause-law g c = float_read g.R.Source c.args.de.now c.deserialize_head.new.self c.in-Ok.head _ c.in-Ok.ensures.ok c.in-Ok.ensures.ready c.in-Ok-from_head.ensures.ok

pub returns-in-Err-from_head-clause-law : goal.returns-in-Err-from_head-clause-law
returns-in-Err-from_head-clause-law g c = rw c.refuse.ensures.same (float_refused g.R.Source c.args.de.now c.deserialize_head.new.self c.in-Ok.head c.in-Ok.ensures.ok _ _ c.in-Err-from_head.ensures.err
    c.refuse.ensures.failed)

pub returns-in-Err-from_head-clause-refused : goal.returns-in-Err-from_head-clause-refused
returns-in-Err-from_head-clause-refused g c = λ _. rw c.refuse.ensures.same (float_refuses g.R.Source c.args.de.now c.deserialize_head.new.self c.in-Ok.head c.in-Ok.ensures.ok _ _ c.in-Err-from_head.ensures.err
    c.refuse.ensures.failed)
