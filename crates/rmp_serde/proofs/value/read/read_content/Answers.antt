use Rattle.std.proofs.lemmas.Result.{on_ok_weaker}
use Rattle.rmp_serde.proofs.value.read.read_content.Goals as goal

pub returns-in-Text-clause-ok : goal.returns-in-Text-clause-ok
returns-in-Text-clause-ok g c = rw c.in-Text.is (on_ok_weaker c.append_text.result
    (λ t. record { content = t.appended.content; taken = t.appended.taken; utf8 = t.utf8; whole = t.appended.whole }) c.append_text.ensures.ok)

pub returns-in-Text-clause-err : goal.returns-in-Text-clause-err
returns-in-Text-clause-err g c = rw c.in-Text.is c.append_text.ensures.err

pub returns-in-Bin-clause-ok : goal.returns-in-Bin-clause-ok
returns-in-Bin-clause-ok g c = rw c.in-Bin.is (on_ok_weaker c.append_content.result
    (λ t. record { content = t.content; taken = t.taken; utf8 = tt; whole = t.whole }) c.append_content.ensures.ok)

pub returns-in-Bin-clause-err : goal.returns-in-Bin-clause-err
returns-in-Bin-clause-err g c = rw c.in-Bin.is c.append_content.ensures.err

pub returns-in-Ext-clause-ok : goal.returns-in-Ext-clause-ok
returns-in-Ext-clause-ok g c = rw c.in-Ext.is (on_ok_weaker c.append_content-in-Ext.result
    (λ t. record { content = t.content; taken = t.taken; utf8 = tt; whole = t.whole }) c.append_content-in-Ext.ensures.ok)

pub returns-in-Ext-clause-err : goal.returns-in-Ext-clause-err
returns-in-Ext-clause-err g c = rw c.in-Ext.is c.append_content-in-Ext.ensures.err
