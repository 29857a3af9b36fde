use Rattle.std.proofs.Common.{◌∙◌, sym, subst}
use Rattle.example_records.proofs.Log.{Replayed, one_more, all_read, no_memory}
use Rattle.example_records.proofs.records.replay.Goals as goal

pub loop-record-preserved : goal.loop-record-preserved
loop-record-preserved c = λ ms cut whole is_cut e.
    subst (λ z. Replayed ms cut z c.in-Ok.following.now) (sym c.in_ok-push-in-Ok.ensures.items)
    (one_more ms cut c.loop-record.records.items c.loop-record.rest.now _ _ (c.loop-record.invariant ms cut whole is_cut e) is_cut
    c.in-Ok.ensures.cut c.in-Ok.ensures.back)

pub returns-in-Err-clause-back : goal.returns-in-Err-clause-back
returns-in-Err-clause-back c = λ ms cut whole is_cut e.
    all_read ms cut c.loop-record.records.items c.loop-record.rest.now (c.loop-record.invariant ms cut whole is_cut e)
    (c.in-Err.ensures.whole (no_memory c.in-Err.error (sym c.is_memory.ensures ∙ c.if-is_memory.false)))
