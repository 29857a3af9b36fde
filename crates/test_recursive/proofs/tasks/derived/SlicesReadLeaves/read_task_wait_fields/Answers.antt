use Rattle.rmp_decode.proofs.Laws.{lawful_ok, lawful_err}
use Rattle.test_recursive.proofs.tasks.derived.SlicesReadLeaves.read_task_wait_fields.Goals as goal

pub returns-in-Ok : goal.returns-in-Ok
returns-in-Ok g c = (record {
  law = lawful_ok _ _ _ _ _ _ _ (λ m r. r) c.in-Ok.ensures.law;
})

pub returns-in-Err : goal.returns-in-Err
returns-in-Err g c = record {
  law = lawful_err _ _ _ _ _ _ (λ m r. ((r.0.0, (r.0.1, tt)), r.1)) c.in-Err.ensures.law;
}
