use Rattle.std.proofs.Common.{false, ◌∙◌, ap, subst, refl, Some}
use Rattle.std.proofs.lemmas.Result.{IfOk-weaker, IfErr-weaker}
use Rattle.rmp_decode.proofs.Whole.{none_begins}
use Rattle.rmp_decode.specs.Law.{Begins, Readable}
use Rattle.rmp_decode.specs.Readers.{source_setting}
use Rattle.rmp_encode.specs.Calls.{default_settings}
use Rattle.rmp_wire.specs.Cursors.{vec_ahead}
use Rattle.rmp_wire.specs.Spelling.{Spells}
use Rattle.rmp_serde.proofs.Conversions.{ahead_is, on_ok, value_read, value_unread}
use Rattle.rmp_serde.proofs.Lowering.{value_spelled}
use Rattle.rmp_serde.proofs.value.convert.from_value.Goals as goal

pub returns-in-Ok-clause-ok : goal.returns-in-Ok-clause-ok
returns-in-Ok-clause-ok g c =
    let all = ahead_is c.new.result c.in-Ok.bytes c.new.ensures.inner c.new.ensures.position in
    let reads = g.T.Deserialize.reads false false in
    IfOk-weaker c.from_read.result _ _ (λ v b. (value_read reads default_settings c.args.value.now c.in-Ok.bytes.items c.in-Ok.ensures.bytes v
    (subst (Begins Spells (λ m. reads m v) 1024) all b)).0) c.from_read.ensures.ok

pub returns-in-Ok-clause-within : goal.returns-in-Ok-clause-within
returns-in-Ok-clause-within g c =
    let all = ahead_is c.new.result c.in-Ok.bytes c.new.ensures.inner c.new.ensures.position in
    let reads = g.T.Deserialize.reads false false in
    on_ok c.from_read.result _ _ (λ v b. (value_read reads default_settings c.args.value.now c.in-Ok.bytes.items c.in-Ok.ensures.bytes v
    (subst (Begins Spells (λ m. reads m v) 1024) all b)).1) c.from_read.ensures.ok

pub returns-in-Ok-clause-err : goal.returns-in-Ok-clause-err
returns-in-Ok-clause-err g c =
    let all = ahead_is c.new.result c.in-Ok.bytes c.new.ensures.inner c.new.ensures.position in
    let reads = g.T.Deserialize.reads false false in
    IfErr-weaker c.from_read.result _ _ (λ e r ne deep is. value_unread reads default_settings c.args.value.now c.in-Ok.bytes.items c.in-Ok.ensures.bytes
    (none_begins false false (Readable reads) 1024 1024 (Some (vec_ahead c.new.result)) c.in-Ok.bytes.items refl refl (ap Some all)
    (r.refusal.explains ne refl)) deep is) c.from_read.ensures.err

pub returns-in-Ok-clause-refused : goal.returns-in-Ok-clause-refused
returns-in-Ok-clause-refused g c =
    let all = ahead_is c.new.result c.in-Ok.bytes c.new.ensures.inner c.new.ensures.position in
    IfErr-weaker c.from_read.result _ _ (λ e r ne. subst (λ z. g.T.Deserialize.refuses source_setting 0 0 (Some z) e)
    (all ∙ value_spelled default_settings c.args.value.now c.in-Ok.bytes.items c.in-Ok.ensures.bytes) r.refusal.refused) c.from_read.ensures.err
