use Rattle.std.proofs.Common.{false, sym, subst}
use Rattle.std.proofs.lemmas.Result.{err_from_is_err_and}
use Rattle.rmp_encode.specs.Calls.{named_settings, IsSpelled}
use Rattle.rmp_encode.specs.Trees.{tree_of}
use Rattle.rmp_serde.proofs.Conversions.{fails_so}
use Rattle.rmp_serde.proofs.value.convert.to_value_named.Goals as goal

pub returns-in_err-to_vec_named-clause-err : goal.returns-in_err-to_vec_named-clause-err
returns-in_err-to_vec_named-clause-err g c =
    let p = err_from_is_err_and c.from_residual.result c.from_residual.ensures.1 in
    rw (p.1, p.2) (fails_so _ _ c.in_err-to_vec_named.ensures.err)

pub returns-clause-ok : goal.returns-clause-ok
returns-clause-ok g c =
    let t = tree_of named_settings (g.T.Serialize.data_of c.args.value.now false) in
    c.read_back.ensures.ok t (subst (IsSpelled t) (sym c.deref.ensures.value) c.in_ok-to_vec_named.ensures.bytes)

pub returns-clause-err : goal.returns-clause-err
returns-clause-err g c =
    let t = tree_of named_settings (g.T.Serialize.data_of c.args.value.now false) in
    c.read_back.ensures.err t (subst (IsSpelled t) (sym c.deref.ensures.value) c.in_ok-to_vec_named.ensures.bytes)
