use Rattle.std.proofs.Common.{false, true, refl, sym, inr}
use Rattle.std.proofs.lemmas.Result.{IfErr-weaker}
use Rattle.rmp_encode.specs.Calls.{named_settings, IsSpelled, ToVecFails}
use Rattle.rmp_encode.specs.Trees.{tree_of}
use Rattle.rmp_serde.proofs.CanonicalReads.{either, read_of, read_same, readable, written_else}
use Rattle.rmp_serde.proofs.canonical.from_slice_canonical_named.Goals as goal

pub returns-in-Err-clause-err : goal.returns-in-Err-clause-err
returns-in-Err-clause-err g c = λ ne v is deep spelled.
    c.in-Err.ensures.err ne (read_of (g.T.Deserialize.reads false true) g.T.RoundTrip.same named_settings (λ x. g.T.Serialize.data_of x false) c.args.input.now
    v 1024 (c.values_come_back.ensures.read (λ _. refl) named_settings v is) deep spelled)

pub returns-clause-err : goal.returns-clause-err
returns-clause-err g c =
    let w = c.in-Ok.value in
    let t = tree_of named_settings (g.T.Serialize.data_of w false) in
    IfErr-weaker c.if_written.result _ _ (λ e h ne v is deep spelled.
    written_else (g.T.Deserialize.reads false true) g.T.RoundTrip.same named_settings (λ x. g.T.Serialize.data_of x false) c.args.input.now
    (λ b. b.items) v w c.to_vec_named-written.result
    (sym (c.values_come_back.ensures.alike false v w (read_same (g.T.Deserialize.reads false true) g.T.RoundTrip.same named_settings (λ x. g.T.Serialize.data_of x false) c.args.input.now
    v w 1024 (c.values_come_back.ensures.only named_settings v is) spelled c.in-Ok.ensures.ok))) spelled
    (either (λ b. IsSpelled t b.items) (ToVecFails t) c.to_vec_named-written.result c.to_vec_named-written.ensures.bytes c.to_vec_named-written.ensures.err) (h ne))
    c.if_written.ensures.err

pub returns-clause-refused : goal.returns-clause-refused
returns-clause-refused g c =
    IfErr-weaker c.if_written.result _ _ (λ e h. inr (
      readable (g.T.Deserialize.reads false true) g.T.RoundTrip.same named_settings (λ x. g.T.Serialize.data_of x false) c.args.input.now c.in-Ok.value 1024
          c.in-Ok.ensures.ok,
      h,
    )) c.if_written.ensures.which
