use Rattle.std.proofs.Common.{◌≡◌, ◌∙◌, false, true, refl, sym, inr}
use Rattle.rmp_decode.specs.declared.error.Error.{Error}
use Rattle.rmp_decode.specs.declared.error.Error.TheVariants as errors
use Rattle.rmp_encode.specs.Calls.{IsSpelled, ToVecFails}
use Rattle.rmp_encode.specs.Trees.{tree_of}
use Rattle.rmp_serde.specs.Otherwise.{settings_for}
use Rattle.rmp_serde.proofs.CanonicalReads.{either, otherwise, read_of, read_same, written_else}
use Rattle.rmp_serde.proofs.canonical.from_slice_canonical_explained.Goals as goal

pub returns-in-Err-clause-err : goal.returns-in-Err-clause-err
returns-in-Err-clause-err g c = λ ne v is deep spelled.
    let s = settings_for c.args.structs in
    c.in-Err.ensures.err ne (read_of (g.T.Deserialize.reads false true) g.T.RoundTrip.same s (λ x. g.T.Serialize.data_of x false) c.args.input.now
    v 1024 (c.values_come_back.ensures.read (λ _. refl) s v is) deep spelled)

pub returns-in-Err-if_written-clause-err : goal.returns-in-Err-if_written-clause-err
returns-in-Err-if_written-clause-err g c = λ ne v is deep spelled.
    let s = settings_for c.args.structs in
    let w = c.in-Ok.value in
    let t = tree_of s (g.T.Serialize.data_of w false) in
    written_else (g.T.Deserialize.reads false true) g.T.RoundTrip.same s (λ x. g.T.Serialize.data_of x false) c.args.input.now
    (λ b. b.items) v w c.write_as-written.result
    (sym (c.values_come_back.ensures.alike false v w (read_same (g.T.Deserialize.reads false true) g.T.RoundTrip.same s (λ x. g.T.Serialize.data_of x false)
    c.args.input.now v w 1024 (c.values_come_back.ensures.only s v is) spelled c.in-Ok.ensures.ok))) spelled
    (either (λ b. IsSpelled t b.items) (ToVecFails t) c.write_as-written.result c.write_as-written.ensures.bytes c.write_as-written.ensures.err)
    (c.in-Err-if_written.ensures.err (λ q. ne (c.new.ensures.same ∙ q)))

pub returns-in-Err-if_written-clause-refused : goal.returns-in-Err-if_written-clause-refused
returns-in-Err-if_written-clause-refused g c =
    let s = settings_for c.args.structs in
    let w = c.in-Ok.value in
    let t = tree_of s (g.T.Serialize.data_of w false) in
    inr (record {
      value = w;
      read = c.in-Ok.ensures.ok;
      else = rw c.new.ensures.same c.in-Err-if_written.ensures.which;
      place = λ q. rw c.new.ensures.at
          (otherwise (g.T.Deserialize.reads false true) g.T.RoundTrip.same s (λ x. g.T.Serialize.data_of x false) c.args.input.now
          (λ b. b.items) w c.past_difference-position.result c.write_as-written.result
          (either (λ b. IsSpelled t b.items) (ToVecFails t) c.write_as-written.result c.write_as-written.ensures.bytes c.write_as-written.ensures.err)
          c.past_difference-position.ensures
          (c.in-Err-if_written.ensures.err (λ z.
          let u : ◌≡◌ {A = Error} errors.NotCanonical errors.OutOfMemory = sym q ∙ (c.new.ensures.same ∙ z) in absurd (cc))));
    })
