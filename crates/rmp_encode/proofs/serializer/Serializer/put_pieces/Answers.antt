use Rattle.std.proofs.Common.{rules, arith, ◌∙◌, ◌≡◌}
use Rattle.std.specs.Slice.Iter.{chunks_rest}
use Rattle.std.proofs.lemmas.Result.{err_from_is_err_and}
use Rattle.std.specs.Prelude.{Err, Ok}
use Rattle.rmp_encode.specs.Ser.{settings_of}
use Rattle.rmp_encode.proofs.Going.{keeps_then}
use Rattle.rmp_encode.proofs.Leaves.{bin_too_long}
use Rattle.rmp_encode.proofs.Packed.{as_many, written_head, written_more, written_all, head_fails, piece_fails}
use Rattle.rmp_encode.proofs.Promises.{value_long, value_whole}
use Rattle.rmp_encode.proofs.serializer.Serializer.put_pieces.Goals as goal

pub returns-in_err-len : goal.returns-in_err-len
returns-in_err-len g c =
    let p = err_from_is_err_and c.from_residual.result c.from_residual.ensures.1 in
    let n = as_many (λ x. g.T.Serialize.data_of x (settings_of c.args.self.now).human) c.args.values.now in
    let long = c.in_err-len.ensures.long in
    rw (p.1, p.2) (value_long g.W.Sink _ _ _ c.in_err-len.ensures.refused long
    (bin_too_long g.W.Sink _ _ _ _ c.in_err-len.ensures.refused (omega (arith, n, long))))

pub returns-in_err-put_bin_head : goal.returns-in_err-put_bin_head
returns-in_err-put_bin_head g c =
    let p = err_from_is_err_and c.from_residual-in_err-put_bin_head.result c.from_residual-in_err-put_bin_head.ensures.1 in
    let e = c.in_err-put_bin_head.ensures in
    rw (p.1, p.2) (value_whole g.W.Sink _ (Err _) c.in_ok-len.ensures.fits
    (head_fails g.W.Sink (λ x. g.T.Serialize.data_of x (settings_of c.args.self.now).human) c.args.values.now _ c.in_ok-len.ensures.same
    c.in_ok-len.ensures.fits c.requires.small e.writes) e.keeps e.error)

pub loop-chunk-init : goal.loop-chunk-init
loop-chunk-init g c =
    let all : chunks_rest c.into_iter-chunk-iterator.result ≡ c.args.values.now = search rules in
    record {
      next = search rules;
      finite = tt;
      size = search rules;
      keeps = c.put_bin_head.ensures.keeps;
      writes = written_head g.W.Sink _ c.in_ok-len.ensures.same all c.in_ok-put_bin_head.ensures.writes;
    }

pub loop-chunk-preserved : goal.loop-chunk-preserved
loop-chunk-preserved g c =
    let steps = c.in-Some.ensures.steps in
    let size = c.loop-chunk.invariant.size in
    record {
      next = search rules;
      finite = tt;
      size = steps.0 ∙ size;
      keeps = keeps_then g.W.Sink c.loop-chunk.invariant.keeps c.put.ensures.keeps;
      writes = written_more g.W.Sink c.in-Some.chunk.now steps.1.0 (rw c.is_human_readable-human.ensures at c.fill.ensures.front)
          c.in_ok-put.ensures.writes c.loop-chunk.invariant.writes;
    }

pub returns-in_err-put : goal.returns-in_err-put
returns-in_err-put g c =
    let p = err_from_is_err_and c.from_residual-in_err-put.result c.from_residual-in_err-put.ensures.1 in
    let e = c.in_err-put.ensures in
    rw (p.1, p.2) (value_whole g.W.Sink _ (Err _) c.in_ok-len.ensures.fits (piece_fails g.W.Sink c.in-Some.chunk.now _ c.in-Some.ensures.steps.1.0
    (rw c.is_human_readable-human.ensures at c.fill.ensures.front) c.in_ok-len.ensures.fits c.requires.small e.writes
    c.loop-chunk.invariant.writes)
    (keeps_then g.W.Sink c.loop-chunk.invariant.keeps e.keeps) e.error)

pub returns : goal.returns
returns g c = value_whole g.W.Sink _ (Ok _) c.in_ok-len.ensures.fits (written_all g.W.Sink c.in_ok-len.ensures.fits c.requires.small c.in-None.ensures.steps.1.0 c.loop-chunk.invariant.writes) c.loop-chunk.invariant.keeps tt
