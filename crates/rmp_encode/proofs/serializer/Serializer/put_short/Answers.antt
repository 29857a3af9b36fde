use Rattle.std.proofs.Common.{arith, refl, sym, ◌∙◌, ◌≡◌, ap, [], ◌∷◌, ◌+◌, drop, length, length-drop}
use Rattle.std.specs.Option.{unwrap_or}
use Rattle.std.proofs.lemmas.List.{drop_more}
use Rattle.std.proofs.lemmas.Result.{err_from_is_err_and}
use Rattle.std.specs.Prelude.{Err, Ok}
use Rattle.rmp_encode.specs.Ser.{settings_of}
use Rattle.rmp_encode.proofs.Going.{keeps_then}
use Rattle.rmp_encode.proofs.Leaves.{bin_too_long}
use Rattle.rmp_encode.proofs.Packed.{as_many, written_head, written_more, written_all, head_fails, piece_fails}
use Rattle.rmp_encode.proofs.Promises.{value_long, value_whole}
use Rattle.rmp_encode.proofs.serializer.Serializer.put_short.Goals as goal

pub returns-in_err-len : goal.returns-in_err-len
returns-in_err-len g c =
    let p = err_from_is_err_and c.from_residual.result c.from_residual.ensures.1 in
    let n = as_many (λ x. g.T.Serialize.data_of x (settings_of c.args.self.now).human) c.args.values.now in
    let long = c.in_err-len.ensures.long in
    rw (p.1, p.2) (value_long g.W.Sink _ _ _ c.in_err-len.ensures.refused long
    (bin_too_long g.W.Sink _ _ _ _ c.in_err-len.ensures.refused (omega (arith, n, long))))

pub returns-in_err-put_bin_head : goal.returns-in_err-put_bin_head
returns-in_err-put_bin_head g c =
    let p = err_from_is_err_and c.from_residual-in_err-put_bin_head.result c.from_residual-in_err-put_bin_head.ensures.1 in
    let e = c.in_err-put_bin_head.ensures in
    rw (p.1, p.2) (value_whole g.W.Sink _ (Err _) c.in_ok-len.ensures.fits
    (head_fails g.W.Sink (λ x. g.T.Serialize.data_of x (settings_of c.args.self.now).human) c.args.values.now _ c.in_ok-len.ensures.same
    c.in_ok-len.ensures.fits c.requires.small e.writes) e.keeps e.error)

pub loop-value-init : goal.loop-value-init
loop-value-init g c = record {
  within = omega arith;
  keeps = c.put_bin_head.ensures.keeps;
  writes = written_head g.W.Sink _ c.in_ok-len.ensures.same refl c.in_ok-put_bin_head.ensures.writes;
}

pub loop-value-preserved : goal.loop-value-preserved
loop-value-preserved g c =
    let x = c.value-item.result in
    let xs = c.args.values.now in
    let i = c.loop-value.value-index in
    let byte = rw c.is_human_readable-human.ensures at c.as_u8.ensures.byte in
    record {
      within = omega arith;
      keeps = keeps_then g.W.Sink c.loop-value.invariant.keeps c.put.ensures.keeps;
      writes = written_more g.W.Sink (x ∷ []) (drop_more xs i x c.loop-value-test.true ∙ ap (λ y. y ∷ drop (i + 1) xs) (sym c.value-item.is))
          (ap (λ n. n ∷ []) (c.unwrap_or-number.ensures ∙ ap (λ o. unwrap_or o 0) byte)) c.in_ok-put.ensures.writes c.loop-value.invariant.writes;
    }

pub returns-in_err-put : goal.returns-in_err-put
returns-in_err-put g c =
    let p = err_from_is_err_and c.from_residual-in_err-put.result c.from_residual-in_err-put.ensures.1 in
    let x = c.value-item.result in
    let xs = c.args.values.now in
    let i = c.loop-value.value-index in
    let byte = rw c.is_human_readable-human.ensures at c.as_u8.ensures.byte in
    let e = c.in_err-put.ensures in
    rw (p.1, p.2) (value_whole g.W.Sink _ (Err _) c.in_ok-len.ensures.fits (piece_fails g.W.Sink (x ∷ []) (drop (i + 1) xs)
    (drop_more xs i x c.loop-value-test.true ∙ ap (λ y. y ∷ drop (i + 1) xs) (sym c.value-item.is))
    (ap (λ n. n ∷ []) (c.unwrap_or-number.ensures ∙ ap (λ o. unwrap_or o 0) byte)) c.in_ok-len.ensures.fits c.requires.small
    e.writes c.loop-value.invariant.writes)
    (keeps_then g.W.Sink c.loop-value.invariant.keeps e.keeps) e.error)

pub returns : goal.returns
returns g c =
    let none : length (drop c.loop-value.value-index c.args.values.now) ≡ 0 =
    omega (arith, length-drop c.loop-value.value-index c.args.values.now, c.loop-value-test.false) in
    value_whole g.W.Sink _ (Ok _) c.in_ok-len.ensures.fits (written_all g.W.Sink c.in_ok-len.ensures.fits c.requires.small none c.loop-value.invariant.writes) c.loop-value.invariant.keeps tt
