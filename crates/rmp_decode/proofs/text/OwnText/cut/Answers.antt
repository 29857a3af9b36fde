use Rattle.std.proofs.Common.{◌∙◌, sym, ap, arith, length}
use Rattle.std.proofs.lemmas.List.{length-take-le}
use Rattle.rmp_decode.proofs.Words.{all_fits}
use Rattle.rmp_decode.proofs.text.OwnText.cut.Goals as goal

pub returns-then-text-le30 : goal.returns-then-text-le30
returns-then-text-le30 c = c.new.ensures ∙ sym (all_fits c.args.text.now c.utf8.text (omega (arith, c.if-text-le30.true)))

pub slice_bounds-copy_from_slice-end-2 : goal.slice_bounds-copy_from_slice-end-2
slice_bounds-copy_from_slice-end-2 c =
    let same = ap length c.as_bytes.ensures.value in
    sym (length-take-le 30 c.as_bytes.result.now (omega (arith, c.if-text-le30.false, same)))

pub copy_from_slice-requires : goal.copy_from_slice-requires
copy_from_slice-requires c = slice_bounds-copy_from_slice-end-2 c
