use Rattle.std.proofs.Common.{◌≡◌, ◌∙◌, ap, sym}
use Rattle.std.specs.Prelude.{◌⊎◌, Ok, Err}
use Rattle.hex.specs.declared.error.FromHexError.TheVariants.{OutOfMemory}
use Rattle.std.proofs.lemmas.Result.{IfOk-weaker}
use Rattle.hex.specs.Hex.{decode_of}
use Rattle.canon_lines.specs.Lines.{digits_in}
use Rattle.canon_lines.specs.Prints.{Puts}
use Rattle.canon_lines.proofs.Early.{line_early, hex_early}
use Rattle.canon_lines.proofs.Shown.{line_holds, hex_refused, puts_weaker}
use Rattle.canon_lines.proofs.lines.show_line.Goals as goal

pub returns-in-Ok-clause-shown : goal.returns-in-Ok-clause-shown
returns-in-Ok-clause-shown g c =
    let bytes = c.as_slice.result.now in
    let decoded : decode_of (digits_in c.args.line.now) ≡ Ok bytes = c.in-Ok.ensures.ok ∙ ap Ok (sym c.as_slice.ensures.value) in
    IfOk-weaker c.show.result (λ accepted. Puts g.W.Sink (λ out. g.S.Shows.shows bytes out accepted) c.args.sink.now c.show.new.sink) _
    (λ accepted p. puts_weaker g.W.Sink p (λ out q. line_holds g.S.Shows.shows c.args.line.now bytes out accepted decoded q)) c.show.ensures.shown

pub returns-in-Err-clause-shown : goal.returns-in-Err-clause-shown
returns-in-Err-clause-shown g c =
    let why : (c.in-Err.e ≡ OutOfMemory) ⊎ (decode_of (digits_in c.args.line.now) ≡ Err c.in-Err.e) = c.in-Err.ensures.err in
    hex_refused g.S.Shows.shows g.W.Sink _ _ c.args.line.now c.in-Err.e c.refuse_hex.result why c.refuse_hex.ensures.hex c.refuse_hex.ensures.refused
    c.refuse_hex.ensures.line

pub returns-in-Ok-clause-early : goal.returns-in-Ok-clause-early
returns-in-Ok-clause-early g c =
    let bytes = c.as_slice.result.now in
    let decoded : decode_of (digits_in c.args.line.now) ≡ Ok bytes = c.in-Ok.ensures.ok ∙ ap Ok (sym c.as_slice.ensures.value) in
    line_early g.W.Sink g.S.Shows.starts c.args.line.now bytes c.show.result c.args.sink.now c.show.new.sink decoded c.show.ensures.early

pub returns-in-Err-clause-early : goal.returns-in-Err-clause-early
returns-in-Err-clause-early g c =
    let why : (c.in-Err.e ≡ OutOfMemory) ⊎ (decode_of (digits_in c.args.line.now) ≡ Err c.in-Err.e) = c.in-Err.ensures.err in
    hex_early g.W.Sink g.S.Shows.starts c.args.line.now c.in-Err.e c.refuse_hex.result c.args.sink.now c.refuse_hex.new.sink why c.refuse_hex.ensures.early
