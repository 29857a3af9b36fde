use Rattle.std.proofs.lemmas.Bool.{false≢true}
use Rattle.rmp_decode.proofs.AnyReads.{text_short, text_invalid}
use Rattle.rmp_decode.proofs.access.any.RawAccess.text.Goals as goal
use Rattle.rmp_decode.proofs.access.any.RawAccess.text.Goals.{in-Ok+in-Ok-from_utf8, in-Ok+in-Err-from_utf8, in-Err}

pub returns-clause-err : goal.returns-clause-err
returns-clause-err g c = elim c.match-take.branch [
  | in-Ok+in-Ok-from_utf8 w ↦ rw w.result-is tt
  | in-Ok+in-Err-from_utf8 w ↦ let o = w.in-Ok.ensures in rw (w.result-is, w.de-is) (text_invalid g.R.Source c.args.self.de.now _ _ o.place
      w.in-Ok.bytes.items _ o.ok.0 o.ok.2 o.sound (λ u. let no = w.in-Err-from_utf8.ensures.succeeds u in absurd (false≢true no)))
  | in-Err w ↦ let e = w.in-Err.ensures in rw (w.result-is, w.de-is) (text_short g.R.Source c.args.self.de.now _ _ e.place _ e.err e.end e.fault)
]
