use Rattle.std.proofs.Common.{rules, sym, subst}
use Rattle.std.specs.Prelude.{IsUtf8}
use Rattle.std.proofs.lemmas.Str.{IsUtf8-encode}
use Rattle.rmp_decode.proofs.content.pieces.char_of.Goals as goal

pub returns-in-Err : goal.returns-in-Err
returns-in-Err c = (λ d s e. c.in-Err.ensures.cases.0 (subst IsUtf8 (sym e) (IsUtf8-encode d s)), search rules)
