use Rattle.std.proofs.Common.{◌≡◌, ◌↔◌, drop}
use Rattle.rmp_serde.specs.Found.{unescaped}
use Rattle.rmp_serde.proofs.value.reference.key.means.Given as goal

abbrev pub invariant-loop-byte : goal.invariant-loop-byte
invariant-loop-byte l = (unescaped l.token ≡ l.text) ↔ (unescaped l.rest ≡ drop l.byte-index l.text)
