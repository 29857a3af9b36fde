-- A message alone, and with what follows it, is read alike.
use Rattle.std.specs.Prelude.{◌↔◌}
use Rattle.std.proofs.Common.{◌≡◌, ◌∙◌, sym, ap, ℕ, ◌+◌}
use Rattle.std.proofs.Common.{List, [], ◌++◌, length, take, drop, append_assoc}
use Rattle.std.proofs.lemmas.List.{append-nil, take-append-drop, take_at}
use Rattle.rmp_wire.specs.Msg.{Msg}
use Rattle.rmp_wire.specs.Spelling.{Spells}
use Rattle.rmp_wire.proofs.Unique.{spelled_once}
use Rattle.rmp_decode.specs.Law.{Begins}
use Rattle.rmp_scan.specs.Scans.{MessageEnds}

-- ---- a message alone, and with what follows it

pub same_end : (input : List ℕ) (n : ℕ) (b r : List ℕ) (m : Msg) → MessageEnds input n → Spells b m → input ≡ b ++ r → (length b ≡ n) × (b ≡ take n input)
same_end input n b r m k s e =
    let p = spelled_once m k.spelled.0 b k.bytes r k.rest s k.spelled.1 (sym e ∙ k.front) in
    let long : length b ≡ n = ap length p.0 ∙ sym k.long in
    (long, sym (ap (take n) e ∙ take_at b r n long))

pub alone : (P : Msg → Type 0) (room : ℕ) (input : List ℕ) (n : ℕ) → MessageEnds input n → Begins Spells P room (take n input) ↔ Begins Spells P room input
alone P room input n k = (
  λ b. record {
    bytes = b.bytes;
    rest = b.rest ++ drop n input;
    tree = b.tree;
    front = sym (take-append-drop n input) ∙ ap (λ z. z ++ drop n input) b.front ∙ append_assoc b.bytes b.rest (drop n input);
    spelled = b.spelled;
    fits = b.fits;
    holds = b.holds;
  },
  λ b.
      let p = same_end input n b.bytes b.rest b.tree k b.spelled b.front in
      record {
        bytes = b.bytes;
        rest = [];
        tree = b.tree;
        front = sym p.1 ∙ sym (append-nil b.bytes);
        spelled = b.spelled;
        fits = b.fits;
        holds = b.holds;
      },
)
