-- What was pulled is the front of the piece: the number of bytes that the source returned, at most the room.
use Rattle.std.proofs.Common.{◌≡◌, ◌∙◌, sym, inl, inr, ℕ, ◌≤◌, List, [], ◌++◌, length, take, arith}
use Rattle.std.proofs.lemmas.List.{length-take-le, length-append}
use Rattle.std.proofs.KnownBytes.{Consumes-nil, Consumes-kept}
use Rattle.rmp_wire.proofs.Copying.{pulled}
use Rattle.rmp_wire.proofs.Sources.{short_at_end}
use Rattle.rmp_wire.proofs.Told.{next_differs}
use Rattle.rmp_wire.proofs.slice.read_reader.pull_piece.Goals as goal

le_append : (n : ℕ) (a b : List ℕ) → n ≤ length a → n ≤ length (a ++ b)
le_append n a b h = omega (arith, length-append a b)

pub slice_bounds-piece-end-in-Ok : goal.slice_bounds-piece-end-in-Ok
slice_bounds-piece-end-in-Ok g c = le_append c.in-Ok.n c.pull.new.buf _ c.in-Ok.ensures.bound

pub slice_bounds-extend_from_slice-end : goal.slice_bounds-extend_from_slice-end
slice_bounds-extend_from_slice-end g c = sym (length-take-le c.in-Ok.n _ (le_append c.in-Ok.n c.pull.new.buf _ c.in-Ok.ensures.bound))

pub returns-in-Ok-eq0-clause-err : goal.returns-in-Ok-eq0-clause-err
returns-in-Ok-eq0-clause-err g c =
    let long : length c.pull.new.buf ≡ c.min-room.result = c.pull.auto.buf ∙ length-take-le c.min-room.result _ (omega arith) in (
      inl c.in-Ok-eq0.ensures.sound,
      λ same. (short_at_end _ c.args.most (c.in-Ok-eq0.ensures.end c.in-Ok-eq0.field-0-test (omega arith)) c.requires.wanted, c.from.ensures),
    )

pub returns-in-Ok-eq0-clause-lost : goal.returns-in-Ok-eq0-clause-lost
returns-in-Ok-eq0-clause-lost g c =
    let none = length-take-le c.in-Ok-eq0.field-0 c.pull.new.buf c.in-Ok-eq0.ensures.bound in
    (take c.in-Ok-eq0.field-0 c.pull.new.buf, omega (arith, none), c.in-Ok-eq0.ensures.bytes)

pub returns-in-Ok-extend_from_slice-clause-ok : goal.returns-in-Ok-extend_from_slice-clause-ok
returns-in-Ok-extend_from_slice-clause-ok g c =
    let long : length c.pull.new.buf ≡ c.min-room.result = c.pull.auto.buf ∙ length-take-le c.min-room.result _ (omega arith) in
    pulled _ _ c.pull.new.buf _ _ _ c.in-Ok.n c.args.most c.in-Ok.ensures.bound (omega arith) (omega (arith, c.in-Ok.ensures.bound)) c.in-Ok.ensures.bytes
    c.in-Ok-extend_from_slice.ensures.items

pub returns-in-Err-extend_from_slice-clause-lost : goal.returns-in-Err-extend_from_slice-clause-lost
returns-in-Err-extend_from_slice-clause-lost g c =
    let long : length c.pull.new.buf ≡ c.min-room.result = c.pull.auto.buf ∙ length-take-le c.min-room.result _ (omega arith) in
    let n : length (take c.in-Ok.n c.pull.new.buf) ≡ c.in-Ok.n = length-take-le c.in-Ok.n c.pull.new.buf c.in-Ok.ensures.bound in
    (take c.in-Ok.n c.pull.new.buf, omega (arith, c.in-Ok.ensures.bound), c.in-Ok.ensures.bytes)

pub returns-in-Err-clause-err : goal.returns-in-Err-clause-err
returns-in-Err-clause-err g c = (inr c.in-Err.ensures.fault, λ same. absurd (next_differs _ _ c.in-Err.ensures.fault same))

pub returns-in-Err-clause-lost : goal.returns-in-Err-clause-lost
returns-in-Err-clause-lost g c = ([], omega arith, Consumes-kept _ _ _ [] (Consumes-nil _) c.in-Err.ensures.kept)
