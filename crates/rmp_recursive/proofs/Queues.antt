-- A queue of which each item was read is read as a list of them.
use Rattle.std.proofs.Common.{◌≡◌, false, Ok, Global}
use Rattle.std.specs.declared.collections.VecDeque.{VecDeque}
use Rattle.rmp_wire.specs.declared.source.Source.{Ghosts}
use Rattle.rmp_wire.specs.Msg.{Msg}
use Rattle.rmp_decode.specs.Law.{Lawful, Readable}
use Rattle.rmp_decode.specs.Seq.{Opens}
use Rattle.rmp_decode.specs.declared.access.seq.SeqAccess.{SeqAccess}
use Rattle.rmp_decode.specs.declared.deserializer.Deserializer.{Deserializer}
use Rattle.rmp_decode.proofs.Laws.{lawful_ok}
use Rattle.rmp_decode.proofs.Seqs.{Values}
use Rattle.rmp_recursive.specs.Parts.{Row}
use Rattle.rmp_recursive.proofs.Parts.{row_done}

pub queue_row : {V : Type 0} (reads : Msg → V → Type 0) (m : Msg) → Readable (λ k (v : VecDeque V Global). Row reads k v.items) m → Readable (Row reads) m
queue_row reads m (v, h) = (v.items, h)

pub queue_done : {R C V : Type 0} (g : Ghosts R) (reads : Msg → V → Type 0) (old : Deserializer R C) (start mid : SeqAccess R C) (v : VecDeque V Global)
    → Opens g old start → Values g reads start mid v.items → (last : Deserializer R C) → mid.left ≡ 0 → last ≡ record mid.de.now { failed = false }
    → Lawful g (λ k (w : VecDeque V Global). Row reads k w.items) old last (Ok v)
queue_done {R} {C} {V} g reads old start mid v o r last z q =
    lawful_ok g (Row reads) (λ k (w : VecDeque V Global). Row reads k w.items) old last v.items v (λ m h. h)
    (row_done g reads old start mid v.items o r last z q)
