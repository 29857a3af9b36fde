-- Lists in one another: none is written as a byte, and what is read of the last of them.
use Rattle.std.proofs.Common.{◌≡◌, ◌∙◌, ap, None, List, Ok, false}
use Rattle.rmp_wire.specs.declared.source.Source.{Ghosts}
use Rattle.rmp_encode.specs.Trees.{byte_of}
use Rattle.rmp_encode.proofs.Packing.{slice_no_byte}
use Rattle.rmp_decode.specs.Law.{Lawful}
use Rattle.rmp_decode.specs.Seq.{Opens}
use Rattle.rmp_decode.specs.declared.access.seq.SeqAccess.{SeqAccess}
use Rattle.rmp_decode.specs.declared.deserializer.Deserializer.{Deserializer}
use Rattle.rmp_decode.proofs.Laws.{lawful_ok}
use Rattle.rmp_decode.proofs.Seqs.{Values}
use Rattle.rmp_recursive.specs.Parts.{Row}
use Rattle.rmp_recursive.proofs.Parts.{row_done}
use Rattle.test_recursive.specs.declared.recursive.Nested.{Nested, out-Nested}
use Rattle.test_recursive.specs.NestedLevels.{IsNested, nested_data, nested_is, nested_made}

pub nested_no_byte : (v : Nested) → byte_of (nested_data v) ≡ None
nested_no_byte v = ap byte_of (nested_is v) ∙ slice_no_byte _

pub nested_done : {R C : Type 0} (g : Ghosts R) (old : Deserializer R C) (start mid : SeqAccess R C) (vs : List Nested) → Opens g old start
    → Values g IsNested start mid vs → (last : Deserializer R C) (v : Nested) → vs ≡ (out-Nested v).sub.items → mid.left ≡ 0
    → last ≡ record mid.de.now { failed = false } → Lawful g IsNested old last (Ok v)
nested_done g old start mid vs o r last v e z q =
    lawful_ok g (Row IsNested) IsNested old last vs v (nested_made v vs e) (row_done g IsNested old start mid vs o r last z q)
