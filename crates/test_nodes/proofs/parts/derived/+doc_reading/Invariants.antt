use Rattle.std.proofs.Common.{◌+◌, ◌*◌, max, String}
use Rattle.std.specs.Prelude.{string_bytes}
use Rattle.std.specs.declared.alloc.Global.{Global}
use Rattle.rmp_wire.specs.Msg.{Msg}
use Rattle.rmp_decode.specs.Read.{IsRaw}
use Rattle.rmp_decode.specs.Rows.{AndThen, NoMore}
use Rattle.rmp_decode.specs.Seq.{OfRow}
use Rattle.test_nodes.specs.declared.parts.Doc.{Doc}
use Rattle.rmp_decode.proofs.Seqs.{Values}
use Rattle.rmp_decode.proofs.StructRuns.{StructRun}
use Rattle.test_nodes.specs.DocLevels.{IsDoc, doc_framed_names}
use Rattle.test_nodes.proofs.DocLevels.{DocFramedHeld0}
use Rattle.test_nodes.proofs.parts.derived.+doc_reading.Given as goal

-- The content of a variant nests below it, and an element no deeper than its list.
abbrev pub decreases-read_doc : goal.decreases-read_doc
decreases-read_doc g l = 10 * max 1 l.de.now.room

abbrev pub decreases-read_doc-newtype_variant_with+2 : goal.decreases-read_doc-newtype_variant_with+2
decreases-read_doc-newtype_variant_with+2 g l = 10 * max 1 l.de.now.room + 9

abbrev pub decreases-read_doc-newtype_variant_with+3 : goal.decreases-read_doc-newtype_variant_with+3
decreases-read_doc-newtype_variant_with+3 g l = 10 * max 1 l.de.now.room + 9

abbrev pub decreases-read_doc-newtype_variant_with+4 : goal.decreases-read_doc-newtype_variant_with+4
decreases-read_doc-newtype_variant_with+4 g l = 10 * max 1 l.de.now.room + 9

abbrev pub decreases-read_doc_framed_fields : goal.decreases-read_doc_framed_fields
decreases-read_doc_framed_fields g l = 10 * max 1 l.de.now.room + 6

abbrev pub decreases-read_doc_framed_fields-next_value_with+2 : goal.decreases-read_doc_framed_fields-next_value_with+2
decreases-read_doc_framed_fields-next_value_with+2 g l = 10 * max 1 l.de.now.room + 5

abbrev pub decreases-read_doc_box : goal.decreases-read_doc_box
decreases-read_doc_box g l = 10 * max 1 l.de.now.room + 2

abbrev pub decreases-read_doc_list : goal.decreases-read_doc_list
decreases-read_doc_list g l = 10 * max 1 l.de.now.room + 2

abbrev pub decreases-read_doc_list-next_element_with : goal.decreases-read_doc_list-next_element_with
decreases-read_doc_list-next_element_with g l = 10 * max 1 l.de.now.room + 1

abbrev pub decreases-read_doc_tuple_string_doc_list : goal.decreases-read_doc_tuple_string_doc_list
decreases-read_doc_tuple_string_doc_list g l = 10 * max 1 l.de.now.room + 8

abbrev pub decreases-read_doc_tuple_string_doc_list-next_element_with : goal.decreases-read_doc_tuple_string_doc_list-next_element_with
decreases-read_doc_tuple_string_doc_list-next_element_with g l = 10 * max 1 l.de.now.room + 7

abbrev pub decreases-read_doc_tuple_string_doc : goal.decreases-read_doc_tuple_string_doc
decreases-read_doc_tuple_string_doc g l = 10 * max 1 l.de.now.room + 6

abbrev pub decreases-read_doc_tuple_string_doc-next_element_with+2 : goal.decreases-read_doc_tuple_string_doc-next_element_with+2
decreases-read_doc_tuple_string_doc-next_element_with+2 g l = 10 * max 1 l.de.now.room + 5

abbrev pub invariant-read_doc_framed_fields-loop-fields : goal.invariant-read_doc_framed_fields-loop-fields
invariant-read_doc_framed_fields-loop-fields g l = StructRun g.R.Source (doc_framed_names (g.P.DocParts.reads_of g.C.SerializerConfig.human))
    (DocFramedHeld0 (g.P.DocParts.reads_of g.C.SerializerConfig.human)) l.initial.fields l.fields (l.slot0, (l.slot1, tt))

abbrev pub decreases-read_doc_framed_fields-loop-fields : goal.decreases-read_doc_framed_fields-loop-fields
decreases-read_doc_framed_fields-loop-fields g l = l.fields.left

abbrev pub invariant-read_doc_list-loop-items : goal.invariant-read_doc_list-loop-items
invariant-read_doc_list-loop-items g l = Values g.R.Source (IsDoc (g.P.DocParts.reads_of g.C.SerializerConfig.human)) l.initial.seq l.seq l.items.items

abbrev pub decreases-read_doc_list-loop-items : goal.decreases-read_doc_list-loop-items
decreases-read_doc_list-loop-items g l = l.seq.left

abbrev pub invariant-read_doc_tuple_string_doc_list-loop-items : goal.invariant-read_doc_tuple_string_doc_list-loop-items
invariant-read_doc_tuple_string_doc_list-loop-items g l = Values g.R.Source
    (λ (j : Msg) (q : String Global × Doc). OfRow (AndThen (λ j. IsRaw j (string_bytes q.0))
    (AndThen (λ j. (IsDoc (g.P.DocParts.reads_of g.C.SerializerConfig.human)) j q.1) NoMore)) j) l.initial.seq l.seq l.items.items

abbrev pub decreases-read_doc_tuple_string_doc_list-loop-items : goal.decreases-read_doc_tuple_string_doc_list-loop-items
decreases-read_doc_tuple_string_doc_list-loop-items g l = l.seq.left
