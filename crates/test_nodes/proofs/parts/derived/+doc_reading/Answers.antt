use Rattle.std.proofs.Common.{◌≡◌, ◌∙◌, refl, sym, ap, subst, None, Some, String, Box, max, rules, arith, false, length}
use Rattle.std.specs.Prelude.{◌<◌, Vec, string_bytes}
use Rattle.std.specs.declared.alloc.Global.{Global}
use Rattle.rmp_wire.specs.Msg.{Msg, no_items, item}
use Rattle.rmp_decode.specs.Read.{IsRaw}
use Rattle.rmp_decode.specs.Rows.{AndThen, NoMore}
use Rattle.rmp_decode.specs.Seq.{OfRow, IsOpen}
use Rattle.rmp_decode.specs.Variants.{OfVariant, Bare, Content}
use Rattle.rmp_recursive.specs.Parts.{Row}
use Rattle.test_nodes.specs.declared.parts.Doc.{Doc, out-Doc}
use Rattle.test_nodes.specs.declared.parts.Doc.TheViews.{out-roll-Doc}
use Rattle.test_nodes.specs.DocLevels.{DocCase, IsDoc, DocFramedFields, DocFramedRead, doc_framed_names, doc_names, doc_made, doc_variant}
use Rattle.test_nodes.specs.declared.parts.Id.{Id as TheId}
use Rattle.test_nodes.specs.declared.parts.Width.{Width as TheWidth}
use Rattle.std.proofs.lemmas.Result.{err_from_is_err_and}
use Rattle.rmp_decode.proofs.Laws.{lawful_err}
use Rattle.rmp_decode.proofs.Seqs.{
  values_start,
  values_step,
  via,
  run_start,
  run_step,
  seq_unopened,
  seq_take,
  seq_over,
  seq_done,
  and_then_count,
  no_more_count,
}
use Rattle.rmp_decode.proofs.Variants.{variant_err, variant_unopened, readable, given_read, given_refused}
use Rattle.test_nodes.specs.declared.parts.Doc.TheVariants.{rolls-Null, rolls-Wide, rolls-Framed, rolls-Array, rolls-Object}
use Rattle.rmp_decode.specs.FieldAccess.{IsStructOpen, TakesPlace}
use Rattle.rmp_decode.specs.Names.{bytes_of}
use Rattle.rmp_decode.proofs.FieldWiths.{field_taken, field_refused}
use Rattle.rmp_decode.proofs.StructRuns.{struct_start, struct_step, struct_place, struct_value, struct_met, struct_missing, struct_over, struct_done}
use Rattle.rmp_decode.proofs.Structs.{fields_unopened}
use Rattle.rmp_recursive.proofs.Fields.{same_then, field_steps, run_reference}
use Rattle.test_nodes.proofs.DocLevels.{
  DocFramedHeld0,
  doc_framed_whole,
  DocFramedSlot0,
  doc_framed_tree0,
  doc_framed_step0,
  doc_framed_gap0,
  doc_framed_lacks0,
  DocFramedSlot1,
  doc_framed_tree1,
  doc_framed_step1,
  doc_framed_gap1,
  doc_framed_lacks1,
}
use Rattle.rmp_recursive.proofs.Parts.{
  at_most,
  variant_done,
  vec_row,
  vec_done,
  row_unopened,
  row_refused,
  row_unkept,
  part_room,
  content_room_falls,
  row_short,
  lawful_at,
  lent_law,
  item_taken,
  item_refused,
  some_if,
  some_if_err,
  none_left,
  never_none,
}
use Rattle.test_nodes.proofs.parts.derived.+doc_reading.Goals as goal

pub read_doc-returns-in-Ok-unit_variant : goal.read_doc-returns-in-Ok-unit_variant
read_doc-returns-in-Ok-unit_variant g t c =
    let k = c.in-Ok-eq0-default in
    (record {
      law = variant_done g.R.Source (doc_names (g.P.DocParts.reads_of g.C.SerializerConfig.human))
          ((DocCase (g.P.DocParts.reads_of g.C.SerializerConfig.human)) (IsDoc (g.P.DocParts.reads_of g.C.SerializerConfig.human)))
          (IsDoc (g.P.DocParts.reads_of g.C.SerializerConfig.human)) _ _ _ (λ (u : Unit {0}) c. Bare c) 0 _ _
          ((doc_made (g.P.DocParts.reads_of g.C.SerializerConfig.human)) _)
          (λ k h. (ap out-Doc (sym rolls-Null) ∙ out-roll-Doc _, h))
          (c.in-Ok-unit_variant.ensures.ok _ 0 _ (rw k.field-0-0-test at k.ensures.opened)) (grind (arith, sym k.ensures.same_reference));
    })

pub read_doc-returns-in-Err-unit_variant : goal.read_doc-returns-in-Err-unit_variant
read_doc-returns-in-Err-unit_variant g t c =
    let k = c.in-Ok-eq0-default in
    record {
      law = lawful_err _ (λ m v. OfVariant (doc_names (g.P.DocParts.reads_of g.C.SerializerConfig.human))
          ((DocCase (g.P.DocParts.reads_of g.C.SerializerConfig.human)) (IsDoc (g.P.DocParts.reads_of g.C.SerializerConfig.human)) v) m) _ _ _ _
          (doc_variant (g.P.DocParts.reads_of g.C.SerializerConfig.human))
          (variant_err _ _ ((DocCase (g.P.DocParts.reads_of g.C.SerializerConfig.human)) (IsDoc (g.P.DocParts.reads_of g.C.SerializerConfig.human))) _ _ _
          (grind (arith, sym k.ensures.same_reference)) _ 0 _ (λ v k h. h.1)
          (c.in-Err-unit_variant.ensures.err _ 0 _ (rw k.field-0-0-test at k.ensures.opened)));
    }

pub read_doc-returns-in-Ok-newtype_variant_with : goal.read_doc-returns-in-Ok-newtype_variant_with
read_doc-returns-in-Ok-newtype_variant_with g t c =
    let k = c.in-Ok-eq1-default in
    (record {
      law = variant_done g.R.Source (doc_names (g.P.DocParts.reads_of g.C.SerializerConfig.human))
          ((DocCase (g.P.DocParts.reads_of g.C.SerializerConfig.human)) (IsDoc (g.P.DocParts.reads_of g.C.SerializerConfig.human)))
          (IsDoc (g.P.DocParts.reads_of g.C.SerializerConfig.human)) _ _ _
          (λ (a : TheWidth) c. Content (λ k. (g.P.DocParts.reads_of g.C.SerializerConfig.human).0 k a) c) 1 _ _
          ((doc_made (g.P.DocParts.reads_of g.C.SerializerConfig.human)) _)
          (λ k h. (_, ap out-Doc (sym (rolls-Wide _)) ∙ out-roll-Doc _, h))
          (given_read g.R.Source _ _ (λ k (a : TheWidth). (g.P.DocParts.reads_of g.C.SerializerConfig.human).0 k a)
          (doc_names (g.P.DocParts.reads_of g.C.SerializerConfig.human)) 1 _ _ (rw k.field-0-0-test at k.ensures.opened) _ _
          (λ rest gave s. lent_law g.R.Source _ _ (λ k (a : TheWidth). (g.P.DocParts.reads_of g.C.SerializerConfig.human).0 k a) (λ p q r h. h) _ rest gave
          s) _ c.in-Ok-newtype_variant_with.ensures.bare c.in-Ok-newtype_variant_with.ensures.part refl) (grind (arith, sym k.ensures.same_reference));
    })

pub read_doc-returns-in-Err-newtype_variant_with : goal.read_doc-returns-in-Err-newtype_variant_with
read_doc-returns-in-Err-newtype_variant_with g t c =
    let k = c.in-Ok-eq1-default in
    record {
      law = lawful_err _ (λ m v. OfVariant (doc_names (g.P.DocParts.reads_of g.C.SerializerConfig.human))
          ((DocCase (g.P.DocParts.reads_of g.C.SerializerConfig.human)) (IsDoc (g.P.DocParts.reads_of g.C.SerializerConfig.human)) v) m) _ _ _ _
          (doc_variant (g.P.DocParts.reads_of g.C.SerializerConfig.human))
          (variant_err _ _ ((DocCase (g.P.DocParts.reads_of g.C.SerializerConfig.human)) (IsDoc (g.P.DocParts.reads_of g.C.SerializerConfig.human))) _ _ _
          (grind (arith, sym k.ensures.same_reference)) _ 1 _ (λ v k h. readable _ k h.0 h.2)
          (given_refused g.R.Source _ _ (λ k (a : TheWidth). (g.P.DocParts.reads_of g.C.SerializerConfig.human).0 k a)
          (doc_names (g.P.DocParts.reads_of g.C.SerializerConfig.human)) 1 _ _ (rw k.field-0-0-test at k.ensures.opened) _ _
          (λ rest gave s. lent_law g.R.Source _ _ (λ k (a : TheWidth). (g.P.DocParts.reads_of g.C.SerializerConfig.human).0 k a) (λ p q r h. h) _ rest gave
          s) _ c.in-Err-newtype_variant_with.ensures.bare c.in-Err-newtype_variant_with.ensures.part refl));
    }

pub read_doc-newtype_variant_with-requires-in-Ok-eq2-default : goal.read_doc-newtype_variant_with-requires-in-Ok-eq2-default
read_doc-newtype_variant_with-requires-in-Ok-eq2-default g t c = λ b p q.
    let h = content_room_falls g.R.Source _ _ c.args.de.now _ c.in-Ok-eq2-default.ensures.opened b in
    let e = ap (λ (z : _). max 1 z.room) q in
    (omega (arith, h, e, c.decreases), ((λ a m. m), ((λ a m. m), (λ a m. m))))

pub read_doc-returns-in-Ok-newtype_variant_with-2 : goal.read_doc-returns-in-Ok-newtype_variant_with-2
read_doc-returns-in-Ok-newtype_variant_with-2 g t c =
    let k = c.in-Ok-eq2-default in
    (record {
      law = variant_done g.R.Source (doc_names (g.P.DocParts.reads_of g.C.SerializerConfig.human))
          ((DocCase (g.P.DocParts.reads_of g.C.SerializerConfig.human)) (IsDoc (g.P.DocParts.reads_of g.C.SerializerConfig.human)))
          (IsDoc (g.P.DocParts.reads_of g.C.SerializerConfig.human)) _ _ _
          (λ (a : TheId × Box Doc Global) c. Content (λ k. (DocFramedRead (g.P.DocParts.reads_of g.C.SerializerConfig.human))
          (IsDoc (g.P.DocParts.reads_of g.C.SerializerConfig.human)) k a) c) 2 _ _ ((doc_made (g.P.DocParts.reads_of g.C.SerializerConfig.human)) _)
          (λ k h. (_, ap out-Doc (sym (rolls-Framed _ _)) ∙ out-roll-Doc _, h))
          (given_read g.R.Source _ _ (λ k (a : TheId × Box Doc Global). (DocFramedRead (g.P.DocParts.reads_of g.C.SerializerConfig.human))
          (IsDoc (g.P.DocParts.reads_of g.C.SerializerConfig.human)) k a) (doc_names (g.P.DocParts.reads_of g.C.SerializerConfig.human)) 2 _ _
          (rw k.field-0-0-test at k.ensures.opened) _ _
          (λ rest gave s. lent_law g.R.Source _ _ (λ k (a : TheId × Box Doc Global). (DocFramedRead (g.P.DocParts.reads_of g.C.SerializerConfig.human))
          (IsDoc (g.P.DocParts.reads_of g.C.SerializerConfig.human)) k a) (λ p q r h. h) _ rest gave s) _ c.in-Ok-newtype_variant_with-2.ensures.bare
          c.in-Ok-newtype_variant_with-2.ensures.part refl) (grind (arith, sym k.ensures.same_reference));
    })

pub read_doc-returns-in-Err-newtype_variant_with-2 : goal.read_doc-returns-in-Err-newtype_variant_with-2
read_doc-returns-in-Err-newtype_variant_with-2 g t c =
    let k = c.in-Ok-eq2-default in
    record {
      law = lawful_err _ (λ m v. OfVariant (doc_names (g.P.DocParts.reads_of g.C.SerializerConfig.human))
          ((DocCase (g.P.DocParts.reads_of g.C.SerializerConfig.human)) (IsDoc (g.P.DocParts.reads_of g.C.SerializerConfig.human)) v) m) _ _ _ _
          (doc_variant (g.P.DocParts.reads_of g.C.SerializerConfig.human))
          (variant_err _ _ ((DocCase (g.P.DocParts.reads_of g.C.SerializerConfig.human)) (IsDoc (g.P.DocParts.reads_of g.C.SerializerConfig.human))) _ _ _
          (grind (arith, sym k.ensures.same_reference)) _ 2 _ (λ v k h. readable _ k h.0 h.2)
          (given_refused g.R.Source _ _ (λ k (a : TheId × Box Doc Global). (DocFramedRead (g.P.DocParts.reads_of g.C.SerializerConfig.human))
          (IsDoc (g.P.DocParts.reads_of g.C.SerializerConfig.human)) k a) (doc_names (g.P.DocParts.reads_of g.C.SerializerConfig.human)) 2 _ _
          (rw k.field-0-0-test at k.ensures.opened) _ _
          (λ rest gave s. lent_law g.R.Source _ _ (λ k (a : TheId × Box Doc Global). (DocFramedRead (g.P.DocParts.reads_of g.C.SerializerConfig.human))
          (IsDoc (g.P.DocParts.reads_of g.C.SerializerConfig.human)) k a) (λ p q r h. h) _ rest gave s) _ c.in-Err-newtype_variant_with-2.ensures.bare
          c.in-Err-newtype_variant_with-2.ensures.part refl));
    }

pub read_doc-newtype_variant_with-requires-in-Ok-eq3-default : goal.read_doc-newtype_variant_with-requires-in-Ok-eq3-default
read_doc-newtype_variant_with-requires-in-Ok-eq3-default g t c = λ b p q.
    let h = content_room_falls g.R.Source _ _ c.args.de.now _ c.in-Ok-eq3-default.ensures.opened b in
    let e = ap (λ (z : _). max 1 z.room) q in
    (omega (arith, h, e, c.decreases), ((λ a m. m), ((λ a m. m), (λ a m. m))))

pub read_doc-returns-in-Ok-newtype_variant_with-3 : goal.read_doc-returns-in-Ok-newtype_variant_with-3
read_doc-returns-in-Ok-newtype_variant_with-3 g t c =
    let k = c.in-Ok-eq3-default in
    (record {
      law = variant_done g.R.Source (doc_names (g.P.DocParts.reads_of g.C.SerializerConfig.human))
          ((DocCase (g.P.DocParts.reads_of g.C.SerializerConfig.human)) (IsDoc (g.P.DocParts.reads_of g.C.SerializerConfig.human)))
          (IsDoc (g.P.DocParts.reads_of g.C.SerializerConfig.human)) _ _ _
          (λ (a : Vec Doc Global) c. Content (λ k. Row (IsDoc (g.P.DocParts.reads_of g.C.SerializerConfig.human)) k a.items) c) 3 _ _
          ((doc_made (g.P.DocParts.reads_of g.C.SerializerConfig.human)) _)
          (λ k h. (_, ap out-Doc (sym (rolls-Array _)) ∙ out-roll-Doc _, h))
          (given_read g.R.Source _ _ (λ k (a : Vec Doc Global). Row (IsDoc (g.P.DocParts.reads_of g.C.SerializerConfig.human)) k a.items)
          (doc_names (g.P.DocParts.reads_of g.C.SerializerConfig.human)) 3 _ _ (rw k.field-0-0-test at k.ensures.opened) _ _
          (λ rest gave s. lent_law g.R.Source _ _ (λ k (a : Vec Doc Global). Row (IsDoc (g.P.DocParts.reads_of g.C.SerializerConfig.human)) k a.items)
          (λ p q r h. h) _ rest gave s) _ c.in-Ok-newtype_variant_with-3.ensures.bare c.in-Ok-newtype_variant_with-3.ensures.part refl)
          (grind (arith, sym k.ensures.same_reference));
    })

pub read_doc-returns-in-Err-newtype_variant_with-3 : goal.read_doc-returns-in-Err-newtype_variant_with-3
read_doc-returns-in-Err-newtype_variant_with-3 g t c =
    let k = c.in-Ok-eq3-default in
    record {
      law = lawful_err _ (λ m v. OfVariant (doc_names (g.P.DocParts.reads_of g.C.SerializerConfig.human))
          ((DocCase (g.P.DocParts.reads_of g.C.SerializerConfig.human)) (IsDoc (g.P.DocParts.reads_of g.C.SerializerConfig.human)) v) m) _ _ _ _
          (doc_variant (g.P.DocParts.reads_of g.C.SerializerConfig.human))
          (variant_err _ _ ((DocCase (g.P.DocParts.reads_of g.C.SerializerConfig.human)) (IsDoc (g.P.DocParts.reads_of g.C.SerializerConfig.human))) _ _ _
          (grind (arith, sym k.ensures.same_reference)) _ 3 _ (λ v k h. readable _ k h.0 h.2)
          (given_refused g.R.Source _ _ (λ k (a : Vec Doc Global). Row (IsDoc (g.P.DocParts.reads_of g.C.SerializerConfig.human)) k a.items)
          (doc_names (g.P.DocParts.reads_of g.C.SerializerConfig.human)) 3 _ _ (rw k.field-0-0-test at k.ensures.opened) _ _
          (λ rest gave s. lent_law g.R.Source _ _ (λ k (a : Vec Doc Global). Row (IsDoc (g.P.DocParts.reads_of g.C.SerializerConfig.human)) k a.items)
          (λ p q r h. h) _ rest gave s) _ c.in-Err-newtype_variant_with-3.ensures.bare c.in-Err-newtype_variant_with-3.ensures.part refl));
    }

pub read_doc-newtype_variant_with-requires-in-Ok : goal.read_doc-newtype_variant_with-requires-in-Ok
read_doc-newtype_variant_with-requires-in-Ok g t c = λ b p q.
    let h = content_room_falls g.R.Source _ _ c.args.de.now _ c.in-Ok.ensures.opened b in
    let e = ap (λ (z : _). max 1 z.room) q in
    (omega (arith, h, e, c.decreases), ((λ a m. m), ((λ a m. m), (λ a m. m))))

pub read_doc-returns-in-Ok-newtype_variant_with-4 : goal.read_doc-returns-in-Ok-newtype_variant_with-4
read_doc-returns-in-Ok-newtype_variant_with-4 g t c =
    let k = c.in-Ok in
    let at : k.field-0-0 ≡ 4 = omega (arith, k.field-0-0-test, k.ensures.below) in
    (record {
      law = variant_done g.R.Source (doc_names (g.P.DocParts.reads_of g.C.SerializerConfig.human))
          ((DocCase (g.P.DocParts.reads_of g.C.SerializerConfig.human)) (IsDoc (g.P.DocParts.reads_of g.C.SerializerConfig.human)))
          (IsDoc (g.P.DocParts.reads_of g.C.SerializerConfig.human)) _ _ _
          (λ (a : Vec (String Global × Doc) Global) c. Content
          (λ k. Row (λ j q. OfRow (AndThen (λ j. IsRaw j (string_bytes q.0))
          (AndThen (λ j. (IsDoc (g.P.DocParts.reads_of g.C.SerializerConfig.human)) j q.1) NoMore)) j) k a.items) c) 4 _ _
          ((doc_made (g.P.DocParts.reads_of g.C.SerializerConfig.human)) _)
          (λ k h. (_, ap out-Doc (sym (rolls-Object _)) ∙ out-roll-Doc _, h))
          (given_read g.R.Source _ _ (λ k (a : Vec (String Global × Doc) Global). Row
          (λ j q. OfRow (AndThen (λ j. IsRaw j (string_bytes q.0))
          (AndThen (λ j. (IsDoc (g.P.DocParts.reads_of g.C.SerializerConfig.human)) j q.1) NoMore)) j) k a.items)
          (doc_names (g.P.DocParts.reads_of g.C.SerializerConfig.human)) 4 _ _ (rw at at k.ensures.opened) _ _
          (λ rest gave s. lent_law g.R.Source _ _ (λ k (a : Vec (String Global × Doc) Global). Row
          (λ j q. OfRow (AndThen (λ j. IsRaw j (string_bytes q.0))
          (AndThen (λ j. (IsDoc (g.P.DocParts.reads_of g.C.SerializerConfig.human)) j q.1) NoMore)) j) k a.items) (λ p q r h. h) _ rest gave s) _
          c.in-Ok-newtype_variant_with-4.ensures.bare c.in-Ok-newtype_variant_with-4.ensures.part refl) (grind (arith, sym k.ensures.same_reference));
    })

pub read_doc-returns-in-Err-newtype_variant_with-4 : goal.read_doc-returns-in-Err-newtype_variant_with-4
read_doc-returns-in-Err-newtype_variant_with-4 g t c =
    let k = c.in-Ok in
    let at : k.field-0-0 ≡ 4 = omega (arith, k.field-0-0-test, k.ensures.below) in
    record {
      law = lawful_err _ (λ m v. OfVariant (doc_names (g.P.DocParts.reads_of g.C.SerializerConfig.human))
          ((DocCase (g.P.DocParts.reads_of g.C.SerializerConfig.human)) (IsDoc (g.P.DocParts.reads_of g.C.SerializerConfig.human)) v) m) _ _ _ _
          (doc_variant (g.P.DocParts.reads_of g.C.SerializerConfig.human))
          (variant_err _ _ ((DocCase (g.P.DocParts.reads_of g.C.SerializerConfig.human)) (IsDoc (g.P.DocParts.reads_of g.C.SerializerConfig.human))) _ _ _
          (grind (arith, sym k.ensures.same_reference)) _ 4 _ (λ v k h. readable _ k h.0 h.2)
          (given_refused g.R.Source _ _ (λ k (a : Vec (String Global × Doc) Global). Row
          (λ j q. OfRow (AndThen (λ j. IsRaw j (string_bytes q.0))
          (AndThen (λ j. (IsDoc (g.P.DocParts.reads_of g.C.SerializerConfig.human)) j q.1) NoMore)) j) k a.items)
          (doc_names (g.P.DocParts.reads_of g.C.SerializerConfig.human)) 4 _ _ (rw at at k.ensures.opened) _ _
          (λ rest gave s. lent_law g.R.Source _ _ (λ k (a : Vec (String Global × Doc) Global). Row
          (λ j q. OfRow (AndThen (λ j. IsRaw j (string_bytes q.0))
          (AndThen (λ j. (IsDoc (g.P.DocParts.reads_of g.C.SerializerConfig.human)) j q.1) NoMore)) j) k a.items) (λ p q r h. h) _ rest gave s) _
          c.in-Err-newtype_variant_with-4.ensures.bare c.in-Err-newtype_variant_with-4.ensures.part refl));
    }

pub read_doc-returns-in-Err : goal.read_doc-returns-in-Err
read_doc-returns-in-Err g t c = record {
  law = lawful_err _ (λ m v. OfVariant (doc_names (g.P.DocParts.reads_of g.C.SerializerConfig.human))
      ((DocCase (g.P.DocParts.reads_of g.C.SerializerConfig.human)) (IsDoc (g.P.DocParts.reads_of g.C.SerializerConfig.human)) v) m) _ _ _ _
      (doc_variant (g.P.DocParts.reads_of g.C.SerializerConfig.human))
      (variant_unopened _ _ ((DocCase (g.P.DocParts.reads_of g.C.SerializerConfig.human)) (IsDoc (g.P.DocParts.reads_of g.C.SerializerConfig.human))) _ _ _
      (search rules) _ (rw c.in-Err.is at c.deserialize_enum_by.follows.holds-at-none));
}

pub read_doc_box-returns-in-Err : goal.read_doc_box-returns-in-Err
read_doc_box-returns-in-Err g t c = record {
  law = lawful_err _ _ _ _ _ _ (λ m r. (r.0.value, r.1)) c.in-Err.ensures.law;
}

pub read_doc_list-returns-in_err-seq : goal.read_doc_list-returns-in_err-seq
read_doc_list-returns-in_err-seq g t c =
    let p = err_from_is_err_and c.from_residual.result c.from_residual.ensures.1 in
    rw (p.1, p.2) (record {
      law = lawful_err _ (Row (IsDoc (g.P.DocParts.reads_of g.C.SerializerConfig.human))) _ _ _ _
          (vec_row (IsDoc (g.P.DocParts.reads_of g.C.SerializerConfig.human)))
          (row_unopened g.R.Source (IsDoc (g.P.DocParts.reads_of g.C.SerializerConfig.human)) _ _ _
          (rw c.in_err-seq.was at c.deserialize_seq.follows.holds-at-none));
    })

pub read_doc_list-loop-items-init : goal.read_doc_list-loop-items-init
read_doc_list-loop-items-init g t c =
    rw c.new-items.ensures.items (values_start g.R.Source (IsDoc (g.P.DocParts.reads_of g.C.SerializerConfig.human)) c.in_ok-seq.seq
    c.in_ok-seq.ensures.opened.opened)

pub read_doc_list-next_element_with-requires : goal.read_doc_list-next_element_with-requires
read_doc_list-next_element_with-requires g t c =
    λ s some d l p q.
    let h = part_room g.R.Source c.args.de.now c.in_ok-seq.seq c.loop-items.seq _ c.in_ok-seq.ensures.opened c.loop-items.invariant.run d l in
    let e = ap (λ (z : _). max 1 z.room) q in
    (omega (arith, h, e, c.decreases), ((λ a m. m), ((λ a m. m), (λ a m. m))))

pub read_doc_list-returns-in_err-item : goal.read_doc_list-returns-in_err-item
read_doc_list-returns-in_err-item g t c =
    let p = err_from_is_err_and c.from_residual-in_err-item.result c.from_residual-in_err-item.ensures.1 in
    let r = c.loop-items.invariant in
    let e = c.in_err-item.ensures in
    let some = some_if_err c.loop-items.seq.left _ (e.none r.run.still.sound) in
    let f = item_refused g.R.Source (IsDoc (g.P.DocParts.reads_of g.C.SerializerConfig.human)) c.loop-items.seq c.next_element_with.new.self r.run.still
    e.list (λ p q r h. h) _ some
    (e.part r.run.still.sound some) in
    rw (p.1, p.2) (record {
      law = lawful_err _ (Row (IsDoc (g.P.DocParts.reads_of g.C.SerializerConfig.human))) _ _ _ _
          (vec_row (IsDoc (g.P.DocParts.reads_of g.C.SerializerConfig.human)))
          (row_refused g.R.Source (IsDoc (g.P.DocParts.reads_of g.C.SerializerConfig.human)) _ c.in_ok-seq.seq c.loop-items.seq c.loop-items.items.items
          c.in_ok-seq.ensures.opened r _
          c.next_element_with.new.self _ f (e.marked r.run.still.marked) (search rules));
    })

pub read_doc_list-loop-items-preserved : goal.read_doc_list-loop-items-preserved
read_doc_list-loop-items-preserved g t c =
    let r = c.loop-items.invariant in
    let e = c.in_ok-item.ensures in
    let is = c.in-Some.is in
    let some = some_if c.loop-items.seq.left c.in-Some.item _ is (e.none r.run.still.sound) in
    let k = item_taken g.R.Source (IsDoc (g.P.DocParts.reads_of g.C.SerializerConfig.human)) c.loop-items.seq c.next_element_with.new.self r.run.still
    e.list (λ p q r h. h) c.in-Some.item
    (rw is at (e.part r.run.still.sound some)) e.still in
    rw c.in_ok-push.ensures.items (values_step g.R.Source (IsDoc (g.P.DocParts.reads_of g.C.SerializerConfig.human)) c.in_ok-seq.seq c.loop-items.seq
    c.next_element_with.new.self c.loop-items.items.items c.in-Some.item r k e.same_reference)

pub read_doc_list-returns : goal.read_doc_list-returns
read_doc_list-returns g t c =
    let r = c.loop-items.invariant in
    let e = c.in_ok-item.ensures in
    let z = none_left c.loop-items.seq.left (λ l. never_none g.R.Source c.loop-items.seq c.next_element_with.new.self
    (rw c.in_default.is at (e.part r.run.still.sound l))) in
    let n = (e.none r.run.still.sound z).1 in
    let d = (c.in_ok-end.ensures.ok (subst IsOpen (sym n) r.run.still)).1 in
    record {
      law = vec_done g.R.Source (IsDoc (g.P.DocParts.reads_of g.C.SerializerConfig.human)) _ c.in_ok-seq.seq c.loop-items.seq c.loop-items.items
          c.in_ok-seq.ensures.opened r _ z
          (via c.end.new.self.0 (search rules) (d ∙ ap (λ s. record s.de.now { failed = false }) n));
    }

pub read_doc_list-returns-in_err-push : goal.read_doc_list-returns-in_err-push
read_doc_list-returns-in_err-push g t c =
    let p = err_from_is_err_and c.from_residual-in_err-push.result c.from_residual-in_err-push.ensures.1 in
    rw (p.1, p.2) (record {
      law = lawful_at g.R.Source _ _ _ c.next_element_with.new.self.de.now _
          (let same = sym c.in_ok-seq.ensures.same_reference ∙ sym c.loop-items.invariant.run.same_reference ∙ sym c.in_ok-item.ensures.same_reference
          in search rules) (
          let r = c.loop-items.invariant in
          let e = c.in_ok-item.ensures in
          let is = c.in-Some.is in
          let some = some_if c.loop-items.seq.left c.in-Some.item _ is (e.none r.run.still.sound) in
          let k = item_taken g.R.Source (IsDoc (g.P.DocParts.reads_of g.C.SerializerConfig.human)) c.loop-items.seq c.next_element_with.new.self r.run.still
          e.list (λ p q r h. h) c.in-Some.item
          (rw is at (e.part r.run.still.sound some)) e.still in
          let v = values_step g.R.Source (IsDoc (g.P.DocParts.reads_of g.C.SerializerConfig.human)) c.in_ok-seq.seq c.loop-items.seq c.next_element_with.new.self
          c.loop-items.items.items c.in-Some.item r k e.same_reference in
          lawful_err _ (Row (IsDoc (g.P.DocParts.reads_of g.C.SerializerConfig.human))) _ _ _ _
          (vec_row (IsDoc (g.P.DocParts.reads_of g.C.SerializerConfig.human)))
          (row_unkept g.R.Source (IsDoc (g.P.DocParts.reads_of g.C.SerializerConfig.human)) _ c.in_ok-seq.seq c.next_element_with.new.self _
          c.in_ok-seq.ensures.opened v _ refl));
    })

pub read_doc_list-returns-in_err-end : goal.read_doc_list-returns-in_err-end
read_doc_list-returns-in_err-end g t c =
    let r = c.loop-items.invariant in
    let e = c.in_ok-item.ensures in
    let z = none_left c.loop-items.seq.left (λ l. never_none g.R.Source c.loop-items.seq c.next_element_with.new.self
    (rw c.in_default.is at (e.part r.run.still.sound l))) in
    let n = (e.none r.run.still.sound z).1 in
    let d = (c.in_err-end.ensures.err (subst IsOpen (sym n) r.run.still)).0 in
    absurd (omega (arith, z, d, ap (λ s. s.left) n))

pub read_doc_tuple_string_doc_list-returns-in_err-seq : goal.read_doc_tuple_string_doc_list-returns-in_err-seq
read_doc_tuple_string_doc_list-returns-in_err-seq g t c =
    let p = err_from_is_err_and c.from_residual.result c.from_residual.ensures.1 in
    rw (p.1, p.2) (record {
      law = lawful_err _ (Row (λ (j : Msg) (q : String Global × Doc). OfRow
          (AndThen (λ j. IsRaw j (string_bytes q.0)) (AndThen (λ j. (IsDoc (g.P.DocParts.reads_of g.C.SerializerConfig.human)) j q.1) NoMore)) j)) _ _ _ _
          (vec_row (λ (j : Msg) (q : String Global × Doc). OfRow
          (AndThen (λ j. IsRaw j (string_bytes q.0)) (AndThen (λ j. (IsDoc (g.P.DocParts.reads_of g.C.SerializerConfig.human)) j q.1) NoMore)) j))
          (row_unopened g.R.Source (λ (j : Msg) (q : String Global × Doc). OfRow
          (AndThen (λ j. IsRaw j (string_bytes q.0)) (AndThen (λ j. (IsDoc (g.P.DocParts.reads_of g.C.SerializerConfig.human)) j q.1) NoMore)) j) _ _ _
          (rw c.in_err-seq.was at c.deserialize_seq.follows.holds-at-none));
    })

pub read_doc_tuple_string_doc_list-loop-items-init : goal.read_doc_tuple_string_doc_list-loop-items-init
read_doc_tuple_string_doc_list-loop-items-init g t c =
    rw c.new-items.ensures.items (values_start g.R.Source
    (λ (j : Msg) (q : String Global × Doc). OfRow (AndThen (λ j. IsRaw j (string_bytes q.0))
    (AndThen (λ j. (IsDoc (g.P.DocParts.reads_of g.C.SerializerConfig.human)) j q.1) NoMore)) j) c.in_ok-seq.seq c.in_ok-seq.ensures.opened.opened)

pub read_doc_tuple_string_doc_list-next_element_with-requires : goal.read_doc_tuple_string_doc_list-next_element_with-requires
read_doc_tuple_string_doc_list-next_element_with-requires g t c =
    λ s some d l p q.
    let h = part_room g.R.Source c.args.de.now c.in_ok-seq.seq c.loop-items.seq _ c.in_ok-seq.ensures.opened c.loop-items.invariant.run d l in
    let e = ap (λ (z : _). max 1 z.room) q in
    (omega (arith, h, e, c.decreases), ((λ a m. m), ((λ a m. m), (λ a m. m))))

pub read_doc_tuple_string_doc_list-returns-in_err-item : goal.read_doc_tuple_string_doc_list-returns-in_err-item
read_doc_tuple_string_doc_list-returns-in_err-item g t c =
    let p = err_from_is_err_and c.from_residual-in_err-item.result c.from_residual-in_err-item.ensures.1 in
    let r = c.loop-items.invariant in
    let e = c.in_err-item.ensures in
    let some = some_if_err c.loop-items.seq.left _ (e.none r.run.still.sound) in
    let f = item_refused g.R.Source (λ (j : Msg) (q : String Global × Doc). OfRow
    (AndThen (λ j. IsRaw j (string_bytes q.0)) (AndThen (λ j. (IsDoc (g.P.DocParts.reads_of g.C.SerializerConfig.human)) j q.1) NoMore)) j)
    c.loop-items.seq c.next_element_with.new.self r.run.still e.list (λ p q r h. h) _ some
    (e.part r.run.still.sound some) in
    rw (p.1, p.2) (record {
      law = lawful_err _ (Row (λ (j : Msg) (q : String Global × Doc). OfRow
          (AndThen (λ j. IsRaw j (string_bytes q.0)) (AndThen (λ j. (IsDoc (g.P.DocParts.reads_of g.C.SerializerConfig.human)) j q.1) NoMore)) j)) _ _ _ _
          (vec_row (λ (j : Msg) (q : String Global × Doc). OfRow
          (AndThen (λ j. IsRaw j (string_bytes q.0)) (AndThen (λ j. (IsDoc (g.P.DocParts.reads_of g.C.SerializerConfig.human)) j q.1) NoMore)) j))
          (row_refused g.R.Source (λ (j : Msg) (q : String Global × Doc). OfRow
          (AndThen (λ j. IsRaw j (string_bytes q.0)) (AndThen (λ j. (IsDoc (g.P.DocParts.reads_of g.C.SerializerConfig.human)) j q.1) NoMore)) j) _
          c.in_ok-seq.seq c.loop-items.seq c.loop-items.items.items c.in_ok-seq.ensures.opened r _
          c.next_element_with.new.self _ f (e.marked r.run.still.marked) (search rules));
    })

pub read_doc_tuple_string_doc_list-loop-items-preserved : goal.read_doc_tuple_string_doc_list-loop-items-preserved
read_doc_tuple_string_doc_list-loop-items-preserved g t c =
    let r = c.loop-items.invariant in
    let e = c.in_ok-item.ensures in
    let is = c.in-Some.is in
    let some = some_if c.loop-items.seq.left c.in-Some.item _ is (e.none r.run.still.sound) in
    let k = item_taken g.R.Source (λ (j : Msg) (q : String Global × Doc). OfRow
    (AndThen (λ j. IsRaw j (string_bytes q.0)) (AndThen (λ j. (IsDoc (g.P.DocParts.reads_of g.C.SerializerConfig.human)) j q.1) NoMore)) j)
    c.loop-items.seq c.next_element_with.new.self r.run.still e.list (λ p q r h. h) c.in-Some.item
    (rw is at (e.part r.run.still.sound some)) e.still in
    rw c.in_ok-push.ensures.items (values_step g.R.Source
    (λ (j : Msg) (q : String Global × Doc). OfRow (AndThen (λ j. IsRaw j (string_bytes q.0))
    (AndThen (λ j. (IsDoc (g.P.DocParts.reads_of g.C.SerializerConfig.human)) j q.1) NoMore)) j) c.in_ok-seq.seq c.loop-items.seq
    c.next_element_with.new.self c.loop-items.items.items c.in-Some.item r k e.same_reference)

pub read_doc_tuple_string_doc_list-returns : goal.read_doc_tuple_string_doc_list-returns
read_doc_tuple_string_doc_list-returns g t c =
    let r = c.loop-items.invariant in
    let e = c.in_ok-item.ensures in
    let z = none_left c.loop-items.seq.left (λ l. never_none g.R.Source c.loop-items.seq c.next_element_with.new.self
    (rw c.in_default.is at (e.part r.run.still.sound l))) in
    let n = (e.none r.run.still.sound z).1 in
    let d = (c.in_ok-end.ensures.ok (subst IsOpen (sym n) r.run.still)).1 in
    record {
      law = vec_done g.R.Source (λ (j : Msg) (q : String Global × Doc). OfRow
          (AndThen (λ j. IsRaw j (string_bytes q.0)) (AndThen (λ j. (IsDoc (g.P.DocParts.reads_of g.C.SerializerConfig.human)) j q.1) NoMore)) j) _
          c.in_ok-seq.seq c.loop-items.seq c.loop-items.items c.in_ok-seq.ensures.opened r _ z
          (via c.end.new.self.0 (search rules) (d ∙ ap (λ s. record s.de.now { failed = false }) n));
    }

pub read_doc_tuple_string_doc_list-returns-in_err-push : goal.read_doc_tuple_string_doc_list-returns-in_err-push
read_doc_tuple_string_doc_list-returns-in_err-push g t c =
    let p = err_from_is_err_and c.from_residual-in_err-push.result c.from_residual-in_err-push.ensures.1 in
    rw (p.1, p.2) (record {
      law = lawful_at g.R.Source _ _ _ c.next_element_with.new.self.de.now _
          (let same = sym c.in_ok-seq.ensures.same_reference ∙ sym c.loop-items.invariant.run.same_reference ∙ sym c.in_ok-item.ensures.same_reference
          in search rules) (
          let r = c.loop-items.invariant in
          let e = c.in_ok-item.ensures in
          let is = c.in-Some.is in
          let some = some_if c.loop-items.seq.left c.in-Some.item _ is (e.none r.run.still.sound) in
          let k = item_taken g.R.Source (λ (j : Msg) (q : String Global × Doc). OfRow
          (AndThen (λ j. IsRaw j (string_bytes q.0)) (AndThen (λ j. (IsDoc (g.P.DocParts.reads_of g.C.SerializerConfig.human)) j q.1) NoMore)) j)
          c.loop-items.seq c.next_element_with.new.self r.run.still e.list (λ p q r h. h) c.in-Some.item
          (rw is at (e.part r.run.still.sound some)) e.still in
          let v = values_step g.R.Source (λ (j : Msg) (q : String Global × Doc). OfRow
          (AndThen (λ j. IsRaw j (string_bytes q.0)) (AndThen (λ j. (IsDoc (g.P.DocParts.reads_of g.C.SerializerConfig.human)) j q.1) NoMore)) j)
          c.in_ok-seq.seq c.loop-items.seq c.next_element_with.new.self c.loop-items.items.items c.in-Some.item r k e.same_reference in
          lawful_err _ (Row (λ (j : Msg) (q : String Global × Doc). OfRow
          (AndThen (λ j. IsRaw j (string_bytes q.0)) (AndThen (λ j. (IsDoc (g.P.DocParts.reads_of g.C.SerializerConfig.human)) j q.1) NoMore)) j)) _ _ _ _
          (vec_row (λ (j : Msg) (q : String Global × Doc). OfRow
          (AndThen (λ j. IsRaw j (string_bytes q.0)) (AndThen (λ j. (IsDoc (g.P.DocParts.reads_of g.C.SerializerConfig.human)) j q.1) NoMore)) j))
          (row_unkept g.R.Source (λ (j : Msg) (q : String Global × Doc). OfRow
          (AndThen (λ j. IsRaw j (string_bytes q.0)) (AndThen (λ j. (IsDoc (g.P.DocParts.reads_of g.C.SerializerConfig.human)) j q.1) NoMore)) j) _
          c.in_ok-seq.seq c.next_element_with.new.self _ c.in_ok-seq.ensures.opened v _ refl));
    })

pub read_doc_tuple_string_doc_list-returns-in_err-end : goal.read_doc_tuple_string_doc_list-returns-in_err-end
read_doc_tuple_string_doc_list-returns-in_err-end g t c =
    let r = c.loop-items.invariant in
    let e = c.in_ok-item.ensures in
    let z = none_left c.loop-items.seq.left (λ l. never_none g.R.Source c.loop-items.seq c.next_element_with.new.self
    (rw c.in_default.is at (e.part r.run.still.sound l))) in
    let n = (e.none r.run.still.sound z).1 in
    let d = (c.in_err-end.ensures.err (subst IsOpen (sym n) r.run.still)).0 in
    absurd (omega (arith, z, d, ap (λ s. s.left) n))

pub read_doc_tuple_string_doc-returns-in-Err : goal.read_doc_tuple_string_doc-returns-in-Err
read_doc_tuple_string_doc-returns-in-Err g t c = record {
  law = seq_unopened g.R.Source (λ (v : String Global × Doc) ms. AndThen (λ j. IsRaw j (string_bytes v.0))
      (AndThen (λ j. (IsDoc (g.P.DocParts.reads_of g.C.SerializerConfig.human)) j v.1) NoMore) ms) _ _ _
      (rw c.in-Err.is at c.deserialize_seq.follows.holds-at-none);
}

pub read_doc_tuple_string_doc-returns-in-Err-next_element_with : goal.read_doc_tuple_string_doc-returns-in-Err-next_element_with
read_doc_tuple_string_doc-returns-in-Err-next_element_with g t c = (record {
  law = lawful_at g.R.Source _ _ _ c.next_element_with.new.self.de.now _
      (let same = c.in-Err-next_element_with.ensures.same_reference ∙ c.in-Ok.ensures.same_reference in search rules) (
      let o = c.in-Ok.ensures.opened in
      let r0 = run_start g.R.Source c.in-Ok.seq o.opened in
      let e = c.in-Err-next_element_with.ensures in
      let some = some_if_err c.in-Ok.seq.left _ (e.none r0.still.sound) in
      let f = item_refused g.R.Source (λ k (a : String Global). IsRaw k (string_bytes a)) c.in-Ok.seq c.next_element_with.new.self r0.still e.list
      (λ p q r h. h) _ some (e.part r0.still.sound some) in
      seq_take g.R.Source (λ (v : String Global × Doc) ms. AndThen (λ j. IsRaw j (string_bytes v.0))
      (AndThen (λ j. (IsDoc (g.P.DocParts.reads_of g.C.SerializerConfig.human)) j v.1) NoMore) ms) _ c.in-Ok.seq c.in-Ok.seq no_items o r0 _
      (λ k (a : String Global). IsRaw k (string_bytes a)) c.next_element_with.new.self _ f (e.marked r0.still.marked) refl
      (λ m ks v h. (v.0, h.0)));
})

pub read_doc_tuple_string_doc-returns-in-Ok-None : goal.read_doc_tuple_string_doc-returns-in-Ok-None
read_doc_tuple_string_doc-returns-in-Ok-None g t c = (record {
  law = lawful_at g.R.Source _ _ _ c.next_element_with.new.self.de.now _ (let same = c.in-Ok-None.ensures.same_reference ∙ c.in-Ok.ensures.same_reference
      in search rules) (
      let o = c.in-Ok.ensures.opened in
      let r0 = run_start g.R.Source c.in-Ok.seq o.opened in
      let e = c.in-Ok-None.ensures in
      let z = none_left c.in-Ok.seq.left (λ l. never_none g.R.Source c.in-Ok.seq c.next_element_with.new.self
      (rw c.in-Ok-None.field-0-is at (e.part r0.still.sound l))) in
      row_short g.R.Source (λ (v : String Global × Doc) ms. AndThen (λ j. IsRaw j (string_bytes v.0))
      (AndThen (λ j. (IsDoc (g.P.DocParts.reads_of g.C.SerializerConfig.human)) j v.1) NoMore) ms) _ c.in-Ok.seq c.in-Ok.seq no_items o r0 _
      (λ k (a : String Global). IsRaw k (string_bytes a)) _ z (ap (λ s. s.de.now) (e.none r0.still.sound z).1)
      (λ m ks v h. (v.0, h.0)) (λ v h. h));
})

pub read_doc_tuple_string_doc-next_element_with-requires-2 : goal.read_doc_tuple_string_doc-next_element_with-requires-2
read_doc_tuple_string_doc-next_element_with-requires-2 g t c = λ s some d l p q.
    let o = c.in-Ok.ensures.opened in
    let r0 = run_start g.R.Source c.in-Ok.seq o.opened in
    let e0 = c.in-Ok-Some.ensures in
    let some0 = some_if c.in-Ok.seq.left c.in-Ok-Some.value _ c.in-Ok-Some.field-0-is (e0.none r0.still.sound) in
    let k0 = item_taken g.R.Source (λ k (a : String Global). IsRaw k (string_bytes a)) c.in-Ok.seq c.next_element_with.new.self r0.still e0.list
    (λ p q r h. h) c.in-Ok-Some.value
    (rw c.in-Ok-Some.field-0-is at (e0.part r0.still.sound some0)) e0.still in
    let r1 = run_step g.R.Source _ c.in-Ok.seq c.in-Ok.seq c.next_element_with.new.self no_items c.in-Ok-Some.value r0 k0 e0.same_reference in
    let h = part_room g.R.Source c.args.de.now c.in-Ok.seq c.next_element_with.new.self _ o r1 d l in
    let e = ap (λ (z : _). max 1 z.room) q in
    (omega (arith, h, e, c.decreases), ((λ a m. m), ((λ a m. m), (λ a m. m))))

pub read_doc_tuple_string_doc-returns-in-Err-next_element_with-2 : goal.read_doc_tuple_string_doc-returns-in-Err-next_element_with-2
read_doc_tuple_string_doc-returns-in-Err-next_element_with-2 g t c = (record {
  law = lawful_at g.R.Source _ _ _ c.next_element_with-2.new.self.de.now _
      (let same = c.in-Err-next_element_with-2.ensures.same_reference ∙ c.in-Ok-Some.ensures.same_reference ∙ c.in-Ok.ensures.same_reference
      in search rules) (
      let o = c.in-Ok.ensures.opened in
      let r0 = run_start g.R.Source c.in-Ok.seq o.opened in
      let e0 = c.in-Ok-Some.ensures in
      let some0 = some_if c.in-Ok.seq.left c.in-Ok-Some.value _ c.in-Ok-Some.field-0-is (e0.none r0.still.sound) in
      let k0 = item_taken g.R.Source (λ k (a : String Global). IsRaw k (string_bytes a)) c.in-Ok.seq c.next_element_with.new.self r0.still e0.list
      (λ p q r h. h) c.in-Ok-Some.value
      (rw c.in-Ok-Some.field-0-is at (e0.part r0.still.sound some0)) e0.still in
      let r1 = run_step g.R.Source _ c.in-Ok.seq c.in-Ok.seq c.next_element_with.new.self no_items c.in-Ok-Some.value r0 k0 e0.same_reference in
      let e = c.in-Err-next_element_with-2.ensures in
      let some = some_if_err c.next_element_with.new.self.left _ (e.none r1.still.sound) in
      let f = item_refused g.R.Source (λ k (a : Doc). (IsDoc (g.P.DocParts.reads_of g.C.SerializerConfig.human)) k a) c.next_element_with.new.self
      c.next_element_with-2.new.self r1.still e.list (λ p q r h. h) _ some (e.part r1.still.sound some) in
      seq_take g.R.Source (λ (v : String Global × Doc) ms. AndThen (λ j. IsRaw j (string_bytes v.0))
      (AndThen (λ j. (IsDoc (g.P.DocParts.reads_of g.C.SerializerConfig.human)) j v.1) NoMore) ms) _ c.in-Ok.seq c.next_element_with.new.self
      (item k0.tree no_items) o r1 _ (λ k (a : Doc). (IsDoc (g.P.DocParts.reads_of g.C.SerializerConfig.human)) k a) c.next_element_with-2.new.self _ f
      (e.marked r1.still.marked) refl
      (λ m ks v h. (v.1, h.1.0)));
})

pub read_doc_tuple_string_doc-returns-in-Ok-None-next_element_with : goal.read_doc_tuple_string_doc-returns-in-Ok-None-next_element_with
read_doc_tuple_string_doc-returns-in-Ok-None-next_element_with g t c = (record {
  law = lawful_at g.R.Source _ _ _ c.next_element_with-2.new.self.de.now _
      (let same = c.in-Ok-None-next_element_with.ensures.same_reference ∙ c.in-Ok-Some.ensures.same_reference ∙ c.in-Ok.ensures.same_reference
      in search rules) (
      let o = c.in-Ok.ensures.opened in
      let r0 = run_start g.R.Source c.in-Ok.seq o.opened in
      let e0 = c.in-Ok-Some.ensures in
      let some0 = some_if c.in-Ok.seq.left c.in-Ok-Some.value _ c.in-Ok-Some.field-0-is (e0.none r0.still.sound) in
      let k0 = item_taken g.R.Source (λ k (a : String Global). IsRaw k (string_bytes a)) c.in-Ok.seq c.next_element_with.new.self r0.still e0.list
      (λ p q r h. h) c.in-Ok-Some.value
      (rw c.in-Ok-Some.field-0-is at (e0.part r0.still.sound some0)) e0.still in
      let r1 = run_step g.R.Source _ c.in-Ok.seq c.in-Ok.seq c.next_element_with.new.self no_items c.in-Ok-Some.value r0 k0 e0.same_reference in
      let e = c.in-Ok-None-next_element_with.ensures in
      let z = none_left c.next_element_with.new.self.left
      (λ l. never_none g.R.Source c.next_element_with.new.self c.next_element_with-2.new.self
      (rw c.in-Ok-None-next_element_with.field-0-is at (e.part r1.still.sound l))) in
      row_short g.R.Source (λ (v : String Global × Doc) ms. AndThen (λ j. IsRaw j (string_bytes v.0))
      (AndThen (λ j. (IsDoc (g.P.DocParts.reads_of g.C.SerializerConfig.human)) j v.1) NoMore) ms) _ c.in-Ok.seq c.next_element_with.new.self
      (item k0.tree no_items) o r1 _ (λ k (a : Doc). (IsDoc (g.P.DocParts.reads_of g.C.SerializerConfig.human)) k a) _ z
      (ap (λ s. s.de.now) (e.none r1.still.sound z).1)
      (λ m ks v h. (v.1, h.1.0)) (λ v h. h.1));
})

pub read_doc_tuple_string_doc-returns-in-Ok-end : goal.read_doc_tuple_string_doc-returns-in-Ok-end
read_doc_tuple_string_doc-returns-in-Ok-end g t c = (record {
  law = lawful_at g.R.Source _ _ _ c.end.new.self.0 _
      (let same = c.in-Ok-Some-next_element_with.ensures.same_reference ∙ c.in-Ok-Some.ensures.same_reference ∙ c.in-Ok.ensures.same_reference
      in search rules) (
      let o = c.in-Ok.ensures.opened in
      let r0 = run_start g.R.Source c.in-Ok.seq o.opened in
      let e0 = c.in-Ok-Some.ensures in
      let some0 = some_if c.in-Ok.seq.left c.in-Ok-Some.value _ c.in-Ok-Some.field-0-is (e0.none r0.still.sound) in
      let k0 = item_taken g.R.Source (λ k (a : String Global). IsRaw k (string_bytes a)) c.in-Ok.seq c.next_element_with.new.self r0.still e0.list
      (λ p q r h. h) c.in-Ok-Some.value
      (rw c.in-Ok-Some.field-0-is at (e0.part r0.still.sound some0)) e0.still in
      let r1 = run_step g.R.Source _ c.in-Ok.seq c.in-Ok.seq c.next_element_with.new.self no_items c.in-Ok-Some.value r0 k0 e0.same_reference in
      let e1 = c.in-Ok-Some-next_element_with.ensures in
      let some1 = some_if c.next_element_with.new.self.left c.in-Ok-Some-next_element_with.value _ c.in-Ok-Some-next_element_with.field-0-is
      (e1.none r1.still.sound) in
      let k1 = item_taken g.R.Source (λ k (a : Doc). (IsDoc (g.P.DocParts.reads_of g.C.SerializerConfig.human)) k a) c.next_element_with.new.self
      c.next_element_with-2.new.self r1.still e1.list (λ p q r h. h) c.in-Ok-Some-next_element_with.value
      (rw c.in-Ok-Some-next_element_with.field-0-is at (e1.part r1.still.sound some1)) e1.still in
      let r2 = run_step g.R.Source _ c.in-Ok.seq c.next_element_with.new.self c.next_element_with-2.new.self (item k0.tree no_items)
      c.in-Ok-Some-next_element_with.value r1 k1 e1.same_reference in
      let e = c.in-Ok-end.ensures.ok r2.still in
      seq_done g.R.Source (λ (v : String Global × Doc) ms. AndThen (λ j. IsRaw j (string_bytes v.0))
      (AndThen (λ j. (IsDoc (g.P.DocParts.reads_of g.C.SerializerConfig.human)) j v.1) NoMore) ms) _ c.in-Ok.seq c.next_element_with-2.new.self
      (item k0.tree (item k1.tree no_items)) o r2 _ _ (k0.value, (k1.value, tt)) e.0 e.1);
})

pub read_doc_tuple_string_doc-returns-in-Err-end : goal.read_doc_tuple_string_doc-returns-in-Err-end
read_doc_tuple_string_doc-returns-in-Err-end g t c = (record {
  law = lawful_at g.R.Source _ _ _ c.end.new.self.0 _
      (let same = c.in-Ok-Some-next_element_with.ensures.same_reference ∙ c.in-Ok-Some.ensures.same_reference ∙ c.in-Ok.ensures.same_reference
      in search rules) (
      let o = c.in-Ok.ensures.opened in
      let r0 = run_start g.R.Source c.in-Ok.seq o.opened in
      let e0 = c.in-Ok-Some.ensures in
      let some0 = some_if c.in-Ok.seq.left c.in-Ok-Some.value _ c.in-Ok-Some.field-0-is (e0.none r0.still.sound) in
      let k0 = item_taken g.R.Source (λ k (a : String Global). IsRaw k (string_bytes a)) c.in-Ok.seq c.next_element_with.new.self r0.still e0.list
      (λ p q r h. h) c.in-Ok-Some.value
      (rw c.in-Ok-Some.field-0-is at (e0.part r0.still.sound some0)) e0.still in
      let r1 = run_step g.R.Source _ c.in-Ok.seq c.in-Ok.seq c.next_element_with.new.self no_items c.in-Ok-Some.value r0 k0 e0.same_reference in
      let e1 = c.in-Ok-Some-next_element_with.ensures in
      let some1 = some_if c.next_element_with.new.self.left c.in-Ok-Some-next_element_with.value _ c.in-Ok-Some-next_element_with.field-0-is
      (e1.none r1.still.sound) in
      let k1 = item_taken g.R.Source (λ k (a : Doc). (IsDoc (g.P.DocParts.reads_of g.C.SerializerConfig.human)) k a) c.next_element_with.new.self
      c.next_element_with-2.new.self r1.still e1.list (λ p q r h. h) c.in-Ok-Some-next_element_with.value
      (rw c.in-Ok-Some-next_element_with.field-0-is at (e1.part r1.still.sound some1)) e1.still in
      let r2 = run_step g.R.Source _ c.in-Ok.seq c.next_element_with.new.self c.next_element_with-2.new.self (item k0.tree no_items)
      c.in-Ok-Some-next_element_with.value r1 k1 e1.same_reference in
      let e = c.in-Err-end.ensures.err r2.still in
      seq_over g.R.Source (λ (v : String Global × Doc) ms. AndThen (λ j. IsRaw j (string_bytes v.0))
      (AndThen (λ j. (IsDoc (g.P.DocParts.reads_of g.C.SerializerConfig.human)) j v.1) NoMore) ms) _ c.in-Ok.seq c.next_element_with-2.new.self
      (item k0.tree (item k1.tree no_items)) o r2 _ _ e.0 e.1 2 (λ v. and_then_count _ _ _ (and_then_count _ _ _ no_more_count))
      (c.in-Ok-Some.value, c.in-Ok-Some-next_element_with.value) (k0.value, (k1.value, tt)));
})

pub read_doc_framed_fields-returns-in-Err : goal.read_doc_framed_fields-returns-in-Err
read_doc_framed_fields-returns-in-Err g t c = record {
  law = fields_unopened g.R.Source (doc_framed_names (g.P.DocParts.reads_of g.C.SerializerConfig.human))
      ((DocFramedFields (g.P.DocParts.reads_of g.C.SerializerConfig.human)) (IsDoc (g.P.DocParts.reads_of g.C.SerializerConfig.human))) _ _ _
      (rw c.in-Err.is at c.deserialize_struct.follows.holds-at-none);
}

pub read_doc_framed_fields-loop-fields-init : goal.read_doc_framed_fields-loop-fields-init
read_doc_framed_fields-loop-fields-init g t c = struct_start g.R.Source (doc_framed_names (g.P.DocParts.reads_of g.C.SerializerConfig.human))
    (DocFramedHeld0 (g.P.DocParts.reads_of g.C.SerializerConfig.human)) _ c.in-Ok.fields (None, (None, tt)) c.in-Ok.ensures.opened (refl, (refl, tt))

pub read_doc_framed_fields-loop-fields-preserved-in-Ok-next_value_with : goal.read_doc_framed_fields-loop-fields-preserved-in-Ok-next_value_with
read_doc_framed_fields-loop-fields-preserved-in-Ok-next_value_with g t c =
    let r = c.loop-fields.invariant in
    let k = c.in-Ok-Some-eq0.ensures in
    let x = rw c.in-Ok-Some-eq0.field-0-is at (k.some r.still) in
    let p = subst (TakesPlace g.R.Source c.loop-fields.fields c.next_field_by.new.self) c.in-Ok-Some-eq0.field-0-0-test x in
    let q = c.in-Ok-next_value_with.ensures in
    let took = field_taken g.R.Source _ _ c.next_field_by.new.self c.next_value_with.new.self p.still
    (DocFramedSlot0 (g.P.DocParts.reads_of g.C.SerializerConfig.human)) q.same
    (λ d rest gave l y. lent_law g.R.Source _ _ (DocFramedSlot0 (g.P.DocParts.reads_of g.C.SerializerConfig.human)) (λ a b n h. h) d rest gave y)
    c.in-Ok-next_value_with.value (q.part p.still) q.owes q.still in
    (struct_step g.R.Source (doc_framed_names (g.P.DocParts.reads_of g.C.SerializerConfig.human))
    (DocFramedHeld0 (g.P.DocParts.reads_of g.C.SerializerConfig.human)) c.in-Ok.fields c.loop-fields.fields c.next_field_by.new.self
    c.next_value_with.new.self (c.loop-fields.slot0, (c.loop-fields.slot1, tt))
    ((Some c.in-Ok-next_value_with.value), (c.loop-fields.slot1, tt)) 0 (DocFramedSlot0 (g.P.DocParts.reads_of g.C.SerializerConfig.human))
    c.in-Ok-next_value_with.value r p k.same k.same_reference took q.same q.same_reference
    ((doc_framed_step0 (g.P.DocParts.reads_of g.C.SerializerConfig.human)) (c.loop-fields.slot0, (c.loop-fields.slot1, tt)) c.in-Ok-next_value_with.value))

pub read_doc_framed_fields-returns-in-Err-next_value_with : goal.read_doc_framed_fields-returns-in-Err-next_value_with
read_doc_framed_fields-returns-in-Err-next_value_with g t c =
    let r = c.loop-fields.invariant in
    let k = c.in-Ok-Some-eq0.ensures in
    let x = rw c.in-Ok-Some-eq0.field-0-is at (k.some r.still) in
    let p = subst (TakesPlace g.R.Source c.loop-fields.fields c.next_field_by.new.self) c.in-Ok-Some-eq0.field-0-0-test x in
    let q = c.in-Err-next_value_with.ensures in
    let failed = field_refused g.R.Source _ _ c.next_field_by.new.self c.next_value_with.new.self p.still
    (DocFramedSlot0 (g.P.DocParts.reads_of g.C.SerializerConfig.human)) q.same
    (λ d rest gave l y. lent_law g.R.Source _ _ (DocFramedSlot0 (g.P.DocParts.reads_of g.C.SerializerConfig.human)) (λ a b n h. h) d rest gave y) _
    (q.part p.still) p.owes (q.marked p.still.marked) in
    record {
      law = struct_value g.R.Source (doc_framed_names (g.P.DocParts.reads_of g.C.SerializerConfig.human))
          (DocFramedHeld0 (g.P.DocParts.reads_of g.C.SerializerConfig.human))
          ((DocFramedFields (g.P.DocParts.reads_of g.C.SerializerConfig.human)) (IsDoc (g.P.DocParts.reads_of g.C.SerializerConfig.human))) _ c.in-Ok.fields
          c.in-Ok.ensures.opened _ _ c.loop-fields.fields r c.next_field_by.new.self
          c.next_value_with.new.self 0 (DocFramedSlot0 (g.P.DocParts.reads_of g.C.SerializerConfig.human)) _ p k.same k.same_reference failed
          (grind (
            arith,
            sym (q.same_reference ∙ k.same_reference
                ∙ run_reference g.R.Source (doc_framed_names (g.P.DocParts.reads_of g.C.SerializerConfig.human))
                (DocFramedHeld0 (g.P.DocParts.reads_of g.C.SerializerConfig.human)) _ _ _ r ∙ c.in-Ok.ensures.same_reference),
          ))
          (λ fs v m h e. (v.0, (doc_framed_tree0 (g.P.DocParts.reads_of g.C.SerializerConfig.human)) fs v m h e));
    }

pub read_doc_framed_fields-loop-fields-preserved : goal.read_doc_framed_fields-loop-fields-preserved
read_doc_framed_fields-loop-fields-preserved g t c =
    let r = c.loop-fields.invariant in
    let k = c.in-Ok-Some.ensures in
    let x = rw c.in-Ok-Some.field-0-is at (k.some r.still) in
    let below : c.in-Ok-Some.field-0-0 < 2 = subst (λ z. c.in-Ok-Some.field-0-0 < length z) (ap (λ z. bytes_of z.now) r.same.names ∙ r.names_same) x.below in
    let p = subst (TakesPlace g.R.Source c.loop-fields.fields c.next_field_by.new.self) (omega (arith, c.in-Ok-Some.field-0-0-test, below)) x in
    let q = c.in-Ok-next_value_with-2.ensures in
    let took = field_taken g.R.Source _ _ c.next_field_by.new.self c.next_value_with-in-Ok-Some.new.self p.still
    (DocFramedSlot1 (g.P.DocParts.reads_of g.C.SerializerConfig.human)) q.same
    (λ d rest gave l y. lent_law g.R.Source _ _ (DocFramedSlot1 (g.P.DocParts.reads_of g.C.SerializerConfig.human)) (λ a b n h. h) d rest gave y)
    c.in-Ok-next_value_with-2.value (q.part p.still) q.owes q.still in
    (struct_step g.R.Source (doc_framed_names (g.P.DocParts.reads_of g.C.SerializerConfig.human))
    (DocFramedHeld0 (g.P.DocParts.reads_of g.C.SerializerConfig.human)) c.in-Ok.fields c.loop-fields.fields c.next_field_by.new.self
    c.next_value_with-in-Ok-Some.new.self (c.loop-fields.slot0, (c.loop-fields.slot1, tt))
    (c.loop-fields.slot0, ((Some c.in-Ok-next_value_with-2.value), tt)) 1 (DocFramedSlot1 (g.P.DocParts.reads_of g.C.SerializerConfig.human))
    c.in-Ok-next_value_with-2.value r p k.same k.same_reference took q.same q.same_reference
    ((doc_framed_step1 (g.P.DocParts.reads_of g.C.SerializerConfig.human)) (c.loop-fields.slot0, (c.loop-fields.slot1, tt)) c.in-Ok-next_value_with-2.value))

pub read_doc_framed_fields-returns-in-Err-next_value_with-2 : goal.read_doc_framed_fields-returns-in-Err-next_value_with-2
read_doc_framed_fields-returns-in-Err-next_value_with-2 g t c =
    let r = c.loop-fields.invariant in
    let k = c.in-Ok-Some.ensures in
    let x = rw c.in-Ok-Some.field-0-is at (k.some r.still) in
    let below : c.in-Ok-Some.field-0-0 < 2 = subst (λ z. c.in-Ok-Some.field-0-0 < length z) (ap (λ z. bytes_of z.now) r.same.names ∙ r.names_same) x.below in
    let p = subst (TakesPlace g.R.Source c.loop-fields.fields c.next_field_by.new.self) (omega (arith, c.in-Ok-Some.field-0-0-test, below)) x in
    let q = c.in-Err-next_value_with-2.ensures in
    let failed = field_refused g.R.Source _ _ c.next_field_by.new.self c.next_value_with-in-Ok-Some.new.self p.still
    (DocFramedSlot1 (g.P.DocParts.reads_of g.C.SerializerConfig.human)) q.same
    (λ d rest gave l y. lent_law g.R.Source _ _ (DocFramedSlot1 (g.P.DocParts.reads_of g.C.SerializerConfig.human)) (λ a b n h. h) d rest gave y) _
    (q.part p.still) p.owes (q.marked p.still.marked) in
    record {
      law = struct_value g.R.Source (doc_framed_names (g.P.DocParts.reads_of g.C.SerializerConfig.human))
          (DocFramedHeld0 (g.P.DocParts.reads_of g.C.SerializerConfig.human))
          ((DocFramedFields (g.P.DocParts.reads_of g.C.SerializerConfig.human)) (IsDoc (g.P.DocParts.reads_of g.C.SerializerConfig.human))) _ c.in-Ok.fields
          c.in-Ok.ensures.opened _ _ c.loop-fields.fields r c.next_field_by.new.self
          c.next_value_with-in-Ok-Some.new.self 1 (DocFramedSlot1 (g.P.DocParts.reads_of g.C.SerializerConfig.human)) _ p k.same k.same_reference failed
          (grind (
            arith,
            sym (q.same_reference ∙ k.same_reference
                ∙ run_reference g.R.Source (doc_framed_names (g.P.DocParts.reads_of g.C.SerializerConfig.human))
                (DocFramedHeld0 (g.P.DocParts.reads_of g.C.SerializerConfig.human)) _ _ _ r ∙ c.in-Ok.ensures.same_reference),
          ))
          (λ fs v m h e. (v.1, (doc_framed_tree1 (g.P.DocParts.reads_of g.C.SerializerConfig.human)) fs v m h e));
    }

pub read_doc_framed_fields-next_value_with-requires-in-Ok-Some-clause-part : goal.read_doc_framed_fields-next_value_with-requires-in-Ok-Some-clause-part
read_doc_framed_fields-next_value_with-requires-in-Ok-Some-clause-part g t c = λ s d l p q.
    let same = same_then c.in-Ok.fields c.loop-fields.fields c.next_field_by.new.self c.loop-fields.invariant.same c.in-Ok-Some.ensures.same in
    let h = field_steps g.R.Source (doc_framed_names (g.P.DocParts.reads_of g.C.SerializerConfig.human)) c.args.de.now c.in-Ok.fields
    c.next_field_by.new.self c.in-Ok.ensures.opened same d l in
    let e = ap (λ (z : _). max 1 z.room) q in
    (omega (arith, h, at_most c.args.de.now.kept, e, c.decreases), ((λ a m. m), ((λ a m. m), (λ a m. m))))

pub read_doc_framed_fields-returns-in-Err-next_field_by : goal.read_doc_framed_fields-returns-in-Err-next_field_by
read_doc_framed_fields-returns-in-Err-next_field_by g t c =
    let r = c.loop-fields.invariant in
    record {
      law = struct_place g.R.Source (doc_framed_names (g.P.DocParts.reads_of g.C.SerializerConfig.human))
          (DocFramedHeld0 (g.P.DocParts.reads_of g.C.SerializerConfig.human))
          ((DocFramedFields (g.P.DocParts.reads_of g.C.SerializerConfig.human)) (IsDoc (g.P.DocParts.reads_of g.C.SerializerConfig.human))) _ c.in-Ok.fields
          c.in-Ok.ensures.opened _ _ c.loop-fields.fields r _ _ c.next_field_by.new.self _
          (c.in-Err-next_field_by.ensures.err r.still) (grind (
            arith,
            sym (c.in-Err-next_field_by.ensures.same_reference
                ∙ run_reference g.R.Source (doc_framed_names (g.P.DocParts.reads_of g.C.SerializerConfig.human))
                (DocFramedHeld0 (g.P.DocParts.reads_of g.C.SerializerConfig.human)) _ _ _ r ∙ c.in-Ok.ensures.same_reference),
          ));
    }

pub read_doc_framed_fields-returns-in-Err-given_or : goal.read_doc_framed_fields-returns-in-Err-given_or
read_doc_framed_fields-returns-in-Err-given_or g t c =
    let r = c.loop-fields.invariant in
    let k = c.in-Ok-None.ensures in
    let d = struct_met g.R.Source (doc_framed_names (g.P.DocParts.reads_of g.C.SerializerConfig.human))
    (DocFramedHeld0 (g.P.DocParts.reads_of g.C.SerializerConfig.human)) c.in-Ok.fields c.loop-fields.fields c.next_field_by.new.self
    (c.loop-fields.slot0, (c.loop-fields.slot1, tt)) r
    (rw c.in-Ok-None.field-0-is at (k.none r.still)) k.same k.same_reference in
    let same : c.next_field_by.new.self ≡ c.next_field_by.new.self = refl in
    let e = c.in-Err-given_or.ensures.err (ap (λ a. a.sound) same ∙ d.run.still.sound) in
    record {
      law = struct_missing g.R.Source (doc_framed_names (g.P.DocParts.reads_of g.C.SerializerConfig.human))
          (DocFramedHeld0 (g.P.DocParts.reads_of g.C.SerializerConfig.human))
          ((DocFramedFields (g.P.DocParts.reads_of g.C.SerializerConfig.human)) (IsDoc (g.P.DocParts.reads_of g.C.SerializerConfig.human))) _ c.in-Ok.fields
          c.in-Ok.ensures.opened _ _ c.next_field_by.new.self d _
          (via c.given_or.new.self.de.now (grind (
            arith,
            sym
                (c.in-Err-given_or.ensures.same_reference ∙ ap (λ a. a.de.ghost_name) same ∙ k.same_reference
                ∙ run_reference g.R.Source (doc_framed_names (g.P.DocParts.reads_of g.C.SerializerConfig.human))
                (DocFramedHeld0 (g.P.DocParts.reads_of g.C.SerializerConfig.human)) _ _ _ r ∙ c.in-Ok.ensures.same_reference),
          ))
          (ap (λ a. a.de.now) e.3 ∙ ap (λ a. a.de.now) same))
          ((doc_framed_gap0 (g.P.DocParts.reads_of g.C.SerializerConfig.human)) (c.loop-fields.slot0, (c.loop-fields.slot1, tt)) e.0)
          (λ m fs v h q. (doc_framed_lacks0 (g.P.DocParts.reads_of g.C.SerializerConfig.human)) (c.loop-fields.slot0, (c.loop-fields.slot1, tt)) e.0 fs
          v h q);
    }

pub read_doc_framed_fields-returns-in-Err-given_or-2 : goal.read_doc_framed_fields-returns-in-Err-given_or-2
read_doc_framed_fields-returns-in-Err-given_or-2 g t c =
    let r = c.loop-fields.invariant in
    let k = c.in-Ok-None.ensures in
    let d = struct_met g.R.Source (doc_framed_names (g.P.DocParts.reads_of g.C.SerializerConfig.human))
    (DocFramedHeld0 (g.P.DocParts.reads_of g.C.SerializerConfig.human)) c.in-Ok.fields c.loop-fields.fields c.next_field_by.new.self
    (c.loop-fields.slot0, (c.loop-fields.slot1, tt)) r
    (rw c.in-Ok-None.field-0-is at (k.none r.still)) k.same k.same_reference in
    let same : c.given_or.new.self ≡ c.next_field_by.new.self = c.in-Ok-given_or.ensures.ok.1 in
    let e = c.in-Err-given_or-2.ensures.err (ap (λ a. a.sound) same ∙ d.run.still.sound) in
    record {
      law = struct_missing g.R.Source (doc_framed_names (g.P.DocParts.reads_of g.C.SerializerConfig.human))
          (DocFramedHeld0 (g.P.DocParts.reads_of g.C.SerializerConfig.human))
          ((DocFramedFields (g.P.DocParts.reads_of g.C.SerializerConfig.human)) (IsDoc (g.P.DocParts.reads_of g.C.SerializerConfig.human))) _ c.in-Ok.fields
          c.in-Ok.ensures.opened _ _ c.next_field_by.new.self d _
          (via c.given_or-2.new.self.de.now (grind (
            arith,
            sym
                (c.in-Err-given_or-2.ensures.same_reference ∙ ap (λ a. a.de.ghost_name) same ∙ k.same_reference
                ∙ run_reference g.R.Source (doc_framed_names (g.P.DocParts.reads_of g.C.SerializerConfig.human))
                (DocFramedHeld0 (g.P.DocParts.reads_of g.C.SerializerConfig.human)) _ _ _ r ∙ c.in-Ok.ensures.same_reference),
          ))
          (ap (λ a. a.de.now) e.3 ∙ ap (λ a. a.de.now) same))
          ((doc_framed_gap1 (g.P.DocParts.reads_of g.C.SerializerConfig.human)) (c.loop-fields.slot0, (c.loop-fields.slot1, tt)) e.0)
          (λ m fs v h q. (doc_framed_lacks1 (g.P.DocParts.reads_of g.C.SerializerConfig.human)) (c.loop-fields.slot0, (c.loop-fields.slot1, tt)) e.0 fs
          v h q);
    }

pub read_doc_framed_fields-returns-in-Ok-end : goal.read_doc_framed_fields-returns-in-Ok-end
read_doc_framed_fields-returns-in-Ok-end g t c =
    let r = c.loop-fields.invariant in
    let k = c.in-Ok-None.ensures in
    let d = struct_met g.R.Source (doc_framed_names (g.P.DocParts.reads_of g.C.SerializerConfig.human))
    (DocFramedHeld0 (g.P.DocParts.reads_of g.C.SerializerConfig.human)) c.in-Ok.fields c.loop-fields.fields c.next_field_by.new.self
    (c.loop-fields.slot0, (c.loop-fields.slot1, tt)) r
    (rw c.in-Ok-None.field-0-is at (k.none r.still)) k.same k.same_reference in
    let last = c.in-Ok-given_or-2.ensures.ok.1 ∙ c.in-Ok-given_or.ensures.ok.1 in
    let e = c.in-Ok-end.ensures.ok (subst IsStructOpen (sym last) d.run.still) in
    (record {
      law = struct_done g.R.Source (doc_framed_names (g.P.DocParts.reads_of g.C.SerializerConfig.human))
          (DocFramedHeld0 (g.P.DocParts.reads_of g.C.SerializerConfig.human))
          ((DocFramedFields (g.P.DocParts.reads_of g.C.SerializerConfig.human)) (IsDoc (g.P.DocParts.reads_of g.C.SerializerConfig.human))) _ c.in-Ok.fields
          c.in-Ok.ensures.opened _ _ c.next_field_by.new.self d _
          ((doc_framed_whole (g.P.DocParts.reads_of g.C.SerializerConfig.human)) (c.loop-fields.slot0, (c.loop-fields.slot1, tt))
          (c.in-Ok-given_or.value, c.in-Ok-given_or-2.value) c.in-Ok-given_or.ensures.ok.0 c.in-Ok-given_or-2.ensures.ok.0)
          (ap (λ a. a.left) (sym last) ∙ e.0)
          (via c.end.new.self.0 (grind (
            arith,
            sym (ap (λ a. a.de.ghost_name) last ∙ k.same_reference
                ∙ run_reference g.R.Source (doc_framed_names (g.P.DocParts.reads_of g.C.SerializerConfig.human))
                (DocFramedHeld0 (g.P.DocParts.reads_of g.C.SerializerConfig.human)) _ _ _ r ∙ c.in-Ok.ensures.same_reference),
          ))
          (e.1 ∙ ap (λ a. record a.de.now { failed = false }) last));
    })

pub read_doc_framed_fields-returns-in-Err-end : goal.read_doc_framed_fields-returns-in-Err-end
read_doc_framed_fields-returns-in-Err-end g t c =
    let r = c.loop-fields.invariant in
    let k = c.in-Ok-None.ensures in
    let d = struct_met g.R.Source (doc_framed_names (g.P.DocParts.reads_of g.C.SerializerConfig.human))
    (DocFramedHeld0 (g.P.DocParts.reads_of g.C.SerializerConfig.human)) c.in-Ok.fields c.loop-fields.fields c.next_field_by.new.self
    (c.loop-fields.slot0, (c.loop-fields.slot1, tt)) r
    (rw c.in-Ok-None.field-0-is at (k.none r.still)) k.same k.same_reference in
    let last = c.in-Ok-given_or-2.ensures.ok.1 ∙ c.in-Ok-given_or.ensures.ok.1 in
    let e = c.in-Err-end.ensures.err (subst IsStructOpen (sym last) d.run.still) in
    record {
      law = struct_over g.R.Source (doc_framed_names (g.P.DocParts.reads_of g.C.SerializerConfig.human))
          (DocFramedHeld0 (g.P.DocParts.reads_of g.C.SerializerConfig.human))
          ((DocFramedFields (g.P.DocParts.reads_of g.C.SerializerConfig.human)) (IsDoc (g.P.DocParts.reads_of g.C.SerializerConfig.human))) _ c.in-Ok.fields
          c.in-Ok.ensures.opened _ _ c.next_field_by.new.self d _
          (subst (λ a. 0 < a.left) last e.0)
          (via c.end.new.self.0 (grind (
            arith,
            sym (ap (λ a. a.de.ghost_name) last ∙ k.same_reference
                ∙ run_reference g.R.Source (doc_framed_names (g.P.DocParts.reads_of g.C.SerializerConfig.human))
                (DocFramedHeld0 (g.P.DocParts.reads_of g.C.SerializerConfig.human)) _ _ _ r ∙ c.in-Ok.ensures.same_reference),
          ))
          (e.1 ∙ ap (λ a. a.de.now) last));
    }
