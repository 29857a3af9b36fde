use Rattle.std.proofs.Common.{◌≡◌, ◌∙◌, refl, sym, ap, subst, List, String, max, rules, arith, false}
use Rattle.std.specs.Int.{w64}
use Rattle.std.specs.String.{string_cmp, string_cmp_total}
use Rattle.std.specs.declared.collections.BTreeMap.{BTreeMap}
use Rattle.std.specs.Prelude.{Vec, Bool, ℤ, pos, negsuc, string_bytes}
use Rattle.std.specs.declared.alloc.Global.{Global}
use Rattle.rmp_decode.specs.Maps.{ReadsEntries, ReadsPairs, Collects, IsMapOpen}
use Rattle.rmp_decode.specs.Read.{IsSigned, IsRaw}
use Rattle.rmp_decode.specs.Seq.{IsOpen}
use Rattle.rmp_decode.specs.Variants.{OfVariant, Bare, Content}
use Rattle.rmp_recursive.specs.Parts.{Row}
use Rattle.test_json.specs.declared.json.Json.{Json, out-Json}
use Rattle.test_json.specs.declared.json.Json.TheViews.{out-roll-Json}
use Rattle.test_json.specs.JsonLevels.{JsonCase, IsJson, json_names, json_made, json_variant}
use Rattle.std.proofs.lemmas.Result.{err_from_is_err_and}
use Rattle.std.proofs.lemmas.Int.{to_z-of_z}
use Rattle.rmp_decode.proofs.Laws.{lawful_err}
use Rattle.rmp_decode.proofs.Maps.{flat, map_unopened, map_done, map_unkept, map_take, map_key, key_next, value_next, entries_step, gathers_start, gathers_step}
use Rattle.rmp_decode.proofs.Rows.{push}
use Rattle.rmp_decode.proofs.Seqs.{values_start, values_step, via}
use Rattle.rmp_decode.proofs.Variants.{variant_err, variant_unopened, readable, given_read, given_refused}
use Rattle.test_json.specs.declared.json.Json.TheVariants.{rolls-Null, rolls-Bool, rolls-Number, rolls-Text, rolls-List, rolls-Object}
use Rattle.rmp_recursive.proofs.Maps.{no_key, key_got, key_refused, value_got, value_refused, owing, to_come_some}
use Rattle.rmp_recursive.proofs.Parts.{
  variant_done,
  vec_row,
  vec_done,
  row_unopened,
  row_refused,
  row_unkept,
  part_room,
  content_room_falls,
  lawful_at,
  lent_law,
  item_taken,
  item_refused,
  some_if,
  some_if_err,
  none_left,
  never_none,
}
use Rattle.rmp_wire.specs.Msg as msg
use Rattle.test_json.proofs.json.derived.+json_reading.Goals as goal

pub read_json-returns-in-Ok-unit_variant : goal.read_json-returns-in-Ok-unit_variant
read_json-returns-in-Ok-unit_variant g t c =
    let k = c.in-Ok-eq0-default in
    (record {
      law = variant_done g.R.Source json_names (JsonCase IsJson) IsJson _ _ _ (λ (u : Unit {0}) c. Bare c) 0 _ _ (json_made _)
          (λ k h. (ap out-Json (sym rolls-Null) ∙ out-roll-Json _, h))
          (c.in-Ok-unit_variant.ensures.ok _ 0 _ (rw k.field-0-0-test at k.ensures.opened)) (grind (arith, sym k.ensures.same_reference));
    })

pub read_json-returns-in-Err-unit_variant : goal.read_json-returns-in-Err-unit_variant
read_json-returns-in-Err-unit_variant g t c =
    let k = c.in-Ok-eq0-default in
    record {
      law = lawful_err _ (λ m v. OfVariant json_names (JsonCase IsJson v) m) _ _ _ _ json_variant
          (variant_err _ _ (JsonCase IsJson) _ _ _ (grind (arith, sym k.ensures.same_reference)) _ 0 _ (λ v k h. h.1)
          (c.in-Err-unit_variant.ensures.err _ 0 _ (rw k.field-0-0-test at k.ensures.opened)));
    }

pub read_json-returns-in-Ok-newtype_variant_with : goal.read_json-returns-in-Ok-newtype_variant_with
read_json-returns-in-Ok-newtype_variant_with g t c =
    let k = c.in-Ok-eq1-default in
    (record {
      law = variant_done g.R.Source json_names (JsonCase IsJson) IsJson _ _ _ (λ (a : Bool) c. Content (λ k. k ≡ msg.truth a) c) 1 _ _ (json_made _)
          (λ k h. (_, ap out-Json (sym (rolls-Bool _)) ∙ out-roll-Json _, h))
          (given_read g.R.Source _ _ (λ k (a : Bool). k ≡ msg.truth a) json_names 1 _ _ (rw k.field-0-0-test at k.ensures.opened) _ _
          (λ rest gave s. lent_law g.R.Source _ _ (λ k (a : Bool). k ≡ msg.truth a) (λ p q r h. h) _ rest gave s) _
          c.in-Ok-newtype_variant_with.ensures.bare c.in-Ok-newtype_variant_with.ensures.part refl) (grind (arith, sym k.ensures.same_reference));
    })

pub read_json-returns-in-Err-newtype_variant_with : goal.read_json-returns-in-Err-newtype_variant_with
read_json-returns-in-Err-newtype_variant_with g t c =
    let k = c.in-Ok-eq1-default in
    record {
      law = lawful_err _ (λ m v. OfVariant json_names (JsonCase IsJson v) m) _ _ _ _ json_variant
          (variant_err _ _ (JsonCase IsJson) _ _ _ (grind (arith, sym k.ensures.same_reference)) _ 1 _ (λ v k h. readable _ k h.0 h.2)
          (given_refused g.R.Source _ _ (λ k (a : Bool). k ≡ msg.truth a) json_names 1 _ _ (rw k.field-0-0-test at k.ensures.opened) _ _
          (λ rest gave s. lent_law g.R.Source _ _ (λ k (a : Bool). k ≡ msg.truth a) (λ p q r h. h) _ rest gave s) _
          c.in-Err-newtype_variant_with.ensures.bare c.in-Err-newtype_variant_with.ensures.part refl));
    }

pub read_json-returns-in-Ok-newtype_variant_with-2 : goal.read_json-returns-in-Ok-newtype_variant_with-2
read_json-returns-in-Ok-newtype_variant_with-2 g t c =
    let k = c.in-Ok-eq2-default in
    rw (to_z-of_z w64 c.in-Ok-newtype_variant_with-2.value (search rules)) (record {
      law = variant_done g.R.Source json_names (JsonCase IsJson) IsJson _ _ _
          (λ (a : ℤ) c. Content (λ k. IsSigned (negsuc 9223372036854775807) (pos 9223372036854775807) k a) c) 2 _ _ (json_made _)
          (λ k h. (_, ap out-Json (sym (rolls-Number _)) ∙ out-roll-Json _, h))
          (given_read g.R.Source _ _ (λ k (a : ℤ). IsSigned (negsuc 9223372036854775807) (pos 9223372036854775807) k a) json_names 2 _ _
          (rw k.field-0-0-test at k.ensures.opened) _ _
          (λ rest gave s. lent_law g.R.Source _ _ (λ k (a : ℤ). IsSigned (negsuc 9223372036854775807) (pos 9223372036854775807) k a) (λ p q r h. h) _ rest
          gave s) _ c.in-Ok-newtype_variant_with-2.ensures.bare c.in-Ok-newtype_variant_with-2.ensures.part refl)
          (grind (arith, sym k.ensures.same_reference));
    })

pub read_json-returns-in-Err-newtype_variant_with-2 : goal.read_json-returns-in-Err-newtype_variant_with-2
read_json-returns-in-Err-newtype_variant_with-2 g t c =
    let k = c.in-Ok-eq2-default in
    record {
      law = lawful_err _ (λ m v. OfVariant json_names (JsonCase IsJson v) m) _ _ _ _ json_variant
          (variant_err _ _ (JsonCase IsJson) _ _ _ (grind (arith, sym k.ensures.same_reference)) _ 2 _ (λ v k h. readable _ k h.0 h.2)
          (given_refused g.R.Source _ _ (λ k (a : ℤ). IsSigned (negsuc 9223372036854775807) (pos 9223372036854775807) k a) json_names 2 _ _
          (rw k.field-0-0-test at k.ensures.opened) _ _
          (λ rest gave s. lent_law g.R.Source _ _ (λ k (a : ℤ). IsSigned (negsuc 9223372036854775807) (pos 9223372036854775807) k a) (λ p q r h. h) _ rest
          gave s) _ c.in-Err-newtype_variant_with-2.ensures.bare c.in-Err-newtype_variant_with-2.ensures.part refl));
    }

pub read_json-returns-in-Ok-newtype_variant_with-3 : goal.read_json-returns-in-Ok-newtype_variant_with-3
read_json-returns-in-Ok-newtype_variant_with-3 g t c =
    let k = c.in-Ok-eq3-default in
    (record {
      law = variant_done g.R.Source json_names (JsonCase IsJson) IsJson _ _ _ (λ (a : String Global) c. Content (λ k. IsRaw k (string_bytes a)) c) 3 _ _
          (json_made _)
          (λ k h. (_, ap out-Json (sym (rolls-Text _)) ∙ out-roll-Json _, h))
          (given_read g.R.Source _ _ (λ k (a : String Global). IsRaw k (string_bytes a)) json_names 3 _ _ (rw k.field-0-0-test at k.ensures.opened) _ _
          (λ rest gave s. lent_law g.R.Source _ _ (λ k (a : String Global). IsRaw k (string_bytes a)) (λ p q r h. h) _ rest gave s) _
          c.in-Ok-newtype_variant_with-3.ensures.bare c.in-Ok-newtype_variant_with-3.ensures.part refl) (grind (arith, sym k.ensures.same_reference));
    })

pub read_json-returns-in-Err-newtype_variant_with-3 : goal.read_json-returns-in-Err-newtype_variant_with-3
read_json-returns-in-Err-newtype_variant_with-3 g t c =
    let k = c.in-Ok-eq3-default in
    record {
      law = lawful_err _ (λ m v. OfVariant json_names (JsonCase IsJson v) m) _ _ _ _ json_variant
          (variant_err _ _ (JsonCase IsJson) _ _ _ (grind (arith, sym k.ensures.same_reference)) _ 3 _ (λ v k h. readable _ k h.0 h.2)
          (given_refused g.R.Source _ _ (λ k (a : String Global). IsRaw k (string_bytes a)) json_names 3 _ _ (rw k.field-0-0-test at k.ensures.opened) _ _
          (λ rest gave s. lent_law g.R.Source _ _ (λ k (a : String Global). IsRaw k (string_bytes a)) (λ p q r h. h) _ rest gave s) _
          c.in-Err-newtype_variant_with-3.ensures.bare c.in-Err-newtype_variant_with-3.ensures.part refl));
    }

pub read_json-newtype_variant_with-requires-in-Ok-eq4-default : goal.read_json-newtype_variant_with-requires-in-Ok-eq4-default
read_json-newtype_variant_with-requires-in-Ok-eq4-default g t c = λ b p q.
    let h = content_room_falls g.R.Source _ _ c.args.de.now _ c.in-Ok-eq4-default.ensures.opened b in
    let e = ap (λ (z : _). max 1 z.room) q in
    (omega (arith, h, e, c.decreases), ((λ a m. m), ((λ a m. m), (λ a m. m))))

pub read_json-returns-in-Ok-newtype_variant_with-4 : goal.read_json-returns-in-Ok-newtype_variant_with-4
read_json-returns-in-Ok-newtype_variant_with-4 g t c =
    let k = c.in-Ok-eq4-default in
    (record {
      law = variant_done g.R.Source json_names (JsonCase IsJson) IsJson _ _ _ (λ (a : Vec Json Global) c. Content (λ k. Row IsJson k a.items) c) 4 _ _
          (json_made _)
          (λ k h. (_, ap out-Json (sym (rolls-List _)) ∙ out-roll-Json _, h))
          (given_read g.R.Source _ _ (λ k (a : Vec Json Global). Row IsJson k a.items) json_names 4 _ _ (rw k.field-0-0-test at k.ensures.opened) _ _
          (λ rest gave s. lent_law g.R.Source _ _ (λ k (a : Vec Json Global). Row IsJson k a.items) (λ p q r h. h) _ rest gave s) _
          c.in-Ok-newtype_variant_with-4.ensures.bare c.in-Ok-newtype_variant_with-4.ensures.part refl) (grind (arith, sym k.ensures.same_reference));
    })

pub read_json-returns-in-Err-newtype_variant_with-4 : goal.read_json-returns-in-Err-newtype_variant_with-4
read_json-returns-in-Err-newtype_variant_with-4 g t c =
    let k = c.in-Ok-eq4-default in
    record {
      law = lawful_err _ (λ m v. OfVariant json_names (JsonCase IsJson v) m) _ _ _ _ json_variant
          (variant_err _ _ (JsonCase IsJson) _ _ _ (grind (arith, sym k.ensures.same_reference)) _ 4 _ (λ v k h. readable _ k h.0 h.2)
          (given_refused g.R.Source _ _ (λ k (a : Vec Json Global). Row IsJson k a.items) json_names 4 _ _ (rw k.field-0-0-test at k.ensures.opened) _ _
          (λ rest gave s. lent_law g.R.Source _ _ (λ k (a : Vec Json Global). Row IsJson k a.items) (λ p q r h. h) _ rest gave s) _
          c.in-Err-newtype_variant_with-4.ensures.bare c.in-Err-newtype_variant_with-4.ensures.part refl));
    }

pub read_json-newtype_variant_with-requires-in-Ok : goal.read_json-newtype_variant_with-requires-in-Ok
read_json-newtype_variant_with-requires-in-Ok g t c = λ b p q.
    let h = content_room_falls g.R.Source _ _ c.args.de.now _ c.in-Ok.ensures.opened b in
    let e = ap (λ (z : _). max 1 z.room) q in
    (omega (arith, h, e, c.decreases), ((λ a m. m), ((λ a m. m), (λ a m. m))))

pub read_json-returns-in-Ok-newtype_variant_with-5 : goal.read_json-returns-in-Ok-newtype_variant_with-5
read_json-returns-in-Ok-newtype_variant_with-5 g t c =
    let k = c.in-Ok in
    let at : k.field-0-0 ≡ 5 = omega (arith, k.field-0-0-test, k.ensures.below) in
    (record {
      law = variant_done g.R.Source json_names (JsonCase IsJson) IsJson _ _ _
          (λ (a : BTreeMap (String Global) Json Global) c. Content (λ k. ReadsEntries string_cmp (λ j q. IsRaw j (string_bytes q)) IsJson a.entries k) c) 5
          _ _ (json_made _)
          (λ k h. (_, ap out-Json (sym (rolls-Object _)) ∙ out-roll-Json _, h))
          (given_read g.R.Source _ _ (λ k (a : BTreeMap (String Global) Json Global). ReadsEntries string_cmp (λ j q. IsRaw j (string_bytes q)) IsJson
          a.entries k) json_names 5 _ _ (rw at at k.ensures.opened) _ _
          (λ rest gave s. lent_law g.R.Source _ _ (λ k (a : BTreeMap (String Global) Json Global). ReadsEntries string_cmp (λ j q. IsRaw j (string_bytes q))
          IsJson a.entries k) (λ p q r h. h) _ rest gave s) _ c.in-Ok-newtype_variant_with-5.ensures.bare c.in-Ok-newtype_variant_with-5.ensures.part
          refl) (grind (arith, sym k.ensures.same_reference));
    })

pub read_json-returns-in-Err-newtype_variant_with-5 : goal.read_json-returns-in-Err-newtype_variant_with-5
read_json-returns-in-Err-newtype_variant_with-5 g t c =
    let k = c.in-Ok in
    let at : k.field-0-0 ≡ 5 = omega (arith, k.field-0-0-test, k.ensures.below) in
    record {
      law = lawful_err _ (λ m v. OfVariant json_names (JsonCase IsJson v) m) _ _ _ _ json_variant
          (variant_err _ _ (JsonCase IsJson) _ _ _ (grind (arith, sym k.ensures.same_reference)) _ 5 _ (λ v k h. readable _ k h.0 h.2)
          (given_refused g.R.Source _ _ (λ k (a : BTreeMap (String Global) Json Global). ReadsEntries string_cmp (λ j q. IsRaw j (string_bytes q)) IsJson
          a.entries k) json_names 5 _ _ (rw at at k.ensures.opened) _ _
          (λ rest gave s. lent_law g.R.Source _ _ (λ k (a : BTreeMap (String Global) Json Global). ReadsEntries string_cmp (λ j q. IsRaw j (string_bytes q))
          IsJson a.entries k) (λ p q r h. h) _ rest gave s) _ c.in-Err-newtype_variant_with-5.ensures.bare c.in-Err-newtype_variant_with-5.ensures.part
          refl));
    }

pub read_json-returns-in-Err : goal.read_json-returns-in-Err
read_json-returns-in-Err g t c = record {
  law = lawful_err _ (λ m v. OfVariant json_names (JsonCase IsJson v) m) _ _ _ _ json_variant
      (variant_unopened _ _ (JsonCase IsJson) _ _ _ (search rules) _ (rw c.in-Err.is at c.deserialize_enum_by.follows.holds-at-none));
}

pub read_json_list-returns-in_err-seq : goal.read_json_list-returns-in_err-seq
read_json_list-returns-in_err-seq g t c =
    let p = err_from_is_err_and c.from_residual.result c.from_residual.ensures.1 in
    rw (p.1, p.2) (record {
      law = lawful_err _ (Row IsJson) _ _ _ _ (vec_row IsJson)
          (row_unopened g.R.Source IsJson _ _ _ (rw c.in_err-seq.was at c.deserialize_seq.follows.holds-at-none));
    })

pub read_json_list-loop-items-init : goal.read_json_list-loop-items-init
read_json_list-loop-items-init g t c =
    rw c.new-items.ensures.items (values_start g.R.Source IsJson c.in_ok-seq.seq c.in_ok-seq.ensures.opened.opened)

pub read_json_list-next_element_with-requires : goal.read_json_list-next_element_with-requires
read_json_list-next_element_with-requires g t c =
    λ s some d l p q.
    let h = part_room g.R.Source c.args.de.now c.in_ok-seq.seq c.loop-items.seq _ c.in_ok-seq.ensures.opened c.loop-items.invariant.run d l in
    let e = ap (λ (z : _). max 1 z.room) q in
    (omega (arith, h, e, c.decreases), ((λ a m. m), ((λ a m. m), (λ a m. m))))

pub read_json_list-returns-in_err-item : goal.read_json_list-returns-in_err-item
read_json_list-returns-in_err-item g t c =
    let p = err_from_is_err_and c.from_residual-in_err-item.result c.from_residual-in_err-item.ensures.1 in
    let r = c.loop-items.invariant in
    let e = c.in_err-item.ensures in
    let some = some_if_err c.loop-items.seq.left _ (e.none r.run.still.sound) in
    let f = item_refused g.R.Source IsJson c.loop-items.seq c.next_element_with.new.self r.run.still e.list (λ p q r h. h) _ some
    (e.part r.run.still.sound some) in
    rw (p.1, p.2) (record {
      law = lawful_err _ (Row IsJson) _ _ _ _ (vec_row IsJson)
          (row_refused g.R.Source IsJson _ c.in_ok-seq.seq c.loop-items.seq c.loop-items.items.items c.in_ok-seq.ensures.opened r _
          c.next_element_with.new.self _ f (e.marked r.run.still.marked) (search rules));
    })

pub read_json_list-loop-items-preserved : goal.read_json_list-loop-items-preserved
read_json_list-loop-items-preserved g t c =
    let r = c.loop-items.invariant in
    let e = c.in_ok-item.ensures in
    let is = c.in-Some.is in
    let some = some_if c.loop-items.seq.left c.in-Some.item _ is (e.none r.run.still.sound) in
    let k = item_taken g.R.Source IsJson c.loop-items.seq c.next_element_with.new.self r.run.still e.list (λ p q r h. h) c.in-Some.item
    (rw is at (e.part r.run.still.sound some)) e.still in
    rw c.in_ok-push.ensures.items (values_step g.R.Source IsJson c.in_ok-seq.seq c.loop-items.seq c.next_element_with.new.self c.loop-items.items.items
    c.in-Some.item r k e.same_reference)

pub read_json_list-returns : goal.read_json_list-returns
read_json_list-returns g t c =
    let r = c.loop-items.invariant in
    let e = c.in_ok-item.ensures in
    let z = none_left c.loop-items.seq.left (λ l. never_none g.R.Source c.loop-items.seq c.next_element_with.new.self
    (rw c.in_default.is at (e.part r.run.still.sound l))) in
    let n = (e.none r.run.still.sound z).1 in
    let d = (c.in_ok-end.ensures.ok (subst IsOpen (sym n) r.run.still)).1 in
    record {
      law = vec_done g.R.Source IsJson _ c.in_ok-seq.seq c.loop-items.seq c.loop-items.items c.in_ok-seq.ensures.opened r _ z
          (via c.end.new.self.0 (search rules) (d ∙ ap (λ s. record s.de.now { failed = false }) n));
    }

pub read_json_list-returns-in_err-push : goal.read_json_list-returns-in_err-push
read_json_list-returns-in_err-push g t c =
    let p = err_from_is_err_and c.from_residual-in_err-push.result c.from_residual-in_err-push.ensures.1 in
    rw (p.1, p.2) (record {
      law = lawful_at g.R.Source _ _ _ c.next_element_with.new.self.de.now _
          (let same = sym c.in_ok-seq.ensures.same_reference ∙ sym c.loop-items.invariant.run.same_reference ∙ sym c.in_ok-item.ensures.same_reference
          in search rules) (
          let r = c.loop-items.invariant in
          let e = c.in_ok-item.ensures in
          let is = c.in-Some.is in
          let some = some_if c.loop-items.seq.left c.in-Some.item _ is (e.none r.run.still.sound) in
          let k = item_taken g.R.Source IsJson c.loop-items.seq c.next_element_with.new.self r.run.still e.list (λ p q r h. h) c.in-Some.item
          (rw is at (e.part r.run.still.sound some)) e.still in
          let v = values_step g.R.Source IsJson c.in_ok-seq.seq c.loop-items.seq c.next_element_with.new.self c.loop-items.items.items c.in-Some.item r k
          e.same_reference in
          lawful_err _ (Row IsJson) _ _ _ _ (vec_row IsJson)
          (row_unkept g.R.Source IsJson _ c.in_ok-seq.seq c.next_element_with.new.self _ c.in_ok-seq.ensures.opened v _ refl));
    })

pub read_json_list-returns-in_err-end : goal.read_json_list-returns-in_err-end
read_json_list-returns-in_err-end g t c =
    let r = c.loop-items.invariant in
    let e = c.in_ok-item.ensures in
    let z = none_left c.loop-items.seq.left (λ l. never_none g.R.Source c.loop-items.seq c.next_element_with.new.self
    (rw c.in_default.is at (e.part r.run.still.sound l))) in
    let n = (e.none r.run.still.sound z).1 in
    let d = (c.in_err-end.ensures.err (subst IsOpen (sym n) r.run.still)).0 in
    absurd (omega (arith, z, d, ap (λ s. s.left) n))

pub read_json_string_map-returns-in_err-pairs : goal.read_json_string_map-returns-in_err-pairs
read_json_string_map-returns-in_err-pairs g t c =
    let p = err_from_is_err_and c.from_residual.result c.from_residual.ensures.1 in
    rw (p.1, p.2) (record {
      law = map_unopened g.R.Source (λ (v : BTreeMap (String Global) Json Global) ps. (ns : List (String Global × Json))
          × ReadsPairs (λ j (q : String Global). IsRaw j (string_bytes q)) IsJson ps ns × Collects string_cmp ns v.entries) _ _ _
          (rw c.in_err-pairs.was at c.deserialize_map.follows.holds-at-none);
    })

pub read_json_string_map-loop-entries-init : goal.read_json_string_map-loop-entries-init
read_json_string_map-loop-entries-init g t c =
    let o = c.in_ok-pairs.ensures.opened in
    gathers_start g.R.Source string_cmp_total (λ j (q : String Global). IsRaw j (string_bytes q)) IsJson _ _ o.at_key o.opened c.new-entries.ensures.empty

pub read_json_string_map-returns-in_err-key : goal.read_json_string_map-returns-in_err-key
read_json_string_map-returns-in_err-key g t c =
    let p = err_from_is_err_and c.from_residual-in_err-key.result c.from_residual-in_err-key.ensures.1 in
    rw (p.1, p.2) (record {
      law = lawful_at g.R.Source _ _ _ c.next_key_with.new.self.de.now _
          (let same = sym c.in_ok-pairs.ensures.same_reference ∙ sym c.loop-entries.invariant.read.run.same_reference
          ∙ sym c.in_err-key.ensures.same_reference in search rules) (
          let r = c.loop-entries.invariant in
          let e = c.in_err-key.ensures in
          let some = some_if_err c.loop-entries.pairs.left _ (e.none r.read.run.still.sound) in
          let f = key_refused g.R.Source (λ j (q : String Global). IsRaw j (string_bytes q)) c.loop-entries.pairs c.next_key_with.new.self (λ p q r h. h) _
          (e.part r.read.run.still.sound some) in
          map_take g.R.Source (λ (v : BTreeMap (String Global) Json Global) ps. (ns : List (String Global × Json))
          × ReadsPairs (λ j (q : String Global). IsRaw j (string_bytes q)) IsJson ps ns × Collects string_cmp ns v.entries) _ c.in_ok-pairs.pairs
          c.loop-entries.pairs c.in_ok-pairs.ensures.opened _ (flat r.read.trees) r.read.run (λ j (q : String Global). IsRaw j (string_bytes q))
          c.next_key_with.new.self _ (to_come_some c.loop-entries.pairs some) f refl
          (λ m ks v ps i h. key_next _ _ r.read.trees ps m ks h.0 i h.1));
    })

pub read_json_string_map-returns-in_err-value : goal.read_json_string_map-returns-in_err-value
read_json_string_map-returns-in_err-value g t c =
    let p = err_from_is_err_and c.from_residual-in_err-value.result c.from_residual-in_err-value.ensures.1 in
    rw (p.1, p.2) (record {
      law = lawful_at g.R.Source _ _ _ c.next_value_with.new.self.de.now _
          (let same = sym c.in_ok-pairs.ensures.same_reference ∙ sym c.loop-entries.invariant.read.run.same_reference
          ∙ sym c.in_ok-key.ensures.same_reference ∙ sym c.in_err-value.ensures.same_reference in search rules) (
          let r = c.loop-entries.invariant in
          let e = c.in_ok-key.ensures in
          let is = c.in-Some.is in
          let some = some_if c.loop-entries.pairs.left c.in-Some.key _ is (e.none r.read.run.still.sound) in
          let k = key_got g.R.Source (λ j (q : String Global). IsRaw j (string_bytes q)) c.loop-entries.pairs c.next_key_with.new.self (λ p q r h. h)
          c.in-Some.key (rw is at (e.part r.read.run.still.sound some)) e.still in
          let f = value_refused g.R.Source IsJson c.next_key_with.new.self c.next_value_with.new.self (λ p q r h. h) _ (c.in_err-value.ensures.part k.still.sound) in
          map_take g.R.Source (λ (v : BTreeMap (String Global) Json Global) ps. (ns : List (String Global × Json))
          × ReadsPairs (λ j (q : String Global). IsRaw j (string_bytes q)) IsJson ps ns × Collects string_cmp ns v.entries) _ c.in_ok-pairs.pairs
          c.next_key_with.new.self c.in_ok-pairs.ensures.opened _ (push (flat r.read.trees) k.part.tree)
          (map_key g.R.Source (λ j (q : String Global). IsRaw j (string_bytes q)) c.in_ok-pairs.pairs c.loop-entries.pairs c.next_key_with.new.self
          (flat r.read.trees) c.in-Some.key r.read.run r.read.at_key k e.same_reference) IsJson c.next_value_with.new.self _
          (owing c.next_key_with.new.self k.owes) f refl (λ m ks v ps i h. value_next _ _ r.read.trees ps k.part.tree m ks h.0 i h.1));
    })

pub read_json_string_map-returns-in_err-insert : goal.read_json_string_map-returns-in_err-insert
read_json_string_map-returns-in_err-insert g t c =
    let p = err_from_is_err_and c.from_residual-in_err-insert.result c.from_residual-in_err-insert.ensures.1 in
    rw (p.1, p.2) (record {
      law = lawful_at g.R.Source _ _ _ c.next_value_with.new.self.de.now _
          (let same = sym c.in_ok-pairs.ensures.same_reference ∙ sym c.loop-entries.invariant.read.run.same_reference
          ∙ sym c.in_ok-key.ensures.same_reference ∙ sym c.in_ok-value.ensures.same_reference in search rules) (
          let r = c.loop-entries.invariant in
          let e = c.in_ok-key.ensures in
          let is = c.in-Some.is in
          let some = some_if c.loop-entries.pairs.left c.in-Some.key _ is (e.none r.read.run.still.sound) in
          let k = key_got g.R.Source (λ j (q : String Global). IsRaw j (string_bytes q)) c.loop-entries.pairs c.next_key_with.new.self (λ p q r h. h)
          c.in-Some.key (rw is at (e.part r.read.run.still.sound some)) e.still in
          let u = c.in_ok-value.ensures in
          let v = value_got g.R.Source IsJson c.next_key_with.new.self c.next_value_with.new.self (λ p q r h. h) c.in_ok-value.value (u.part k.still.sound) u.still in
          let s = entries_step g.R.Source (λ j (q : String Global). IsRaw j (string_bytes q)) IsJson c.in_ok-pairs.pairs c.loop-entries.pairs
          c.next_key_with.new.self c.next_value_with.new.self r.pairs c.in-Some.key
          c.in_ok-value.value r.read k e.same_reference v u.same_reference in
          map_unkept g.R.Source (λ (v : BTreeMap (String Global) Json Global) ps. (ns : List (String Global × Json))
          × ReadsPairs (λ j (q : String Global). IsRaw j (string_bytes q)) IsJson ps ns × Collects string_cmp ns v.entries) _ c.in_ok-pairs.pairs
          c.next_value_with.new.self c.in_ok-pairs.ensures.opened _ (flat s.trees) s.run refl);
    })

pub read_json_string_map-loop-entries-preserved : goal.read_json_string_map-loop-entries-preserved
read_json_string_map-loop-entries-preserved g t c =
    let r = c.loop-entries.invariant in
    let e = c.in_ok-key.ensures in
    let is = c.in-Some.is in
    let some = some_if c.loop-entries.pairs.left c.in-Some.key _ is (e.none r.read.run.still.sound) in
    let k = key_got g.R.Source (λ j (q : String Global). IsRaw j (string_bytes q)) c.loop-entries.pairs c.next_key_with.new.self (λ p q r h. h)
    c.in-Some.key (rw is at (e.part r.read.run.still.sound some)) e.still in
    let u = c.in_ok-value.ensures in
    let v = value_got g.R.Source IsJson c.next_key_with.new.self c.next_value_with.new.self (λ p q r h. h) c.in_ok-value.value (u.part k.still.sound) u.still in
    gathers_step g.R.Source string_cmp_total (λ j (q : String Global). IsRaw j (string_bytes q)) IsJson c.in_ok-pairs.pairs c.loop-entries.pairs
    c.next_key_with.new.self c.next_value_with.new.self _ _ c.in-Some.key
    c.in_ok-value.value r k e.same_reference v u.same_reference c.in_ok-insert.ensures.entries c.insert.ensures.ordered
    c.in_ok-insert.ensures.updates.0

pub read_json_string_map-end-requires : goal.read_json_string_map-end-requires
read_json_string_map-end-requires g t c =
    let r = c.loop-entries.invariant in
    let e = c.in_ok-key.ensures in
    let z = none_left c.loop-entries.pairs.left (λ l. no_key g.R.Source (λ j (q : String Global). IsRaw j (string_bytes q)) c.loop-entries.pairs
    c.next_key_with.new.self (λ p q r h. h)
    (rw c.in_default.is at (e.part r.read.run.still.sound l))) in
    let n = (e.none r.read.run.still.sound z).1 in
    λ _. ap (λ a. a.owes) n ∙ r.read.at_key

pub read_json_string_map-returns : goal.read_json_string_map-returns
read_json_string_map-returns g t c =
    let r = c.loop-entries.invariant in
    let e = c.in_ok-key.ensures in
    let z = none_left c.loop-entries.pairs.left (λ l. no_key g.R.Source (λ j (q : String Global). IsRaw j (string_bytes q)) c.loop-entries.pairs
    c.next_key_with.new.self (λ p q r h. h)
    (rw c.in_default.is at (e.part r.read.run.still.sound l))) in
    let n = (e.none r.read.run.still.sound z).1 in
    let d = (c.in_ok-end.ensures.ok (subst IsMapOpen (sym n) r.read.run.still)).1 in
    record {
      law = map_done g.R.Source (λ (v : BTreeMap (String Global) Json Global) ps. (ns : List (String Global × Json))
          × ReadsPairs (λ j (q : String Global). IsRaw j (string_bytes q)) IsJson ps ns × Collects string_cmp ns v.entries) _ c.in_ok-pairs.pairs
          c.loop-entries.pairs c.in_ok-pairs.ensures.opened _ r.read.trees r.read.run _ (r.pairs, r.read.reads, r.gathered) z r.read.at_key
          (via c.end.new.self.0 (search rules) (d ∙ ap (λ a. record a.de.now { failed = false }) n));
    }

pub read_json_string_map-returns-in_err-end : goal.read_json_string_map-returns-in_err-end
read_json_string_map-returns-in_err-end g t c =
    let r = c.loop-entries.invariant in
    let e = c.in_ok-key.ensures in
    let z = none_left c.loop-entries.pairs.left (λ l. no_key g.R.Source (λ j (q : String Global). IsRaw j (string_bytes q)) c.loop-entries.pairs
    c.next_key_with.new.self (λ p q r h. h)
    (rw c.in_default.is at (e.part r.read.run.still.sound l))) in
    let n = (e.none r.read.run.still.sound z).1 in
    let d = (c.in_err-end.ensures.err (subst IsMapOpen (sym n) r.read.run.still)).0 in
    absurd (omega (arith, z, d, ap (λ a. a.left) n))
