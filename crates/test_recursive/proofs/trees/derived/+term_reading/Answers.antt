use Rattle.std.proofs.Common.{◌≡◌, ◌∙◌, refl, sym, ap, subst, ℕ, Option, String, Box, max, rules, arith, false}
use Rattle.std.specs.Int.{w64, w128}
use Rattle.std.specs.Prelude.{Vec, Bool, ℤ, pos, negsuc, string_bytes}
use Rattle.std.specs.declared.alloc.Global.{Global}
use Rattle.rmp_wire.specs.Types.{buffer_bytes}
use Rattle.rmp_wire.specs.declared.types.ByteBuf.{ByteBuf}
use Rattle.rmp_wire.specs.declared.types.F32Bits.{F32Bits}
use Rattle.rmp_wire.specs.declared.types.F64Bits.{F64Bits}
use Rattle.rmp_decode.specs.Buffers.{IsBuffer}
use Rattle.rmp_decode.specs.Wide.{IsUnsigned128, IsSigned128}
use Rattle.rmp_decode.specs.Options.{IsOption}
use Rattle.rmp_decode.specs.Read.{IsUnsigned, IsSigned, IsRaw, IsChar}
use Rattle.rmp_decode.specs.Seq.{IsOpen}
use Rattle.rmp_decode.specs.Variants.{OfVariant, Bare, Content}
use Rattle.rmp_recursive.specs.Parts.{Row, Boxed}
use Rattle.test_recursive.specs.declared.trees.Term.{Term, out-Term}
use Rattle.test_recursive.specs.declared.trees.Term.TheViews.{out-roll-Term}
use Rattle.test_recursive.specs.TermLevels.{TermCase, IsTerm, term_names, term_made, term_variant}
use Rattle.std.proofs.lemmas.Result.{err_from_is_err_and}
use Rattle.std.proofs.lemmas.Int.{to_z-of_z}
use Rattle.rmp_decode.proofs.Laws.{lawful_err}
use Rattle.rmp_decode.proofs.Seqs.{values_start, values_step, via}
use Rattle.rmp_decode.proofs.Variants.{variant_err, variant_unopened, readable, given_read, given_refused}
use Rattle.test_recursive.specs.declared.trees.Term.TheVariants.{
  rolls-Nothing,
  rolls-Number,
  rolls-Name,
  rolls-Truth,
  rolls-Letter,
  rolls-Half,
  rolls-Whole,
  rolls-Bytes,
  rolls-Size,
  rolls-Offset,
  rolls-Big,
  rolls-Wide,
  rolls-Not,
  rolls-Next,
  rolls-Sum,
}
use Rattle.rmp_recursive.proofs.Parts.{
  variant_done,
  vec_row,
  vec_done,
  row_unopened,
  row_refused,
  row_unkept,
  part_room,
  content_room_falls,
  lawful_at,
  lent_law,
  item_taken,
  item_refused,
  option_law,
  some_if,
  some_if_err,
  none_left,
  never_none,
}
use Rattle.rmp_wire.specs.Msg as msg
use Rattle.test_recursive.proofs.trees.derived.+term_reading.Goals as goal

pub read_term-returns-in-Ok-unit_variant : goal.read_term-returns-in-Ok-unit_variant
read_term-returns-in-Ok-unit_variant g t c =
    let k = c.in-Ok-eq0-default in
    (record {
      law = variant_done g.R.Source term_names (TermCase IsTerm) IsTerm _ _ _ (λ (u : Unit {0}) c. Bare c) 0 _ _ (term_made _)
          (λ k h. (ap out-Term (sym rolls-Nothing) ∙ out-roll-Term _, h))
          (c.in-Ok-unit_variant.ensures.ok _ 0 _ (rw k.field-0-0-test at k.ensures.opened)) (grind (arith, sym k.ensures.same_reference));
    })

pub read_term-returns-in-Err-unit_variant : goal.read_term-returns-in-Err-unit_variant
read_term-returns-in-Err-unit_variant g t c =
    let k = c.in-Ok-eq0-default in
    record {
      law = lawful_err _ (λ m v. OfVariant term_names (TermCase IsTerm v) m) _ _ _ _ term_variant
          (variant_err _ _ (TermCase IsTerm) _ _ _ (grind (arith, sym k.ensures.same_reference)) _ 0 _ (λ v k h. h.1)
          (c.in-Err-unit_variant.ensures.err _ 0 _ (rw k.field-0-0-test at k.ensures.opened)));
    }

pub read_term-returns-in-Ok-newtype_variant_with : goal.read_term-returns-in-Ok-newtype_variant_with
read_term-returns-in-Ok-newtype_variant_with g t c =
    let k = c.in-Ok-eq1-default in
    rw (to_z-of_z w64 c.in-Ok-newtype_variant_with.value (search rules)) (record {
      law = variant_done g.R.Source term_names (TermCase IsTerm) IsTerm _ _ _
          (λ (a : ℤ) c. Content (λ k. IsSigned (negsuc 9223372036854775807) (pos 9223372036854775807) k a) c) 1 _ _ (term_made _)
          (λ k h. (_, ap out-Term (sym (rolls-Number _)) ∙ out-roll-Term _, h))
          (given_read g.R.Source _ _ (λ k (a : ℤ). IsSigned (negsuc 9223372036854775807) (pos 9223372036854775807) k a) term_names 1 _ _
          (rw k.field-0-0-test at k.ensures.opened) _ _
          (λ rest gave s. lent_law g.R.Source _ _ (λ k (a : ℤ). IsSigned (negsuc 9223372036854775807) (pos 9223372036854775807) k a) (λ p q r h. h) _ rest
          gave s) _ c.in-Ok-newtype_variant_with.ensures.bare c.in-Ok-newtype_variant_with.ensures.part refl)
          (grind (arith, sym k.ensures.same_reference));
    })

pub read_term-returns-in-Err-newtype_variant_with : goal.read_term-returns-in-Err-newtype_variant_with
read_term-returns-in-Err-newtype_variant_with g t c =
    let k = c.in-Ok-eq1-default in
    record {
      law = lawful_err _ (λ m v. OfVariant term_names (TermCase IsTerm v) m) _ _ _ _ term_variant
          (variant_err _ _ (TermCase IsTerm) _ _ _ (grind (arith, sym k.ensures.same_reference)) _ 1 _ (λ v k h. readable _ k h.0 h.2)
          (given_refused g.R.Source _ _ (λ k (a : ℤ). IsSigned (negsuc 9223372036854775807) (pos 9223372036854775807) k a) term_names 1 _ _
          (rw k.field-0-0-test at k.ensures.opened) _ _
          (λ rest gave s. lent_law g.R.Source _ _ (λ k (a : ℤ). IsSigned (negsuc 9223372036854775807) (pos 9223372036854775807) k a) (λ p q r h. h) _ rest
          gave s) _ c.in-Err-newtype_variant_with.ensures.bare c.in-Err-newtype_variant_with.ensures.part refl));
    }

pub read_term-returns-in-Ok-newtype_variant_with-2 : goal.read_term-returns-in-Ok-newtype_variant_with-2
read_term-returns-in-Ok-newtype_variant_with-2 g t c =
    let k = c.in-Ok-eq2-default in
    (record {
      law = variant_done g.R.Source term_names (TermCase IsTerm) IsTerm _ _ _ (λ (a : String Global) c. Content (λ k. IsRaw k (string_bytes a)) c) 2 _ _
          (term_made _)
          (λ k h. (_, ap out-Term (sym (rolls-Name _)) ∙ out-roll-Term _, h))
          (given_read g.R.Source _ _ (λ k (a : String Global). IsRaw k (string_bytes a)) term_names 2 _ _ (rw k.field-0-0-test at k.ensures.opened) _ _
          (λ rest gave s. lent_law g.R.Source _ _ (λ k (a : String Global). IsRaw k (string_bytes a)) (λ p q r h. h) _ rest gave s) _
          c.in-Ok-newtype_variant_with-2.ensures.bare c.in-Ok-newtype_variant_with-2.ensures.part refl) (grind (arith, sym k.ensures.same_reference));
    })

pub read_term-returns-in-Err-newtype_variant_with-2 : goal.read_term-returns-in-Err-newtype_variant_with-2
read_term-returns-in-Err-newtype_variant_with-2 g t c =
    let k = c.in-Ok-eq2-default in
    record {
      law = lawful_err _ (λ m v. OfVariant term_names (TermCase IsTerm v) m) _ _ _ _ term_variant
          (variant_err _ _ (TermCase IsTerm) _ _ _ (grind (arith, sym k.ensures.same_reference)) _ 2 _ (λ v k h. readable _ k h.0 h.2)
          (given_refused g.R.Source _ _ (λ k (a : String Global). IsRaw k (string_bytes a)) term_names 2 _ _ (rw k.field-0-0-test at k.ensures.opened) _ _
          (λ rest gave s. lent_law g.R.Source _ _ (λ k (a : String Global). IsRaw k (string_bytes a)) (λ p q r h. h) _ rest gave s) _
          c.in-Err-newtype_variant_with-2.ensures.bare c.in-Err-newtype_variant_with-2.ensures.part refl));
    }

pub read_term-returns-in-Ok-newtype_variant_with-3 : goal.read_term-returns-in-Ok-newtype_variant_with-3
read_term-returns-in-Ok-newtype_variant_with-3 g t c =
    let k = c.in-Ok-eq3-default in
    (record {
      law = variant_done g.R.Source term_names (TermCase IsTerm) IsTerm _ _ _ (λ (a : Bool) c. Content (λ k. k ≡ msg.truth a) c) 3 _ _ (term_made _)
          (λ k h. (_, ap out-Term (sym (rolls-Truth _)) ∙ out-roll-Term _, h))
          (given_read g.R.Source _ _ (λ k (a : Bool). k ≡ msg.truth a) term_names 3 _ _ (rw k.field-0-0-test at k.ensures.opened) _ _
          (λ rest gave s. lent_law g.R.Source _ _ (λ k (a : Bool). k ≡ msg.truth a) (λ p q r h. h) _ rest gave s) _
          c.in-Ok-newtype_variant_with-3.ensures.bare c.in-Ok-newtype_variant_with-3.ensures.part refl) (grind (arith, sym k.ensures.same_reference));
    })

pub read_term-returns-in-Err-newtype_variant_with-3 : goal.read_term-returns-in-Err-newtype_variant_with-3
read_term-returns-in-Err-newtype_variant_with-3 g t c =
    let k = c.in-Ok-eq3-default in
    record {
      law = lawful_err _ (λ m v. OfVariant term_names (TermCase IsTerm v) m) _ _ _ _ term_variant
          (variant_err _ _ (TermCase IsTerm) _ _ _ (grind (arith, sym k.ensures.same_reference)) _ 3 _ (λ v k h. readable _ k h.0 h.2)
          (given_refused g.R.Source _ _ (λ k (a : Bool). k ≡ msg.truth a) term_names 3 _ _ (rw k.field-0-0-test at k.ensures.opened) _ _
          (λ rest gave s. lent_law g.R.Source _ _ (λ k (a : Bool). k ≡ msg.truth a) (λ p q r h. h) _ rest gave s) _
          c.in-Err-newtype_variant_with-3.ensures.bare c.in-Err-newtype_variant_with-3.ensures.part refl));
    }

pub read_term-returns-in-Ok-newtype_variant_with-4 : goal.read_term-returns-in-Ok-newtype_variant_with-4
read_term-returns-in-Ok-newtype_variant_with-4 g t c =
    let k = c.in-Ok-eq4-default in
    (record {
      law = variant_done g.R.Source term_names (TermCase IsTerm) IsTerm _ _ _ (λ (a : ℕ) c. Content (λ k. IsChar k a) c) 4 _ _ (term_made _)
          (λ k h. (_, ap out-Term (sym (rolls-Letter _)) ∙ out-roll-Term _, h))
          (given_read g.R.Source _ _ (λ k (a : ℕ). IsChar k a) term_names 4 _ _ (rw k.field-0-0-test at k.ensures.opened) _ _
          (λ rest gave s. lent_law g.R.Source _ _ (λ k (a : ℕ). IsChar k a) (λ p q r h. h) _ rest gave s) _ c.in-Ok-newtype_variant_with-4.ensures.bare
          c.in-Ok-newtype_variant_with-4.ensures.part refl) (grind (arith, sym k.ensures.same_reference));
    })

pub read_term-returns-in-Err-newtype_variant_with-4 : goal.read_term-returns-in-Err-newtype_variant_with-4
read_term-returns-in-Err-newtype_variant_with-4 g t c =
    let k = c.in-Ok-eq4-default in
    record {
      law = lawful_err _ (λ m v. OfVariant term_names (TermCase IsTerm v) m) _ _ _ _ term_variant
          (variant_err _ _ (TermCase IsTerm) _ _ _ (grind (arith, sym k.ensures.same_reference)) _ 4 _ (λ v k h. readable _ k h.0 h.2)
          (given_refused g.R.Source _ _ (λ k (a : ℕ). IsChar k a) term_names 4 _ _ (rw k.field-0-0-test at k.ensures.opened) _ _
          (λ rest gave s. lent_law g.R.Source _ _ (λ k (a : ℕ). IsChar k a) (λ p q r h. h) _ rest gave s) _ c.in-Err-newtype_variant_with-4.ensures.bare
          c.in-Err-newtype_variant_with-4.ensures.part refl));
    }

pub read_term-returns-in-Ok-newtype_variant_with-5 : goal.read_term-returns-in-Ok-newtype_variant_with-5
read_term-returns-in-Ok-newtype_variant_with-5 g t c =
    let k = c.in-Ok-eq5-default in
    (record {
      law = variant_done g.R.Source term_names (TermCase IsTerm) IsTerm _ _ _ (λ (a : F32Bits) c. Content (λ k. k ≡ msg.float32 a.0) c) 5 _ _ (term_made _)
          (λ k h. (_, ap out-Term (sym (rolls-Half _)) ∙ out-roll-Term _, h))
          (given_read g.R.Source _ _ (λ k (a : F32Bits). k ≡ msg.float32 a.0) term_names 5 _ _ (rw k.field-0-0-test at k.ensures.opened) _ _
          (λ rest gave s. lent_law g.R.Source _ _ (λ k (a : F32Bits). k ≡ msg.float32 a.0) (λ p q r h. h) _ rest gave s) _
          c.in-Ok-newtype_variant_with-5.ensures.bare c.in-Ok-newtype_variant_with-5.ensures.part refl) (grind (arith, sym k.ensures.same_reference));
    })

pub read_term-returns-in-Err-newtype_variant_with-5 : goal.read_term-returns-in-Err-newtype_variant_with-5
read_term-returns-in-Err-newtype_variant_with-5 g t c =
    let k = c.in-Ok-eq5-default in
    record {
      law = lawful_err _ (λ m v. OfVariant term_names (TermCase IsTerm v) m) _ _ _ _ term_variant
          (variant_err _ _ (TermCase IsTerm) _ _ _ (grind (arith, sym k.ensures.same_reference)) _ 5 _ (λ v k h. readable _ k h.0 h.2)
          (given_refused g.R.Source _ _ (λ k (a : F32Bits). k ≡ msg.float32 a.0) term_names 5 _ _ (rw k.field-0-0-test at k.ensures.opened) _ _
          (λ rest gave s. lent_law g.R.Source _ _ (λ k (a : F32Bits). k ≡ msg.float32 a.0) (λ p q r h. h) _ rest gave s) _
          c.in-Err-newtype_variant_with-5.ensures.bare c.in-Err-newtype_variant_with-5.ensures.part refl));
    }

pub read_term-returns-in-Ok-newtype_variant_with-6 : goal.read_term-returns-in-Ok-newtype_variant_with-6
read_term-returns-in-Ok-newtype_variant_with-6 g t c =
    let k = c.in-Ok-eq6-default in
    (record {
      law = variant_done g.R.Source term_names (TermCase IsTerm) IsTerm _ _ _ (λ (a : F64Bits) c. Content (λ k. k ≡ msg.float64 a.0) c) 6 _ _ (term_made _)
          (λ k h. (_, ap out-Term (sym (rolls-Whole _)) ∙ out-roll-Term _, h))
          (given_read g.R.Source _ _ (λ k (a : F64Bits). k ≡ msg.float64 a.0) term_names 6 _ _ (rw k.field-0-0-test at k.ensures.opened) _ _
          (λ rest gave s. lent_law g.R.Source _ _ (λ k (a : F64Bits). k ≡ msg.float64 a.0) (λ p q r h. h) _ rest gave s) _
          c.in-Ok-newtype_variant_with-6.ensures.bare c.in-Ok-newtype_variant_with-6.ensures.part refl) (grind (arith, sym k.ensures.same_reference));
    })

pub read_term-returns-in-Err-newtype_variant_with-6 : goal.read_term-returns-in-Err-newtype_variant_with-6
read_term-returns-in-Err-newtype_variant_with-6 g t c =
    let k = c.in-Ok-eq6-default in
    record {
      law = lawful_err _ (λ m v. OfVariant term_names (TermCase IsTerm v) m) _ _ _ _ term_variant
          (variant_err _ _ (TermCase IsTerm) _ _ _ (grind (arith, sym k.ensures.same_reference)) _ 6 _ (λ v k h. readable _ k h.0 h.2)
          (given_refused g.R.Source _ _ (λ k (a : F64Bits). k ≡ msg.float64 a.0) term_names 6 _ _ (rw k.field-0-0-test at k.ensures.opened) _ _
          (λ rest gave s. lent_law g.R.Source _ _ (λ k (a : F64Bits). k ≡ msg.float64 a.0) (λ p q r h. h) _ rest gave s) _
          c.in-Err-newtype_variant_with-6.ensures.bare c.in-Err-newtype_variant_with-6.ensures.part refl));
    }

pub read_term-returns-in-Ok-newtype_variant_with-7 : goal.read_term-returns-in-Ok-newtype_variant_with-7
read_term-returns-in-Ok-newtype_variant_with-7 g t c =
    let k = c.in-Ok-eq7-default in
    (record {
      law = variant_done g.R.Source term_names (TermCase IsTerm) IsTerm _ _ _ (λ (a : ByteBuf) c. Content (λ k. IsBuffer k (buffer_bytes a)) c) 7 _ _
          (term_made _)
          (λ k h. (_, ap out-Term (sym (rolls-Bytes _)) ∙ out-roll-Term _, h))
          (given_read g.R.Source _ _ (λ k (a : ByteBuf). IsBuffer k (buffer_bytes a)) term_names 7 _ _ (rw k.field-0-0-test at k.ensures.opened) _ _
          (λ rest gave s. lent_law g.R.Source _ _ (λ k (a : ByteBuf). IsBuffer k (buffer_bytes a)) (λ p q r h. h) _ rest gave s) _
          c.in-Ok-newtype_variant_with-7.ensures.bare c.in-Ok-newtype_variant_with-7.ensures.part refl) (grind (arith, sym k.ensures.same_reference));
    })

pub read_term-returns-in-Err-newtype_variant_with-7 : goal.read_term-returns-in-Err-newtype_variant_with-7
read_term-returns-in-Err-newtype_variant_with-7 g t c =
    let k = c.in-Ok-eq7-default in
    record {
      law = lawful_err _ (λ m v. OfVariant term_names (TermCase IsTerm v) m) _ _ _ _ term_variant
          (variant_err _ _ (TermCase IsTerm) _ _ _ (grind (arith, sym k.ensures.same_reference)) _ 7 _ (λ v k h. readable _ k h.0 h.2)
          (given_refused g.R.Source _ _ (λ k (a : ByteBuf). IsBuffer k (buffer_bytes a)) term_names 7 _ _ (rw k.field-0-0-test at k.ensures.opened) _ _
          (λ rest gave s. lent_law g.R.Source _ _ (λ k (a : ByteBuf). IsBuffer k (buffer_bytes a)) (λ p q r h. h) _ rest gave s) _
          c.in-Err-newtype_variant_with-7.ensures.bare c.in-Err-newtype_variant_with-7.ensures.part refl));
    }

pub read_term-returns-in-Ok-newtype_variant_with-8 : goal.read_term-returns-in-Ok-newtype_variant_with-8
read_term-returns-in-Ok-newtype_variant_with-8 g t c =
    let k = c.in-Ok-eq8-default in
    (record {
      law = variant_done g.R.Source term_names (TermCase IsTerm) IsTerm _ _ _ (λ (a : ℕ) c. Content (λ k. IsUnsigned 18446744073709551615 k a) c) 8 _ _
          (term_made _)
          (λ k h. (_, ap out-Term (sym (rolls-Size _)) ∙ out-roll-Term _, h))
          (given_read g.R.Source _ _ (λ k (a : ℕ). IsUnsigned 18446744073709551615 k a) term_names 8 _ _ (rw k.field-0-0-test at k.ensures.opened) _ _
          (λ rest gave s. lent_law g.R.Source _ _ (λ k (a : ℕ). IsUnsigned 18446744073709551615 k a) (λ p q r h. h) _ rest gave s) _
          c.in-Ok-newtype_variant_with-8.ensures.bare c.in-Ok-newtype_variant_with-8.ensures.part refl) (grind (arith, sym k.ensures.same_reference));
    })

pub read_term-returns-in-Err-newtype_variant_with-8 : goal.read_term-returns-in-Err-newtype_variant_with-8
read_term-returns-in-Err-newtype_variant_with-8 g t c =
    let k = c.in-Ok-eq8-default in
    record {
      law = lawful_err _ (λ m v. OfVariant term_names (TermCase IsTerm v) m) _ _ _ _ term_variant
          (variant_err _ _ (TermCase IsTerm) _ _ _ (grind (arith, sym k.ensures.same_reference)) _ 8 _ (λ v k h. readable _ k h.0 h.2)
          (given_refused g.R.Source _ _ (λ k (a : ℕ). IsUnsigned 18446744073709551615 k a) term_names 8 _ _ (rw k.field-0-0-test at k.ensures.opened) _ _
          (λ rest gave s. lent_law g.R.Source _ _ (λ k (a : ℕ). IsUnsigned 18446744073709551615 k a) (λ p q r h. h) _ rest gave s) _
          c.in-Err-newtype_variant_with-8.ensures.bare c.in-Err-newtype_variant_with-8.ensures.part refl));
    }

pub read_term-returns-in-Ok-newtype_variant_with-9 : goal.read_term-returns-in-Ok-newtype_variant_with-9
read_term-returns-in-Ok-newtype_variant_with-9 g t c =
    let k = c.in-Ok-eq9-default in
    rw (to_z-of_z w64 c.in-Ok-newtype_variant_with-9.value (search rules)) (record {
      law = variant_done g.R.Source term_names (TermCase IsTerm) IsTerm _ _ _
          (λ (a : ℤ) c. Content (λ k. IsSigned (negsuc 9223372036854775807) (pos 9223372036854775807) k a) c) 9 _ _ (term_made _)
          (λ k h. (_, ap out-Term (sym (rolls-Offset _)) ∙ out-roll-Term _, h))
          (given_read g.R.Source _ _ (λ k (a : ℤ). IsSigned (negsuc 9223372036854775807) (pos 9223372036854775807) k a) term_names 9 _ _
          (rw k.field-0-0-test at k.ensures.opened) _ _
          (λ rest gave s. lent_law g.R.Source _ _ (λ k (a : ℤ). IsSigned (negsuc 9223372036854775807) (pos 9223372036854775807) k a) (λ p q r h. h) _ rest
          gave s) _ c.in-Ok-newtype_variant_with-9.ensures.bare c.in-Ok-newtype_variant_with-9.ensures.part refl)
          (grind (arith, sym k.ensures.same_reference));
    })

pub read_term-returns-in-Err-newtype_variant_with-9 : goal.read_term-returns-in-Err-newtype_variant_with-9
read_term-returns-in-Err-newtype_variant_with-9 g t c =
    let k = c.in-Ok-eq9-default in
    record {
      law = lawful_err _ (λ m v. OfVariant term_names (TermCase IsTerm v) m) _ _ _ _ term_variant
          (variant_err _ _ (TermCase IsTerm) _ _ _ (grind (arith, sym k.ensures.same_reference)) _ 9 _ (λ v k h. readable _ k h.0 h.2)
          (given_refused g.R.Source _ _ (λ k (a : ℤ). IsSigned (negsuc 9223372036854775807) (pos 9223372036854775807) k a) term_names 9 _ _
          (rw k.field-0-0-test at k.ensures.opened) _ _
          (λ rest gave s. lent_law g.R.Source _ _ (λ k (a : ℤ). IsSigned (negsuc 9223372036854775807) (pos 9223372036854775807) k a) (λ p q r h. h) _ rest
          gave s) _ c.in-Err-newtype_variant_with-9.ensures.bare c.in-Err-newtype_variant_with-9.ensures.part refl));
    }

pub read_term-returns-in-Ok-newtype_variant_with-10 : goal.read_term-returns-in-Ok-newtype_variant_with-10
read_term-returns-in-Ok-newtype_variant_with-10 g t c =
    let k = c.in-Ok-eq10-default in
    (record {
      law = variant_done g.R.Source term_names (TermCase IsTerm) IsTerm _ _ _ (λ (a : ℕ) c. Content (λ k. IsUnsigned128 k a) c) 10 _ _ (term_made _)
          (λ k h. (_, ap out-Term (sym (rolls-Big _)) ∙ out-roll-Term _, h))
          (given_read g.R.Source _ _ (λ k (a : ℕ). IsUnsigned128 k a) term_names 10 _ _ (rw k.field-0-0-test at k.ensures.opened) _ _
          (λ rest gave s. lent_law g.R.Source _ _ (λ k (a : ℕ). IsUnsigned128 k a) (λ p q r h. h) _ rest gave s) _
          c.in-Ok-newtype_variant_with-10.ensures.bare c.in-Ok-newtype_variant_with-10.ensures.part refl) (grind (arith, sym k.ensures.same_reference));
    })

pub read_term-returns-in-Err-newtype_variant_with-10 : goal.read_term-returns-in-Err-newtype_variant_with-10
read_term-returns-in-Err-newtype_variant_with-10 g t c =
    let k = c.in-Ok-eq10-default in
    record {
      law = lawful_err _ (λ m v. OfVariant term_names (TermCase IsTerm v) m) _ _ _ _ term_variant
          (variant_err _ _ (TermCase IsTerm) _ _ _ (grind (arith, sym k.ensures.same_reference)) _ 10 _ (λ v k h. readable _ k h.0 h.2)
          (given_refused g.R.Source _ _ (λ k (a : ℕ). IsUnsigned128 k a) term_names 10 _ _ (rw k.field-0-0-test at k.ensures.opened) _ _
          (λ rest gave s. lent_law g.R.Source _ _ (λ k (a : ℕ). IsUnsigned128 k a) (λ p q r h. h) _ rest gave s) _
          c.in-Err-newtype_variant_with-10.ensures.bare c.in-Err-newtype_variant_with-10.ensures.part refl));
    }

pub read_term-returns-in-Ok-newtype_variant_with-11 : goal.read_term-returns-in-Ok-newtype_variant_with-11
read_term-returns-in-Ok-newtype_variant_with-11 g t c =
    let k = c.in-Ok-eq11-default in
    rw (to_z-of_z w128 c.in-Ok-newtype_variant_with-11.value (search rules)) (record {
      law = variant_done g.R.Source term_names (TermCase IsTerm) IsTerm _ _ _ (λ (a : ℤ) c. Content (λ k. IsSigned128 k a) c) 11 _ _ (term_made _)
          (λ k h. (_, ap out-Term (sym (rolls-Wide _)) ∙ out-roll-Term _, h))
          (given_read g.R.Source _ _ (λ k (a : ℤ). IsSigned128 k a) term_names 11 _ _ (rw k.field-0-0-test at k.ensures.opened) _ _
          (λ rest gave s. lent_law g.R.Source _ _ (λ k (a : ℤ). IsSigned128 k a) (λ p q r h. h) _ rest gave s) _
          c.in-Ok-newtype_variant_with-11.ensures.bare c.in-Ok-newtype_variant_with-11.ensures.part refl) (grind (arith, sym k.ensures.same_reference));
    })

pub read_term-returns-in-Err-newtype_variant_with-11 : goal.read_term-returns-in-Err-newtype_variant_with-11
read_term-returns-in-Err-newtype_variant_with-11 g t c =
    let k = c.in-Ok-eq11-default in
    record {
      law = lawful_err _ (λ m v. OfVariant term_names (TermCase IsTerm v) m) _ _ _ _ term_variant
          (variant_err _ _ (TermCase IsTerm) _ _ _ (grind (arith, sym k.ensures.same_reference)) _ 11 _ (λ v k h. readable _ k h.0 h.2)
          (given_refused g.R.Source _ _ (λ k (a : ℤ). IsSigned128 k a) term_names 11 _ _ (rw k.field-0-0-test at k.ensures.opened) _ _
          (λ rest gave s. lent_law g.R.Source _ _ (λ k (a : ℤ). IsSigned128 k a) (λ p q r h. h) _ rest gave s) _
          c.in-Err-newtype_variant_with-11.ensures.bare c.in-Err-newtype_variant_with-11.ensures.part refl));
    }

pub read_term-newtype_variant_with-requires-in-Ok-eq12-default : goal.read_term-newtype_variant_with-requires-in-Ok-eq12-default
read_term-newtype_variant_with-requires-in-Ok-eq12-default g t c = λ b p q.
    let h = content_room_falls g.R.Source _ _ c.args.de.now _ c.in-Ok-eq12-default.ensures.opened b in
    let e = ap (λ (z : _). max 1 z.room) q in
    (omega (arith, h, e, c.decreases), ((λ a m. m), ((λ a m. m), (λ a m. m))))

pub read_term-returns-in-Ok-newtype_variant_with-12 : goal.read_term-returns-in-Ok-newtype_variant_with-12
read_term-returns-in-Ok-newtype_variant_with-12 g t c =
    let k = c.in-Ok-eq12-default in
    (record {
      law = variant_done g.R.Source term_names (TermCase IsTerm) IsTerm _ _ _ (λ (a : Box Term Global) c. Content (λ k. IsTerm k a.value) c) 12 _ _
          (term_made _)
          (λ k h. (_, ap out-Term (sym (rolls-Not _)) ∙ out-roll-Term _, h))
          (given_read g.R.Source _ _ (λ k (a : Box Term Global). IsTerm k a.value) term_names 12 _ _ (rw k.field-0-0-test at k.ensures.opened) _ _
          (λ rest gave s. lent_law g.R.Source _ _ (λ k (a : Box Term Global). IsTerm k a.value) (λ p q r h. h) _ rest gave s) _
          c.in-Ok-newtype_variant_with-12.ensures.bare c.in-Ok-newtype_variant_with-12.ensures.part refl) (grind (arith, sym k.ensures.same_reference));
    })

pub read_term-returns-in-Err-newtype_variant_with-12 : goal.read_term-returns-in-Err-newtype_variant_with-12
read_term-returns-in-Err-newtype_variant_with-12 g t c =
    let k = c.in-Ok-eq12-default in
    record {
      law = lawful_err _ (λ m v. OfVariant term_names (TermCase IsTerm v) m) _ _ _ _ term_variant
          (variant_err _ _ (TermCase IsTerm) _ _ _ (grind (arith, sym k.ensures.same_reference)) _ 12 _ (λ v k h. readable _ k h.0 h.2)
          (given_refused g.R.Source _ _ (λ k (a : Box Term Global). IsTerm k a.value) term_names 12 _ _ (rw k.field-0-0-test at k.ensures.opened) _ _
          (λ rest gave s. lent_law g.R.Source _ _ (λ k (a : Box Term Global). IsTerm k a.value) (λ p q r h. h) _ rest gave s) _
          c.in-Err-newtype_variant_with-12.ensures.bare c.in-Err-newtype_variant_with-12.ensures.part refl));
    }

pub read_term-newtype_variant_with-requires-in-Ok-eq13-default : goal.read_term-newtype_variant_with-requires-in-Ok-eq13-default
read_term-newtype_variant_with-requires-in-Ok-eq13-default g t c = λ b p q.
    let h = content_room_falls g.R.Source _ _ c.args.de.now _ c.in-Ok-eq13-default.ensures.opened b in
    let e = ap (λ (z : _). max 1 z.room) q in
    (omega (arith, h, e, c.decreases), ((λ a m. m), ((λ a m. m), (λ a m. m))))

pub read_term-returns-in-Ok-newtype_variant_with-13 : goal.read_term-returns-in-Ok-newtype_variant_with-13
read_term-returns-in-Ok-newtype_variant_with-13 g t c =
    let k = c.in-Ok-eq13-default in
    (record {
      law = variant_done g.R.Source term_names (TermCase IsTerm) IsTerm _ _ _
          (λ (a : Option (Box Term Global)) c. Content (λ k. IsOption (Boxed IsTerm) k a) c) 13 _ _ (term_made _)
          (λ k h. (_, ap out-Term (sym (rolls-Next _)) ∙ out-roll-Term _, h))
          (given_read g.R.Source _ _ (λ k (a : Option (Box Term Global)). IsOption (Boxed IsTerm) k a) term_names 13 _ _
          (rw k.field-0-0-test at k.ensures.opened) _ _
          (λ rest gave s. lent_law g.R.Source _ _ (λ k (a : Option (Box Term Global)). IsOption (Boxed IsTerm) k a) (λ p q r h. h) _ rest gave s) _
          c.in-Ok-newtype_variant_with-13.ensures.bare c.in-Ok-newtype_variant_with-13.ensures.part refl) (grind (arith, sym k.ensures.same_reference));
    })

pub read_term-returns-in-Err-newtype_variant_with-13 : goal.read_term-returns-in-Err-newtype_variant_with-13
read_term-returns-in-Err-newtype_variant_with-13 g t c =
    let k = c.in-Ok-eq13-default in
    record {
      law = lawful_err _ (λ m v. OfVariant term_names (TermCase IsTerm v) m) _ _ _ _ term_variant
          (variant_err _ _ (TermCase IsTerm) _ _ _ (grind (arith, sym k.ensures.same_reference)) _ 13 _ (λ v k h. readable _ k h.0 h.2)
          (given_refused g.R.Source _ _ (λ k (a : Option (Box Term Global)). IsOption (Boxed IsTerm) k a) term_names 13 _ _
          (rw k.field-0-0-test at k.ensures.opened) _ _
          (λ rest gave s. lent_law g.R.Source _ _ (λ k (a : Option (Box Term Global)). IsOption (Boxed IsTerm) k a) (λ p q r h. h) _ rest gave s) _
          c.in-Err-newtype_variant_with-13.ensures.bare c.in-Err-newtype_variant_with-13.ensures.part refl));
    }

pub read_term-newtype_variant_with-requires-in-Ok : goal.read_term-newtype_variant_with-requires-in-Ok
read_term-newtype_variant_with-requires-in-Ok g t c = λ b p q.
    let h = content_room_falls g.R.Source _ _ c.args.de.now _ c.in-Ok.ensures.opened b in
    let e = ap (λ (z : _). max 1 z.room) q in
    (omega (arith, h, e, c.decreases), ((λ a m. m), ((λ a m. m), (λ a m. m))))

pub read_term-returns-in-Ok-newtype_variant_with-14 : goal.read_term-returns-in-Ok-newtype_variant_with-14
read_term-returns-in-Ok-newtype_variant_with-14 g t c =
    let k = c.in-Ok in
    let at : k.field-0-0 ≡ 14 = omega (arith, k.field-0-0-test, k.ensures.below) in
    (record {
      law = variant_done g.R.Source term_names (TermCase IsTerm) IsTerm _ _ _ (λ (a : Vec Term Global) c. Content (λ k. Row IsTerm k a.items) c) 14 _ _
          (term_made _)
          (λ k h. (_, ap out-Term (sym (rolls-Sum _)) ∙ out-roll-Term _, h))
          (given_read g.R.Source _ _ (λ k (a : Vec Term Global). Row IsTerm k a.items) term_names 14 _ _ (rw at at k.ensures.opened) _ _
          (λ rest gave s. lent_law g.R.Source _ _ (λ k (a : Vec Term Global). Row IsTerm k a.items) (λ p q r h. h) _ rest gave s) _
          c.in-Ok-newtype_variant_with-14.ensures.bare c.in-Ok-newtype_variant_with-14.ensures.part refl) (grind (arith, sym k.ensures.same_reference));
    })

pub read_term-returns-in-Err-newtype_variant_with-14 : goal.read_term-returns-in-Err-newtype_variant_with-14
read_term-returns-in-Err-newtype_variant_with-14 g t c =
    let k = c.in-Ok in
    let at : k.field-0-0 ≡ 14 = omega (arith, k.field-0-0-test, k.ensures.below) in
    record {
      law = lawful_err _ (λ m v. OfVariant term_names (TermCase IsTerm v) m) _ _ _ _ term_variant
          (variant_err _ _ (TermCase IsTerm) _ _ _ (grind (arith, sym k.ensures.same_reference)) _ 14 _ (λ v k h. readable _ k h.0 h.2)
          (given_refused g.R.Source _ _ (λ k (a : Vec Term Global). Row IsTerm k a.items) term_names 14 _ _ (rw at at k.ensures.opened) _ _
          (λ rest gave s. lent_law g.R.Source _ _ (λ k (a : Vec Term Global). Row IsTerm k a.items) (λ p q r h. h) _ rest gave s) _
          c.in-Err-newtype_variant_with-14.ensures.bare c.in-Err-newtype_variant_with-14.ensures.part refl));
    }

pub read_term-returns-in-Err : goal.read_term-returns-in-Err
read_term-returns-in-Err g t c = record {
  law = lawful_err _ (λ m v. OfVariant term_names (TermCase IsTerm v) m) _ _ _ _ term_variant
      (variant_unopened _ _ (TermCase IsTerm) _ _ _ (search rules) _ (rw c.in-Err.is at c.deserialize_enum_by.follows.holds-at-none));
}

pub read_term_box-returns-in-Err : goal.read_term_box-returns-in-Err
read_term_box-returns-in-Err g t c = record {
  law = lawful_err _ _ _ _ _ _ (λ m r. (r.0.value, r.1)) c.in-Err.ensures.law;
}

pub read_term_option-returns : goal.read_term_option-returns
read_term_option-returns g t c = record {
  law = option_law g.R.Source (Boxed IsTerm) _ _ _ _ (λ p q r h. h) _ c.deserialize_option_with.ensures;
}

pub read_term_option-deserialize_option_with-requires : goal.read_term_option-deserialize_option_with-requires
read_term_option-deserialize_option_with-requires g t c = λ f d s p q.
    let h = s.stays.room in
    let e = ap (λ (z : _). max 1 z.room) q in
    (omega (arith, h, e, c.decreases), ((λ a m. m), ((λ a m. m), (λ a m. m))))

pub read_term_list-returns-in_err-seq : goal.read_term_list-returns-in_err-seq
read_term_list-returns-in_err-seq g t c =
    let p = err_from_is_err_and c.from_residual.result c.from_residual.ensures.1 in
    rw (p.1, p.2) (record {
      law = lawful_err _ (Row IsTerm) _ _ _ _ (vec_row IsTerm)
          (row_unopened g.R.Source IsTerm _ _ _ (rw c.in_err-seq.was at c.deserialize_seq.follows.holds-at-none));
    })

pub read_term_list-loop-items-init : goal.read_term_list-loop-items-init
read_term_list-loop-items-init g t c =
    rw c.new-items.ensures.items (values_start g.R.Source IsTerm c.in_ok-seq.seq c.in_ok-seq.ensures.opened.opened)

pub read_term_list-next_element_with-requires : goal.read_term_list-next_element_with-requires
read_term_list-next_element_with-requires g t c =
    λ s some d l p q.
    let h = part_room g.R.Source c.args.de.now c.in_ok-seq.seq c.loop-items.seq _ c.in_ok-seq.ensures.opened c.loop-items.invariant.run d l in
    let e = ap (λ (z : _). max 1 z.room) q in
    (omega (arith, h, e, c.decreases), ((λ a m. m), ((λ a m. m), (λ a m. m))))

pub read_term_list-returns-in_err-item : goal.read_term_list-returns-in_err-item
read_term_list-returns-in_err-item g t c =
    let p = err_from_is_err_and c.from_residual-in_err-item.result c.from_residual-in_err-item.ensures.1 in
    let r = c.loop-items.invariant in
    let e = c.in_err-item.ensures in
    let some = some_if_err c.loop-items.seq.left _ (e.none r.run.still.sound) in
    let f = item_refused g.R.Source IsTerm c.loop-items.seq c.next_element_with.new.self r.run.still e.list (λ p q r h. h) _ some
    (e.part r.run.still.sound some) in
    rw (p.1, p.2) (record {
      law = lawful_err _ (Row IsTerm) _ _ _ _ (vec_row IsTerm)
          (row_refused g.R.Source IsTerm _ c.in_ok-seq.seq c.loop-items.seq c.loop-items.items.items c.in_ok-seq.ensures.opened r _
          c.next_element_with.new.self _ f (e.marked r.run.still.marked) (search rules));
    })

pub read_term_list-loop-items-preserved : goal.read_term_list-loop-items-preserved
read_term_list-loop-items-preserved g t c =
    let r = c.loop-items.invariant in
    let e = c.in_ok-item.ensures in
    let is = c.in-Some.is in
    let some = some_if c.loop-items.seq.left c.in-Some.item _ is (e.none r.run.still.sound) in
    let k = item_taken g.R.Source IsTerm c.loop-items.seq c.next_element_with.new.self r.run.still e.list (λ p q r h. h) c.in-Some.item
    (rw is at (e.part r.run.still.sound some)) e.still in
    rw c.in_ok-push.ensures.items (values_step g.R.Source IsTerm c.in_ok-seq.seq c.loop-items.seq c.next_element_with.new.self c.loop-items.items.items
    c.in-Some.item r k e.same_reference)

pub read_term_list-returns : goal.read_term_list-returns
read_term_list-returns g t c =
    let r = c.loop-items.invariant in
    let e = c.in_ok-item.ensures in
    let z = none_left c.loop-items.seq.left (λ l. never_none g.R.Source c.loop-items.seq c.next_element_with.new.self
    (rw c.in_default.is at (e.part r.run.still.sound l))) in
    let n = (e.none r.run.still.sound z).1 in
    let d = (c.in_ok-end.ensures.ok (subst IsOpen (sym n) r.run.still)).1 in
    record {
      law = vec_done g.R.Source IsTerm _ c.in_ok-seq.seq c.loop-items.seq c.loop-items.items c.in_ok-seq.ensures.opened r _ z
          (via c.end.new.self.0 (search rules) (d ∙ ap (λ s. record s.de.now { failed = false }) n));
    }

pub read_term_list-returns-in_err-push : goal.read_term_list-returns-in_err-push
read_term_list-returns-in_err-push g t c =
    let p = err_from_is_err_and c.from_residual-in_err-push.result c.from_residual-in_err-push.ensures.1 in
    rw (p.1, p.2) (record {
      law = lawful_at g.R.Source _ _ _ c.next_element_with.new.self.de.now _
          (let same = sym c.in_ok-seq.ensures.same_reference ∙ sym c.loop-items.invariant.run.same_reference ∙ sym c.in_ok-item.ensures.same_reference
          in search rules) (
          let r = c.loop-items.invariant in
          let e = c.in_ok-item.ensures in
          let is = c.in-Some.is in
          let some = some_if c.loop-items.seq.left c.in-Some.item _ is (e.none r.run.still.sound) in
          let k = item_taken g.R.Source IsTerm c.loop-items.seq c.next_element_with.new.self r.run.still e.list (λ p q r h. h) c.in-Some.item
          (rw is at (e.part r.run.still.sound some)) e.still in
          let v = values_step g.R.Source IsTerm c.in_ok-seq.seq c.loop-items.seq c.next_element_with.new.self c.loop-items.items.items c.in-Some.item r k
          e.same_reference in
          lawful_err _ (Row IsTerm) _ _ _ _ (vec_row IsTerm)
          (row_unkept g.R.Source IsTerm _ c.in_ok-seq.seq c.next_element_with.new.self _ c.in_ok-seq.ensures.opened v _ refl));
    })

pub read_term_list-returns-in_err-end : goal.read_term_list-returns-in_err-end
read_term_list-returns-in_err-end g t c =
    let r = c.loop-items.invariant in
    let e = c.in_ok-item.ensures in
    let z = none_left c.loop-items.seq.left (λ l. never_none g.R.Source c.loop-items.seq c.next_element_with.new.self
    (rw c.in_default.is at (e.part r.run.still.sound l))) in
    let n = (e.none r.run.still.sound z).1 in
    let d = (c.in_err-end.ensures.err (subst IsOpen (sym n) r.run.still)).0 in
    absurd (omega (arith, z, d, ap (λ s. s.left) n))
