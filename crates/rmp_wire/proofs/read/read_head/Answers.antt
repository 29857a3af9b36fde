-- Each exit by the marker: what was taken is the rest of a head of it, or the call for that rest failed.
use Rattle.std.proofs.Common.{◌∙◌, ap, ◌%◌, Err, refl, arith, rules, true, false, pos, inl, inr}
use Rattle.std.specs.Int.{w8, w16, w32, w64, cast_signed}
use Rattle.std.proofs.lemmas.Result.{err_from_is_err_and}
use Rattle.rmp_wire.specs.Heads.{IsHead}
use Rattle.rmp_wire.specs.Taking.{byte_of}
use Rattle.rmp_wire.specs.declared.head.Head.TheVariants.{Nil, Truth, F32Bits, F64Bits, Text, Bin, Array, Map}
use Rattle.rmp_wire.specs.declared.marker.Marker.TheVariants as marker
use Rattle.rmp_wire.proofs.HeadReads.{
  fails_ext,
  fails_first,
  fails_number,
  fails_reserved,
  fails_tag,
  fits_16,
  fits_32,
  fits_64,
  fits_8,
  fits_unsigned,
  reads_ext,
  reads_held,
  reads_held_number,
  reads_held_whole,
  reads_negative,
  reads_number,
  reads_tag,
  reads_whole,
  widened,
}
use Rattle.rmp_wire.proofs.Taken.{fits_signed, signed_head, signed_made}
use Rattle.rmp_wire.proofs.read.read_head.Goals as goal

pub returns-in-FixPos : goal.returns-in-FixPos
unfolding IsHead byte_of
returns-in-FixPos g c = record {
  reads = reads_held_whole g.S.Source _ (marker.FixPos c.in-FixPos.n) _ (pos (c.in-FixPos.n % 0x80)) _ c.in-FixPos.is
      c.from.ensures (fits_unsigned _ (omega arith)) (inl (omega arith, refl));
}

pub returns-in-FixNeg : goal.returns-in-FixNeg
returns-in-FixNeg g c = record {
  reads = reads_negative g.S.Source _ c.in-FixNeg.n _ c.cast_unsigned.result _ c.in-FixNeg.is (search rules)
      c.from-in-FixNeg.ensures;
}

pub returns-in-FixMap : goal.returns-in-FixMap
unfolding IsHead byte_of
returns-in-FixMap g c = record {
  reads = reads_held_number g.S.Source _ (marker.FixMap c.in-FixMap.n) Map _ (c.in-FixMap.n % 0x10) _ c.in-FixMap.is
      c.from-in-FixMap.ensures (inl (omega arith, refl));
}

pub returns-in-FixArray : goal.returns-in-FixArray
unfolding IsHead byte_of
returns-in-FixArray g c = record {
  reads = reads_held_number g.S.Source _ (marker.FixArray c.in-FixArray.n) Array _ (c.in-FixArray.n % 0x10) _
      c.in-FixArray.is c.from-in-FixArray.ensures (inl (omega arith, refl));
}

pub returns-in-FixStr : goal.returns-in-FixStr
unfolding IsHead byte_of
returns-in-FixStr g c = record {
  reads = reads_held_number g.S.Source _ (marker.FixStr c.in-FixStr.n) Text _ (c.in-FixStr.n % 0x20) _ c.in-FixStr.is
      c.from-in-FixStr.ensures (inl (omega arith, refl));
}

pub returns-in-Null : goal.returns-in-Null
unfolding IsHead byte_of
returns-in-Null g c = record { reads = reads_held g.S.Source _ marker.Null Nil _ c.in-Null.is refl }

pub returns-in-Reserved : goal.returns-in-Reserved
returns-in-Reserved g c = record { reads = fails_reserved g.S.Source _ _ c.in-Reserved.is }

pub returns-in-False : goal.returns-in-False
unfolding IsHead byte_of
returns-in-False g c = record { reads = reads_held g.S.Source _ marker.False (Truth false) _ c.in-False.is refl }

pub returns-in-True : goal.returns-in-True
unfolding IsHead byte_of
returns-in-True g c = record { reads = reads_held g.S.Source _ marker.True (Truth true) _ c.in-True.is refl }

pub returns-in_err-number_8-in-Bin8 : goal.returns-in_err-number_8-in-Bin8
returns-in_err-number_8-in-Bin8 g c = let p = err_from_is_err_and c.from_residual.result c.from_residual.ensures.1
    in record { reads = fails_number g.S.Source w8 _ marker.Bin8 _ _ _ _ c.in-Bin8.is refl (p.1 ∙ ap Err p.2) c.in_err-number_8-in-Bin8.ensures.reads }

pub returns-in_ok-number_8-in-Bin8 : goal.returns-in_ok-number_8-in-Bin8
unfolding IsHead byte_of
returns-in_ok-number_8-in-Bin8 g c = record {
  reads = reads_number g.S.Source w8 _ marker.Bin8 Bin _ _ _ _ c.in-Bin8.is c.from-in-Bin8.ensures
      c.in_ok-number_8-in-Bin8.ensures.reads (λ b. inl (b, refl));
}

pub returns-in_err-number_16-in-Bin16 : goal.returns-in_err-number_16-in-Bin16
returns-in_err-number_16-in-Bin16 g c = let p = err_from_is_err_and c.from_residual-in_err-number_16-in-Bin16.result
    c.from_residual-in_err-number_16-in-Bin16.ensures.1
    in record { reads = fails_number g.S.Source w16 _ marker.Bin16 _ _ _ _ c.in-Bin16.is refl (p.1 ∙ ap Err p.2) c.in_err-number_16-in-Bin16.ensures.reads }

pub returns-in_ok-number_16-in-Bin16 : goal.returns-in_ok-number_16-in-Bin16
unfolding IsHead byte_of
returns-in_ok-number_16-in-Bin16 g c = record {
  reads = reads_number g.S.Source w16 _ marker.Bin16 Bin _ _ _ _ c.in-Bin16.is c.from-in-Bin16.ensures
      c.in_ok-number_16-in-Bin16.ensures.reads (λ b. inr (inl (b, refl)));
}

pub returns-in_err-number_32-in-Bin32 : goal.returns-in_err-number_32-in-Bin32
returns-in_err-number_32-in-Bin32 g c = let p = err_from_is_err_and c.from_residual-in_err-number_32-in-Bin32.result
    c.from_residual-in_err-number_32-in-Bin32.ensures.1
    in record { reads = fails_number g.S.Source w32 _ marker.Bin32 _ _ _ _ c.in-Bin32.is refl (p.1 ∙ ap Err p.2) c.in_err-number_32-in-Bin32.ensures.reads }

pub returns-in_ok-number_32-in-Bin32 : goal.returns-in_ok-number_32-in-Bin32
unfolding IsHead byte_of
returns-in_ok-number_32-in-Bin32 g c = record {
  reads = reads_number g.S.Source w32 _ marker.Bin32 Bin _ _ _ _ c.in-Bin32.is refl
      c.in_ok-number_32-in-Bin32.ensures.reads (λ b. inr (inr (b, refl)));
}

pub returns-in_err-number_8-in-Ext8 : goal.returns-in_err-number_8-in-Ext8
returns-in_err-number_8-in-Ext8 g c = let p = err_from_is_err_and c.from_residual-in_err-number_8-in-Ext8.result
    c.from_residual-in_err-number_8-in-Ext8.ensures.1 in record
    { reads = fails_first g.S.Source w8 _ marker.Ext8 _ _ _ _ c.in-Ext8.is refl (p.1 ∙ ap Err p.2) c.in_err-number_8-in-Ext8.ensures.reads }

pub returns-in_err-tag-in-Ext8 : goal.returns-in_err-tag-in-Ext8
returns-in_err-tag-in-Ext8 g c = let p = err_from_is_err_and c.from_residual-in_err-tag-in-Ext8.result c.from_residual-in_err-tag-in-Ext8.ensures.1
    in record {
      reads = fails_ext g.S.Source w8 _ marker.Ext8 _ _ _ _ _ _ c.in-Ext8.is refl (p.1 ∙ ap Err p.2) c.in_ok-number_8-in-Ext8.ensures.reads
          c.in_err-tag-in-Ext8.ensures.reads;
    }

pub returns-in_ok-tag-in-Ext8 : goal.returns-in_ok-tag-in-Ext8
unfolding IsHead byte_of
returns-in_ok-tag-in-Ext8 g c = record {
  reads = reads_ext g.S.Source w8 _ marker.Ext8 _ _ _ _ _ _ c.in-Ext8.is c.from-in-Ext8.ensures
      c.in_ok-number_8-in-Ext8.ensures.reads c.in_ok-tag-in-Ext8.ensures.reads (λ b f. inr (inr (inr (inr (inr (inl (b, f, refl)))))));
}

pub returns-in_err-number_16-in-Ext16 : goal.returns-in_err-number_16-in-Ext16
returns-in_err-number_16-in-Ext16 g c = let p = err_from_is_err_and c.from_residual-in_err-number_16-in-Ext16.result
    c.from_residual-in_err-number_16-in-Ext16.ensures.1
    in record { reads = fails_first g.S.Source w16 _ marker.Ext16 _ _ _ _ c.in-Ext16.is refl (p.1 ∙ ap Err p.2) c.in_err-number_16-in-Ext16.ensures.reads }

pub returns-in_err-tag-in-Ext16 : goal.returns-in_err-tag-in-Ext16
returns-in_err-tag-in-Ext16 g c = let p = err_from_is_err_and c.from_residual-in_err-tag-in-Ext16.result c.from_residual-in_err-tag-in-Ext16.ensures.1
    in record {
      reads = fails_ext g.S.Source w16 _ marker.Ext16 _ _ _ _ _ _ c.in-Ext16.is refl (p.1 ∙ ap Err p.2) c.in_ok-number_16-in-Ext16.ensures.reads
          c.in_err-tag-in-Ext16.ensures.reads;
    }

pub returns-in_ok-tag-in-Ext16 : goal.returns-in_ok-tag-in-Ext16
unfolding IsHead byte_of
returns-in_ok-tag-in-Ext16 g c = record {
  reads = reads_ext g.S.Source w16 _ marker.Ext16 _ _ _ _ _ _ c.in-Ext16.is c.from-in-Ext16.ensures
      c.in_ok-number_16-in-Ext16.ensures.reads c.in_ok-tag-in-Ext16.ensures.reads (λ b f. inr (inr (inr (inr (inr (inr (inl (b, f, refl))))))));
}

pub returns-in_err-number_32-in-Ext32 : goal.returns-in_err-number_32-in-Ext32
returns-in_err-number_32-in-Ext32 g c = let p = err_from_is_err_and c.from_residual-in_err-number_32-in-Ext32.result
    c.from_residual-in_err-number_32-in-Ext32.ensures.1
    in record { reads = fails_first g.S.Source w32 _ marker.Ext32 _ _ _ _ c.in-Ext32.is refl (p.1 ∙ ap Err p.2) c.in_err-number_32-in-Ext32.ensures.reads }

pub returns-in_err-tag-in-Ext32 : goal.returns-in_err-tag-in-Ext32
returns-in_err-tag-in-Ext32 g c = let p = err_from_is_err_and c.from_residual-in_err-tag-in-Ext32.result c.from_residual-in_err-tag-in-Ext32.ensures.1
    in record {
      reads = fails_ext g.S.Source w32 _ marker.Ext32 _ _ _ _ _ _ c.in-Ext32.is refl (p.1 ∙ ap Err p.2) c.in_ok-number_32-in-Ext32.ensures.reads
          c.in_err-tag-in-Ext32.ensures.reads;
    }

pub returns-in_ok-tag-in-Ext32 : goal.returns-in_ok-tag-in-Ext32
unfolding IsHead byte_of
returns-in_ok-tag-in-Ext32 g c = record {
  reads = reads_ext g.S.Source w32 _ marker.Ext32 _ _ _ _ _ _ c.in-Ext32.is refl
      c.in_ok-number_32-in-Ext32.ensures.reads c.in_ok-tag-in-Ext32.ensures.reads (λ b f. inr (inr (inr (inr (inr (inr (inr (b, f, refl))))))));
}

pub returns-in_err-number_32-in-F32 : goal.returns-in_err-number_32-in-F32
returns-in_err-number_32-in-F32 g c = let p = err_from_is_err_and c.from_residual-in_err-number_32-in-F32.result
    c.from_residual-in_err-number_32-in-F32.ensures.1 in record
    { reads = fails_number g.S.Source w32 _ marker.F32 _ _ _ _ c.in-F32.is refl (p.1 ∙ ap Err p.2) c.in_err-number_32-in-F32.ensures.reads }

pub returns-in_ok-number_32-in-F32 : goal.returns-in_ok-number_32-in-F32
unfolding IsHead byte_of
returns-in_ok-number_32-in-F32 g c = record {
  reads = reads_number g.S.Source w32 _ marker.F32 F32Bits _ _ _ _ c.in-F32.is refl
      c.in_ok-number_32-in-F32.ensures.reads (λ b. (b, refl));
}

pub returns-in_err-number_64-in-F64 : goal.returns-in_err-number_64-in-F64
returns-in_err-number_64-in-F64 g c = let p = err_from_is_err_and c.from_residual-in_err-number_64-in-F64.result
    c.from_residual-in_err-number_64-in-F64.ensures.1 in record
    { reads = fails_number g.S.Source w64 _ marker.F64 _ _ _ _ c.in-F64.is refl (p.1 ∙ ap Err p.2) c.in_err-number_64-in-F64.ensures.reads }

pub returns-in_ok-number_64-in-F64 : goal.returns-in_ok-number_64-in-F64
unfolding IsHead byte_of
returns-in_ok-number_64-in-F64 g c = record {
  reads = reads_number g.S.Source w64 _ marker.F64 F64Bits _ _ _ _ c.in-F64.is refl
      c.in_ok-number_64-in-F64.ensures.reads (λ b. (b, refl));
}

pub returns-in_err-number_8-in-U8 : goal.returns-in_err-number_8-in-U8
returns-in_err-number_8-in-U8 g c = let p = err_from_is_err_and c.from_residual-in_err-number_8-in-U8.result c.from_residual-in_err-number_8-in-U8.ensures.1
    in record { reads = fails_number g.S.Source w8 _ marker.U8 _ _ _ _ c.in-U8.is refl (p.1 ∙ ap Err p.2) c.in_err-number_8-in-U8.ensures.reads }

pub returns-in_ok-number_8-in-U8 : goal.returns-in_ok-number_8-in-U8
unfolding IsHead byte_of
returns-in_ok-number_8-in-U8 g c = record {
  reads = reads_whole g.S.Source w8 _ marker.U8 _ (pos c.in_ok-number_8-in-U8.field-0) _ _ _ c.in-U8.is
      c.from-in-U8.ensures (fits_unsigned _ (omega (arith, c.in_ok-number_8-in-U8.ensures.reads.below))) c.in_ok-number_8-in-U8.ensures.reads
      (inr (inl (c.in_ok-number_8-in-U8.ensures.reads.below, refl)));
}

pub returns-in_err-number_16-in-U16 : goal.returns-in_err-number_16-in-U16
returns-in_err-number_16-in-U16 g c = let p = err_from_is_err_and c.from_residual-in_err-number_16-in-U16.result
    c.from_residual-in_err-number_16-in-U16.ensures.1 in record
    { reads = fails_number g.S.Source w16 _ marker.U16 _ _ _ _ c.in-U16.is refl (p.1 ∙ ap Err p.2) c.in_err-number_16-in-U16.ensures.reads }

pub returns-in_ok-number_16-in-U16 : goal.returns-in_ok-number_16-in-U16
unfolding IsHead byte_of
returns-in_ok-number_16-in-U16 g c = record {
  reads = reads_whole g.S.Source w16 _ marker.U16 _ (pos c.in_ok-number_16-in-U16.field-0) _ _ _ c.in-U16.is
      c.from-in-U16.ensures (fits_unsigned _ (omega (arith, c.in_ok-number_16-in-U16.ensures.reads.below))) c.in_ok-number_16-in-U16.ensures.reads
      (inr (inr (inl (c.in_ok-number_16-in-U16.ensures.reads.below, refl))));
}

pub returns-in_err-number_32-in-U32 : goal.returns-in_err-number_32-in-U32
returns-in_err-number_32-in-U32 g c = let p = err_from_is_err_and c.from_residual-in_err-number_32-in-U32.result
    c.from_residual-in_err-number_32-in-U32.ensures.1 in record
    { reads = fails_number g.S.Source w32 _ marker.U32 _ _ _ _ c.in-U32.is refl (p.1 ∙ ap Err p.2) c.in_err-number_32-in-U32.ensures.reads }

pub returns-in_ok-number_32-in-U32 : goal.returns-in_ok-number_32-in-U32
unfolding IsHead byte_of
returns-in_ok-number_32-in-U32 g c = record {
  reads = reads_whole g.S.Source w32 _ marker.U32 _ (pos c.in_ok-number_32-in-U32.field-0) _ _ _ c.in-U32.is
      c.from-in-U32.ensures (fits_unsigned _ (omega (arith, c.in_ok-number_32-in-U32.ensures.reads.below))) c.in_ok-number_32-in-U32.ensures.reads
      (inr (inr (inr (inl (c.in_ok-number_32-in-U32.ensures.reads.below, refl)))));
}

pub returns-in_err-number_64-in-U64 : goal.returns-in_err-number_64-in-U64
returns-in_err-number_64-in-U64 g c = let p = err_from_is_err_and c.from_residual-in_err-number_64-in-U64.result
    c.from_residual-in_err-number_64-in-U64.ensures.1 in record
    { reads = fails_number g.S.Source w64 _ marker.U64 _ _ _ _ c.in-U64.is refl (p.1 ∙ ap Err p.2) c.in_err-number_64-in-U64.ensures.reads }

pub returns-in_ok-number_64-in-U64 : goal.returns-in_ok-number_64-in-U64
unfolding IsHead byte_of
returns-in_ok-number_64-in-U64 g c = record {
  reads = reads_whole g.S.Source w64 _ marker.U64 _ (pos c.in_ok-number_64-in-U64.field-0) _ _ _ c.in-U64.is
      c.from-in-U64.ensures (fits_unsigned _ (omega (arith, c.in_ok-number_64-in-U64.ensures.reads.below))) c.in_ok-number_64-in-U64.ensures.reads
      (inr (inr (inr (inr (inl (c.in_ok-number_64-in-U64.ensures.reads.below, refl))))));
}

pub returns-in_err-number_8-in-I8 : goal.returns-in_err-number_8-in-I8
returns-in_err-number_8-in-I8 g c = let p = err_from_is_err_and c.from_residual-in_err-number_8-in-I8.result c.from_residual-in_err-number_8-in-I8.ensures.1
    in record { reads = fails_number g.S.Source w8 _ marker.I8 _ _ _ _ c.in-I8.is refl (p.1 ∙ ap Err p.2) c.in_err-number_8-in-I8.ensures.reads }

pub returns-in_ok-number_8-in-I8 : goal.returns-in_ok-number_8-in-I8
unfolding IsHead byte_of
returns-in_ok-number_8-in-I8 g c = record {
  reads = reads_whole g.S.Source w8 _ marker.I8 _ (cast_signed w8 c.in_ok-number_8-in-I8.field-0) _ _ _ c.in-I8.is
      (widened w8 _ _ _ c.from-in-I8.ensures c.cast_signed.ensures (fits_signed w8 _ c.in_ok-number_8-in-I8.ensures.reads.below))
      (fits_8 _ c.in_ok-number_8-in-I8.ensures.reads.below) c.in_ok-number_8-in-I8.ensures.reads
      (signed_head _ _ (inl (signed_made 0xd0 w8 _ c.in_ok-number_8-in-I8.ensures.reads.below)));
}

pub returns-in_err-number_16-in-I16 : goal.returns-in_err-number_16-in-I16
returns-in_err-number_16-in-I16 g c = let p = err_from_is_err_and c.from_residual-in_err-number_16-in-I16.result
    c.from_residual-in_err-number_16-in-I16.ensures.1 in record
    { reads = fails_number g.S.Source w16 _ marker.I16 _ _ _ _ c.in-I16.is refl (p.1 ∙ ap Err p.2) c.in_err-number_16-in-I16.ensures.reads }

pub returns-in_ok-number_16-in-I16 : goal.returns-in_ok-number_16-in-I16
unfolding IsHead byte_of
returns-in_ok-number_16-in-I16 g c = record {
  reads = reads_whole g.S.Source w16 _ marker.I16 _ (cast_signed w16 c.in_ok-number_16-in-I16.field-0) _ _ _
      c.in-I16.is (widened w16 _ _ _ c.from-in-I16.ensures c.cast_signed-in-I16.ensures (fits_signed w16 _ c.in_ok-number_16-in-I16.ensures.reads.below))
      (fits_16 _ c.in_ok-number_16-in-I16.ensures.reads.below) c.in_ok-number_16-in-I16.ensures.reads
      (signed_head _ _ (inr (inl (signed_made 0xd1 w16 _ c.in_ok-number_16-in-I16.ensures.reads.below))));
}

pub returns-in_err-number_32-in-I32 : goal.returns-in_err-number_32-in-I32
returns-in_err-number_32-in-I32 g c = let p = err_from_is_err_and c.from_residual-in_err-number_32-in-I32.result
    c.from_residual-in_err-number_32-in-I32.ensures.1 in record
    { reads = fails_number g.S.Source w32 _ marker.I32 _ _ _ _ c.in-I32.is refl (p.1 ∙ ap Err p.2) c.in_err-number_32-in-I32.ensures.reads }

pub returns-in_ok-number_32-in-I32 : goal.returns-in_ok-number_32-in-I32
unfolding IsHead byte_of
returns-in_ok-number_32-in-I32 g c = record {
  reads = reads_whole g.S.Source w32 _ marker.I32 _ (cast_signed w32 c.in_ok-number_32-in-I32.field-0) _ _ _
      c.in-I32.is (widened w32 _ _ _ c.from-in-I32.ensures c.cast_signed-in-I32.ensures (fits_signed w32 _ c.in_ok-number_32-in-I32.ensures.reads.below))
      (fits_32 _ c.in_ok-number_32-in-I32.ensures.reads.below) c.in_ok-number_32-in-I32.ensures.reads
      (signed_head _ _ (inr (inr (inl (signed_made 0xd2 w32 _ c.in_ok-number_32-in-I32.ensures.reads.below)))));
}

pub returns-in_err-number_64-in-I64 : goal.returns-in_err-number_64-in-I64
returns-in_err-number_64-in-I64 g c = let p = err_from_is_err_and c.from_residual-in_err-number_64-in-I64.result
    c.from_residual-in_err-number_64-in-I64.ensures.1 in record
    { reads = fails_number g.S.Source w64 _ marker.I64 _ _ _ _ c.in-I64.is refl (p.1 ∙ ap Err p.2) c.in_err-number_64-in-I64.ensures.reads }

pub returns-in_ok-number_64-in-I64 : goal.returns-in_ok-number_64-in-I64
unfolding IsHead byte_of
returns-in_ok-number_64-in-I64 g c = record {
  reads = reads_whole g.S.Source w64 _ marker.I64 _ (cast_signed w64 c.in_ok-number_64-in-I64.field-0) _ _ _
      c.in-I64.is (widened w64 _ _ _ c.from-in-I64.ensures c.cast_signed-in-I64.ensures (fits_signed w64 _ c.in_ok-number_64-in-I64.ensures.reads.below))
      (fits_64 _ c.in_ok-number_64-in-I64.ensures.reads.below) c.in_ok-number_64-in-I64.ensures.reads
      (signed_head _ _ (inr (inr (inr (signed_made 0xd3 w64 _ c.in_ok-number_64-in-I64.ensures.reads.below)))));
}

pub returns-in_err-tag-in-FixExt1 : goal.returns-in_err-tag-in-FixExt1
returns-in_err-tag-in-FixExt1 g c = let p = err_from_is_err_and c.from_residual-in_err-tag-in-FixExt1.result c.from_residual-in_err-tag-in-FixExt1.ensures.1
    in record { reads = fails_tag g.S.Source _ marker.FixExt1 _ _ _ _ c.in-FixExt1.is refl (p.1 ∙ ap Err p.2) c.in_err-tag-in-FixExt1.ensures.reads }

pub returns-in_ok-tag-in-FixExt1 : goal.returns-in_ok-tag-in-FixExt1
unfolding IsHead byte_of
returns-in_ok-tag-in-FixExt1 g c = record {
  reads = reads_tag g.S.Source _ marker.FixExt1 1 _ _ _ c.in-FixExt1.is c.in_ok-tag-in-FixExt1.ensures.reads
      (λ f. inl (refl, f, refl));
}

pub returns-in_err-tag-in-FixExt2 : goal.returns-in_err-tag-in-FixExt2
returns-in_err-tag-in-FixExt2 g c = let p = err_from_is_err_and c.from_residual-in_err-tag-in-FixExt2.result c.from_residual-in_err-tag-in-FixExt2.ensures.1
    in record { reads = fails_tag g.S.Source _ marker.FixExt2 _ _ _ _ c.in-FixExt2.is refl (p.1 ∙ ap Err p.2) c.in_err-tag-in-FixExt2.ensures.reads }

pub returns-in_ok-tag-in-FixExt2 : goal.returns-in_ok-tag-in-FixExt2
unfolding IsHead byte_of
returns-in_ok-tag-in-FixExt2 g c = record {
  reads = reads_tag g.S.Source _ marker.FixExt2 2 _ _ _ c.in-FixExt2.is c.in_ok-tag-in-FixExt2.ensures.reads
      (λ f. inr (inl (refl, f, refl)));
}

pub returns-in_err-tag-in-FixExt4 : goal.returns-in_err-tag-in-FixExt4
returns-in_err-tag-in-FixExt4 g c = let p = err_from_is_err_and c.from_residual-in_err-tag-in-FixExt4.result c.from_residual-in_err-tag-in-FixExt4.ensures.1
    in record { reads = fails_tag g.S.Source _ marker.FixExt4 _ _ _ _ c.in-FixExt4.is refl (p.1 ∙ ap Err p.2) c.in_err-tag-in-FixExt4.ensures.reads }

pub returns-in_ok-tag-in-FixExt4 : goal.returns-in_ok-tag-in-FixExt4
unfolding IsHead byte_of
returns-in_ok-tag-in-FixExt4 g c = record {
  reads = reads_tag g.S.Source _ marker.FixExt4 4 _ _ _ c.in-FixExt4.is c.in_ok-tag-in-FixExt4.ensures.reads
      (λ f. inr (inr (inl (refl, f, refl))));
}

pub returns-in_err-tag-in-FixExt8 : goal.returns-in_err-tag-in-FixExt8
returns-in_err-tag-in-FixExt8 g c = let p = err_from_is_err_and c.from_residual-in_err-tag-in-FixExt8.result c.from_residual-in_err-tag-in-FixExt8.ensures.1
    in record { reads = fails_tag g.S.Source _ marker.FixExt8 _ _ _ _ c.in-FixExt8.is refl (p.1 ∙ ap Err p.2) c.in_err-tag-in-FixExt8.ensures.reads }

pub returns-in_ok-tag-in-FixExt8 : goal.returns-in_ok-tag-in-FixExt8
unfolding IsHead byte_of
returns-in_ok-tag-in-FixExt8 g c = record {
  reads = reads_tag g.S.Source _ marker.FixExt8 8 _ _ _ c.in-FixExt8.is c.in_ok-tag-in-FixExt8.ensures.reads
      (λ f. inr (inr (inr (inl (refl, f, refl)))));
}

pub returns-in_err-tag-in-FixExt16 : goal.returns-in_err-tag-in-FixExt16
returns-in_err-tag-in-FixExt16 g c = let p = err_from_is_err_and c.from_residual-in_err-tag-in-FixExt16.result
    c.from_residual-in_err-tag-in-FixExt16.ensures.1 in record
    { reads = fails_tag g.S.Source _ marker.FixExt16 _ _ _ _ c.in-FixExt16.is refl (p.1 ∙ ap Err p.2) c.in_err-tag-in-FixExt16.ensures.reads }

pub returns-in_ok-tag-in-FixExt16 : goal.returns-in_ok-tag-in-FixExt16
unfolding IsHead byte_of
returns-in_ok-tag-in-FixExt16 g c = record {
  reads = reads_tag g.S.Source _ marker.FixExt16 16 _ _ _ c.in-FixExt16.is c.in_ok-tag-in-FixExt16.ensures.reads
      (λ f. inr (inr (inr (inr (inl (refl, f, refl))))));
}

pub returns-in_err-number_8-in-Str8 : goal.returns-in_err-number_8-in-Str8
returns-in_err-number_8-in-Str8 g c = let p = err_from_is_err_and c.from_residual-in_err-number_8-in-Str8.result
    c.from_residual-in_err-number_8-in-Str8.ensures.1 in record
    { reads = fails_number g.S.Source w8 _ marker.Str8 _ _ _ _ c.in-Str8.is refl (p.1 ∙ ap Err p.2) c.in_err-number_8-in-Str8.ensures.reads }

pub returns-in_ok-number_8-in-Str8 : goal.returns-in_ok-number_8-in-Str8
unfolding IsHead byte_of
returns-in_ok-number_8-in-Str8 g c = record {
  reads = reads_number g.S.Source w8 _ marker.Str8 Text _ _ _ _ c.in-Str8.is c.from-in-Str8.ensures
      c.in_ok-number_8-in-Str8.ensures.reads (λ b. inr (inl (b, refl)));
}

pub returns-in_err-number_16-in-Str16 : goal.returns-in_err-number_16-in-Str16
returns-in_err-number_16-in-Str16 g c = let p = err_from_is_err_and c.from_residual-in_err-number_16-in-Str16.result
    c.from_residual-in_err-number_16-in-Str16.ensures.1
    in record { reads = fails_number g.S.Source w16 _ marker.Str16 _ _ _ _ c.in-Str16.is refl (p.1 ∙ ap Err p.2) c.in_err-number_16-in-Str16.ensures.reads }

pub returns-in_ok-number_16-in-Str16 : goal.returns-in_ok-number_16-in-Str16
unfolding IsHead byte_of
returns-in_ok-number_16-in-Str16 g c = record {
  reads = reads_number g.S.Source w16 _ marker.Str16 Text _ _ _ _ c.in-Str16.is c.from-in-Str16.ensures
      c.in_ok-number_16-in-Str16.ensures.reads (λ b. inr (inr (inl (b, refl))));
}

pub returns-in_err-number_32-in-Str32 : goal.returns-in_err-number_32-in-Str32
returns-in_err-number_32-in-Str32 g c = let p = err_from_is_err_and c.from_residual-in_err-number_32-in-Str32.result
    c.from_residual-in_err-number_32-in-Str32.ensures.1
    in record { reads = fails_number g.S.Source w32 _ marker.Str32 _ _ _ _ c.in-Str32.is refl (p.1 ∙ ap Err p.2) c.in_err-number_32-in-Str32.ensures.reads }

pub returns-in_ok-number_32-in-Str32 : goal.returns-in_ok-number_32-in-Str32
unfolding IsHead byte_of
returns-in_ok-number_32-in-Str32 g c = record {
  reads = reads_number g.S.Source w32 _ marker.Str32 Text _ _ _ _ c.in-Str32.is refl
      c.in_ok-number_32-in-Str32.ensures.reads (λ b. inr (inr (inr (b, refl))));
}

pub returns-in_err-number_16-in-Array16 : goal.returns-in_err-number_16-in-Array16
returns-in_err-number_16-in-Array16 g c = let p = err_from_is_err_and c.from_residual-in_err-number_16-in-Array16.result
    c.from_residual-in_err-number_16-in-Array16.ensures.1
    in record {
      reads = fails_number g.S.Source w16 _ marker.Array16 _ _ _ _ c.in-Array16.is refl (p.1 ∙ ap Err p.2)
          c.in_err-number_16-in-Array16.ensures.reads;
    }

pub returns-in_ok-number_16-in-Array16 : goal.returns-in_ok-number_16-in-Array16
unfolding IsHead byte_of
returns-in_ok-number_16-in-Array16 g c = record {
  reads = reads_number g.S.Source w16 _ marker.Array16 Array _ _ _ _ c.in-Array16.is
      c.from-in-Array16.ensures c.in_ok-number_16-in-Array16.ensures.reads (λ b. inr (inl (b, refl)));
}

pub returns-in_err-number_32-in-Array32 : goal.returns-in_err-number_32-in-Array32
returns-in_err-number_32-in-Array32 g c = let p = err_from_is_err_and c.from_residual-in_err-number_32-in-Array32.result
    c.from_residual-in_err-number_32-in-Array32.ensures.1
    in record {
      reads = fails_number g.S.Source w32 _ marker.Array32 _ _ _ _ c.in-Array32.is refl (p.1 ∙ ap Err p.2)
          c.in_err-number_32-in-Array32.ensures.reads;
    }

pub returns-in_ok-number_32-in-Array32 : goal.returns-in_ok-number_32-in-Array32
unfolding IsHead byte_of
returns-in_ok-number_32-in-Array32 g c = record {
  reads = reads_number g.S.Source w32 _ marker.Array32 Array _ _ _ _ c.in-Array32.is refl
      c.in_ok-number_32-in-Array32.ensures.reads (λ b. inr (inr (b, refl)));
}

pub returns-in_err-number_16-in-Map16 : goal.returns-in_err-number_16-in-Map16
returns-in_err-number_16-in-Map16 g c = let p = err_from_is_err_and c.from_residual-in_err-number_16-in-Map16.result
    c.from_residual-in_err-number_16-in-Map16.ensures.1
    in record { reads = fails_number g.S.Source w16 _ marker.Map16 _ _ _ _ c.in-Map16.is refl (p.1 ∙ ap Err p.2) c.in_err-number_16-in-Map16.ensures.reads }

pub returns-in_ok-number_16-in-Map16 : goal.returns-in_ok-number_16-in-Map16
unfolding IsHead byte_of
returns-in_ok-number_16-in-Map16 g c = record {
  reads = reads_number g.S.Source w16 _ marker.Map16 Map _ _ _ _ c.in-Map16.is c.from-in-Map16.ensures
      c.in_ok-number_16-in-Map16.ensures.reads (λ b. inr (inl (b, refl)));
}

pub returns-in_err-number_32-in-Map32 : goal.returns-in_err-number_32-in-Map32
returns-in_err-number_32-in-Map32 g c = let p = err_from_is_err_and c.from_residual-in_err-number_32-in-Map32.result
    c.from_residual-in_err-number_32-in-Map32.ensures.1
    in record { reads = fails_number g.S.Source w32 _ marker.Map32 _ _ _ _ c.in-Map32.is refl (p.1 ∙ ap Err p.2) c.in_err-number_32-in-Map32.ensures.reads }

pub returns-in_ok-number_32-in-Map32 : goal.returns-in_ok-number_32-in-Map32
unfolding IsHead byte_of
returns-in_ok-number_32-in-Map32 g c = record {
  reads = reads_number g.S.Source w32 _ marker.Map32 Map _ _ _ _ c.in-Map32.is refl
      c.in_ok-number_32-in-Map32.ensures.reads (λ b. inr (inr (b, refl)));
}
