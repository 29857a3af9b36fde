-- Each exit by the marker: what was taken is the rest of a head of it, or the call for that rest failed.
use Rattle.std.proofs.Common.{◌∙◌, ap, Err, refl, arith, pos, ◌%◌, inl, inr, rules}
use Rattle.std.specs.Int.{w8, w16, w32}
use Rattle.std.proofs.lemmas.Result.{err_from_is_err_and}
use Rattle.rmp_wire.specs.Heads.{IsHead}
use Rattle.rmp_wire.specs.Taking.{byte_of}
use Rattle.rmp_wire.specs.declared.head.Head.TheVariants.{Text, Array, Map}
use Rattle.rmp_wire.specs.declared.marker.Marker.TheVariants as marker
use Rattle.rmp_wire.proofs.HeadReads.{fails_number, fits_unsigned, reads_whole}
use Rattle.rmp_decode.proofs.Allowed.{held_whole, held_number, lenient_read, wire_failed, opens_small, opens_text, opens_list, opens_map}
use Rattle.rmp_decode.proofs.deserializer.heads.head_of.Goals as goal

pub returns-in-FixPos-clause-taken : goal.returns-in-FixPos-clause-taken
unfolding IsHead byte_of
returns-in-FixPos-clause-taken g c = held_whole g.S.Source _ _ (marker.FixPos c.in-FixPos.n) _ (pos (c.in-FixPos.n % 0x80)) _ c.in-FixPos.is c.from.ensures
    (fits_unsigned _ (omega arith)) (inl (omega arith, refl)) (opens_small _ (omega arith))

pub returns-in-FixStr-clause-taken : goal.returns-in-FixStr-clause-taken
unfolding IsHead byte_of
returns-in-FixStr-clause-taken g c = held_number g.S.Source _ _ (marker.FixStr c.in-FixStr.n) Text _ (c.in-FixStr.n % 0x20) _ c.in-FixStr.is
    c.from-in-FixStr.ensures (inl (omega arith, refl)) (opens_text _ (omega arith))

pub returns-in-FixArray-clause-taken : goal.returns-in-FixArray-clause-taken
unfolding IsHead byte_of
returns-in-FixArray-clause-taken g c = held_number g.S.Source _ _ (marker.FixArray c.in-FixArray.n) Array _ (c.in-FixArray.n % 0x10) _ c.in-FixArray.is
    c.from-in-FixArray.ensures (inl (omega arith, refl)) (opens_list _ (omega arith))

pub returns-in-FixMap-clause-taken : goal.returns-in-FixMap-clause-taken
unfolding IsHead byte_of
returns-in-FixMap-clause-taken g c = held_number g.S.Source _ _ (marker.FixMap c.in-FixMap.n) Map _ (c.in-FixMap.n % 0x10) _ c.in-FixMap.is
    c.from-in-FixMap.ensures (inl (omega arith, refl)) (opens_map _ (omega arith))

pub returns-in_err-number_8-in-U8-clause-refused : goal.returns-in_err-number_8-in-U8-clause-refused
returns-in_err-number_8-in-U8-clause-refused g c =
    let p = err_from_is_err_and c.from_residual.result c.from_residual.ensures.1 in
    wire_failed g.S.Source _ _ _ _ _ _ (p.1 ∙ ap Err p.2)
    (fails_number g.S.Source w8 _ marker.U8 _ _ _ _ c.in-U8.is refl refl c.in_err-number_8-in-U8.ensures.reads)

pub returns-in_ok-number_8-in-U8-clause-taken : goal.returns-in_ok-number_8-in-U8-clause-taken
unfolding IsHead byte_of
returns-in_ok-number_8-in-U8-clause-taken g c = lenient_read g.S.Source _ _ _ _ _ (search rules)
    (reads_whole g.S.Source w8 _ marker.U8 _ (pos c.in_ok-number_8-in-U8.field-0) _ _ _ c.in-U8.is c.from-in-U8.ensures
    (fits_unsigned _ (omega (arith, c.in_ok-number_8-in-U8.ensures.reads.below))) c.in_ok-number_8-in-U8.ensures.reads
    (inr (inl (c.in_ok-number_8-in-U8.ensures.reads.below, refl))))

pub returns-in_err-number_16-in-U16-clause-refused : goal.returns-in_err-number_16-in-U16-clause-refused
returns-in_err-number_16-in-U16-clause-refused g c =
    let p = err_from_is_err_and c.from_residual-in_err-number_16-in-U16.result c.from_residual-in_err-number_16-in-U16.ensures.1 in
    wire_failed g.S.Source _ _ _ _ _ _ (p.1 ∙ ap Err p.2)
    (fails_number g.S.Source w16 _ marker.U16 _ _ _ _ c.in-U16.is refl refl c.in_err-number_16-in-U16.ensures.reads)

pub returns-in_ok-number_16-in-U16-clause-taken : goal.returns-in_ok-number_16-in-U16-clause-taken
unfolding IsHead byte_of
returns-in_ok-number_16-in-U16-clause-taken g c = lenient_read g.S.Source _ _ _ _ _ (search rules)
    (reads_whole g.S.Source w16 _ marker.U16 _ (pos c.in_ok-number_16-in-U16.field-0) _ _ _ c.in-U16.is c.from-in-U16.ensures
    (fits_unsigned _ (omega (arith, c.in_ok-number_16-in-U16.ensures.reads.below))) c.in_ok-number_16-in-U16.ensures.reads
    (inr (inr (inl (c.in_ok-number_16-in-U16.ensures.reads.below, refl)))))

pub returns-in_err-number_32-in-U32-clause-refused : goal.returns-in_err-number_32-in-U32-clause-refused
returns-in_err-number_32-in-U32-clause-refused g c =
    let p = err_from_is_err_and c.from_residual-in_err-number_32-in-U32.result c.from_residual-in_err-number_32-in-U32.ensures.1 in
    wire_failed g.S.Source _ _ _ _ _ _ (p.1 ∙ ap Err p.2)
    (fails_number g.S.Source w32 _ marker.U32 _ _ _ _ c.in-U32.is refl refl c.in_err-number_32-in-U32.ensures.reads)

pub returns-in_ok-number_32-in-U32-clause-taken : goal.returns-in_ok-number_32-in-U32-clause-taken
unfolding IsHead byte_of
returns-in_ok-number_32-in-U32-clause-taken g c = lenient_read g.S.Source _ _ _ _ _ (search rules)
    (reads_whole g.S.Source w32 _ marker.U32 _ (pos c.in_ok-number_32-in-U32.field-0) _ _ _ c.in-U32.is c.from-in-U32.ensures
    (fits_unsigned _ (omega (arith, c.in_ok-number_32-in-U32.ensures.reads.below))) c.in_ok-number_32-in-U32.ensures.reads
    (inr (inr (inr (inl (c.in_ok-number_32-in-U32.ensures.reads.below, refl))))))
