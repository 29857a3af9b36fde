-- A read of a struct meets an end only inside of a message, where those of its fields do.
use Rattle.std.proofs.Common.{ℕ, zero, suc, ◌*◌, inl, inr, arith, List, [], ◌∷◌, length}
use Rattle.std.specs.Prelude.{◌≡◌, Bool, Option, None, Some, MatchOption}
use Rattle.rmp_wire.specs.Msg.{Msg}
use Rattle.rmp_wire.specs.declared.head.Head.TheVariants.{Nil, Truth, Whole, F32Bits, F64Bits, Text, Bin, Array, Map, Ext}
use Rattle.rmp_decode.specs.Content.{not_raw, never_refused}
use Rattle.rmp_decode.specs.FieldRefusing.{FieldRefused, NamedRefused, PairFails, RefusesFields}
use Rattle.rmp_decode.specs.Fields.{not_fields, name_refusal, pass_refusal}
use Rattle.rmp_decode.specs.Names.{IsNameHead}
use Rattle.rmp_decode.specs.Refusing.{Setting, Part, Excess}
use Rattle.rmp_decode.specs.Words.{field_of, fitting}
use Rattle.rmp_decode.specs.declared.error.Error.{Error}
use Rattle.rmp_ends.specs.EndsInside.{AlwaysInside, IsNoEnd}
use Rattle.rmp_ends.specs.LeafEnds.{NoEnds, heads_inside, contents_inside, neither, syntax_no_end, depth_no_end, named_no_end}
use Rattle.rmp_ends.specs.MapEnds.{PairsInside, message_inside, entries_inside, opened_map_inside}
use Rattle.rmp_ends.specs.RefusalEnds.{passed_inside}
use Rattle.rmp_ends.specs.RowEnds.{PartsInside, parts_inside, excess_inside, opened_inside}
use Rattle.rmp_ends.specs.Unfinished.{unfinished_first}

-- what is no list, bytes or map
not_fields_none : (room : ℕ) → NoEnds (not_fields room)
not_fields_none room m (Array n) e r = depth_no_end e r.1
not_fields_none room m (Map n) e r = depth_no_end e r.1
not_fields_none room m (Bin n) e r = absurd r
not_fields_none room m Nil e r = syntax_no_end e _ r
not_fields_none room m (Truth t) e r = syntax_no_end e _ r
not_fields_none room m (Whole z) e r = syntax_no_end e _ r
not_fields_none room m (F32Bits n) e r = syntax_no_end e _ r
not_fields_none room m (F64Bits n) e r = syntax_no_end e _ r
not_fields_none room m (Text n) e r = syntax_no_end e _ r
not_fields_none room m (Ext n tag) e r = syntax_no_end e _ r

-- a key that says nothing
name_inside : AlwaysInside name_refusal
name_inside s n xs e own r end = contents_inside s.strict IsNameHead not_raw never_refused (λ m h. neither) (λ h t k w q. absurd q) n xs e own r.0 end

-- the value of one of the fields
field_inside : (ps : List Part) → PartsInside ps → (place : ℕ) → AlwaysInside (FieldRefused ps place)
field_inside [] laws place s n xs e own r end = absurd r
field_inside (p ∷ ps) laws zero s n xs e own r end = laws.0 s n xs e own r end
field_inside (p ∷ ps) laws (suc place) s n xs e own r end = field_inside ps laws.1 place s n xs e own r end

named_inside : (ps : List Part) → PartsInside ps → (fs : List (Option Msg)) (place : ℕ) → AlwaysInside (NamedRefused ps fs place)
named_inside ps laws fs place s n xs e own (inl r) end = absurd (syntax_no_end e _ r.0 end)
named_inside ps laws fs place s n xs e own (inr r) end = field_inside ps laws place s n xs e own r end

-- a pair of a map
pair_inside : (names : List (List ℕ)) (ps : List Part) → PartsInside ps → (fs : List (Option Msg)) (s : Setting) (faults : ℕ)
    → PairsInside (PairFails names ps fs s faults faults)
pair_inside names ps laws fs s faults n xs e own (some, inl r) end = unfinished_first (2 * n) xs (omega (arith, some)) (name_inside s faults xs e own r end)
pair_inside names ps laws fs s faults n xs e own (some, inr (inl r)) end =
    message_inside s _ (pass_refusal s faults faults) (2 * n) xs e own r end (omega (arith, some)) (passed_inside s faults)
pair_inside names ps laws fs s faults n xs e own (some, inr (inr r)) end =
    message_inside s _ (NamedRefused ps fs r.0 s faults faults) (2 * n) xs e own r.1 end (omega (arith, some)) (named_inside ps laws fs r.0 s faults)

-- a field that is missing
lacks_none : (o : Option (List ℕ)) (e : Error) → MatchOption o ⊥ (λ name. field_of e ≡ Some (fitting name)) → IsNoEnd e
lacks_none None e f = absurd f
lacks_none (Some name) e f = named_no_end e (fitting name) f

pub fields_inside : (names : List (List ℕ)) (needed : List Bool) (ps : List Part) → PartsInside ps → AlwaysInside (RefusesFields names needed ps)
unfolding RefusesFields
fields_inside names needed ps laws s n xs e own (inl r) end = heads_inside s.strict (not_fields s.room) (not_fields_none s.room) n xs e own r end
fields_inside names needed ps laws s n xs e own (inr (inl r)) end =
    opened_inside s _ xs e own r end (λ b i. parts_inside b i n ps (Excess (length ps)) laws (excess_inside b (length ps)))
fields_inside names needed ps laws s n xs e own (inr (inr r)) end = opened_map_inside s _ xs e own r end (λ i many ys f b q is.
    entries_inside i _ many _ ys f b q.1 is (λ left zs g h t at. elim t [
      | inl u ↦ pair_inside names ps laws q.0 i n left zs g h u at
      | inr u ↦ absurd (lacks_none _ g u.1 at)
    ]))
