-- A read of an enum meets an end only inside of a message, where those of its variants' contents do.
use Rattle.std.proofs.Common.{◌≡◌, ℕ, zero, suc, ◌*◌, inl, inr, arith, List, [], ◌∷◌}
use Rattle.std.specs.Prelude.{Bool, true, false, Some, pos, negsuc, cond, nat_le}
use Rattle.rmp_wire.specs.Spelling.{IsBytes}
use Rattle.rmp_wire.specs.declared.head.Head.{Head}
use Rattle.rmp_wire.specs.declared.head.Head.TheVariants.{Nil, Truth, Whole, F32Bits, F64Bits, Text, Bin, Array, Map, Ext}
use Rattle.rmp_wire.specs.declared.marker.Marker.{Marker}
use Rattle.rmp_decode.specs.Content.{IsRawHead}
use Rattle.rmp_decode.specs.EnumRefusing.{Choice, no_content, with_content, choice_at, RefusesAlone, RefusesAfterName, RefusesEnum}
use Rattle.rmp_decode.specs.Exact.{IsEnd, RefusesExactly}
use Rattle.rmp_decode.specs.Refusing.{Setting, Refusals}
use Rattle.rmp_decode.specs.Units.{not_nothing}
use Rattle.rmp_decode.specs.VariantNames.{other_name, unknown_name, RefusesName}
use Rattle.rmp_decode.specs.Variants.{IsVariantHead, other_variant, not_variant, RefusesVariantOf, not_unit}
use Rattle.rmp_decode.specs.declared.error.Error.{Error}
use Rattle.rmp_decode.specs.declared.error.Error.TheVariants.{DepthLimitExceeded, Syntax}
use Rattle.rmp_decode.specs.declared.text.Text.TheVariants.{InvalidType}
use Rattle.rmp_ends.specs.EndsInside.{EndsInside, AlwaysInside, IsNoEnd}
use Rattle.rmp_ends.specs.LeafEnds.{contents_inside, exact_inside, by_utf8_none, neither, syntax_no_end, depth_no_end}
use Rattle.rmp_ends.specs.MapEnds.{message_inside, opened_map_inside}
use Rattle.rmp_ends.specs.Unfinished.{Unfinished, unfinished_first}

-- ---- names

name_none : (m : Marker) (h : Head) → IsNoEnd (other_name m h)
name_none m (Whole (pos n)) = neither
name_none m (Whole (negsuc n)) = neither
name_none m Nil = neither
name_none m (Truth t) = neither
name_none m (F32Bits n) = neither
name_none m (F64Bits n) = neither
name_none m (Text n) = neither
name_none m (Bin n) = neither
name_none m (Array n) = neither
name_none m (Map n) = neither
name_none m (Ext n tag) = neither

unknown_none : (h : Head) (s : List ℕ) (e : Error) → unknown_name h s e → IsNoEnd e
unknown_none (Text n) s e r = by_utf8_none s e _ r
unknown_none h s e r = syntax_no_end e _ r

variant_none : (m : Marker) (h : Head) → IsNoEnd (other_variant m h)
variant_none m (Map n) = neither
variant_none m h = name_none m h

content_none : (room : ℕ) (h : Head) (s : List ℕ) (e : Error) → not_variant room h s e → IsNoEnd e
content_none room (Map n) s e r = depth_no_end e r.1
content_none room h s e r = unknown_none h s e r

name_inside : (strict : Bool) → EndsInside (RefusesName strict)
name_inside strict = contents_inside strict IsRawHead other_name unknown_name name_none (λ h s e w r. unknown_none h s e r)

variant_inside : (names : List (List ℕ)) → AlwaysInside (RefusesVariantOf names)
variant_inside names s n xs e own (inl r) end =
    contents_inside s.strict IsVariantHead other_variant (not_variant s.room) variant_none (λ h t k w q. content_none s.room h t k q) n xs e own r.0 end
variant_inside names s n xs e own (inr r) end = opened_map_inside s _ xs e own r end (λ i many ys f b q is.
    let one = q.0 in unfinished_first (2 * many) ys (omega (arith, one)) (name_inside i.strict n ys f b q.1 is))

-- ---- contents

-- a name alone is no end, and the content meets one only inside of a message
pub record ChoiceInside (c : Choice) : Type 0 where
  pub alone : (e : Error) → c.alone e → IsNoEnd e
  pub content : AlwaysInside c.content

-- each of them is such
abbrev pub ChoicesInside : List Choice → Type 0
ChoicesInside [] = Unit {0}
ChoicesInside (c ∷ cs) = ChoiceInside c × ChoicesInside cs

pub no_content_inside : ChoiceInside no_content
no_content_inside = record { alone = λ e r. absurd r; content = λ s. exact_inside s.strict not_unit (λ m h. neither) }

pub with_content_inside : (refuses : Setting → Refusals) → AlwaysInside refuses → ChoiceInside (with_content refuses)
with_content_inside refuses law = record { alone = λ e r. syntax_no_end e _ r; content = law }

choice_inside : (cs : List Choice) → ChoicesInside cs → (place : ℕ) → ChoiceInside (choice_at cs place)
choice_inside [] laws place = record { alone = λ e r. absurd r; content = λ s n xs e own r. absurd r }
choice_inside (c ∷ cs) laws zero = laws.0
choice_inside (c ∷ cs) laws (suc place) = choice_inside cs laws.1 place

-- a struct without fields, as content or alone
deep_none : (room : ℕ) → IsNoEnd (cond (nat_le room 1) DepthLimitExceeded (Syntax InvalidType))
deep_none room = elim (nat_le room 1) as (λ b. IsNoEnd (cond b DepthLimitExceeded (Syntax InvalidType))) [ true ↦ neither | false ↦ neither ]

nothing_none : (room : ℕ) (m : Marker) (h : Head) → IsNoEnd (not_nothing room m h)
nothing_none room m (Array n) = deep_none room
nothing_none room m Nil = neither
nothing_none room m (Truth t) = neither
nothing_none room m (Whole z) = neither
nothing_none room m (F32Bits n) = neither
nothing_none room m (F64Bits n) = neither
nothing_none room m (Text n) = neither
nothing_none room m (Bin n) = neither
nothing_none room m (Map n) = neither
nothing_none room m (Ext n tag) = neither

pub nothing_inside : AlwaysInside (λ s. RefusesExactly s.strict (not_nothing s.room))
nothing_inside s = exact_inside s.strict (not_nothing s.room) (nothing_none s.room)

alone_inside : (names : List (List ℕ)) (cs : List Choice) → ChoicesInside cs → (s : Setting) (xs : List ℕ) (e : Error) → IsBytes xs
    → RefusesAlone names cs s (Some xs) e → IsNoEnd e
alone_inside names cs laws s xs e own r end = (choice_inside cs laws r.0).alone e r.1.refused end

after_name_inside : (names : List (List ℕ)) (cs : List Choice) → ChoicesInside cs → (s : Setting) (faults many : ℕ) (xs : List ℕ) (e : Error) → IsBytes xs
    → RefusesAfterName names cs s faults faults (Some xs) e → IsEnd e → many ≡ 1 → Unfinished (2 * many) xs
after_name_inside names cs laws s faults many xs e own r end one =
    message_inside s _ ((choice_at cs r.0).content s faults faults) (2 * many) xs e own r.1 end (omega (arith, one))
    ((choice_inside cs laws r.0).content s faults)

pub enum_inside : (names : List (List ℕ)) (cs : List Choice) → ChoicesInside cs → AlwaysInside (RefusesEnum names cs)
unfolding RefusesEnum
enum_inside names cs laws s n xs e own (inl r) end = variant_inside names s n xs e own r end
enum_inside names cs laws s n xs e own (inr (inl r)) end = absurd (alone_inside names cs laws s xs e own r end)
enum_inside names cs laws s n xs e own (inr (inr r)) end =
    opened_map_inside s _ xs e own r end (λ i many ys f b q is. after_name_inside names cs laws i n many ys f b q.1 is q.0)
