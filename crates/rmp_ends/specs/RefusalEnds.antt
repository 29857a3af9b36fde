-- A read of any message meets an end only inside of a message.
use Rattle.std.proofs.Common.{◌≡◌, ◌∙◌, sym, ap, subst, refl, ℕ, suc, ◌+◌, ◌-◌, inl, inr, arith, List, ◌∷◌, ◌++◌}
use Rattle.std.specs.Prelude.{Bool, true, false}
use Rattle.rmp_wire.specs.Msg.{Msgs, count}
use Rattle.rmp_wire.specs.Spelling.{IsBytes}
use Rattle.rmp_wire.specs.declared.head.Head.{Head}
use Rattle.rmp_wire.proofs.Strict.{any_width}
use Rattle.rmp_wire.proofs.Taken.{bytes_parts}
use Rattle.rmp_decode.specs.Exact.{IsEnd}
use Rattle.rmp_decode.specs.Fields.{pass_refusal}
use Rattle.rmp_decode.specs.Kinds.{content_len}
use Rattle.rmp_decode.specs.Refuse.{ContentIsCut, IsWrong, UnpassedFor, Enters, Refusal, here, inside, RefusedFor}
use Rattle.rmp_decode.specs.Skip.{parts_head, parts_count, any_row}
use Rattle.rmp_decode.specs.declared.error.Error.{Error}
use Rattle.rmp_decode.specs.declared.error.Error.TheVariants as errors
use Rattle.rmp_scan.specs.Parts.{parts_after}
use Rattle.rmp_scan.specs.Scans.{IsBeginning}
use Rattle.rmp_scan.proofs.Cutting.{head_cut, content_cut, nothing_begins}
use Rattle.rmp_ends.specs.EndsInside.{AlwaysInside}
use Rattle.rmp_ends.specs.LeafEnds.{neither}
use Rattle.rmp_ends.specs.Unfinished.{Unfinished, unfinished_first, unfinished_parts, row_after}

-- ---- what is wrong at the front

cut_content : (strict : Bool) (xs : List ℕ) → IsBytes xs → ContentIsCut strict xs → IsBeginning xs
cut_content strict xs own (h, c) =
    let s = c.starts in
    content_cut xs own (
      h,
      record {
        marker = c.marker;
        starts = record {
          byte = s.byte;
          following = s.following;
          rest = s.rest;
          front = s.front;
          is_marker = s.is_marker;
          is_head = any_width strict h (s.byte ∷ s.following) s.is_head;
        };
        short = c.short;
      },
    )

pub wrong_inside : (strict : Bool) (room : ℕ) (e : Error) (xs : List ℕ) → IsBytes xs → IsEnd e → IsWrong strict room e xs → IsBeginning xs
wrong_inside strict room (errors.InvalidMarkerRead f) xs own end w = subst IsBeginning (sym w.1) nothing_begins
wrong_inside strict room (errors.InvalidDataRead f) xs own end w = elim w.1 [ inl c ↦ head_cut xs own c | inr c ↦ cut_content strict xs own c ]
wrong_inside strict room (errors.TypeMismatch m) xs own end w = absurd (neither end)
wrong_inside strict room errors.OutOfRange xs own end w = absurd w
wrong_inside strict room (errors.LengthMismatch n) xs own end w = absurd w
wrong_inside strict room (errors.Uncategorized n) xs own end w = absurd w
wrong_inside strict room (errors.Syntax n) xs own end w = absurd w
wrong_inside strict room (errors.Utf8Error n) xs own end w = absurd w
wrong_inside strict room errors.DepthLimitExceeded xs own end w = absurd (neither end)
wrong_inside strict room errors.OutOfMemory xs own end w = absurd w
wrong_inside strict room errors.NotCanonical xs own end w = absurd (neither end)

-- what is wrong there for a read of this kind
abbrev pub WrongInside : (ℕ → Error → List ℕ → Type 0) → Type 0
WrongInside wrong = (room : ℕ) (e : Error) (xs : List ℕ) → IsBytes xs → IsEnd e → wrong room e xs → IsBeginning xs

unpassed_inside : (lends : Bool) (top : ℕ) (strict : Bool) → WrongInside (UnpassedFor lends top strict)
unpassed_inside lends top strict room (errors.InvalidMarkerRead f) xs own end w = wrong_inside strict room (errors.InvalidMarkerRead f) xs own end w
unpassed_inside lends top strict room (errors.InvalidDataRead f) xs own end w = wrong_inside strict room (errors.InvalidDataRead f) xs own end w
unpassed_inside lends top strict room (errors.TypeMismatch m) xs own end w = absurd (neither end)
unpassed_inside lends top strict room errors.OutOfRange xs own end w = absurd (neither end)
unpassed_inside lends top strict room (errors.LengthMismatch n) xs own end w = absurd (neither end)
unpassed_inside lends top strict room (errors.Uncategorized n) xs own end w = absurd (neither end)
unpassed_inside lends top strict room (errors.Syntax n) xs own end w = absurd (neither end)
unpassed_inside lends top strict room (errors.Utf8Error n) xs own end w = absurd (neither end)
unpassed_inside lends top strict room errors.DepthLimitExceeded xs own end w = absurd (neither end)
unpassed_inside lends top strict room errors.OutOfMemory xs own end w = absurd (neither end)
unpassed_inside lends top strict room errors.NotCanonical xs own end w = absurd (neither end)

-- ---- and inside of a list or a map

count_after : (is_map : Bool) (n : ℕ) → parts_count is_map n ≡ parts_after (parts_head is_map n)
count_after true n = refl
count_after false n = refl

no_content : (is_map : Bool) (n : ℕ) → content_len (parts_head is_map n) ≡ 0
no_content true n = refl
no_content false n = refl

enters_inside : (strict : Bool) (readable : Msgs → Type 0) (room : ℕ) (xs : List ℕ) (e : Enters strict readable room xs) → IsBeginning e.before.rest
    → IsBeginning xs
enters_inside strict readable room xs e i =
    let s = e.parts.starts in
    let b = e.before in
    let h : Head = parts_head e.parts.is_map e.parts.len in
    let all : ℕ = parts_count e.parts.is_map e.parts.len in
    let few = e.fewer in
    let many : count b.trees + (all - e.many) ≡ parts_after h = (let m = b.many in omega (arith, few, m, count_after e.parts.is_map e.parts.len)) in
    let tail : Unfinished (all - e.many) b.rest = unfinished_first (all - e.many) b.rest (omega (arith, few)) i in
    let parts : Unfinished (count b.trees + (all - e.many)) (b.bytes ++ b.rest) = row_after strict false (all - e.many) b.trees b.bytes b.rest b.spelled tail in
    let whole : (s.byte ∷ s.following) ++ (b.bytes ++ b.rest) ≡ xs = ap (λ z. (s.byte ∷ s.following) ++ z) (sym b.front) ∙ sym s.front in
    subst IsBeginning whole (unfinished_parts h (s.byte ∷ s.following) (b.bytes ++ b.rest) (any_width strict h (s.byte ∷ s.following) s.is_head)
    (no_content e.parts.is_map e.parts.len) (subst (λ z. Unfinished z (b.bytes ++ b.rest)) many parts))

enters_bytes : (strict : Bool) (readable : Msgs → Type 0) (room : ℕ) (xs : List ℕ) (e : Enters strict readable room xs) → IsBytes xs → IsBytes e.before.rest
enters_bytes strict readable room xs e own =
    let s = e.parts.starts in
    let after = (bytes_parts (s.byte ∷ s.following) s.rest (subst IsBytes s.front own)).1 in
    (bytes_parts e.before.bytes e.before.rest (subst IsBytes e.before.front after)).1

pub refusal_inside : (strict : Bool) (wrong : ℕ → Error → List ℕ → Type 0) (readable : Msgs → Type 0) → WrongInside wrong → (room : ℕ) (e : Error) (xs : List ℕ)
    → IsBytes xs → IsEnd e → Refusal strict wrong readable room e xs → IsBeginning xs
refusal_inside strict wrong readable law room e xs own end (here w) = law room e xs own end w
refusal_inside strict wrong readable law (suc room) e xs own end (inside enters r) = enters_inside strict readable room xs enters
    (refusal_inside strict wrong readable law room e enters.before.rest (enters_bytes strict readable room xs enters own) end r)

-- of a message that is passed over
pub passed_inside : AlwaysInside pass_refusal
unfolding RefusedFor
passed_inside s n xs e own r end = refusal_inside s.strict (UnpassedFor s.lends s.room s.strict) any_row (unpassed_inside s.lends s.room s.strict) s.room e xs own end (r.0 refl)
