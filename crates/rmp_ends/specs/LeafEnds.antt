-- A read that wants one head, or a head and its payload, meets an end only inside of a message.
use Rattle.std.proofs.Common.{◌≡◌, ◌∙◌, sym, ap, subst, refl, ℕ, ◌+◌, ◌≤◌, ◌⊎◌, inl, inr, arith, List, [], ◌∷◌, ◌++◌, length, take, drop}
use Rattle.std.specs.Prelude.{Bool, true, false, Option, None, Some}
use Rattle.std.proofs.lemmas.Bool.{cases_eq, cases_lt}
use Rattle.std.proofs.lemmas.List.{take-append-drop, length-take-le}
use Rattle.rmp_wire.specs.Heads.{IsHead}
use Rattle.rmp_wire.specs.Spelling.{IsBytes}
use Rattle.rmp_wire.specs.Taking.{marker_of, take_head}
use Rattle.rmp_wire.specs.declared.head.Head.{Head}
use Rattle.rmp_wire.specs.declared.head.Head.TheVariants.{Nil, Truth, Whole, F32Bits, F64Bits, Text, Bin, Array, Map, Ext}
use Rattle.rmp_wire.specs.declared.marker.Marker.{Marker}
use Rattle.rmp_wire.specs.declared.marker.Marker.TheVariants as marker
use Rattle.rmp_wire.proofs.Heads.{take_head_takes, heads_differ}
use Rattle.rmp_wire.proofs.Strict.{any_width}
use Rattle.rmp_wire.proofs.Taken.{take_head_took, TookHead}
use Rattle.rmp_decode.specs.Content.{ExactOfContent, RefusesContent, IsTextHead, IsRawHead, IsExtHead}
use Rattle.rmp_decode.specs.Content.{not_raw, not_ext, never_refused, not_char, not_string, not_lent, not_bytes, not_str, ByUtf8}
use Rattle.rmp_decode.specs.Exact.{BeginsWith, BeginsWithNone, Ends, IsEnd, ExactBy, RefusesBy, RefusesExactly, IsUtf8Error}
use Rattle.rmp_decode.specs.Kinds.{content_len, other_kind, other_number, not_nil}
use Rattle.rmp_decode.specs.declared.error.Error.{Error}
use Rattle.rmp_decode.specs.declared.error.Error.TheVariants as errors
use Rattle.rmp_decode.specs.declared.text.Text.{Text as Why}
use Rattle.rmp_decode.specs.Wide.{IsSigned128Head, IsUnsigned128Head, not_wide, not_wide_list}
use Rattle.rmp_decode.specs.Words.{field_of}
use Rattle.rmp_scan.specs.Scans.{IsBeginning}
use Rattle.rmp_scan.proofs.Cutting.{head_cut, content_cut, nothing_begins}
use Rattle.rmp_scan.proofs.Rows.{head_byte}
use Rattle.rmp_ends.specs.EndsInside.{EndsInside, AlwaysInside, IsNoEnd}

-- ---- errors that are no ends

pub neither : ⊥ ⊎ ⊥ → ⊥
neither (inl x) = x
neither (inr x) = x

-- what is said to be this error
pub not_this : (e k : Error) → IsNoEnd k → e ≡ k → IsNoEnd e
not_this e k none is end = none (subst IsEnd is end)

pub syntax_no_end : (e : Error) (t : Why) → e ≡ errors.Syntax t → IsNoEnd e
syntax_no_end e t is = not_this e (errors.Syntax t) neither is

-- a field that is missing
pub named_no_end : (e : Error) (name : List ℕ) → field_of e ≡ Some name → IsNoEnd e
named_no_end (errors.InvalidMarkerRead fault) name h = absurd (cc)
named_no_end (errors.InvalidDataRead fault) name h = absurd (cc)
named_no_end (errors.TypeMismatch m) name h = neither
named_no_end errors.OutOfRange name h = neither
named_no_end (errors.LengthMismatch n) name h = neither
named_no_end (errors.Uncategorized t) name h = neither
named_no_end (errors.Syntax t) name h = neither
named_no_end (errors.Utf8Error u) name h = neither
named_no_end errors.DepthLimitExceeded name h = neither
named_no_end errors.OutOfMemory name h = neither
named_no_end errors.NotCanonical name h = neither

pub mismatch_no_end : (e : Error) (m : Marker) → e ≡ errors.TypeMismatch m → IsNoEnd e
mismatch_no_end e m is = not_this e (errors.TypeMismatch m) neither is

pub length_no_end : (e : Error) (n : ℕ) → e ≡ errors.LengthMismatch n → IsNoEnd e
length_no_end e n is = not_this e (errors.LengthMismatch n) neither is

pub depth_no_end : (e : Error) → e ≡ errors.DepthLimitExceeded → IsNoEnd e
depth_no_end e is = not_this e errors.DepthLimitExceeded neither is

pub range_no_end : (e : Error) → e ≡ errors.OutOfRange → IsNoEnd e
range_no_end e is = not_this e errors.OutOfRange neither is

pub memory_no_end : (e : Error) → e ≡ errors.OutOfMemory → IsNoEnd e
memory_no_end e is = not_this e errors.OutOfMemory neither is

pub width_no_end : (e : Error) → e ≡ errors.NotCanonical → IsNoEnd e
width_no_end e is = not_this e errors.NotCanonical neither is

pub utf8_no_end : (e : Error) → IsUtf8Error e → IsNoEnd e
utf8_no_end (errors.Utf8Error why) u = neither
utf8_no_end (errors.InvalidMarkerRead f) u = absurd u
utf8_no_end (errors.InvalidDataRead f) u = absurd u
utf8_no_end (errors.TypeMismatch m) u = absurd u
utf8_no_end errors.OutOfRange u = absurd u
utf8_no_end (errors.LengthMismatch n) u = absurd u
utf8_no_end (errors.Uncategorized t) u = absurd u
utf8_no_end (errors.Syntax t) u = absurd u
utf8_no_end errors.DepthLimitExceeded u = absurd u
utf8_no_end errors.OutOfMemory u = absurd u
utf8_no_end errors.NotCanonical u = absurd u

-- ---- why no head is there

-- the bytes begin with a whole head, of any width, or with none
begins_or_none : (xs : List ℕ) (r : Option (Head × List ℕ)) → take_head xs ≡ r → IsBytes xs
    → ((m : Marker) × (h : Head) × BeginsWith false m h xs) ⊎ BeginsWithNone false xs
begins_or_none xs None is own = inr (λ m h s.
    let e : ◌≡◌ {A = Option (Head × List ℕ)} None (Some (h, s.rest)) = sym is ∙ ap take_head s.front ∙ take_head_takes h (s.byte ∷ s.following) s.rest s.is_head in
    absurd (cc))
begins_or_none xs (Some p) is own =
    let t : TookHead p.0 xs p.1 = take_head_took xs p.0 p.1 own is in
    let f = head_byte p.0 t.head t.is_head in
    inl (
      marker_of f.0,
      p.0,
      record {
        byte = f.0;
        following = f.1;
        rest = p.1;
        front = t.split ∙ ap (λ z. z ++ p.1) f.2;
        is_marker = refl;
        is_head = subst (IsHead p.0) f.2 t.is_head;
      },
    )

pub no_head : (xs : List ℕ) (e : Error) → IsBytes xs → Ends xs e → IsEnd e → IsBeginning xs
no_head [] e own why end = nothing_begins
no_head (b ∷ xs) e own why end = elim (cases_eq b 0xc1) [
  | inl same ↦ absurd (mismatch_no_end e _ (why.0 same) end)
  | inr other ↦ elim (why.1 other) [
    | inl cut ↦ head_cut (b ∷ xs) own (record { byte = b; following = xs; front = refl; opens = other; none = cut.0 })
    | inr wide ↦ absurd (width_no_end e wide.1 end)
  ]
]

-- where a whole head is there of some width, none of these is an end
pub head_there : (m : Marker) (h : Head) (xs : List ℕ) (e : Error) → BeginsWith false m h xs → Ends xs e → IsNoEnd e
head_there m h [] e s why end = absurd (cc)
head_there m h (b ∷ xs) e s why end = elim (cases_eq b 0xc1) [
  | inl same ↦ mismatch_no_end e _ (why.0 same) end
  | inr other ↦ elim (why.1 other) [ inl cut ↦ cut.0 m h s | inr wide ↦ width_no_end e wide.1 end ]
]

-- ---- a head is wanted

-- no row of the table is an end
abbrev pub NoEnds : (Marker → Head → Error → Type 0) → Type 0
NoEnds table = (m : Marker) (h : Head) (e : Error) → table m h e → IsNoEnd e

pub head_inside : (strict : Bool) (table : Marker → Head → Error → Type 0) → NoEnds table → (xs : List ℕ) (e : Error) → IsBytes xs → ExactBy strict table xs e
    → IsEnd e → IsBeginning xs
head_inside strict table none xs e own r end = no_head xs e own (r.ends (λ m h s. none m h e (r.starts m h s) end)) end

pub heads_inside : (strict : Bool) (table : Marker → Head → Error → Type 0) → NoEnds table → EndsInside (RefusesBy strict table)
unfolding RefusesBy
heads_inside strict table none n xs e own r end = head_inside strict table none xs e own (r.0 refl) end

pub exact_inside : (strict : Bool) (table : Marker → Head → Error) → ((m : Marker) (h : Head) → IsNoEnd (table m h)) → EndsInside (RefusesExactly strict table)
unfolding RefusesExactly
exact_inside strict table none n xs e own r end =
    head_inside strict (λ m h e. e ≡ table m h) (λ m h e is. not_this e (table m h) (none m h) is) xs e own (r.0 refl) end

-- ---- a head and its payload are wanted

-- the whole payload is there
pub whole_payload : (strict : Bool) (wanted : Head → Type 0) (other : Marker → Head → Error) (refused : Head → List ℕ → Error → Type 0) (m : Marker) (h : Head)
    (xs : List ℕ) (e : Error) → IsNoEnd (other m h) → ((s : List ℕ) → wanted h → refused h s e → IsNoEnd e) → (s : BeginsWith strict m h xs)
    → content_len h ≤ length s.rest → ExactOfContent strict wanted other refused xs e → IsNoEnd e
whole_payload strict wanted other refused m h xs e others none s long r end =
    let payload : List ℕ = take (content_len h) s.rest in
    let unwanted : wanted h → ⊥ = λ w. none payload w (r.whole h payload w (record {
      marker = m;
      starts = s;
      following = drop (content_len h) s.rest;
      content = sym (take-append-drop (content_len h) s.rest);
      long = length-take-le (content_len h) s.rest long;
    }) (λ is. memory_no_end e is end)) end in
    not_this e (other m h) others (r.others m h s unwanted) end

-- The bytes begin with no head, or end inside of the first one's payload; or the payload of each head that they begin with is whole.
pub record FirstHead (xs : List ℕ) : Type 0 where
  pub marker : Marker
  pub head : Head
  pub starts : BeginsWith false marker head xs
  pub long : content_len head ≤ length starts.rest

pub first_head : (xs : List ℕ) → IsBytes xs → IsBeginning xs ⊎ (BeginsWithNone false xs ⊎ FirstHead xs)
first_head xs own = elim (begins_or_none xs (take_head xs) refl own) [
  | inr starts_none ↦ inr (inl starts_none)
  | inl p ↦ elim (cases_lt (length p.2.rest) (content_len p.1)) [
    | inl short ↦ inl (content_cut xs own (p.1, record { marker = p.0; starts = p.2; short = short }))
    | inr long ↦ inr (inr (record { marker = p.0; head = p.1; starts = p.2; long = long }))
  ]
]

-- a head that a read accepts is one of any width
pub any_start : (strict : Bool) (m : Marker) (h : Head) (xs : List ℕ) → BeginsWith strict m h xs → BeginsWith false m h xs
any_start strict m h xs s = record {
  byte = s.byte;
  following = s.following;
  rest = s.rest;
  front = s.front;
  is_marker = s.is_marker;
  is_head = any_width strict h (s.byte ∷ s.following) s.is_head;
}

-- it is the first one, whose payload is whole
pub long_start : (strict : Bool) (m : Marker) (h : Head) (xs : List ℕ) → FirstHead xs → (s : BeginsWith strict m h xs) → content_len h ≤ length s.rest
long_start strict m h xs f s =
    let t = f.starts in
    let long = f.long in
    let same = heads_differ h f.head (s.byte ∷ s.following) (t.byte ∷ t.following) s.rest t.rest (any_width strict h (s.byte ∷ s.following) s.is_head) t.is_head
    (sym s.front ∙ t.front) in
    omega (arith, long, ap content_len same.0, ap length same.2)

module _ (strict : Bool) (wanted : Head → Type 0) (other : Marker → Head → Error) (refused : Head → List ℕ → Error → Type 0)
    (others : (m : Marker) (h : Head) → IsNoEnd (other m h)) (none : (h : Head) (s : List ℕ) (e : Error) → wanted h → refused h s e → IsNoEnd e) where
  content_inside : (xs : List ℕ) (e : Error) → IsBytes xs → ExactOfContent strict wanted other refused xs e → IsEnd e → IsBeginning xs
  content_inside xs e own r end = elim (first_head xs own) [
    | inl i ↦ i
    | inr (inl starts_none) ↦ no_head xs e own (r.ends (λ m h s. starts_none m h (any_start strict m h xs s))) end
    | inr (inr f) ↦ absurd (head_there f.marker f.head xs e f.starts (r.ends (λ m h s.
        whole_payload strict wanted other refused m h xs e (others m h) (λ p. none h p e) s (long_start strict m h xs f s) r end)) end)
  ]

  pub contents_inside : EndsInside (RefusesContent strict wanted other refused)
  unfolding RefusesContent
  contents_inside n xs e own r end = content_inside xs e own (r.0 refl) end

-- ---- leaves

kind_none : (m : Marker) (h : Head) → IsNoEnd (other_kind m h)
kind_none m Nil = neither
kind_none m (Truth t) = neither
kind_none m (Whole z) = neither
kind_none m (F32Bits n) = neither
kind_none m (F64Bits n) = neither
kind_none m (Text n) = neither
kind_none m (Bin n) = neither
kind_none m (Array n) = neither
kind_none m (Map n) = neither
kind_none m (Ext n tag) = neither

pub number_none : (m : Marker) (h : Head) → IsNoEnd (other_number m h)
number_none m Nil = neither
number_none m (Truth t) = neither
number_none m (Whole z) = neither
number_none m (F32Bits n) = neither
number_none m (F64Bits n) = neither
number_none m (Text n) = neither
number_none m (Bin n) = neither
number_none m (Array n) = neither
number_none m (Map n) = neither
number_none m (Ext n tag) = neither

-- truths, the bits of floats, numbers, and nil
pub kind_inside : AlwaysInside (λ s. RefusesExactly s.strict other_kind)
kind_inside s = exact_inside s.strict other_kind kind_none

pub number_inside : AlwaysInside (λ s. RefusesExactly s.strict other_number)
number_inside s = exact_inside s.strict other_number number_none

pub nil_inside : AlwaysInside (λ s. RefusesExactly s.strict not_nil)
nil_inside s = exact_inside s.strict not_nil (λ m h. neither)

-- numbers of 128 bits
list_none : (m : Marker) → IsNoEnd (not_wide_list m)
list_none (marker.FixArray n) = neither
list_none m = neither

wide_none : (m : Marker) (h : Head) → IsNoEnd (not_wide m h)
wide_none m (Whole z) = neither
wide_none m (Bin n) = neither
wide_none m (Array n) = list_none m
wide_none m Nil = neither
wide_none m (Truth t) = neither
wide_none m (F32Bits n) = neither
wide_none m (F64Bits n) = neither
wide_none m (Text n) = neither
wide_none m (Map n) = neither
wide_none m (Ext n tag) = neither

pub signed128_inside : AlwaysInside (λ s. RefusesContent s.strict IsSigned128Head not_wide never_refused)
signed128_inside s = contents_inside s.strict IsSigned128Head not_wide never_refused wide_none (λ h t e w r. absurd r)

pub unsigned128_inside : AlwaysInside (λ s. RefusesContent s.strict IsUnsigned128Head not_wide never_refused)
unsigned128_inside s = contents_inside s.strict IsUnsigned128Head not_wide never_refused wide_none (λ h t e w r. absurd r)

-- texts, bytes and extensions
pub by_utf8_none : (s : List ℕ) (e : Error) (t : Why) → ByUtf8 s (e ≡ errors.Syntax t) (IsUtf8Error e) → IsNoEnd e
by_utf8_none s e t r end = utf8_no_end e (r.1 (λ valid. syntax_no_end e t (r.0 valid) end)) end

string_none : (h : Head) (s : List ℕ) (e : Error) → IsRawHead h → not_string h s e → IsNoEnd e
string_none (Text n) s e w r = utf8_no_end e r.1
string_none h s e w r = syntax_no_end e _ r.1

lent_none : (h : Head) (s : List ℕ) (e : Error) → not_lent h s e → IsNoEnd e
lent_none (Text n) s e r = by_utf8_none s e _ r
lent_none h s e r = syntax_no_end e _ r

bytes_none : (lends : Bool) (h : Head) (s : List ℕ) (e : Error) → IsRawHead h → not_bytes lends h s e → IsNoEnd e
bytes_none true h s e w r = absurd r
bytes_none false h s e w r = lent_none h s e r

str_none : (lends : Bool) (h : Head) (s : List ℕ) (e : Error) → IsRawHead h → not_str lends h s e → IsNoEnd e
str_none true h s e w r = string_none h s e w r
str_none false h s e w r = lent_none h s e r

pub char_inside : AlwaysInside (λ s. RefusesContent s.strict IsTextHead not_raw not_char)
char_inside s = contents_inside s.strict IsTextHead not_raw not_char (λ m h. neither) (λ h t e w r. by_utf8_none t e _ r)

pub string_inside : AlwaysInside (λ s. RefusesContent s.strict IsRawHead not_raw not_string)
string_inside s = contents_inside s.strict IsRawHead not_raw not_string (λ m h. neither) string_none

pub str_inside : AlwaysInside (λ s. RefusesContent s.strict IsRawHead not_raw (not_str s.lends))
str_inside s = contents_inside s.strict IsRawHead not_raw (not_str s.lends) (λ m h. neither) (str_none s.lends)

pub bytes_inside : AlwaysInside (λ s. RefusesContent s.strict IsRawHead not_raw (not_bytes s.lends))
bytes_inside s = contents_inside s.strict IsRawHead not_raw (not_bytes s.lends) (λ m h. neither) (bytes_none s.lends)

pub ext_inside : AlwaysInside (λ s. RefusesContent s.strict IsExtHead not_ext never_refused)
ext_inside s = contents_inside s.strict IsExtHead not_ext never_refused (λ m h. neither) (λ h t e w r. absurd r)

pub raw_inside : AlwaysInside (λ s. RefusesContent s.strict IsRawHead not_raw never_refused)
raw_inside s = contents_inside s.strict IsRawHead not_raw never_refused (λ m h. neither) (λ h t e w r. absurd r)
