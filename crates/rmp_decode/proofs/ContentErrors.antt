-- Which error comes where a head and the content after it are wanted.
use Rattle.std.proofs.Common.{◌≡◌, ◌∙◌, sym, ap, subst, refl, ℕ, ℤ, ◌<◌, arith, List, [], ◌∷◌, ◌++◌, length, Option, None, Some, IfSome, Bool, true, false, Ok}
use Rattle.std.proofs.lemmas.List.{length-append}
use Rattle.std.specs.Io.KnownBytes.{Consumes}
use Rattle.std.specs.Prelude.{IsUtf8}
use Rattle.rmp_wire.specs.declared.head.Head.{Head}
use Rattle.rmp_wire.specs.declared.head.Head.TheVariants as head
use Rattle.rmp_wire.specs.declared.marker.Marker.{Marker}
use Rattle.rmp_wire.specs.declared.source.Source.{Ghosts}
use Rattle.rmp_wire.specs.declared.slice.SourceFault.{SourceFault}
use Rattle.rmp_wire.specs.declared.slice.SourceFault.TheVariants.{Io, Memory}
use Rattle.rmp_wire.specs.Canonical.{heads_of}
use Rattle.rmp_wire.specs.Slices.{Blames}
use Rattle.rmp_wire.specs.Sources.{IsShort}
use Rattle.rmp_wire.proofs.Canon.{canon_head_least}
use Rattle.rmp_wire.proofs.Strict.{any_width, heads_differ_as}
use Rattle.rmp_wire.proofs.Writing.{head_some}
use Rattle.rmp_decode.specs.Content.{RefusesContent, IsTextHead, IsRawHead, IsBufferHead, IsExtHead, not_lent, not_bytes, not_string, not_str}
use Rattle.rmp_decode.specs.Exact.{BeginsWith, EndsExactly, IsDataEnd, TellsFault, IsUtf8Error}
use Rattle.rmp_decode.specs.Kinds.{raw_head, content_len}
use Rattle.rmp_decode.specs.Law.{Explains, ReadsHead}
use Rattle.rmp_decode.specs.Pieces.{Blamed, RefusesPiece}
use Rattle.rmp_decode.specs.State.{left, faults_of}
use Rattle.rmp_decode.specs.declared.deserializer.Deserializer.{Deserializer}
use Rattle.rmp_decode.specs.declared.error.Error.{Error}
use Rattle.rmp_decode.specs.declared.error.Error.TheVariants.{Syntax}
use Rattle.rmp_decode.specs.declared.text.Text.TheVariants.{InvalidValue}
use Rattle.rmp_decode.proofs.Contents.{bare}
use Rattle.rmp_decode.proofs.Exactness.{start_once, no_fault, none_told}
use Rattle.rmp_decode.proofs.Faults.{tells_after}

-- ---- pieces

pub same_front : (s t x y : List ℕ) → length s ≡ length t → s ++ x ≡ t ++ y → s ≡ t
same_front [] [] x y l e = refl
same_front [] (b ∷ t) x y l e = absurd (omega arith)
same_front (a ∷ s) [] x y l e = absurd (omega arith)
same_front (a ∷ s) (b ∷ t) x y l e =
    let i : length s ≡ length t = omega arith in
    let rest : s ++ x ≡ t ++ y = cc in
    let u = same_front s t x y i rest in
    cc

module _ (n : ℕ) (refused : List ℕ → Error → Type 0) where
  -- too few bytes are there
  pub piece_cut : (known : Option (List ℕ)) (e : Error) → IsShort n known → IsDataEnd e → RefusesPiece n refused known e
  unfolding RefusesPiece
  piece_cut None e h d = tt
  piece_cut (Some xs) e h d = record { cut = λ _. d; whole = λ s r q l. absurd (let long = ap length q ∙ length-append s r in omega (arith, long, l, h)) }

  -- they are there, and refused
  pub piece_whole : (known k : Option (List ℕ)) (bytes : List ℕ) (e : Error) → Consumes known k bytes → length bytes ≡ n → refused bytes e
      → RefusesPiece n refused known e
  unfolding RefusesPiece
  piece_whole None k bytes e c l f = tt
  piece_whole (Some xs) None bytes e c l f = absurd c
  piece_whole (Some xs) (Some ys) bytes e c l f = record {
    cut = λ h. absurd (let long = ap length c ∙ length-append bytes ys in omega (arith, long, l, h));
    whole = λ s r q m. subst (λ z. refused z e) (same_front bytes s ys r (l ∙ sym m) (sym c ∙ q)) f;
  }

-- the input ended within it
pub piece_ended : (n : ℕ) (refused : List ℕ → Error → Type 0) (before after : ℕ) (known : Option (List ℕ)) (e : Error)
    → Explains e before after (IsShort n known) → Explains e before after (IsDataEnd e) → Explains e before after (RefusesPiece n refused known e)
piece_ended n refused before after known e s d = λ m k. piece_cut n refused known e (s m k) (d m k)

-- a source's fault is want of memory, a fault that is counted, or the end of the input
pub piece_blamed : (n : ℕ) (refused : List ℕ → Error → Type 0) (fault : SourceFault) (before after : ℕ) (known : Option (List ℕ)) (e : Error)
    → Blames fault before after known n → Blamed fault e → Explains e before after (RefusesPiece n refused known e)
piece_blamed n refused Memory before after known e s b = λ m _. absurd (m b)
piece_blamed n refused (Io cause) before after known e s b = λ _ k. let x = s.1 k in piece_cut n refused known e x.0 (b.1 x.1)

-- a fault says that the bytes were too few, and what comes of it that the data ended
pub blamed_short : (n : ℕ) (fault : SourceFault) (before after : ℕ) (known : Option (List ℕ)) (e : Error) → Blames fault before after known n
    → Blamed fault e → Explains e before after (IsShort n known)
blamed_short n Memory before after known e s b = λ m _. absurd (m b)
blamed_short n (Io cause) before after known e s b = λ _ k. (s.1 k).0

pub blamed_end : (n : ℕ) (fault : SourceFault) (before after : ℕ) (known : Option (List ℕ)) (e : Error) → Blames fault before after known n
    → Blamed fault e → Explains e before after (IsDataEnd e)
blamed_end n Memory before after known e s b = λ m _. absurd (m b)
blamed_end n (Io cause) before after known e s b = λ _ k. b.1 (s.1 k).1

-- a fault is told by what comes of it
pub blamed_tells : (n : ℕ) (fault : SourceFault) (before after : ℕ) (known : Option (List ℕ)) (e : Error) → Blames fault before after known n
    → Blamed fault e → TellsFault before after e
blamed_tells n Memory before after known e s b = none_told before after e s
blamed_tells n (Io cause) before after known e s b = record { counts = s.0; told = λ _. b.2 }

-- a source that doesn't lend
pub unlent : (lends t : Bool) (n m : ℕ) (s : List ℕ) (e : Error) → lends ≡ false → not_lent (raw_head t n) s e → not_bytes lends (raw_head t m) s e
unlent true t n m s e l q = absurd (cc)
unlent false true n m s e l q = q
unlent false false n m s e l q = q

-- ---- heads and content

module _ (strict : Bool) (wanted : Head → Type 0) (other : Marker → Head → Error) (refused : Head → List ℕ → Error → Type 0) (before after : ℕ) where
  -- the bytes begin with no head
  pub content_none : (known : Option (List ℕ)) (e : Error) → EndsExactly strict before after known e
      → RefusesContent strict wanted other refused before after known e
  unfolding RefusesContent EndsExactly
  content_none None e s = (λ _. tt, s.1)
  content_none (Some xs) e s = (
    λ k. record {
      others = λ m h t _. absurd ((s.0 k).0 m h t);
      cut = λ h _ t. absurd ((s.0 k).0 t.marker h t.starts);
      whole = λ h c _ t. absurd ((s.0 k).0 t.marker h t.starts);
      ends = λ _. (s.0 k).1;
    },
    s.1,
  )

  -- another one does
  pub content_other : (known : Option (List ℕ)) (m : Marker) (h : Head) (e : Error) → after ≡ before → IfSome known (BeginsWith strict m h) → (wanted h → ⊥)
      → e ≡ other m h → RefusesContent strict wanted other refused before after known e
  unfolding RefusesContent
  content_other None m h e same s f q = no_fault before after e same tt
  content_other (Some xs) m h e same s f q = no_fault before after e same (record {
    others = λ n k t _. let u = start_once _ n m k h xs t s in q ∙ ap (λ z. other z h) (sym u.0) ∙ ap (other n) (sym u.1);
    cut = λ k w t. absurd (f (subst wanted (start_once _ t.marker m k h xs t.starts s).1 w));
    whole = λ k c w t. absurd (f (subst wanted (start_once _ t.marker m k h xs t.starts s).1 w));
    ends = λ none. absurd (none m h s);
  })

  -- a wanted one does, and what follows it is refused
  pub content_after : (known k : Option (List ℕ)) (b : List ℕ) (m : Marker) (h : Head) (e : Error) → Consumes known k b → heads_of strict h b
      → IfSome known (BeginsWith strict m h) → wanted h → Explains e before after (RefusesPiece (content_len h) (refused h) k e)
      → TellsFault before after e → RefusesContent strict wanted other refused before after known e
  unfolding RefusesContent RefusesPiece
  content_after None k b m h e c i s w r f = (λ _. tt, f)
  content_after (Some xs) None b m h e c i s w r f = absurd c
  content_after (Some xs) (Some ys) b m h e c i s w r tells = (
    λ q. record {
      others = λ m' h' t f. absurd (f (subst wanted (start_once _ m m' h h' xs s t).1 w));
      cut = λ h' _ t n.
          let p = r n q in
          let t0 = t.starts in
          let short = t.short in
          let u = heads_differ_as strict h' h (t0.byte ∷ t0.following) b t0.rest ys t0.is_head i (sym t0.front ∙ c) in
          p.cut (omega (arith, short, ap content_len u.0, ap length u.2));
      whole = λ h' s' _ t n.
          let p = r n q in
          let t0 = t.starts in
          let u = heads_differ_as strict h' h (t0.byte ∷ t0.following) b t0.rest ys t0.is_head i (sym t0.front ∙ c) in
          subst (λ z. refused z s' e) (sym u.0) (p.whole s' t.following (sym u.2 ∙ t.content) (t.long ∙ ap content_len u.0));
      ends = λ none. absurd (none m h s);
    },
    tells,
  )

  -- a wanted one does that has no content of its own
  pub content_differ : (known : Option (List ℕ)) (m : Marker) (h k : Head) (e : Error) → IfSome known (BeginsWith strict m h) → h ≡ k → content_len k ≡ 0
      → wanted k → ((s : List ℕ) → refused k s e) → TellsFault before after e → RefusesContent strict wanted other refused before after known e
  unfolding RefusesContent
  content_differ None m h k e s i z w f tells = (λ _. tt, tells)
  content_differ (Some xs) m h k e s i z w f tells = (
    λ _. record {
      others = λ n j t n0. absurd (n0 (subst wanted (sym i ∙ sym (start_once _ n m j h xs t s).1) w));
      cut = λ j _ t. absurd (let short = t.short in let u = (start_once _ t.marker m j h xs t.starts s).1 ∙ i in omega (arith, short, z, ap content_len u));
      whole = λ j c _ t _. subst (λ y. refused y c e) (sym ((start_once _ t.marker m j h xs t.starts s).1 ∙ i)) (f c);
      ends = λ none. absurd (none m h s);
    },
    tells,
  )

-- a head's first byte
some_byte : (b : List ℕ) → 0 < length b → (x : ℕ) × (y : List ℕ) × (b ≡ x ∷ y)
some_byte [] l = absurd (omega arith)
some_byte (x ∷ y) l = (x, y, refl)

pub head_byte : (strict : Bool) (h : Head) (b : List ℕ) → heads_of strict h b → (x : ℕ) × (y : List ℕ) × (b ≡ x ∷ y)
head_byte strict h b i = some_byte b (omega (arith, canon_head_least h b (any_width strict h b i), head_some h))

pub raw_len : (t : Bool) (n : ℕ) → content_len (raw_head t n) ≡ n
raw_len true n = refl
raw_len false n = refl

-- ---- heads that aren't wanted

pub no_text_head : (h : Head) → ((n : ℕ) → h ≡ head.Text n → ⊥) → IsTextHead h → ⊥
no_text_head head.Nil f w = w
no_text_head (head.Truth t) f w = w
no_text_head (head.Whole z) f w = w
no_text_head (head.F32Bits n) f w = w
no_text_head (head.F64Bits n) f w = w
no_text_head (head.Text n) f w = f n refl
no_text_head (head.Bin n) f w = w
no_text_head (head.Array n) f w = w
no_text_head (head.Map n) f w = w
no_text_head (head.Ext n tag) f w = w

pub no_raw_head : (h : Head) → ((p : Bool × ℕ) → h ≡ raw_head p.0 p.1 → ⊥) → IsRawHead h → ⊥
no_raw_head head.Nil f w = w
no_raw_head (head.Truth t) f w = w
no_raw_head (head.Whole z) f w = w
no_raw_head (head.F32Bits n) f w = w
no_raw_head (head.F64Bits n) f w = w
no_raw_head (head.Text n) f w = f (true, n) refl
no_raw_head (head.Bin n) f w = f (false, n) refl
no_raw_head (head.Array n) f w = w
no_raw_head (head.Map n) f w = w
no_raw_head (head.Ext n tag) f w = w

pub no_buffer_head : (h : Head) → ((p : Bool × ℕ) → h ≡ raw_head p.0 p.1 → ⊥) → ((n : ℕ) → h ≡ head.Array n → ⊥) → IsBufferHead h → ⊥
no_buffer_head head.Nil f g w = w
no_buffer_head (head.Truth t) f g w = w
no_buffer_head (head.Whole z) f g w = w
no_buffer_head (head.F32Bits n) f g w = w
no_buffer_head (head.F64Bits n) f g w = w
no_buffer_head (head.Text n) f g w = f (true, n) refl
no_buffer_head (head.Bin n) f g w = f (false, n) refl
no_buffer_head (head.Array n) f g w = g n refl
no_buffer_head (head.Map n) f g w = w
no_buffer_head (head.Ext n tag) f g w = w

pub no_ext_head : (h : Head) → ((p : ℕ × ℤ) → h ≡ head.Ext p.0 p.1 → ⊥) → IsExtHead h → ⊥
no_ext_head head.Nil f w = w
no_ext_head (head.Truth t) f w = w
no_ext_head (head.Whole z) f w = w
no_ext_head (head.F32Bits n) f w = w
no_ext_head (head.F64Bits n) f w = w
no_ext_head (head.Text n) f w = w
no_ext_head (head.Bin n) f w = w
no_ext_head (head.Array n) f w = w
no_ext_head (head.Map n) f w = w
no_ext_head (head.Ext n tag) f w = f (n, tag) refl

-- ---- texts and bytes

pub raw_wanted : (t : Bool) (n : ℕ) → IsRawHead (raw_head t n)
raw_wanted true n = tt
raw_wanted false n = tt

pub buffer_wanted : (t : Bool) (n : ℕ) → IsBufferHead (raw_head t n)
buffer_wanted true n = tt
buffer_wanted false n = tt

module _ {R C : Type 0} (g : Ghosts R) (wanted : Head → Type 0) (other : Marker → Head → Error) (refused : Head → List ℕ → Error
    → Type 0) (old mid : Deserializer R C) (after : ℕ) where
  -- a wanted head was taken, and its content refused
  pub content_error : (p : Marker × Head) (h : Head) (n : ℕ) (e : Error) → ReadsHead g old mid (Ok p) → p.1 ≡ h → content_len h ≡ n → wanted h
      → Explains e (g.faults mid.reader) after (RefusesPiece n (refused h) (g.ahead mid.reader) e) → TellsFault (g.faults mid.reader) after e
      → RefusesContent old.strict wanted other refused (faults_of g old) after (left g old) e
  content_error p h n e r i l w x f =
      content_after old.strict wanted other refused (faults_of g old) after (left g old) (left g mid) r.ok.bytes p.0 p.1 e r.ok.takes r.ok.is_head r.marked
      (subst wanted (sym i) w) (λ o k.
      rw (bare g mid r.clean, i, l) (x o (k ∙ sym r.sound))) (tells_after _ _ _ e r.sound f)

-- ---- whole content that isn't UTF-8

pub not_utf8_string : (t : Bool) (n : ℕ) (s : List ℕ) (e : Error) → (IsUtf8 s → ⊥) → (t ≡ true → IsUtf8Error e) → (t ≡ false → e ≡ Syntax InvalidValue)
    → not_string (raw_head t n) s e
not_utf8_string true n s e f a b = (f, a refl)
not_utf8_string false n s e f a b = (f, b refl)

pub not_utf8_str : (lends t : Bool) (n : ℕ) (s : List ℕ) (e : Error) → lends ≡ true → (IsUtf8 s → ⊥) → (t ≡ true → IsUtf8Error e)
    → (t ≡ false → e ≡ Syntax InvalidValue) → not_str lends (raw_head t n) s e
not_utf8_str true t n s e l f a b = not_utf8_string t n s e f a b
not_utf8_str false t n s e l f a b = absurd (cc)

pub str_wider : (lends : Bool) (h : Head) (s : List ℕ) (e : Error) → not_bytes lends h s e → not_str lends h s e
str_wider true h s e q = absurd q
str_wider false h s e q = q
