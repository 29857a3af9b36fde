-- What is wrong with a message, from what was taken before and what was refused then.
use Rattle.std.proofs.Common.{◌≡◌, ◌≢◌, ◌∙◌, sym, ap, subst, refl, ℕ, suc, ◌+◌, ◌⊎◌, inl, inr, arith, List, [], ◌∷◌, ◌++◌, Option, Some, None, Bool}
use Rattle.std.proofs.lemmas.Bool.{cases_eq}
use Rattle.std.specs.Io.KnownBytes.{Consumes}
use Rattle.rmp_wire.specs.declared.head.Head.{Head}
use Rattle.rmp_wire.specs.declared.marker.Marker.{Marker}
use Rattle.rmp_wire.specs.Msg.{Msgs}
use Rattle.rmp_wire.specs.Sources.{IsShort}
use Rattle.rmp_wire.specs.Canonical.{heads_of}
use Rattle.rmp_wire.specs.Taking.{marker_of}
use Rattle.rmp_decode.specs.Exact.{BeginsWith, BeginsWithNone, Ends, EndsExactly, IsMarkerEnd, IsDataEnd}
use Rattle.rmp_decode.specs.Kinds.{content_len}
use Rattle.rmp_decode.specs.Refuse.{HeadIsCut, ContentIsCut, IsWrong, Refusal, here, inside, RefusedFor, RowRefusedFor}
use Rattle.rmp_decode.specs.Skip.{parts_head, parts_count}
use Rattle.rmp_decode.specs.declared.error.Error.{Error}
use Rattle.rmp_decode.specs.declared.error.Error.TheVariants as errors
use Rattle.rmp_decode.proofs.ContentErrors.{head_byte}

-- ---- what is wrong at the front

wrong_marker : (w : Bool) (room : ℕ) (e : Error) (xs : List ℕ) → xs ≡ [] → IsMarkerEnd e → IsWrong w room e xs
wrong_marker w room (errors.InvalidMarkerRead x) xs z h = (h, z)
wrong_marker w room (errors.InvalidDataRead x) xs z h = absurd h
wrong_marker w room (errors.TypeMismatch m) xs z h = absurd h
wrong_marker w room errors.OutOfRange xs z h = absurd h
wrong_marker w room (errors.LengthMismatch n) xs z h = absurd h
wrong_marker w room (errors.Uncategorized n) xs z h = absurd h
wrong_marker w room (errors.Syntax n) xs z h = absurd h
wrong_marker w room (errors.Utf8Error n) xs z h = absurd h
wrong_marker w room errors.DepthLimitExceeded xs z h = absurd h
wrong_marker w room errors.OutOfMemory xs z h = absurd h
wrong_marker w room errors.NotCanonical xs z h = absurd h

pub wrong_data : (w : Bool) (room : ℕ) (e : Error) (xs : List ℕ) → HeadIsCut xs ⊎ ContentIsCut w xs → IsDataEnd e → IsWrong w room e xs
wrong_data w room (errors.InvalidMarkerRead x) xs c h = absurd h
wrong_data w room (errors.InvalidDataRead x) xs c h = (h, c)
wrong_data w room (errors.TypeMismatch m) xs c h = absurd h
wrong_data w room errors.OutOfRange xs c h = absurd h
wrong_data w room (errors.LengthMismatch n) xs c h = absurd h
wrong_data w room (errors.Uncategorized n) xs c h = absurd h
wrong_data w room (errors.Syntax n) xs c h = absurd h
wrong_data w room (errors.Utf8Error n) xs c h = absurd h
wrong_data w room errors.DepthLimitExceeded xs c h = absurd h
wrong_data w room errors.OutOfMemory xs c h = absurd h
wrong_data w room errors.NotCanonical xs c h = absurd h

wrong_end : (w : Bool) (room : ℕ) (e : Error) (xs : List ℕ) → BeginsWithNone w xs → Ends xs e → IsWrong w room e xs
wrong_end w room e [] n h = wrong_marker w room e [] refl h
wrong_end w room e (b ∷ xs) n h = elim (cases_eq b 0xc1) [
  | inl same ↦ subst (λ z. IsWrong w room z (b ∷ xs)) (sym (h.0 same)) (refl, record { following = xs; front = ap (λ z. z ∷ xs) same })
  | inr other ↦ elim (h.1 other) [
    | inl cut ↦ wrong_data w room e (b ∷ xs) (inl (record { byte = b; following = xs; front = refl; opens = other; none = cut.0 })) cut.1
    | inr wide ↦ subst (λ z. IsWrong w room z (b ∷ xs)) (sym wide.1) (record { other = wide.0; none = n })
  ]
]

-- whether memory was short
pub is_memory : (e : Error) → (e ≡ errors.OutOfMemory) ⊎ (e ≢ errors.OutOfMemory)
is_memory (errors.InvalidMarkerRead x) = inr (λ q. absurd (cc))
is_memory (errors.InvalidDataRead x) = inr (λ q. absurd (cc))
is_memory (errors.TypeMismatch m) = inr (λ q. absurd (cc))
is_memory errors.OutOfRange = inr (λ q. absurd (cc))
is_memory (errors.LengthMismatch n) = inr (λ q. absurd (cc))
is_memory (errors.Uncategorized n) = inr (λ q. absurd (cc))
is_memory (errors.Syntax n) = inr (λ q. absurd (cc))
is_memory (errors.Utf8Error n) = inr (λ q. absurd (cc))
is_memory errors.DepthLimitExceeded = inr (λ q. absurd (cc))
is_memory errors.OutOfMemory = inl refl
is_memory errors.NotCanonical = inr (λ q. absurd (cc))

-- ---- a head that the bytes begin with

pub record Front (w : Bool) (h : Head) (xs ys : List ℕ) : Type 0 where
  pub byte : ℕ
  pub following : List ℕ
  pub front : xs ≡ (byte ∷ following) ++ ys
  pub is_head : heads_of w h (byte ∷ following)

pub front_of : (w : Bool) (h : Head) (bytes xs ys : List ℕ) → xs ≡ bytes ++ ys → heads_of w h bytes → Front w h xs ys
front_of w h bytes xs ys t i = let b = head_byte w h bytes i
    in record { byte = b.0; following = b.1; front = t ∙ ap (λ z. z ++ ys) b.2; is_head = subst (heads_of w h) b.2 i }

abbrev pub starts : {w : Bool} {h : Head} {xs ys : List ℕ} (f : Front w h xs ys) → BeginsWith w (marker_of f.byte) h xs
starts {w} {h} {xs} {ys} f = record { byte = f.byte; following = f.following; rest = ys; front = f.front; is_marker = refl; is_head = f.is_head }

-- ---- where the bytes are told

-- by any telling of what is wrong that has what is wrong with each message
module _ (w : Bool) (wrong : ℕ → Error → List ℕ → Type 0) (readable : Msgs → Type 0) (wider : (room : ℕ) (e : Error) (xs : List ℕ) → IsWrong w room e xs
    → wrong room e xs) where
  -- the bytes begin with no head
  pub wrong_none : (room before after : ℕ) (known : Option (List ℕ)) (e : Error) → after ≡ before → EndsExactly w before after known e
      → RefusedFor w wrong readable room e known
  unfolding EndsExactly RefusedFor
  wrong_none room before after None e q r = tt
  wrong_none room before after (Some xs) e q r = here (wider room e xs (wrong_end w room e xs (r.0 q).0 (r.0 q).1))

  -- a leaf's content is cut
  pub wrong_content : (room : ℕ) (known k : Option (List ℕ)) (bytes : List ℕ) (h : Head) (e : Error) → Consumes known k bytes → heads_of w h bytes
      → IsShort (content_len h) k → IsDataEnd e → RefusedFor w wrong readable room e known
  unfolding RefusedFor
  wrong_content room None k bytes h e t i s d = tt
  wrong_content room (Some xs) None bytes h e t i s d = absurd t
  wrong_content room (Some xs) (Some ys) bytes h e t i s d =
      let f : Front w h xs ys = front_of w h bytes xs ys t i in
      here (wider room e xs (wrong_data w room e xs (inr (h, record { marker = marker_of f.byte; starts = starts f; short = s })) d))

  -- a list or a map would nest too deep
  pub wrong_deep : (room : ℕ) (is_map : Bool) (len : ℕ) (known k : Option (List ℕ)) (bytes : List ℕ) → Consumes known k bytes
      → heads_of w (parts_head is_map len) bytes → room ≡ 1 → RefusedFor w wrong readable room errors.DepthLimitExceeded known
  unfolding RefusedFor
  wrong_deep room is_map len None k bytes t i o = tt
  wrong_deep room is_map len (Some xs) None bytes t i o = absurd t
  wrong_deep room is_map len (Some xs) (Some ys) bytes t i o =
      let f : Front w (parts_head is_map len) xs ys = front_of w (parts_head is_map len) bytes xs ys t i in
      here (wider room errors.DepthLimitExceeded xs (o, record { is_map = is_map; len = len; marker = marker_of f.byte; starts = starts f }))

module _ (w : Bool) (wrong : ℕ → Error → List ℕ → Type 0) (readable : Msgs → Type 0) where
  -- memory was short for what follows a head
  pub wrong_memory : (room : ℕ) (known k : Option (List ℕ)) (bytes : List ℕ) (h : Head) → Consumes known k bytes → heads_of w h bytes
      → ((xs : List ℕ) (m : Marker) → BeginsWith w m h xs → wrong room errors.OutOfMemory xs) → RefusedFor w wrong readable room errors.OutOfMemory known
  unfolding RefusedFor
  wrong_memory room None k bytes h t i f = tt
  wrong_memory room (Some xs) None bytes h t i f = absurd t
  wrong_memory room (Some xs) (Some ys) bytes h t i f = let u : Front w h xs ys = front_of w h bytes xs ys t i in here (f xs (marker_of u.byte) (starts u))

  -- ---- inside of a list or a map

  -- a list or a map was opened, and its messages are refused
  pub wrong_nest : (outer room : ℕ) (is_map : Bool) (len : ℕ) (known mid : Option (List ℕ)) (bytes : List ℕ) (e : Error) → Consumes known mid bytes
      → heads_of w (parts_head is_map len) bytes → outer ≡ room + 1 → RowRefusedFor w wrong readable room (parts_count is_map len) e mid
      → RefusedFor w wrong readable outer e known
  unfolding RefusedFor RowRefusedFor
  wrong_nest outer room is_map len None mid bytes e t i l r = tt
  wrong_nest outer room is_map len (Some xs) None bytes e t i l r = absurd t
  wrong_nest outer room is_map len (Some xs) (Some ys) bytes e t i l r =
      let f : Front w (parts_head is_map len) xs ys = front_of w (parts_head is_map len) bytes xs ys t i in
      let is : suc room ≡ outer = omega (arith, l) in
      subst (λ z. Refusal w wrong readable z e xs) is (inside
      (record {
        parts = record { is_map = is_map; len = len; marker = marker_of f.byte; starts = starts f };
        many = r.many;
        before = r.before;
        fewer = r.fewer;
      }) r.next)
