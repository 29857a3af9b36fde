-- Why a value is refused.
use Rattle.std.proofs.Common.{◌≡◌, sym, subst, refl, ℕ, ◌<◌, ◌⊎◌, inl, inr, List, ◌++◌, length, take, drop, Option, Some, None, Bool, false}
use Rattle.std.proofs.lemmas.Bool.{cases_lt}
use Rattle.std.proofs.lemmas.List.{length-take-le, take-append-drop}
use Rattle.std.specs.Io.KnownBytes.{Consumes}
use Rattle.std.specs.Prelude.{IsUtf8}
use Rattle.rmp_wire.specs.declared.head.Head.{Head}
use Rattle.rmp_wire.specs.declared.head.Head.TheVariants as head
use Rattle.rmp_wire.specs.Canonical.{heads_of}
use Rattle.rmp_wire.specs.Taking.{marker_of}
use Rattle.rmp_decode.specs.Content.{not_string, IsRawHead, IsExtHead}
use Rattle.rmp_decode.specs.Exact.{IsUtf8Error}
use Rattle.rmp_decode.specs.Refuse.{IsWrong, Refusal, here, RefusedFor}
use Rattle.rmp_decode.specs.Skip.{parts_head}
use Rattle.rmp_decode.specs.Pieces.{RefusesPiece}
use Rattle.rmp_decode.specs.declared.error.Error.{Error}
use Rattle.rmp_decode.specs.declared.error.Error.TheVariants as errors
use Rattle.rmp_decode.proofs.FirstFault.{wrong_memory, wrong_data, Front, front_of, starts}
use Rattle.rmp_serde.specs.Read.{ItemsUtf8}
use Rattle.rmp_serde.specs.Refuse.{TextIsInvalid, UnreadFor}

-- ---- what is wrong at the front

-- what is wrong with any message is wrong with a value
pub wider : (w : Bool) (room : ℕ) (e : Error) (xs : List ℕ) → IsWrong w room e xs → UnreadFor w room e xs
wider w room (errors.InvalidMarkerRead x) xs h = h
wider w room (errors.InvalidDataRead x) xs h = h
wider w room (errors.TypeMismatch m) xs h = h
wider w room errors.OutOfRange xs h = h
wider w room (errors.LengthMismatch n) xs h = h
wider w room (errors.Uncategorized n) xs h = h
wider w room (errors.Syntax n) xs h = h
wider w room (errors.Utf8Error n) xs h = absurd h
wider w room errors.DepthLimitExceeded xs h = h
wider w room errors.OutOfMemory xs h = absurd h
wider w room errors.NotCanonical xs h = h

wrong_text : (w : Bool) (room : ℕ) (e : Error) (xs : List ℕ) → TextIsInvalid w xs → IsUtf8Error e → UnreadFor w room e xs
wrong_text w room (errors.InvalidMarkerRead x) xs c h = absurd h
wrong_text w room (errors.InvalidDataRead x) xs c h = absurd h
wrong_text w room (errors.TypeMismatch m) xs c h = absurd h
wrong_text w room errors.OutOfRange xs c h = absurd h
wrong_text w room (errors.LengthMismatch n) xs c h = absurd h
wrong_text w room (errors.Uncategorized n) xs c h = absurd h
wrong_text w room (errors.Syntax n) xs c h = absurd h
wrong_text w room (errors.Utf8Error n) xs c h = c
wrong_text w room errors.DepthLimitExceeded xs c h = absurd h
wrong_text w room errors.OutOfMemory xs c h = absurd h
wrong_text w room errors.NotCanonical xs c h = absurd h

wrong_utf8 : (w : Bool) (room : ℕ) (s rest xs ys bytes : List ℕ) (e : Error) → xs ≡ bytes ++ ys → heads_of w (head.Text (length s)) bytes → ys ≡ s ++ rest
    → (IsUtf8 s → ⊥) → IsUtf8Error e → Refusal w (UnreadFor w) ItemsUtf8 room e xs
wrong_utf8 w room s rest xs ys bytes e t i q u d =
    let f : Front w (head.Text (length s)) xs ys = front_of w (head.Text (length s)) bytes xs ys t i in
    here (wrong_text w room e xs (record {
      text = s;
      starts = record
          { marker = marker_of f.byte; starts = starts f; following = rest; content = q; long = refl };
      invalid = u;
    }) d)

-- the content of a text was refused
pub wrong_piece : (w : Bool) (room len : ℕ) (known k : Option (List ℕ)) (bytes : List ℕ) (e : Error) → Consumes known k bytes → heads_of w (head.Text len) bytes
    → RefusesPiece len (not_string (head.Text len)) k e → RefusedFor w (UnreadFor w) ItemsUtf8 room e known
unfolding RefusesPiece RefusedFor
wrong_piece w room len None k bytes e t i p = tt
wrong_piece w room len (Some xs) None bytes e t i p = absurd t
wrong_piece w room len (Some xs) (Some ys) bytes e t i p = elim (cases_lt (length ys) len) [
  | inl short ↦
      let f : Front w (head.Text len) xs ys = front_of w (head.Text len) bytes xs ys t i in
      here (wider w room e xs (wrong_data w room e xs (inr (head.Text len, record { marker = marker_of f.byte; starts = starts f; short = short }))
      (p.cut short)))
  | inr enough ↦
      let s : List ℕ = take len ys in
      let split : ys ≡ s ++ drop len ys = sym (take-append-drop len ys) in
      let long : length s ≡ len = length-take-le len ys enough in
      let bad = p.whole s (drop len ys) split long in
      wrong_utf8 w room s (drop len ys) xs ys bytes e t (subst (λ n. heads_of w (head.Text n) bytes) (sym long) i) split bad.0 bad.1
]

-- memory ran out for what follows a head
pub short_content : (w : Bool) (h : Head) → IsRawHead h ⊎ IsExtHead h → (room : ℕ) (known k : Option (List ℕ)) (bytes : List ℕ) → Consumes known k bytes
    → heads_of w h bytes → RefusedFor w (UnreadFor w) ItemsUtf8 room errors.OutOfMemory known
short_content w h c room known k bytes t i = wrong_memory w (UnreadFor w) ItemsUtf8 room known k bytes h t i
    (λ xs m s. inl (record { head = h; marker = m; starts = s; has_content = c }))

pub short_parts : (w : Bool) (is_map : Bool) (len room : ℕ) → 1 < room → (known k : Option (List ℕ)) (bytes : List ℕ) → Consumes known k bytes
    → heads_of w (parts_head is_map len) bytes → RefusedFor w (UnreadFor w) ItemsUtf8 room errors.OutOfMemory known
short_parts w is_map len room more known k bytes t i = wrong_memory w (UnreadFor w) ItemsUtf8 room known k bytes (parts_head is_map len) t i
    (λ xs m s. inr (more, record { is_map = is_map; len = len; marker = m; starts = s }))

-- ---- known bytes

pub first_wrong : (room limit : ℕ) (strict : Bool) (e : Error) (known : Option (List ℕ)) (xs : List ℕ) → room ≡ limit → strict ≡ false → known ≡ Some xs
    → RefusedFor strict (UnreadFor strict) ItemsUtf8 room e known → Refusal false (UnreadFor false) ItemsUtf8 limit e xs
unfolding RefusedFor
first_wrong room limit strict e known xs r l k w = let s = rw (r, l, k) at w in s
