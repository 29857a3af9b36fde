-- A cursor over bytes: which bytes remain, and what reads don't change.
use Rattle.std.specs.Prelude.{ℕ, ◌-◌, List, [], ◌∷◌, length, drop}
use Rattle.std.specs.Borrow.{Bor}
use Rattle.std.specs.Io.Cursor.{cursor_inner, cursor_position}
use Rattle.std.specs.declared.alloc.Global.{Global}
use Rattle.std.specs.declared.io.impls.Cursor.{Cursor}
use Rattle.std.specs.declared.vec.Vec.{Vec}
use Rattle.rmp_wire.specs.Sources.{Place}
use Rattle.rmp_wire.specs.Sources.Place.{made_of, past_end}

-- its bytes, and how far past their end its position is
abbrev pub cursor_place : List ℕ → ℕ → List Place
cursor_place bytes position = made_of bytes ∷ past_end (position - length bytes) ∷ []

-- over a slice: the bytes from its position on, and its place
abbrev pub slice_ahead : Cursor (Bor (List ℕ)) → List ℕ
slice_ahead c = drop (cursor_position c) (cursor_inner c).now

abbrev pub slice_place : Cursor (Bor (List ℕ)) → List Place
slice_place c = cursor_place (cursor_inner c).now (cursor_position c)

-- over a vector
abbrev pub vec_ahead : Cursor (Vec ℕ Global) → List ℕ
vec_ahead c = drop (cursor_position c) (cursor_inner c).items

abbrev pub vec_place : Cursor (Vec ℕ Global) → List Place
vec_place c = cursor_place (cursor_inner c).items (cursor_position c)
