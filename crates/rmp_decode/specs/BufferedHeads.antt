-- Heads that are buffered whole.
use Rattle.std.specs.Prelude.{◌≡◌, ℕ, ℤ, pos, negsuc, Bool, List, ◌∷◌, length, Ok, if◌then◌else◌, ◌==◌}
use Rattle.rmp_wire.specs.declared.head.Head.{Head}
use Rattle.rmp_wire.specs.declared.marker.Marker.{Marker}
use Rattle.rmp_wire.specs.declared.source.Source.{Ghosts}
use Rattle.rmp_decode.specs.Exact.{BeginsWith}
use Rattle.rmp_decode.specs.Law.{ReadsHead}
use Rattle.rmp_decode.specs.declared.deserializer.Deserializer.{Deserializer}

-- the bytes begin with this head of n bytes
pub record HeadIn (strict : Bool) (n : ℕ) (h : Head) (xs : List ℕ) : Type 0 where
  pub marker : Marker
  pub starts : BeginsWith strict marker h xs
  pub long : length (starts.byte ∷ starts.following) ≡ n

-- this head was taken, under some marker
pub record ConsumesHead {R C : Type 0} (g : Ghosts R) (h : Head) (old new : Deserializer R C) : Type 0 where
  pub marker : Marker
  pub begun : ReadsHead g old new (Ok (marker, h))

-- from which number without a sign on a canonical head has so many bytes
abbrev pub least_of : ℕ → ℕ
least_of n = if n == 1 then 0 else (if n == 2 then 0x80 else (if n == 3 then 0x100 else (if n == 5 then 0x10000 else 0x100000000)))

-- below which number in a format with a sign a canonical head has so many bytes
abbrev pub bound_of : ℕ → ℤ
bound_of n = if n == 1 then pos 0 else (if n == 2 then negsuc 31 else (if n == 3 then negsuc 127 else (if n == 5 then negsuc 0x7fff else negsuc 0x7fffffff)))
