-- What the bytes of a head are.
use Rattle.std.specs.Prelude.{ℕ, List, take}
use Rattle.rmp_c.specs.declared.head.HeadBytes.{HeadBytes}

-- the bytes written so far
abbrev pub head_bytes : HeadBytes → List ℕ
head_bytes h = take h.len h.bytes
