-- Two values are equal exactly if their trees are.
use Rattle.std.specs.Prelude.{Bool, true, false, ◌&&◌, ◌==◌}
use base.Stored.{Gv, gnil, gnum, gcons}
use Rattle.rmp_wire.specs.Msg.{Msg}
use Rattle.rmp_wire.specs.Stored.{store}

-- the stored forms are equal
abbrev pub gv_eq : Gv → Gv → Bool
gv_eq gnil gnil = true
gv_eq (gnum m) (gnum n) = m == n
gv_eq (gcons a b) (gcons c d) = gv_eq a c && gv_eq b d
gv_eq x y = false

-- the trees are equal
abbrev pub msg_eq : Msg → Msg → Bool
msg_eq x y = gv_eq (store x) (store y)
