-- What a first byte says of a short head.
use Rattle.std.specs.Prelude.{ℕ, ◌-◌, ◌*◌, List, [], ◌∷◌, cond, nat_lt}

-- For each first byte, four numbers. The first is added to the big-endian number in the next four bytes, and
-- the second is the least that the sum may be. Then the head and its content take the third in bytes, and the
-- fourth is how many messages follow as its parts.
abbrev pub entry : ℕ → List ℕ
entry m = cond (nat_lt m 0x80) (0 ∷ 0 ∷ 1 ∷ 0 ∷ [])
    (cond (nat_lt m 0x90) (0 ∷ 0 ∷ 1 ∷ (2 * (m - 0x80)) ∷ [])
    (cond (nat_lt m 0xa0) (0 ∷ 0 ∷ 1 ∷ (m - 0x90) ∷ [])
    (cond (nat_lt m 0xc0) (0 ∷ 0 ∷ (m - 0x9f) ∷ 0 ∷ [])
    (cond (nat_lt m 0xc1) (0 ∷ 0 ∷ 1 ∷ 0 ∷ [])
    (cond (nat_lt m 0xc2) (0 ∷ 0xffffffffffffffff ∷ 0 ∷ 0 ∷ [])
    (cond (nat_lt m 0xc3) (0 ∷ 0 ∷ 1 ∷ 0 ∷ [])
    (cond (nat_lt m 0xc4) (0 ∷ 0 ∷ 1 ∷ 0 ∷ [])
    (cond (nat_lt m 0xca) (0 ∷ 0xffffffffffffffff ∷ 0 ∷ 0 ∷ [])
    (cond (nat_lt m 0xcb) (0 ∷ 0 ∷ 5 ∷ 0 ∷ [])
    (cond (nat_lt m 0xcc) (0 ∷ 0 ∷ 9 ∷ 0 ∷ [])
    (cond (nat_lt m 0xcd) (0 ∷ 0x80000000 ∷ 2 ∷ 0 ∷ [])
    (cond (nat_lt m 0xce) (0 ∷ 0x1000000 ∷ 3 ∷ 0 ∷ [])
    (cond (nat_lt m 0xcf) (0 ∷ 0x10000 ∷ 5 ∷ 0 ∷ [])
    (cond (nat_lt m 0xd0) (0 ∷ 1 ∷ 9 ∷ 0 ∷ [])
    (cond (nat_lt m 0xd1) (0xffffffff20000000 ∷ 0xffffffffa0000000 ∷ 2 ∷ 0 ∷ [])
    (cond (nat_lt m 0xd2) (0xffffffff00800000 ∷ 0xffffffff80800000 ∷ 3 ∷ 0 ∷ [])
    (cond (nat_lt m 0xd3) (0xffffffff00008000 ∷ 0xffffffff80008000 ∷ 5 ∷ 0 ∷ [])
    (cond (nat_lt m 0xd4) (0xffffffff00000001 ∷ 0xffffffff80000001 ∷ 9 ∷ 0 ∷ [])
    (cond (nat_lt m 0xe0) (0 ∷ 0xffffffffffffffff ∷ 0 ∷ 0 ∷ []) (0 ∷ 0 ∷ 1 ∷ 0 ∷ []))))))))))))))))))))
