-- The heads of messages: what may begin a message, and which of several heads is the canonical one.
-- (MessagePack specification, "Formats"; numbers and lengths are big-endian, "Notation in diagrams".)
use Rattle.std.specs.Prelude.{◌≡◌, ℕ, ◌+◌, ◌-◌, ◌^◌, ◌<◌, ◌⊎◌, List, [], ◌∷◌, ◌++◌, true, false, cond, nat_lt, nat_eq, ℤ, pos, negsuc, FitsSigned}
use Rattle.std.specs.Int.{Width, w8, w16, w32, w64, to_be_bytes, cast_unsigned}
use mir.Val.{bits}
use Rattle.rmp_wire.specs.declared.head.Head.{Head}
use Rattle.rmp_wire.specs.declared.head.Head.TheVariants.{Nil, Truth, Whole, F32Bits, F64Bits, Text, Bin, Array, Map, Ext}

-- the byte first + n, where n is below k
abbrev pub Fixed : ℕ → ℕ → ℕ → List ℕ → Type 0
Fixed first k n head = (n < k) × (head ≡ (first + n) ∷ [])

-- a marker byte, then n in big-endian bytes of the width
abbrev pub Wide : ℕ → Width → ℕ → List ℕ → Type 0
Wide marker w n head = (n < 2 ^ bits w) × (head ≡ marker ∷ to_be_bytes w n)

-- a marker byte, then z in two's complement
abbrev pub Signed : ℕ → Width → ℤ → List ℕ → Type 0
Signed marker w z head = FitsSigned w z × (head ≡ marker ∷ to_be_bytes w (cast_unsigned w z))

-- one of the four signed formats ("int format family")
abbrev pub SignedAny : ℤ → List ℕ → Type 0
SignedAny z head = Signed 0xd0 w8 z head ⊎ (Signed 0xd1 w16 z head ⊎ (Signed 0xd2 w32 z head ⊎ Signed 0xd3 w64 z head))

-- the byte of an extension's type
abbrev pub tag_byte : ℤ → ℕ
tag_byte tag = cast_unsigned w8 tag

-- an extension of a length that has a marker of its own: the marker, then the type
abbrev pub FixedExt : ℕ → ℕ → ℕ → ℤ → List ℕ → Type 0
FixedExt marker k n tag head = (n ≡ k) × FitsSigned w8 tag × (head ≡ marker ∷ tag_byte tag ∷ [])

-- an extension of a length in the width's range: the marker, the length, then the type
abbrev pub WideExt : ℕ → Width → ℕ → ℤ → List ℕ → Type 0
WideExt marker w n tag head = (n < 2 ^ bits w) × FitsSigned w8 tag × (head ≡ marker ∷ (to_be_bytes w n ++ tag_byte tag ∷ []))

-- These bytes are a head of that kind and number: an alternative for each marker that can have the number.
-- ("nil format", "bool format family", "int ..", "float ..", "str ..", "bin ..", "array ..", "map ..", "ext format family".)
unfoldable pub IsHead : Head → List ℕ → Type 0
IsHead Nil head = head ≡ 0xc0 ∷ []
IsHead (Truth false) head = head ≡ 0xc2 ∷ []
IsHead (Truth true) head = head ≡ 0xc3 ∷ []
IsHead (Whole (pos n)) head =
    ((n < 128) × (head ≡ n ∷ []))
    ⊎ (Wide 0xcc w8 n head ⊎ (Wide 0xcd w16 n head ⊎ (Wide 0xce w32 n head ⊎ (Wide 0xcf w64 n head ⊎ SignedAny (pos n) head))))
IsHead (Whole (negsuc n)) head = ((n < 32) × (head ≡ (0xff - n) ∷ [])) ⊎ SignedAny (negsuc n) head
IsHead (F32Bits n) head = Wide 0xca w32 n head
IsHead (F64Bits n) head = Wide 0xcb w64 n head
IsHead (Text n) head = Fixed 0xa0 32 n head ⊎ (Wide 0xd9 w8 n head ⊎ (Wide 0xda w16 n head ⊎ Wide 0xdb w32 n head))
IsHead (Bin n) head = Wide 0xc4 w8 n head ⊎ (Wide 0xc5 w16 n head ⊎ Wide 0xc6 w32 n head)
IsHead (Array n) head = Fixed 0x90 16 n head ⊎ (Wide 0xdc w16 n head ⊎ Wide 0xdd w32 n head)
IsHead (Map n) head = Fixed 0x80 16 n head ⊎ (Wide 0xde w16 n head ⊎ Wide 0xdf w32 n head)
IsHead (Ext n tag) head =
    FixedExt 0xd4 1 n tag head
    ⊎ (FixedExt 0xd5 2 n tag head
    ⊎ (FixedExt 0xd6 4 n tag head
    ⊎ (FixedExt 0xd7 8 n tag head
    ⊎ (FixedExt 0xd8 16 n tag head
    ⊎ (WideExt 0xc7 w8 n tag head ⊎ (WideExt 0xc8 w16 n tag head ⊎ WideExt 0xc9 w32 n tag head))))))

-- The shortest head, and among two shortest the unsigned one. ("Serialization: type to format conversion" asks for the smallest number of
-- bytes, which leaves the sign open: 300 is as short in the format d1 as in cd.)
unfoldable pub canon_head : Head → List ℕ
canon_head Nil = 0xc0 ∷ []
canon_head (Truth false) = 0xc2 ∷ []
canon_head (Truth true) = 0xc3 ∷ []
canon_head (Whole (pos n)) =
    cond (nat_lt n 128) (n ∷ [])
    (cond (nat_lt n (2 ^ 8)) (0xcc ∷ to_be_bytes w8 n)
    (cond (nat_lt n (2 ^ 16)) (0xcd ∷ to_be_bytes w16 n)
    (cond (nat_lt n (2 ^ 32)) (0xce ∷ to_be_bytes w32 n) (0xcf ∷ to_be_bytes w64 n))))
canon_head (Whole (negsuc n)) =
    cond (nat_lt n 32) ((0xff - n) ∷ [])
    (cond (nat_lt n (2 ^ 7)) (0xd0 ∷ to_be_bytes w8 (cast_unsigned w8 (negsuc n)))
    (cond (nat_lt n (2 ^ 15)) (0xd1 ∷ to_be_bytes w16 (cast_unsigned w16 (negsuc n)))
    (cond (nat_lt n (2 ^ 31)) (0xd2 ∷ to_be_bytes w32 (cast_unsigned w32 (negsuc n))) (0xd3 ∷ to_be_bytes w64 (cast_unsigned w64 (negsuc n))))))
canon_head (F32Bits n) = 0xca ∷ to_be_bytes w32 n
canon_head (F64Bits n) = 0xcb ∷ to_be_bytes w64 n
canon_head (Text n) =
    cond (nat_lt n 32) ((0xa0 + n) ∷ [])
    (cond (nat_lt n (2 ^ 8)) (0xd9 ∷ to_be_bytes w8 n)
    (cond (nat_lt n (2 ^ 16)) (0xda ∷ to_be_bytes w16 n) (0xdb ∷ to_be_bytes w32 n)))
canon_head (Bin n) =
    cond (nat_lt n (2 ^ 8)) (0xc4 ∷ to_be_bytes w8 n)
    (cond (nat_lt n (2 ^ 16)) (0xc5 ∷ to_be_bytes w16 n) (0xc6 ∷ to_be_bytes w32 n))
canon_head (Array n) =
    cond (nat_lt n 16) ((0x90 + n) ∷ [])
    (cond (nat_lt n (2 ^ 16)) (0xdc ∷ to_be_bytes w16 n) (0xdd ∷ to_be_bytes w32 n))
canon_head (Map n) =
    cond (nat_lt n 16) ((0x80 + n) ∷ [])
    (cond (nat_lt n (2 ^ 16)) (0xde ∷ to_be_bytes w16 n) (0xdf ∷ to_be_bytes w32 n))
canon_head (Ext n tag) =
    cond (nat_eq n 1) (0xd4 ∷ tag_byte tag ∷ [])
    (cond (nat_eq n 2) (0xd5 ∷ tag_byte tag ∷ [])
    (cond (nat_eq n 4) (0xd6 ∷ tag_byte tag ∷ [])
    (cond (nat_eq n 8) (0xd7 ∷ tag_byte tag ∷ [])
    (cond (nat_eq n 16) (0xd8 ∷ tag_byte tag ∷ [])
    (cond (nat_lt n (2 ^ 8)) (0xc7 ∷ (to_be_bytes w8 n ++ tag_byte tag ∷ []))
    (cond (nat_lt n (2 ^ 16)) (0xc8 ∷ (to_be_bytes w16 n ++ tag_byte tag ∷ [])) (0xc9 ∷ (to_be_bytes w32 n ++ tag_byte tag ∷ []))))))))

-- the kind and number have a head ("Type system", "Limitation": the range of integers, and the greatest length of each kind)
unfoldable pub fits_head : Head → Type 0
fits_head (Whole (pos n)) = n < 2 ^ 64
fits_head (Whole (negsuc n)) = n < 2 ^ 63
fits_head (F32Bits n) = n < 2 ^ 32
fits_head (F64Bits n) = n < 2 ^ 64
fits_head (Text n) = n < 2 ^ 32
fits_head (Bin n) = n < 2 ^ 32
fits_head (Array n) = n < 2 ^ 32
fits_head (Map n) = n < 2 ^ 32
fits_head (Ext n tag) = (n < 2 ^ 32) × FitsSigned w8 tag
fits_head h = Unit {0}
