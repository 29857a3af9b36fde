-- When a tuple or a slice lowers to bytes, and when to the list.
use Rattle.std.proofs.Common.{◌≡◌, ℕ, List, [], ◌∷◌, ◌++◌, map, Bool, true, false, Option, None, Some, refl, sym, ◌∙◌, ap, subst}
use Rattle.std.specs.Option.{option_map}
use Rattle.std.proofs.lemmas.Bool.{false≢true, true≢false}
use Rattle.std.proofs.Common.{◌+◌, ◌<◌, ◌^◌, length, arith, nat_le}
use Rattle.rmp_encode.specs.declared.settings.Settings.{Settings}
use Rattle.rmp_wire.specs.declared.config.BytesMode.{BytesMode}
use Rattle.rmp_wire.specs.declared.config.BytesMode.TheVariants.{Normal, ForceIterables, ForceAll}
use Rattle.rmp_wire.specs.Heads.{fits_head}
use Rattle.rmp_encode.specs.Data.{Data, Parts, part, no_parts, byte, sequence, slice, tuple, lower, lower_parts, byte_in, push_byte, all_bytes}
use Rattle.rmp_encode.specs.Data.{packs_slice, packs_tuple, packed, bin_or_list}
use Rattle.rmp_encode.specs.Data.{unit, truth, whole, unsigned128, signed128, float32, float64, char, text, bytes, wrapped, unit_struct, mapping}
use Rattle.rmp_encode.specs.Data.{structure, unit_variant, newtype_variant, tuple_variant, struct_variant, extension}
use Rattle.rmp_encode.specs.Trees.{HasTree, a_byte, byte_of, forces_all, forces_slices, parts_of, sequence_of, slice_of, tree_of, tuple_of}
use Rattle.rmp_wire.specs.Msg.{Msgs, bin, count, list}
use Rattle.rmp_wire.specs.Spelling.{Fits}
use Rattle.rmp_encode.specs.Slices.{number_of, AllBytes, OneIsNone}
use Rattle.std.specs.Option.{unwrap_or}
use Rattle.rmp_wire.specs.Spelling.{IsBytes}
use Rattle.rmp_encode.proofs.Going.{all_append, map_rest}
use Rattle.std.proofs.Common.{take, drop, get_or}
use Rattle.std.proofs.lemmas.List.{take-append-drop, map-append, take_more, length-map}
use Rattle.std.proofs.lemmas.Option.{none-some}
use Rattle.rmp_encode.proofs.Lists.{Tells, tells}

none_some : {A : Type 0} {x : A} {P : Type 0} → None ≡ Some x → P
none_some {A} {x} e = absurd (none-some x e)

abbrev or_zero : Option ℕ → ℕ
or_zero None = 0
or_zero (Some n) = n

pub byte_from : (d : Option Data) (b : ℕ) → byte_of d ≡ Some b → d ≡ a_byte b
byte_from None b e = none_some e
byte_from (Some (byte n)) b e = ap (λ o. a_byte (or_zero o)) e
byte_from (Some unit) b e = none_some e
byte_from (Some (truth n)) b e = none_some e
byte_from (Some (whole n)) b e = none_some e
byte_from (Some (unsigned128 n)) b e = none_some e
byte_from (Some (signed128 n)) b e = none_some e
byte_from (Some (float32 n)) b e = none_some e
byte_from (Some (float64 n)) b e = none_some e
byte_from (Some (char n)) b e = none_some e
byte_from (Some (text n)) b e = none_some e
byte_from (Some (bytes n)) b e = none_some e
byte_from (Some (wrapped n)) b e = none_some e
byte_from (Some unit_struct) b e = none_some e
byte_from (Some (sequence n)) b e = none_some e
byte_from (Some (slice n)) b e = none_some e
byte_from (Some (tuple n)) b e = none_some e
byte_from (Some (mapping n)) b e = none_some e
byte_from (Some (structure n)) b e = none_some e
byte_from (Some (unit_variant n)) b e = none_some e
byte_from (Some (newtype_variant n m)) b e = none_some e
byte_from (Some (tuple_variant n m)) b e = none_some e
byte_from (Some (struct_variant n m)) b e = none_some e
byte_from (Some (extension n m)) b e = none_some e

-- the parts aren't all bytes
NoBytes : Option Parts → Type 0
NoBytes None = Unit {0}
NoBytes (Some es) = all_bytes es ≡ None

push_none : (o : Option ℕ) → push_byte o None ≡ None
push_none None = refl
push_none (Some b) = refl

no_bytes_at : (x : Data) (o : Option Parts) → byte_in x ≡ None → NoBytes (option_map (part x) o)
unfolding NoBytes
no_bytes_at x None e = tt
no_bytes_at x (Some es) e = ap (λ b. push_byte b (all_bytes es)) e

no_bytes_more : (x : Data) (o : Option Parts) → NoBytes o → NoBytes (option_map (part x) o)
unfolding NoBytes
no_bytes_more x None e = tt
no_bytes_more x (Some es) e = ap (push_byte (byte_in x)) e ∙ push_none (byte_in x)

-- where one isn't a byte
no_bytes : (front : List (Option Data)) (d : Option Data) (rest : List (Option Data)) → byte_of d ≡ None → NoBytes (parts_of (front ++ d ∷ rest))
unfolding NoBytes
no_bytes [] None rest e = tt
no_bytes [] (Some x) rest e = no_bytes_at x (parts_of rest) e
no_bytes (None ∷ front) d rest e = tt
no_bytes (Some x ∷ front) d rest e = no_bytes_more x (parts_of (front ++ d ∷ rest)) (no_bytes front d rest e)

plain_at : (s : Settings) (o : Option Parts) → NoBytes o → tree_of s (option_map tuple o) ≡ tree_of s (option_map sequence o)
unfolding NoBytes lower
plain_at s None e = refl
plain_at s (Some es) e = ap (λ b. Some (packed (packs_tuple s.bytes) b (lower_parts s es))) e

-- a tuple lowers to the list where one part isn't a byte
pub plain_by : (s : Settings) (front : List (Option Data)) (d : Option Data) (rest : List (Option Data)) → byte_of d ≡ None
    → tree_of s (tuple_of (front ++ d ∷ rest)) ≡ tree_of s (sequence_of (front ++ d ∷ rest))
unfolding sequence_of tuple_of
plain_by s front d rest e = plain_at s (parts_of (front ++ d ∷ rest)) (no_bytes front d rest e)

packed_never : (p : List ℕ → Bool) (o : Option (List ℕ)) (ms : Msgs) → ((bs : List ℕ) → p bs ≡ false) → packed p o ms ≡ list ms
packed_never p None ms e = refl
packed_never p (Some bs) ms e = ap (λ b. bin_or_list b bs ms) (e bs)

never_packs : (m : BytesMode) → forces_all m ≡ false → (bs : List ℕ) → packs_tuple m bs ≡ false
unfolding packs_tuple
never_packs Normal e bs = refl
never_packs ForceIterables e bs = refl
never_packs ForceAll e bs = absurd (true≢false e)

plain_mode_at : (s : Settings) (o : Option Parts) → forces_all s.bytes ≡ false → tree_of s (option_map tuple o) ≡ tree_of s (option_map sequence o)
unfolding lower
plain_mode_at s None e = refl
plain_mode_at s (Some es) e = ap Some (packed_never (packs_tuple s.bytes) (all_bytes es) (lower_parts s es) (never_packs s.bytes e))

-- a tuple lowers to the list in any other mode
pub plain_mode : (s : Settings) (ds : List (Option Data)) → forces_all s.bytes ≡ false → tree_of s (tuple_of ds) ≡ tree_of s (sequence_of ds)
unfolding sequence_of tuple_of
plain_mode s ds e = plain_mode_at s (parts_of ds) e

pub is_force_all : (m : BytesMode) → forces_all m ≡ true → m ≡ ForceAll
is_force_all Normal e = absurd (false≢true e)
is_force_all ForceIterables e = absurd (false≢true e)
is_force_all ForceAll e = refl

-- the parts are these bytes
AreBytes : List ℕ → Option Parts → Type 0
AreBytes bs None = ⊥
AreBytes bs (Some es) = all_bytes es ≡ Some bs

are_more : (b : ℕ) (bs : List ℕ) (o : Option Parts) → AreBytes bs o → AreBytes (b ∷ bs) (option_map (part (byte b)) o)
unfolding AreBytes
are_more b bs None h = h
are_more b bs (Some es) h = ap (push_byte (Some b)) h

are_bytes : (bs : List ℕ) → AreBytes bs (parts_of (map a_byte bs))
unfolding AreBytes
are_bytes [] = refl
are_bytes (b ∷ bs) = are_more b bs (parts_of (map a_byte bs)) (are_bytes bs)

bytes_tree_at : (s : Settings) (bs : List ℕ) (o : Option Parts) → AreBytes bs o → packs_tuple s.bytes bs ≡ true → tree_of s (option_map tuple o) ≡ Some (bin bs)
unfolding AreBytes lower
bytes_tree_at s bs None h e = absurd h
bytes_tree_at s bs (Some es) h e = ap Some (ap (λ b. packed (packs_tuple s.bytes) b (lower_parts s es)) h ∙ ap (λ b. bin_or_list b bs (lower_parts s es)) e)

list_tree_at : (s : Settings) (bs : List ℕ) (o : Option Parts) → AreBytes bs o → packs_tuple s.bytes bs ≡ false
    → tree_of s (option_map tuple o) ≡ tree_of s (option_map sequence o)
unfolding AreBytes lower
list_tree_at s bs None h e = absurd h
list_tree_at s bs (Some es) h e = ap Some (ap (λ b. packed (packs_tuple s.bytes) b (lower_parts s es)) h ∙ ap (λ b. bin_or_list b bs (lower_parts s es)) e)

-- a tuple of bytes that are packed, and of bytes that aren't
pub bytes_tree : (s : Settings) (bs : List ℕ) → packs_tuple s.bytes bs ≡ true → tree_of s (tuple_of (map a_byte bs)) ≡ Some (bin bs)
unfolding tuple_of
bytes_tree s bs e = bytes_tree_at s bs (parts_of (map a_byte bs)) (are_bytes bs) e

pub list_tree : (s : Settings) (bs : List ℕ) → packs_tuple s.bytes bs ≡ false → tree_of s (tuple_of (map a_byte bs)) ≡ tree_of s (sequence_of (map a_byte bs))
unfolding sequence_of tuple_of
list_tree s bs e = list_tree_at s bs (parts_of (map a_byte bs)) (are_bytes bs) e

-- bytes are as many as the parts
AsLong : ℕ → Option (List ℕ) → Type 0
AsLong n None = Unit {0}
AsLong n (Some bs) = length bs ≡ n

push_long : (n : ℕ) (b : Option ℕ) (o : Option (List ℕ)) → AsLong n o → AsLong (n + 1) (push_byte b o)
unfolding AsLong
push_long n None o h = tt
push_long n (Some b) None h = tt
push_long n (Some b) (Some bs) h = omega (arith, h)

LongParts : ℕ → Option Parts → Type 0
LongParts n None = Unit {0}
LongParts n (Some es) = AsLong n (all_bytes es)

parts_more : (n : ℕ) (x : Data) (o : Option Parts) → LongParts n o → LongParts (n + 1) (option_map (part x) o)
unfolding LongParts
parts_more n x None h = tt
parts_more n x (Some es) h = push_long n (byte_in x) (all_bytes es) h

parts_long : (ds : List (Option Data)) → LongParts (length ds) (parts_of ds)
unfolding LongParts AsLong
parts_long [] = refl
parts_long (None ∷ ds) = tt
parts_long (Some x ∷ ds) =
    let e : length ds + 1 ≡ length (Some x ∷ ds) = omega arith in
    subst (λ n. LongParts n (parts_of (Some x ∷ ds))) e (parts_more (length ds) x (parts_of ds) (parts_long ds))

fits_by : (b : Bool) (bs : List ℕ) (ms : Msgs) (n : ℕ) → length bs ≡ n → count ms ≡ n → Fits (bin_or_list b bs ms) → n < 2 ^ 32
unfolding fits_head
fits_by true bs ms n e f h = let k = h.0 in omega (arith, e, k)
fits_by false bs ms n e f h = let k = h.0 in omega (arith, f, k)

packed_fits : (p : List ℕ → Bool) (o : Option (List ℕ)) (ms : Msgs) (n : ℕ) → AsLong n o → count ms ≡ n → Fits (packed p o ms) → n < 2 ^ 32
unfolding AsLong fits_head
packed_fits p None ms n e f h = let k = h.0 in omega (arith, f, k)
packed_fits p (Some bs) ms n e f h = fits_by (p bs) bs ms n e f h

tuple_fits : (s : Settings) (ds : List (Option Data)) (o : Option Parts) → Tells s ds o → LongParts (length ds) o → HasTree (tree_of s (option_map tuple o))
    → length ds < 2 ^ 32
unfolding Tells LongParts lower HasTree
tuple_fits s ds None t l h = absurd h
tuple_fits s ds (Some es) t l h = packed_fits (packs_tuple s.bytes) (all_bytes es) (lower_parts s es) (length ds) l t.0 h

-- a tuple's tree that fits has a length that does
pub tuple_can : (s : Settings) (ds : List (Option Data)) → HasTree (tree_of s (tuple_of ds)) → length ds < 2 ^ 32
unfolding tuple_of
tuple_can s ds h = tuple_fits s ds (parts_of ds) (tells s ds) (parts_long ds) h

-- the same for a slice
slice_plain_at : (s : Settings) (o : Option Parts) → NoBytes o → tree_of s (option_map slice o) ≡ tree_of s (option_map sequence o)
unfolding NoBytes lower
slice_plain_at s None e = refl
slice_plain_at s (Some es) e = ap (λ b. Some (packed (packs_slice s.bytes) b (lower_parts s es))) e

pub slice_plain_by : (s : Settings) (ds front : List (Option Data)) (d : Option Data) (rest : List (Option Data)) → ds ≡ front ++ d ∷ rest
    → byte_of d ≡ None → tree_of s (slice_of ds) ≡ tree_of s (sequence_of ds)
unfolding sequence_of slice_of
slice_plain_by s ds front d rest is e = subst (λ l. tree_of s (option_map slice (parts_of l)) ≡ tree_of s (option_map sequence (parts_of l))) (sym is)
    (slice_plain_at s (parts_of (front ++ d ∷ rest)) (no_bytes front d rest e))

slice_never : (m : BytesMode) → forces_slices m ≡ false → (bs : List ℕ) → packs_slice m bs ≡ false
unfolding packs_slice
slice_never Normal e bs = refl
slice_never ForceIterables e bs = absurd (true≢false e)
slice_never ForceAll e bs = absurd (true≢false e)

slice_mode_at : (s : Settings) (o : Option Parts) → forces_slices s.bytes ≡ false → tree_of s (option_map slice o) ≡ tree_of s (option_map sequence o)
unfolding lower
slice_mode_at s None e = refl
slice_mode_at s (Some es) e = ap Some (packed_never (packs_slice s.bytes) (all_bytes es) (lower_parts s es) (slice_never s.bytes e))

pub slice_mode : (s : Settings) (ds : List (Option Data)) → forces_slices s.bytes ≡ false → tree_of s (slice_of ds) ≡ tree_of s (sequence_of ds)
unfolding sequence_of slice_of
slice_mode s ds e = slice_mode_at s (parts_of ds) e

slice_none : (m : BytesMode) → packs_slice m [] ≡ false
unfolding packs_slice
slice_none Normal = refl
slice_none ForceIterables = refl
slice_none ForceAll = refl

slice_empty_at : (s : Settings) → tree_of s (slice_of []) ≡ tree_of s (sequence_of [])
unfolding sequence_of slice_of lower
slice_empty_at s = ap (λ b. Some (bin_or_list b [] (lower_parts s no_parts))) (slice_none s.bytes)

pub slice_empty : (s : Settings) (ds : List (Option Data)) → length ds ≡ 0 → tree_of s (slice_of ds) ≡ tree_of s (sequence_of ds)
slice_empty s [] e = slice_empty_at s
slice_empty s (d ∷ ds) e = let no_way : ⊥ = omega (arith, e) in absurd no_way

some_len : (bs : List ℕ) → 0 < length bs → nat_le 1 (length bs) ≡ true
some_len bs lt = grind (arith, lt)

slice_some : (m : BytesMode) (bs : List ℕ) → forces_slices m ≡ true → 0 < length bs → packs_slice m bs ≡ true
unfolding packs_slice
slice_some Normal bs f lt = absurd (false≢true f)
slice_some ForceIterables bs f lt = some_len bs lt
slice_some ForceAll bs f lt = some_len bs lt

slice_tree_at : (s : Settings) (bs : List ℕ) (o : Option Parts) → AreBytes bs o → packs_slice s.bytes bs ≡ true → tree_of s (option_map slice o) ≡ Some (bin bs)
unfolding AreBytes lower
slice_tree_at s bs None h e = absurd h
slice_tree_at s bs (Some es) h e = ap Some (ap (λ b. packed (packs_slice s.bytes) b (lower_parts s es)) h ∙ ap (λ b. bin_or_list b bs (lower_parts s es)) e)

pub slice_tree : (s : Settings) (ds : List (Option Data)) (bs : List ℕ) → ds ≡ map a_byte bs → forces_slices s.bytes ≡ true → 0 < length bs
    → tree_of s (slice_of ds) ≡ Some (bin bs)
unfolding slice_of
slice_tree s ds bs is f lt = ap (λ l. tree_of s (option_map slice (parts_of l))) is
    ∙ slice_tree_at s bs (parts_of (map a_byte bs)) (are_bytes bs) (slice_some s.bytes bs f lt)

-- one value is no byte
pub one_isnt : {X : Type 0} (f : X → Option Data) (xs : List X) (i : ℕ) (x : X) → i < length xs → x ≡ get_or xs i x → byte_of (f x) ≡ None
    → OneIsNone (map f xs)
one_isnt f xs i x lt is e = record {
  front = map f (take i xs);
  d = f x;
  rest = map f (drop (i + 1) xs);
  split = ap (map f) (sym (take-append-drop i xs)) ∙ map-append f (take i xs) (drop i xs) ∙ ap (λ l. map f (take i xs) ++ l) (map_rest f xs i x lt is);
  isnt = e;
}

pub no_bytes_yet : AllBytes []
no_bytes_yet = record { each = refl; small = tt }

-- one more is a byte
bytes_with : (ds : List (Option Data)) (d : Option Data) (b : ℕ) → byte_of d ≡ Some b → b < 256 → AllBytes ds → AllBytes (ds ++ d ∷ [])
bytes_with ds d b e lt h =
    let n : number_of d ≡ b = ap (λ o. unwrap_or o 0) e in
    let ns : map number_of (ds ++ d ∷ []) ≡ map number_of ds ++ b ∷ [] = map-append number_of ds (d ∷ []) ∙ ap (λ k. map number_of ds ++ k ∷ []) n in
    record {
      each = ap (λ l. l ++ d ∷ []) h.each ∙ ap (λ y. map a_byte (map number_of ds) ++ y ∷ []) (byte_from d b e)
          ∙ sym (map-append a_byte (map number_of ds) (b ∷ [])) ∙ ap (map a_byte) (sym ns);
      small = subst IsBytes (sym ns) (all_append (λ k. k < 256) (map number_of ds) (b ∷ []) h.small (lt, tt));
    }

pub one_is : {X : Type 0} (f : X → Option Data) (xs : List X) (i : ℕ) (x : X) (b : ℕ) → i < length xs → x ≡ get_or xs i x
    → byte_of (f x) ≡ Some b → b < 256 → AllBytes (map f (take i xs)) → AllBytes (map f (take (i + 1) xs))
one_is f xs i x b lt is e small h =
    let more : map f (take (i + 1) xs) ≡ map f (take i xs) ++ f x ∷ [] =
    ap (map f) (take_more xs i x lt) ∙ map-append f (take i xs) (get_or xs i x ∷ []) ∙ ap (λ y. map f (take i xs) ++ f y ∷ []) (sym is) in
    subst AllBytes (sym more) (bytes_with (map f (take i xs)) (f x) b e small h)

pub some_mapped : {X : Type 0} (f : X → Option Data) (xs : List X) → 0 < length xs → 0 < length (map f xs)
some_mapped f xs lt = let n = length-map xs f in omega (arith, n, lt)

-- a slice of values that are all bytes, where there are some
pub slice_packed : (s : Settings) (ds : List (Option Data)) → AllBytes ds → forces_slices s.bytes ≡ true → 0 < length ds
    → tree_of s (slice_of ds) ≡ Some (bin (map number_of ds))
slice_packed s ds h f lt = let n = length-map ds number_of in slice_tree s ds (map number_of ds) h.each f (omega (arith, n, lt))

-- a tuple of values of which one is no byte
pub plain_as : (s : Settings) {ds : List (Option Data)} → OneIsNone ds → tree_of s (tuple_of ds) ≡ tree_of s (sequence_of ds)
plain_as s {ds} o = subst (λ l. tree_of s (tuple_of l) ≡ tree_of s (sequence_of l)) (sym o.split) (plain_by s o.front o.d o.rest o.isnt)

-- a tuple of values that are all bytes, packed or as the list
pub tuple_packed : (s : Settings) (ds : List (Option Data)) → AllBytes ds → forces_all s.bytes ≡ true → packs_tuple ForceAll (map number_of ds) ≡ true
    → tree_of s (tuple_of ds) ≡ Some (bin (map number_of ds))
tuple_packed s ds h f e = ap (λ l. tree_of s (tuple_of l)) h.each
    ∙ bytes_tree s (map number_of ds) (ap (λ m. packs_tuple m (map number_of ds)) (is_force_all s.bytes f) ∙ e)

pub tuple_listed : (s : Settings) (ds : List (Option Data)) → AllBytes ds → forces_all s.bytes ≡ true → packs_tuple ForceAll (map number_of ds) ≡ false
    → tree_of s (tuple_of ds) ≡ tree_of s (sequence_of ds)
tuple_listed s ds h f e =
    ap (λ l. tree_of s (tuple_of l)) h.each
    ∙ list_tree s (map number_of ds) (ap (λ m. packs_tuple m (map number_of ds)) (is_force_all s.bytes f) ∙ e)
    ∙ ap (λ l. tree_of s (sequence_of l)) (sym h.each)

slice_byte_at : (o : Option Parts) → byte_of (option_map slice o) ≡ None
slice_byte_at None = refl
slice_byte_at (Some es) = refl

pub slice_no_byte : (ds : List (Option Data)) → byte_of (slice_of ds) ≡ None
unfolding slice_of
slice_no_byte ds = slice_byte_at (parts_of ds)

tuple_byte_at : (o : Option Parts) → byte_of (option_map tuple o) ≡ None
tuple_byte_at None = refl
tuple_byte_at (Some es) = refl

pub tuple_no_byte : (ds : List (Option Data)) → byte_of (tuple_of ds) ≡ None
unfolding tuple_of
tuple_no_byte ds = tuple_byte_at (parts_of ds)
