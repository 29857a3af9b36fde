-- A head that is buffered whole is the one that the remaining bytes begin with.
use Rattle.std.proofs.Common.{◌≡◌, ◌∙◌, sym, ap, subst, refl, rules, arith, ℕ, suc, ◌+◌, ◌-◌, ◌*◌, ◌%◌, ◌^◌, ◌<◌, ◌≤◌, pos, inl, inr, List, [], ◌∷◌}
use Rattle.std.proofs.Common.{◌++◌, length, take, drop, get_or, slice_index_or, append_assoc, Option, None, Some, Bool, true, false, nat_lt}
use Rattle.std.proofs.lemmas.Bool.{lt-ltb}
use Rattle.std.proofs.lemmas.List.{take_all}
use Rattle.std.proofs.lemmas.Nat.{be_bytes_2, be_bytes_4, be_bytes_8}
use Rattle.std.specs.Io.KnownBytes.{Consumes}
use Rattle.std.specs.Int.{Width, w8, w16, w32, w64, to_be_bytes}
use Rattle.rmp_wire.specs.declared.head.Head.{Head}
use Rattle.rmp_wire.specs.declared.head.Head.TheVariants.{Whole, Text, Array, Map}
use Rattle.rmp_wire.specs.declared.source.Source.{Ghosts}
use Rattle.rmp_wire.specs.Canonical.{heads_of}
use Rattle.rmp_wire.specs.Heads.{IsHead, canon_head}
use Rattle.rmp_wire.specs.Sources.{IsFront, Skips}
use Rattle.rmp_wire.specs.Taking.{marker_of}
use Rattle.rmp_wire.proofs.Canon.{head_fits}
use Rattle.rmp_wire.proofs.Strict.{canon_in}
use Rattle.rmp_decode.specs.BufferedHeads.{HeadIn, ConsumesHead}
use Rattle.rmp_decode.specs.declared.deserializer.Deserializer.{Deserializer}
use Rattle.rmp_decode.specs.declared.deserializer.Kept.TheVariants.{Nothing}
use Rattle.rmp_decode.proofs.Contents.{bare}
use Rattle.rmp_decode.proofs.Exactness.{starts_known}
use Rattle.rmp_decode.proofs.ContentErrors.{same_front}

-- bytes that are buffered are those that were taken
pub bytes_consumed : (n : ℕ) (bytes front : List ℕ) (known k : Option (List ℕ)) → IsFront front known → (rest : List ℕ) × (front ≡ bytes ++ rest)
    → length bytes ≡ n → Skips n known k → Consumes known k bytes
bytes_consumed n bytes front None k f s l c = tt
bytes_consumed n bytes front (Some xs) None f s l c = absurd c.taken
bytes_consumed n bytes front (Some xs) (Some ys) f s l c =
    let split : xs ≡ bytes ++ (s.0 ++ f.0) = f.1 ∙ ap (λ t. t ++ f.0) s.1 ∙ append_assoc bytes s.0 f.0 in
    let same : c.bytes ≡ bytes = same_front c.bytes bytes ys (s.0 ++ f.0) (c.long ∙ sym l) (sym c.taken ∙ split) in
    subst (λ b. xs ≡ b ++ ys) same c.taken

-- a first byte comes before the others
pub first_byte : (xs : List ℕ) → 1 ≤ length xs → (rest : List ℕ) × (xs ≡ slice_index_or xs 0 0 ∷ rest)
first_byte [] l = absurd (omega arith)
first_byte (a ∷ xs) l = (xs, refl)

-- the bytes that were taken are the head's
front_consumed : (w : Bool) (n : ℕ) (h : Head) (front : List ℕ) (known k : Option (List ℕ)) → IsFront front known → (s : HeadIn w n h front)
    → Skips n known k → Consumes known k (s.starts.byte ∷ s.starts.following)
front_consumed w n h front known k f s c =
    bytes_consumed n (s.starts.byte ∷ s.starts.following) front known k f (s.starts.rest, s.starts.front) s.long c

module _ {R C : Type 0} (g : Ghosts R) (old new : Deserializer R C) where
  pub front_taken : (n : ℕ) (h : Head) (front : List ℕ) → old.failed ≡ false → old.kept ≡ Nothing → new.failed ≡ true → new.kept ≡ Nothing
      → new.config ≡ old.config → new.room ≡ old.room → new.limit ≡ old.limit → new.strict ≡ old.strict
      → IsFront front (g.ahead old.reader) → HeadIn old.strict n h front → Skips n (g.ahead old.reader) (g.ahead new.reader)
      → g.faults new.reader ≡ g.faults old.reader → g.place new.reader ≡ g.place old.reader → ConsumesHead g h old new
  front_taken n h front fresh kept failed clean config room limit strict f s c sound place =
      let at = s.starts in
      let taken = front_consumed old.strict n h front (g.ahead old.reader) (g.ahead new.reader) f s c in
      record {
        marker = s.marker;
        begun = record {
          ok = record {
            bytes = at.byte ∷ at.following;
            takes = rw (bare g old kept, bare g new clean) taken;
            goes_on = record
                { more = at.byte ∷ at.following; whole = rw kept refl };
            is_head = at.is_head;
          };
          marked = rw (bare g old kept) (starts_known _ s.marker h at.byte at.following (g.ahead old.reader) (g.ahead new.reader) taken at.is_marker at.is_head);
          clean = clean;
          fresh = fresh;
          sound = sound;
          err = λ _. tt;
          ends = λ _. tt;
          leaves = λ _. tt;
          memory = tt;
          failed = failed;
          before = λ f. absurd cc;
          stays = record { config = config; room = room; limit = limit; strict = strict; place = place };
        };
      }

-- ---- numbers at the front

-- the bytes after the first
abbrev pub following : List ℕ → List ℕ
following xs = take (length xs - 1) (drop 1 xs)

pub after_is : (x : ℕ) (ys : List ℕ) → following (x ∷ ys) ≡ ys
after_is x ys = let l : length (x ∷ ys) - 1 ≡ length ys = omega arith in rw l (take_all (length ys) ys (omega arith))

-- where any width may be read, what is there is such a head
pub any_starts : (w : Bool) (n : ℕ) (h : Head) (xs : List ℕ) → w ≡ false → HeadIn false n h xs → HeadIn w n h xs
any_starts w n h xs e s = subst (λ z. HeadIn z n h xs) (sym e) s

-- a number comes after a marker
wide_starts : (w : Width) (x n : ℕ) (bs rest : List ℕ) → to_be_bytes w n ≡ bs → IsHead (Whole (pos n)) (x ∷ to_be_bytes w n)
    → HeadIn false (length (x ∷ bs)) (Whole (pos n)) (x ∷ (bs ++ rest))
wide_starts w x n bs rest e h = record {
  marker = marker_of x;
  starts = record { byte = x; following = bs; rest = rest; front = refl; is_marker = refl; is_head = subst (λ b. IsHead (Whole (pos n)) (x ∷ b)) e h };
  long = refl;
}

-- a head of one byte is canonical
one_byte : (w : Bool) (h : Head) (b : ℕ) → IsHead h (b ∷ []) → canon_head h ≡ b ∷ [] → heads_of w h (b ∷ [])
one_byte w h b i e = subst (heads_of w h) e (canon_in w h (head_fits h (b ∷ []) i))

small_head : (w : Bool) (x n : ℕ) → n < 128 → n ≡ x → heads_of w (Whole (pos n)) (x ∷ [])
unfolding IsHead canon_head
small_head w x n l e =
    let yes : nat_lt n 128 ≡ true = lt-ltb n 128 l in
    one_byte w (Whole (pos n)) x (inl (l, ap (λ t. t ∷ []) (sym e))) (rw yes (ap (λ t. t ∷ []) e))

text_head : (w : Bool) (x n : ℕ) → n < 32 → x ≡ 0xa0 + n → heads_of w (Text n) (x ∷ [])
unfolding IsHead canon_head
text_head w x n l e =
    let yes : nat_lt n 32 ≡ true = lt-ltb n 32 l in
    one_byte w (Text n) x (inl (l, ap (λ t. t ∷ []) e)) (rw yes (ap (λ t. t ∷ []) (sym e)))

list_head : (w : Bool) (x n : ℕ) → n < 16 → x ≡ 0x90 + n → heads_of w (Array n) (x ∷ [])
unfolding IsHead canon_head
list_head w x n l e =
    let yes : nat_lt n 16 ≡ true = lt-ltb n 16 l in
    one_byte w (Array n) x (inl (l, ap (λ t. t ∷ []) e)) (rw yes (ap (λ t. t ∷ []) (sym e)))

map_head : (w : Bool) (x n : ℕ) → n < 16 → x ≡ 0x80 + n → heads_of w (Map n) (x ∷ [])
unfolding IsHead canon_head
map_head w x n l e =
    let yes : nat_lt n 16 ≡ true = lt-ltb n 16 l in
    one_byte w (Map n) x (inl (l, ap (λ t. t ∷ []) e)) (rw yes (ap (λ t. t ∷ []) (sym e)))

pub small_starts : (w : Bool) (xs : List ℕ) (n : ℕ) → 1 ≤ length xs → get_or xs 0 0 < 128 → n ≡ get_or xs 0 0 → HeadIn w 1 (Whole (pos n)) xs
unfolding IsHead
small_starts w [] n l b e = absurd (omega arith)
small_starts w (x ∷ xs) n l b e = record {
  marker = marker_of x;
  starts = record { byte = x; following = []; rest = xs; front = refl; is_marker = refl; is_head = small_head w x n (omega arith) e };
  long = refl;
}

eight : (x n : ℕ) (ys : List ℕ) → x ≡ 0xcc → 1 ≤ length ys → n ≡ get_or ys 0 0 → n < 256 → HeadIn false 2 (Whole (pos n)) (x ∷ ys)
unfolding IsHead
eight x n [] e l s b = absurd (omega arith)
eight x n (a ∷ ys) e l s b =
    let low : n % 256 ≡ a = omega arith in
    let same : to_be_bytes w8 n ≡ a ∷ [] = ap (λ t. t ∷ []) low in
    wide_starts w8 x n (a ∷ []) ys same (inr (inl (omega arith, ap (λ t. t ∷ to_be_bytes w8 n) e)))

sixteen : (x n : ℕ) (ys : List ℕ) → x ≡ 0xcd → 2 ≤ length ys → n ≡ get_or ys 0 0 * 256 + get_or ys 1 0 → ((i : ℕ) → get_or ys i 0 < 256)
    → HeadIn false 3 (Whole (pos n)) (x ∷ ys)
unfolding IsHead
sixteen x n [] e l s f = absurd (omega arith)
sixteen x n (a ∷ []) e l s f = absurd (omega arith)
sixteen x n (a ∷ b ∷ ys) e l s f =
    let high : a < 256 = f 0 in
    let low : b < 256 = f 1 in
    let same : to_be_bytes w16 n ≡ a ∷ b ∷ [] = be_bytes_2 (a ∷ b ∷ []) n refl (λ i. search rules) (omega arith) in
    wide_starts w16 x n (a ∷ b ∷ []) ys same (inr (inr (inl (omega arith, ap (λ t. t ∷ to_be_bytes w16 n) e))))

pub starts_8 : (xs : List ℕ) (n : ℕ) → 1 ≤ length xs → get_or xs 0 0 ≡ 0xcc → 1 ≤ length (following xs) → n ≡ get_or (following xs) 0 0
    → ((i : ℕ) → get_or xs i 0 < 256) → HeadIn false 2 (Whole (pos n)) xs
starts_8 [] n l e m s f = absurd (omega arith)
starts_8 (x ∷ ys) n l e m s f = eight x n ys e (rw (after_is x ys) at m) (rw (after_is x ys) at s) (omega (arith, s, rw (after_is x ys) at s, f 1))

pub starts_16 : (xs : List ℕ) (n : ℕ) → 1 ≤ length xs → get_or xs 0 0 ≡ 0xcd → 2 ≤ length (following xs)
    → n ≡ get_or (following xs) 0 0 * 256 + get_or (following xs) 1 0 → ((i : ℕ) → get_or xs i 0 < 256) → HeadIn false 3 (Whole (pos n)) xs
starts_16 [] n l e m s f = absurd (omega arith)
starts_16 (x ∷ ys) n l e m s f = sixteen x n ys e (rw (after_is x ys) at m) (rw (after_is x ys) at s) (λ i. f (suc i))

thirty_two : (x n : ℕ) (ys : List ℕ) → x ≡ 0xce → 4 ≤ length ys
    → n ≡ get_or ys 0 0 * 0x1000000 + get_or ys 1 0 * 0x10000 + get_or ys 2 0 * 0x100 + get_or ys 3 0 → ((i : ℕ) → get_or ys i 0 < 256)
    → HeadIn false 5 (Whole (pos n)) (x ∷ ys)
unfolding IsHead
thirty_two x n [] e l s f = absurd (omega arith)
thirty_two x n (a ∷ []) e l s f = absurd (omega arith)
thirty_two x n (a ∷ b ∷ []) e l s f = absurd (omega arith)
thirty_two x n (a ∷ b ∷ c ∷ []) e l s f = absurd (omega arith)
thirty_two x n (a ∷ b ∷ c ∷ d ∷ ys) e l s f =
    let p : a < 256 = f 0 in
    let q : b < 256 = f 1 in
    let r : c < 256 = f 2 in
    let t : d < 256 = f 3 in
    let same : to_be_bytes w32 n ≡ a ∷ b ∷ c ∷ d ∷ [] = be_bytes_4 (a ∷ b ∷ c ∷ d ∷ []) n refl (λ i. search rules) (omega arith) in
    wide_starts w32 x n (a ∷ b ∷ c ∷ d ∷ []) ys same (inr (inr (inr (inl (omega arith, ap (λ t. t ∷ to_be_bytes w32 n) e)))))

sixty_four : (x n : ℕ) (ys : List ℕ) → x ≡ 0xcf → 8 ≤ length ys → n < 2 ^ 64
    → n ≡ get_or ys 0 0 * 0x100000000000000 + get_or ys 1 0 * 0x1000000000000 + get_or ys 2 0 * 0x10000000000 + get_or ys 3 0 * 0x100000000 + get_or ys 4 0
    * 0x1000000 + get_or ys 5 0 * 0x10000 + get_or ys 6 0 * 0x100 + get_or ys 7 0
    → ((i : ℕ) → get_or ys i 0 < 256) → HeadIn false 9 (Whole (pos n)) (x ∷ ys)
unfolding IsHead
sixty_four x n [] e l h s f = absurd (omega arith)
sixty_four x n (a ∷ []) e l h s f = absurd (omega arith)
sixty_four x n (a ∷ b ∷ []) e l h s f = absurd (omega arith)
sixty_four x n (a ∷ b ∷ c ∷ []) e l h s f = absurd (omega arith)
sixty_four x n (a ∷ b ∷ c ∷ d ∷ []) e l h s f = absurd (omega arith)
sixty_four x n (a ∷ b ∷ c ∷ d ∷ i ∷ []) e l h s f = absurd (omega arith)
sixty_four x n (a ∷ b ∷ c ∷ d ∷ i ∷ j ∷ []) e l h s f = absurd (omega arith)
sixty_four x n (a ∷ b ∷ c ∷ d ∷ i ∷ j ∷ k ∷ []) e l h s f = absurd (omega arith)
sixty_four x n (a ∷ b ∷ c ∷ d ∷ i ∷ j ∷ k ∷ m ∷ ys) e l h s f =
    let f0 : a < 256 = f 0 in
    let f1 : b < 256 = f 1 in
    let f2 : c < 256 = f 2 in
    let f3 : d < 256 = f 3 in
    let f4 : i < 256 = f 4 in
    let f5 : j < 256 = f 5 in
    let f6 : k < 256 = f 6 in
    let f7 : m < 256 = f 7 in
    let bs : List ℕ = a ∷ b ∷ c ∷ d ∷ i ∷ j ∷ k ∷ m ∷ [] in
    let same : to_be_bytes w64 n ≡ bs = be_bytes_8 bs n refl (λ i. search rules) (omega arith) in
    wide_starts w64 x n bs ys same (inr (inr (inr (inr (inl (h, ap (λ t. t ∷ to_be_bytes w64 n) e))))))

pub starts_32 : (xs : List ℕ) (n : ℕ) → 1 ≤ length xs → get_or xs 0 0 ≡ 0xce → 4 ≤ length (following xs)
    → n ≡ get_or (following xs) 0 0 * 0x1000000 + get_or (following xs) 1 0 * 0x10000 + get_or (following xs) 2 0 * 0x100 + get_or (following xs) 3 0
    → ((i : ℕ) → get_or xs i 0 < 256)
    → HeadIn false 5 (Whole (pos n)) xs
starts_32 [] n l e m s f = absurd (omega arith)
starts_32 (x ∷ ys) n l e m s f = thirty_two x n ys e (rw (after_is x ys) at m) (rw (after_is x ys) at s) (λ i. f (suc i))

pub starts_64 : (xs : List ℕ) (n : ℕ) → 1 ≤ length xs → get_or xs 0 0 ≡ 0xcf → 8 ≤ length (following xs) → n < 2 ^ 64
    → n ≡ get_or (following xs) 0 0 * 0x100000000000000 + get_or (following xs) 1 0 * 0x1000000000000 + get_or (following xs) 2 0 * 0x10000000000 + get_or
    (following xs) 3 0 * 0x100000000 + get_or (following xs) 4 0 * 0x1000000 + get_or (following xs) 5 0 * 0x10000 + get_or (following xs) 6 0 * 0x100 + get_or
    (following xs) 7 0
    → ((i : ℕ) → get_or xs i 0 < 256) → HeadIn false 9 (Whole (pos n)) xs
starts_64 [] n l e m h s f = absurd (omega arith)
starts_64 (x ∷ ys) n l e m h s f = sixty_four x n ys e (rw (after_is x ys) at m) h (rw (after_is x ys) at s) (λ i. f (suc i))

-- ---- texts at the front

pub text_held : (w : Bool) (xs : List ℕ) (n : ℕ) → 1 ≤ length xs → 0xa0 ≤ get_or xs 0 0 → get_or xs 0 0 < 0xc0 → n ≡ get_or xs 0 0 - 0xa0
    → HeadIn w 1 (Text n) xs
unfolding IsHead
text_held w [] n l b t e = absurd (omega arith)
text_held w (x ∷ xs) n l b t e =
    let same : x ≡ 0xa0 + n = omega arith in
    record {
      marker = marker_of x;
      starts = record { byte = x; following = []; rest = xs; front = refl; is_marker = refl; is_head = text_head w x n (omega arith) same };
      long = refl;
    }

text_eight : (x n : ℕ) (ys : List ℕ) → x ≡ 0xd9 → 1 ≤ length ys → n ≡ get_or ys 0 0 → n < 256 → HeadIn false 2 (Text n) (x ∷ ys)
unfolding IsHead
text_eight x n [] e l s b = absurd (omega arith)
text_eight x n (a ∷ ys) e l s b =
    let low : n ≡ a = omega arith in
    let wide : n % 256 ≡ n = omega arith in
    record {
      marker = marker_of x;
      starts = record {
        byte = x;
        following = a ∷ [];
        rest = ys;
        front = refl;
        is_marker = refl;
        is_head = inr
            (inl (omega arith, ap (λ t. t ∷ a ∷ []) e ∙ ap (λ t. 0xd9 ∷ t ∷ []) (sym low ∙ sym wide)));
      };
      long = refl;
    }

pub text_8 : (xs : List ℕ) (n : ℕ) → 1 ≤ length xs → get_or xs 0 0 ≡ 0xd9 → 1 ≤ length (following xs) → n ≡ get_or (following xs) 0 0
    → ((i : ℕ) → get_or xs i 0 < 256) → HeadIn false 2 (Text n) xs
text_8 [] n l e m s f = absurd (omega arith)
text_8 (x ∷ ys) n l e m s f = text_eight x n ys e (rw (after_is x ys) at m) (rw (after_is x ys) at s) (omega (arith, s, rw (after_is x ys) at s, f 1))

-- ---- lists and maps at the front

pub list_held : (w : Bool) (xs : List ℕ) (n : ℕ) → 1 ≤ length xs → 0x90 ≤ get_or xs 0 0 → get_or xs 0 0 < 0xa0 → n ≡ get_or xs 0 0 - 0x90
    → HeadIn w 1 (Array n) xs
unfolding IsHead
list_held w [] n l b t e = absurd (omega arith)
list_held w (x ∷ xs) n l b t e =
    let same : x ≡ 0x90 + n = omega arith in
    record {
      marker = marker_of x;
      starts = record { byte = x; following = []; rest = xs; front = refl; is_marker = refl; is_head = list_head w x n (omega arith) same };
      long = refl;
    }

pub map_held : (w : Bool) (xs : List ℕ) (n : ℕ) → 1 ≤ length xs → 0x80 ≤ get_or xs 0 0 → get_or xs 0 0 < 0x90 → n ≡ get_or xs 0 0 - 0x80
    → HeadIn w 1 (Map n) xs
unfolding IsHead
map_held w [] n l b t e = absurd (omega arith)
map_held w (x ∷ xs) n l b t e =
    let same : x ≡ 0x80 + n = omega arith in
    record {
      marker = marker_of x;
      starts = record { byte = x; following = []; rest = xs; front = refl; is_marker = refl; is_head = map_head w x n (omega arith) same };
      long = refl;
    }
