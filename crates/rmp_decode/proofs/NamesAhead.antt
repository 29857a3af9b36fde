-- A name that is buffered whole is the text that the remaining bytes begin with.
use Rattle.std.proofs.Common.{◌≡◌, ◌∙◌, sym, ap, subst, refl, arith, ℕ, zero, suc, ◌+◌, ◌<◌, ◌≤◌, List, []}
use Rattle.std.proofs.Common.{◌∷◌, get_or, ◌++◌, length, length-append, length-drop, take, drop, append_assoc, Bor, Bool, true, Option, None, Some}
use Rattle.std.proofs.Math.Seq.{drop-append_seam}
use Rattle.std.proofs.lemmas.Bool.{cond-true, cond-false, le-ltb, lt-ltb}
use Rattle.std.proofs.lemmas.List.{take-append-drop, length-take-le}
use Rattle.std.specs.Io.KnownBytes.{Consumes}
use Rattle.rmp_wire.specs.declared.head.Head.{Head}
use Rattle.rmp_wire.specs.declared.head.Head.TheVariants.{Text}
use Rattle.rmp_wire.specs.declared.source.Source.{Ghosts}
use Rattle.rmp_wire.specs.Canonical.{heads_of}
use Rattle.rmp_wire.specs.Msg.{Msg, text}
use Rattle.rmp_wire.specs.Sources.{IsFront, Skips}
use Rattle.rmp_wire.specs.Spelling.{IsBytes}
use Rattle.rmp_decode.specs.BufferedHeads.{HeadIn}
use Rattle.rmp_decode.specs.Maps.{TakesKey, map_inner}
use Rattle.rmp_decode.specs.Names.{bytes_of, place_of, IsName}
use Rattle.rmp_decode.specs.NamesAhead.{below, IsBelow, TextIn}
use Rattle.rmp_decode.specs.Parts.{TakesPart}
use Rattle.rmp_decode.specs.State.{faults_of, Stays}
use Rattle.rmp_decode.specs.VariantNames.{IsPlace}
use Rattle.rmp_decode.specs.declared.access.map.MapAccess.{MapAccess}
use Rattle.rmp_decode.specs.declared.deserializer.Deserializer.{Deserializer}
use Rattle.rmp_decode.specs.declared.deserializer.Kept.TheVariants.{Nothing}
use Rattle.rmp_decode.proofs.Contents.{bare}
use Rattle.rmp_decode.proofs.ContentErrors.{same_front}
use Rattle.rmp_decode.proofs.Names.{length_bytes}
use Rattle.rmp_decode.proofs.VariantNames.{place_below_names}

-- ---- bytes

pub are_all : (xs : List ℕ) → ((i : ℕ) → get_or xs i 0 < 256) → IsBytes xs
are_all [] f = tt
are_all (x ∷ xs) f = (f 0, are_all xs (λ i. f (suc i)))

pub bytes_drop : (n : ℕ) (xs : List ℕ) → IsBytes xs → IsBytes (drop n xs)
bytes_drop zero xs b = b
bytes_drop (suc n) [] b = tt
bytes_drop (suc n) (x ∷ xs) b = bytes_drop n xs b.1

pub bytes_take : (n : ℕ) (xs : List ℕ) → IsBytes xs → IsBytes (take n xs)
bytes_take zero xs b = tt
bytes_take (suc n) [] b = tt
bytes_take (suc n) (x ∷ xs) b = (b.0, bytes_take n xs b.1)

-- ---- a text at the front

after_head : (w : Bool) (n : ℕ) (h : Head) (xs : List ℕ) → (s : HeadIn w n h xs) → drop n xs ≡ s.starts.rest
after_head w n h xs s =
    let at = s.starts in
    ap (drop n) at.front ∙ ap (λ k. drop k ((at.byte ∷ at.following) ++ at.rest)) (sym s.long) ∙ drop-append_seam (at.byte ∷ at.following) at.rest

pub text_in : (w : Bool) (n len : ℕ) (P : List ℕ → Type 0) (xs : List ℕ) → HeadIn w n (Text len) xs → n + len ≤ length xs
    → IsBytes (take len (drop n xs)) → P (take len (drop n xs)) → TextIn w (n + len) P xs
text_in w n len P xs s l b p =
    let at = s.starts in
    let head : List ℕ = at.byte ∷ at.following in
    let bytes : List ℕ = take len (drop n xs) in
    let long : length bytes ≡ len = length-take-le len (drop n xs) (omega (arith, length-drop n xs)) in
    record {
      head = head;
      bytes = bytes;
      following = drop len (drop n xs);
      is_head = subst (λ k. heads_of w (Text k) head) (sym long) at.is_head;
      are_bytes = b;
      long = length-append head bytes ∙ omega (arith, s.long, long);
      begins = at.front ∙ ap (λ t. head ++ t) (sym (after_head w n (Text len) xs s) ∙ sym (take-append-drop len (drop n xs)))
          ∙ sym (append_assoc head bytes (drop len (drop n xs)));
      holds = p;
    }

-- ---- it is taken

text_consumed : (w : Bool) (n : ℕ) (P : List ℕ → Type 0) (front : List ℕ) (known k : Option (List ℕ)) → (t : TextIn w n P front)
    → IsFront front known → Skips n known k → Consumes known k (t.head ++ t.bytes)
text_consumed w n P front None k t f s = tt
text_consumed w n P front (Some xs) None t f s = absurd s.taken
text_consumed w n P front (Some xs) (Some ys) t f s =
    let all : List ℕ = t.head ++ t.bytes in
    let split : xs ≡ all ++ (t.following ++ f.0) = f.1 ∙ ap (λ z. z ++ f.0) t.begins ∙ append_assoc all t.following f.0 in
    let same : s.bytes ≡ all = same_front s.bytes all ys (t.following ++ f.0) (s.long ∙ sym t.long) (sym s.taken ∙ split) in
    subst (λ b. xs ≡ b ++ ys) same s.taken

pub name_taken : {R C : Type 0} (g : Ghosts R) (names : List (Bor (List ℕ))) (old new : Deserializer R C) (n place : ℕ) (front : List ℕ) (inner : ℕ)
    → 0 < inner → old.kept ≡ Nothing → new.kept ≡ Nothing → new.failed ≡ true → Stays g old new → faults_of g new ≡ faults_of g old
    → IsFront front (g.ahead old.reader) → TextIn old.strict n (λ s. below (length names) place ≡ place_of (bytes_of names) s) front
    → Skips n (g.ahead old.reader) (g.ahead new.reader) → TakesPart g (IsBelow (bytes_of names)) inner old new place
name_taken g names old new n place front inner l kept clean marked stays sound f t s = record {
  bytes = t.head ++ t.bytes;
  tree = text t.bytes;
  takes = rw (bare g old kept, bare g new clean) (text_consumed old.strict n _ front (g.ahead old.reader) (g.ahead new.reader) t f s);
  goes_on = record { more = t.head ++ t.bytes; whole = rw kept refl };
  spelled = record { first = t.head; second = t.bytes; is_first = t.is_head; is_second = (refl, t.are_bytes); is_whole = refl };
  fits = l;
  value = ap (λ (o : Option ℕ). Some o) (sym t.holds ∙ ap (λ k. below k place) (sym (length_bytes names)));
  stays = stays;
  faults_same = sound;
  clean = clean;
  marked = marked;
}

-- ---- what a number below the count of the names selects

pub below_named : (many n : ℕ) → n < many → below many n ≡ Some n
below_named many n l = cond-true _ _ _ (lt-ltb n many l)

pub below_unnamed : (many n : ℕ) → many ≤ n → below many n ≡ None
below_unnamed many n l = cond-false _ _ _ (le-ltb n many l)

-- a name's place is one of them
pub place_within : (names : List (Bor (List ℕ))) (s : List ℕ) (n : ℕ) → Some n ≡ place_of (bytes_of names) s → n < length names
place_within names s n e = place_below_names names (text s) n (ap (λ (o : Option ℕ). Some o) (sym e))

-- the same part, read otherwise
pub part_read : {R C V W : Type 0} (g : Ghosts R) (P : Msg → V → Type 0) (Q : Msg → W → Type 0) (inner : ℕ) (old new : Deserializer R C) (v : V) (u : W)
    → ((m : Msg) → P m v → Q m u) → TakesPart g P inner old new v → TakesPart g Q inner old new u
part_read g P Q inner old new v u f t = record {
  bytes = t.bytes;
  tree = t.tree;
  takes = t.takes;
  goes_on = t.goes_on;
  spelled = t.spelled;
  fits = t.fits;
  value = f t.tree t.value;
  stays = t.stays;
  faults_same = t.faults_same;
  clean = t.clean;
  marked = t.marked;
}

pub part_named : {R C : Type 0} (g : Ghosts R) (names : List (Bor (List ℕ))) (inner : ℕ) (old new : Deserializer R C) (n : ℕ) (o : Option ℕ)
    → below (length names) n ≡ o → TakesPart g (IsBelow (bytes_of names)) inner old new n → TakesPart g (IsName (bytes_of names)) inner old new o
part_named g names inner old new n o e =
    let same : below (length (bytes_of names)) n ≡ o = ap (λ k. below k n) (length_bytes names) ∙ e in
    part_read g (IsBelow (bytes_of names)) (IsName (bytes_of names)) inner old new n o (λ m h. h ∙ ap (λ (z : Option ℕ). Some z) same)

pub part_placed : {R C : Type 0} (g : Ghosts R) (names : List (Bor (List ℕ))) (inner : ℕ) (old new : Deserializer R C) (n : ℕ) → n < length names
    → TakesPart g (IsBelow (bytes_of names)) inner old new n → TakesPart g (IsPlace (bytes_of names)) inner old new n
part_placed g names inner old new n l =
    let same : below (length (bytes_of names)) n ≡ Some n = ap (λ k. below k n) (length_bytes names) ∙ below_named (length names) n l in
    part_read g (IsBelow (bytes_of names)) (IsPlace (bytes_of names)) inner old new n n (λ m h. h ∙ ap (λ (z : Option ℕ). Some z) same)

pub part_below : {R C : Type 0} (g : Ghosts R) (names : List (Bor (List ℕ))) (inner : ℕ) (old new : Deserializer R C) (n : ℕ)
    → TakesPart g (IsName (bytes_of names)) inner old new (Some n) → TakesPart g (IsBelow (bytes_of names)) inner old new n
part_below g names inner old new n =
    part_read g (IsName (bytes_of names)) (IsBelow (bytes_of names)) inner old new (Some n) n (λ m h.
    let same : below (length (bytes_of names)) n ≡ Some n = ap (λ k. below k n) (length_bytes names)
    ∙ below_named (length names) n (place_below_names names m n h) in
    h ∙ ap (λ (z : Option ℕ). Some z) (sym same))

-- no name is at the place after them all
pub part_past : {R C : Type 0} (g : Ghosts R) (names : List (Bor (List ℕ))) (inner : ℕ) (old new : Deserializer R C)
    → TakesPart g (IsName (bytes_of names)) inner old new None → TakesPart g (IsBelow (bytes_of names)) inner old new (length names)
part_past g names inner old new =
    let same : below (length (bytes_of names)) (length names) ≡ None =
    ap (λ k. below k (length names)) (length_bytes names) ∙ below_unnamed (length names) (length names) (omega arith) in
    part_read g (IsName (bytes_of names)) (IsBelow (bytes_of names)) inner old new None (length names) (λ m h. h ∙ ap (λ (z : Option ℕ). Some z) (sym same))

pub key_named_by : {R C : Type 0} (g : Ghosts R) (names : List (Bor (List ℕ))) (old new : MapAccess R C) (n : ℕ) (o : Option ℕ)
    → below (length names) n ≡ o → TakesKey g (IsBelow (bytes_of names)) old new n → TakesKey g (IsName (bytes_of names)) old new o
key_named_by g names old new n o e k = record {
  part = part_named g names (map_inner old) old.de.now new.de.now n o e k.part;
  fewer = k.fewer;
  owes = k.owes;
  count = k.count;
  inner = k.inner;
  still = k.still;
}
