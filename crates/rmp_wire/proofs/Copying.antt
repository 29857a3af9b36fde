-- Buffered bytes of a source, copied and then skipped.
use Rattle.std.proofs.Common.{◌≡◌, ◌∙◌, sym, ap, ℕ, ◌+◌, ◌-◌, ◌<◌, ◌≤◌, List, [], ◌++◌, take, length, arith, Option, None, Some, IfSome, drop, subst}
use Rattle.std.proofs.lemmas.List.{length-take-le, take-append-le, take-append-drop, length-append}
use Rattle.std.proofs.Math.Seq.{take-append_seam}
use Rattle.std.specs.Io.KnownBytes.{Consumes}
use Rattle.std.proofs.KnownBytes.{Consumes-nil, Consumes-trans}
use Rattle.rmp_wire.specs.Copying.{Begun, Gains}
use Rattle.rmp_wire.specs.Slices.{Blames}
use Rattle.rmp_wire.specs.declared.slice.SourceFault.{SourceFault}
use Rattle.rmp_wire.specs.declared.slice.SourceFault.TheVariants.{Memory, Io}
use Rattle.rmp_wire.specs.Sources.{AtMostOne, IsFront, Skips}
use Rattle.rmp_wire.proofs.Sources.{short_before}

-- what is skipped are the first of the buffered bytes
skips_front : (old new : Option (List ℕ)) (front : List ℕ) (n : ℕ) → IsFront front old → Skips n old new → n ≤ length front → Consumes old new (take n front)
skips_front None new front n f s l = tt
skips_front (Some xs) None front n f s l = s.taken
skips_front (Some xs) (Some ys) front n f s l =
    let k : take n front ≡ s.bytes =
    sym (take-append-le n front f.0 l) ∙ ap (take n) (sym f.1 ∙ s.taken) ∙ ap (λ k. take k (s.bytes ++ ys)) (sym s.long) ∙ take-append_seam s.bytes ys in
    s.taken ∙ ap (λ t. t ++ ys) (sym k)

pub gained : (old new : Option (List ℕ)) (front held held' : List ℕ) (n most : ℕ) → IsFront front old → Skips n old new → n ≤ length front → 0 < n → n ≤ most
    → held' ≡ held ++ take n front → Gains old new most held held'
gained old new front held held' n most f s l some within e =
    let c : length (take n front) ≡ n = length-take-le n front l in record {
      bytes = take n front;
      some = omega (arith, c, some);
      within = omega (arith, c, within);
      taken = skips_front old new front n f s l;
      following = e;
    }

-- a buffered reader lost the first n of the remaining bytes, which were buffered
pub consumed : (old new : Option (List ℕ)) (front : List ℕ) (n : ℕ) → IsFront front old → n ≤ length front
    → IfSome old (λ xs. n ≤ length front → new ≡ Some (drop n xs))
    → Skips n old new
consumed None new front n f l d = record { bytes = take n front; long = length-take-le n front l; taken = tt }
consumed (Some xs) new front n f l d = record {
  bytes = take n xs;
  long = length-take-le n xs (omega (arith, l, ap length f.1, length-append front f.0));
  taken = subst (λ o. Consumes (Some xs) o (take n xs)) (sym (d l)) (sym (take-append-drop n xs));
}

-- bytes that were pulled into a buffer follow those that were held
pub pulled : (old new : Option (List ℕ)) (buf rest held held' : List ℕ) (n most : ℕ) → n ≤ length buf → 0 < n → n ≤ most → Consumes old new (take n buf)
    → held' ≡ held ++ take n (buf ++ rest) → Gains old new most held held'
pulled old new buf rest held held' n most bound some within taken e =
    let c : length (take n buf) ≡ n = length-take-le n buf bound in record {
      bytes = take n buf;
      some = omega (arith, c, some);
      within = omega (arith, c, within);
      taken = taken;
      following = e ∙ ap (λ t. held ++ t) (take-append-le n buf rest bound);
    }

-- ---- a piece is filled in several steps: held so far are the bytes from old to mid, and the next step goes from mid to new

pub room_left : (held : List ℕ) (len n : ℕ) → n ≡ length held → length held ≤ len → length held + (len - n) ≤ len
room_left held len n e within = omega (arith, e, within)

-- a step that gained bytes
pub held_more : (old mid new : Option (List ℕ)) (held held' : List ℕ) (most len : ℕ) → Consumes old mid held → length held + most ≤ len
    → Gains mid new most held held' → (length held' ≤ len) × Consumes old new held'
held_more old mid new held held' most len taken room more = (
  omega (arith, more.within, ap length more.following, length-append held more.bytes),
  subst (Consumes old new) (sym more.following) (Consumes-trans old mid new held more.bytes taken more.taken),
)

pub grown : (mid new : Option (List ℕ)) (held held' : List ℕ) (most : ℕ) → Gains mid new most held held' → length held < length held'
grown mid new held held' most more = omega (arith, more.some, ap length more.following, length-append held more.bytes)

-- a step that took bytes and failed
pub begun_lost : (old mid new : Option (List ℕ)) (held lost : List ℕ) (most len : ℕ) → Consumes old mid held → length held + most ≤ len
    → length lost ≤ most → Consumes mid new lost → Begun old new len held
begun_lost old mid new held lost most len taken room short more = record {
  lost = lost;
  within = omega (arith, length-append held lost);
  taken = Consumes-trans old mid new held lost taken more;
}

pub begun_whole : (old new : Option (List ℕ)) (held : List ℕ) (len : ℕ) → Consumes old new held → length held ≤ len → Begun old new len held
begun_whole old new held len taken within = begun_lost old new new held [] 0 len taken (omega arith) (omega arith) (Consumes-nil new)

-- the fault of a step is that of the whole
pub blames_before : (e : SourceFault) (old mid : Option (List ℕ)) (held : List ℕ) (before between after most len : ℕ) → Consumes old mid held
    → length held + most ≤ len → between ≡ before → Blames e between after mid most → Blames e before after old len
blames_before Memory old mid held before between after most len taken room same b = b ∙ same
blames_before (Io e) old mid held before between after most len taken room same b = (
  subst (λ z. AtMostOne z after) same b.0,
  λ t.
      let cause = b.1 (t ∙ sym same) in
      (short_before old mid held most len taken room cause.0, cause.1),
)
