-- What was pulled into a buffer so far, and what a call took when it stopped.
use Rattle.std.proofs.Common.{◌≡◌, ◌≢◌, ◌⊎◌, inl, inr, ℕ, ◌+◌, ◌≤◌, ◌<◌, List, [], ◌++◌, Option, None, Some, length, take, drop, ap, ◌∙◌, subst, sym, arith}
use Rattle.std.proofs.Math.Seq.{take-add}
use Rattle.std.proofs.lemmas.List.{length-take-le, take-append-le, drop_at, length-append, append-nil}
use Rattle.std.proofs.lemmas.Slice.{take-put_mid_below}
use Rattle.std.specs.Io.KnownBytes.{Consumes, Keeps, IsAtEnd}
use Rattle.std.proofs.KnownBytes.{Consumes-trans, Consumes-kept}
use borrow.Rule.Slice.PartMut.{put_mid, post_of}
use Rattle.rmp_wire.specs.Sources.{IsShort, TakesShort}
use Rattle.rmp_wire.specs.Faults.{fault_kind}
use Rattle.rmp_wire.specs.Sinks.{next_fault}
use Rattle.rmp_wire.proofs.Told.{next_differs}
use Rattle.std.specs.declared.io.ErrorKind.TheVariants.{UnexpectedEof}
use Rattle.rmp_wire.specs.declared.error.IoFault.{IoFault}

take-put_mid_more : (a k n : ℕ) (xs ys : List ℕ) → a ≤ length xs → n ≤ length ys → take (a + n) (put_mid a k xs ys) ≡ take a xs ++ take n ys
take-put_mid_more a k n xs ys within fits =
    take-add a n (put_mid a k xs ys) ∙ ap (λ t. t ++ take n (drop a (put_mid a k xs ys))) (take-put_mid_below a k xs ys a (omega arith) within)
    ∙ ap (λ t. take a xs ++ take n t) (drop_at (take a xs) (ys ++ post_of a k xs) a (length-take-le a xs within))
    ∙ ap (λ t. take a xs ++ t) (take-append-le n ys (post_of a k xs) fits)

-- n more bytes were pulled into the buffer after the first a
pub pulled_more : (old mid new : Option (List ℕ)) (a k n : ℕ) (xs ys : List ℕ) → a ≤ length xs → n ≤ length ys → Consumes old mid (take a xs)
    → Consumes mid new (take n ys)
    → Consumes old new (take (a + n) (put_mid a k xs ys))
pulled_more old mid new a k n xs ys within fits first more = subst (Consumes old new) (sym (take-put_mid_more a k n xs ys within fits))
    (Consumes-trans old mid new _ _ first more)

-- the source had a fault before n bytes were taken
pub stopped_short : (old mid new : Option (List ℕ)) (bytes : List ℕ) (n before between after : ℕ) (fault : IoFault) → Consumes old mid bytes
    → length bytes < n → Keeps mid new → between ≡ before → after ≡ next_fault between
    → TakesShort n old new before after fault
stopped_short old mid new bytes n before between after fault taken short kept same counted = let differs : after ≢ between = next_differs between after counted in record {
  counts = inr (counted ∙ ap next_fault same);
  part = record { part = bytes; short = short; taken = Consumes-kept old mid new bytes taken kept };
  short = λ e. absurd (differs (e ∙ sym same));
  rest = λ e. absurd (differs (e ∙ sym same));
  end = λ e. absurd (differs (e ∙ sym same));
}

-- at the end of the input, any number of bytes is too many
pub short_at_end : (old : Option (List ℕ)) (n : ℕ) → IsAtEnd old → 0 < n → IsShort n old
short_at_end None n e some = tt
short_at_end (Some xs) n e some = omega (arith, ap length e)

-- too few bytes after those that were taken are too few of them all
pub short_before : (old mid : Option (List ℕ)) (held : List ℕ) (most len : ℕ) → Consumes old mid held → length held + most ≤ len → IsShort most mid
    → IsShort len old
short_before None mid held most len taken room short = tt
short_before (Some xs) None held most len taken room short = absurd taken
short_before (Some xs) (Some ys) held most len taken room short = omega (arith, ap length taken, length-append held ys)

ended : (old mid new : Option (List ℕ)) (bytes : List ℕ) → Consumes old mid bytes → IsAtEnd mid → Consumes mid new [] → Keeps old new ⊎ IsAtEnd new
ended None mid new bytes taken end none = inl tt
ended (Some xs) None new bytes taken end none = absurd taken
ended (Some xs) (Some ys) None bytes taken end none = absurd none
ended (Some xs) (Some ys) (Some zs) bytes taken end none = inr (sym none ∙ end)

-- the input ended before n bytes were taken
pub stopped_at_end : (old mid new : Option (List ℕ)) (bytes : List ℕ) (n before after : ℕ) (fault : IoFault) → Consumes old mid bytes → length bytes < n
    → IsAtEnd mid → Consumes mid new [] → after ≡ before → fault_kind fault ≡ UnexpectedEof → TakesShort n old new before after fault
stopped_at_end old mid new bytes n before after fault taken short end none same kind = record {
  counts = inl same;
  part = record { part = bytes; short = short; taken = subst (Consumes old new) (append-nil bytes) (Consumes-trans old mid new bytes [] taken none) };
  short = λ e. short_before old mid bytes 1 n taken (omega (arith, short)) (short_at_end mid 1 end (omega arith));
  rest = λ e. ended old mid new bytes taken end none;
  end = λ e. kind;
}
