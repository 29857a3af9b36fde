-- The payload of a text that an access to any kind reads.
use Rattle.std.proofs.Common.{◌≡◌, ◌∙◌, sym, ap, subst, refl, ℕ, arith, List, length, Option, None, Some}
use Rattle.std.proofs.lemmas.List.{length-append}
use Rattle.std.specs.Io.KnownBytes.{Consumes}
use Rattle.std.specs.Prelude.{IsUtf8}
use Rattle.std.specs.declared.str.Utf8Error.{Utf8Error}
use Rattle.rmp_wire.specs.declared.head.Head.TheVariants.{Text}
use Rattle.rmp_wire.specs.declared.source.Source.{Ghosts}
use Rattle.rmp_wire.specs.Sources.{IsShort}
use Rattle.rmp_decode.specs.Anys.{FailsText, StartsWithNoText}
use Rattle.rmp_decode.specs.Content.{not_string}
use Rattle.rmp_decode.specs.Exact.{IsDataEnd, IsUtf8Error, TellsFault}
use Rattle.rmp_decode.specs.Law.{Explains}
use Rattle.rmp_decode.specs.State.{Stays}
use Rattle.rmp_decode.specs.declared.deserializer.Deserializer.{Deserializer}
use Rattle.rmp_decode.specs.declared.error.Error.{Error}
use Rattle.rmp_decode.specs.declared.error.Error.TheVariants as errors
use Rattle.rmp_decode.proofs.ContentErrors.{same_front, piece_cut, piece_whole}
use Rattle.rmp_decode.proofs.Exactness.{none_told}

-- the bytes that are there aren't UTF-8
pub no_text : (n : ℕ) (known k : Option (List ℕ)) (bytes : List ℕ) → Consumes known k bytes → length bytes ≡ n → (IsUtf8 bytes → ⊥) → StartsWithNoText n known
no_text n None k bytes c l f = tt
no_text n (Some xs) None bytes c l f = absurd c
no_text n (Some xs) (Some ys) bytes c l f = λ s r e m u. f (subst IsUtf8 (same_front s bytes r ys (m ∙ sym l) (sym e ∙ c)) u)

-- an end of the input says nothing of UTF-8
pub end_no_text : (e : Error) → IsDataEnd e → IsUtf8Error e → ⊥
end_no_text (errors.InvalidMarkerRead fault) d u = u
end_no_text (errors.InvalidDataRead fault) d u = u
end_no_text (errors.TypeMismatch marker) d u = u
end_no_text errors.OutOfRange d u = u
end_no_text (errors.LengthMismatch len) d u = u
end_no_text (errors.Uncategorized words) d u = u
end_no_text (errors.Syntax words) d u = u
end_no_text (errors.Utf8Error why) d u = d
end_no_text errors.DepthLimitExceeded d u = u
end_no_text errors.OutOfMemory d u = u
end_no_text errors.NotCanonical d u = u

-- too few bytes are there
pub short_text : (n : ℕ) (known : Option (List ℕ)) → IsShort n known → StartsWithNoText n known
short_text n None h = tt
short_text n (Some xs) h = λ s r e m u. let long = ap length e ∙ length-append s r in omega (arith, long, m, h)

-- ---- what happened at the payload of a text, each once

module _ {R C : Type 0} (g : Ghosts R) (old : Deserializer R C) (last : R) (n : ℕ) (place : g.place last ≡ g.place old.reader) where
  stays : Stays g old (record old { reader = last })
  stays = record { config = refl; room = refl; limit = refl; strict = refl; place = place }

  -- too little of it was there, or the source failed
  pub text_short : (e : Error) → Explains e (g.faults old.reader) (g.faults last) (IsShort n (g.ahead old.reader))
      → Explains e (g.faults old.reader) (g.faults last) (IsDataEnd e) → TellsFault (g.faults old.reader) (g.faults last) e
      → FailsText g n old (record old { reader = last }) e
  text_short e s d f = record {
    failed = refl;
    stays = stays;
    err = λ o k. short_text n _ (s o k);
    exact = λ o k. piece_cut n (not_string (Text n)) _ _ (s o k) (d o k);
    fault = f;
    taken = λ o k u. absurd (end_no_text e (d o k) u);
  }

  -- it isn't UTF-8
  pub text_invalid : (s : List ℕ) (why : Utf8Error) → length s ≡ n → Consumes (g.ahead old.reader) (g.ahead last) s → g.faults last ≡ g.faults old.reader
      → (IsUtf8 s → ⊥) → FailsText g n old (record old { reader = last }) (errors.Utf8Error why)
  text_invalid s why l c f u = record {
    failed = refl;
    stays = stays;
    err = λ _ _. no_text n _ _ s c l u;
    exact = λ _ _. piece_whole n (not_string (Text n)) _ _ s _ c l (u, tt);
    fault = none_told _ _ _ f;
    taken = λ _ _ _. record { bytes = s; long = l; taken = c };
  }
