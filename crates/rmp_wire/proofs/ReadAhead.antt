-- Bytes that were read ahead, before those that a reader tells.
use Rattle.std.proofs.Common.{◌∙◌, sym, ap, ℕ, ◌≤◌, List, ◌++◌, take, drop, length, Option, None, Some, append_assoc}
use Rattle.std.proofs.lemmas.List.{length-take-le, take-append-drop}
use Rattle.std.specs.Io.KnownBytes.{prepend_known}
use Rattle.rmp_wire.specs.Sources.{Skips}

-- the first n of them are taken
pub skipped_held : (held : List ℕ) (told : Option (List ℕ)) (n : ℕ) → n ≤ length held → Skips n (prepend_known held told) (prepend_known (drop n held) told)
skipped_held held None n l = record { bytes = take n held; long = length-take-le n held l; taken = tt }
skipped_held held (Some xs) n l = record {
  bytes = take n held;
  long = length-take-le n held l;
  taken = ap (λ t. t ++ xs) (sym (take-append-drop n held)) ∙ append_assoc (take n held) (drop n held) xs;
}
