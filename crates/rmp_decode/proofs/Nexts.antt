-- What the methods that read the next key, place or element rest on, whatever it is read as.
use Rattle.std.proofs.Common.{◌≡◌, ◌<◌, ◌+◌, ◌-◌, ℕ, Bool, MutBor, arith, refl, rules, true, false, max}
use Rattle.rmp_wire.specs.Msg.{Msg}
use Rattle.rmp_wire.specs.declared.source.Source.{Ghosts}
use Rattle.rmp_decode.specs.Maps.{TakesKey, map_inner}
use Rattle.rmp_decode.specs.Parts.{TakesPart}
use Rattle.rmp_decode.specs.declared.access.map.MapAccess.{MapAccess}
use Rattle.rmp_decode.specs.declared.deserializer.Deserializer.{Deserializer}
use Rattle.rmp_decode.specs.declared.error.Error.TheVariants.{Uncategorized, OutOfMemory}
use Rattle.rmp_decode.specs.declared.text.Text.TheVariants.{FailedBefore}

pub clash : {A : Type 0} (b : Bool) → b ≡ true → b ≡ false → A
clash b t f = absurd (cc)

pub some_left : (n : ℕ) → (n ≡ 0 → ⊥) → 0 < n
some_left n h = omega (arith, h)

pub none_left : {A : Type 0} (n : ℕ) → n ≡ 0 → 0 < n → A
none_left n z h = absurd (omega (arith, z, h))

pub one_fewer : (n : ℕ) → 0 < n → n ≡ n - 1 + 1
one_fewer n h = omega (arith, h)

pub inner_some : (n : ℕ) → 0 < max 1 n
inner_some n = omega arith

pub not_memory : Uncategorized FailedBefore ≡ OutOfMemory → ⊥
not_memory = search rules

-- the key's pair is begun: one fewer is left, and its value is owed
pub key_taken : {R C K : Type 0} (g : Ghosts R) (reads : Msg → K → Type 0) (old : MapAccess R C) (de : MutBor (Deserializer R C)) (s : Bool) (k : K)
    → s ≡ true → 0 < old.left → TakesPart g reads (map_inner old) old.de.now de.now k
    → TakesKey g reads old (record old { de = de; left = old.left - 1; owes = true; sound = s }) k
key_taken g reads old de s k sound more t = record {
  part = t;
  fewer = one_fewer old.left more;
  owes = refl;
  count = refl;
  inner = refl;
  still = record { sound = sound; marked = t.marked; clean = t.clean };
}
