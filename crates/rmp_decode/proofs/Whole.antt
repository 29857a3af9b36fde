-- What a read from the beginning of known bytes says.
use Rattle.std.proofs.Common.{◌≡◌, ◌∙◌, ap, subst, Bool, true, false, ℕ, List, ◌++◌, Option, None, Some, Result, IfErr}
use Rattle.std.specs.Io.KnownBytes.{Consumes, prepend_known}
use Rattle.rmp_wire.specs.declared.source.Source.{Ghosts}
use Rattle.rmp_wire.specs.Msg.{Msg}
use Rattle.rmp_wire.specs.Canonical.{SpellsAs}
use Rattle.rmp_decode.specs.Law.{Begins, Refuses, Reads}
use Rattle.rmp_decode.specs.Refusing.{Setting, Refusals, setting_of, slice_setting}
use Rattle.rmp_decode.specs.State.{left, room_of, kept_bytes}
use Rattle.rmp_decode.specs.declared.deserializer.Deserializer.{Deserializer}
use Rattle.rmp_decode.specs.declared.deserializer.Kept.{Kept}
use Rattle.rmp_decode.specs.declared.deserializer.Kept.TheVariants.{Nothing}
use Rattle.rmp_decode.specs.declared.error.Error.{Error}

-- with nothing kept back, all that is known ahead is left
pub known_left : (k : Kept) (ys xs : List ℕ) → k ≡ Nothing → ys ≡ xs → prepend_known (kept_bytes k) (Some ys) ≡ Some xs
known_left k ys xs e f = ap (λ z. prepend_known (kept_bytes z) (Some ys)) e ∙ ap Some f

taken_front : (xs : List ℕ) (known k : Option (List ℕ)) (b : List ℕ) → known ≡ Some xs → Consumes known k b → (ys : List ℕ) × (xs ≡ b ++ ys)
taken_front xs None k b e c = absurd (cc)
taken_front xs (Some zs) None b e c = absurd c
taken_front xs (Some zs) (Some ys) b e c = let same : xs ≡ zs = cc in (ys, same ∙ c)

pub begins_from : {R C V : Type 0} (g : Ghosts R) (reads : Msg → V → Type 0) (old new : Deserializer R C) (v : V) (room : ℕ) (xs : List ℕ) (strict : Bool)
    → left g old ≡ Some xs → room_of old ≡ room → old.strict ≡ strict → Reads g reads old new v → Begins (SpellsAs strict) (λ m. reads m v) room xs
begins_from g reads old new v room xs strict e w s r =
    let t = taken_front xs (left g old) (left g new) r.bytes e r.takes in
    record {
      bytes = r.bytes;
      rest = t.0;
      tree = r.tree;
      front = t.1;
      spelled = subst (λ z. SpellsAs z r.bytes r.tree) s r.spelled;
      fits = rw w at r.fits;
      holds = r.value;
    }

pub none_begins : (old strict : Bool) (P : Msg → Type 0) (room room' : ℕ) (known : Option (List ℕ)) (xs : List ℕ) → old ≡ strict → room ≡ room'
    → known ≡ Some xs → Refuses (SpellsAs old) P room known → Begins (SpellsAs strict) P room' xs → ⊥
unfolding Refuses
none_begins old strict P room room' known xs q e k r = let s = rw (q, e, k) at r in s

pub refused_from : {R C V : Type 0} (old : Deserializer R C) (result : Result V Error) (P : Setting
    → Refusals) (before after : ℕ) (known : Option (List ℕ)) (xs : List ℕ) (strict : Bool) → known ≡ Some xs → room_of old ≡ 1024 → old.strict ≡ strict
    → IfErr result (P (setting_of false true old) before after known) → IfErr result (P (slice_setting strict) before after (Some xs))
refused_from old result P before after known xs strict e w s r =
    let r1 = subst (λ z. IfErr result (P (setting_of false true old) before after z)) e r in
    let r2 = subst (λ z. IfErr result (P (record { human = false; lends = true; strict = old.strict; room = z }) before after (Some xs))) w r1 in
    subst (λ z. IfErr result (P (record { human = false; lends = true; strict = z; room = 1024 }) before after (Some xs))) s r2
