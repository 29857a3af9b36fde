-- When no message of any kind can be opened, and what its content makes of it.
use Rattle.std.proofs.Common.{◌≡◌, subst, ℕ, inl, inr, arith, List, Bool, Option, Some, None, IfSome, Err}
use Rattle.rmp_wire.specs.declared.marker.Marker.{Marker}
use Rattle.rmp_wire.specs.declared.source.Source.{Ghosts}
use Rattle.rmp_decode.specs.Anys.{RefusesAny, FailsToOpenAny}
use Rattle.rmp_decode.specs.Exact.{BeginsWith, EndsExactly}
use Rattle.rmp_decode.specs.Law.{ReadsHead}
use Rattle.rmp_decode.specs.Opening.{FailsAtHead, NestsTooDeep}
use Rattle.rmp_decode.specs.Skip.{parts_head}
use Rattle.rmp_decode.specs.State.{left, room_of}
use Rattle.rmp_decode.specs.declared.deserializer.Deserializer.{Deserializer}
use Rattle.rmp_decode.specs.declared.deserializer.heads.Levels.TheVariants.{Parts}
use Rattle.rmp_decode.specs.declared.error.Error.{Error}
use Rattle.rmp_decode.specs.declared.error.Error.TheVariants.{DepthLimitExceeded}
use Rattle.rmp_decode.proofs.Exactness.{no_fault}
use Rattle.rmp_decode.proofs.Opening.{deep_refuses}
use Rattle.rmp_decode.proofs.NothingAccepted.{refuses_none}

any_none : (w : Bool) (room before after : ℕ) (known : Option (List ℕ)) (e : Error) → EndsExactly w before after known e
    → RefusesAny w room before after known e
unfolding RefusesAny EndsExactly
any_none w room before after None e s = (λ _. tt, s.1)
any_none w room before after (Some xs) e s = (λ same. inl (s.0 same), s.1)

any_deep : (w : Bool) (room before after : ℕ) (known : Option (List ℕ)) (m : Marker) (is_map : Bool) (n : ℕ) (e : Error)
    → after ≡ before → IfSome known (BeginsWith w m (parts_head is_map n)) → room ≡ 1 → e ≡ DepthLimitExceeded → RefusesAny w room before after known e
unfolding RefusesAny
any_deep w room before after None m is_map n e f s l is = no_fault before after e f tt
any_deep w room before after (Some xs) m is_map n e f s l is =
    no_fault before after e f (inr (record { is_map = is_map; len = n; marker = m; starts = s }, l, is))

module _ {R C : Type 0} (g : Ghosts R) (old new : Deserializer R C) (e : Error) where
  any_missing : ReadsHead g old new (Err e) → FailsToOpenAny g old new e
  any_missing h = record {
    failed = h.failed;
    stays = h.stays;
    before = h.before;
    err = λ o n k. refuses_none _ _ _ _ (h.err o n k);
    exact = λ o. any_none _
        (room_of old) _ _ (left g old) e (h.ends o);
  }

  -- a list or a map would nest too deep
  any_too_deep : NestsTooDeep g Parts old new e → FailsToOpenAny g old new e
  any_too_deep d =
      let h = d.begun in
      let q = d.level.0 in
      record {
        failed = h.failed;
        stays = h.stays;
        before = λ f. absurd (let o = h.fresh in cc);
        err = λ _ _ _. deep_refuses g Parts old new d.next h d.level (omega (arith, d.deep)) (λ m. Unit {0});
        exact = λ _. any_deep _ (room_of old) _ _ (left g old) d.next.0 q.0 q.1 e h.sound
            (subst (λ t. IfSome (left g old) (BeginsWith old.strict d.next.0 t)) d.level.1 h.marked) d.deep d.limit;
      }

  pub any_fails : FailsAtHead g Parts old new e → FailsToOpenAny g old new e
  any_fails f = elim f [ inl h ↦ any_missing h | inr d ↦ any_too_deep d ]
