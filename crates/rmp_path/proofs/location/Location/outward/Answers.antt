use Rattle.std.proofs.Common.{◌≡◌, ◌∙◌, ◌-◌, refl, subst, length, MatchOption}
use Rattle.std.specs.List.{slice_get}
use Rattle.rmp_path.proofs.location.Location.outward.Goals as goal
use Rattle.rmp_path.proofs.location.Location.outward.Goals.{in-Some, in-None}

pub returns : goal.returns
returns c = record {
  turns = c.truncate.ensures.items;
  message = refl;
  place = subst (λ xs. MatchOption (slice_get xs (length xs - 1)) (c.match-last.place ≡ c.args.self.message) (λ t. c.match-last.place ≡ t.start))
      c.deref.ensures.value
      (subst (λ o. MatchOption o (c.match-last.place ≡ c.args.self.message) (λ t. c.match-last.place ≡ t.start)) c.last.ensures.value
      (elim c.match-last.branch [
        | in-Some w ↦ rw w.in-Some.is (w.place-is ∙ w.start-place.ensures)
        | in-None w ↦ rw w.in-None.is w.place-is
      ]));
}
