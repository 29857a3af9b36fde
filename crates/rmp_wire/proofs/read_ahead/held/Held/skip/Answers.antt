use Rattle.std.proofs.Common.{◌≡◌, ℕ, ◌+◌, ◌-◌, ◌≤◌, List, take, drop, slice_range, sym, ap, ◌∙◌, arith, drop-drop}
use Rattle.std.proofs.lemmas.List.{drop-take}
use Rattle.rmp_wire.proofs.read_ahead.held.Held.skip.Goals as goal

advanced : (xs : List ℕ) (a e n : ℕ) → n ≤ e - a → slice_range xs (a + n) e ≡ drop n (slice_range xs a e)
advanced xs a e n l =
    let whole : n + (e - (a + n)) ≡ e - a = omega (arith, l) in
    ap (take (e - (a + n))) (sym (drop-drop n a xs))
    ∙ sym (drop-take n (e - (a + n)) (drop a xs))
    ∙ ap (λ k. drop n (take k (drop a xs))) whole

pub returns : goal.returns
returns c = let h = c.args.self.now in advanced h.bytes.items h.start h.end c.args.len c.requires
