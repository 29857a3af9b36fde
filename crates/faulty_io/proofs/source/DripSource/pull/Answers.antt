use Rattle.std.proofs.Common.{◌≡◌, ap, sym, ℕ, ◌-◌, ◌<◌, ◌≤◌, List, [], ◌∷◌, ◌++◌, length, take, drop, slice_set, slice_index_or, arith, rules}
use Rattle.std.proofs.lemmas.List.{take_all}
use Rattle.faulty_io.proofs.source.DripSource.pull.Goals as goal

one_moved : (s b : List ℕ) → 0 < length b → 1 ≤ length s → s ≡ take 1 (slice_set b 0 (slice_index_or s 0 0)) ++ take (length s - 1) (drop 1 s)
one_moved [] b h l = absurd (omega arith)
one_moved (x ∷ s) [] h l = absurd (omega arith)
one_moved (x ∷ s) (y ∷ b) h l = ap (λ t. x ∷ t) (sym (take_all (length (x ∷ s) - 1) s (omega arith)))

pub returns-in-len1-up-clause-bytes : goal.returns-in-len1-up-clause-bytes
returns-in-len1-up-clause-bytes c = one_moved c.args.self.now.rest.now c.args.buf.now (search rules) c.in-len1-up.len_at_least
