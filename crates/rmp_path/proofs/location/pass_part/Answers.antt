use Rattle.std.proofs.Common.{refl, sym, subst, ◌∷◌, ◌++◌, []}
use Rattle.rmp_path.specs.Places.{PartEnds, Leads}
use Rattle.rmp_path.proofs.Turning.{outer_ends, part_follows}
use Rattle.rmp_path.proofs.location.pass_part.Goals as goal

pub returns-in-Some-next : goal.returns-in-Some-next
returns-in-Some-next c = λ from rest base p.
    let q = subst (λ z. PartEnds from base z rest c.args.place) c.in-Some.ensures.items (c.ends.invariant from rest base p) in
    let n = c.in-Some-next.ensures.some in
    let l = part_follows from base c.pop.new.self.items c.in-Some.last rest c.args.place n.1 q in
    subst (λ z. Leads from base z rest c.args.place) (sym c.in_ok-push.ensures.items)
    (subst (λ z. Leads from base (c.pop.new.self.items ++ z ∷ []) rest c.args.place) (sym n.0) l)

pub ends-preserved : goal.ends-preserved
ends-preserved c = λ from rest base p.
    let q = subst (λ z. PartEnds from base z rest c.args.place) c.in-Some.ensures.items (c.ends.invariant from rest base p) in
    outer_ends from base c.pop.new.self.items c.in-Some.last rest c.args.place (c.in_default-next.ensures.none refl) q
