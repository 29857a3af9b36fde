use Rattle.std.proofs.Common.{refl, rules, sym, subst, true, Ok}
use Rattle.rmp_decode.specs.Leaves.{ReadsLeaf}
use Rattle.rmp_decode.specs.declared.deserializer.Kept.TheVariants.{Nothing}
use Rattle.rmp_decode.proofs.HeadTaken.{number_taken}
use Rattle.rmp_decode.proofs.Leaves.{leaf_held}
use Rattle.rmp_decode.proofs.deserializer.Deserializer.offered.Goals as goal

pub returns-in-Some : goal.returns-in-Some
returns-in-Some g c =
    let old = c.args.self.now in
    let mid = record old { kept = Nothing; failed = true } in
    let taken = number_taken g.R.Source old mid c.if-self.false refl refl refl refl refl refl c.in-Number.byte (search rules) c.in-Number.is refl in
    subst (λ b. ReadsLeaf g.R.Source (g.K.Leaf.reads c.args.kind) g.K.Leaf.refused old (record old { kept = Nothing; failed = b }) (Ok c.in-Some.value))
    (sym c.if-self.false) (leaf_held g.R.Source _ _ old mid (_, _) taken.begun _ c.in-Some.ensures)
