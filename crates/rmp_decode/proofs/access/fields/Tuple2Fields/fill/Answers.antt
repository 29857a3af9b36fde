use Rattle.std.proofs.Common.{◌≡◌, suc, ◌-◌, arith, inl, rules}
use Rattle.rmp_decode.specs.Refusing.{part_of}
use Rattle.rmp_decode.proofs.Fields.{fills_first, fills_later, first_refused, first_wrong, later_refused, later_wrong, if_some}
use Rattle.rmp_decode.proofs.access.fields.Tuple2Fields.fill.Goals as goal

pub returns-then-place-gt0-clause-ok : goal.returns-then-place-gt0-clause-ok
returns-then-place-gt0-clause-ok g c =
    let z : c.args.place ≡ suc (c.args.place - 1) = omega (arith, c.if-place-gt0.true) in
    λ t. fills_later _ (g.A.Deserialize.reads g.C.SerializerConfig.human g.R.ReadSlice.lends) _ _ _ z _ _ (c.fill.ensures.ok t)

pub returns-then-place-gt0-clause-err : goal.returns-then-place-gt0-clause-err
returns-then-place-gt0-clause-err g c =
    let z : c.args.place ≡ suc (c.args.place - 1) = omega (arith, c.if-place-gt0.true) in
    λ f. if_some c.fill.new.refusal (later_refused g.R.Source (g.A.Deserialize.reads g.C.SerializerConfig.human g.R.ReadSlice.lends)
    (g.B.Fields.holds g.C.SerializerConfig.human g.R.ReadSlice.lends) c.args.map.now c.fill.new.map z _ _
    (g.B.Fields.takes g.C.SerializerConfig.human g.R.ReadSlice.lends)) (c.fill.ensures.err f)

pub returns-in-Ok-clause-ok : goal.returns-in-Ok-clause-ok
returns-in-Ok-clause-ok g c = λ _.
    fills_first _ _ _ (omega (arith, c.if-place-gt0.false)) (g.B.Fields.holds g.C.SerializerConfig.human g.R.ReadSlice.lends) _ _ (search rules)
    c.in-Ok.ensures.ok

pub returns-in-Err-clause-err : goal.returns-in-Err-clause-err
returns-in-Err-clause-err g c = λ _.
    inl (first_refused g.R.Source c.args.map.now c.next_value.new.self (omega (arith, c.if-place-gt0.false))
    (g.B.Fields.takes g.C.SerializerConfig.human g.R.ReadSlice.lends)
    (c.in-Err.ensures.err c.requires.still.sound))

pub returns-then-place-gt0-clause-refused : goal.returns-then-place-gt0-clause-refused
returns-then-place-gt0-clause-refused g c =
    let z : c.args.place ≡ suc (c.args.place - 1) = omega (arith, c.if-place-gt0.true) in
    λ f. if_some c.fill.new.refusal (later_wrong g.R.Source (g.A.Deserialize.reads g.C.SerializerConfig.human g.R.ReadSlice.lends)
    (g.B.Fields.holds g.C.SerializerConfig.human g.R.ReadSlice.lends) c.args.map.now c.fill.new.map z _ _ g.C.SerializerConfig.human g.R.ReadSlice.lends
    (part_of g.A.Deserialize.reads g.A.Deserialize.refuses) g.B.Fields.parts) (c.fill.ensures.refused f)

pub returns-in-Err-clause-refused : goal.returns-in-Err-clause-refused
returns-in-Err-clause-refused g c = λ _.
    first_wrong g.R.Source c.args.map.now c.next_value.new.self (omega (arith, c.if-place-gt0.false)) g.C.SerializerConfig.human g.R.ReadSlice.lends
    (g.A.Deserialize.reads g.C.SerializerConfig.human g.R.ReadSlice.lends) (g.B.Fields.holds g.C.SerializerConfig.human g.R.ReadSlice.lends)
    (part_of g.A.Deserialize.reads g.A.Deserialize.refuses) g.B.Fields.parts _ _ (c.in-Err.ensures.refused c.requires.still.sound)
