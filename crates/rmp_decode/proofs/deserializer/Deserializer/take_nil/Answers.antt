use Rattle.std.proofs.Common.{refl}
use Rattle.rmp_decode.proofs.Options.{nil_next, nil_kept, sees_next, sees_kept, sees_none, number_other}
use Rattle.rmp_decode.proofs.deserializer.Deserializer.take_nil.Goals as goal

pub returns-then-byte : goal.returns-then-byte
returns-then-byte g c = nil_next g.R.Source c.args.self.now _ c.if-self.false c.if-self.false
    (record { config = refl; room = refl; limit = refl; strict = refl; place = c.in-Ok.ensures.reads.place }) c.in-Ok.ensures.reads.sound c.in-Ok.marker _
    c.in-Nothing.is
    c.in-Nothing.is c.in-Ok.ensures.reads.ok c.to_u8-byte.ensures c.if-byte.true

pub returns-then-byte-2 : goal.returns-then-byte-2
returns-then-byte-2 g c = nil_kept g.R.Source c.args.self.now _ c.if-self.false c.if-self.false
    (record { config = refl; room = refl; limit = refl; strict = refl; place = refl }) refl c.in-First.byte c.in-First.is c.if-byte-2.true refl refl

pub returns-else-byte : goal.returns-else-byte
returns-else-byte g c = (
  c.if-self.false,
  sees_next g.R.Source c.args.self.now _ c.if-self.false c.if-self.false
      (record { config = refl; room = refl; limit = refl; strict = refl; place = c.in-Ok.ensures.reads.place }) c.in-Ok.ensures.reads.sound c.in-Ok.marker
      c.to_u8-byte.result c.in-Nothing.is refl c.in-Ok.ensures.reads.ok c.to_u8-byte.ensures c.if-byte.false,
)

pub returns-in-Err : goal.returns-in-Err
returns-in-Err g c = sees_none g.R.Source c.args.self.now _ c.in-Err.e.0 c.if-self.false refl c.in-Nothing.is
    (record { config = refl; room = refl; limit = refl; strict = refl; place = c.in-Err.ensures.reads.place }) c.in-Err.ensures.reads.err

pub returns-in-Number : goal.returns-in-Number
returns-in-Number g c = (c.if-self.false, sees_kept g.R.Source c.args.self.now c.if-self.false (number_other _ c.in-Number.field-0 c.in-Number.is))
