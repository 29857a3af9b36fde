use Rattle.std.proofs.Common.{◌≡◌, ◌-◌, subst, refl, false}
use Rattle.rmp_decode.specs.FieldRows.{TakesRow, FailsRow}
use Rattle.rmp_decode.specs.Fields.{given_all}
use Rattle.rmp_decode.proofs.FieldRows.{takes_as}
use Rattle.rmp_decode.proofs.LeftParts.{fails_levels}
use Rattle.rmp_decode.proofs.deserializer.Deserializer.row_ahead.Goals as goal

pub unreachable-requires : goal.unreachable-requires
unreachable-requires g c =
    let t = c.row.ensures.ok c.if-row.true in
    let v = g.F.Fields.full g.C.SerializerConfig.human g.R.ReadSlice.lends t.trees c.row.new.slots t.holds in
    c.in-None.ensures.all g.C.SerializerConfig.human g.R.ReadSlice.lends (given_all t.trees) t.holds v.0 v.1

pub returns-in-Some : goal.returns-in-Some
returns-in-Some g c =
    let fewer : c.inner_room-self.result ≡ c.args.self.now.room - 1 = c.inner_room-self.ensures.list refl in
    let t = subst (λ z. TakesRow g.R.Source (λ ms. g.F.Fields.holds g.C.SerializerConfig.human g.R.ReadSlice.lends (given_all ms)
    c.row.new.slots) g.F.Fields.count (record c.args.self.now { room = z; failed = false }) c.row.new.de) fewer (c.row.ensures.ok c.if-row.true) in
    record {
      ok = record {
        last = c.row.new.de;
        row = takes_as (λ ms h. c.in-Some.ensures.all g.C.SerializerConfig.human g.R.ReadSlice.lends (given_all ms) h) t;
        is = refl;
      };
      err = tt;
    }

pub returns-in-Some-refusal : goal.returns-in-Some-refusal
returns-in-Some-refusal g c =
    let fewer : c.inner_room-self.result ≡ c.args.self.now.room - 1 = c.inner_room-self.ensures.list refl in
    record {
      ok = tt;
      err = record {
        last = record c.row.new.de { levels = c.saturating_add-self.result };
        row = subst (λ z. FailsRow g.R.Source (λ ms. (v : g.row.F.Denot) × g.F.Fields.reads g.C.SerializerConfig.human g.R.ReadSlice.lends (given_all ms) v)
            g.F.Fields.count (record c.args.self.now { room = z; failed = false }) (record c.row.new.de { levels = c.saturating_add-self.result })
            c.in-Some-refusal.e)
            fewer (fails_levels g.R.Source _ c.row.new.de _ c.saturating_add-self.result _ _ (rw c.in-Some-refusal.is at c.row.ensures.err c.if-row.false));
        is = refl;
        refused = rw fewer at (rw c.in-Some-refusal.is at c.row.ensures.refused c.if-row.false);
        memory = λ t. rw c.in-Some-refusal.is at c.row.ensures.memory t c.if-row.false;
      };
    }
