use Rattle.std.proofs.Common.{false, rules, subst, sym}
use Rattle.rmp_decode.specs.Readers.{ReadsSource, source_setting}
use Rattle.rmp_decode.proofs.SourceReads.{read_from, refused_by}
use Rattle.rmp_decode.proofs.de.ByTypeReadMoved.read.Goals as goal

pub returns : goal.returns
returns g c =
    let d = c.new-de.ensures in
    let v = c.deserialize-value in
    subst (λ z. ReadsSource g.R.Source (g.T.Deserialize.takes_memory false) (g.T.Deserialize.reads false false) (g.T.Deserialize.refuses source_setting)
    c.args.source z v.result) (sym c.into_inner-source.ensures) (record {
      ok = read_from g.R.Source _ c.new-de.result v.new.de c.args.source d.new.kept d.source d.new.room d.new.lenient v.result v.ensures.law;
      err = refused_by g.R.Source _ c.new-de.result v.new.de c.args.source d.new.kept d.source d.new.room d.new.lenient g.T.Deserialize.refuses v.result
          d.new.ready v.ensures.law v.ensures.refused;
      place = search rules;
      memory = v.ensures.memory;
    })
