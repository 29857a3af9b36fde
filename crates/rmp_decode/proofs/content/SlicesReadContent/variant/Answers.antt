use Rattle.std.proofs.Common.{rules, sym}
use Rattle.rmp_decode.specs.Kinds.{raw_head}
use Rattle.rmp_decode.specs.Names.{bytes_of}
use Rattle.rmp_decode.specs.VariantNames.{unknown_name}
use Rattle.rmp_decode.proofs.ContentErrors.{piece_whole, piece_blamed, blamed_tells}
use Rattle.rmp_decode.proofs.VariantNames.{name_blamed, no_name_taken, unknown_piece}
use Rattle.rmp_decode.proofs.Exactness.{none_told}
use Rattle.rmp_decode.proofs.content.SlicesReadContent.variant.Goals as goal

pub returns-in-None-clause-err : goal.returns-in-None-clause-err
returns-in-None-clause-err g c = λ _ _.
    no_name_taken (bytes_of c.args.names.now) c.args.len c.as_bytes-name.result.now (g.R.Source.ahead c.args.reader.now)
    (g.R.Source.ahead c.read_slice.follows.lender-at-none) (search rules) (search rules) (sym c.in-None.ensures)

pub returns-in-None-clause-exact : goal.returns-in-None-clause-exact
returns-in-None-clause-exact g c = λ n k.
    piece_whole c.args.len (unknown_name (raw_head c.args.is_text c.args.len)) (g.R.Source.ahead c.args.reader.now)
    (g.R.Source.ahead c.read_slice.follows.lender-at-none) c.as_bytes-name.result.now _ (search rules) (search rules)
    (unknown_piece c.args.is_text c.args.len c.as_bytes-name.result.now _ c.unknown_name.ensures)

pub returns-in-Err-clause-err : goal.returns-in-Err-clause-err
returns-in-Err-clause-err g c = name_blamed (bytes_of c.args.names.now) c.args.len c.in-Err.e _ _ (g.R.Source.ahead c.args.reader.now) _
    (rw c.in-Err.is at c.read_slice.follows.holds-at-none).0 c.error_of.ensures

pub returns-in-Err-clause-exact : goal.returns-in-Err-clause-exact
returns-in-Err-clause-exact g c = piece_blamed c.args.len (unknown_name (raw_head c.args.is_text c.args.len)) c.in-Err.e _ _
    (g.R.Source.ahead c.args.reader.now) _ (rw c.in-Err.is at c.read_slice.follows.holds-at-none).0 c.error_of.ensures

pub returns-in-None-clause-fault : goal.returns-in-None-clause-fault
returns-in-None-clause-fault g c = none_told _ _ _ (search rules)

pub returns-in-Err-clause-fault : goal.returns-in-Err-clause-fault
returns-in-Err-clause-fault g c = blamed_tells c.args.len c.in-Err.e _ _ (g.R.Source.ahead c.args.reader.now) _
    (rw c.in-Err.is at c.read_slice.follows.holds-at-none).0 c.error_of.ensures
