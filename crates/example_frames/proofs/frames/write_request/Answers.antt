use Rattle.std.proofs.Common.{rules, ◌≡◌, ◌++◌, length, ◌<◌, ◌^◌}
use Rattle.std.specs.Int.{w32, to_be_bytes}
use Rattle.example_frames.proofs.Differing.{is_written, only_memory}
use Rattle.example_frames.proofs.frames.write_request.Goals as goal

pub returns-clause-written : goal.returns-clause-written
returns-clause-written c =
    let r = c.args.request.now in
    let is : c.extend_from_slice-2.new.self.items ≡ to_be_bytes w32 (length c.in-Ok.body.items) ++ c.in-Ok.body.items = search rules in
    let short : length c.in-Ok.body.items < 2 ^ 32 = search rules in
    is_written r _ c.in-Ok.body.items _ (c.written_as.ensures.tree r) c.in-Ok.ensures.bytes (c.written_as.ensures.texts r c.in-Ok.ensures.value)
    short is

pub returns-in-Err-clause-refused : goal.returns-in-Err-clause-refused
returns-in-Err-clause-refused c = λ n frame is. only_memory c.args.request.now _ _ (c.written_as.ensures.tree c.args.request.now) c.in-Err.ensures.err n is.fits
