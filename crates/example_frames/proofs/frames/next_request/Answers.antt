use Rattle.example_frames.proofs.Differing.{same_frame, asks_that, never_wrong}
use Rattle.example_frames.proofs.frames.next_request.Goals as goal

pub returns-in-Ok-request_in-clause-back : goal.returns-in-Ok-request_in-clause-back
returns-in-Ok-request_in-clause-back c = λ asked frame rest f e.
    let same = same_frame asked frame rest c.args.bytes.now c.in-Ok.parts.0.now c.in-Ok.parts.1.now f e c.in-Ok.ensures.ok.0 in (
      c.read_as.ensures.one asked c.in-Ok-request_in.request
          (asks_that asked _ _ c.in-Ok.parts.0.now f.fits same.0 c.in-Ok-request_in.ensures.ok).0,
      same.1,
    )

pub returns-in-Err-request_in-clause-whole : goal.returns-in-Err-request_in-clause-whole
returns-in-Err-request_in-clause-whole c = λ ne asked frame rest f e within deep.
    let same = same_frame asked frame rest c.args.bytes.now c.in-Ok.parts.0.now c.in-Ok.parts.1.now f e c.in-Ok.ensures.ok.0 in
    never_wrong _ _ asked c.in-Ok.parts.0.now c.in-Err-request_in.e f.fits same.0 deep (c.read_as.ensures.reads asked f.fits f.texts) ne
    c.in-Err-request_in.ensures.err
