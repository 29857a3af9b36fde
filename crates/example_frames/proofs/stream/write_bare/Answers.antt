use Rattle.std.proofs.Common.{◌≡◌, ◌≢◌, ℕ, List, Option, Some, Result, Ok, Err, IfErr}
use Rattle.rmp_wire.specs.Msg.{Msg}
use Rattle.rmp_encode.specs.Calls.{ToVecFails}
use Rattle.rmp_encode.specs.declared.error.Error.{Error}
use Rattle.rmp_encode.specs.declared.error.Error.TheVariants as errors
use Rattle.example_frames.specs.Frames.{message_of}
use Rattle.example_frames.specs.Streams.{IsSent}
use Rattle.example_frames.specs.declared.request.Request.{Request}
use Rattle.example_frames.proofs.Differing.{only_memory}
use Rattle.example_frames.proofs.stream.write_bare.Goals as goal

refused : {V : Type 0} (r : Request) (t : Option Msg) (result : Result V Error) → t ≡ Some (message_of r) → IfErr result (ToVecFails t)
    → IfErr result (λ e. e ≢ errors.OutOfMemory → (bytes : List ℕ) → IsSent r bytes → ⊥)
refused r t (Ok v) is h = h
refused r t (Err e) is h = λ n bytes sent. only_memory r t e is h n sent.fits

pub returns-clause-refused : goal.returns-clause-refused
returns-clause-refused c = refused c.args.request.now _ c.to_vec.result (c.written_as.ensures.tree c.args.request.now) c.to_vec.ensures.err
