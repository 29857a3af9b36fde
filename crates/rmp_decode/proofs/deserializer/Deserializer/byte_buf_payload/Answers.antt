use Rattle.std.proofs.Common.{ℕ, Bool, false, Result, Ok, Err, Vec, Global}
use Rattle.rmp_wire.specs.declared.source.Source.{Ghosts}
use Rattle.rmp_decode.specs.Buffers.{a_buffer}
use Rattle.rmp_decode.specs.Kinds.{raw_head}
use Rattle.rmp_decode.specs.Payloads.{TakesPayload}
use Rattle.rmp_decode.specs.Pieces.{PullsPayload, Copies}
use Rattle.rmp_decode.specs.declared.error.Error.{Error}
use Rattle.rmp_decode.proofs.Buffers.{raw_buffer}
use Rattle.rmp_decode.proofs.ContentErrors.{raw_len, raw_wanted, buffer_wanted}
use Rattle.rmp_decode.proofs.Payloads.{payload_read, payload_short, raw_has, raw_message, message_asked}
use Rattle.rmp_decode.proofs.deserializer.Deserializer.byte_buf_payload.Goals as goal

-- bytes that were copied are the payload of a buffer
copied : {R : Type 0} (g : Ghosts R) (t : Bool) (n : ℕ) (old new : R) (r : Result (Vec ℕ Global) Error) → PullsPayload g n false (Copies n) old new r
    → TakesPayload g a_buffer (raw_head t n) old new r
copied g t n old new (Ok v) p =
    let o = p.ok in
    payload_read g _ _ _ _ _ (raw_len t n) _ _ p (record {
      bytes = v.items;
      long = rw (raw_len t n) o.0;
      small = o.1;
      taken = o.2;
      value = rw (raw_message t n v.items) (raw_buffer t v.items);
    })
copied g t n old new (Err e) p = payload_short g _ _ _ _ _ (raw_len t n) _ p

pub returns : goal.returns
returns g c = λ t. rw c.is_err-self.ensures.value
    (message_asked g.R.Source _ c.args.self.now _ (raw_has t c.args.len) _ (buffer_wanted t c.args.len) (raw_wanted t c.args.len) _
    (copied g.R.Source t _ _ _ _ c.owned-read.ensures))
