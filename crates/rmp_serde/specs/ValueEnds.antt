-- A read of a value meets an end only inside of a message.
use Rattle.std.specs.Prelude.{Bool}
use Rattle.std.proofs.Common.{refl}
use Rattle.rmp_decode.specs.Exact.{UnlessFault}
use Rattle.rmp_decode.specs.Refuse.{RefusedFor}
use Rattle.rmp_decode.specs.declared.error.Error.TheVariants as errors
use Rattle.rmp_ends.specs.EndsInside.{AlwaysInside}
use Rattle.rmp_ends.specs.LeafEnds.{neither}
use Rattle.rmp_ends.specs.RefusalEnds.{WrongInside, wrong_inside, refusal_inside}
use Rattle.rmp_serde.specs.Read.{ItemsUtf8}
use Rattle.rmp_serde.specs.Refuse.{UnreadFor}

-- what is wrong at the front
pub unread_inside : (strict : Bool) → WrongInside (UnreadFor strict)
unread_inside strict room (errors.InvalidMarkerRead f) xs own end w = wrong_inside strict room (errors.InvalidMarkerRead f) xs own end w
unread_inside strict room (errors.InvalidDataRead f) xs own end w = wrong_inside strict room (errors.InvalidDataRead f) xs own end w
unread_inside strict room (errors.TypeMismatch m) xs own end w = absurd (neither end)
unread_inside strict room errors.OutOfRange xs own end w = absurd (neither end)
unread_inside strict room (errors.LengthMismatch n) xs own end w = absurd (neither end)
unread_inside strict room (errors.Uncategorized n) xs own end w = absurd (neither end)
unread_inside strict room (errors.Syntax n) xs own end w = absurd (neither end)
unread_inside strict room (errors.Utf8Error n) xs own end w = absurd (neither end)
unread_inside strict room errors.DepthLimitExceeded xs own end w = absurd (neither end)
unread_inside strict room errors.OutOfMemory xs own end w = absurd (neither end)
unread_inside strict room errors.NotCanonical xs own end w = absurd (neither end)

pub value_inside : AlwaysInside (λ s before after known e. UnlessFault before after e (RefusedFor s.strict (UnreadFor s.strict) ItemsUtf8 s.room e known))
unfolding RefusedFor
value_inside s n xs e own r end = refusal_inside s.strict (UnreadFor s.strict) ItemsUtf8 (unread_inside s.strict) s.room e xs own end (r.0 refl)
