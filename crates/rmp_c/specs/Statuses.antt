-- The numbers of errors.
use Rattle.std.specs.Prelude.{ℕ}
use Rattle.rmp_decode.specs.declared.error.Error.{Error}
use Rattle.rmp_decode.specs.declared.error.Error.TheVariants.{InvalidMarkerRead, InvalidDataRead, TypeMismatch, Utf8Error, DepthLimitExceeded}

abbrev pub status_of : Error → ℕ
status_of (InvalidMarkerRead fault) = 1
status_of (InvalidDataRead fault) = 2
status_of (TypeMismatch marker) = 3
status_of (Utf8Error why) = 5
status_of DepthLimitExceeded = 6
status_of e = 9
