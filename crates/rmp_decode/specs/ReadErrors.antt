-- The errors of reading that come from the wire.
use Rattle.rmp_wire.specs.declared.error.ValueReadError.{ValueReadError}
use Rattle.rmp_wire.specs.declared.error.ValueReadError.TheVariants as wire
use Rattle.rmp_decode.specs.declared.deserializer.heads.HeadError.{HeadError}
use Rattle.rmp_decode.specs.declared.deserializer.heads.HeadError.TheVariants as heads
use Rattle.rmp_decode.specs.declared.error.Error.{Error}
use Rattle.rmp_decode.specs.declared.error.Error.TheVariants as errors

-- the error of the same name
abbrev pub error_of : ValueReadError → Error
error_of (wire.InvalidMarkerRead fault) = errors.InvalidMarkerRead fault
error_of (wire.InvalidDataRead fault) = errors.InvalidDataRead fault
error_of (wire.TypeMismatch marker) = errors.TypeMismatch marker

-- the reason of the same name why no head could be taken
abbrev pub of_wire : ValueReadError → HeadError
of_wire (wire.InvalidMarkerRead fault) = heads.InvalidMarkerRead fault
of_wire (wire.InvalidDataRead fault) = heads.InvalidDataRead fault
of_wire (wire.TypeMismatch marker) = heads.TypeMismatch marker

abbrev pub head_error_of : HeadError → Error
head_error_of (heads.InvalidMarkerRead fault) = errors.InvalidMarkerRead fault
head_error_of (heads.InvalidDataRead fault) = errors.InvalidDataRead fault
head_error_of (heads.TypeMismatch marker) = errors.TypeMismatch marker
head_error_of heads.NotCanonical = errors.NotCanonical
