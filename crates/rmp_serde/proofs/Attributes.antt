-- What attributes of derived types name.
pub use Rattle.rmp_encode.proofs.Fields.{structure_no_byte}
pub use Rattle.rmp_encode.proofs.Lists.{sequence_no_byte}
pub use Rattle.rmp_encode.proofs.Wrapped.{wrapped_no_byte}
