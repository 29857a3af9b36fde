-- What attributes of derived types name.
pub use Rattle.rmp_encode.specs.Data.{lower}
