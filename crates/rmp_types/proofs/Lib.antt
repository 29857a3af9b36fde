pub mod FloatReading
pub mod Placing
pub mod Reading
pub mod Sizes
pub mod Widening
