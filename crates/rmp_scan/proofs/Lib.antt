pub mod Completing
pub mod Cutting
pub mod FirstByte
pub mod Passing
pub mod Rows
pub mod Scanning
pub mod Table
pub mod Stepping
