pub mod Completes
pub mod Openings
pub mod Parts
pub mod Scans
pub mod States
