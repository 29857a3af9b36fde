pub mod Answers
pub mod Heads
pub mod Pieces
pub mod Puts
pub mod Skips
