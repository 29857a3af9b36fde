pub mod JsonLevels
pub mod JsonRounds
pub mod DirLevels
pub mod DirRounds
