pub mod JsonLevels
pub mod DirLevels
