pub mod NestedLevels
pub mod TreeLevels
pub mod TermLevels
pub mod TaskLevels
