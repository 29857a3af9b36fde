pub mod Parts
pub mod Fields
pub mod Maps
pub mod Rounds
pub mod Leaves
pub mod MapRounds
pub mod Given
pub mod Shapes
