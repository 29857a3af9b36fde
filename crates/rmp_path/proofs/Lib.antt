pub mod Nodes
pub mod Turning
