pub mod Parts
pub mod Fields
pub mod Maps
pub mod Queues
