pub mod Differing
pub mod Requests
pub mod Sent
