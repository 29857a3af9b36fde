pub mod HeadBytes
pub mod Items
pub mod PathTexts
pub mod Pieces
pub mod Puts
pub mod Respelled
pub mod Statuses
