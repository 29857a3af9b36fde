pub mod RoseLevels
pub mod RoseRounds
pub mod OwnListLevels
pub mod OwnListRounds
pub mod FrameLevels
pub mod FrameRounds
pub mod DocLevels
pub mod DocRounds
