pub mod RoseLevels
pub mod OwnListLevels
pub mod FrameLevels
pub mod DocLevels
