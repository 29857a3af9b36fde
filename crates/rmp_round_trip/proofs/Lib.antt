pub mod Evolution
pub mod RoundLaws
mod InTurn
