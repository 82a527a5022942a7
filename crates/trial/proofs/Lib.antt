pub mod Rounds
pub mod Trials
