pub mod Pairs
pub mod Rounds
pub mod Tables
pub mod Laws
pub mod Cases
pub mod Texts
