pub mod Renaming
pub mod Faults
pub mod Texts
