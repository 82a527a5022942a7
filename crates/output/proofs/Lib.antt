pub mod Shown
pub mod Modules
pub mod Worked
