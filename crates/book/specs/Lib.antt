pub mod Keeping
pub mod Asking
