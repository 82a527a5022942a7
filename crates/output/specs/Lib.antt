pub mod Output
pub mod Taking
pub mod Showing
pub mod Worked
