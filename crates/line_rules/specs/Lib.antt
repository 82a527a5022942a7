pub mod Line
pub mod Drawing
pub mod Swapping
pub mod Time
pub mod Cases
pub mod Texts
