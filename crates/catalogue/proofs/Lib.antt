pub mod Layers
pub mod Walking
