pub mod Basics
pub mod Bits
pub mod Sets
pub mod Relations
pub mod Walking
