pub mod Decoding
pub mod Walking
pub mod Chain
