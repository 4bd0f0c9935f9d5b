pub mod Crc
pub mod Bytes
pub mod Table
pub mod TableSum
pub mod Vectors
pub mod Laws
pub mod Method
