pub mod Streams
pub mod Vectors
