-- What the contracts of the program cite.
pub mod Message
pub mod Aes
pub mod Values
pub mod Bytes
pub mod Fed
pub mod Streams
pub mod FedLaws
pub mod StreamLaws
pub mod Contexts
pub mod Operations
