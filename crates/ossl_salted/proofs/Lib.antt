pub mod Bytes
pub mod Courses
pub mod Flows
pub mod Returns
pub mod RoundTrip
