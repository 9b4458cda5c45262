-- What a fetch finds by the registry's parts.
pub mod Offered
pub mod Recent
