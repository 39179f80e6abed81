pub mod Uptimes
pub mod Serving
