pub mod Crowds
pub mod Links
pub mod Pages
pub mod Limits
pub mod Networks
