pub mod Topics
pub mod Words
pub mod Refusals
pub mod Helps
pub mod ClapCommands
