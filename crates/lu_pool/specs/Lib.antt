pub mod Pool
pub mod Asking
pub mod Reading
pub mod Messages
pub mod Holders
pub mod HolderLaws
pub mod Faults
