pub mod Texts
pub mod Cuts
mod Words
mod ReadBack
pub mod HeaderWords
pub mod Ports
pub mod HeaderLines
pub mod Parts
pub mod Clients
pub mod Headers
pub mod Missing
pub mod Readers
