pub mod ByItems
pub mod Lengths
pub mod Outcomes
pub mod Rooms
pub mod Rows
pub mod Sends
pub mod Steps
