pub mod Contents
pub mod Endpoints
pub mod Keeping
pub mod Readings
pub mod Replies
pub mod Requests
