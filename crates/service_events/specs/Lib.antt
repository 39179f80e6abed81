pub mod Notices
pub mod Metrics
pub mod Scrapes
pub mod Timing
