pub mod Causes
pub mod Verdict
pub mod Report
pub mod Page
pub mod Listed
