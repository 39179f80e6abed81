pub mod Live
pub mod LiveSessions
