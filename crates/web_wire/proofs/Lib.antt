pub mod OpenEffects
pub mod Messages
pub mod SocketLemmas
pub mod Steps
pub mod HeadLemmas
