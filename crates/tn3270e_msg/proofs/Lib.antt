pub mod Texts
pub mod Sets
pub mod Headers
pub mod Letters
pub mod Hearings
pub mod Agreement
