pub mod LuNames
mod Replies
pub mod AnswerWords
pub mod AskedKeys
pub mod SessionTexts
pub mod Exchanging
pub mod PlainForms
