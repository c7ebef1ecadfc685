pub mod Translator
pub mod Replies
