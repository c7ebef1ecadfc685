pub mod Reads
pub mod Translations
pub mod Completions
