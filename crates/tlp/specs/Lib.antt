pub mod Bytes
pub mod Fields
pub mod Forbidden
pub mod Translations
