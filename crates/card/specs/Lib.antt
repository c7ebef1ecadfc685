pub mod Call
pub mod Numbers
pub mod Sound
pub mod Attr
