pub mod Itags
pub mod Tags
