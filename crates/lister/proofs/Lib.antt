pub mod Cuts
pub mod Calls
pub mod Blocks
pub mod Injective
pub mod Spelled
pub mod Feeds
pub mod Holds
pub mod Attr
