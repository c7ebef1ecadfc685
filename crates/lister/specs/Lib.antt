pub mod Runs
pub mod Line
pub mod Stream
pub mod Pieces
pub mod Blocks
pub mod Attr
