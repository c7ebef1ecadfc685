pub mod Size
pub mod Range
