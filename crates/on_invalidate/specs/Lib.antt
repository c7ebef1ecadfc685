pub mod Invalidate
