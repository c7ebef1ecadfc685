pub mod Cases
pub mod Refused
pub mod Injective
pub mod Tables
pub mod Invariant
pub mod Completed
pub mod Computed
pub mod Attr
