pub mod Laws
pub mod SameButAttr
pub mod Injective
pub mod Among
