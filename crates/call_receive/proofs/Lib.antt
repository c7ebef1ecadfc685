pub mod Laws
pub mod SameButAttr
