pub mod Left
pub mod Written
