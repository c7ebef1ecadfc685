pub mod Short
pub mod Laying
pub mod Attr
