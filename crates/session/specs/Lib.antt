pub mod View
pub mod Session
pub mod Rows
pub mod Laws
