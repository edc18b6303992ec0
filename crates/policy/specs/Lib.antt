pub mod Index
pub mod Lane
pub mod Policy
pub mod WrittenText
pub mod PolicyText
pub mod FirstFault
pub mod Places
