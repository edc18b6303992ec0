pub mod Lines
pub mod Proxied
pub mod Behind
pub mod Refusals
