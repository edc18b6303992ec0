pub mod SoundRules
pub mod Views
mod Placed
mod Documents
pub mod Written
pub mod FirstFaults
pub mod FirstGroups
mod Places
mod Walking
mod FourKeys
