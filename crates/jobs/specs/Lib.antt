pub mod Resting
pub mod Stopped
pub mod Jobs
pub mod Sittings
pub mod Commands
pub mod Checks
