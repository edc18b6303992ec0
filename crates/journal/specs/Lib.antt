pub mod AdminLines
pub mod Guards
pub mod Lines
pub mod Counts
pub mod Sessions
pub mod MessageIds
pub mod Settings
pub mod PolicyNames
