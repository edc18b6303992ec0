mod TalkRows
mod ScriptRows
mod PlayedRows
pub mod Removing
pub mod Lines
pub mod Saying
pub mod Events
pub mod Takings
pub mod Ends
pub mod Clauses
pub mod Streaming
pub mod SoFar
mod Telling
pub mod Escaping
pub mod Reading
mod Numbering
pub mod TextWriting
pub mod Running
pub mod Playing
pub mod Stopping
pub mod Exporting
pub mod ExportLemmas
pub mod Checking
mod Reasons
pub mod Sifting
pub mod Refusals
mod Policies
