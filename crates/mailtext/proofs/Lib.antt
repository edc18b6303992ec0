-- The lemmas of mailtext.
pub mod LineLemmas
pub mod PartLemmas
pub mod ReadingLemmas
pub mod StreamLemmas
pub mod Writing
mod Rows
