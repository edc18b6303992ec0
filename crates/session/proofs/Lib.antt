pub mod MarkLemmas
mod RowLemmas
