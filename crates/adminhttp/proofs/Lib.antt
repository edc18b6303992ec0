pub mod LineLemmas
pub mod HeadLemmas
pub mod FieldLemmas
pub mod SiteLemmas
pub mod RouteLemmas
pub mod BodyLemmas
pub mod RefusalTexts
pub mod Routing
pub mod Laws
mod RequestRows
pub mod RequestLineLemmas
pub mod ContentLemmas
