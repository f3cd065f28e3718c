pub mod ReplacementLaws
pub mod Totality
pub mod Answering
pub mod ParameterLists
pub mod ExpansionLaws
pub mod ItemOrigins
pub mod ListOrigins
pub mod OriginLaws
