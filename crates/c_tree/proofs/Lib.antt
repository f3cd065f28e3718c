pub mod ConstantKinds
pub mod NodeHeights
pub mod RowCounts
pub mod StatementHeights
