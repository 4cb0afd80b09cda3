pub mod Windows
pub mod RowByRow
