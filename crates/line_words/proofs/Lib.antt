pub mod FieldLaws
pub mod Growth
pub mod PieceLaws
pub mod Positions
pub mod RowLaws
pub mod Spaces
pub mod WordSplits
