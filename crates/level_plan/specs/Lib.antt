pub mod Drafts
pub mod Fields
pub mod Items
pub mod Limits
pub mod Plans
