pub mod CutLines
pub mod HeldLists
pub mod KeptNames
pub mod NumberLaws
pub mod ReadLines
pub mod RefusalNumbers
pub mod SpelledNumbers
pub mod WrittenFronts
