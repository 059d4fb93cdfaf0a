pub mod EachItem
pub mod ItemRules
pub mod LevelRules
pub mod MadeAgain
pub mod ReadWholes
pub mod Wrong
pub mod WordsRead
pub mod WrongPlans
