mod BitLaws
mod ChangeLaws
mod ChoiceLaws
mod CountLaws
mod LowLaws
mod ShownLaws
